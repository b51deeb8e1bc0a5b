-- The loops of `factor` and `level`: `factor` flips its truth value at each `!` (`Flips`), `level` joins factors (`Joins`). The measure of the cycle is the number
-- of levels that may still open, twice; `level` stands one above `factor`. Assumes nothing.
use Rattle.std.proofs.Common.{◌+◌, ◌-◌, ◌*◌, length}
use Rattle.hoa_label.specs.Label.{most_levels}
use Rattle.hoa_label.proofs.Runs.{Flips, Joins}
use Rattle.hoa_label.proofs.+factor_level.Given as goal

abbrev pub decreases-factor : goal.decreases-factor
decreases-factor l = (most_levels - l.depth) * 2

abbrev pub decreases-level : goal.decreases-level
decreases-level l = (most_levels - l.depth) * 2 + 1

abbrev pub invariant-factor-loop-flipped : goal.invariant-factor-loop-flipped
invariant-factor-loop-flipped l = Flips l.text l.a l.at l.depth l.flipped l.from

abbrev pub decreases-factor-loop-flipped : goal.decreases-factor-loop-flipped
decreases-factor-loop-flipped l = length l.text - l.from

abbrev pub invariant-level-loop-read : goal.invariant-level-loop-read
invariant-level-loop-read l = Joins l.text l.a l.at l.depth l.ors l.ands l.from

abbrev pub decreases-level-loop-read : goal.decreases-level-loop-read
decreases-level-loop-read l = length l.text - l.from
