-- The gap from `at` on is the gap from i on with `depth` comments open; the measure is what is left of the text. Assumes nothing.
use mathlib.Core.Path.{◌≡◌}
use Prim.Native.Nat.{◌+◌, ◌-◌, ◌≤◌}
use lib.ListN.{length}
use Rattle.hoa_tokens.specs.inner.Reads.{gap_from}
use Rattle.hoa_tokens.proofs.gap.comment_end.Given as goal

abbrev pub invariant-loop-depth : goal.invariant-loop-depth
invariant-loop-depth l = (l.at ≤ l.i) × (l.depth ≤ l.i + 1) × (gap_from l.text l.at 1 ≡ gap_from l.text l.i l.depth)

abbrev pub decreases-loop-depth : goal.decreases-loop-depth
decreases-loop-depth l = length l.text - l.i
