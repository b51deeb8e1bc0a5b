-- What is passed leaves the gap's end where it is; the measure is what is left of the text. Assumes nothing.
use mathlib.Core.Path.{◌≡◌}
use Prim.Native.Nat.{◌-◌}
use lib.ListN.{length}
use Rattle.hoa_tokens.specs.inner.Reads.{gap_from}
use Rattle.hoa_tokens.proofs.gap.skip.Given as goal

abbrev pub invariant-loop-next : goal.invariant-loop-next
invariant-loop-next l = gap_from l.text l.at 0 ≡ gap_from l.text l.i 0

abbrev pub decreases-loop-next : goal.decreases-loop-next
decreases-loop-next l = length l.text - l.i
