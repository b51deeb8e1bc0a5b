-- What `hint::pass_hints` has passed over so far leaves the rest of the run as it is, and what is left of the text gets shorter. Assumes nothing.
use Prim.Native.Nat.{◌-◌}
use lib.ListN.{length}
use Rattle.hoa_value.proofs.Passing.{SoFar}
use Rattle.hoa_value.proofs.hint.pass_hints.Given as goal

abbrev pub invariant-loop-spot : goal.invariant-loop-spot
invariant-loop-spot l = SoFar l.text l.at l.ints l.texts l.next

abbrev pub decreases-loop-spot : goal.decreases-loop-spot
decreases-loop-spot l = length l.text - l.next
