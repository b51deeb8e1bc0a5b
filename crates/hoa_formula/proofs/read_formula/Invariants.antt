-- What `read_formula` has read so far leaves the rest of the run as it is, and what is left of the text gets shorter. Assumes nothing.
use Prim.Native.Nat.{◌-◌}
use lib.ListN.{length}
use Rattle.hoa_formula.proofs.Readings.{Reading}
use Rattle.hoa_formula.proofs.read_formula.Given as goal

abbrev pub invariant-loop-f : goal.invariant-loop-f
invariant-loop-f l = Reading l.text l.at l.c l.formula l.needs l.here

abbrev pub decreases-loop-f : goal.decreases-loop-f
decreases-loop-f l = length l.text - l.here
