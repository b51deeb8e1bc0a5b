use Prim.Native.Nat.{◌-◌}
use lib.ListN.{length}
use Rattle.hoa_entry.proofs.Reading.{SigSoFar}
use Rattle.hoa_entry.proofs.sig.read_sig.Given as goal

abbrev pub invariant-loop-more : goal.invariant-loop-more
invariant-loop-more l = SigSoFar l.text l.at l.c l.before l.place l.marks

abbrev pub decreases-loop-more : goal.decreases-loop-more
decreases-loop-more l = length l.text - l.place
