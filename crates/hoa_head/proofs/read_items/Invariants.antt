-- What `read_items` has read so far leaves the rest of the run as it is, and what is left of the text gets shorter. Assumes nothing.
use Prim.Native.Nat.{◌-◌}
use lib.ListN.{length}
use Rattle.hoa_head.proofs.Items.{Reading}
use Rattle.hoa_head.proofs.read_items.Given as goal

abbrev pub invariant-loop-further : goal.invariant-loop-further
invariant-loop-further l = Reading l.text l.at l.read

abbrev pub decreases-loop-further : goal.decreases-loop-further
decreases-loop-further l = length l.text - l.read.next
