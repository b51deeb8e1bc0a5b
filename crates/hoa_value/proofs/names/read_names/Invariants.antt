-- What `names::read_names` has read so far are that many names, each in its place. Assumes nothing.
use Rattle.hoa_value.proofs.Naming.{NamesSoFar}
use Rattle.hoa_value.proofs.names.read_names.Given as goal

abbrev pub invariant-loop-i : goal.invariant-loop-i
invariant-loop-i l = NamesSoFar l.text l.at l.count l.names l.next l.i
