-- `value::list_needs` meets its contract: the fields passed stand in the first cells, and the list is lost where the first of its fields is. Assumes nothing.
use Prim.Native.Nat.{◌-◌}
use Rattle.job_values.proofs.Needs.{SoFar}
use Rattle.job_values.proofs.value.list_needs.Given as goal

abbrev pub invariant-loop-i : goal.invariant-loop-i
invariant-loop-i l = SoFar l.text l.at l.end (l.count - 1) l.needs l.next l.i
