-- `edges::first_fault`: the edges below e are passed (`Passed`). Assumes nothing.
use Rattle.table.specs.Table.{lent}
use Rattle.table.proofs.Faults.{Passed}
use Rattle.table.proofs.edges.first_fault.Given as goal

abbrev pub invariant-loop-e : goal.invariant-loop-e
invariant-loop-e l = Passed (lent l.n 0 l.from l.to l.marks) l.used l.e l.before
