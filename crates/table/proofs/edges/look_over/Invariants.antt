-- `edges::look_over`: what is counted is at most as much as the edges passed, so that the counts fit, and the look shows what the edges below e are.
-- Assumes nothing.
use Prim.Native.Nat.{◌≤◌}
use Rattle.table.specs.inner.Looks.{Shows}
use Rattle.table.proofs.edges.look_over.Given as goal

abbrev pub invariant-loop-e : goal.invariant-loop-e
invariant-loop-e l = record {
  falls : l.falls ≤ l.e;
  astray : l.astray ≤ l.e;
  shown : Shows l.top l.from l.to l.marks l.e l.astray l.last l.union l.falls;
}
