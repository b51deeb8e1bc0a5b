-- `lift_table`: the next state's row begins here; the next place is behind what stands for the states below it; and they are written. Assumes nothing.
use Rattle.std.proofs.Common.{◌≡◌, ◌*◌}
use Rattle.table.specs.Table.{lent}
use Rattle.table.proofs.Rows.{Begins}
use Rattle.climbing.specs.Place.{row_start}
use Rattle.climbing.specs.Source.{source}
use Rattle.lifting.specs.inner.{StatesWritten}
use Rattle.lifting.proofs.lift_table.Given as goal

abbrev pub invariant-loop-state : goal.invariant-loop-state
invariant-loop-state l =
    let lifted = source (lent l.shape.states 0 l.from l.to l.marks) l.shape.k in
    record {
      begins : Begins l.from l.state l.first;
      placed : l.place ≡ row_start lifted l.state * l.shape.levels;
      written : StatesWritten lifted l.shape.k l.state l.initial.leaves l.initial.arrives l.initial.bears l.leaves l.arrives l.bears;
    }
