-- `lift_row`: the first levels are written, and the next place is behind them. Assumes nothing.
use Rattle.std.proofs.Common.{◌≡◌, ◌+◌, ◌*◌, length}
use Rattle.lifting.specs.inner.{RowWritten}
use Rattle.lifting.proofs.lift_row.Given as goal

abbrev pub invariant-loop-level : goal.invariant-loop-level
invariant-loop-level l = record {
  place : l.next ≡ l.at + l.level * length l.to;
  written : RowWritten l.shape.k l.state l.level l.at l.to l.marks l.initial.leaves l.initial.arrives l.initial.bears l.leaves l.arrives l.bears;
}
