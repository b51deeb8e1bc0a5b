-- `row::run`: what is left of the run is the run of the part from edge i on. Assumes nothing.
use Rattle.std.proofs.Common.{◌≡◌, ◌+◌, drop}
use Rattle.table.specs.Row.{run}
use Rattle.table.proofs.row.run.Given as goal

abbrev pub invariant-loop-i : goal.invariant-loop-i
invariant-loop-i l = run l.state l.part ≡ l.i + run l.state (drop l.i l.part)
