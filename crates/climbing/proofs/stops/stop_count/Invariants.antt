-- `stop_count`: the next state's row begins at `first`, and the stop states below the state are counted. Assumes nothing.
use Rattle.std.proofs.Common.{◌≡◌}
use Rattle.table.proofs.Rows.{Begins}
use Rattle.climbing.specs.Source.{stops}
use Rattle.climbing.proofs.stops.stop_count.Given as goal

abbrev pub invariant-loop-state : goal.invariant-loop-state
invariant-loop-state l = record { begins : Begins l.from l.state l.first; counted : l.count ≡ stops l.from l.state }
