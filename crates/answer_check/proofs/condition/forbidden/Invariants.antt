-- After i needs it has the marks that are dealt out before pair i. Assumes nothing.
use Rattle.std.proofs.Common.{◌≡◌}
use Rattle.table.specs.Condition.{dealt}
use Rattle.answer_check.proofs.condition.forbidden.Given as goal

abbrev pub invariant-loop-need : goal.invariant-loop-need
invariant-loop-need l = l.mark ≡ dealt l.fn.needs l.need-index
