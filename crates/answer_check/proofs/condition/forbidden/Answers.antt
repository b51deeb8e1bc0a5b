-- `condition::forbidden` meets its contract: each need is one of a pair whose marks are dealt out before. Assumes nothing.
use Rattle.std.proofs.Common.{arith, length-take}
use Rattle.std.proofs.lemmas.Grind.{common_steps}
use Rattle.marks.specs.Mark.{width}
use Rattle.answer_check.proofs.Conditions.{dealt_within}
use Rattle.answer_check.proofs.condition.forbidden.Goals as goal

pub overflow_add-mark : goal.overflow_add-mark
overflow_add-mark c =
    let i = c.loop-need.need-index in
    let least = dealt_within c.args.needs i c.args.pair width (omega (arith, length-take c.args.pair c.args.needs)) c.requires.pair_bound in
    grind (arith, common_steps)
