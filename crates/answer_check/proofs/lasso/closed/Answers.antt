-- `lasso::closed` meets its contract: no edge, an end elsewhere, or the knot again. Assumes nothing.
use Rattle.answer_check.proofs.Lassos.{turn_closed}
use Rattle.answer_check.proofs.lasso.closed.Goals as goal

pub returns : goal.returns
returns c = λ g K T. turn_closed g _ _ _ K T c.if-count-eq0.false c.if-end-knot.false
