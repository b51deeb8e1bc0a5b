-- `condition::meets` meets its contract: kind by kind. Assumes nothing.
use Rattle.answer_check.proofs.Conditions.{by_kind, still, buchi_meets}
use Rattle.answer_check.proofs.condition.meets.Goals as goal

pub returns-in-Buchi : goal.returns-in-Buchi
returns-in-Buchi c =
    let a = c.args in
    let is = c.in-Buchi.is in
    by_kind a.needs a.union a.pair c.covers.result _ _ is
    (buchi_meets _ a.needs a.union a.pair c.covers.result c.first_marks.result (still a.needs _ _ is c.requires) c.first_marks.ensures c.covers.ensures)
