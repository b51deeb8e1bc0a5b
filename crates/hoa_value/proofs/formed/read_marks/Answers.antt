-- `formed::read_marks` meets its contract: another token than an INT is refused (`marks_stop`), one above the limit (`marks_many`), a formula that is
-- refused (`formula_stops`) or too short (`formula_short`); else an item may begin (`formula_whole`). Assumes nothing.
use Rattle.std.proofs.lemmas.Result.{err_from_is_err_and}
use Rattle.hoa_value.proofs.Forms.{formula_short, formula_stops, formula_whole, marks_many, marks_stop}
use Rattle.hoa_value.proofs.formed.read_marks.Goals as goal

pub returns-in_err-marks : goal.returns-in_err-marks
returns-in_err-marks c =
    let p = err_from_is_err_and c.from_residual.result c.from_residual.ensures.1 in
    rw (p.1, p.2) (marks_stop _ _ _ c.in_err-marks.ensures c.requires)

pub returns-then-marks-gt-MOST_MARKS : goal.returns-then-marks-gt-MOST_MARKS
returns-then-marks-gt-MOST_MARKS c = marks_many _ _ _ c.in_ok-marks.ensures c.if-marks-gt-MOST_MARKS.true

pub returns-in_err-condition : goal.returns-in_err-condition
returns-in_err-condition c =
    let p = err_from_is_err_and c.from_residual-in_err-condition.result c.from_residual-in_err-condition.ensures.1 in
    rw (p.1, p.2) (formula_stops _ _ _ c.in_ok-marks.ensures c.if-marks-gt-MOST_MARKS.false _ c.in_err-condition.ensures)

pub returns-in-Standard : goal.returns-in-Standard
returns-in-Standard c =
    formula_whole _ _ _ c.in_ok-marks.ensures c.if-marks-gt-MOST_MARKS.false _ _ _ (rw c.in-Standard.is at c.in_ok-condition.ensures)

pub returns-in-Short : goal.returns-in-Short
returns-in-Short c =
    rw c.misplaced.ensures
    (formula_short _ _ _ c.in_ok-marks.ensures c.if-marks-gt-MOST_MARKS.false _ _ (rw c.in-Short.is at c.in_ok-condition.ensures) c.look.ensures)
