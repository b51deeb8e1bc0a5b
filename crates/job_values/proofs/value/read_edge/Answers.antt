-- `value::read_edge` meets its contract: the edge is lost where the first of its fields is, and else it says what they say. Assumes nothing.
use Rattle.std.proofs.lemmas.Result.{err_from_is_err_and}
use Rattle.job_values.proofs.Edges.{comma_digit, from_lost, to_within, to_lost, marks_within, marks_lost, edge_got}
use Rattle.job_values.proofs.value.read_edge.Goals as goal

pub number_field-requires : goal.number_field-requires
number_field-requires c = record { within = c.requires; stop_value = comma_digit }

pub returns-in_err-from : goal.returns-in_err-from
returns-in_err-from c =
    let a = c.args in
    let e = err_from_is_err_and c.from_residual.result c.from_residual.ensures.1 in
    rw (e.1, e.2) (from_lost a.text.now a.at a.end c.requires _ c.in_err-from.ensures)

pub number_field-requires-2 : goal.number_field-requires-2
number_field-requires-2 c =
    let a = c.args in
    record { within = to_within a.text.now a.at a.end c.requires _ _ c.in_ok-from.ensures; stop_value = comma_digit }

pub returns-in_err-to : goal.returns-in_err-to
returns-in_err-to c =
    let a = c.args in
    let r = c.from_residual-in_err-to in
    let e = err_from_is_err_and r.result r.ensures.1 in
    rw (e.1, e.2) (to_lost a.text.now a.at a.end c.requires _ _ c.in_ok-from.ensures _ c.in_err-to.ensures)

pub marks_field-requires : goal.marks_field-requires
marks_field-requires c =
    let a = c.args in
    marks_within a.text.now a.at a.end c.requires _ _ c.in_ok-from.ensures _ _ c.in_ok-to.ensures

pub returns-in_err-marks : goal.returns-in_err-marks
returns-in_err-marks c =
    let a = c.args in
    let r = c.from_residual-in_err-marks in
    let e = err_from_is_err_and r.result r.ensures.1 in
    rw (e.1, e.2) (marks_lost a.text.now a.at a.end c.requires _ _ c.in_ok-from.ensures _ _ c.in_ok-to.ensures _ c.in_err-marks.ensures)

pub returns : goal.returns
returns c =
    let a = c.args in
    edge_got a.text.now a.at a.end c.requires _ _ c.in_ok-from.ensures _ _ c.in_ok-to.ensures _ _ c.in_ok-marks.ensures
