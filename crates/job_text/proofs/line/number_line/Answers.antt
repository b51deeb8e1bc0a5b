-- `line::number_line` meets its contract: 21 where the line is not found, then 22 by the number's reader, then 23 by the limit. Assumes nothing.
use Rattle.std.proofs.lemmas.Result.{err_from_is_err_and}
use borrow.Author.Tests.{lt-ltb, le-ltb}
use Rattle.job_values.proofs.Edges.{newline_digit}
use Rattle.job_text.specs.Value.{number}
use Rattle.job_text.specs.Job.{above}
use Rattle.job_text.proofs.Lines.{line_above, line_found_says, number_line_lost, number_line_got}
use Rattle.job_text.proofs.line.number_line.Goals as goal

pub number_field-field-requires-clause-stop_value : goal.number_field-field-requires-clause-stop_value
number_field-field-requires-clause-stop_value c = newline_digit

pub returns-in_err-run-clause-read : goal.returns-in_err-run-clause-read
returns-in_err-run-clause-read c =
    let a = c.args in
    let r = c.from_residual-in_err-run in
    let e = err_from_is_err_and r.result r.ensures.1 in
    rw (e.1, e.2) (number_line_lost a.text.now a.start a.key.now c.in_ok-span.span c.in_ok-span.ensures (above a.most) c.number_field-field.result c.number_field-field.ensures _ c.in_err-run.ensures)

pub returns-then-most-run-clause-read : goal.returns-then-most-run-clause-read
returns-then-most-run-clause-read c =
    let a = c.args in
    let got = number_line_got a.text.now a.start a.key.now c.in_ok-span.span c.in_ok-span.ensures c.number_field-field.result c.number_field-field.ensures _ _ c.in_ok-run.ensures in
    rw c.fault_at.ensures
    (line_above a.text.now a.start a.key.now c.in_ok-span.span c.in_ok-span.ensures number (above a.most) _ got.0 (lt-ltb _ _ c.if-most-run.true))

pub returns-clause-read : goal.returns-clause-read
returns-clause-read c =
    let a = c.args in
    let got = number_line_got a.text.now a.start a.key.now c.in_ok-span.span c.in_ok-span.ensures c.number_field-field.result c.number_field-field.ensures _ _ c.in_ok-run.ensures in
    rw got.1
    (line_found_says a.text.now a.start a.key.now c.in_ok-span.span c.in_ok-span.ensures number (above a.most) _ got.0 (le-ltb _ _ c.if-most-run.false))
