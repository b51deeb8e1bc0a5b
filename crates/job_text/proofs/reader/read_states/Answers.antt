-- `reader::read_states` meets its contract: the lines' faults are the head's, and the rest is what `read_counts` finds. Assumes nothing.
use Rattle.std.proofs.lemmas.Result.{err_from_is_err_and}
use Rattle.job_text.proofs.Heads.{start_line_lost, kind_line_lost, state_lines_go}
use Rattle.job_text.proofs.reader.read_states.Goals as goal

pub returns-in_err-start : goal.returns-in_err-start
returns-in_err-start c =
    let a = c.args in
    let r = c.from_residual-in_err-start in
    let e = err_from_is_err_and r.result r.ensures.1 in
    rw (e.1, e.2) (start_line_lost a.text.now a.form a.first _ _ c.in_ok-states.ensures.read _ c.in_err-start.ensures.read)

pub returns-in_err-kind : goal.returns-in_err-kind
returns-in_err-kind c =
    let a = c.args in
    let r = c.from_residual-in_err-kind in
    let e = err_from_is_err_and r.result r.ensures.1 in
    rw (e.1, e.2) (kind_line_lost a.text.now a.form a.first _ _ c.in_ok-states.ensures.read _ _ c.in_ok-start.ensures.read _ c.in_err-kind.ensures.read)

pub returns : goal.returns
returns c =
    let a = c.args in
    rw (state_lines_go a.text.now a.form a.first _ _ c.in_ok-states.ensures.read _ _ c.in_ok-start.ensures.read _ _ c.in_ok-kind.ensures.read) c.read_counts.ensures
