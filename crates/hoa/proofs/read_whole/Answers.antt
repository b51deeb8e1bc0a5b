-- `read_whole` meets its contract: the header is refused, or the rows behind it are, or both are read (`head_refused`, `head_read`). Assumes nothing.
use Rattle.std.proofs.lemmas.Result.{err_from_is_err_and}
use Rattle.hoa.proofs.Returning.{or_zero, head_refused, head_read}
use Rattle.hoa.proofs.read_whole.Goals as goal

pub returns-in_err-head : goal.returns-in_err-head
returns-in_err-head c =
    let p = err_from_is_err_and c.from_residual.result c.from_residual.ensures.1 in
    rw (p.1, p.2) (head_refused c.args.text.now c.in_err-head.was c.read_head.ensures)

pub returns-in_err-rows : goal.returns-in_err-rows
returns-in_err-rows c =
    let p = err_from_is_err_and c.from_residual-in_err-rows.result c.from_residual-in_err-rows.ensures.1 in
    rw (p.1, p.2) (head_read c.args.text.now c.in_ok-head.was c.read_head.ensures c.limits_of.ensures (rw c.in_err-rows.was at c.read_rows.ensures))

pub returns : goal.returns
returns c =
    rw (c.unwrap_or.ensures, or_zero)
    (head_read c.args.text.now c.in_ok-head.was c.read_head.ensures c.limits_of.ensures (rw c.in_ok-rows.was at c.read_rows.ensures))
