-- `row::read_row` meets its contract: the number, the name and the sig, one after the other. Assumes nothing.
use Rattle.std.proofs.lemmas.Result.{err_from_is_err_and}
use Rattle.hoa_entry.proofs.Reading.{row_refused, row_sig_refused, row_there}
use Rattle.hoa_entry.proofs.row.read_row.Goals as goal

pub returns-in_err-row : goal.returns-in_err-row
returns-in_err-row c =
    let a = c.args in
    let p = err_from_is_err_and c.from_residual.result c.from_residual.ensures.1 in
    rw (p.1, p.2)
    (row_refused a.limits a.text.now a.at a.firsts.now c.in_err-row.was c.read_number.ensures)

pub returns-in_err-sig : goal.returns-in_err-sig
returns-in_err-sig c =
    let a = c.args in
    let p = err_from_is_err_and c.from_residual-in_err-sig.result c.from_residual-in_err-sig.ensures.1 in
    rw (p.1, p.2)
    (row_sig_refused a.limits a.text.now a.at a.firsts.now c.in_ok-row.was c.read_number.ensures c.skip_name-named.ensures c.in_err-sig.was c.read_row_sig.ensures)

pub returns : goal.returns
returns c =
    let a = c.args in
    row_there a.limits a.text.now a.at a.firsts.now c.in_ok-row.was
    c.read_number.ensures c.skip_name-named.ensures
    c.in_ok-sig.was c.read_row_sig.ensures
