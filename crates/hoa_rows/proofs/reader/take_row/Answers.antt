-- `reader::take_row` meets its contract: a row that is read begins (`row_turned`). Assumes nothing.
use Rattle.std.proofs.lemmas.Result.{err_from_is_err_and}
use native.Mathlib.Omega.{arith}
use Rattle.hoa_rows.proofs.Turning.{row_turned_wrong, row_room, row_turned}
use Rattle.hoa_rows.proofs.reader.take_row.Goals as goal

pub begin_row-requires : goal.begin_row-requires
begin_row-requires c =
    let a = c.args in
    row_room a.limits a.text.now a.at a.rows.now c.requires (omega (arith, c.well_formed)) c.in_ok-row.was c.read_row.ensures

pub returns-in_err-row : goal.returns-in_err-row
returns-in_err-row c =
    let a = c.args in
    let p = err_from_is_err_and c.from_residual.result c.from_residual.ensures.1 in
    rw (p.1, p.2) (row_turned_wrong a.limits a.text.now a.at a.rows.now c.requires c.in_err-row.was c.read_row.ensures)

pub returns : goal.returns
returns c =
    let a = c.args in
    rw c.begin_row.ensures (row_turned a.limits a.text.now a.at a.rows.now c.requires c.in_ok-row.was c.read_row.ensures)
