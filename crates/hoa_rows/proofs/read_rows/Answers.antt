-- `read_rows` meets its contract: the rows' refusal, or what is handed over of them (`rows_handed`). Assumes nothing.
use Rattle.std.proofs.lemmas.Result.{err_from_is_err_and}
use Rattle.hoa_rows.proofs.Handing.{handing, rows_refused, rows_handed}
use Rattle.hoa_rows.proofs.read_rows.Goals as goal

pub hand_over-requires : goal.hand_over-requires
hand_over-requires c =
    let a = c.args in
    handing a.limits a.text.now a.at _ c.in_ok-read_entries.ensures

pub returns-in_err-read_entries : goal.returns-in_err-read_entries
returns-in_err-read_entries c =
    let a = c.args in
    let p = err_from_is_err_and c.from_residual.result c.from_residual.ensures.1 in
    rw (p.1, p.2) (rows_refused a.limits a.text.now a.at a.from.now a.to.now a.marks.now _ _ c.in_err-read_entries.ensures)

pub returns : goal.returns
returns c =
    let a = c.args in
    let over = c.hand_over in
    rows_handed a.limits a.text.now a.at _ c.in_ok-read_entries.ensures a.from.now a.to.now a.marks.now _ _ _ over.result over.ensures
