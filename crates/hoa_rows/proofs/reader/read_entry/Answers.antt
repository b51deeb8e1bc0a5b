-- `reader::read_entry` meets its contract: the token says what begins, and what is read of it is a stretch of the machine. Assumes nothing.
use Rattle.std.proofs.lemmas.Result.{err_from_is_err_and}
use Rattle.hoa_rows.proofs.Turning.{entry_row, entry_edge, entry_over, entry_late, entry_wrong}
use Rattle.hoa_rows.proofs.reader.read_entry.Goals as goal

pub returns-in_err-take_row-in-Ok-Row : goal.returns-in_err-take_row-in-Ok-Row
returns-in_err-take_row-in-Ok-Row c =
    let a = c.args in
    let here = c.entry_at-here in
    let begins = c.what_begins in
    let p = err_from_is_err_and c.from_residual.result c.from_residual.ensures.1 in
    rw (p.1, p.2) (rw c.in_err-take_row-in-Ok-Row.was at (entry_row a.limits a.text.now a.at here.result here.ensures a.rows.now begins.result begins.ensures _ c.take_row.result (cc) c.take_row.ensures))

pub returns-in_ok-take_row-in-Ok-Row : goal.returns-in_ok-take_row-in-Ok-Row
returns-in_ok-take_row-in-Ok-Row c =
    let a = c.args in
    let here = c.entry_at-here in
    let begins = c.what_begins in
    rw c.in_ok-take_row-in-Ok-Row.was at (entry_row a.limits a.text.now a.at here.result here.ensures a.rows.now begins.result begins.ensures _ c.take_row.result (cc) c.take_row.ensures)

pub returns-in_err-take_edge-in-Ok-Edge : goal.returns-in_err-take_edge-in-Ok-Edge
returns-in_err-take_edge-in-Ok-Edge c =
    let a = c.args in
    let here = c.entry_at-here in
    let begins = c.what_begins in
    let p = err_from_is_err_and c.from_residual-in_err-take_edge-in-Ok-Edge.result c.from_residual-in_err-take_edge-in-Ok-Edge.ensures.1 in
    rw (p.1, p.2) (rw c.in_err-take_edge-in-Ok-Edge.was at (entry_edge a.limits a.text.now a.at here.result here.ensures a.rows.now begins.result begins.ensures _ c.take_edge.result (cc) c.take_edge.ensures))

pub returns-in_ok-take_edge-in-Ok-Edge : goal.returns-in_ok-take_edge-in-Ok-Edge
returns-in_ok-take_edge-in-Ok-Edge c =
    let a = c.args in
    let here = c.entry_at-here in
    let begins = c.what_begins in
    rw c.in_ok-take_edge-in-Ok-Edge.was at (entry_edge a.limits a.text.now a.at here.result here.ensures a.rows.now begins.result begins.ensures _ c.take_edge.result (cc) c.take_edge.ensures)

pub returns-in_err-read_end-in-Ok-Close : goal.returns-in_err-read_end-in-Ok-Close
returns-in_err-read_end-in-Ok-Close c =
    let a = c.args in
    let here = c.entry_at-here in
    let begins = c.what_begins in
    let p = err_from_is_err_and c.from_residual-in_err-read_end-in-Ok-Close.result c.from_residual-in_err-read_end-in-Ok-Close.ensures.1 in
    rw (p.1, p.2) (entry_late a.limits a.text.now a.at here.result here.ensures a.rows.now begins.result begins.ensures (cc) _ (rw c.in_err-read_end-in-Ok-Close.was at c.read_end.ensures))

pub returns-in_ok-read_end-in-Ok-Close : goal.returns-in_ok-read_end-in-Ok-Close
returns-in_ok-read_end-in-Ok-Close c =
    let a = c.args in
    let here = c.entry_at-here in
    let begins = c.what_begins in
    entry_over a.limits a.text.now a.at here.result here.ensures a.rows.now begins.result begins.ensures (cc) (rw c.in_ok-read_end-in-Ok-Close.was at c.read_end.ensures)

pub returns-in-Err : goal.returns-in-Err
returns-in-Err c =
    let a = c.args in
    let here = c.entry_at-here in
    let begins = c.what_begins in
    entry_wrong a.limits a.text.now a.at here.result here.ensures a.rows.now begins.result begins.ensures _ c.in-Err.is
