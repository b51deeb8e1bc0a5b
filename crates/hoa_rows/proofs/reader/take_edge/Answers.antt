-- `reader::take_edge` meets its contract: an edge that is read is kept, if a valuation satisfies its label (`edge_turned`). Assumes nothing.
use Rattle.std.proofs.lemmas.Result.{err_from_is_err_and}
use Rattle.hoa_rows.proofs.Turning.{edge_turned_wrong, edge_room, edge_turned}
use Rattle.hoa_rows.proofs.reader.take_edge.Goals as goal

pub keep_edge-requires : goal.keep_edge-requires
keep_edge-requires c =
    let a = c.args in
    edge_room a.limits a.text.now a.at a.rows.now c.requires c.in_ok-edge.was c.read_edge.ensures

pub returns-in_err-edge : goal.returns-in_err-edge
returns-in_err-edge c =
    let a = c.args in
    let p = err_from_is_err_and c.from_residual.result c.from_residual.ensures.1 in
    rw (p.1, p.2) (edge_turned_wrong a.limits a.text.now a.at a.rows.now c.requires c.in_err-edge.was c.read_edge.ensures)

pub returns : goal.returns
returns c =
    let a = c.args in
    rw c.keep_edge.ensures (edge_turned a.limits a.text.now a.at a.rows.now c.requires c.in_ok-edge.was c.read_edge.ensures)
