-- `reader::read_edges` meets its contract: see its invariant. Assumes nothing.
use Rattle.std.proofs.lemmas.Result.{err_from_is_err_and}
use Rattle.job_text.proofs.Bodies.{so_far_none, edge_lost, edge_goes, edges_done}
use native.Mathlib.Omega.{arith}
use Rattle.job_text.proofs.reader.read_edges.Goals as goal

pub loop-i-init : goal.loop-i-init
loop-i-init c = so_far_none c.args.text.now c.args.first c.args.edges _ _ _ c.requires.blank

pub returns-in_err-edge : goal.returns-in_err-edge
returns-in_err-edge c =
    let a = c.args in
    let l = c.loop-i in
    let e = err_from_is_err_and c.from_residual.result c.from_residual.ensures.1 in
    rw (e.1, e.2) (edge_lost a.text.now a.first a.edges l.from l.to l.marks l.next l.i l.invariant _ c.loop-i-test.true c.in_err-edge.ensures.read)

pub loop-i-preserved : goal.loop-i-preserved
loop-i-preserved c =
    let a = c.args in
    let l = c.loop-i in
    edge_goes a.text.now a.first a.edges l.from l.to l.marks l.next l.i l.invariant _ _ c.loop-i-test.true c.requires.few c.in_ok-edge.ensures.read c.in_ok-edge.ensures.one_on

pub returns : goal.returns
returns c =
    let a = c.args in
    let l = c.loop-i in
    edges_done a.text.now a.first a.edges l.from l.to l.marks l.next l.i l.invariant (omega arith) c.requires.early c.requires.few
