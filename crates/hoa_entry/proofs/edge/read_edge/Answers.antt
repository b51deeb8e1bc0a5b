-- `edge::read_edge` meets its contract: a label that is satisfiable where no edge finds room is refused at its `]`, one byte before what follows it. Assumes nothing.
use Rattle.std.proofs.lemmas.Result.{err_from_is_err_and}
use Rattle.hoa_entry.proofs.Reading.{edge_refused, edge_full, edge_there, label_onward}
use native.Mathlib.Omega.{arith}
use Rattle.hoa_entry.proofs.edge.read_edge.Goals as goal

pub overflow_sub-result : goal.overflow_sub-result
overflow_sub-result c = omega (arith, label_onward c.in_ok-label.was c.read_label.ensures)

pub returns-then-kept-ge-MOST_EDGES : goal.returns-then-kept-ge-MOST_EDGES
returns-then-kept-ge-MOST_EDGES c =
    let a = c.args in
    edge_full a.limits a.text.now a.at a.before a.kept c.in_ok-label.was
    c.read_label.ensures c.if-label-gt0.true c.if-kept-ge-MOST_EDGES.true

pub returns-in_err-label : goal.returns-in_err-label
returns-in_err-label c =
    let a = c.args in
    let p = err_from_is_err_and c.from_residual.result c.from_residual.ensures.1 in
    rw (p.1, p.2)
    (edge_refused a.limits a.text.now a.at a.before a.kept c.in_err-label.was c.read_label.ensures)

pub returns : goal.returns
returns c =
    let a = c.args in
    edge_there a.limits a.text.now a.at a.before a.kept c.in_ok-label.was
    c.read_label.ensures c.read_to.result (λ o. omega arith) c.read_to.ensures
