-- `edge::read_to` meets its contract: the target and the sig, one after the other. Assumes nothing.
use Rattle.std.proofs.lemmas.Result.{err_from_is_err_and}
use Rattle.hoa_entry.proofs.Reading.{to_refused, to_sig_refused, to_there}
use Rattle.hoa_entry.proofs.edge.read_to.Goals as goal

pub returns-in_err-target : goal.returns-in_err-target
returns-in_err-target c =
    let a = c.args in
    let p = err_from_is_err_and c.from_residual.result c.from_residual.ensures.1 in
    rw (p.1, p.2)
    (to_refused a.limits a.text.now a.at a.before a.set c.in_err-target.was c.read_target.ensures)

pub returns-in_err-sig : goal.returns-in_err-sig
returns-in_err-sig c =
    let a = c.args in
    let p = err_from_is_err_and c.from_residual-in_err-sig.result c.from_residual-in_err-sig.ensures.1 in
    rw (p.1, p.2)
    (to_sig_refused a.limits a.text.now a.at a.before a.set c.in_ok-target.was c.read_target.ensures c.in_err-sig.was c.read_edge_sig.ensures)

pub returns : goal.returns
returns c =
    let a = c.args in
    to_there a.limits a.text.now a.at a.before a.set c.in_ok-target.was
    c.read_target.ensures c.in_ok-sig.was
    c.read_edge_sig.ensures
