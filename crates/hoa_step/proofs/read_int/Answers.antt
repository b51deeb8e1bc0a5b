-- `read_int` meets its contract: the token that is found is an INT (`int_next`), or is faulty (`int_faulty`). Assumes nothing.
use mathlib.Core.Path.{sym, ◌∙◌}
use Rattle.hoa_step.proofs.Wants.{int_next, int_faulty}
use Rattle.hoa_step.proofs.read_int.Goals as goal

pub returns-in-Ok : goal.returns-in-Ok
returns-in-Ok c =
    let f = c.token_at-found in
    int_next f.result _ f.ensures (sym c.int_kind.ensures ∙ c.in-Ok.is)

pub returns-in-Err : goal.returns-in-Err
returns-in-Err c =
    let f = c.token_at-found in
    int_faulty f.result _ f.ensures (sym c.int_kind.ensures ∙ c.in-Err.is)
