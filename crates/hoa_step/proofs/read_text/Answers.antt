-- `read_text` meets its contract: the token that is found is a STRING (`text_next`), or is faulty (`text_faulty`). Assumes nothing.
use mathlib.Core.Path.{sym, ◌∙◌}
use Rattle.hoa_step.proofs.Wants.{text_next, text_faulty}
use Rattle.hoa_step.proofs.read_text.Goals as goal

pub returns-in-Ok : goal.returns-in-Ok
returns-in-Ok c =
    let f = c.token_at-found in
    text_next f.result f.ensures (sym c.text_kind.ensures ∙ c.in-Ok.is)

pub returns-in-Err : goal.returns-in-Err
returns-in-Err c =
    let f = c.token_at-found in
    text_faulty f.result _ f.ensures (sym c.text_kind.ensures ∙ c.in-Err.is)
