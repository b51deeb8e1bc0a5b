-- `token_at` meets its contract: the token stands behind the gap (`clear_found`), or a comment is open to the text's end (`unclosed_found`).
-- Assumes nothing.
use mathlib.Core.Path.{ap, ◌∙◌}
use Rattle.hoa_tokens.specs.inner.Reads.{ahead_gap}
use Rattle.hoa_tokens.proofs.Founds.{clear_found, unclosed_found}
use Rattle.hoa_tokens.proofs.token_at.Goals as goal

pub returns-in-Ok : goal.returns-in-Ok
returns-in-Ok c =
    let a = c.args in
    clear_found a.text.now a.at c.in-Ok.i c.front.result
    (c.skip.ensures ∙ ap ahead_gap c.in-Ok.is) c.front.ensures

pub returns-in-Err : goal.returns-in-Err
returns-in-Err c =
    let a = c.args in
    unclosed_found a.text.now a.at c.in-Err.i (c.skip.ensures ∙ ap ahead_gap c.in-Err.is)
