-- `front::fixed` meets its contract: its tests are the rule's, in the rule's order (`starts_begins`). Assumes nothing.
use mathlib.Core.Path.{◌∙◌}
use Rattle.hoa_tokens.specs.Bytes.{bytes}
use Rattle.hoa_tokens.proofs.Runs.{starts_begins}
use Rattle.hoa_tokens.proofs.Founds.{fixed_body, fixed_end, fixed_abort, fixed_none}
use Rattle.hoa_tokens.proofs.front.fixed.Goals as goal
use Rattle.hoa_tokens.proofs.front.fixed.Goals.{
  then-starts_with,
  else-starts_with+then-starts_with-2,
  else-starts_with+else-starts_with-2+then-starts_with-3,
  else-starts_with+else-starts_with-2+else-starts_with-3,
}

pub returns : goal.returns
unfolding bytes
returns c =
    let text = c.args.text.now in
    let at = c.args.at in
    let body = starts_begins text at (bytes "--BODY--") c.starts_with.ensures.value in
    elim c.if-starts_with.branch [
      | then-starts_with w ↦ rw w.kind-is (fixed_body text at (body ∙ w.if-starts_with.true))
      | else-starts_with+then-starts_with-2 w ↦
          rw w.kind-is
          (fixed_end text at (body ∙ w.if-starts_with.false)
          (starts_begins text at (bytes "--END--") w.starts_with-else-starts_with.ensures.value ∙ w.if-starts_with-2.true))
      | else-starts_with+else-starts_with-2+then-starts_with-3 w ↦
          rw w.kind-is
          (fixed_abort text at (body ∙ w.if-starts_with.false)
          (starts_begins text at (bytes "--END--") w.starts_with-else-starts_with.ensures.value ∙ w.if-starts_with-2.false)
          (starts_begins text at (bytes "--ABORT--") w.starts_with-else-starts_with-2.ensures.value ∙ w.if-starts_with-3.true))
      | else-starts_with+else-starts_with-2+else-starts_with-3 w ↦
          rw w.kind-is
          (fixed_none text at (body ∙ w.if-starts_with.false)
          (starts_begins text at (bytes "--END--") w.starts_with-else-starts_with.ensures.value ∙ w.if-starts_with-2.false)
          (starts_begins text at (bytes "--ABORT--") w.starts_with-else-starts_with-2.ensures.value ∙ w.if-starts_with-3.false))
    ]
