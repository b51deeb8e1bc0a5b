-- `walk::walk` meets its contract: `-` is no edge. Assumes nothing.
use Rattle.std.proofs.Common.{◌≡◌, true, false, sym, subst, ◌∙◌, ℕ, List}
use Rattle.std.proofs.Math.Option.{Option}
use Rattle.job_text.specs.Text.{same}
use Rattle.job_text.specs.Value.{dash}
use Rattle.answer_check.specs.inner.{WalkSays}
use Rattle.answer_form.proofs.Forms.{list_none, list_steps}
use Rattle.answer_check.proofs.Going.{no_edges}
use Rattle.answer_check.proofs.walk.walk.Goals as goal

pub returns-then-alike : goal.returns-then-alike
returns-then-alike c =
    let a = c.args in
    let none : same a.list.now dash ≡ true = sym c.alike.ensures ∙ c.if-alike.true in
    λ t es L b e. no_edges a.begin es (list_none a.list.now es none e) t b

pub returns : goal.returns
returns c =
    let a = c.args in
    let some : same a.list.now dash ≡ false = sym c.alike.ensures ∙ c.if-alike.false in
    subst (λ (o : Option (List ℕ)). WalkSays o a.begin a.from.now a.to.now a.marks.now c.walk_edges.result)
    (sym (list_steps a.list.now some)) c.walk_edges.ensures
