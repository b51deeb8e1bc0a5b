-- `translate` meets its contract: the answer is foreseen; a refusal returns at once, with the outputs as they were (`outcome_refused`), and else
-- the table is ready to be written (`ready`) and is written (`outcome_made`). Assumes nothing.
use mathlib.Core.Path.{refl, sym, ◌∙◌}
use Rattle.std.proofs.lemmas.Result.{err_from_is_err_and}
use Rattle.table.specs.Table.{lent}
use Rattle.one_mark.proofs.Outcomes.{ready, outcome_refused, outcome_made}
use Rattle.one_mark.proofs.translate.Goals as goal

pub returns-in_err-made : goal.returns-in_err-made
returns-in_err-made c =
    let a = c.args in
    let p = err_from_is_err_and c.from_residual.result c.from_residual.ensures.1 in
    rw (p.1, p.2)
    (outcome_refused (lent a.n a.start a.from.now a.to.now a.marks.now) a.k a.leaves.now a.arrives.now a.bears.now _ _ _
    (sym c.in_err-made.was ∙ c.foresee.ensures) refl)

pub fill-requires : goal.fill-requires
fill-requires c =
    let a = c.args in
    ready a.n a.start a.k c.level_count-levels.result a.from.now a.to.now a.marks.now a.leaves.now a.arrives.now a.bears.now
    _ _ _ (sym c.in_ok-made.was ∙ c.foresee.ensures)
    c.level_count-levels.ensures

pub returns : goal.returns
returns c =
    let filled = c.fill.ensures in
    let a = c.args in
    outcome_made a.n a.start a.k a.from.now a.to.now a.marks.now _ _ _
    (sym c.in_ok-made.was ∙ c.foresee.ensures) filled
