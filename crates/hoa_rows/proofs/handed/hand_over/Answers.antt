-- `handed::hand_over` meets its contract: tables that are long enough hold the edges by states and zeros after them (`handed_all`). Assumes nothing.
use mathlib.Core.Path.{sym, ◌∙◌}
use Rattle.hoa_rows.proofs.Handing.{fitting, handed_short, handed_all}
use Rattle.hoa_rows.proofs.handed.hand_over.Goals as goal

pub returns-then-not-enough : goal.returns-then-not-enough
returns-then-not-enough c =
    let a = c.args in
    handed_short a.rows.now a.from.now a.to.now a.marks.now
    (sym c.enough.ensures ∙ c.if-not-enough.true)

pub copy_rows-requires : goal.copy_rows-requires
copy_rows-requires c =
    let a = c.args in
    fitting a.rows.now a.from.now a.to.now a.marks.now c.requires
    (sym c.enough.ensures ∙ c.if-not-enough.false)

pub returns : goal.returns
returns c =
    let a = c.args in
    let copied = c.copy_rows in
    handed_all a.rows.now a.from.now a.to.now a.marks.now c.requires
    (sym c.enough.ensures ∙ c.if-not-enough.false) _ _ _ _ _ _
    copied.ensures copied.auto.from copied.auto.to copied.auto.marks
    (c.fill.ensures.after (λ y e. e)) (c.fill-2.ensures.after (λ y e. e)) (c.fill-3.ensures.after (λ y e. e))
