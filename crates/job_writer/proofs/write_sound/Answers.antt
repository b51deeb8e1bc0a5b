-- `write_sound` meets its contract: the limits, then writing into no cells gives the length, and where there is room the text is written (crate `writing`).
-- Assumes nothing.
use mathlib.Core.Path.{◌≡◌, sym, ◌∙◌}
use mathlib.Core.Bool.{true, false}
use mathlib.Core.List.{[]}
use Rattle.table.specs.declared.Acceptance.TheVariants.{Buchi}
use Rattle.table.specs.Table.{lent}
use Rattle.table.specs.Refusal.{refusal}
use Rattle.writing.proofs.Writings.{refused_large, refused_short, given_text}
use Rattle.job_writer.specs.Written.{job_text}
use Rattle.job_writer.specs.Writing.{too_large}
use Rattle.job_writer.proofs.Lists.{lists_passed, limits}
use Rattle.job_writer.proofs.write_sound.Goals as goal

pub returns-then-too_large : goal.returns-then-too_large
returns-then-too_large c =
    let a = c.args in
    let t = lent a.n a.start a.from.now a.to.now a.marks.now in
    let many : too_large t ≡ true = sym c.too_large.ensures ∙ c.if-too_large.true in
    rw c.refused.ensures (refused_large (refusal t (Buchi 1) []) (too_large t) 23 (job_text t) a.out.now c.requires many)

pub put_text-length-requires : goal.put_text-length-requires
put_text-length-requires c =
    let a = c.args in
    let t = lent a.n a.start a.from.now a.to.now a.marks.now in
    let small : too_large t ≡ false = sym c.too_large.ensures ∙ c.if-too_large.false in
    lists_passed a.n a.start a.from.now a.to.now a.marks.now c.requires (limits t small).1

pub returns-then-out-length : goal.returns-then-out-length
returns-then-out-length c =
    let a = c.args in
    let t = lent a.n a.start a.from.now a.to.now a.marks.now in
    let small : too_large t ≡ false = sym c.too_large.ensures ∙ c.if-too_large.false in
    let count = c.put_text-length in
    rw c.refused-then-out-length.ensures
    (refused_short (refusal t (Buchi 1) []) (too_large t) 23 (job_text t) a.out.now c.requires small count.new.out count.result count.auto.out
    count.ensures.next c.if-out-length.true)

pub put_text-requires : goal.put_text-requires
put_text-requires c =
    let a = c.args in
    let t = lent a.n a.start a.from.now a.to.now a.marks.now in
    let small : too_large t ≡ false = sym c.too_large.ensures ∙ c.if-too_large.false in
    lists_passed a.n a.start a.from.now a.to.now a.marks.now c.requires (limits t small).1

pub returns : goal.returns
returns c =
    let a = c.args in
    let t = lent a.n a.start a.from.now a.to.now a.marks.now in
    let small : too_large t ≡ false = sym c.too_large.ensures ∙ c.if-too_large.false in
    let count = c.put_text-length in
    let text = c.put_text in
    given_text (refusal t (Buchi 1) []) (too_large t) 23 (job_text t) a.out.now c.requires small count.new.out count.result count.auto.out
    count.ensures.next text.new.out _ c.if-out-length.false text.ensures.cells c.clear.ensures
