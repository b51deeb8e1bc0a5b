-- `write_hoa` meets its contract: what rows 1 to 7 refuse is refused so, and the rest is `write_sound`. Assumes nothing.
use mathlib.Core.Path.{sym, ◌∙◌}
use Rattle.std.proofs.lemmas.Result.{err_from_is_err_and}
use Rattle.table.specs.Table.{lent}
use Rattle.table.specs.Refusal.{refusal}
use Rattle.writing.proofs.Writings.{refused_row}
use Rattle.hoa_written.specs.Written.{hoa_text}
use Rattle.hoa_written.specs.Writing.{too_large}
use Rattle.hoa_writer.proofs.write_hoa.Goals as goal

pub write_sound-requires : goal.write_sound-requires
write_sound-requires c = sym c.check.ensures ∙ c.in_ok-check.was

pub returns-in_err-check : goal.returns-in_err-check
returns-in_err-check c =
    let a = c.args in
    let t = lent a.n a.start a.from.now a.to.now a.marks.now in
    let p = err_from_is_err_and c.from_residual.result c.from_residual.ensures.1 in
    rw (p.1, p.2)
    (refused_row (refusal t a.condition a.needs) (too_large t) 42 (hoa_text t a.condition a.needs) a.out.now _ _ (sym c.check.ensures ∙ c.in_err-check.was))
