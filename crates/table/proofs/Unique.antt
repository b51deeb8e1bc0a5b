-- Any two results that a contract of this crate allows for one input are equal. Each theorem is about the contract itself, as src/ writes it: `Post` is what
-- the check makes of a function's `ensures`. Assumes nothing.
use mathlib.Core.Path.{sym, ◌∙◌}
use Rattle.marks.proofs.Unique.{OneResult}
use Rattle.table.proofs.check.Reads as check
use Rattle.table.proofs.row.run.Reads as run
use Rattle.table.proofs.marks_used.Reads as marks_used

pub found_once : OneResult check.Post
found_once κ a r s e f p q = p ∙ sym q

pub run_once : OneResult run.Post
run_once κ a r s e f p q = p ∙ sym q

pub used_once : OneResult marks_used.Post
used_once κ a r s e f p q = p ∙ sym q
