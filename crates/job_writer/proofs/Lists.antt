-- The lists of a table that is not refused, and the writer's limits. Assumes nothing.
use Rattle.std.specs.Prelude.{Ok}
use mathlib.Core.Path.{◌≡◌, ap, ◌∙◌}
use mathlib.Core.Bool.{Bool, false, ◌||◌}
use mathlib.Core.List.{List, []}
use Prim.Native.Nat.{ℕ, ◌≤◌}
use lib.Dec.{ltb}
use lib.ListN.{length}
use borrow.Author.Tests.{le-ltb, ltb-false}
use Rattle.marks.proofs.Cases.{either_false}
use Rattle.table.specs.declared.Acceptance.TheVariants.{Buchi}
use Rattle.table.specs.Table.{Table, lent}
use Rattle.table.specs.Refusal.{refusal}
use Rattle.table.proofs.Sound.{sound_fit}
use Rattle.job_text.specs.Job.{most_job_states, most_job_edges}
use Rattle.job_writer.specs.Writing.{too_large}
use Rattle.job_put_edges.specs.inner.{Passed}

-- they are as the writer asks
pub lists_passed : (n start : ℕ) (from to marks : List ℕ) → refusal (lent n start from to marks) (Buchi 1) [] ≡ Ok tt → length from ≤ most_job_edges → Passed from to marks
lists_passed n start from to marks sound l =
    let fit = (sound_fit n start from to marks (Buchi 1) [] sound).proper in
    record { to_length = fit.to_length; marks_length = fit.marks_length; few = l }

-- within the limits
pub not_large : (t : Table) → t.states ≤ most_job_states → t.edges ≤ most_job_edges → too_large t ≡ false
not_large t l h = ap (λ (b : Bool). b || ltb most_job_edges t.edges) (le-ltb most_job_states t.states l) ∙ le-ltb most_job_edges t.edges h

-- what is not too large
pub limits : (t : Table) → too_large t ≡ false → (t.states ≤ most_job_states) × (t.edges ≤ most_job_edges)
limits t e =
    let two = either_false (ltb most_job_states t.states) (ltb most_job_edges t.edges) e in
    (ltb-false most_job_states t.states two.0, ltb-false most_job_edges t.edges two.1)
