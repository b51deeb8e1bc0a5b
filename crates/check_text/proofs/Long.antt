-- An answer text that is too long is told as 50, where the job is in order: no answer of ours prints as nothing. Assumes nothing.
use Rattle.std.specs.Prelude.{Ok}
use mathlib.Core.Path.{◌≡◌, ap, subst}
use mathlib.Core.List.{List, []}
use Prim.Native.Nat.{ℕ, ◌<◌}
use native.Mathlib.Omega.{arith}
use lib.ListN.{length, take, drop, length-append}
use borrow.Author.Tests.{lt-ltb}
use Rattle.table.specs.declared.Acceptance.{Acceptance}
use Rattle.table.specs.Table.{Table}
use Rattle.table.specs.Verdict.{prefix_of, cycle_of}
use Rattle.job_text.specs.Job.{Job, Outcome, job, read_job}
use Rattle.job_text.specs.Asked.{job_table, first_cause}
use Rattle.answer_text.specs.Printed.{shown, prefix=, cycle=, list_text, top_text, bottom_text, answer_text}
use Rattle.job_values.proofs.Cut.{shown_length}
use Rattle.answer_check.specs.declared.Checked.{Checked}
use Rattle.answer_check.specs.declared.Checked.TheVariants.{Refused}
use Rattle.answer_form.specs.Form.{Said, run, verdict_of, column_of, depth_of, room_of, Says}
use Rattle.answer_check.specs.Checking.{Told, malformed, no_run, run_judged, ByCause, ByJob, Checks}
use Rattle.check_text.specs.Split.{job_part, answer_part, most_answer, heard}
use Rattle.check_text.specs.Replied.{CheckReplied}

bottom_some : (prefix cycle : List ℕ) → 0 < length (bottom_text prefix cycle)
unfolding bottom_text
bottom_some prefix cycle =
    omega (arith, length-append (shown prefix= (list_text prefix)) (shown cycle= (list_text cycle)), shown_length cycle= (list_text cycle))

-- no answer of ours is empty
says_some : (c : Acceptance) (said : Said) → Says c [] said → ⊥
unfolding answer_text
says_some c said S =
    let v = verdict_of said in
    let prefix = take (prefix_of v) (room_of said) in
    let cycle = take (cycle_of v) (drop (prefix_of v) (room_of said)) in
    omega (arith, ap length S.prints, length-append (top_text v (column_of said) (depth_of said) c) (bottom_text prefix cycle), bottom_some prefix cycle)

told_50 : (t : Table) (c : Acceptance) (needs : List ℕ) (r : Checked) → Told t c needs [] r → r ≡ Refused 50 0 0
told_50 t c needs r (malformed m e) = e
told_50 t c needs r (no_run n e) = absurd (says_some c n.said n.says)
told_50 t c needs r (run_judged R) = absurd (says_some c (run R.pair R.prefix R.cycle) R.says)

checks_50 : (text : List ℕ) (j : Job) (r : Checked) → read_job text ≡ job j → first_cause (job j) ≡ Ok tt → Checks text [] r → r ≡ Refused 50 0 0
checks_50 text j r o s C =
    let B : ByCause (first_cause (job j)) (job_table j) j.condition j.needs [] r = subst (λ (x : Outcome). ByJob text x [] r) o C in
    told_50 (job_table j) j.condition j.needs r (subst (λ f. ByCause f (job_table j) j.condition j.needs [] r) s B)

-- above 65,536 bytes: 50
pub too_long : {input out : List ℕ} {size : ℕ} (R : CheckReplied input out size) (j : Job) → read_job (job_part input) ≡ job j → first_cause (job j) ≡ Ok tt
    → most_answer < length (answer_part input) → R.result ≡ Refused 50 0 0
too_long {input} R j o s l =
    let none : heard (answer_part input) ≡ [] = rw (lt-ltb most_answer (length (answer_part input)) l) in
    checks_50 (job_part input) j R.result o s (subst (λ (a : List ℕ). Checks (job_part input) a R.result) none R.checks)
