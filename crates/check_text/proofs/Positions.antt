-- A fault's position is no larger than the answer text is long: every edge but the first of a list takes a comma. Assumes nothing.
use Rattle.table.specs.declared.Refusal.{Refusal}
use Rattle.std.specs.Prelude.{Result, Ok, Err}
use mathlib.Core.Path.{◌≡◌, refl, ap}
use mathlib.Core.Logic.{◌⊎◌, inl, inr}
use mathlib.Core.List.{List, [], ◌∷◌, ◌++◌}
use Prim.Native.Nat.{ℕ, ◌+◌, ◌≤◌}
use native.Mathlib.Omega.{arith}
use lib.ListN.{length, take, drop, length-append}
use lib.Seq.{take_at, drop_at, take-length}
use Rattle.table.specs.declared.Acceptance.{Acceptance}
use Rattle.table.specs.Table.{Table}
use Rattle.job_text.specs.Text.{comma}
use Rattle.job_text.specs.Job.{Outcome, job, fault as faulty, read_job}
use Rattle.job_text.specs.Asked.{job_table, first_cause}
use Rattle.answer_text.specs.Printed.{step_text, further_text, list_text, shown, prefix=, cycle=, top_text, bottom_text, answer_text}
use Rattle.job_values.proofs.Cut.{shown_length}
use Rattle.answer_check.specs.declared.Checked.{Checked}
use Rattle.answer_check.specs.declared.Checked.TheVariants.{Accepted, Rejected, Refused}
use Rattle.answer_check.specs.declared.Fault.{Fault}
use Rattle.answer_check.specs.declared.Fault.TheVariants.{Prefix, Empty, Cycle, Condition}
use Rattle.answer_form.specs.Form.{run, Says, verdict_of}
use Rattle.answer_check.specs.Fault.{Breaks, Open, Judged}
use Rattle.answer_check.specs.Checking.{Told, malformed, no_run, run_judged, ByCause, ByJob, Checks}
use Rattle.check_text.specs.Split.{most_answer}
use Rattle.check_text.specs.inner.{Slight}

further_long : (es : List ℕ) → length es ≤ length (further_text es)
unfolding further_text
further_long [] = omega arith
further_long (e ∷ es) = omega (arith, length-append (comma ∷ step_text e) (further_text es), further_long es)

list_long : (es : List ℕ) → length es ≤ length (list_text es) + 1
list_long [] = omega arith
list_long (e ∷ es) = omega (arith, length-append (step_text e) (further_text es), further_long es)

bottom_long : (prefix cycle : List ℕ) → length prefix + length cycle ≤ length (bottom_text prefix cycle)
unfolding bottom_text
bottom_long prefix cycle =
    omega (
      arith,
      length-append (shown prefix= (list_text prefix)) (shown cycle= (list_text cycle)),
      shown_length prefix= (list_text prefix),
      shown_length cycle= (list_text cycle),
      list_long prefix,
      list_long cycle,
    )

-- a printed run is longer than its two lists together
says_long : (c : Acceptance) (text : List ℕ) (pair : ℕ) (prefix cycle : List ℕ) → Says c text (run pair prefix cycle) → length prefix + length cycle ≤ length text
unfolding answer_text
says_long c text pair prefix cycle S =
    let first : take (length prefix) (prefix ++ cycle) ≡ prefix = take_at prefix cycle (length prefix) refl in
    let second : take (length cycle) (drop (length prefix) (prefix ++ cycle)) ≡ cycle = rw (drop_at prefix cycle (length prefix) refl) (take-length cycle) in
    let prints : text ≡ top_text (verdict_of (run pair prefix cycle)) 0 0 c ++ bottom_text prefix cycle = rw (first, second) at S.prints in
    omega (arith, ap length prints, length-append (top_text (verdict_of (run pair prefix cycle)) 0 0 c) (bottom_text prefix cycle), bottom_long prefix cycle)

-- a fault lies in its list or at its end
cycle_in : (t : Table) (knot : ℕ) (cycle : List ℕ) (i : ℕ) → Breaks t knot cycle i ⊎ Open t knot cycle i → i ≤ length cycle
cycle_in t knot cycle i (inl b) = omega (arith, b.inside)
cycle_in t knot cycle i (inr o) = omega (arith, o.position)

fault_in : (t : Table) (c : Acceptance) (needs : List ℕ) (pair : ℕ) (prefix cycle : List ℕ) (f : Fault) (i : ℕ) → Judged t c needs pair prefix cycle (Rejected f i)
    → i ≤ length prefix + length cycle
fault_in t c needs pair prefix cycle Prefix i J = omega (arith, J.inside)
fault_in t c needs pair prefix cycle Empty i J = omega (arith, J.position)
fault_in t c needs pair prefix cycle Cycle i J = omega (arith, cycle_in t J.knot cycle i J.fault)
fault_in t c needs pair prefix cycle Condition i J = omega (arith, J.position)

-- what is refused has no position
refused_slight : {number place column : ℕ} (r : Checked) → r ≡ Refused number place column → Slight r
refused_slight r e = rw e tt

module _ (answer : List ℕ) (few : length answer ≤ most_answer) where
  judged_slight : (t : Table) (c : Acceptance) (needs : List ℕ) (pair : ℕ) (prefix cycle : List ℕ) (r : Checked) → Says c answer (run pair prefix cycle)
      → Judged t c needs pair prefix cycle r → Slight r
  judged_slight t c needs pair prefix cycle Accepted S J = tt
  judged_slight t c needs pair prefix cycle (Rejected f i) S J = omega (arith, few, says_long c answer pair prefix cycle S, fault_in t c needs pair prefix cycle f i J)
  judged_slight t c needs pair prefix cycle (Refused number place column) S J = tt

  told_slight : (t : Table) (c : Acceptance) (needs : List ℕ) (r : Checked) → Told t c needs answer r → Slight r
  told_slight t c needs r (malformed m e) = refused_slight r e
  told_slight t c needs r (no_run n e) = refused_slight r e
  told_slight t c needs r (run_judged R) = judged_slight t c needs R.pair R.prefix R.cycle r R.says R.judged

  cause_slight : (f : Result Unit Refusal) (t : Table) (c : Acceptance) (needs : List ℕ) (r : Checked) → ByCause f t c needs answer r → Slight r
  cause_slight (Err cause) t c needs r e = refused_slight r e
  cause_slight (Ok done) t c needs r T = told_slight t c needs r T

  job_slight : (text : List ℕ) (o : Outcome) (r : Checked) → ByJob text o answer r → Slight r
  job_slight text (faulty number place) r T = refused_slight r T.told
  job_slight text (job j) r T = cause_slight (first_cause (job j)) (job_table j) j.condition j.needs r T

  -- what is given for an answer text that is not long
  pub checks_slight : (text : List ℕ) (r : Checked) → Checks text answer r → Slight r
  checks_slight text r T = job_slight text (read_job text) r T
