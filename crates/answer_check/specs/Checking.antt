-- What checking an answer gives, for every job text and every answer text (docs/RULES.md, "An answer that is checked"). Assumes nothing.
use Rattle.table.specs.declared.Refusal.{Refusal}
use Rattle.std.specs.Prelude.{◌≡◌, List, ℕ, Result, Ok, Err}
use Rattle.table.specs.declared.Acceptance.{Acceptance}
use Rattle.table.specs.Table.{Table, marks_of}
use Rattle.table.specs.Condition.{Accepted}
use Rattle.job_text.specs.Job.{Job, Outcome, job, fault, read_job, Column}
use Rattle.job_text.specs.Asked.{job_table, first_cause}
use Rattle.answer_check.specs.declared.Checked.{Checked}
use Rattle.answer_check.specs.declared.Checked.TheVariants as checked
use Rattle.answer_form.specs.Form.{run, Says, Malformed, NoRun}
use Rattle.answer_check.specs.Fault.{Meets, Judged}

-- the text names a run, and this is what becomes of it
pub record RunJudged (t : Table) (c : Acceptance) (needs text : List ℕ) (r : Checked) : Type 0 where
  pub pair : ℕ
  pub prefix : List ℕ
  pub cycle : List ℕ
  pub says : Says c text (run pair prefix cycle)
  pub judged : Judged t c needs pair prefix cycle r

-- "then 50, then 51; place 0, column 0", and then the run
pub data Told (t : Table) (c : Acceptance) (needs text : List ℕ) (r : Checked) : Type 0 where
  malformed : Malformed c text → r ≡ checked.Refused 50 0 0 → Told t c needs text r
  no_run : NoRun c text → r ≡ checked.Refused 51 0 0 → Told t c needs text r
  run_judged : RunJudged t c needs text r → Told t c needs text r

-- "the job's own first (20 to 23, then rows 1 to 7)"; rows 1 to 7 with column 0
abbrev pub ByCause : Result Unit Refusal → Table → Acceptance → List ℕ → List ℕ → Checked → Type 0
ByCause (Err cause) t c needs text r = r ≡ checked.Refused cause.number cause.place 0
ByCause (Ok done) t c needs text r = Told t c needs text r

-- a job text at fault: number and place of its first fault, and the column of that
pub record TextRefused (text : List ℕ) (number place : ℕ) (r : Checked) : Type 0 where
  pub column : ℕ
  pub first : Column text column
  pub told : r ≡ checked.Refused number place column

abbrev pub ByJob : List ℕ → Outcome → List ℕ → Checked → Type 0
ByJob text (fault number place) answer r = TextRefused text number place r
ByJob text (job j) answer r = ByCause (first_cause (job j)) (job_table j) j.condition j.needs answer r

-- the whole promise, for every job text and every answer text
abbrev pub Checks : List ℕ → List ℕ → Checked → Type 0
Checks text answer r = ByJob text (read_job text) answer r

-- the answer text names an accepted lasso of the job's table, for Rabin with the named pair met: with these it is accepted, and with no others
-- (`Unique.accepted_exactly`, in proofs/)
pub record NamesAccepted (text answer : List ℕ) : Type 0 where
  pub asked : Job
  pub read : read_job text ≡ job asked
  pub sound : first_cause (job asked) ≡ Ok tt
  pub pair : ℕ
  pub prefix : List ℕ
  pub cycle : List ℕ
  pub says : Says asked.condition answer (run pair prefix cycle)
  pub accepted : Accepted (job_table asked) asked.condition asked.needs prefix cycle
  pub met : Meets asked.condition asked.needs (marks_of (job_table asked) cycle) pair
