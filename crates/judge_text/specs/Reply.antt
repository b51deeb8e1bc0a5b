-- What the promise comes to: every text gets an answer or one numbered refusal (docs/RULES.md, "What comes back" and "The job text and the printed answer").
-- `Replies.answered_or_refused` and `Unique.one_reply`, in proofs/, say that it does. Assumes nothing.
use Rattle.table.specs.Refusal.{refused}
use Rattle.std.specs.Prelude.{◌≡◌, List, ◌++◌, ◌⊎◌, ℕ, ◌≤◌, Ok}
use Rattle.table.specs.declared.Acceptance.{Acceptance}
use Rattle.table.specs.declared.Verdict.{Verdict}
use Rattle.table.specs.declared.Verdict.TheVariants.{Run}
use Rattle.job_text.specs.Job.{Job, job, read_job, Column}
use Rattle.job_text.specs.Asked.{job_table, first_cause}
use Rattle.answer_text.specs.Printed.{top_text, bottom_text, answer_text, refused_text}
use Rattle.erasing.specs.Depth.{Deep}
use Rattle.judging.specs.Answer.{Decided}

-- a row of the table of causes that a text can come to: 1 to 7, 20 to 23
abbrev pub TextRow : ℕ → Type 0
TextRow number = ((1 ≤ number) × (number ≤ 7)) ⊎ ((20 ≤ number) × (number ≤ 23))

-- one numbered refusal: that of the first cause, and no other, with the text's column (0 where the text says a job)
pub record RefusedFor (text printed : List ℕ) : Type 0 where
  pub number : ℕ
  pub place : ℕ
  pub column : ℕ
  pub cause : first_cause (read_job text) ≡ refused number place
  pub row : TextRow number
  pub first : Column text column
  pub is : printed ≡ refused_text number place column

-- an answer: the text says a job, no row refuses it, the printed verdict is decided: a run with an accepted lasso, or empty, when no lasso is accepted; and the
-- printed depth is the erasing's
pub record Answered (text printed : List ℕ) : Type 0 where
  pub asked : Job
  pub read : read_job text ≡ job asked
  pub sound : first_cause (job asked) ≡ Ok tt
  pub verdict : Verdict
  pub depth : ℕ
  pub room : List ℕ
  pub decided : Decided (job_table asked) asked.condition asked.needs verdict room
  pub deep : Deep (job_table asked) asked.condition verdict depth
  pub is : printed ≡ answer_text verdict 0 depth asked.condition room

-- two runs that differ in their lassos at most: the lines of verdict, code, place, column, pair and depth are the same
pub record TwoRuns (printed printed' : List ℕ) : Type 0 where
  pub condition : Acceptance
  pub pair : ℕ
  pub depth : ℕ
  pub prefix : List ℕ
  pub cycle : List ℕ
  pub prefix' : List ℕ
  pub cycle' : List ℕ
  pub first : printed ≡ top_text (Run 0 0 pair) 0 depth condition ++ bottom_text prefix cycle
  pub second : printed' ≡ top_text (Run 0 0 pair) 0 depth condition ++ bottom_text prefix' cycle'
