-- What the checker says of our own answers (docs/RULES.md, "An answer that is checked", our own answers). That this is so is `Own.own_answers`, in proofs/.
-- Assumes nothing.
use Rattle.table.specs.Refusal.{refused as refused_at}
use Rattle.std.specs.Prelude.{◌≡◌, ◌↔◌, List, ℕ, length, take}
use Rattle.table.specs.declared.Verdict.{Verdict}
use Rattle.table.specs.declared.Verdict.TheVariants.{Run, Empty}
use Rattle.job_text.specs.Job.{read_job, Column}
use Rattle.job_text.specs.Asked.{first_cause}
use Rattle.answer_text.specs.Printed.{shown, verdict=, verdict_word, refused_text}
use Rattle.judge_text.specs.Replied.{Replied}
use Rattle.answer_check.specs.declared.Checked.{Checked}
use Rattle.answer_check.specs.declared.Checked.TheVariants.{Accepted, Refused}
use Rattle.answer_check.specs.Checking.{Checks}

-- the first line of the text is this verdict's: `verdict=run`, `verdict=empty` or `verdict=refused`
abbrev pub Begins : Verdict → List ℕ → Type 0
Begins v text = take (length (shown verdict= (verdict_word v))) text ≡ shown verdict= (verdict_word v)

-- a run is accepted; empty is no run (51); a refusal is the job's own, and it is told again
pub data OwnSaid (text printed : List ℕ) (r : Checked) : Type 0 where
  run : Begins (Run 0 0 0) printed → r ≡ Accepted → OwnSaid text printed r
  empty : Begins Empty printed → r ≡ Refused 51 0 0 → OwnSaid text printed r
  refused : (number place column : ℕ) → first_cause (read_job text) ≡ refused_at number place → Column text column → printed ≡ refused_text number place column
      → r ≡ Refused number place column → OwnSaid text printed r

-- for every job text, and every answer to it that the judge's promise allows: the first `size` bytes of `out`
pub record OwnAnswers : Type 0 where
  -- the answer is one of the three
  pub says : (text out : List ℕ) (size : ℕ) → Replied text out size → (r : Checked) → Checks text (take size out) r → OwnSaid text (take size out) r
  -- "every run that our judge prints is accepted", and nothing else that it prints
  pub runs : (text out : List ℕ) (size : ℕ) → Replied text out size → (r : Checked) → Checks text (take size out) r
      → (r ≡ Accepted) ↔ Begins (Run 0 0 0) (take size out)
