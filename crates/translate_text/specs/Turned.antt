-- From bytes to bytes: what a job text is translated into, every text (docs/RULES.md, "One-mark translation" and "The job text and the printed answer", the
-- writer). Assumes nothing.
use Rattle.table.specs.declared.Refusal.{Refusal}
use Rattle.std.specs.Prelude.{cond, List, [], ℕ, Result, Ok, Err}
use Rattle.table.specs.declared.Acceptance.{Acceptance}
use Rattle.table.specs.declared.Acceptance.TheVariants.{Buchi, Streett, Rabin}
use Rattle.table.specs.Table.{Table}
use Rattle.table.specs.Refusal.{refusal, refused}
use Rattle.climbing.specs.Translated.{translated}
use Rattle.one_mark.specs.Outcome.{large}
use Rattle.job_text.specs.Job.{Outcome, job, fault, read_job, Column}
use Rattle.job_text.specs.Asked.{job_table}
use Rattle.answer_text.specs.Printed.{refused_text}
use Rattle.writing.specs.Writing.{or_else, Stands}
use Rattle.job_writer.specs.Written.{job_text}
use Rattle.job_writer.specs.Writing.{most_bytes, too_large}

-- rows 1 to 7 under Büchi k; then 10; then 23 at 0 if the translated table has above 256 states or 512 edges. Row 11 never comes out: what is lent is enough
abbrev pub cause : Table → ℕ → Result Unit Refusal
cause t k =
    or_else (refusal t (Buchi k) [])
    (cond (large (translated t k).states (translated t k).edges) (refused 10 0)
    (cond (too_large (translated t k)) (refused 23 0) (Ok tt)))

-- the text, or "the lines of the refusal", with column 0
abbrev pub told_or : Result Unit Refusal → List ℕ → List ℕ
told_or (Ok done) text = text
told_or (Err cause) text = refused_text cause.number cause.place 0

-- a table with k marks: the job text of the translated one
abbrev pub turned_table : Table → ℕ → List ℕ
turned_table t k = told_or (cause t k) (job_text (translated t k))

-- "a job of another kind: 4 at place 0"
abbrev pub turned_by : Acceptance → Table → List ℕ
turned_by (Buchi k) t = turned_table t k
turned_by (Streett p) t = refused_text 4 0 0
turned_by (Rabin p) t = refused_text 4 0 0

-- "20 comes first", 21, 22 and 23 line by line: what the reader refuses is printed as it is, with the column of the first fault
abbrev pub turned : Outcome → ℕ → List ℕ
turned (fault number place) column = refused_text number place column
turned (job j) column = turned_by j.condition (job_table j)

-- the whole promise, for every text: what the text is translated into, and nothing else, stands in `out`, and `size` is how long it is
pub record Turned (text out : List ℕ) (size : ℕ) : Type 0 where
  pub column : ℕ
  pub first : Column text column
  pub held : Stands most_bytes (turned (read_job text) column) out size
