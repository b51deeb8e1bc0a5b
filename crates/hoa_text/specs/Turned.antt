-- From bytes to bytes: what a job text is turned into, every text (docs/RULES.md, "The Hanoi format", the writer). Assumes nothing.
use Rattle.table.specs.declared.Refusal.{Refusal}
use Rattle.std.specs.Prelude.{◌≡◌, List, ◌++◌, ℕ, ◌-◌, length, replicate, Result, Ok, Err}
use Rattle.table.specs.Refusal.{refusal}
use Rattle.job_text.specs.Job.{Outcome, job, fault, read_job, Column}
use Rattle.hoa_written.specs.Written.{hoa_text}
use Rattle.hoa_written.specs.Writing.{most_bytes}
use Rattle.job_text.specs.Asked.{job_table}
use Rattle.answer_text.specs.Printed.{refused_text}

-- "the HOA text out, or the lines of the refusal": of rows 1 to 7, the only ones that a job can come to, with column 0
abbrev pub written_for : Result Unit Refusal → List ℕ → List ℕ
written_for (Ok done) written = written
written_for (Err cause) written = refused_text cause.number cause.place 0

-- "20 comes first", 21, 22 and 23 line by line: what the reader refuses is printed as it is, with the column of the first fault; what it reads
-- is written
abbrev pub turned : Outcome → ℕ → List ℕ
turned (fault number place) column = refused_text number place column
turned (job j) column = written_for (refusal (job_table j) j.condition j.needs) (hoa_text (job_table j) j.condition j.needs)

-- "a lent output has zeros from the end of what is written to its own end"
pub record Stands (written out : List ℕ) (size : ℕ) : Type 0 where
  pub all : size ≡ length written
  pub cells : out ≡ written ++ replicate (most_bytes - size) 0

-- the whole promise, for every text: what the text is turned into, and nothing else, stands in `out`, and `size` is how long it is
pub record Turned (text out : List ℕ) (size : ℕ) : Type 0 where
  pub column : ℕ
  pub first : Column text column
  pub held : Stands (turned (read_job text) column) out size
