-- What the C face tells of the Hanoi format and of what is written (docs/RULES.md, "The Hanoi format" and "The job text and the printed answer"): the numbers of
-- what the reader and the writers promise. Assumes nothing.
use Rattle.table.specs.declared.Refusal.{Refusal}
use Rattle.std.specs.Prelude.{◌≡◌, List, ℕ, length, Result}
use Rattle.table.specs.declared.Acceptance.{Acceptance}
use Rattle.table.specs.Table.{Table}
use Rattle.hoa.specs.declared.Hoa.{Hoa}
use Rattle.hoa.specs.Returned.{ReadInto}
use Rattle.writing.specs.Writing.{Gives}
use Rattle.hoa_written.specs.Written.{hoa_text}
use Rattle.hoa_written.specs.Writing.{write_refusal as hoa_refusal}
use Rattle.job_writer.specs.Written.{job_text}
use Rattle.job_writer.specs.Writing.{write_refusal as job_refusal}
use Rattle.face.specs.declared.hanoi.HoaNumbers.{HoaNumbers}
use Rattle.face.specs.declared.hanoi.TextNumbers.{TextNumbers}
use Rattle.face.specs.Hoa.{hoa_numbers, text_numbers}

-- ---- the reader

-- the numbers are those of the answer that the reader promises for this text and these tables, and the tables hold what it promises
pub record ReadTells (text from to marks : List ℕ) (r : HoaNumbers) (from' to' marks' : List ℕ) : Type 0 where
  pub answer : Hoa
  pub promised : ReadInto text from to marks from' to' marks' answer
  pub told : r ≡ hoa_numbers answer

-- ---- the writers

-- the numbers are those of what a writer gives for this text and this first cause to refuse, and the output holds what it promises
pub record TextTells (text : List ℕ) (cause : Result Unit Refusal) (out out' : List ℕ) (r : TextNumbers) : Type 0 where
  pub answer : Result ℕ Refusal
  pub promised : Gives text cause out out' answer
  pub told : r ≡ text_numbers answer

-- the writer of the Hanoi format
abbrev pub WriteTells : Table → Acceptance → List ℕ → List ℕ → List ℕ → TextNumbers → Type 0
WriteTells t c needs out out' r = TextTells (hoa_text t c needs) (hoa_refusal t c needs (length out)) out out' r

-- the writer of job texts
abbrev pub JobTells : Table → List ℕ → List ℕ → TextNumbers → Type 0
JobTells t out out' r = TextTells (job_text t) (job_refusal t (length out)) out out' r
