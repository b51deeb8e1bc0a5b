-- What the readers' own answers say, in the words of Value.antt and Job.antt: one definition for each answer. Assumes nothing.
use Rattle.std.specs.Prelude.{◌≡◌, List, ℕ, suc, ◌+◌, ◌-◌, ◌≤◌, length, drop, Option, Some, None, Result, Ok, Err}
use Rattle.job_text.specs.declared.line.Span.{Span}
use Rattle.job_text.specs.declared.line.Fault.{Fault}
use Rattle.job_text.specs.declared.line.LineStart.{LineStart}
use Rattle.table.specs.Row.{part}
use Rattle.job_values.specs.inner.Field.{Within}
use Rattle.job_text.specs.Text.{lines}
use Rattle.job_text.specs.Job.{missing, value, keyed, Cause, number_of, ColumnOf, Found, found, refused, Reader}

-- ---- where a line's value stands. `drop next text` is what follows: a text is read from a place on

-- the value stands behind the key, up to the newline byte, and the lines follow that
pub record Standing (text : List ℕ) (at : ℕ) (key : List ℕ) (r : Span) : Type 0 where
  pub behind : r.from ≡ at + length key
  pub within : Within text r.from r.end
  pub is : keyed key (lines (drop at text)) ≡ value (part r.from r.end text) (lines (drop (r.end + 1) text))

abbrev pub SpanAt : List ℕ → ℕ → List ℕ → Option Span → Type 0
SpanAt text at key (Some r) = Standing text at key r
SpanAt text at key None = keyed key (lines (drop at text)) ≡ missing

-- ---- faults

abbrev pub fault_at : ℕ → ℕ → ℕ → Fault
fault_at number line column = record { number = number; line = line; column = column }

-- the reader's words for what is wrong with a line; the column is one of the text's, or the next
pub record FaultAs (text : List ℕ) (why : Cause) (place : ℕ) (f : Fault) : Type 0 where
  pub number : f.number ≡ number_of why
  pub line : f.line ≡ place
  pub column : ColumnOf why f.column
  pub short : f.column ≤ suc (length text)

-- the first faulty one of some lines, and so it is said
pub record Blamed {A : Type 0} (text : List ℕ) (said : Found A) (f : Fault) : Type 0 where
  pub why : Cause
  pub place : ℕ
  pub is : said ≡ refused why place
  pub worded : FaultAs text why place f

-- ---- lines

-- the line must be there
abbrev pub AskedAt : List ℕ → LineStart → List ℕ → Result Span Fault → Type 0
AskedAt text start key (Ok r) = Standing text start.at key r
AskedAt text start key (Err f) = (keyed key (lines (drop start.at text)) ≡ missing) × (f ≡ fault_at 21 start.line 1)

-- what was read behind the key, and where the next line begins; or row 22 where it went wrong
abbrev pub line_says : {A : Type 0} → LineStart → Span → Result A ℕ → Result (A × LineStart) Fault
line_says start r (Ok a) = Ok (a, record { at = r.end + 1; line = start.line + 1 })
line_says start r (Err e) = Err (fault_at 22 start.line (suc (e - start.at)))

-- what some lines say from where a line begins
abbrev pub from_line : {A : Type 0} → List ℕ → LineStart → Reader A → Found A
from_line text start read = read start.line (lines (drop start.at text))

-- they say a, and the next line begins there
abbrev pub SaysTo : {A : Type 0} → List ℕ → Found A → A → LineStart → Type 0
SaysTo text said a next = said ≡ found a next.line (lines (drop next.at text))

-- they say a value, in the reader's words, or the first faulty one is at fault
abbrev pub SaidAs : {A B : Type 0} → (B → A) → List ℕ → Found A → Result (B × LineStart) Fault → Type 0
SaidAs in_words text said (Ok r) = SaysTo text said (in_words r.0) r.1
SaidAs in_words text said (Err f) = Blamed text said f

abbrev pub ReadAt : {A : Type 0} → List ℕ → Reader A → LineStart → Result (A × LineStart) Fault → Type 0
ReadAt text read start r = SaidAs (λ a. a) text (from_line text start read) r
