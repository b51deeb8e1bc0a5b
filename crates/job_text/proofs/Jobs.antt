-- The whole text: what the reader's parts say of it together. Assumes nothing.
use mathlib.Core.Path.{◌≡◌, refl, sym, ap, subst, ◌∙◌}
use mathlib.Core.List.{List}
use Prim.Native.Nat.{ℕ, ◌≤◌, ◌<◌}
use lib.ListN.{length}
use borrow.Author.Tests.{lt-ltb, le-ltb}
use Rattle.job_text.specs.declared.line.Fault.{Fault}
use Rattle.job_text.specs.declared.reader.Reading.{Reading}
use Rattle.job_text.specs.Text.{Lines, lines}
use Rattle.job_text.specs.Value.{Edge}
use Rattle.job_text.specs.Job.{Found, found, refused, Head, most_bytes, Job, job_of, job_lines, Outcome, job, fault, outcome, read_job, ColumnIn, Column}
use Rattle.job_text.specs.Given.{Blamed}
use Rattle.job_text.specs.Reading.{Held, refused_reading, reading_of, Read}

-- ---- what the text says

pub too_long : (text : List ℕ) → most_bytes < length text → read_job text ≡ fault 20 0
unfolding read_job
too_long text l = rw (lt-ltb most_bytes (length text) l)

module _ (text : List ℕ) (short : length text ≤ most_bytes) where
  -- the text, by what its lines say
  said_so : (o : Found Job) → job_lines 1 (lines text) ≡ o → read_job text ≡ outcome o
  unfolding read_job
  said_so o e = rw (le-ltb most_bytes (length text) short, e)

  column_so : (o : Found Job) → job_lines 1 (lines text) ≡ o → (c : ℕ) → ColumnIn o c → Column text c
  column_so o e c h = rw (le-ltb most_bytes (length text) short, e) h

  -- a fault of the lines is the text's
  pub lines_blamed : (f : Fault) (c : ℕ) → c ≡ f.column → Blamed text (job_lines 1 (lines text)) f → (read_job text ≡ fault f.number f.line) × (Column text c)
  lines_blamed f c q b =
      (said_so (refused b.why b.place) b.is ∙ rw (b.worded.number, b.worded.line), column_so (refused b.why b.place) b.is c (rw q b.worded.column))

  -- a job's lines are the text's
  pub job_said : (h : Head) (es : List Edge) (p : ℕ) (ms : Lines) → job_lines 1 (lines text) ≡ found (job_of h es) p ms → (read_job text ≡ job (job_of h es)) × (Column text 0)
  job_said h es p ms e = (said_so (found (job_of h es) p ms) e, column_so (found (job_of h es) p ms) e 0 refl)

-- a text that is too long has no column
pub long_column : (text : List ℕ) → most_bytes < length text → Column text 0
long_column text l = rw (lt-ltb most_bytes (length text) l)

-- ---- what the reader gives for it

pub read_refused : (text from to marks : List ℕ) (r : Reading) (x p c : ℕ) → r ≡ refused_reading x p c → (read_job text ≡ fault x p) × (Column text c)
    → Read text from to marks from to marks r
read_refused text from to marks r x p c e f =
    let k : r.column ≡ c = ap (λ (z : Reading). z.column) e in
    record {
      reading = subst (λ (o : Outcome). r ≡ reading_of o r.column) (sym f.0) (e ∙ ap (refused_reading x p) (sym k));
      column = subst (Column text) (sym k) f.1;
      froms = rw f.0;
      tos = rw f.0;
      sets = rw f.0;
    }

pub read_done : (text from to marks from' to' marks' : List ℕ) (r : Reading) (h : Head) (es : List Edge) → (read_job text ≡ job (job_of h es)) × (Column text 0)
    → Held es from' to' marks' → r ≡ reading_of (job (job_of h es)) 0 → Read text from to marks from' to' marks' r
read_done text from to marks from' to' marks' r h es f t e =
    let k : r.column ≡ 0 = ap (λ (z : Reading). z.column) e in
    record {
      reading = subst (λ (o : Outcome). r ≡ reading_of o r.column) (sym f.0) (e ∙ ap (reading_of (job (job_of h es))) (sym k));
      column = subst (Column text) (sym k) f.1;
      froms = rw f.0 t.froms;
      tos = rw f.0 t.tos;
      sets = rw f.0 t.sets;
    }
