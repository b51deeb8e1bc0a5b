-- What the public contracts settle: any two results that they allow for one input are the same.
-- Assumes nothing.
use mathlib.Core.Path.{◌≡◌, sym, ap, ◌∙◌}
use mathlib.Core.Bool.{Bool, true, false}
use mathlib.Core.List.{List, [], ◌∷◌, ◌++◌}
use Prim.Native.Nat.{ℕ}
use lib.Dec.{ltb}
use lib.ListN.{length, take, drop, take-append-drop}
use Rattle.job_values.specs.Column.{RightLine}
use Rattle.job_values.proofs.Spoken.{same_is}
use Rattle.job_values.proofs.Columns.{first_wrong_once}
use Rattle.job_text.specs.declared.reader.Reading.{Reading}
use Rattle.job_text.specs.Text.{newline, Lines, lines, begins}
use Rattle.job_text.specs.Job.{most_bytes, Cause, absent, unformed, large, Found, found, refused, job_lines, read_job, ColumnOf, ColumnIn, ColumnIf, Column}
use Rattle.job_text.specs.Reading.{reading_of, Read}

-- ---- the line that `Column` speaks of

-- a line that has its key is the key and the value behind it
pub line_whole : (key l : List ℕ) → begins key l ≡ true → l ≡ key ++ drop (length key) l
line_whole key l e = sym (take-append-drop (length key) l) ∙ ap (λ (z : List ℕ). z ++ drop (length key) l) (same_is (take (length key) l) key e)

-- ---- one result for one input

pub record SameReading (from to marks from' to' marks' : List ℕ) (r s : Reading) : Type 0 where
  pub reading : r ≡ s
  pub froms : from ≡ from'
  pub tos : to ≡ to'
  pub sets : marks ≡ marks'

-- a text has one column
by_cause : (why : Cause) (c d : ℕ) → ColumnOf why c → ColumnOf why d → c ≡ d
by_cause absent c d p q = p ∙ sym q
by_cause (unformed key right v) c d p q = first_wrong_once (RightLine key right) (key ++ (v ++ (newline ∷ []))) c d p q
by_cause (large key) c d p q = p ∙ sym q

by_found : {A : Type 0} (f : Found A) (c d : ℕ) → ColumnIn f c → ColumnIn f d → c ≡ d
by_found (found a place ls) c d p q = p ∙ sym q
by_found (refused why place) c d p q = by_cause why c d p q

by_length : (long : Bool) (ls : Lines) (c d : ℕ) → ColumnIf long ls c → ColumnIf long ls d → c ≡ d
by_length true ls c d p q = p ∙ sym q
by_length false ls c d p q = by_found (job_lines 1 ls) c d p q

pub one_column : (text : List ℕ) (c d : ℕ) → Column text c → Column text d → c ≡ d
one_column text c d p q = by_length (ltb most_bytes (length text)) (lines text) c d p q

-- a text gives one reading and one content of the tables
pub one_reading : (text from to marks f t m f' t' m' : List ℕ) (r s : Reading) → Read text from to marks f t m r → Read text from to marks f' t' m' s
    → SameReading f t m f' t' m' r s
one_reading text from to marks f t m f' t' m' r s a b =
    let c = one_column text r.column s.column a.column b.column in
    record { reading = a.reading ∙ ap (reading_of (read_job text)) c ∙ sym b.reading; froms = a.froms ∙ sym b.froms; tos = a.tos ∙ sym b.tos; sets = a.sets ∙ sym b.sets }
