-- How a text is cut into lines (docs/RULES.md, "The job text and the printed answer"); fields and words are passed on from the crate `job_values`.
-- Assumes nothing.
use Rattle.std.specs.Prelude.{Bool, cond, List, [], ◌∷◌, ℕ, eqb, length, take}
pub use Rattle.job_values.specs.Bytes.{newline, comma, longer_field, FirstAt}
unfoldable pub use Rattle.job_values.specs.Bytes.{fields, same, ahead}

-- ---- lines: "Lines end in one newline byte"

pub data Lines : Type 0 where
  -- no byte is left
  done : Lines
  -- bytes are left, and no newline byte among them: "a last line without it counts as missing"
  broken : Lines
  -- a line without its newline byte, and the lines after it
  line : List ℕ → Lines → Lines

-- the first line begins with b
abbrev pub longer : ℕ → Lines → Lines
longer b done = broken
longer b broken = broken
longer b (line l ls) = line (b ∷ l) ls

unfoldable pub lines : List ℕ → Lines
lines [] = done
lines (b ∷ bs) = cond (eqb b newline) (line [] (lines bs)) (longer b (lines bs))

-- ---- keys

-- the line begins with the key, which ends in its `=` and has no other
abbrev pub begins : List ℕ → List ℕ → Bool
begins key l = same (take (length key) l) key
