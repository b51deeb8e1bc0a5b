-- Bytes: those that end lines and fields, fields, words (docs/RULES.md, "The job text and the printed answer"). Assumes nothing.
use Rattle.std.specs.Prelude.{◌≡◌, Bool, true, false, cond, ◌&&◌, List, [], ◌∷◌, ◌++◌, ℕ, suc, ◌+◌, ◌≤◌, eqb, length, drop}

abbrev pub newline : ℕ
newline = 10

abbrev pub comma : ℕ
comma = 44

-- a line: its key, its value, and "one newline byte"
abbrev pub shown : List ℕ → List ℕ → List ℕ
shown key value = (key ++ value) ++ (newline ∷ [])

-- ---- fields: what stands between commas, "numbers with commas"

abbrev pub longer_field : ℕ → List (List ℕ) → List (List ℕ)
longer_field b [] = (b ∷ []) ∷ []
longer_field b (f ∷ fs) = (b ∷ f) ∷ fs

unfoldable pub fields : List ℕ → List (List ℕ)
fields [] = [] ∷ []
fields (b ∷ bs) = cond (eqb b comma) ([] ∷ fields bs) (longer_field b (fields bs))

-- ---- words

-- the two are the same bytes
unfoldable pub same : List ℕ → List ℕ → Bool
same [] [] = true
same [] (b ∷ bs) = false
same (a ∷ xs) [] = false
same (a ∷ xs) (b ∷ bs) = eqb a b && same xs bs

-- ---- how far a byte is away: what a search finds

-- how many bytes stand before the first b; all of them where there is none
unfoldable pub ahead : ℕ → List ℕ → ℕ
ahead b [] = 0
ahead b (x ∷ xs) = cond (eqb x b) 0 (suc (ahead b xs))

-- r is the first place from `from` on at which b stands, or the end
pub record FirstAt (bs : List ℕ) (from b r : ℕ) : Type 0 where
  pub place : r ≡ from + ahead b (drop from bs)
  pub low : from ≤ r
  pub high : from ≤ length bs → r ≤ length bs
