-- Where in a line its value stops being of its form (docs/RULES.md, "Columns"): a sentence about the set of right lines, apart from any reader.
-- Assumes nothing.
use Rattle.std.specs.Prelude.{◌≡◌, Bool, true, false, List, [], ◌∷◌, ◌++◌, ℕ, ◌<◌, take}
use Rattle.std.proofs.Math.Option.{Option, some, none}
use Rattle.job_values.specs.Bytes.{newline}

-- the bytes are of the form
abbrev pub given : {A : Type 0} → Option A → Bool
given none = false
given (some a) = true

-- the right lines: the key, a right value, the newline byte
pub record RightLine (key : List ℕ) (right : List ℕ → Bool) (l : List ℕ) : Type 0 where
  pub value : List ℕ
  pub is_right : right value ≡ true
  pub is : l ≡ key ++ (value ++ (newline ∷ []))

-- the bytes begin one of a set
pub record Begins (R : List ℕ → Type 0) (bs : List ℕ) : Type 0 where
  pub rest : List ℕ
  pub whole : R (bs ++ rest)

-- "the smallest c such that the first c bytes of the line, newline included, begin no line of the right form"
pub record FirstWrong (R : List ℕ → Type 0) (l : List ℕ) (c : ℕ) : Type 0 where
  pub none_begins : Begins R (take c l) → ⊥
  pub smallest : (d : ℕ) → d < c → Begins R (take d l)
