-- The row of a state (docs/RULES.md, "Tables, walks and lassos": "the row of a state is one unbroken run of edge numbers, handed on as a part of the tables").
-- Assumes nothing.
use Rattle.std.specs.Prelude.{◌≡◌, cond, List, [], ◌∷◌, ℕ, suc, ◌-◌, ◌≤◌, ◌<◌, eqb, length, get_or, take, drop}

-- the part of a list from place a up to place b, as `&xs[a..b]` hands it on
abbrev pub part : ℕ → ℕ → List ℕ → List ℕ
part a b xs = take (b - a) (drop a xs)

-- how many cells at the front of a list hold s
abbrev pub run : ℕ → List ℕ → ℕ
run s [] = 0
run s (x ∷ xs) = cond (eqb x s) (suc (run s xs)) 0

-- the edges a up to b are the row of s: they are exactly those that leave s
pub record Row (from : List ℕ) (s a b : ℕ) : Type 0 where
  pub ordered : a ≤ b
  pub ends : b ≤ length from
  pub before : (e : ℕ) → e < a → get_or from e 0 < s
  pub inside : (e : ℕ) → a ≤ e → e < b → get_or from e 0 ≡ s
  pub after : (e : ℕ) → b ≤ e → e < length from → s < get_or from e 0
