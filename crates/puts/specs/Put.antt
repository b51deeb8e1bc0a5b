-- Texts into a lent buffer: the digits of a number, and what writing does (docs/RULES.md, "The job text and the printed answer"). Assumes nothing.
use Rattle.std.specs.Prelude.{◌≡◌, cond, List, [], ◌∷◌, ◌++◌, ℕ, zero, suc, ◌+◌, ◌/◌, ◌%◌, ◌≤◌, ltb, length}
use Rattle.std.proofs.lemmas.List.Edits.{sets}

-- ---- numbers: decimal digits, no leading zeros

-- in at most k + 1 digits
unfoldable pub decimal_in : ℕ → ℕ → List ℕ
decimal_in zero n = (48 + n % 10) ∷ []
decimal_in (suc k) n = cond (ltb n 10) ((48 + n) ∷ []) (decimal_in k (n / 10) ++ ((48 + n % 10) ∷ []))

-- a number has no more digits than itself and one
abbrev pub decimal : ℕ → List ℕ
decimal n = decimal_in n n

-- ---- texts

-- a key, a number in decimal digits, and one byte behind it
abbrev pub held : List ℕ → ℕ → ℕ → List ℕ
held key n last = (key ++ decimal n) ++ (last ∷ [])

-- the texts f 0 up to f (k - 1), one after another
unfoldable pub joined : (ℕ → List ℕ) → ℕ → List ℕ
joined f zero = []
joined f (suc k) = joined f k ++ f k

-- ---- what writing does

-- the bytes of the text were written from `at` on, as far as there is room, and r is the place after them
pub record Put (out out' : List ℕ) (at : ℕ) (text : List ℕ) (r : ℕ) : Type 0 where
  pub cells : out' ≡ sets out at text
  pub next : r ≡ at + length text

-- in at most so many bytes
pub record PutFew (out out' : List ℕ) (at : ℕ) (text : List ℕ) (r most : ℕ) : Type 0 where
  pub put : Put out out' at text r
  pub few : r ≤ at + most
