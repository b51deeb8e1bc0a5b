-- What one look over all edges shows, without a word on where a fault is (src/edges.rt). Assumes nothing.
use Rattle.std.specs.Prelude.{◌≡◌, List, ℕ, zero, suc, ◌≤◌, ◌<◌, length, get_or}
use Rattle.marks.specs.Mark.{Covers}
use Rattle.table.specs.Refusal.{most_edges}

-- rows 1 to 4 have passed the lists: they are of equal length, and not too long
pub record Even (from to marks : List ℕ) : Type 0 where
  pub to_length : length to ≡ length from
  pub marks_length : length marks ≡ length from
  pub few : length from ≤ most_edges

-- the from state before edge e: 0 before the first
abbrev pub before : List ℕ → ℕ → ℕ
before from zero = 0
before from (suc e) = get_or from e 0

-- r is 1 if a is above b, else 0
pub record Above (a b r : ℕ) : Type 0 where
  pub most : r ≤ 1
  pub over : b < a → r ≡ 1
  pub not_over : a ≤ b → r ≡ 0

-- of the edges below e: if `astray` is 0 none arrives above `top`; `last` is the from state of the last; `union` has each mark that one bears; and if
-- `falls` is 0 no from state is below the one before it
pub record Shows (top : ℕ) (from to marks : List ℕ) (e astray last union falls : ℕ) : Type 0 where
  pub arrives : astray ≡ 0 → (d : ℕ) → d < e → get_or to d 0 ≤ top
  pub leaves : last ≡ before from e
  pub bears : (d : ℕ) → d < e → Covers union (get_or marks d 0)
  pub rises : falls ≡ 0 → (d : ℕ) → d < e → before from d ≤ get_or from d 0
