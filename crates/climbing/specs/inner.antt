-- What the functions ask: a translation that is not too large, and rows in order. Assumes nothing.
use Rattle.std.specs.Prelude.{◌≡◌, List, ℕ, suc, ◌*◌, ◌≤◌, ◌<◌, length, get_or}
use Rattle.marks.specs.Mark.{width}
use Rattle.table.specs.Refusal.{most_states}
use Rattle.climbing.specs.Climb.{levels}

-- n states and k marks, so K levels; the translated table is not too large
pub record Ladder (n k K : ℕ) : Type 0 where
  pub few : k ≤ width
  pub all : K ≡ levels k
  pub small : n * K ≤ most_states

-- the from states never decrease
abbrev pub Rising : List ℕ → Type 0
Rising from = (e : ℕ) → suc e < length from → get_or from e 0 ≤ get_or from (suc e) 0
