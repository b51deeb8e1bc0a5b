-- The order of the translated edges, and what follows from a position (docs/RULES.md, "One-mark translation": "Translated edges stand by source
-- state, then level, then the source edge's place in its row"). Assumes nothing.
use Rattle.std.specs.Prelude.{cond, List, [], ◌∷◌, ◌++◌, ℕ, zero, suc, ◌+◌, ◌-◌, ◌*◌, ◌/◌, ◌%◌, ltb, get_or}
use Rattle.table.specs.Table.{Table}
use Rattle.climbing.specs.Climb.{levels}

-- ---- rows

-- how many cells at the front of a list hold a number below s
abbrev pub front : ℕ → List ℕ → ℕ
front s [] = 0
front s (x ∷ xs) = cond (ltb x s) (suc (front s xs)) 0

-- the row of s begins at this edge, and ends before the one at which the next row begins (`Order.table_row`, in proofs/)
abbrev pub row_start : Table → ℕ → ℕ
row_start t s = front s t.from

abbrev pub row_length : Table → ℕ → ℕ
row_length t s = row_start t (suc s) - row_start t s

-- ---- the order

-- what f gives for the numbers a, a+1, .., as many as n
abbrev pub cells : (ℕ → ℕ) → ℕ → ℕ → List ℕ
cells f a zero = []
cells f a (suc n) = f a ∷ cells f (suc a) n

-- the lists that f gives for the numbers a, a+1, .., as many as n, one behind the other
abbrev pub each : (ℕ → List ℕ) → ℕ → ℕ → List ℕ
each f a zero = []
each f a (suc n) = f a ++ each f (suc a) n

-- for every edge of the row of s in turn, taken at level j: what f gives for that level and edge
abbrev pub level_cells : Table → (ℕ → ℕ → ℕ) → ℕ → ℕ → List ℕ
level_cells t f s j = cells (f j) (row_start t s) (row_length t s)

-- so for every level in turn
abbrev pub row_cells : Table → ℕ → (ℕ → ℕ → ℕ) → ℕ → List ℕ
row_cells t k f s = each (level_cells t f s) 0 (levels k)

-- and so for every state in turn
abbrev pub in_order : Table → ℕ → (ℕ → ℕ → ℕ) → List ℕ
in_order t k f = each (row_cells t k f) 0 t.states

-- ---- the position rule: with the row of edge e's state beginning at edge a and w edges long, edge e at level j stands at a·K + j·w + (e - a)

abbrev pub leaves : Table → ℕ → ℕ
leaves t e = get_or t.from e 0

abbrev pub arrives : Table → ℕ → ℕ
arrives t e = get_or t.to e 0

unfoldable pub place : Table → ℕ → ℕ → ℕ → ℕ
place t k j e = row_start t (leaves t e) * levels k + j * row_length t (leaves t e) + (e - row_start t (leaves t e))

-- and back: position q stands among those of the state that edge q / K leaves
unfoldable pub state_at : Table → ℕ → ℕ → ℕ
state_at t k q = leaves t (q / levels k)

-- how far position q stands behind the first of its state
unfoldable pub behind : Table → ℕ → ℕ → ℕ
behind t k q = q - row_start t (state_at t k q) * levels k

-- the level of the translated edge at position q
unfoldable pub level_at : Table → ℕ → ℕ → ℕ
level_at t k q = behind t k q / row_length t (state_at t k q)

-- the edge that is taken there
unfoldable pub edge_at : Table → ℕ → ℕ → ℕ
edge_at t k q = row_start t (state_at t k q) + behind t k q % row_length t (state_at t k q)
