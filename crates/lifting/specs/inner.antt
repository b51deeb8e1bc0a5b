-- What the writing functions ask and promise: cells written one behind the other, the rest as it was. Assumes nothing.
use Rattle.std.specs.Prelude.{◌≡◌, List, ◌++◌, ℕ, ◌+◌, ◌-◌, ◌≤◌, ◌<◌, length, get_or, replicate}
use Rattle.std.proofs.lemmas.List.Edits.{sets}
use Rattle.table.specs.Table.{Table}
use Rattle.climbing.specs.Climb.{number, landing, bearing}
use Rattle.climbing.specs.Place.{cells, each, row_cells}
use Rattle.climbing.specs.Translated.{lifted_from, lifted_to, lifted_marks}

-- the lists xs, ys and zs were written into the three outputs from place at on, and nothing else was changed
pub record Wrote (at : ℕ) (xs ys zs leaves arrives bears leaves' arrives' bears' : List ℕ) : Type 0 where
  pub from_cells : leaves' ≡ sets leaves at xs
  pub to_cells : arrives' ≡ sets arrives at ys
  pub marks_cells : bears' ≡ sets bears at zs

-- each output has so much room from place at on
pub record Room (at room : ℕ) (leaves arrives bears : List ℕ) : Type 0 where
  pub for_from : at + room ≤ length leaves
  pub for_to : at + room ≤ length arrives
  pub for_marks : at + room ≤ length bears

-- ---- a row, of state s, handed on as its part of `to` and of `marks`

-- its edges arrive at states
pub record RowAsked (n s : ℕ) (to marks : List ℕ) : Type 0 where
  pub state : s < n
  pub even : length to ≡ length marks
  pub ends : (i : ℕ) → i < length to → get_or to i 0 < n

-- what stands in the three outputs for its edges, taken at level j
abbrev pub part_from : ℕ → ℕ → List ℕ → ℕ → List ℕ
part_from k s to j = cells (λ i. number k s j) 0 (length to)

abbrev pub part_to : ℕ → List ℕ → List ℕ → ℕ → List ℕ
part_to k to marks j = cells (λ i. number k (get_or to i 0) (landing k (get_or marks i 0) j)) 0 (length to)

abbrev pub part_marks : ℕ → List ℕ → List ℕ → ℕ → List ℕ
part_marks k to marks j = cells (λ i. bearing k (get_or marks i 0) j) 0 (length to)

-- its edges were written at level j
abbrev pub LevelWritten : ℕ → ℕ → ℕ → ℕ → List ℕ → List ℕ → List ℕ → List ℕ → List ℕ → List ℕ → List ℕ → List ℕ → Type 0
LevelWritten k s j at to marks leaves arrives bears leaves' arrives' bears' =
    Wrote at (part_from k s to j) (part_to k to marks j) (part_marks k to marks j) leaves arrives bears leaves' arrives' bears'

-- its edges were written at the first h levels
abbrev pub RowWritten : ℕ → ℕ → ℕ → ℕ → List ℕ → List ℕ → List ℕ → List ℕ → List ℕ → List ℕ → List ℕ → List ℕ → Type 0
RowWritten k s h at to marks leaves arrives bears leaves' arrives' bears' =
    Wrote at (each (part_from k s to) 0 h) (each (part_to k to marks) 0 h) (each (part_marks k to marks) 0 h) leaves arrives bears leaves' arrives' bears'

-- with k = 0 a row `to` without edges is that of a stop state and gets a loop: the list xs, and x for the loop
abbrev pub or_loop : ℕ → List ℕ → ℕ → List ℕ → List ℕ
or_loop k to x xs = xs ++ replicate (1 - (k + length to)) x

-- its edges, or its loop, were written at all K levels
abbrev pub StateWritten : ℕ → ℕ → ℕ → ℕ → List ℕ → List ℕ → List ℕ → List ℕ → List ℕ → List ℕ → List ℕ → List ℕ → Type 0
StateWritten k s K at to marks = RowWritten k s K at (or_loop k to s to) (or_loop k to 0 marks)

-- ---- the whole table

-- the rows of the first h states were written
abbrev pub StatesWritten : Table → ℕ → ℕ → List ℕ → List ℕ → List ℕ → List ℕ → List ℕ → List ℕ → Type 0
StatesWritten t k h leaves arrives bears leaves' arrives' bears' =
    Wrote 0 (each (row_cells t k (lifted_from t k)) 0 h) (each (row_cells t k (lifted_to t k)) 0 h) (each (row_cells t k (lifted_marks t k)) 0 h)
    leaves arrives bears leaves' arrives' bears'
