-- The rows of a table and the order of the translated edges. Assumes nothing.
use mathlib.Core.Path.{◌≡◌, refl, ap, ◌∙◌}
use mathlib.Core.Bool.{Bool, cond}
use mathlib.Core.List.{List, [], ◌∷◌}
use Prim.Native.Nat.{ℕ, zero, suc, ◌+◌, ◌*◌, ◌≤◌, ◌<◌}
use native.Mathlib.Nat.{zero-add}
use native.Mathlib.Omega.{arith}
use lib.ListN.{length, get_or}
use borrow.Author.Tests.{lt-ltb, le-ltb}
use Rattle.marks.proofs.Cases.{below}
use Rattle.table.specs.Table.{Table}
use Rattle.table.specs.Refusal.{Proper}
use Rattle.table.specs.Row.{Row}
use Rattle.table.proofs.Rows.{Sorted, sorted_far, Begins}
use Rattle.climbing.specs.Climb.{levels}
use Rattle.climbing.specs.Place.{front, row_start, row_length, each, level_cells, row_cells, in_order}
use Rattle.climbing.proofs.Lists.{length_cells, cells_at, each_even, each_length, each_at}
use Rattle.climbing.proofs.Numbers.{level_fits}

-- ---- the front of a list

front_more : (s x : ℕ) (xs : List ℕ) → x < s → front s (x ∷ xs) ≡ suc (front s xs)
front_more s x xs l = ap (λ (b : Bool). cond b (suc (front s xs)) 0) (lt-ltb x s l)

front_none : (s x : ℕ) (xs : List ℕ) → s ≤ x → front s (x ∷ xs) ≡ 0
front_none s x xs l = ap (λ (b : Bool). cond b (suc (front s xs)) 0) (le-ltb x s l)

pub front_most : (s : ℕ) (xs : List ℕ) → front s xs ≤ length xs
front_most s [] = omega arith
front_most s (x ∷ xs) = below x s (λ l. omega (arith, front_more s x xs l, front_most s xs)) (λ l. omega (arith, front_none s x xs l))

pub front_up : (s : ℕ) (xs : List ℕ) → front s xs ≤ front (suc s) xs
front_up s [] = omega arith
front_up s (x ∷ xs) =
    below x s
    (λ l. omega (arith, front_more s x xs l, front_more (suc s) x xs (omega arith), front_up s xs))
    (λ l. omega (arith, front_none s x xs l))

pub front_zero : (xs : List ℕ) → front 0 xs ≡ 0
front_zero [] = refl
front_zero (x ∷ xs) = front_none 0 x xs (omega arith)

front_smaller : (s : ℕ) (xs : List ℕ) (e : ℕ) → e < front s xs → get_or xs e 0 < s
front_smaller s [] e h = absurd (omega arith)
front_smaller s (x ∷ xs) zero h = below x s (λ l. l) (λ l. absurd (omega (arith, front_none s x xs l)))
front_smaller s (x ∷ xs) (suc e) h =
    below x s (λ l. front_smaller s xs e (omega (arith, front_more s x xs l))) (λ l. absurd (omega (arith, front_none s x xs l)))

-- in a sorted list the cells behind the front are no smaller
front_larger : (s : ℕ) (xs : List ℕ) → Sorted xs → (e : ℕ) → front s xs ≤ e → e < length xs → s ≤ get_or xs e 0
front_larger s [] up e l h = absurd (omega arith)
front_larger s (x ∷ xs) up zero l h = below x s (λ m. absurd (omega (arith, front_more s x xs m))) (λ m. m)
front_larger s (x ∷ xs) up (suc e) l h =
    below x s
    (λ m. front_larger s xs (λ i k. up (suc i) (omega arith)) e (omega (arith, front_more s x xs m)) (omega arith))
    (λ m. omega (arith, rw zero-add at (sorted_far (x ∷ xs) up 0 (suc e) (omega arith))))

-- ---- where a row begins

pub front_begins : (s : ℕ) (from : List ℕ) → Sorted from → Begins from s (front s from)
front_begins s from up = record { within = front_most s from; smaller = front_smaller s from; larger = front_larger s from up }

-- a row begins at one place only
begins_once : (from : List ℕ) (s a b : ℕ) → Begins from s a → Begins from s b → a ≤ b
begins_once from s a b p q =
    below b a (λ l. absurd (omega (arith, p.smaller b l, q.larger b (omega arith) (omega (arith, p.within))))) (λ l. l)

pub begins_front : (from : List ℕ) (s a : ℕ) → Sorted from → Begins from s a → front s from ≡ a
begins_front from s a up b =
    let f = front_begins s from up in
    omega (arith, begins_once from s a (front s from) b f, begins_once from s (front s from) a f b)

module _ (t : Table) (proper : Proper t) where
  pub sorted : Sorted t.from
  sorted e h = proper.sorted e (omega (arith, proper.from_length))

  -- the edges from `row_start` on, as many as `row_length`, are the row of s
  pub table_row : (s : ℕ) → Row t.from s (row_start t s) (row_start t (suc s))
  table_row s =
      let here = front_begins s t.from sorted in
      let next = front_begins (suc s) t.from sorted in
      record {
        ordered = front_up s t.from;
        ends = next.within;
        before = here.smaller;
        inside = λ e l h. omega (arith, here.larger e l (omega (arith, next.within)), next.smaller e h);
        after = λ e l h. next.larger e l h;
      }

  -- behind the last state's row there are no edges
  pub all_begins : Begins t.from t.states t.edges
  all_begins = record { within = omega (arith, proper.from_length); smaller = λ e h. proper.from_below e h; larger = λ e l h. absurd (omega (arith, proper.from_length)) }

  pub rows_end : row_start t t.states ≡ t.edges
  rows_end = begins_front t.from t.states t.edges sorted all_begins

-- ---- the order, for whatever f gives for a level and an edge

module _ (t : Table) (k : ℕ) (f : ℕ → ℕ → ℕ) where
  level_length : (s j : ℕ) → length (level_cells t f s j) ≡ row_length t s
  level_length s j = length_cells (f j) (row_start t s) (row_length t s)

  row_length_lem : (s : ℕ) → length (row_cells t k f s) ≡ levels k * row_length t s
  row_length_lem s = each_even (level_cells t f s) (row_length t s) (level_length s) (levels k)

  row_next : (s : ℕ) → row_start t (suc s) * levels k ≡ row_start t s * levels k + length (row_cells t k f s)
  row_next s =
      let w : row_start t (suc s) ≡ row_start t s + row_length t s = omega (arith, front_up s t.from) in
      rw w (omega (arith, row_length_lem s))

  none_before : row_start t 0 * levels k ≡ 0
  none_before = rw (front_zero t.from) (omega arith)

  -- the rows of the first s states take up so many places
  pub order_length : (s : ℕ) → length (each (row_cells t k f) 0 s) ≡ row_start t s * levels k
  order_length s =
      omega (arith, each_length (row_cells t k f) (λ i. row_start t i * levels k) row_next 0 s, none_before, ap (λ (i : ℕ). row_start t i * levels k) (zero-add s))

  -- place i of the row of s at level j
  pub order_cell : (s j i : ℕ) → s < t.states → j < levels k → i < row_length t s
      → get_or (in_order t k f) (row_start t s * levels k + j * row_length t s + i) 0 ≡ f j (row_start t s + i)
  order_cell s j i ls lj li =
      let w = row_length t s in
      let in-level : j * w + i < length (row_cells t k f s) = omega (arith, row_length_lem s, level_fits j (levels k) w lj) in
      let at_state = each_at (row_cells t k f) (λ h. row_start t h * levels k) row_next 0 t.states s (j * w + i) (row_start t s * levels k + j * w + i)
      (omega arith) (omega arith) in-level (omega (arith, none_before)) in
      let at_level = each_at (level_cells t f s) (λ h. h * w) (λ h. omega (arith, level_length s h)) 0 (levels k) j i (j * w + i)
      (omega arith) (omega arith) (omega (arith, level_length s j)) (omega arith) in
      at_state ∙ at_level ∙ cells_at (f j) (row_start t s) w i li

-- the lifted lists have m·K cells
pub whole_length : (t : Table) → Proper t → (k : ℕ) (f : ℕ → ℕ → ℕ) → length (in_order t k f) ≡ t.edges * levels k
whole_length t proper k f = order_length t k f t.states ∙ rw (rows_end t proper)
