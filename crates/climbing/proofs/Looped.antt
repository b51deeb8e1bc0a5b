-- The table with a loop at each stop state: its rows, and that it is a table without stop states. Then the table that is lifted, by whether k is 0.
-- Assumes nothing.
use mathlib.Core.Path.{◌≡◌, refl, ap, ◌∙◌}
use mathlib.Core.List.{List}
use Prim.Native.Nat.{ℕ, zero, suc, ◌+◌, ◌-◌, ◌≤◌, ◌<◌}
use native.Mathlib.Omega.{arith}
use native.Mathlib.Nat.{zero-add, add-zero, add-suc}
use lib.ListN.{length, get_or, replicate, length-append, length-replicate, get_or-append}
use Rattle.marks.proofs.Cases.{same, below}
use Rattle.table.specs.Table.{Table, lent, Stop, borne}
use Rattle.table.specs.Refusal.{most_states, most_edges, Proper}
use Rattle.table.proofs.Rows.{Begins}
use Rattle.climbing.specs.Place.{row_start, row_length, cells, each, leaves, arrives}
use Rattle.climbing.specs.Source.{halts, stops, row_or, looped, source}
use Rattle.climbing.proofs.Lists.{length_cells, cells_at, each_length, each_at}
use Rattle.climbing.proofs.Order.{front_zero, front_up, begins_front, rows_end}
use Rattle.climbing.proofs.StopStates.{row_edge, stop_none, stops_most}

-- ---- where the rows begin with a loop at each stop state

abbrev pub begin : Table → ℕ → ℕ
begin t s = row_start t s + stops t.from s

-- place e is in the row of a state below n
pub record Within (t : Table) (n e : ℕ) : Type 0 where
  pub state : ℕ
  pub under : state < n
  pub from : begin t state ≤ e
  pub to : e < begin t (suc state)

module _ (t : Table) where
  begin_zero : begin t 0 ≡ 0
  begin_zero = omega (arith, front_zero t.from)

  pub within : (n e : ℕ) → e < begin t n → Within t n e
  within zero e l = absurd (omega (arith, begin_zero))
  within (suc n) e l =
      below e (begin t n)
      (λ h. let w = within n e h in record { state = w.state; under = omega (arith, w.under); from = w.from; to = w.to })
      (λ h. record { state = n; under = omega arith; from = h; to = l })

  pub begin_next : (s : ℕ) → begin t (suc s) ≡ begin t s + (row_length t s + halts t.from s)
  begin_next s = omega (arith, front_up s t.from)

  begin_far : (s d : ℕ) → begin t s ≤ begin t (s + d)
  begin_far s zero = omega (arith, ap (begin t) (add-zero s))
  begin_far s (suc d) = omega (arith, begin_far s d, begin_next (s + d), ap (begin t) (add-suc s d))

  pub begin_up : (s s' : ℕ) → s ≤ s' → begin t s ≤ begin t s'
  begin_up s s' l = let far : s + (s' - s) ≡ s' = omega arith in omega (arith, begin_far s (s' - s), ap (begin t) far)

  -- ---- a list of the looped table: f for an edge, x s for the loop of s

  module _ (f x : ℕ → ℕ) where
    abbrev row : ℕ → List ℕ
    row s = row_or t f (x s) s

    row_long : (s : ℕ) → length (row s) ≡ row_length t s + halts t.from s
    row_long s =
        omega (
          arith,
          length-append (cells f (row_start t s) (row_length t s)) (replicate (halts t.from s) (x s)),
          length_cells f (row_start t s) (row_length t s),
          length-replicate {A = ℕ} (halts t.from s) (x s),
        )

    next : (s : ℕ) → begin t (suc s) ≡ begin t s + length (row s)
    next s = omega (arith, begin_next s, row_long s)

    pub list_long : (n : ℕ) → length (each row 0 n) ≡ begin t n
    list_long n = omega (arith, each_length row (begin t) next 0 n, begin_zero, ap (begin t) (zero-add n))

    -- a cell of the row of s
    pub list_cell : (n s i : ℕ) → s < n → i < row_length t s + halts t.from s → get_or (each row 0 n) (begin t s + i) 0 ≡ get_or (row s) i 0
    list_cell n s i l h = each_at row (begin t) next 0 n s i (begin t s + i) (omega arith) (omega arith) (omega (arith, row_long s)) (omega (arith, begin_zero))

    pub cell_own : (n s i : ℕ) → s < n → i < row_length t s → get_or (each row 0 n) (begin t s + i) 0 ≡ f (row_start t s + i)
    cell_own n s i l h =
        let own = cells f (row_start t s) (row_length t s) in
        list_cell n s i l (omega arith) ∙ get_or-append own (replicate (halts t.from s) (x s)) 0 i (omega (arith, length_cells f (row_start t s) (row_length t s)))
        ∙ cells_at f (row_start t s) (row_length t s) i h

    pub cell_loop : (n s : ℕ) → s < n → row_length t s ≡ 0 → get_or (each row 0 n) (begin t s + 0) 0 ≡ x s
    cell_loop n s l none = list_cell n s 0 l (omega arith) ∙ rw none

-- ---- the looped table is a table

module _ (t : Table) (proper : Proper t) where
  -- the row of a place: its own edges, or the loop of a stop state
  pub by_row : {C : Type 0} (e : ℕ) (w : Within t t.states e)
      → ((i : ℕ) → e ≡ begin t w.state + i → i < row_length t w.state → C)
      → (e ≡ begin t w.state + 0 → row_length t w.state ≡ 0 → C) → C
  by_row e w own loop =
      same (row_length t w.state) 0
      (λ none. loop (omega (arith, begin_next t w.state, w.from, w.to)) none)
      (λ some. own (e - begin t w.state) (omega (arith, w.from)) (omega (arith, begin_next t w.state, w.from, w.to)))

  -- a cell of a list of the looped table
  pub own_cell : (f x : ℕ → ℕ) (e s i : ℕ) → s < t.states → e ≡ begin t s + i → i < row_length t s
      → get_or (each (λ s. row_or t f (x s) s) 0 t.states) e 0 ≡ f (row_start t s + i)
  own_cell f x e s i l q h = rw q (cell_own t f x t.states s i l h)

  pub loop_cell : (f x : ℕ → ℕ) (e s : ℕ) → s < t.states → e ≡ begin t s + 0 → row_length t s ≡ 0
      → get_or (each (λ s. row_or t f (x s) s) 0 t.states) e 0 ≡ x s
  loop_cell f x e s l q none = rw q (cell_loop t f x t.states s l none)

  pub from_state : (e : ℕ) (w : Within t t.states e) → leaves (looped t) e ≡ w.state
  from_state e w =
      by_row e w
      (λ i q h. own_cell (leaves t) (λ s. s) e w.state i w.under q h ∙ (row_edge t proper w.state i h).leaves)
      (λ q none. loop_cell (leaves t) (λ s. s) e w.state w.under q none)

  all_edges : begin t t.states ≡ (looped t).edges
  all_edges = omega (arith, rows_end t proper)

  -- the list of an edge's fate is m + z long
  pub looped_length : (f x : ℕ → ℕ) → length (each (λ s. row_or t f (x s) s) 0 t.states) ≡ (looped t).edges
  looped_length f x = list_long t f x t.states ∙ all_edges

  pub find : (e : ℕ) → e < (looped t).edges → Within t t.states e
  find e l = within t t.states e (omega (arith, all_edges))

  -- a later place is in no earlier row
  later : (e f : ℕ) (v : Within t t.states e) (w : Within t t.states f) → e ≤ f → v.state ≤ w.state
  later e f v w l =
      below w.state v.state
      (λ h. absurd (omega (arith, begin_up t (suc w.state) v.state h, v.from, w.to)))
      (λ h. h)

  looped_sorted : (e : ℕ) → suc e < (looped t).edges → leaves (looped t) e ≤ leaves (looped t) (suc e)
  looped_sorted e l =
      let v = find e (omega arith) in
      let w = find (suc e) l in
      omega (arith, from_state e v, from_state (suc e) w, later e (suc e) v w (omega arith))

  looped_begins : (s : ℕ) → s ≤ t.states → Begins (looped t).from s (begin t s)
  looped_begins s l =
      record {
        within = omega (arith, looped_length (leaves t) (λ s. s), begin_up t s t.states l, all_edges);
        smaller = λ e h.
            let w = within t s e h in
            let v : Within t t.states e = record { state = w.state; under = omega (arith, w.under); from = w.from; to = w.to } in
            omega (arith, from_state e v, w.under);
        larger = λ e h m.
            let w = find e (omega (arith, looped_length (leaves t) (λ s. s))) in
            below w.state s
            (λ n. absurd (omega (arith, begin_up t (suc w.state) s n, w.to)))
            (λ n. omega (arith, from_state e w));
      }

  -- its rows
  pub looped_start : (s : ℕ) → s ≤ t.states → row_start (looped t) s ≡ begin t s
  looped_start s l =
      begins_front (looped t).from s (begin t s) (λ e h. looped_sorted e (omega (arith, looped_length (leaves t) (λ s. s)))) (looped_begins s l)

  pub looped_long : (s : ℕ) → s < t.states → row_length (looped t) s ≡ row_length t s + halts t.from s
  looped_long s l = omega (arith, looped_start s (omega arith), looped_start (suc s) l, begin_next t s)

  pub looped_proper : (looped t).edges ≤ most_edges → Proper (looped t)
  looped_proper few =
      record {
        some = proper.some;
        few = proper.few;
        from_length = looped_length (leaves t) (λ s. s);
        to_length = looped_length (arrives t) (λ s. s);
        marks_length = looped_length (borne t) (λ s. 0);
        few_edges = few;
        start_below = proper.start_below;
        from_below = λ e l. let w = find e l in omega (arith, from_state e w, w.under);
        to_below = λ e l.
            let w = find e l in
            by_row e w
            (λ i q h.
            let below-n = proper.to_below (row_start t w.state + i) (row_edge t proper w.state i h).listed in
            omega (arith, own_cell (arrives t) (λ s. s) e w.state i w.under q h, below-n))
            (λ q none. omega (arith, loop_cell (arrives t) (λ s. s) e w.state w.under q none, w.under));
        sorted = looped_sorted;
      }

  -- it has no stop state
  pub none_stops : (looped t).edges ≤ most_edges → (s : ℕ) → Stop (looped t) s → ⊥
  none_stops few s p = omega (arith, stop_none (looped t) (looped_proper few) s p, looped_long s p.state)

-- ---- the table that is lifted, by whether k is 0

pub source_states : (t : Table) (k : ℕ) → (source t k).states ≡ t.states
source_states t zero = refl
source_states t (suc k) = refl

pub source_start : (t : Table) (k : ℕ) → (source t k).start ≡ t.start
source_start t zero = refl
source_start t (suc k) = refl

-- the states and where the edges leave tell how many edges it has
pub source_edges : (n start start' : ℕ) (from to marks to' marks' : List ℕ) (k : ℕ)
    → (source (lent n start from to marks) k).edges ≡ (source (lent n start' from to' marks') k).edges
source_edges n start start' from to marks to' marks' zero = refl
source_edges n start start' from to marks to' marks' (suc k) = refl

pub source_most : (t : Table) → Proper t → (k : ℕ) → (source t k).edges ≤ most_edges + most_states
source_most t proper zero = omega (arith, stops_most t.from t.states, proper.few, proper.few_edges)
source_most t proper (suc k) = omega (arith, proper.few_edges)

pub source_length : (t : Table) → Proper t → (k : ℕ) → length (source t k).from ≡ (source t k).edges
source_length t proper zero = looped_length t proper (leaves t) (λ s. s)
source_length t proper (suc k) = proper.from_length

pub source_proper : (t : Table) → Proper t → (k : ℕ) → (source t k).edges ≤ most_edges → Proper (source t k)
source_proper t proper zero few = looped_proper t proper few
source_proper t proper (suc k) few = proper
