-- A row handed on as parts of the tables, or with k = 0 the loop of a stop state, gives the row's cells of the definition, and rows are written one
-- behind the other. Assumes nothing.
use mathlib.Core.Path.{◌≡◌, refl, sym, ap, ◌∙◌}
use mathlib.Core.List.{List, [], ◌∷◌, append-nil}
use Prim.Native.Nat.{ℕ, zero, suc, ◌+◌, ◌-◌, ◌*◌, ◌≤◌, ◌<◌}
use native.Mathlib.Nat.{zero-add}
use native.Mathlib.Numerals.{add-one}
use native.Mathlib.Omega.{arith}
use lib.ListN.{length, get_or}
use Rattle.marks.proofs.Cases.{same}
use Rattle.table.specs.Table.{Table, borne}
use Rattle.table.specs.Refusal.{Proper}
use Rattle.table.specs.Row.{part, run, Row}
use Rattle.table.proofs.Rows.{part_length, part_at, Begins}
use Rattle.climbing.specs.Climb.{levels, number, reached, landing, bearing}
use Rattle.climbing.specs.Place.{row_start, row_length, cells, each, row_cells, leaves, arrives}
use Rattle.climbing.specs.Source.{source}
use Rattle.climbing.specs.Translated.{lifted_from, lifted_to, lifted_marks}
use Rattle.lifting.specs.inner.{Wrote, Room, RowAsked, or_loop, RowWritten, StateWritten, StatesWritten}
use Rattle.climbing.proofs.Lists.{cells_same, each_same, no_cells}
use Rattle.climbing.proofs.Looped.{begin, own_cell, loop_cell, looped_start, looped_long}
use Rattle.climbing.proofs.Numbers.{rows_fit}
use Rattle.climbing.proofs.Order.{sorted, front_zero, front_up, front_most, begins_front, order_length}
use Rattle.climbing.proofs.Runs.{run_row, run_next, run_long}
use Rattle.lifting.proofs.Wrote.{Kept, wrote_run}

-- ---- a row, or a loop

-- where edges stand, or k is not 0, nothing is added
pub no_loop : (k : ℕ) (to : List ℕ) (x : ℕ) (xs : List ℕ) → 1 - (k + length to) ≡ 0 → or_loop k to x xs ≡ xs
no_loop k to x xs none = rw none (append-nil xs)

-- with k = 0 a row without edges is that of a loop
one_loop : (to xs : List ℕ) (x : ℕ) → length to ≡ 0 → length xs ≡ 0 → or_loop 0 to x xs ≡ x ∷ []
one_loop to xs x none same = rw (none, no_cells xs same)

pub loop_long : (k K s : ℕ) (to : List ℕ) → K ≡ levels k → (1 - (k + length to) ≡ 0 → ⊥) → K * length (or_loop k to s to) ≡ 1
loop_long zero K s [] all some = rw all
loop_long zero K s (x ∷ to) all some = absurd (some (omega arith))
loop_long (suc k) K s to all some = absurd (some (omega arith))

-- it is marked, and stands at its state
pub loop_written : {l a b l' a' b' : List ℕ} (k K s at : ℕ) (to marks : List ℕ) → K ≡ levels k → length to ≡ length marks → (1 - (k + length to) ≡ 0 → ⊥)
    → Wrote at (s ∷ []) (s ∷ []) (1 ∷ []) l a b l' a' b' → StateWritten k s K at to marks l a b l' a' b'
unfolding reached landing bearing
loop_written zero K s at [] [] all even some w =
    let here : number 0 s 0 ≡ s = omega arith in
    record { from_cells = rw (all, here) w.from_cells; to_cells = rw (all, here) w.to_cells; marks_cells = rw all w.marks_cells }
loop_written zero K s at [] (x ∷ marks) all even some w = absurd (omega arith)
loop_written zero K s at (x ∷ to) marks all even some w = absurd (some (omega arith))
loop_written (suc k) K s at to marks all even some w = absurd (some (omega arith))

-- ---- the row of s in the table u, as the lists `to` and `marks`

pub record RowOf (u : Table) (s : ℕ) (to marks : List ℕ) : Type 0 where
  pub long : length to ≡ row_length u s
  pub leaves_at : (i : ℕ) → i < row_length u s → leaves u (row_start u s + i) ≡ s
  pub to_at : (i : ℕ) → i < row_length u s → get_or to i 0 ≡ arrives u (row_start u s + i)
  pub marks_at : (i : ℕ) → i < row_length u s → get_or marks i 0 ≡ borne u (row_start u s + i)

module _ {u : Table} {s : ℕ} {to marks : List ℕ} (row : RowOf u s to marks) where
  start_next : row_start u (s + 1) ≡ row_start u s + length to
  start_next = rw add-one (omega (arith, row.long, front_up s u.from))

  -- cells made from the lists are the row's cells
  cells_of_row : (k : ℕ) (g f : ℕ → ℕ → ℕ) → ((j i : ℕ) → i < row_length u s → g j i ≡ f j (row_start u s + i))
      → each (λ j. cells (g j) 0 (length to)) 0 (levels k) ≡ row_cells u k f s
  cells_of_row k g f alike =
      each_same (λ j. cells (g j) 0 (length to)) (λ j. cells (f j) (row_start u s) (row_length u s)) 0 (levels k)
      (λ j l h. rw row.long (cells_same (g j) (f j) 0 (row_start u s) (row_length u s) (λ i m. rw (zero-add i) (alike j i m))))

  -- there is room for one row more
  pub row_room : {l b c l' b' c' : List ℕ} (K p : ℕ) → length u.from ≡ u.edges → Room 0 (u.edges * K) l b c → Kept l b c l' b' c' → p ≡ row_start u s * K
      → Room p (K * length to) l' b' c'
  row_room K p whole room kept e =
      let ends : row_start u s + length to ≤ u.edges = omega (arith, start_next, front_most (s + 1) u.from) in
      record {
        for_from = omega (arith, rows_fit (row_start u s + length to) u.edges K ends);
        for_to = omega (arith, rows_fit (row_start u s + length to) u.edges K ends);
        for_marks = omega (arith, rows_fit (row_start u s + length to) u.edges K ends);
      }

  -- the next place
  pub row_placed : (K p r : ℕ) → p ≡ row_start u s * K → r ≡ p + K * length to → r ≡ row_start u (s + 1) * K
  row_placed K p r e q = q ∙ rw start_next (omega arith)

  -- the row is written behind those before
  pub row_behind : {l b c l' b' c' l'' b'' c'' : List ℕ} (k K p : ℕ) → K ≡ levels k → p ≡ row_start u s * K
      → StatesWritten u k s l b c l' b' c' → RowWritten k s K p to marks l' b' c' l'' b'' c'' → StatesWritten u k (s + 1) l b c l'' b'' c''
  row_behind k K p all e written more =
      let place : row_start u s * K ≡ row_start u s * levels k = rw all in
      let from_cells = cells_of_row k (λ j i. number k s j) (lifted_from u k) (λ j i l. rw (row.leaves_at i l)) in
      let to_cells = cells_of_row k (λ j i. number k (get_or to i 0) (landing k (get_or marks i 0) j)) (lifted_to u k) (λ j i l. rw (row.to_at i l, row.marks_at i l)) in
      let marks_cells = cells_of_row k (λ j i. bearing k (get_or marks i 0) j) (lifted_marks u k) (λ j i l. rw (row.marks_at i l)) in
      wrote_run 0 p (row_cells u k (lifted_from u k)) (row_cells u k (lifted_to u k)) (row_cells u k (lifted_marks u k)) s written
      (rw (all, from_cells, to_cells, marks_cells) at more)
      (omega (arith, order_length u k (lifted_from u k) s))
      (omega (arith, order_length u k (lifted_to u k) s))
      (omega (arith, order_length u k (lifted_marks u k) s))

-- before the first row nothing is written
pub first_place : (u : Table) (K : ℕ) → 0 ≡ row_start u 0 * K
first_place u K = rw (front_zero u.from) (omega arith)

pub none_written : {l b c : List ℕ} (u : Table) (k : ℕ) → StatesWritten u k 0 l b c l b c
none_written u k = record { from_cells = refl; to_cells = refl; marks_cells = refl }

-- ---- in the table t the row of s begins at edge a and is w edges long

pub record RowAt (t : Table) (s a w : ℕ) : Type 0 where
  pub proper : Proper t
  pub state : s < t.states
  pub begins : Begins t.from s a
  pub long : w ≡ run s (part a (length t.from) t.from)

module _ {t : Table} {s a w : ℕ} (at : RowAt t s a w) where
  open at use {proper, state, begins, long}

  row : Row t.from s a (a + w)
  row = run_row t.from (sorted t proper) s a w begins long

  here : row_start t s ≡ a
  here = begins_front t.from s a (sorted t proper) begins

  wide : row_length t s ≡ w
  wide = run_long t.from (sorted t proper) s a w begins long

  pub row_ends : a + w ≤ t.edges
  row_ends = omega (arith, row.ends, proper.from_length)

  pub next : Begins t.from (s + 1) (a + w)
  next = run_next t.from (sorted t proper) s a w begins long

  abbrev to_part : List ℕ
  to_part = part a (a + w) t.to

  abbrev marks-part : List ℕ
  marks-part = part a (a + w) t.marks

  to_long : length to_part ≡ w
  to_long = part_length a (a + w) t.to (omega (arith, row_ends, proper.to_length)) ∙ omega arith

  marks_long : length marks-part ≡ w
  marks_long = part_length a (a + w) t.marks (omega (arith, row_ends, proper.marks_length)) ∙ omega arith

  part_to_lem : (i : ℕ) → i < w → get_or to_part i 0 ≡ arrives t (a + i)
  part_to_lem i l = part_at a (a + w) t.to i (omega arith)

  part_marks_lem : (i : ℕ) → i < w → get_or marks-part i 0 ≡ borne t (a + i)
  part_marks_lem i l = part_at a (a + w) t.marks i (omega arith)

  -- what the scanning functions ask of the parts
  pub row_asked : RowAsked t.states s to_part marks-part
  row_asked =
      record {
        state = state;
        even = to_long ∙ sym marks_long;
        ends = λ i h. rw (part_to_lem i (omega (arith, to_long))) (proper.to_below (a + i) (omega (arith, to_long, row_ends)));
      }

  -- the parts are the row of t ..
  own_row : RowOf t s to_part marks-part
  own_row =
      record {
        long = to_long ∙ sym wide;
        leaves_at = λ i l. rw here (row.inside (a + i) (omega arith) (omega (arith, wide)));
        to_at = λ i l. rw here (part_to_lem i (omega (arith, wide)));
        marks_at = λ i l. rw here (part_marks_lem i (omega (arith, wide)));
      }

  -- .. and, the stop state's row apart, of the table with loops
  looped_row : (w ≡ 0 → ⊥) → RowOf (source t 0) s to_part marks-part
  looped_row some =
      let u = source t 0 in
      let begin-at : row_start u s ≡ begin t s = looped_start t proper s (omega (arith, state)) in
      let width : row_length u s ≡ w = looped_long t proper s state ∙ omega (arith, wide) in
      record {
        long = to_long ∙ sym width;
        leaves_at = λ i l.
            own_cell t proper (leaves t) (λ s. s) (row_start u s + i) s i state (omega (arith, begin-at)) (omega (arith, width, wide))
            ∙ rw here (row.inside (a + i) (omega arith) (omega (arith, width)));
        to_at = λ i l.
            part_to_lem i (omega (arith, width))
            ∙ sym (own_cell t proper (arrives t) (λ s. s) (row_start u s + i) s i state (omega (arith, begin-at)) (omega (arith, width, wide)) ∙ rw here);
        marks_at = λ i l.
            part_marks_lem i (omega (arith, width))
            ∙ sym (own_cell t proper (borne t) (λ s. 0) (row_start u s + i) s i state (omega (arith, begin-at)) (omega (arith, width, wide)) ∙ rw here);
      }

  loop_row : w ≡ 0 → RowOf (source t 0) s (s ∷ []) (0 ∷ [])
  loop_row none =
      let u = source t 0 in
      let begin-at : row_start u s ≡ begin t s = looped_start t proper s (omega (arith, state)) in
      let width : row_length u s ≡ 1 = looped_long t proper s state ∙ omega (arith, wide) in
      let at-loop : (i : ℕ) → i < row_length u s → row_start u s + i ≡ begin t s + 0 = λ i l. omega (arith, begin-at, width) in
      let first : (i : ℕ) → i < row_length u s → i ≡ 0 = λ i l. omega (arith, width) in
      record {
        long = sym width;
        leaves_at = λ i l. loop_cell t proper (leaves t) (λ s. s) (row_start u s + i) s state (at-loop i l) (omega (arith, wide));
        to_at = λ i l.
            ap (λ (h : ℕ). get_or (s ∷ []) h 0) (first i l) ∙ sym (loop_cell t proper (arrives t) (λ s. s) (row_start u s + i) s state (at-loop i l) (omega (arith, wide)));
        marks_at = λ i l.
            ap (λ (h : ℕ). get_or (0 ∷ []) h 0) (first i l) ∙ sym (loop_cell t proper (borne t) (λ s. 0) (row_start u s + i) s state (at-loop i l) (omega (arith, wide)));
      }

  -- the row of the table that is lifted
  pub source_row : (k : ℕ) → RowOf (source t k) s (or_loop k to_part s to_part) (or_loop k to_part 0 marks-part)
  source_row zero =
      same w 0
      (λ none.
      rw (one_loop to_part to_part s (omega (arith, to_long)) (omega (arith, to_long)), one_loop to_part marks-part 0 (omega (arith, to_long)) (omega (arith, marks_long)))
      (loop_row none))
      (λ some. rw (no_loop 0 to_part s to_part (omega (arith, to_long)), no_loop 0 to_part 0 marks-part (omega (arith, to_long))) (looped_row some))
  source_row (suc k) = rw (no_loop (suc k) to_part s to_part (omega arith), no_loop (suc k) to_part 0 marks-part (omega arith)) own_row
