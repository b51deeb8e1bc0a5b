-- The position rule (docs/RULES.md, "One-mark translation": "The source edge under a translated edge follows from its position"): an edge at a level stands at `place`,
-- the edge and the level at a position are `edge_at` and `level_at`, and every cell is what the definition gives for them. Assumes nothing.
use mathlib.Core.Path.{◌≡◌, sym, ap, ◌∙◌, subst}
use Prim.Native.Nat.{ℕ, suc, ◌+◌, ◌-◌, ◌*◌, ◌/◌, ◌%◌, ◌≤◌, ◌<◌}
use native.Mathlib.Nat.{div-lt_iff_lt-mul, le-div_iff_mul-le, div-add-mod', mod-lt, mul-le-mul_right}
use native.Mathlib.Omega.{arith}
use lib.Arith.{digits_lt, digits_div, digits_mod}
use lib.ListN.{get_or}
use Rattle.marks.proofs.Cases.{below}
use Rattle.table.specs.Table.{Table}
use Rattle.table.specs.Refusal.{Proper}
use Rattle.climbing.specs.Climb.{levels}
use Rattle.climbing.specs.Place.{row_start, row_length, in_order, leaves, place, state_at, behind, level_at, edge_at}
use Rattle.climbing.proofs.Numbers.{one_level}
use Rattle.climbing.proofs.Order.{table_row, order_cell, front_up}

-- position q is that of edge e, taken at level j
pub record Stands (t : Table) (k q j e : ℕ) : Type 0 where
  pub edge : e < t.edges
  pub level : j < levels k
  pub state : leaves t e ≡ state_at t k q
  pub here : place t k j e ≡ q

module _ (t : Table) (proper : Proper t) (k : ℕ) where
  -- ---- rows

  some_level : 0 < levels k
  some_level = omega arith

  row_from : (e : ℕ) → e < t.edges → row_start t (leaves t e) ≤ e
  row_from e l = below e (row_start t (leaves t e)) (λ h. absurd (omega (arith, (table_row t proper (leaves t e)).before e h))) (λ h. h)

  row_to : (e : ℕ) → e < t.edges → e < row_start t (suc (leaves t e))
  row_to e l = below e (row_start t (suc (leaves t e))) (λ h. h) (λ h. absurd (omega (arith, (table_row t proper (leaves t e)).after e h (omega (arith, proper.from_length)))))

  row_state : (s e : ℕ) → row_start t s ≤ e → e < row_start t (suc s) → leaves t e ≡ s
  row_state s e l h = (table_row t proper s).inside e l h

  row_edges : (s : ℕ) → row_start t (suc s) ≡ row_start t s + row_length t s
  row_edges s = omega (arith, front_up s t.from)

  -- edge a + r of the row of s, at level j, stands at this place
  placed : (s j r : ℕ) → r < row_length t s → place t k j (row_start t s + r) ≡ row_start t s * levels k + j * row_length t s + r
  unfolding place
  placed s j r l = rw (row_state s (row_start t s + r) (omega arith) (omega (arith, row_edges s))) (omega arith)

  -- ---- from the position

  -- the row of a position's state is not empty
  pub some_in_row : (q : ℕ) → q < t.edges * levels k → 0 < row_length t (state_at t k q)
  unfolding state_at
  some_in_row q l =
      let e = q / levels k in
      let listed : e < t.edges = (div-lt_iff_lt-mul some_level).1 l in
      omega (arith, row_edges (leaves t e), row_from e listed, row_to e listed)

  pub stands : (q : ℕ) → q < t.edges * levels k → Stands t k q (level_at t k q) (edge_at t k q)
  unfolding level_at edge_at behind state_at
  stands q l =
      let e = q / levels k in
      let s = leaves t e in
      let a = row_start t s in
      let w = row_length t s in
      let d = q - a * levels k in
      let listed : e < t.edges = (div-lt_iff_lt-mul some_level).1 l in
      let lower : a * levels k ≤ q = (le-div_iff_mul-le some_level).0 (row_from e listed) in
      let upper : q < (a + w) * levels k = (div-lt_iff_lt-mul some_level).0 (subst (λ (b : ℕ). e < b) (row_edges s) (row_to e listed)) in
      let some : 0 < w = some_in_row q l in
      let r : d % w < w = mod-lt d some in
      let j : d / w < levels k = (div-lt_iff_lt-mul some).1 (omega arith) in
      record {
        edge = omega (arith, row_edges s, (table_row t proper s).ends, proper.from_length);
        level = j;
        state = row_state s (a + d % w) (omega arith) (omega (arith, row_edges s));
        here = placed s (d / w) (d % w) r ∙ omega (arith, div-add-mod' d w);
      }

  -- ---- to the position

  module _ (s j r : ℕ) (level : j < levels k) (inside : r < row_length t s) where
    abbrev position : ℕ
    position = row_start t s * levels k + j * row_length t s + r

    in_levels : j * row_length t s + r < levels k * row_length t s
    in_levels = digits_lt level inside

    at_state : state_at t k position ≡ s
    unfolding state_at
    at_state =
        let lower : row_start t s ≤ position / levels k = (le-div_iff_mul-le some_level).1 (omega arith) in
        let upper : position / levels k < row_start t s + row_length t s = (div-lt_iff_lt-mul some_level).1 (omega (arith, in_levels)) in
        row_state s (position / levels k) lower (omega (arith, row_edges s))

    at_behind : behind t k position ≡ j * row_length t s + r
    unfolding behind
    at_behind = rw at_state (omega arith)

    at_level : level_at t k position ≡ j
    unfolding level_at
    at_level = rw (at_behind, at_state) (digits_div j inside)

    at_edge : edge_at t k position ≡ row_start t s + r
    unfolding edge_at
    at_edge = rw (at_behind, at_state) (ap (λ (x : ℕ). row_start t s + x) (digits_mod j inside))

    at_most : position < t.edges * levels k
    at_most =
        let ends : row_start t s + row_length t s ≤ t.edges = omega (arith, row_edges s, (table_row t proper s).ends, proper.from_length) in
        let most : (row_start t s + row_length t s) * levels k ≤ t.edges * levels k = mul-le-mul_right (levels k) ends in
        omega (arith, in_levels)

  module _ (e j : ℕ) (listed : e < t.edges) (level : j < levels k) where
    offset : e - row_start t (leaves t e) < row_length t (leaves t e)
    offset = omega (arith, row_from e listed, row_to e listed, row_edges (leaves t e))

    pub place_most : place t k j e < t.edges * levels k
    unfolding place
    place_most = at_most (leaves t e) j (e - row_start t (leaves t e)) level offset

    pub level_place : level_at t k (place t k j e) ≡ j
    unfolding place
    level_place = at_level (leaves t e) j (e - row_start t (leaves t e)) level offset

    pub edge_place : edge_at t k (place t k j e) ≡ e
    unfolding place
    edge_place = at_edge (leaves t e) j (e - row_start t (leaves t e)) level offset ∙ omega (arith, row_from e listed)

    -- the cell there
    pub cell_place : (f : ℕ → ℕ → ℕ) → get_or (in_order t k f) (place t k j e) 0 ≡ f j e
    unfolding place
    cell_place f =
        order_cell t k f (leaves t e) j (e - row_start t (leaves t e)) (proper.from_below e listed) level offset
        ∙ ap (f j) (omega (arith, row_from e listed))

  -- the cell at a position
  pub cell_at : (f : ℕ → ℕ → ℕ) (q : ℕ) → q < t.edges * levels k → get_or (in_order t k f) q 0 ≡ f (level_at t k q) (edge_at t k q)
  cell_at f q l =
      let p = stands q l in
      ap (λ (x : ℕ). get_or (in_order t k f) x 0) (sym p.here) ∙ cell_place (edge_at t k q) (level_at t k q) p.edge p.level f

  -- with one level, every edge stands at its own number
  pub edge_plain : levels k ≡ 1 → (q : ℕ) → q < t.edges * levels k → edge_at t k q ≡ q
  unfolding place
  edge_plain one q l =
      let p = stands q l in
      let e = edge_at t k q in
      one_level (row_start t (leaves t e)) (levels k) (level_at t k q) (row_length t (leaves t e)) e q one p.level (row_from e p.edge) p.here
