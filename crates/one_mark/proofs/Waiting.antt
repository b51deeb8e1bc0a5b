-- The edges of the table with a loop at each stop state are the edges of the lent table together with the waiting edges. Assumes nothing.
use mathlib.Core.Path.{◌≡◌, refl, sym, ap, ◌∙◌, subst}
use mathlib.Core.Bool.{Bool, cond}
use mathlib.Core.Logic.{inl, inr, ⊎_elim}
use Prim.Native.Nat.{ℕ, suc, ◌+◌, ◌-◌, ◌<◌}
use native.Mathlib.Omega.{arith}
use lib.Dec.{eqb}
use borrow.Author.Tests.{eq-eqb, ne_eqb}
use Rattle.table.specs.Table.{Table, waiting, Edge, Waits, Step}
use Rattle.table.specs.Refusal.{Proper}
use Rattle.climbing.specs.Place.{row_start, row_length, leaves, arrives}
use Rattle.climbing.specs.Source.{halts, stops, looped, unlooped}
use Rattle.climbing.proofs.Order.{rows_end}
use Rattle.climbing.proofs.StopStates.{row_edge, in_row, stop_none, none_stop}
use Rattle.climbing.proofs.Looped.{begin, begin_next, begin_up, by_row, own_cell, loop_cell, from_state, find}

-- ---- its edges are those of t and the waiting edges

-- what edge e of t, which leaves s, becomes in the looped table
abbrev pub with_loops : Table → ℕ → ℕ → ℕ
with_loops t s e = cond (eqb (row_length t s) 0) (begin t s + 0) (e + stops t.from s)

module _ (t : Table) (proper : Proper t) where
  -- the source under an edge of a state
  pub stop_source : (s g : ℕ) → row_length t s ≡ 0 → unlooped t s g ≡ waiting
  stop_source s g none = ap (λ (b : Bool). cond b waiting (g - stops t.from s)) (eq-eqb (row_length t s) 0 none)

  pub other_source : (s g : ℕ) → (row_length t s ≡ 0 → ⊥) → unlooped t s g ≡ g - stops t.from s
  other_source s g some = ap (λ (b : Bool). cond b waiting (g - stops t.from s)) (ne_eqb (row_length t s) 0 some)

  becomes_loop : (s e : ℕ) → row_length t s ≡ 0 → with_loops t s e ≡ begin t s + 0
  becomes_loop s e none = ap (λ (b : Bool). cond b (begin t s + 0) (e + stops t.from s)) (eq-eqb (row_length t s) 0 none)

  becomes_edge : (s e : ℕ) → (row_length t s ≡ 0 → ⊥) → with_loops t s e ≡ e + stops t.from s
  becomes_edge s e some = ap (λ (b : Bool). cond b (begin t s + 0) (e + stops t.from s)) (ne_eqb (row_length t s) 0 some)

  -- an edge's state has edges
  edge_some : (e s s' : ℕ) → Edge t e s s' → row_length t s ≡ 0 → ⊥
  edge_some e s s' p none = omega (arith, (in_row t proper e s s' p).0, (in_row t proper e s s' p).1)

  edge_state : (e s s' : ℕ) → Edge t e s s' → s < t.states
  edge_state e s s' p = rw p.leaves at (proper.from_below e p.listed)

  in_looped : (s i : ℕ) → s < t.states → i < row_length t s + halts t.from s → begin t s + i < (looped t).edges
  in_looped s i l h = omega (arith, begin_next t s, begin_up t (suc s) t.states l, rows_end t proper)

  edge_forth : (e s s' : ℕ) → Edge t e s s' → Edge (looped t) (e + stops t.from s) s s'
  edge_forth e s s' p =
      let row = in_row t proper e s s' p in
      let l = edge_state e s s' p in
      let i = e - row_start t s in
      let here : e + stops t.from s ≡ begin t s + i = omega (arith, row.0) in
      let own : row_start t s + i ≡ e = omega (arith, row.0) in
      let h : i < row_length t s = omega (arith, row.0, row.1) in
      record {
        listed = omega (arith, in_looped s i l (omega arith));
        leaves = own_cell t proper (leaves t) (λ s. s) (e + stops t.from s) s i l here h ∙ ap (leaves t) own ∙ p.leaves;
        arrives = own_cell t proper (arrives t) (λ s. s) (e + stops t.from s) s i l here h ∙ ap (arrives t) own ∙ p.arrives;
      }

  loop_forth : (s : ℕ) → s < t.states → row_length t s ≡ 0 → Edge (looped t) (begin t s + 0) s s
  loop_forth s l none =
      record {
        listed = in_looped s 0 l (omega arith);
        leaves = loop_cell t proper (leaves t) (λ s. s) (begin t s + 0) s l refl none;
        arrives = loop_cell t proper (arrives t) (λ s. s) (begin t s + 0) s l refl none;
      }

  -- a step of t is an edge of the looped table ..
  pub loops_forth : (e s s' : ℕ) → Step t e s s' → Edge (looped t) (with_loops t s e) s s'
  loops_forth e s s' =
      ⊎_elim (λ (p : Edge t e s s'). subst (λ (g : ℕ). Edge (looped t) g s s') (sym (becomes_edge s e (edge_some e s s' p))) (edge_forth e s s' p))
      (λ (p : Waits t e s s').
      let none = stop_none t proper s p.stop in
      let loop = loop_forth s p.stop.state none in
      subst (λ (g : ℕ). Edge (looped t) g s s') (sym (becomes_loop s e none)) (subst (Edge (looped t) (begin t s + 0) s) (sym p.stays) loop))

  pub source_back : (e s s' : ℕ) → Step t e s s' → unlooped t s (with_loops t s e) ≡ e
  source_back e s s' =
      ⊎_elim (λ (p : Edge t e s s').
      let some = edge_some e s s' p in
      other_source s (with_loops t s e) some ∙ ap (λ (g : ℕ). g - stops t.from s) (becomes_edge s e some) ∙ omega arith)
      (λ (p : Waits t e s s'). stop_source s (with_loops t s e) (stop_none t proper s p.stop) ∙ sym p.number)

  -- .. and each of its edges is one
  pub record Back (g s s' : ℕ) : Type 0 where
    pub step : Step t (unlooped t s g) s s'
    pub forth : with_loops t s (unlooped t s g) ≡ g

  pub loops_back : (g s s' : ℕ) → Edge (looped t) g s s' → Back g s s'
  loops_back g s s' p =
      let w = find t proper g p.listed in
      let at : w.state ≡ s = sym (from_state t proper g w) ∙ p.leaves in
      subst (λ (r : ℕ). Back g r s') at
      (by_row t proper g w
      (λ i q h.
      let r = w.state in
      let some : row_length t r ≡ 0 → ⊥ = λ (z : row_length t r ≡ 0). omega arith in
      let own : unlooped t r g ≡ row_start t r + i = other_source r g some ∙ omega arith in
      let edge = row_edge t proper r i h in
      let ends : arrives t (row_start t r + i) ≡ s' = sym (own_cell t proper (arrives t) (λ s. s) g r i w.under q h) ∙ p.arrives in
      record {
        step = inl (rw own (record { listed = edge.listed; leaves = edge.leaves; arrives = ends }));
        forth = becomes_edge r (unlooped t r g) some ∙ omega (arith, own);
      })
      (λ q none.
      let r = w.state in
      record {
        step = inr (record {
          number = stop_source r g none;
          stop = none_stop t proper r w.under none;
          stays = sym p.arrives ∙ loop_cell t proper (arrives t) (λ s. s) g r w.under q none;
        });
        forth = becomes_loop r (unlooped t r g) none ∙ sym q;
      }))
