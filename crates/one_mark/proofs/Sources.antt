-- The lent table and the table that is lifted: their steps correspond one to one. Then what lies under a position, and the stop states of the
-- translated table. Assumes nothing.
use mathlib.Core.Path.{◌≡◌, refl, sym, ap, ◌∙◌, subst}
use mathlib.Core.Bool.{Bool, cond}
use mathlib.Core.Logic.{◌↔◌, inl, ⊎_elim}
use Prim.Native.Nat.{ℕ, zero, suc, ◌-◌, ◌*◌, ◌≤◌, ◌<◌}
use native.Mathlib.Omega.{arith}
use lib.Dec.{eqb}
use lib.ListN.{get_or}
use borrow.Author.Tests.{eq-eqb, ne_eqb}
use Rattle.table.specs.Table.{Table, waiting, Edge, Stop, Waits, Step}
use Rattle.table.specs.Refusal.{most_edges, Proper}
use Rattle.climbing.specs.Climb.{levels, number}
use Rattle.climbing.specs.Place.{row_length, leaves, arrives, edge_at}
use Rattle.climbing.specs.Source.{stops, looped, unlooped, source, source_edge}
use Rattle.climbing.specs.Translated.{lifted_from, translated, under}
use Rattle.one_mark.proofs.Correspond.{under_edge, Liftable, stop_up, stop_down, stop_below}
use Rattle.one_mark.proofs.Position.{stands, cell_at, edge_plain}
use Rattle.climbing.proofs.StopStates.{stop_none, none_stop}
use Rattle.climbing.proofs.Looped.{looped_proper, none_stops}
use Rattle.one_mark.proofs.Waiting.{stop_source, other_source, with_loops, loops_forth, source_back, loops_back}

-- ---- the table that is lifted

pub liftable : (t : Table) → Proper t → (k : ℕ) → (source t k).edges * levels k ≤ most_edges → Liftable (source t k) k
liftable t proper zero few =
    let fits : (looped t).edges ≤ most_edges = omega arith in
    record { proper = looped_proper t proper fits; few = few; awake = λ s p. absurd (none_stops t proper fits s p) }
liftable t proper (suc k) few = record { proper = proper; few = few; awake = λ s p. omega arith }

-- ---- steps of the lent table are steps of the one that is lifted

-- what edge e from s becomes there
abbrev pub forth : Table → ℕ → ℕ → ℕ → ℕ
forth t zero s e = with_loops t s e
forth t (suc k) s e = e

-- where edge e from s arrives
abbrev pub next : Table → ℕ → ℕ → ℕ
next t s e = cond (eqb e waiting) s (arrives t e)

module _ (t : Table) (proper : Proper t) where
  pub step_next : (e s s' : ℕ) → Step t e s s' → next t s e ≡ s'
  step_next e s s' =
      ⊎_elim
      (λ (p : Edge t e s s').
      let listed : e ≡ waiting → ⊥ = λ (q : e ≡ waiting). omega (arith, p.listed, proper.few_edges) in
      ap (λ (b : Bool). cond b s (arrives t e)) (ne_eqb e waiting listed) ∙ p.arrives)
      (λ (p : Waits t e s s'). ap (λ (b : Bool). cond b s (arrives t e)) (eq-eqb e waiting p.number) ∙ sym p.stays)

  pub step_forth : (k e s s' : ℕ) → Step t e s s' → Step (source t k) (forth t k s e) s s'
  step_forth zero e s s' p = inl (loops_forth t proper e s s' p)
  step_forth (suc k) e s s' p = p

  pub back_forth : (k e s s' : ℕ) → Step t e s s' → source_edge t k (forth t k s e) ≡ e
  back_forth zero e s s' p = ap (λ (r : ℕ). unlooped t r (with_loops t s e)) (loops_forth t proper e s s' p).leaves ∙ source_back t proper e s s' p
  back_forth (suc k) e s s' p = refl

  -- ---- and back

  -- with k = 0 each step of the table that is lifted is an edge
  by_edge : {C : Type 0} → (looped t).edges ≤ most_edges → (g s s' : ℕ) → Step (looped t) g s s' → (Edge (looped t) g s s' → C) → C
  by_edge few g s s' p f = ⊎_elim f (λ (q : Waits (looped t) g s s'). absurd (none_stops t proper few s q.stop)) p

  pub step_back : (k : ℕ) → (source t k).edges * levels k ≤ most_edges → (g s s' : ℕ) → Step (source t k) g s s' → Step t (source_edge t k g) s s'
  step_back zero few g s s' p =
      by_edge (omega arith) g s s' p
      (λ (q : Edge (looped t) g s s'). subst (λ (r : ℕ). Step t (unlooped t r g) s s') (sym q.leaves) (loops_back t proper g s s' q).step)
  step_back (suc k) few g s s' p = p

  pub forth_back : (k : ℕ) → (source t k).edges * levels k ≤ most_edges → (g s s' : ℕ) → Step (source t k) g s s' → forth t k s (source_edge t k g) ≡ g
  forth_back zero few g s s' p =
      by_edge (omega arith) g s s' p
      (λ (q : Edge (looped t) g s s'). ap (λ (r : ℕ). with_loops t s (unlooped t r g)) q.leaves ∙ (loops_back t proper g s s' q).forth)
  forth_back (suc k) few g s s' p = refl

  -- ---- the source edge under a translated edge is the one that the edge there stands for

  under_listed : (k q : ℕ) → (q ≡ waiting → ⊥) → under t k q ≡ source_edge t k (under_edge (source t k) k q)
  unfolding under
  under_listed k q apart = rw (ne_eqb q waiting apart)

  under_waits : (k q : ℕ) → 0 < k → q ≡ waiting → under t k q ≡ source_edge t k (under_edge (source t k) k q)
  unfolding under
  under_waits zero q some e = absurd (omega arith)
  under_waits (suc k) q some e = refl

  -- with k = 0 the translated table has no stop state
  pub stop_some : (k : ℕ) → (source t k).edges * levels k ≤ most_edges → (y : ℕ) → Stop (translated t k) y → 0 < k
  stop_some k few y p = let lift = liftable t proper k few in lift.awake _ (stop_below (source t k) k lift y p)

  pub under_source : (k : ℕ) → (source t k).edges * levels k ≤ most_edges → (q y z : ℕ) → Step (translated t k) q y z
      → under t k q ≡ source_edge t k (under_edge (source t k) k q)
  under_source k few q y z =
      ⊎_elim
      (λ (p : Edge (translated t k) q y z). under_listed k q (λ (e : q ≡ waiting). omega (arith, p.listed, few)))
      (λ (p : Waits (translated t k) q y z). under_waits k q (stop_some k few y p.stop) p.number)

-- ---- the position rule

module _ (t : Table) (proper : Proper t) where
  pub under_waiting : (k : ℕ) → under t k waiting ≡ waiting
  unfolding under
  under_waiting k = refl

  pub under_kept : (k : ℕ) → (source t k).edges * levels k ≤ most_edges → (q : ℕ) → 0 < k → q < (translated t k).edges → under t k q ≡ edge_at t k q
  unfolding under
  under_kept zero few q some l = absurd (omega arith)
  under_kept (suc k) few q some l = rw (ne_eqb q waiting (λ (e : q ≡ waiting). omega (arith, few)))

  -- with k = 0 a position is the number of an edge of the looped table
  module _ (few : (looped t).edges * levels 0 ≤ most_edges) (g s : ℕ) (listed : g < (translated t 0).edges) (leaving : get_or (translated t 0).from g 0 ≡ s) where
    abbrev fits : Proper (looped t)
    fits = looped_proper t proper (omega arith)

    plain : edge_at (looped t) 0 g ≡ g
    plain = edge_plain (looped t) fits 0 refl g listed

    leaves_there : leaves (looped t) g ≡ s
    leaves_there =
        let at = cell_at (looped t) fits 0 (lifted_from (looped t) 0) g listed in
        omega (arith, at, leaving, (stands (looped t) fits 0 g listed).level, ap (leaves (looped t)) plain)

    under_looped : under t 0 g ≡ unlooped t s g
    unfolding under
    under_looped = rw (ne_eqb g waiting (λ (e : g ≡ waiting). omega arith), plain, leaves_there)

    state_there : s < t.states
    state_there = omega (arith, leaves_there, fits.from_below g (omega arith))

  pub under_stop : (k : ℕ) → (source t k).edges * levels k ≤ most_edges → (g s : ℕ) → k ≡ 0 → g < (translated t k).edges
      → get_or (translated t k).from g 0 ≡ s → Stop t s → under t k g ≡ waiting
  under_stop zero few g s none l e p = under_looped few g s l e ∙ stop_source t proper s g (stop_none t proper s p)
  under_stop (suc k) few g s none l e p = absurd (omega arith)

  pub under_other : (k : ℕ) → (source t k).edges * levels k ≤ most_edges → (g s : ℕ) → k ≡ 0 → g < (translated t k).edges
      → get_or (translated t k).from g 0 ≡ s → (Stop t s → ⊥) → under t k g ≡ g - stops t.from s
  under_other zero few g s none l e p =
      under_looped few g s l e ∙ other_source t proper s g (λ (z : row_length t s ≡ 0). p (none_stop t proper s (state_there few g s l e) z))
  under_other (suc k) few g s none l e p = absurd (omega arith)

  -- ---- the stop states of the translated table

  pub copies : (k : ℕ) → (source t k).edges * levels k ≤ most_edges → (s j : ℕ) → 0 < k → j < levels k → Stop t s ↔ Stop (translated t k) (number k s j)
  copies zero few s j some l = absurd (omega arith)
  copies (suc k) few s j some l =
      let lift = liftable t proper (suc k) few in
      (stop_up t (suc k) lift s j l, stop_down t (suc k) lift s j l)
