-- Walks and lifted walks: each walk from a state at a level lies under exactly one lifted walk, and each lifted walk over exactly one. A waiting edge
-- lies over the waiting edge, at its own level. Assumes nothing.
use mathlib.Core.Path.{◌≡◌, refl, sym, ap, ◌∙◌, subst}
use mathlib.Core.Bool.{Bool, cond}
use mathlib.Core.Logic.{inl, inr, ⊎_elim}
use mathlib.Core.List.{List, [], ◌∷◌, ◌++◌, map}
use Prim.Native.Nat.{ℕ, suc, ◌*◌, ◌/◌, ◌%◌, ◌≤◌, ◌<◌}
use native.Mathlib.Nat.{div-lt_iff_lt-mul, div-add-mod', mod-lt}
use native.Mathlib.Omega.{arith}
use lib.Arith.{digits_div}
use lib.Dec.{eqb}
use lib.ListN.{length, get_or-eq_default}
use borrow.Author.Tests.{eq-eqb, ne_eqb}
use Rattle.table.specs.Table.{Table, waiting, Edge, Stop, Waits, Step, Walk, borne}
use Rattle.table.specs.Refusal.{most_edges, Proper}
use Rattle.table.proofs.Walks.{proper_apart}
use Rattle.climbing.specs.Climb.{levels, number, landing, bearing}
use Rattle.climbing.specs.Place.{leaves, arrives, place, level_at, edge_at}
use Rattle.climbing.specs.Translated.{lifted, lifted_from, lifted_to, lifted_marks}
use Rattle.climbing.proofs.Climbs.{landing_below, unmarked_stays}
use Rattle.climbing.proofs.Numbers.{number_below, number_same}
use Rattle.climbing.proofs.Order.{whole_length}
use Rattle.one_mark.proofs.Position.{stands, place_most, edge_place, cell_place, cell_at}

-- the edge under the lifted edge q, and the lifted edge over edge e, taken at level j
abbrev pub under_edge : Table → ℕ → ℕ → ℕ
under_edge t k q = cond (eqb q waiting) waiting (edge_at t k q)

abbrev pub over_edge : Table → ℕ → ℕ → ℕ → ℕ
over_edge t k j e = cond (eqb e waiting) waiting (place t k j e)

-- the level after the edges es, from level j
abbrev pub level_after : Table → ℕ → ℕ → List ℕ → ℕ
level_after t k j [] = j
level_after t k j (e ∷ es) = level_after t k (landing k (borne t e) j) es

-- the lifted edges over es, from level j
abbrev pub over : Table → ℕ → ℕ → List ℕ → List ℕ
over t k j [] = []
over t k j (e ∷ es) = over_edge t k j e ∷ over t k (landing k (borne t e) j) es

pub level_below : (t : Table) (k j : ℕ) (es : List ℕ) → j < levels k → level_after t k j es < levels k
level_below t k j [] l = l
level_below t k j (e ∷ es) l = level_below t k (landing k (borne t e) j) es (landing_below k (borne t e) j)

pub level_append : (t : Table) (k j : ℕ) (es fs : List ℕ) → level_after t k j (es ++ fs) ≡ level_after t k (level_after t k j es) fs
level_append t k j [] fs = refl
level_append t k j (e ∷ es) fs = level_append t k (landing k (borne t e) j) es fs

-- what a table is that may be lifted: not too large, and with k = 0 without stop states
pub record Liftable (t : Table) (k : ℕ) : Type 0 where
  pub proper : Proper t
  pub few : t.edges * levels k ≤ most_edges
  pub awake : (s : ℕ) → Stop t s → 0 < k

module _ (t : Table) (k : ℕ) (lift : Liftable t k) where
  open lift use {proper, few, awake}

  -- ---- edges are no waiting edges

  under_edge_lem : (q : ℕ) → q < t.edges * levels k → under_edge t k q ≡ edge_at t k q
  under_edge_lem q l = ap (λ (b : Bool). cond b waiting (edge_at t k q)) (ne_eqb q waiting (λ (e : q ≡ waiting). omega (arith, few)))

  over_edge_lem : (e j : ℕ) → e < t.edges → over_edge t k j e ≡ place t k j e
  over_edge_lem e j l = ap (λ (b : Bool). cond b waiting (place t k j e)) (ne_eqb e waiting (λ (q : e ≡ waiting). omega (arith, proper.few_edges)))

  under_waiting : (q : ℕ) → q ≡ waiting → under_edge t k q ≡ waiting
  under_waiting q e = ap (λ (b : Bool). cond b waiting (edge_at t k q)) (eq-eqb q waiting e)

  over_waiting : (e j : ℕ) → e ≡ waiting → over_edge t k j e ≡ waiting
  over_waiting e j q = ap (λ (b : Bool). cond b waiting (place t k j e)) (eq-eqb e waiting q)

  -- ---- edges

  edge_up : (e s s' j : ℕ) → j < levels k → Edge t e s s' → Edge (lifted t k) (place t k j e) (number k s j) (number k s' (landing k (borne t e) j))
  edge_up e s s' j l p =
      record {
        listed = place_most t proper k e j p.listed l;
        leaves = cell_place t proper k e j p.listed l (lifted_from t k) ∙ rw p.leaves;
        arrives = cell_place t proper k e j p.listed l (lifted_to t k) ∙ rw p.arrives;
      }

  -- a lifted edge from state s at level j lies over an edge from s, and is the one at its place
  record EdgeDown (q s j z : ℕ) : Type 0 where
    pub edge : Edge t (edge_at t k q) s (arrives t (edge_at t k q))
    pub ends : z ≡ number k (arrives t (edge_at t k q)) (landing k (borne t (edge_at t k q)) j)
    pub here : place t k j (edge_at t k q) ≡ q

  edge_down : (q s j z : ℕ) → j < levels k → Edge (lifted t k) q (number k s j) z → EdgeDown q s j z
  edge_down q s j z l p =
      let at = stands t proper k q p.listed in
      let e = edge_at t k q in
      let same = number_same (levels k) s j (leaves t e) (level_at t k q) l at.level (sym p.leaves ∙ cell_at t proper k (lifted_from t k) q p.listed) in
      record {
        edge = record { listed = at.edge; leaves = sym same.0; arrives = refl };
        ends = sym p.arrives ∙ cell_at t proper k (lifted_to t k) q p.listed ∙ rw same.1;
        here = rw same.1 at.here;
      }

  -- ---- stop states: the copies of a stop state, and no others

  pub stop_up : (s j : ℕ) → j < levels k → Stop t s → Stop (lifted t k) (number k s j)
  stop_up s j l p =
      record {
        state = number_below t.states (levels k) s j p.state l;
        halts = λ q z edge. p.halts (edge_at t k q) (arrives t (edge_at t k q)) (edge_down q s j z l edge).edge;
      }

  pub stop_down : (s j : ℕ) → j < levels k → Stop (lifted t k) (number k s j) → Stop t s
  stop_down s j l p =
      record {
        state = rw (digits_div s l) at ((div-lt_iff_lt-mul {k = levels k} (omega arith)).1 p.state);
        halts = λ e s' edge. p.halts (place t k j e) (number k s' (landing k (borne t e) j)) (edge_up e s s' j l edge);
      }

  -- every stop state is such a copy
  pub stop_below : (y : ℕ) → Stop (lifted t k) y → Stop t (y / levels k)
  stop_below y p =
      let whole : number k (y / levels k) (y % levels k) ≡ y = div-add-mod' y (levels k) in
      let low : y % levels k < levels k = mod-lt y (omega arith) in
      stop_down (y / levels k) (y % levels k) low (subst (Stop (lifted t k)) (sym whole) p)

  -- ---- one step

  -- a waiting edge stays at its level
  waits_level : (e s s' j : ℕ) → j < levels k → Waits t e s s' → landing k (borne t e) j ≡ j
  waits_level e s s' j l p =
      let none : borne t e ≡ 0 = ap (borne t) p.number ∙ (proper_apart t proper).unmarked in
      let some = awake s p.stop in
      rw none (unmarked_stays k j (omega arith)).0

  pub step_up : (e s s' j : ℕ) → j < levels k → Step t e s s' → Step (lifted t k) (over_edge t k j e) (number k s j) (number k s' (landing k (borne t e) j))
  step_up e s s' j l =
      ⊎_elim (λ (p : Edge t e s s'). inl (rw (over_edge_lem e j p.listed) (edge_up e s s' j l p)))
      (λ (p : Waits t e s s').
      inr (record { number = over_waiting e j p.number; stop = stop_up s j l p.stop; stays = rw (p.stays, waits_level e s s' j l p) }))

  -- a lifted step from state s at level j lies over a step from s, and is the one over it
  pub record Down (q s j z : ℕ) : Type 0 where
    pub to : ℕ
    pub step : Step t (under_edge t k q) s to
    pub ends : z ≡ number k to (landing k (borne t (under_edge t k q)) j)
    pub here : q ≡ over_edge t k j (under_edge t k q)

  pub step_down : (q s j z : ℕ) → j < levels k → Step (lifted t k) q (number k s j) z → Down q s j z
  step_down q s j z l =
      ⊎_elim (λ (p : Edge (lifted t k) q (number k s j) z).
      let d = edge_down q s j z l p in
      let e = edge_at t k q in
      let is : under_edge t k q ≡ e = under_edge_lem q p.listed in
      record {
        to = arrives t e;
        step = inl (rw is d.edge);
        ends = d.ends ∙ rw is;
        here = rw is (sym (over_edge_lem e j d.edge.listed ∙ d.here));
      })
      (λ (p : Waits (lifted t k) q (number k s j) z).
      let is : under_edge t k q ≡ waiting = under_waiting q p.number in
      let waits : Waits t (under_edge t k q) s s = record { number = is; stop = stop_down s j l p.stop; stays = refl } in
      record {
        to = s;
        step = inr waits;
        ends = p.stays ∙ sym (rw (waits_level (under_edge t k q) s s j l waits));
        here = p.number ∙ sym (over_waiting (under_edge t k q) j is);
      })

  -- ---- walks

  pub walk_up : (s j : ℕ) (es : List ℕ) (z : ℕ) → j < levels k → Walk t s es z → Walk (lifted t k) (number k s j) (over t k j es) (number k z (level_after t k j es))
  walk_up s j [] z l w = ap (λ (x : ℕ). number k x j) w
  walk_up s j (e ∷ es) z l w =
      let j' = landing k (borne t e) j in
      (number k w.0 j', (step_up e s w.0 j l w.1.0, walk_up w.0 j' es z (landing_below k (borne t e) j) w.1.1))

  under_over : (e s s' j : ℕ) → j < levels k → Step t e s s' → under_edge t k (over_edge t k j e) ≡ e
  under_over e s s' j l =
      ⊎_elim
      (λ (p : Edge t e s s').
      rw (over_edge_lem e j p.listed) (under_edge_lem (place t k j e) (place_most t proper k e j p.listed l) ∙ edge_place t proper k e j p.listed l))
      (λ (p : Waits t e s s'). under_waiting (over_edge t k j e) (over_waiting e j p.number) ∙ sym p.number)

  pub unders_over : (s j : ℕ) (es : List ℕ) (z : ℕ) → j < levels k → Walk t s es z → map (under_edge t k) (over t k j es) ≡ es
  unders_over s j [] z l w = refl
  unders_over s j (e ∷ es) z l w =
      rw (under_over e s w.0 j l w.1.0, unders_over w.0 (landing k (borne t e) j) es z (landing_below k (borne t e) j) w.1.1)

  pub over_length : (j : ℕ) (es : List ℕ) → length (over t k j es) ≡ length es
  over_length j [] = refl
  over_length j (e ∷ es) = ap suc (over_length (landing k (borne t e) j) es)

  -- a lifted walk from state s at level j lies over a walk from s, and is the one over it
  pub record Under (s j : ℕ) (qs : List ℕ) (y : ℕ) : Type 0 where
    pub end : ℕ
    pub walk : Walk t s (map (under_edge t k) qs) end
    pub ends : y ≡ number k end (level_after t k j (map (under_edge t k) qs))
    pub same : qs ≡ over t k j (map (under_edge t k) qs)

  pub walk_down : (s j : ℕ) (qs : List ℕ) (y : ℕ) → j < levels k → Walk (lifted t k) (number k s j) qs y → Under s j qs y
  walk_down s j [] y l w = record { end = s; walk = refl; ends = sym w; same = refl }
  walk_down s j (q ∷ qs) y l w =
      let d = step_down q s j w.0 l w.1.0 in
      let j' = landing k (borne t (under_edge t k q)) j in
      let rest = walk_down d.to j' qs y (landing_below k (borne t (under_edge t k q)) j) (subst (λ (x : ℕ). Walk (lifted t k) x qs y) d.ends w.1.1) in
      record {
        end = rest.end;
        walk = (d.to, (d.step, rest.walk));
        ends = rest.ends;
        same = ap {B = List ℕ} (λ x. x ∷ qs) d.here ∙ ap {B = List ℕ} (λ xs. over_edge t k j (under_edge t k q) ∷ xs) rest.same;
      }

  -- ---- the mark of a lifted step

  pub bears_over : (e s s' j : ℕ) → j < levels k → Step t e s s' → borne (lifted t k) (over_edge t k j e) ≡ bearing k (borne t e) j
  bears_over e s s' j l =
      ⊎_elim (λ (p : Edge t e s s'). rw (over_edge_lem e j p.listed) (cell_place t proper k e j p.listed l (lifted_marks t k)))
      (λ (p : Waits t e s s').
      let none : borne t e ≡ 0 = ap (borne t) p.number ∙ (proper_apart t proper).unmarked in
      let some = awake s p.stop in
      rw (over_waiting e j p.number, none) (unread ∙ sym (unmarked_stays k j (omega arith)).1))
    where
      unread : borne (lifted t k) waiting ≡ 0
      unread = get_or-eq_default (lifted t k).marks 0 {n = waiting} (omega (arith, whole_length t proper k (lifted_marks t k), few))
