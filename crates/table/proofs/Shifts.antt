-- The numbered shift cases hold (specs/Shifts.antt). A run is shown by its lasso; emptiness by a few laws over any table, whose
-- premises about the table at hand are checked edge by edge (`each`, `each_step`). Assumes nothing.
use mathlib.Core.Path.{◌≡◌, refl, sym, ◌∙◌, subst, subst₂}
use mathlib.Core.Logic.{inl, inr, ◌≢◌}
use mathlib.Core.List.Memᴰ
use mathlib.Core.List.{List, [], ◌∷◌}
use Prim.Native.Nat.{ℕ, zero, suc, ◌*◌, ◌≤◌, ◌<◌}
use native.Mathlib.Omega.{arith}
use lib.ListN.{length, get_or}
use Rattle.marks.specs.Mark.{Has, union}
use Rattle.marks.proofs.Laws.{Has-fits}
use Rattle.marks.proofs.Cases.{same}
use Rattle.table.specs.Table.{Table, waiting, Edge, Stop, Step, Walk, Lasso, borne, marks_of}
use Rattle.table.specs.Condition.{MeetsPair}
use Rattle.table.specs.Refusal.{MarksBelow}
use Rattle.table.specs.Shifts.{ShiftCases, table_a, plain_loop, marked_loop, loop_and_way_round, no_edges, loop_out_of_reach, two_components, need_one}
use Rattle.table.proofs.Walks.{BearingEdge, Apart, stop_step, stop_waits, has_marks, walk_bears, Kept, walk_leaves, marks_fit, closed_arrives, closed_keeps}

-- ---- a fact about every number below n is checked number by number, one about every step of a table edge by edge

abbrev Each : (ℕ → Type 0) → ℕ → Type 0
Each P zero = Unit {0}
Each P (suc n) = Each P n × P n

each : (P : ℕ → Type 0) (n : ℕ) → Each P n → (i : ℕ) → i < n → P i
each P zero h i l = absurd (omega arith)
each P (suc n) h i l = same i n (λ q. subst P (sym q) h.1) (λ q. each P n h.0 i (omega arith))

abbrev Steps : Table → (ℕ → ℕ → ℕ → Type 0) → Type 0
Steps t Q = (e s s' : ℕ) → Step t e s s' → Q e s s'

abbrev Edges : Table → (ℕ → ℕ → ℕ → Type 0) → Type 0
Edges t Q = (e s s' : ℕ) → Edge t e s s' → Q e s s'

each_edge : (t : Table) (Q : ℕ → ℕ → ℕ → Type 0) → Each (λ e. Q e (get_or t.from e 0) (get_or t.to e 0)) t.edges → Edges t Q
each_edge t Q h e s s' p =
    let own : Q e (get_or t.from e 0) (get_or t.to e 0) = each (λ d. Q d (get_or t.from d 0) (get_or t.to d 0)) t.edges h e p.listed in
    subst₂ (Q e) p.leaves p.arrives own

-- each state below n is left by the edge that f names: there is no stop state
abbrev Left : Table → (ℕ → ℕ) → ℕ → Type 0
Left t f s = (f s < t.edges) × (get_or t.from (f s) 0 ≡ s)

no_stop : (t : Table) (f : ℕ → ℕ) → Each (Left t f) t.states → (s : ℕ) → Stop t s → ⊥
no_stop t f h s stop =
    let l = each (Left t f) t.states h s stop.state in
    stop.halts (f s) (get_or t.to (f s) 0) (record { listed = l.0; leaves = l.1; arrives = refl })

-- so every step is an edge
each_step : (t : Table) (f : ℕ → ℕ) → Each (Left t f) t.states → (Q : ℕ → ℕ → ℕ → Type 0) → Edges t Q → Steps t Q
each_step t f h Q edges e s s' (inl p) = edges e s s' p
each_step t f h Q edges e s s' (inr w) = absurd (no_stop t f h s w.stop)

-- ---- what the cycle of a lasso bears, over any table

module _ (t : Table) (A : Apart t) (prefix cycle : List ℕ) (l : Lasso t prefix cycle) where
  on_cycle : (i : ℕ) → Has i (marks_of t cycle) → BearingEdge t i cycle
  on_cycle i = walk_bears t A i l.knot cycle l.knot l.closes

  -- no mark from u on, if no edge of the table does
  unborne : (u i : ℕ) → u ≤ i → MarksBelow t u → Has i (marks_of t cycle) → ⊥
  unborne u i n low h = omega (arith, Has-fits u i (marks_of t cycle) (marks_fit t A u l.knot cycle l.knot low l.closes) h)

  -- mark i, if each step does
  always_borne : (i : ℕ) → Steps t (λ e s s'. Has i (borne t e)) → Has i (marks_of t cycle)
  always_borne i all = first cycle l.closes l.turns
    where
      first : (es : List ℕ) → Walk t l.knot es l.knot → 0 < length es → Has i (marks_of t es)
      first [] w n = absurd (omega arith)
      first (e ∷ es) w n = (has_marks t i (e ∷ es)).1 (record { edge = e; among = Memᴰ.head refl; bears = all e l.knot w.0 w.1.0 })

  -- mark j beside mark i, if the edges that bear i leave v, and the steps that arrive at v bear j
  borne_beside :
      (i j v : ℕ) → Edges t (λ e s s'. Has i (borne t e) → s ≡ v) → Steps t (λ e s s'. s' ≡ v → Has j (borne t e)) → Has i (marks_of t cycle)
      → Has j (marks_of t cycle)
  borne_beside i j v leaves arrives h =
      let b = on_cycle i h in
      let a = closed_arrives t A l.knot cycle l.closes b.edge b.source b.target b.among b.leads in
      let at : b.source ≡ v = leaves b.edge b.source b.target b.leads b.bears in
      (has_marks t j cycle).1 (record { edge = a.edge; among = a.among; bears = arrives a.edge a.source b.source a.step at })

  -- never both marks i and j, if the edges that bear i leave states with P, no step gives P up, and those that bear j leave states without
  never_both :
      (P : ℕ → Type 0) (i j : ℕ) → Edges t (λ e s s'. Has i (borne t e) → P s) → Steps t (λ e s s'. P s → P s')
      → Edges t (λ e s s'. Has j (borne t e) → P s → ⊥) → Has i (marks_of t cycle) → Has j (marks_of t cycle) → ⊥
  never_both P i j inside keeps outside h g =
      let b = on_cycle i h in
      let c = on_cycle j g in
      outside c.edge c.source c.target c.leads c.bears
      (closed_keeps t A P l.knot cycle l.closes (λ e s s' m. keeps e s s') b.edge b.source b.target b.among b.leads
      (inside b.edge b.source b.target b.leads b.bears) c.edge c.source c.target c.among c.leads)

  -- no mark at all, if the start is a stop state
  halted_unmarked : (i : ℕ) → Stop t t.start → Has i (marks_of t cycle) → ⊥
  halted_unmarked i stop h =
      let b = on_cycle i h in
      let here : b.source ≡ t.start = walk_leaves t A (λ s. s ≡ t.start) l.knot cycle l.knot l.closes stays
      (stop_waits t t.start prefix l.knot stop l.leads).1 b.edge b.source b.target b.among b.leads in
      stop.halts b.edge b.target (subst (λ (s : ℕ). Edge t b.edge s b.target) here b.leads)
    where
      stays : Kept t cycle (λ s. s ≡ t.start)
      stays e s s' m p q = (stop_step t e s s' (subst (Stop t) (sym q) stop) p).stays ∙ q

-- ---- the tables of the cases

apart : (t : Table) → t.edges ≤ 3 → borne t waiting ≡ 0 → Apart t
apart t few none = record { few = omega arith; unmarked = none }

apart_A : Apart table_a
apart_A = apart table_a (omega arith) refl

-- in table A the edge s leaves s
steps_A : (Q : ℕ → ℕ → ℕ → Type 0) → Edges table_a Q → Steps table_a Q
steps_A = each_step table_a (λ s. s) (omega arith)

-- ---- lassos that several cases share

around : (t : Table) (e : ℕ) → Step t e t.start t.start → Lasso t [] (e ∷ [])
around t e p = record { knot = t.start; leads = refl; closes = (t.start, (p, refl)); turns = omega arith }

through_A : Lasso table_a (0 ∷ []) (1 ∷ 2 ∷ [])
through_A =
    record { knot = 1; leads = (1, (inl (omega arith), refl)); closes = (2, (inl (omega arith), (1, (inl (omega arith), refl)))); turns = omega arith }

-- ---- the cases

pub shift_cases : ShiftCases
unfolding Has union
shift_cases =
    record {
      case_1 = record { lasso = through_A; meets = each _ 2 (omega arith) };
      -- no edge of A bears mark 2
      case_2 = λ p c a. unborne table_a apart_A p c a.lasso 2 2 (omega arith) (each _ 3 (omega arith)) (a.meets 2 (omega arith));
      case_3 = record { prefix = 0 ∷ []; cycle = 1 ∷ 2 ∷ []; accepted = record { lasso = through_A; meets = each _ 1 (omega arith) } };
      -- the edges of A that bear mark 1 leave state 2, and those that arrive there bear mark 0
      case_4 = λ p c a.
          let met : MeetsPair need_one (marks_of table_a c) 0 = subst (MeetsPair need_one (marks_of table_a c)) (omega (arith, a.meets.below)) a.meets.met in
          met.absent
          (borne_beside table_a apart_A p c a.lasso 1 0 2 (each_edge table_a _ (omega arith)) (steps_A _ (each_edge table_a _ (omega arith))) (met.present 0 (omega arith)));
      -- the one edge bears mark 0, and none bears mark 1
      case_5 = λ p c a.
          unborne marked_loop (apart marked_loop (omega arith) refl) p c a.lasso 1 1 (omega arith) (each _ 1 (omega arith))
          (a.meets 0 (omega arith)
          (always_borne marked_loop (apart marked_loop (omega arith) refl) p c a.lasso 0
          (each_step marked_loop (λ s. 0) (omega arith) _ (each_edge marked_loop _ (omega arith)))));
      case_6 = record { prefix = []; cycle = 0 ∷ []; accepted = record { lasso = around plain_loop 0 (inl (omega arith)); meets = each _ 1 (omega arith) } };
      case_7 = record { lasso = around loop_and_way_round 0 (inl (omega arith)); meets = each _ 1 (omega arith) };
      -- the start is a stop state
      case_8 =
          record {
            lasso = around no_edges waiting (inr (record { number = refl; stop = record { state = omega arith; halts = λ e s' p. omega (arith, p.listed) }; stays = refl }));
            meets = each _ 0 tt;
          };
      case_9 = record { prefix = []; cycle = 0 ∷ []; accepted = record { lasso = around plain_loop 0 (inl (omega arith)); meets = each _ 0 tt } };
      -- there is no pair below 0
      case_10 = λ p c a. omega (arith, a.meets.below);
      -- the start is a stop state
      case_11 = λ p c a.
          halted_unmarked loop_out_of_reach (apart loop_out_of_reach (omega arith) refl) p c a.lasso 0
          (record { state = omega arith; halts = λ e s' q. each_edge loop_out_of_reach (λ e s s'. s ≢ 0) (omega arith) e 0 s' q refl }) (a.meets 0 (omega arith));
      -- edges that bear mark 1 leave state 1, which is never left again, and those that bear mark 0 leave state 0
      case_12 = λ p c a.
          never_both two_components (apart two_components (omega arith) refl) p c a.lasso (λ s. s ≡ 1) 1 0 (each_edge two_components _ (omega arith))
          (each_step two_components (λ s. s * 2) (omega arith) _ (each_edge two_components _ (omega arith)))
          (each_edge two_components _ (omega arith)) (a.meets 1 (omega arith)) (a.meets 0 (omega arith));
      case_13 =
          record {
            lasso = record { knot = 1; leads = (1, (inl (omega arith), refl)); closes = (1, (inl (omega arith), refl)); turns = omega arith };
            meets = record { pair = 0; below = omega arith; met = record { absent = omega arith; present = each _ 1 (omega arith) } };
          };
    }
