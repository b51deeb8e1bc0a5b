-- The lifted table is itself a table: rows 1 to 7 accept it as Büchi 1. Assumes nothing.
use Rattle.std.specs.Prelude.{Ok}
use mathlib.Core.Path.{◌≡◌, refl, sym, ap, ◌∙◌, subst}
use mathlib.Core.List.{[]}
use Prim.Native.Nat.{ℕ, suc, ◌+◌, ◌-◌, ◌*◌, ◌/◌, ◌≤◌, ◌<◌}
use native.Mathlib.Nat.{div-lt_iff_lt-mul, mul-pos}
use native.Mathlib.Omega.{arith}
use lib.ListN.{get_or}
use Rattle.table.specs.declared.Acceptance.TheVariants.{Buchi}
use Rattle.table.specs.Table.{Table, lent, borne}
use Rattle.table.specs.Refusal.{refusal, most_states, most_edges, Proper}
use Rattle.table.proofs.Rows.{sorted_far}
use Rattle.table.proofs.Sound.{Fit, fit_sound}
use Rattle.climbing.specs.Climb.{levels, number, landing}
use Rattle.climbing.specs.Place.{row_start, row_length, leaves, state_at, behind, level_at, edge_at}
use Rattle.climbing.specs.Translated.{lifted, lifted_from, lifted_to, lifted_marks}
use Rattle.climbing.proofs.Climbs.{landing_below, bearing_below}
use Rattle.climbing.proofs.Numbers.{number_below, number_up, div_up}
use Rattle.climbing.proofs.Order.{sorted, whole_length}
use Rattle.one_mark.proofs.Position.{stands, some_in_row, cell_at}

module _ (t : Table) (proper : Proper t) (k : ℕ) where
  -- ---- a later position has no smaller state, and within a state no smaller level

  state_up : (q : ℕ) → suc q < t.edges * levels k → state_at t k q ≤ state_at t k (suc q)
  unfolding state_at
  state_up q l =
      let e = q / levels k in
      let f = suc q / levels k in
      let up : e ≤ f = div_up (levels k) q (suc q) (omega arith) (omega arith) in
      let most : f < t.edges = (div-lt_iff_lt-mul {k = levels k} (omega arith)).1 l in
      let far : e + (f - e) ≡ f = omega arith in
      rw far at (sorted_far t.from (sorted t proper) e (f - e) (omega (arith, proper.from_length)))

  level_up : (q : ℕ) → suc q < t.edges * levels k → state_at t k q ≡ state_at t k (suc q) → level_at t k q ≤ level_at t k (suc q)
  unfolding level_at behind
  level_up q l e =
      let s = state_at t k (suc q) in
      rw e (div_up (row_length t s) (q - row_start t s * levels k) (suc q - row_start t s * levels k) (some_in_row t proper k (suc q) l) (omega arith))

  from_at : (q : ℕ) → q < t.edges * levels k → get_or (lifted t k).from q 0 ≡ number k (state_at t k q) (level_at t k q)
  from_at q l = cell_at t proper k (lifted_from t k) q l ∙ rw (stands t proper k q l).state

  from_up : (q : ℕ) → suc q < t.edges * levels k → get_or (lifted t k).from q 0 ≤ get_or (lifted t k).from (suc q) 0
  from_up q l =
      rw (from_at q (omega arith), from_at (suc q) l)
      (number_up (levels k) (state_at t k q) (level_at t k q) (state_at t k (suc q)) (level_at t k (suc q)) (stands t proper k q (omega arith)).level (state_up q l) (level_up q l))

  -- ---- its edges lead from states to states

  from_below : (q : ℕ) → q < t.edges * levels k → get_or (lifted t k).from q 0 < t.states * levels k
  from_below q l =
      let p = stands t proper k q l in
      let e = edge_at t k q in
      rw (cell_at t proper k (lifted_from t k) q l) (number_below t.states (levels k) (leaves t e) (level_at t k q) (proper.from_below e p.edge) p.level)

  to_below : (q : ℕ) → q < t.edges * levels k → get_or (lifted t k).to q 0 < t.states * levels k
  to_below q l =
      let e = edge_at t k q in
      let j = landing k (borne t e) (level_at t k q) in
      rw (cell_at t proper k (lifted_to t k) q l)
      (number_below t.states (levels k) (get_or t.to e 0) j (proper.to_below e (stands t proper k q l).edge) (landing_below k (borne t e) (level_at t k q)))

  -- ---- rows 1 to 7

  pub lifted_proper : t.states * levels k ≤ most_states → t.edges * levels k ≤ most_edges → Proper (lifted t k)
  lifted_proper few few_edges =
      record {
        some = mul-pos proper.some (omega arith);
        few = few;
        from_length = whole_length t proper k (lifted_from t k);
        to_length = whole_length t proper k (lifted_to t k);
        marks_length = whole_length t proper k (lifted_marks t k);
        few_edges = few_edges;
        start_below = number_below t.states (levels k) t.start 0 proper.start_below (omega arith);
        from_below = from_below;
        to_below = to_below;
        sorted = from_up;
      }

  -- the three lists, lent again, are the lifted table
  pub lent_again : lent (t.states * levels k) (number k t.start 0) (lifted t k).from (lifted t k).to (lifted t k).marks ≡ lifted t k
  lent_again =
      let u = lifted t k in
      ap (λ (m : ℕ). record { states = u.states; start = u.start; edges = m; from = u.from; to = u.to; marks = u.marks })
      (whole_length t proper k (lifted_from t k))

  pub lifted_sound : t.states * levels k ≤ most_states → t.edges * levels k ≤ most_edges → refusal (lifted t k) (Buchi 1) [] ≡ Ok tt
  lifted_sound few few_edges =
      subst (λ (u : Table). refusal u (Buchi 1) [] ≡ Ok tt) lent_again
      (fit_sound (t.states * levels k) (number k t.start 0) (lifted t k).from (lifted t k).to (lifted t k).marks (Buchi 1) []
      (subst (λ (u : Table). Fit u (Buchi 1) []) (sym lent_again)
      (record {
        proper = lifted_proper few few_edges;
        condition = refl;
        marks_below = λ q l. rw (cell_at t proper k (lifted_marks t k) q l) (bearing_below k (borne t (edge_at t k q)) (level_at t k q));
      })))
