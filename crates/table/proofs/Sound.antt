-- Exactly the proper tables whose edges bear only marks that a permitted condition uses are found sound. Assumes nothing.
use Rattle.table.specs.declared.Refusal.{Refusal}
use Rattle.std.specs.Prelude.{Result, Ok}
use mathlib.Core.Path.{◌≡◌, refl, sym, ap, ◌∙◌, subst}
use mathlib.Core.Bool.{Bool, true, false, not, ◌||◌, cond}
use mathlib.Core.List.{List}
use Prim.Native.Nat.{ℕ, zero, suc, ◌+◌, ◌^◌, ◌≤◌, ◌<◌}
use native.Mathlib.Omega.{arith}
use lib.Dec.{ltb, leb, eqb}
use lib.ListN.{length, get_or, drop}
use borrow.Author.Tests.{ltb-false, leb-false, eqb-true, eqb-false, not-false, lt-leb, le-ltb, eq-eqb, ne_eqb}
use Rattle.marks.specs.Mark.{width}
use Rattle.marks.proofs.Cases.{same, either_false}
use Rattle.table.specs.declared.Acceptance.{Acceptance}
use Rattle.table.specs.declared.Acceptance.TheVariants.{Buchi, Streett, Rabin}
use Rattle.table.specs.Table.{Table, borne, lent}
use Rattle.table.specs.Condition.{dealt}
use Rattle.table.specs.Refusal.{some_need, used, wrong_states, wrong_edges, wrong_start, wrong_condition, wrong_end, wrong_order, wrong_mark, refused}
use Rattle.table.specs.Refusal.{edge_refusal, refusal, most_states, most_edges, Proper, MarksBelow}

-- ---- the tests, taken apart and put together

neither : (a b : Bool) → a ≡ false → b ≡ false → (a || b) ≡ false
neither a b p q = ap (λ (x : Bool). x || b) p ∙ q

cond_sound : (b : Bool) (number place : ℕ) (f : Result Unit Refusal) → cond b (refused number place) f ≡ Ok tt → (b ≡ false) × (f ≡ Ok tt)
cond_sound true number place f e = let z : ◌≡◌ {A = ℕ} 0 1 = cc in absurd (omega arith)
cond_sound false number place f e = (refl, e)

passed : (b : Bool) (g f : Result Unit Refusal) → b ≡ false → f ≡ Ok tt → cond b g f ≡ Ok tt
passed b g f p q = ap (λ (x : Bool). cond x g f) p ∙ q

same_test : (a b : ℕ) → not (eqb a b) ≡ false → a ≡ b
same_test a b h = eqb-true a b (not-false (eqb a b) h)

test_same : (a b : ℕ) → a ≡ b → not (eqb a b) ≡ false
test_same a b h = ap not (eq-eqb a b h)

-- ---- the condition

-- a condition that row 4 lets pass uses no more marks than a set holds
pub used_few : (c : Acceptance) (needs : List ℕ) → wrong_condition c needs ≡ false → used c needs ≤ width
used_few (Buchi k) needs h = ltb-false width k h
used_few (Streett p) needs h = omega (arith, ltb-false 16 p h)
used_few (Rabin p) needs h = ltb-false width (dealt needs p) (either_false (some_need (drop p needs)) _ (either_false (ltb 8 p) _ h).1).1

pub rabin_few : (p : ℕ) (needs : List ℕ) → wrong_condition (Rabin p) needs ≡ false → p ≤ 8
rabin_few p needs h = ltb-false 8 p (either_false (ltb 8 p) _ h).0

-- ---- the edges

-- what rows 5, 6 and 7 ask of edge e
pub record EdgeFit (t : Table) (u e : ℕ) : Type 0 where
  pub leaves : get_or t.from e 0 < t.states
  pub arrives : get_or t.to e 0 < t.states
  pub order : wrong_order t e ≡ false
  pub marks : borne t e < 2 ^ u

edges_fit : (t : Table) (u e k : ℕ) → edge_refusal t u e k ≡ Ok tt → (i : ℕ) → e ≤ i → i < e + k → EdgeFit t u i
edges_fit t u e zero h i l b = absurd (omega arith)
edges_fit t u e (suc k) h i l b =
    let five = cond_sound (wrong_end t e) 5 e _ h in
    let six = cond_sound (wrong_order t e) 6 e _ five.1 in
    let seven = cond_sound (wrong_mark t u e) 7 e _ six.1 in
    let ends = either_false (leb t.states (get_or t.from e 0)) _ five.0 in
    same i e
    (λ q. subst (EdgeFit t u) (sym q) (record {
      leaves = leb-false t.states (get_or t.from e 0) ends.0;
      arrives = leb-false t.states (get_or t.to e 0) ends.1;
      order = six.0;
      marks = leb-false (2 ^ u) (borne t e) seven.0;
    }))
    (λ q. edges_fit t u (suc e) k seven.1 i (omega arith) (omega arith))

pub fit_edges : (t : Table) (u e k : ℕ) → ((i : ℕ) → e ≤ i → i < e + k → EdgeFit t u i) → edge_refusal t u e k ≡ Ok tt
fit_edges t u e zero f = refl
fit_edges t u e (suc k) f =
    let g = f e (omega arith) (omega arith) in
    let leaves = lt-leb t.states (get_or t.from e 0) g.leaves in
    let arrives = lt-leb t.states (get_or t.to e 0) g.arrives in
    passed (wrong_end t e) (refused 5 e) _ (neither (leb t.states (get_or t.from e 0)) _ leaves arrives)
    (passed (wrong_order t e) (refused 6 e) _ g.order
    (passed (wrong_mark t u e) (refused 7 e) _ (lt-leb (2 ^ u) (borne t e) g.marks) (fit_edges t u (suc e) k (λ i l b. f i (omega arith) (omega arith)))))

sorted_test : (t : Table) → ((e : ℕ) → suc e < t.edges → get_or t.from e 0 ≤ get_or t.from (suc e) 0) → (e : ℕ) → e < t.edges → wrong_order t e ≡ false
sorted_test t up zero h = refl
sorted_test t up (suc e) h = le-ltb (get_or t.from (suc e) 0) (get_or t.from e 0) (up e h)

-- ---- the whole table

-- what rows 1 to 7 ask
pub record Fit (t : Table) (c : Acceptance) (needs : List ℕ) : Type 0 where
  pub proper : Proper t
  pub condition : wrong_condition c needs ≡ false
  pub marks_below : MarksBelow t (used c needs)

module _ (n start : ℕ) (from to marks : List ℕ) (c : Acceptance) (needs : List ℕ) where
  t : Table
  t = lent n start from to marks

  pub sound_fit : refusal (lent n start from to marks) c needs ≡ Ok tt → Fit (lent n start from to marks) c needs
  unfolding t
  sound_fit h =
      let one = cond_sound (wrong_states t) 1 0 _ h in
      let two = cond_sound (wrong_edges t) 2 0 _ one.1 in
      let three = cond_sound (wrong_start t) 3 0 _ two.1 in
      let four = cond_sound (wrong_condition c needs) 4 0 _ three.1 in
      let states = either_false (eqb n 0) _ one.0 in
      let lengths = either_false (not (eqb (length from) (length to))) _ two.0 in
      let rest = either_false (not (eqb (length from) (length marks))) _ lengths.1 in
      let some : n ≡ 0 → ⊥ = eqb-false n 0 states.0 in
      let fit = edges_fit t (used c needs) 0 (length from) four.1 in
      record {
        proper = record {
          some = omega arith;
          few = ltb-false most_states n states.1;
          from_length = refl;
          to_length = sym (same_test (length from) (length to) lengths.0);
          marks_length = sym (same_test (length from) (length marks) rest.0);
          few_edges = ltb-false most_edges (length from) rest.1;
          start_below = leb-false n start three.0;
          from_below = λ e l. (fit e (omega arith) (omega arith)).leaves;
          to_below = λ e l. (fit e (omega arith) (omega arith)).arrives;
          sorted = λ e l. ltb-false (get_or from (suc e) 0) (get_or from e 0) (fit (suc e) (omega arith) (omega arith)).order;
        };
        condition = four.0;
        marks_below = λ e l. (fit e (omega arith) (omega arith)).marks;
      }

  pub fit_sound : Fit (lent n start from to marks) c needs → refusal (lent n start from to marks) c needs ≡ Ok tt
  unfolding t
  fit_sound f =
      let p = f.proper in
      passed (wrong_states t) (refused 1 0) _ (neither (eqb n 0) _ (ne_eqb n 0 (λ (z : n ≡ 0). omega (arith, p.some))) (le-ltb most_states n p.few))
      (passed (wrong_edges t) (refused 2 0) _
      (neither (not (eqb (length from) (length to))) _ (test_same (length from) (length to) (sym p.to_length))
      (neither (not (eqb (length from) (length marks))) _ (test_same (length from) (length marks) (sym p.marks_length)) (le-ltb most_edges (length from) p.few_edges)))
      (passed (wrong_start t) (refused 3 0) _ (lt-leb n start p.start_below)
      (passed (wrong_condition c needs) (refused 4 0) _ f.condition
      (fit_edges t (used c needs) 0 (length from) (λ i l b. record {
        leaves = p.from_below i (omega arith);
        arrives = p.to_below i (omega arith);
        order = sorted_test t p.sorted i (omega arith);
        marks = f.marks_below i (omega arith);
      })))))
