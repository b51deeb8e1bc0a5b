-- Rows 5, 6 and 7 edge by edge, in the tests that `edges::first_fault` makes. Assumes nothing.
use Rattle.table.specs.declared.Refusal.{Refusal}
use Rattle.std.specs.Prelude.{Result, Ok}
use mathlib.Core.Path.{◌≡◌, refl, sym, ap, ◌∙◌}
use mathlib.Core.Bool.{Bool, true, false, not, true≢false}
use mathlib.Core.List.{List}
use mathlib.Core.Logic.{◌↔◌}
use Prim.Native.Nat.{ℕ, zero, suc, ◌+◌, ◌-◌, ◌^◌, ◌≤◌, ◌<◌}
use native.Mathlib.Nat.{sub-zero}
use native.Mathlib.Numerals.{add-one}
use native.Mathlib.Omega.{arith}
use lib.Dec.{ltb}
use lib.ListN.{get_or}
use borrow.Author.Tests.{le-leb, lt-leb, lt-ltb, le-ltb, not-true, not-false}
use Rattle.marks.specs.Mark.{Covers, first_marks, width}
use Rattle.marks.proofs.Cases.{below}
use Rattle.marks.proofs.Laws.{has_first, Has-fits, fits_has}
use Rattle.table.specs.declared.Refusal.{Refusal}
use Rattle.table.specs.Table.{Table, lent, borne}
use Rattle.table.specs.Refusal.{wrong_order, wrong_end, edge_refusal, refused}
use Rattle.table.specs.inner.Looks.{before}

-- row 6 by the from state that the code holds
pub order_test : (t : Table) (e : ℕ) → wrong_order t e ≡ ltb (get_or t.from e 0) (before t.from e)
order_test t zero = sym (le-ltb (get_or t.from zero 0) 0 (omega arith))
order_test t (suc e) = refl

-- the edges below e are passed: the first cause among all is the first from e on, and `last` is the from state before e
pub record Passed (t : Table) (u e last : ℕ) : Type 0 where
  pub within : e ≤ t.edges
  pub came : last ≡ before t.from e
  pub known : edge_refusal t u 0 t.edges ≡ edge_refusal t u e (t.edges - e)

pub none_passed : (t : Table) (u : ℕ) → Passed t u 0 0
none_passed t u = record { within = omega arith; came = refl; known = ap (edge_refusal t u 0) (sym (sub-zero t.edges)) }

pub all_passed : (t : Table) (u e last : ℕ) → Passed t u e last → t.edges ≤ e → Ok tt ≡ edge_refusal t u 0 t.edges
all_passed t u e last p over =
    let none : t.edges - e ≡ 0 = omega arith in
    sym (p.known ∙ ap (edge_refusal t u e) none)

-- what edge e decides, or hands on to the edges after it
module _ (t : Table) (u e last : ℕ) (p : Passed t u e last) (listed : e < t.edges) where
  decided : {f : Result Unit Refusal} → edge_refusal t u e (suc (t.edges - suc e)) ≡ f → edge_refusal t u 0 t.edges ≡ f
  decided f =
      let k : t.edges - e ≡ suc (t.edges - suc e) = omega arith in
      p.known ∙ ap (edge_refusal t u e) k ∙ f

  pub five_leaves : t.states ≤ get_or t.from e 0 → refused 5 e ≡ edge_refusal t u 0 t.edges
  five_leaves h = sym (decided (simp (le-leb t.states (get_or t.from e 0) h)))

  module _ (h₁ : get_or t.from e 0 < t.states) where
    pub five_arrives : t.states ≤ get_or t.to e 0 → refused 5 e ≡ edge_refusal t u 0 t.edges
    five_arrives h = sym (decided (simp (lt-leb t.states (get_or t.from e 0) h₁, le-leb t.states (get_or t.to e 0) h)))

    module _ (h₂ : get_or t.to e 0 < t.states) where
      ends : wrong_end t e ≡ false
      ends = simp (lt-leb t.states (get_or t.from e 0) h₁, lt-leb t.states (get_or t.to e 0) h₂)

      order : wrong_order t e ≡ ltb (get_or t.from e 0) last
      order = order_test t e ∙ ap (ltb (get_or t.from e 0)) (sym p.came)

      pub six : get_or t.from e 0 < last → refused 6 e ≡ edge_refusal t u 0 t.edges
      six h = sym (decided (rw (ends, order, lt-ltb (get_or t.from e 0) last h)))

      module _ (h₃ : last ≤ get_or t.from e 0) where
        pub seven : 2 ^ u ≤ borne t e → refused 7 e ≡ edge_refusal t u 0 t.edges
        seven h = sym (decided (rw (ends, order, le-ltb (get_or t.from e 0) last h₃, le-leb (2 ^ u) (borne t e) h)))

        faultless : borne t e < 2 ^ u → edge_refusal t u e (suc (t.edges - suc e)) ≡ edge_refusal t u (suc e) (t.edges - suc e)
        faultless h = rw (ends, order, le-ltb (get_or t.from e 0) last h₃, lt-leb (2 ^ u) (borne t e) h)

        pub one_passed : borne t e < 2 ^ u → Passed t u (e + 1) (get_or t.from e 0)
        one_passed h =
            rw add-one (record { within = omega arith; came = refl; known = decided (faultless h) })

-- the first marks up to u cover a set exactly if it bears no mark from u on
pub covered_small : (u x : ℕ) → Covers (first_marks width u) x → x < 2 ^ u
unfolding Covers
covered_small u x c = fits_has u x (λ i h. ((has_first width i u).0 (c i h)).0)

small_covered : (u x : ℕ) → x < 2 ^ u → x < 2 ^ width → Covers (first_marks width u) x
unfolding Covers
small_covered u x h w i m = (has_first width i u).1 (Has-fits u i x h m, Has-fits width i x w m)

-- the code's test of row 7: b says whether the first marks up to u cover x
pub uncovered : (u x : ℕ) {b : Bool} → x < 2 ^ width → ((b ≡ true) ↔ Covers (first_marks width u) x) → not b ≡ true → 2 ^ u ≤ x
uncovered u x {b} w says h =
    below x (2 ^ u) (λ l. absurd (true≢false (sym (says.1 (small_covered u x l w)) ∙ not-true b h))) (λ l. l)

pub covered : (u x : ℕ) {b : Bool} → ((b ≡ true) ↔ Covers (first_marks width u) x) → not b ≡ false → x < 2 ^ u
covered u x {b} says h = covered_small u x (says.0 (not-false b h))

-- rows 5 to 7 do not look at the start
pub start_aside : (n start : ℕ) (from to marks : List ℕ) (u e k : ℕ)
    → edge_refusal (lent n start from to marks) u e k ≡ edge_refusal (lent n 0 from to marks) u e k
start_aside n start from to marks u e zero = refl
start_aside n start from to marks u zero (suc k) = rw (start_aside n start from to marks u 1 k)
start_aside n start from to marks u (suc e) (suc k) = rw (start_aside n start from to marks u (suc (suc e)) k)
