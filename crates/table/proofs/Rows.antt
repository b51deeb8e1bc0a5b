-- Rows and parts of a table, over any size: a place in a part is an edge's own number, and the row of a state is the run of edges
-- that leave it. Assumes nothing.
use mathlib.Core.Path.{◌≡◌, refl, sym, ap, ◌∙◌, subst}
use mathlib.Core.Bool.{Bool, cond}
use mathlib.Core.List.{List, [], ◌∷◌}
use Prim.Native.Nat.{ℕ, zero, suc, ◌+◌, ◌-◌, ◌≤◌, ◌<◌}
use native.Mathlib.Nat.{le_refl, le_trans, add-suc, add-zero}
use native.Mathlib.Omega.{arith}
use lib.ListN.{length, get_or, drop, length-take, length-drop}
use lib.Seq.{get_or-take, get_or-drop}
use borrow.Author.Tests.{eq-eqb, ne_eqb}
use Rattle.marks.proofs.Cases.{same, below}
use Rattle.table.specs.Row.{part, run, Row}

-- ---- a part of a list

pub part_length : (a b : ℕ) (xs : List ℕ) → b ≤ length xs → length (part a b xs) ≡ b - a
part_length a b xs h = simp (length-take, length-drop) (omega arith)

-- place i of the part is place a + i of the whole
pub part_at : (a b : ℕ) (xs : List ℕ) (i : ℕ) → i < b - a → get_or (part a b xs) i 0 ≡ get_or xs (a + i) 0
part_at a b xs i h = rw (get_or-take, get_or-drop)

-- ---- a run

-- the cells of a run, the cell after it, and where it ends
pub run_inside : (s : ℕ) (xs : List ℕ) (i : ℕ) → i < run s xs → get_or xs i 0 ≡ s
run_inside s [] i h = absurd (omega arith)
run_inside s (x ∷ xs) zero h = same x s (λ q. q) (λ q. absurd (omega (arith, ap (λ (b : Bool). cond b (suc (run s xs)) 0) (ne_eqb x s q))))
run_inside s (x ∷ xs) (suc i) h =
    same x s
    (λ q. run_inside s xs i (omega (arith, ap (λ (b : Bool). cond b (suc (run s xs)) 0) (eq-eqb x s q))))
    (λ q. absurd (omega (arith, ap (λ (b : Bool). cond b (suc (run s xs)) 0) (ne_eqb x s q))))

pub run_after : (s : ℕ) (xs : List ℕ) → run s xs < length xs → get_or xs (run s xs) 0 ≡ s → ⊥
run_after s [] h e = absurd (omega arith)
run_after s (x ∷ xs) h e =
    same x s
    (λ q.
    let r : run s (x ∷ xs) ≡ suc (run s xs) = ap (λ (b : Bool). cond b (suc (run s xs)) 0) (eq-eqb x s q) in
    run_after s xs (omega arith) (subst (λ (k : ℕ). get_or (x ∷ xs) k 0 ≡ s) r e))
    (λ q.
    let r : run s (x ∷ xs) ≡ 0 = ap (λ (b : Bool). cond b (suc (run s xs)) 0) (ne_eqb x s q) in
    q (subst (λ (k : ℕ). get_or (x ∷ xs) k 0 ≡ s) r e))

pub run_most : (s : ℕ) (xs : List ℕ) → run s xs ≤ length xs
run_most s [] = omega arith
run_most s (x ∷ xs) =
    same x s
    (λ q. omega (arith, run_most s xs, ap (λ (b : Bool). cond b (suc (run s xs)) 0) (eq-eqb x s q)))
    (λ q. omega (arith, ap (λ (b : Bool). cond b (suc (run s xs)) 0) (ne_eqb x s q)))

-- ---- the rows of a sorted list

abbrev pub Sorted : List ℕ → Type 0
Sorted from = (e : ℕ) → suc e < length from → get_or from e 0 ≤ get_or from (suc e) 0

-- in a sorted list a later cell is no smaller
pub sorted_far : (from : List ℕ) → Sorted from → (e k : ℕ) → e + k < length from → get_or from e 0 ≤ get_or from (e + k) 0
sorted_far from up e zero h = subst (λ (j : ℕ). get_or from e 0 ≤ get_or from j 0) (sym (add-zero e)) (le_refl (get_or from e 0))
sorted_far from up e (suc k) h =
    let l : e + k < length from = omega arith in
    subst (λ (j : ℕ). get_or from e 0 ≤ get_or from j 0) (sym (add-suc e k)) (le_trans (sorted_far from up e k l) (up (e + k) (omega arith)))

-- the row of s begins at a if exactly the edges before a leave smaller states: `Begins from s a`
pub record Begins (from : List ℕ) (s a : ℕ) : Type 0 where
  pub within : a ≤ length from
  pub smaller : (e : ℕ) → e < a → get_or from e 0 < s
  pub larger : (e : ℕ) → a ≤ e → e < length from → s ≤ get_or from e 0

pub first_begins : (from : List ℕ) → Begins from 0 0
first_begins from = record { within = omega arith; smaller = λ e h. absurd (omega arith); larger = λ e h l. omega arith }

-- the run from where the row begins is the row
module _ (from : List ℕ) (up : Sorted from) (s a : ℕ) (b : Begins from s a) where
  pub row_is : Row from s a (a + run s (drop a from))
  row_is = record {
    ordered = omega arith;
    ends = omega (arith, b.within, run_most s (drop a from), length-drop a from);
    before = b.smaller;
    inside = λ e l h. inside_at e l h;
    after = λ e l h. after_at e l h;
  }
    where
      inside_at : (e : ℕ) → a ≤ e → e < a + run s (drop a from) → get_or from e 0 ≡ s
      inside_at e l h =
          let k : a + (e - a) ≡ e = omega arith in
          subst (λ (j : ℕ). get_or from j 0 ≡ s) k (sym (get_or-drop a from (e - a) 0) ∙ run_inside s (drop a from) (e - a) (omega arith))

      past : (r : ℕ) → run s (drop a from) ≡ r → a + r < length from → s < get_or from (a + r) 0
      past r q h =
          let ne : get_or from (a + r) 0 ≡ s → ⊥ =
          λ z. run_after s (drop a from) (omega (arith, length-drop a from)) (ap (λ (j : ℕ). get_or (drop a from) j 0) q ∙ get_or-drop a from r 0 ∙ z) in
          let ge : s ≤ get_or from (a + r) 0 = b.larger (a + r) (omega arith) h in
          omega arith

      after_at : (e : ℕ) → a + run s (drop a from) ≤ e → e < length from → s < get_or from e 0
      after_at e l h =
          let k : (a + run s (drop a from)) + (e - (a + run s (drop a from))) ≡ e = omega arith in
          let far = sorted_far from up (a + run s (drop a from)) (e - (a + run s (drop a from))) (subst (λ (j : ℕ). j < length from) (sym k) h) in
          omega (arith, past (run s (drop a from)) refl (omega arith), subst (λ (j : ℕ). get_or from (a + run s (drop a from)) 0 ≤ get_or from j 0) k far)

-- the next state's row begins where a row ends
pub next_begins : (from : List ℕ) (s a b : ℕ) → Row from s a b → Begins from (suc s) b
next_begins from s a b r = record {
  within = r.ends;
  smaller = λ e h. below e a (λ l. omega (arith, r.before e l)) (λ l. omega (arith, r.inside e l h));
  larger = λ e l h. omega (arith, r.after e l h);
}
