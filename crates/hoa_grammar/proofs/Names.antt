-- The same bytes: the test says whether they are equal. Assumes nothing.
use mathlib.Core.Bool.{Bool, true, false, false≢true}
use mathlib.Core.List.{List, [], ◌∷◌}
use mathlib.Core.Path.{◌≡◌, refl, sym, ◌∙◌}
use Prim.Native.Nat.{ℕ}
use borrow.Author.Tests.{eqb-true, eq-eqb}
use lib.Dec.{eqb}
use Rattle.marks.proofs.Cases.{both_true}
use Rattle.hoa_tokens.specs.Bytes.{same}

-- what is not true is false
refuted : (x : Bool) → (x ≡ true → ⊥) → x ≡ false
refuted true n = absurd (n refl)
refuted false n = refl

pub same_eq : (xs ys : List ℕ) → same xs ys ≡ true → xs ≡ ys
unfolding same
same_eq [] [] e = refl
same_eq [] (y ∷ ys) e = absurd (false≢true e)
same_eq (x ∷ xs) [] e = absurd (false≢true e)
same_eq (x ∷ xs) (y ∷ ys) e =
    let p : x ≡ y = eqb-true x y (both_true (eqb x y) (same xs ys) e).0 in
    let q : xs ≡ ys = same_eq xs ys (both_true (eqb x y) (same xs ys) e).1 in
    λ i. p i ∷ q i

pub same_refl : (xs : List ℕ) → same xs xs ≡ true
unfolding same
same_refl [] = refl
same_refl (x ∷ xs) = rw (eq-eqb x x refl) (same_refl xs)

pub same_ne : (xs ys : List ℕ) → (xs ≡ ys → ⊥) → same xs ys ≡ false
same_ne xs ys n = refuted (same xs ys) (λ e. n (same_eq xs ys e))

pub ne_same : (xs ys : List ℕ) → same xs ys ≡ false → xs ≡ ys → ⊥
ne_same xs ys e q = false≢true (sym e ∙ rw⁻¹ q (same_refl xs))
