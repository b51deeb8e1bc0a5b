-- Numbers below m that differ are at most m. Assumes nothing.
use mathlib.Core.Bool.{Bool, true, false, cond}
use mathlib.Core.List.{List, [], ◌∷◌}
use mathlib.Core.Path.{◌≡◌, refl, sym, ◌∙◌}
use Prim.Native.Nat.{ℕ, zero, suc, ◌≤◌, ◌<◌, zero-le}
use native.Mathlib.Omega.{arith}
use borrow.Author.Tests.{eqb-true, eqb-false}
use lib.Dec.{eqb}
use lib.ListN.{length}
use Rattle.hoa_grammar.specs.Subset.{Each, each_none, each_more, Differ, differ_none, differ_more}

-- the numbers but m
without : ℕ → List ℕ → List ℕ
without m [] = []
without m (q ∷ qs) = cond (eqb m q) (without m qs) (q ∷ without m qs)

-- what holds of each holds of those
each_without : {P : ℕ → Type 0} (m : ℕ) (qs : List ℕ) → Each P qs → Each P (without m qs)
unfolding without
each_without m [] each_none = each_none
each_without {P = P} m (q ∷ qs) (each_more h hs) = by (eqb m q) (each_without m qs hs)
  where
    by : (x : Bool) → Each P (without m qs) → Each P (cond x (without m qs) (q ∷ without m qs))
    by true r = r
    by false r = each_more {x = q} h r

differ_without : (m : ℕ) (qs : List ℕ) → Differ qs → Differ (without m qs)
unfolding without
differ_without m [] differ_none = differ_none
differ_without m (q ∷ qs) (differ_more d ds) = by (eqb m q) (differ_without m qs ds)
  where
    by : (x : Bool) → Differ (without m qs) → Differ (cond x (without m qs) (q ∷ without m qs))
    by true r = r
    by false r = differ_more (each_without m qs d) r

-- they are below m
below_without : (m : ℕ) (qs : List ℕ) → Each (λ q. q < suc m) qs → Each (λ q. q < m) (without m qs)
unfolding without
below_without m [] each_none = each_none
below_without m (q ∷ qs) (each_more h hs) = by (eqb m q) refl (below_without m qs hs)
  where
    by : (x : Bool) → eqb m q ≡ x → Each (λ q. q < m) (without m qs) → Each (λ q. q < m) (cond x (without m qs) (q ∷ without m qs))
    by true e r = r
    by false e r =
        let n : m ≡ q → ⊥ = eqb-false m q e in
        each_more {x = q} (omega (arith, n, h)) r

-- none is lost where m is not among them
none_lost : (m : ℕ) (qs : List ℕ) → Each (λ q. m ≡ q → ⊥) qs → length (without m qs) ≡ length qs
unfolding without
none_lost m [] each_none = refl
none_lost m (q ∷ qs) (each_more n ns) = by (eqb m q) refl (none_lost m qs ns)
  where
    by : (x : Bool) → eqb m q ≡ x → length (without m qs) ≡ length qs → length (cond x (without m qs) (q ∷ without m qs)) ≡ suc (length qs)
    by true e r = absurd (n (eqb-true m q e))
    by false e r = omega arith

-- at most one is lost
one_lost : (m : ℕ) (qs : List ℕ) → Differ qs → length qs ≤ suc (length (without m qs))
unfolding without
one_lost m [] differ_none = zero-le
one_lost m (q ∷ qs) (differ_more d ds) = by (eqb m q) refl (one_lost m qs ds)
  where
    all : (m : ℕ) → m ≡ q → Each (λ r. m ≡ r → ⊥) qs
    all m e = each_by qs d
      where
        each_by : (rs : List ℕ) → Each (λ r. q ≡ r → ⊥) rs → Each (λ r. m ≡ r → ⊥) rs
        each_by [] each_none = each_none
        each_by (r ∷ rs) (each_more h hs) = each_more {x = r} (λ z. h (sym e ∙ z)) (each_by rs hs)

    by : (x : Bool) → eqb m q ≡ x → length qs ≤ suc (length (without m qs)) → suc (length qs) ≤ suc (length (cond x (without m qs) (q ∷ without m qs)))
    by true e r = omega (arith, none_lost m qs (all m (eqb-true m q e)))
    by false e r = omega arith

-- numbers below m that differ are at most m
pub crowd : (m : ℕ) (qs : List ℕ) → Each (λ q. q < m) qs → Differ qs → length qs ≤ m
crowd zero [] each_none differ_none = zero-le
crowd zero (q ∷ qs) (each_more h hs) d = absurd (omega arith)
crowd (suc m) qs h d = omega (arith, one_lost m qs d, crowd m (without m qs) (below_without m qs h) (differ_without m qs d))
