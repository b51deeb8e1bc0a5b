-- n + 1 numbers below n: two of them agree, and a search finds them. Assumes nothing.
use mathlib.Core.Path.{◌≡◌, sym, ap, ◌∙◌}
use mathlib.Core.Logic.{◌⊎◌, inl, inr, ⊎_elim}
use Prim.Native.Nat.{ℕ, zero, suc, ◌≤◌, ◌<◌}
use native.Mathlib.Omega.{arith}
use lib.Dec.{eqb}
use borrow.Author.Tests.{eq-eqb, ne_eqb}
use Rattle.marks.proofs.Cases.{same}
use Rattle.climbing.specs.Climb.{choose}

-- f takes one value at u and at v, of the places up to n
pub record Twice (f : ℕ → ℕ) (n : ℕ) : Type 0 where
  pub u : ℕ
  pub v : ℕ
  pub less : u < v
  pub most : v ≤ n
  pub agree : f u ≡ f v

-- a place below n at which f is x, or that there is none
seek : (f : ℕ → ℕ) (x n : ℕ) → ((i : ℕ) × ((i < n) × (f i ≡ x))) ⊎ ((i : ℕ) → i < n → f i ≡ x → ⊥)
seek f x zero = inr (λ i l e. omega arith)
seek f x (suc n) =
    same (f n) x (λ e. inl (n, (omega arith, e)))
    (λ ne.
    ⊎_elim (λ (p : (i : ℕ) × ((i < n) × (f i ≡ x))). inl (p.0, (omega (arith, p.1.0), p.1.1)))
    (λ (none : (i : ℕ) → i < n → f i ≡ x → ⊥).
    inr (λ i l e. same i n (λ q. ne (sym (ap f q) ∙ e)) (λ q. none i (omega arith) e)))
    (seek f x n))

-- where the last value is taken nowhere before, it may stand for n: then n + 1 numbers are below n
module _ (n : ℕ) (f : ℕ → ℕ) (low : (i : ℕ) → i ≤ suc n → f i < suc n) (none : (i : ℕ) → i < suc n → f i ≡ f (suc n) → ⊥) where
  abbrev others : ℕ → ℕ
  others i = choose (eqb (f i) n) (f (suc n)) (f i)

  at_top : (i : ℕ) → f i ≡ n → others i ≡ f (suc n)
  at_top i e = rw (eq-eqb (f i) n e)

  under_top : (i : ℕ) → (f i ≡ n → ⊥) → others i ≡ f i
  under_top i e = rw (ne_eqb (f i) n e)

  others_low : (i : ℕ) → i ≤ n → others i < n
  others_low i l =
      same (f i) n
      (λ e. let apart : f (suc n) ≡ n → ⊥ = λ (q : f (suc n) ≡ n). none i (omega arith) (e ∙ sym q) in omega (arith, at_top i e, low (suc n) (omega arith)))
      (λ e. omega (arith, under_top i e, low i (omega arith)))

  others_agree : (u v : ℕ) → u ≤ n → v ≤ n → others u ≡ others v → f u ≡ f v
  others_agree u v l m e =
      same (f u) n
      (λ p. same (f v) n (λ q. p ∙ sym q) (λ q. absurd (none v (omega arith) (sym (sym (at_top u p) ∙ e ∙ under_top v q)))))
      (λ p. same (f v) n (λ q. absurd (none u (omega arith) (sym (under_top u p) ∙ e ∙ at_top v q))) (λ q. sym (under_top u p) ∙ e ∙ under_top v q))

pub twice : (n : ℕ) (f : ℕ → ℕ) → ((i : ℕ) → i ≤ n → f i < n) → Twice f n
twice zero f low = absurd (omega (arith, low 0 (omega arith)))
twice (suc n) f low =
    ⊎_elim
    (λ (p : (i : ℕ) × ((i < suc n) × (f i ≡ f (suc n)))). record { u = p.0; v = suc n; less = p.1.0; most = omega arith; agree = p.1.1 })
    (λ (none : (i : ℕ) → i < suc n → f i ≡ f (suc n) → ⊥).
    let r = twice n (others n f low none) (others_low n f low none) in
    record {
      u = r.u;
      v = r.v;
      less = r.less;
      most = omega (arith, r.most);
      agree = others_agree n f low none r.u r.v (omega (arith, r.less, r.most)) r.most r.agree;
    })
    (seek f (f (suc n)) (suc n))
