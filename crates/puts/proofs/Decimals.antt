-- What holds of the decimal digits of every number. Assumes nothing.
use mathlib.Core.Path.{◌≡◌, refl, ap, subst}
use mathlib.Core.List.{List, [], ◌∷◌, ◌++◌}
use Prim.Native.Nat.{ℕ, zero, suc, ◌+◌, ◌*◌, ◌/◌, ◌%◌, ◌≤◌, ◌<◌}
use native.Mathlib.Omega.{arith}
use Rattle.marks.proofs.Cases.{below}
use Rattle.puts.specs.Put.{decimal}
use Rattle.puts.proofs.Puts.{decimal_one, decimal_more}

-- what holds of one digit, and of one digit more behind those of a number above 0
module _ (P : ℕ → List ℕ → Type 0) (alone : (d : ℕ) → d < 10 → P d ((48 + d) ∷ []))
    (behind : (n d : ℕ) (ds : List ℕ) → 0 < n → d < 10 → P n ds → P (n * 10 + d) (ds ++ ((48 + d) ∷ []))) where
  up_to : (k n : ℕ) → n ≤ k → P n (decimal n)
  up_to zero n l = rw (decimal_one n (omega arith)) (alone n (omega arith))
  up_to (suc k) n l =
      below n 10 (λ s. rw (decimal_one n s) (alone n s))
      (λ s.
      let e : n / 10 * 10 + n % 10 ≡ n = omega arith in
      let ds = decimal (n / 10) in
      rw (decimal_more n s)
      (subst (λ (m : ℕ). P m (ds ++ ((48 + n % 10) ∷ []))) e (behind (n / 10) (n % 10) ds (omega arith) (omega arith) (up_to k (n / 10) (omega arith)))))

  pub every_decimal : (n : ℕ) → P n (decimal n)
  every_decimal n = up_to n n (omega arith)

-- there is a first digit, from `0` to `9`, and above `0` for a number above 0
pub record Led (n : ℕ) (ds : List ℕ) : Type 0 where
  pub first : ℕ
  pub others : List ℕ
  pub is : ds ≡ first ∷ others
  pub least : 48 ≤ first
  pub most : first ≤ 57
  pub unled : 0 < n → 48 < first

pub decimal_led : (n : ℕ) → Led n (decimal n)
decimal_led =
    every_decimal Led (λ d l. record { first = 48 + d; others = []; is = refl; least = omega arith; most = omega arith; unled = λ h. omega arith })
    (λ n d ds h l D.
    record {
      first = D.first;
      others = D.others ++ ((48 + d) ∷ []);
      is = ap (λ (es : List ℕ). es ++ ((48 + d) ∷ [])) D.is;
      least = D.least;
      most = D.most;
      unled = λ _. D.unled h;
    })
