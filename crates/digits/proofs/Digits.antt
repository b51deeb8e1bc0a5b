-- Bytes of a range, and what digits can be worth. Assumes nothing.
use mathlib.Core.Path.{◌≡◌, refl, sym, ◌∙◌}
use mathlib.Core.Bool.{Bool, true, false, false≢true, cond}
use mathlib.Core.Logic.{◌⊎◌, inl, inr, ⊎_elim}
use mathlib.Core.Option.{some, none}
use Prim.Native.Nat.{ℕ, ◌+◌, ◌-◌, ◌≤◌, ◌<◌}
use native.Mathlib.Omega.{arith}
use borrow.Author.Tests.{le-leb, lt-leb}
use Rattle.marks.proofs.Cases.{below}
use Rattle.digits.specs.Digit.{between, digit, hex_digit}

-- a byte from low to high, or not
pub within : (low high b : ℕ) → low ≤ b → b ≤ high → between low high b ≡ true
within low high b l h = rw (le-leb low b l, le-leb b high h)

pub under : (low high b : ℕ) → b < low → between low high b ≡ false
under low high b l = rw (lt-leb low b l)

pub over : (low high b : ℕ) → high < b → between low high b ≡ false
over low high b h = below b low (under low high b) (λ l. rw (le-leb low b l, lt-leb b high h))

low_end : (low high b : ℕ) → between low high b ≡ true → low ≤ b
low_end low high b e = below b low (λ l. absurd (false≢true (sym (under low high b l) ∙ e))) (λ l. l)

high_end : (low high b : ℕ) → between low high b ≡ true → b ≤ high
high_end low high b e = below high b (λ l. absurd (false≢true (sym (over low high b l) ∙ e))) (λ l. l)

-- where an answer is `some`, a test that leads to it held
gives : {A : Type 0} (t : Bool) (a d : A) → cond t (some a) none ≡ some d → (t ≡ true) × (a ≡ d)
gives true a d e = (refl, cc)
gives false a d e = absurd (let z : ◌≡◌ {A = ℕ} 0 1 = cc in omega arith)

either : {A : Type 0} (t u : Bool) (a b d : A) → cond t (some a) (cond u (some b) none) ≡ some d → ((t ≡ true) × (a ≡ d)) ⊎ ((u ≡ true) × (b ≡ d))
either true u a b d e = inl (refl, cc)
either false u a b d e = inr (gives u b d e)

pub digit_below : (b d : ℕ) → digit b ≡ some d → d < 10
unfolding digit
digit_below b d e =
    let g : (between 48 57 b ≡ true) × (b - 48 ≡ d) = gives (between 48 57 b) (b - 48) d e in
    omega (arith, high_end 48 57 b g.0, g.1)

-- the byte of a digit, and no other byte, is worth it
pub digit_is : (d : ℕ) → d < 10 → digit (48 + d) ≡ some d
unfolding digit
digit_is d l = let e : 48 + d - 48 ≡ d = omega arith in rw (within 48 57 (48 + d) (omega arith) (omega arith), e)

pub digit_from : (b d : ℕ) → digit b ≡ some d → b ≡ 48 + d
unfolding digit
digit_from b d e =
    let g : (between 48 57 b ≡ true) × (b - 48 ≡ d) = gives (between 48 57 b) (b - 48) d e in
    omega (arith, low_end 48 57 b g.0, g.1)

pub hex_below : (b d : ℕ) → hex_digit b ≡ some d → d < 16
unfolding hex_digit
hex_below b d e =
    ⊎_elim
    (λ (g : (between 48 57 b ≡ true) × (b - 48 ≡ d)). omega (arith, high_end 48 57 b g.0, g.1))
    (λ (g : (between 97 102 b ≡ true) × (b - 97 + 10 ≡ d)). omega (arith, high_end 97 102 b g.0, g.1))
    (either (between 48 57 b) (between 97 102 b) (b - 48) (b - 97 + 10) d e)
