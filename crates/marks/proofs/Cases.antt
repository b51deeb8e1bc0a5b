-- Case distinctions on numbers: two numbers are equal or not, in order or not; and what the outcome of a test says. Assumes nothing.
use mathlib.Core.Path.{◌≡◌, refl, sym, ◌∙◌}
use mathlib.Core.Bool.{Bool, true, false, false≢true, ◌&&◌, ◌||◌}
use mathlib.Core.Logic.{◌↔◌}
use Prim.Native.Nat.{ℕ, ◌≤◌, ◌<◌}
use native.Mathlib.Decide.{ℕ_discrete, dec_lt}
use native.Mathlib.Omega.{arith}

split : {A C : Type 0} → (A → C) → ((A → ⊥) → C) → Dec A → C
split f g (yes a) = f a
split f g (no h) = g h

-- by whether a and b are equal
pub same : {C : Type 0} (a b : ℕ) → (a ≡ b → C) → ((a ≡ b → ⊥) → C) → C
same a b f g = split f g (ℕ_discrete a b)

-- by whether a is below b
pub below : {C : Type 0} (a b : ℕ) → (a < b → C) → (b ≤ a → C) → C
below a b f g = split f (λ (h : a < b → ⊥). g (omega arith)) (dec_lt a b)

-- where both tests are said to hold, each does; where neither is, none does
pub both_true : (a b : Bool) → (a && b) ≡ true → (a ≡ true) × (b ≡ true)
both_true true b e = (refl, e)
both_true false b e = absurd (false≢true e)

pub either_false : (a b : Bool) → (a || b) ≡ false → (a ≡ false) × (b ≡ false)
either_false true b e = absurd (false≢true (sym e))
either_false false b e = (refl, e)

-- what a test asks for does not hold where it failed
pub refuted : {P : Type 0} (r : Bool) → (r ≡ true) ↔ P → r ≡ false → P → ⊥
refuted r h e p = false≢true (sym e ∙ h.1 p)
