-- The form of numbers and of mark sets, and what each says (docs/RULES.md, "The job text and the printed answer"): `none` where the bytes are not
-- of the form. Assumes nothing.
use Rattle.std.specs.Prelude.{Bool, cond, ◌&&◌, List, [], ◌∷◌, ℕ, ◌+◌, ◌*◌, leb, ltb, eqb, length, get_or}
use Rattle.std.proofs.Math.Option.{Option, some, none}
use Rattle.digits.specs.Digit.{digit, hex_digit}

abbrev pub and_then : {A B : Type 0} → Option A → (A → Option B) → Option B
and_then none f = none
and_then (some a) f = f a

-- the number that digits spell, the first the highest, where the digits before them spell n
unfoldable pub spelt : (ℕ → Option ℕ) → ℕ → ℕ → List ℕ → Option ℕ
spelt value base n [] = some n
spelt value base n (b ∷ bs) = and_then (value b) (λ d. spelt value base (n * base + d) bs)

-- ---- "Numbers are decimal, no leading zeros, at most 65,535."

abbrev pub most_number : ℕ
most_number = 65535

abbrev pub leading_zero : List ℕ → Bool
leading_zero bs = ltb 1 (length bs) && eqb (get_or bs 0 0) 48

abbrev pub at_most : ℕ → Option ℕ → Option ℕ
at_most most none = none
at_most most (some n) = cond (leb n most) (some n) none

unfoldable pub number : List ℕ → Option ℕ
number bs = cond (eqb (length bs) 0) none (cond (leading_zero bs) none (at_most most_number (spelt digit 10 0 bs)))

-- ---- "marks as eight lower-case hex digits"

abbrev pub hex_digits : ℕ
hex_digits = 8

unfoldable pub hex_word : List ℕ → Option ℕ
hex_word bs = cond (eqb (length bs) hex_digits) (spelt hex_digit 16 0 bs) none
