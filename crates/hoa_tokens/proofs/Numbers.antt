-- What digits spell. Assumes nothing.
use mathlib.Core.Path.{◌≡◌, refl}
use mathlib.Core.Bool.{Bool, true, false, ◌||◌}
use mathlib.Core.List.{List, [], ◌∷◌}
use Prim.Native.Nat.{ℕ, ◌+◌, ◌-◌, ◌*◌, ◌≤◌, ◌<◌}
use native.Mathlib.Omega.{arith}
use lib.Dec.{eqb}
use lib.ListN.{length, get_or, drop, drop_of_length-le}
use borrow.Author.Tests.{eq-eqb, ne_eqb, lt-ltb, le-ltb}
use Rattle.hoa_tokens.specs.Token.{int, bad, int_limit, spelt, is_int, digits}
use Rattle.hoa_tokens.specs.inner.Reads.{of_value}
use Rattle.hoa_tokens.proofs.Runs.{here}

-- a digit more
pub spelt_more : (ds : List ℕ) (i n : ℕ) → i < length ds → spelt n (drop i ds) ≡ spelt (n * 10 + (get_or ds i 0 - 48)) (drop (i + 1) ds)
unfolding spelt
spelt_more ds i n l = rw (here ds i l)

-- the last digit was taken
pub spelt_end : (ds : List ℕ) (i n : ℕ) → length ds ≤ i → spelt n (drop i ds) ≡ n
unfolding spelt
spelt_end ds i n l = rw (drop_of_length-le ds l)

-- what is too large stays so
pub too_large : (n : ℕ) (ds : List ℕ) → int_limit ≤ n → of_value (spelt n ds) ≡ bad
unfolding spelt
too_large n [] l = rw (le-ltb n int_limit l)
too_large n (b ∷ ds) l = too_large (n * 10 + (b - 48)) ds (omega arith)

-- a value below the limit
pub small_enough : (n : ℕ) → n < int_limit → of_value n ≡ int n
small_enough n l = rw (lt-ltb n int_limit l)

-- one digit, or none
pub digits_short : (ds : List ℕ) → length ds ≤ 1 → digits ds ≡ of_value (spelt 0 ds)
unfolding is_int
digits_short [] l = refl
digits_short (d ∷ []) l = refl
digits_short (d ∷ (e ∷ ds)) l = absurd (omega arith)

-- no zero in front
pub digits_long : (ds : List ℕ) → (get_or ds 0 0 ≡ 48 → ⊥) → digits ds ≡ of_value (spelt 0 ds)
unfolding is_int
digits_long ds h = rw (ne_eqb (get_or ds 0 0) 48 h, or_true (eqb (length ds) 1))
  where
    or_true : (b : Bool) → (b || true) ≡ true
    or_true true = refl
    or_true false = refl

-- several digits, a zero in front
pub digits_zero : (ds : List ℕ) → 1 < length ds → get_or ds 0 0 ≡ 48 → digits ds ≡ bad
unfolding is_int
digits_zero ds l h = rw (eq-eqb (get_or ds 0 0) 48 h, ne_eqb (length ds) 1 (λ (e : length ds ≡ 1). omega arith))
