-- Texts whose bytes all stand above a byte, as digits stand above the comma and the newline byte. Assumes nothing.
use mathlib.Core.Path.{◌≡◌}
use mathlib.Core.Bool.{Bool, true, ◌&&◌}
use mathlib.Core.List.{List, [], ◌∷◌, ◌++◌}
use Prim.Native.Nat.{ℕ, ◌+◌, ◌≤◌, ◌<◌}
use native.Mathlib.Omega.{arith}
use lib.Dec.{ltb}
use borrow.Author.Tests.{ltb-true}
use Rattle.marks.proofs.Cases.{both_true}
use Rattle.puts.specs.Put.{decimal}
use Rattle.puts.proofs.Decimals.{every_decimal}

-- each byte is above b
abbrev pub Over : ℕ → List ℕ → Type 0
Over b [] = Unit {0}
Over b (x ∷ xs) = (b < x) × Over b xs

pub over_both : (b : ℕ) (xs ys : List ℕ) → Over b xs → Over b ys → Over b (xs ++ ys)
over_both b [] ys p q = q
over_both b (x ∷ xs) ys p q = (p.0, over_both b xs ys p.1 q)

pub over_less : (b a : ℕ) → a ≤ b → (xs : List ℕ) → Over b xs → Over a xs
over_less b a l [] o = tt
over_less b a l (x ∷ xs) o = (omega (arith, o.0), over_less b a l xs o.1)

-- the test of it
abbrev pub over? : ℕ → List ℕ → Bool
over? b [] = true
over? b (x ∷ xs) = ltb b x && over? b xs

pub over_test : (b : ℕ) (xs : List ℕ) → over? b xs ≡ true → Over b xs
over_test b [] e = tt
over_test b (x ∷ xs) e = let t = both_true (ltb b x) (over? b xs) e in (ltb-true b x t.0, over_test b xs t.1)

pub decimal_over : (b n : ℕ) → b < 48 → Over b (decimal n)
decimal_over b n l =
    every_decimal (λ _ ds. Over b ds) (λ d h. (omega arith, tt)) (λ m d ds g h o. over_both b ds ((48 + d) ∷ []) o (omega arith, tt)) n
