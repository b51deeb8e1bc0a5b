-- The decimal digits of a number are read as the number, and bytes above the comma cut no field. Assumes nothing.
use mathlib.Core.Path.{◌≡◌, refl, ap, ◌∙◌}
use mathlib.Core.List.{List, [], ◌∷◌, ◌++◌}
use mathlib.Core.Option.{some}
use Prim.Native.Nat.{ℕ, suc, ◌+◌, ◌≤◌, ◌<◌}
use native.Mathlib.Omega.{arith}
use lib.ListN.{length}
use borrow.Author.Tests.{ne_eqb}
use Rattle.marks.proofs.Cases.{same}
use Rattle.digits.specs.Digit.{digit}
use Rattle.digits.proofs.Digits.{digit_is}
use Rattle.puts.specs.Put.{decimal}
use Rattle.puts.proofs.Puts.{decimal_one}
use Rattle.puts.proofs.Decimals.{every_decimal, decimal_led}
use Rattle.puts.proofs.Over.{Over}
use Rattle.job_values.specs.Bytes.{comma, fields, ahead}
use Rattle.job_values.specs.Number.{spelt, most_number, number}
use Rattle.job_values.proofs.Numbers.{spelt_snoc, zero_number, number_spelt}
use Rattle.job_values.proofs.Edges.{fields_front, fields_last}

-- no digits
spelt_none : spelt digit 10 0 [] ≡ some 0
unfolding spelt
spelt_none = refl

digits_spell : (n : ℕ) → spelt digit 10 0 (decimal n) ≡ some n
digits_spell =
    every_decimal (λ n ds. spelt digit 10 0 ds ≡ some n)
    (λ d l. spelt_snoc digit 10 0 0 d (48 + d) [] spelt_none (digit_is d l) ∙ ap some (omega arith))
    (λ n d ds h l e. spelt_snoc digit 10 0 n d (48 + d) ds e (digit_is d l))

-- "Numbers are decimal, no leading zeros, at most 65,535."
pub number_decimal : (n : ℕ) → n ≤ most_number → number (decimal n) ≡ some n
number_decimal n l =
    same n 0 (λ (z : n ≡ 0). rw (z, decimal_one 0 (omega arith)) zero_number)
    (λ (z : n ≡ 0 → ⊥).
    let led = decimal_led n in
    let long : 0 < length (decimal n) = rw led.is (omega arith) in
    number_spelt (decimal n) n long (rw led.is (λ (e : led.first ≡ 48). omega (arith, led.unled (omega arith)))) (digits_spell n) l)

-- ---- fields of bytes above the comma

-- a byte that does not come is not found
pub ahead_over : (b : ℕ) (xs : List ℕ) → Over b xs → ahead b xs ≡ length xs
unfolding ahead
ahead_over b [] o = refl
ahead_over b (x ∷ xs) o = rw (ne_eqb x b (λ (e : x ≡ b). omega (arith, o.0))) (ap suc (ahead_over b xs o.1))

-- a field, then a comma; and the last field
pub field_over : (f rest : List ℕ) → Over comma f → fields (f ++ (comma ∷ rest)) ≡ f ∷ fields rest
field_over f rest o = fields_front f rest (ahead_over comma f o)

pub last_over : (f : List ℕ) → Over comma f → fields f ≡ f ∷ []
last_over f o = fields_last f (ahead_over comma f o)
