-- The digits of a number spell it. Assumes nothing.
use mathlib.Core.Path.{◌≡◌, refl, sym, ◌∙◌}
use mathlib.Core.Bool.{Bool, true, false, false≢true, ◌||◌}
use mathlib.Core.List.{List, [], ◌∷◌, ◌++◌, append_assoc}
use Prim.Native.Nat.{ℕ, ◌+◌, ◌-◌, ◌*◌, ◌≤◌, ◌<◌}
use native.Mathlib.Nat.{add-zero}
use native.Mathlib.Omega.{arith}
use lib.Dec.{eqb}
use lib.ListN.{length, get_or, length-append}
use lib.Seq.{take_at}
use borrow.Author.Tests.{ne_eqb, le-leb, lt-ltb}
use Rattle.marks.proofs.Cases.{same}
use Rattle.hoa_tokens.specs.declared.Kind.TheVariants as kind_is
use Rattle.hoa_tokens.specs.Bytes.{is_digit, is_letter, is_name, is_blank, run}
use Rattle.hoa_tokens.specs.Token.{int, taken, int_limit, spelt, is_int, number, front}
use Rattle.hoa_tokens.proofs.Sizes.{run_some}
use Rattle.puts.specs.Put.{decimal_in, decimal}
use Rattle.puts.proofs.Decimals.{every_decimal, decimal_led}
use Rattle.hoa_written.proofs.Spells.{Apart, Spells, spells_token}

-- ---- bytes

-- a byte from `0` to `9` is a digit
is_digit_lem : (b : ℕ) → 48 ≤ b → b ≤ 57 → is_digit b ≡ true
unfolding is_digit
is_digit_lem b l h = rw (le-leb 48 b l, le-leb b 57 h)

-- the byte of a digit
digit_is : (d : ℕ) → d < 10 → is_digit (48 + d) ≡ true
digit_is d l = is_digit_lem (48 + d) (omega arith) (omega arith)

-- and no blank
digit_clear : (b : ℕ) → 48 ≤ b → is_blank b ≡ false
unfolding is_blank
digit_clear b l =
    rw (
      ne_eqb b 32 (λ (e : b ≡ 32). omega arith),
      ne_eqb b 9 (λ (e : b ≡ 9). omega arith),
      ne_eqb b 10 (λ (e : b ≡ 10). omega arith),
      ne_eqb b 13 (λ (e : b ≡ 13). omega arith),
    )

-- ---- the digits of a number

-- they run on up to the first other byte
digits_run : (n : ℕ) (bs : List ℕ) → run is_digit (decimal n ++ bs) ≡ length (decimal n) + run is_digit bs
digits_run =
    every_decimal (λ _ ds. (bs : List ℕ) → run is_digit (ds ++ bs) ≡ length ds + run is_digit bs)
    (λ d l bs. run_some is_digit (48 + d) bs (digit_is d l) ∙ omega arith)
    (λ n d ds h l more bs.
    let x = 48 + d in
    let long : length (ds ++ (x ∷ [])) ≡ length ds + 1 = length-append ds (x ∷ []) in
    rw (append_assoc ds (x ∷ []) bs, long) (more (x ∷ bs) ∙ rw (run_some is_digit x bs (digit_is d l)) (omega arith)))

-- one digit more
spelt_last : (m : ℕ) (ds : List ℕ) (x : ℕ) → spelt m (ds ++ (x ∷ [])) ≡ spelt m ds * 10 + (x - 48)
unfolding spelt
spelt_last m [] x = refl
spelt_last m (d ∷ ds) x = spelt_last (m * 10 + (d - 48)) ds x

-- one digit
spelt_one : (d : ℕ) → spelt 0 ((48 + d) ∷ []) ≡ d
unfolding spelt
spelt_one d = omega arith

-- they spell it
digits_spell : (n : ℕ) → spelt 0 (decimal n) ≡ n
digits_spell = every_decimal (λ n ds. spelt 0 ds ≡ n) (λ d l. spelt_one d) (λ n d ds h l e. rw (spelt_last 0 ds (48 + d), e) (omega arith))

-- ---- the token

-- whatever stands before it
or_true : (b : Bool) → (b || true) ≡ true
or_true true = refl
or_true false = refl

-- `0`
zero_int : is_int (decimal 0) ≡ true
unfolding is_int decimal_in spelt
zero_int = refl

-- they are an INT
is_int_lem : (n : ℕ) → n < int_limit → is_int (decimal n) ≡ true
unfolding is_int
is_int_lem n l =
    same n 0 (λ (z : n ≡ 0). rw z zero_int)
    (λ (z : n ≡ 0 → ⊥).
    let led = decimal_led n in
    let first : get_or (decimal n) 0 0 ≡ led.first = rw led.is in
    let other : get_or (decimal n) 0 0 ≡ 48 → ⊥ = λ (e : get_or (decimal n) 0 0 ≡ 48). omega (arith, first, led.unled (omega arith)) in
    rw (ne_eqb (get_or (decimal n) 0 0) 48 other, or_true (eqb (length (decimal n)) 1), digits_spell n, lt-ltb n int_limit l))

-- what goes on with no name goes on with no digit
no_digit : (b : ℕ) → (is_name b || eqb b 58) ≡ false → is_digit b ≡ false
unfolding is_name
no_digit b e = go (is_letter b) (is_digit b) (eqb b 45) e
  where
    go : (l d m : Bool) → ((l || (d || m)) || eqb b 58) ≡ false → d ≡ false
    go true d m q = absurd (false≢true (sym q))
    go false true m q = absurd (false≢true (sym q))
    go false false m q = refl

-- so no digit goes on there
no_digits : (bs : List ℕ) → Apart true bs → run is_digit bs ≡ 0
unfolding run
no_digits [] h = refl
no_digits (b ∷ bs) h = rw (no_digit b h)

-- a run of digits in front is a number
number_front : (b : ℕ) (bs : List ℕ) → is_digit b ≡ true → front (b ∷ bs) ≡ number (b ∷ bs)
unfolding front
number_front b bs e = rw e

-- the digits in front, and nothing behind them, are the number
number_is : (n : ℕ) (bs : List ℕ) → n < int_limit → Apart true bs → number (decimal n ++ bs) ≡ taken (int n) (length (decimal n))
unfolding number
number_is n bs l h =
    let long : run is_digit (decimal n ++ bs) ≡ length (decimal n) = digits_run n bs ∙ rw (no_digits bs h) (add-zero (length (decimal n))) in
    rw (long, take_at (decimal n) bs (length (decimal n)) refl, is_int_lem n l, digits_spell n)

-- the digits of a number spell it
pub spells_int : (n : ℕ) → n < int_limit → Spells true (decimal n) (λ ts. int n ∷ ts)
spells_int n l =
    let led = decimal_led n in
    let b = led.first in
    rw led.is
    (spells_token true b led.others (kind_is.Int n) (int n) (λ text i j. refl) (λ q. let z : ◌≡◌ {A = ℕ} 0 1 = cc in omega arith) (digit_clear b led.least)
    (ne_eqb b 47 (λ (q : b ≡ 47). omega (arith, led.least)))
    (λ bs h. number_front b (led.others ++ bs) (is_digit_lem b led.least led.most) ∙ (rw led.is at (number_is n bs l h))))
