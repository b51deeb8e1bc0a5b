-- Numbers: digits one after the other, and what cannot begin a number. Assumes nothing.
use mathlib.Core.Path.{◌≡◌, refl, ◌∙◌}
use mathlib.Core.Bool.{Bool, true, false, cond, ◌&&◌}
use mathlib.Core.List.{List, [], ◌∷◌, ◌++◌}
use mathlib.Core.Option.{Option, some, none}
use Prim.Native.Nat.{ℕ, suc, ◌+◌, ◌-◌, ◌*◌, ◌≤◌, ◌<◌}
use native.Mathlib.Numerals.{add-one}
use native.Mathlib.Omega.{arith}
use lib.Dec.{leb, ltb, eqb}
use lib.ListN.{length, get_or, drop, drop_of_length-le, length-append, length-drop, get_or-append}
use lib.Seq.{take-suc, get_or-drop, drop-cons}
use borrow.Author.Tests.{eq-eqb, ne_eqb, le-leb, lt-leb, leb-false, lt-ltb, ltb-true, eqb-true}
use Rattle.marks.proofs.Cases.{both_true}
use Rattle.table.specs.Row.{part}
use Rattle.digits.specs.Digit.{digit}
use Rattle.job_values.proofs.Cut.{by_test}
use Rattle.job_values.specs.Number.{and_then, spelt, most_number, leading_zero, at_most, number}

-- ---- one byte more of a text

pub part_more : (text : List ℕ) (at i : ℕ) → at ≤ i → i < length text → part at (suc i) text ≡ part at i text ++ (get_or text i 0 ∷ [])
part_more text at i l h =
    let e : suc i - at ≡ suc (i - at) = omega arith in
    let f : at + (i - at) ≡ i = omega arith in
    rw e (take-suc (drop at text) (i - at) 0 (omega (arith, length-drop at text)) ∙ rw (get_or-drop at text (i - at) 0, f))

pub part_none : (text : List ℕ) (at : ℕ) → part at at text ≡ []
part_none text at = let e : at - at ≡ 0 = omega arith in rw e

-- ---- digits one after the other, whatever the base

module _ (value : ℕ → Option ℕ) (base : ℕ) where
  pub spelt_append : (n : ℕ) (p q : List ℕ) → spelt value base n (p ++ q) ≡ and_then (spelt value base n p) (λ m. spelt value base m q)
  unfolding spelt
  spelt_append n [] q = refl
  spelt_append n (b ∷ p) q = go (value b) (λ d. spelt_append (n * base + d) p q)
    where
      go : (o : Option ℕ) → ((d : ℕ) → spelt value base (n * base + d) (p ++ q) ≡ and_then (spelt value base (n * base + d) p) (λ m. spelt value base m q))
          → and_then o (λ d. spelt value base (n * base + d) (p ++ q)) ≡ and_then (and_then o (λ d. spelt value base (n * base + d) p)) (λ m. spelt value base m q)
      go none h = refl
      go (some d) h = h d

  -- a digit more, or none
  pub spelt_snoc : (n m d b : ℕ) (p : List ℕ) → spelt value base n p ≡ some m → value b ≡ some d → spelt value base n (p ++ (b ∷ [])) ≡ some (m * base + d)
  unfolding spelt
  spelt_snoc n m d b p e f = rw (spelt_append n p (b ∷ []), e, f)

  stop_first : (n b : ℕ) (q : List ℕ) → value b ≡ none → spelt value base n (b ∷ q) ≡ none
  unfolding spelt
  stop_first n b q f = rw f

  pub spelt_stop : (n b : ℕ) (p q : List ℕ) → value b ≡ none → spelt value base n (p ++ (b ∷ q)) ≡ none
  spelt_stop n b p q f = spelt_append n p (b ∷ q) ∙ go (spelt value base n p)
    where
      go : (o : Option ℕ) → and_then o (λ m. spelt value base m (b ∷ q)) ≡ none
      go none = refl
      go (some m) = stop_first m b q f

  -- a digit more
  pub spelt_more : (bs : List ℕ) (i n d : ℕ) → i < length bs → value (get_or bs i 0) ≡ some d
      → spelt value base n (drop i bs) ≡ spelt value base (n * base + d) (drop (i + 1) bs)
  unfolding spelt
  spelt_more bs i n d l e = rw (drop-cons bs i 0 l, e, add-one i)

  -- no digit
  pub spelt_wrong : (bs : List ℕ) (i n : ℕ) → i < length bs → value (get_or bs i 0) ≡ none → spelt value base n (drop i bs) ≡ none
  unfolding spelt
  spelt_wrong bs i n l e = rw (drop-cons bs i 0 l, e)

  -- the last digit was taken
  pub spelt_end : (bs : List ℕ) (i n : ℕ) → length bs ≤ i → spelt value base n (drop i bs) ≡ some n
  unfolding spelt
  spelt_end bs i n l = rw (drop_of_length-le bs l)

-- a number that is too large stays so
pub too_large : (value : ℕ → Option ℕ) (most n : ℕ) (bs : List ℕ) → most < n → at_most most (spelt value 10 n bs) ≡ none
unfolding spelt
too_large value most n [] l = rw (lt-leb n most l)
too_large value most n (b ∷ bs) l = go (value b) (λ d. too_large value most (n * 10 + d) bs (omega arith))
  where
    go : (o : Option ℕ) → ((d : ℕ) → at_most most (spelt value 10 (n * 10 + d) bs) ≡ none)
        → at_most most (and_then o (λ d. spelt value 10 (n * 10 + d) bs)) ≡ none
    go none more = refl
    go (some d) more = more d

-- ---- which bytes are a number, and which are none

both_none : (s t : Bool) (o : Option ℕ) → o ≡ none → cond s none (cond t none o) ≡ none
both_none true t o e = refl
both_none false true o e = refl
both_none false false o e = e

pub none_spelt : (bs : List ℕ) → at_most most_number (spelt digit 10 0 bs) ≡ none → number bs ≡ none
unfolding number
none_spelt bs e = both_none (eqb (length bs) 0) (leading_zero bs) (at_most most_number (spelt digit 10 0 bs)) e

-- a byte that is no digit
pub none_stop : (b : ℕ) (p q : List ℕ) → digit b ≡ none → number (p ++ (b ∷ q)) ≡ none
none_stop b p q f = none_spelt (p ++ (b ∷ q)) (rw (spelt_stop digit 10 0 b p q f))

pub none_empty : number [] ≡ none
unfolding number
none_empty = refl

-- a zero, and anything behind it
pub zero_number : number (48 ∷ []) ≡ some 0
unfolding number spelt digit
zero_number = refl

zero_led : (s t : Bool) (o : Option ℕ) → t ≡ true → cond s none (cond t none o) ≡ none
zero_led true t o e = refl
zero_led false t o e = rw e

pub none_led : (bs : List ℕ) → leading_zero bs ≡ true → number bs ≡ none
unfolding number
none_led bs e = zero_led (eqb (length bs) 0) (leading_zero bs) (at_most most_number (spelt digit 10 0 bs)) e

led : (bs : List ℕ) → 1 < length bs → get_or bs 0 0 ≡ 48 → leading_zero bs ≡ true
led bs l e = rw (lt-ltb 1 (length bs) l, eq-eqb (get_or bs 0 0) 48 e)

pub none_zero : (b : ℕ) → number (48 ∷ (b ∷ [])) ≡ none
none_zero b = none_led (48 ∷ (b ∷ [])) (led (48 ∷ (b ∷ [])) (omega arith) refl)

-- digits that do not begin with a zero
pub number_spelt : (bs : List ℕ) (n : ℕ) → 0 < length bs → (get_or bs 0 0 ≡ 48 → ⊥) → spelt digit 10 0 bs ≡ some n → n ≤ most_number → number bs ≡ some n
unfolding number
number_spelt bs n l z e h =
    rw (ne_eqb (length bs) 0 (λ (q : length bs ≡ 0). omega arith), ne_eqb (get_or bs 0 0) 48 z, e, le-leb n most_number h) (unled (ltb 1 (length bs)))
  where
    unled : (t : Bool) → cond (t && false) none (some n) ≡ some n
    unled true = refl
    unled false = refl

-- ---- what is no number does not begin one

led_on : (p q : List ℕ) → leading_zero p ≡ true → leading_zero (p ++ q) ≡ true
led_on p q e =
    let g = both_true (ltb 1 (length p)) (eqb (get_or p 0 0) 48) e in
    let l : 1 < length p = ltb-true 1 (length p) g.0 in
    led (p ++ q) (omega (arith, length-append p q)) (get_or-append p q 0 0 (omega arith) ∙ eqb-true (get_or p 0 0) 48 g.1)

spelt_on : (p q : List ℕ) → at_most most_number (spelt digit 10 0 p) ≡ none → at_most most_number (spelt digit 10 0 (p ++ q)) ≡ none
spelt_on p q e = rw (spelt_append digit 10 0 p q) (go (spelt digit 10 0 p) e)
  where
    go : (o : Option ℕ) → at_most most_number o ≡ none → at_most most_number (and_then o (λ m. spelt digit 10 m q)) ≡ none
    go none h = refl
    go (some m) h =
        by_test (leb m most_number)
        (λ t. absurd (let w : some m ≡ none = rw t at h in let z : ◌≡◌ {A = ℕ} 0 1 = cc in omega arith))
        (λ t. too_large digit most_number m q (leb-false m most_number t))

pub none_on : (p q : List ℕ) → 0 < length p → number p ≡ none → number (p ++ q) ≡ none
unfolding number
none_on p q l e =
    by_test (leading_zero p) (λ t. none_led (p ++ q) (led_on p q t))
    (λ t. none_spelt (p ++ q) (spelt_on p q (rw (ne_eqb (length p) 0 (λ (z : length p ≡ 0). omega arith), t) at e)))
