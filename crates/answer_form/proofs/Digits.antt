-- A number is read from no other bytes than its decimal digits (that it is read from these: job_values/proofs/Decimals.antt). Assumes nothing.
use mathlib.Core.Path.{◌≡◌, refl, sym, ap, ◌∙◌}
use mathlib.Core.Bool.{Bool, true, false, false≢true, cond}
use mathlib.Core.List.{List, [], ◌∷◌, ◌++◌, append-nil, append_assoc}
use mathlib.Core.Option.{Option, some, none}
use Prim.Native.Nat.{ℕ, ◌+◌, ◌*◌, ◌/◌, ◌%◌, ◌≤◌, ◌<◌}
use native.Mathlib.Omega.{arith}
use lib.Dec.{leb, eqb}
use lib.ListN.{length}
use borrow.Author.Tests.{leb-true, lt-ltb}
use Rattle.marks.proofs.Cases.{below}
use Rattle.puts.specs.Put.{decimal}
use Rattle.puts.proofs.Puts.{decimal_one, decimal_more}
use Rattle.digits.specs.Digit.{digit}
use Rattle.digits.proofs.Digits.{digit_below, digit_from}
use Rattle.job_text.specs.Value.{and_then, spelt, most_number, leading_zero, at_most, number}

-- ---- what an answer that is there says of the tests before it

pub none_some : {A : Type 0} {a : A} → ◌≡◌ {A = Option A} none (some a) → ⊥
none_some e = let z : ◌≡◌ {A = ℕ} 0 1 = cc in omega arith

pub some_same : {A : Type 0} {a b : A} → some a ≡ some b → a ≡ b
some_same e = cc

-- what comes after something that is there
pub record After {A B : Type 0} (o : Option A) (f : A → Option B) (b : B) : Type 0 where
  pub first : A
  pub there : o ≡ some first
  pub then : f first ≡ some b

pub after : {A B : Type 0} (o : Option A) (f : A → Option B) (b : B) → and_then o f ≡ some b → After o f b
after none f b e = absurd (none_some e)
after (some a) f b e = record { first = a; there = refl; then = e }

-- a test that leads to something
pub passed : {A : Type 0} (t : Bool) (o : Option A) (a : A) → cond t o none ≡ some a → (t ≡ true) × (o ≡ some a)
passed true o a e = (refl, e)
passed false o a e = absurd (none_some e)

-- a test that stands in the way
pub unhindered : {A : Type 0} (t : Bool) (o : Option A) (a : A) → cond t none o ≡ some a → (t ≡ false) × (o ≡ some a)
unhindered true o a e = absurd (none_some e)
unhindered false o a e = (refl, e)

-- ---- no other bytes than its digits are read as a number

-- the digits after those of m, which is above 0
decimal_on : (m : ℕ) (bs : List ℕ) (n : ℕ) → 0 < m → spelt digit 10 m bs ≡ some n → decimal n ≡ decimal m ++ bs
unfolding spelt
decimal_on m [] n l e = let w : m ≡ n = some_same e in rw w (sym (append-nil (decimal n)))
decimal_on m (b ∷ bs) n l e =
    let a = after (digit b) (λ k. spelt digit 10 (m * 10 + k) bs) n e in
    let d = a.first in
    let q : (m * 10 + d) / 10 ≡ m = omega (arith, digit_below b d a.there) in
    let r : (m * 10 + d) % 10 ≡ d = omega (arith, digit_below b d a.there) in
    let step : decimal (m * 10 + d) ≡ decimal m ++ (b ∷ []) = decimal_more (m * 10 + d) (omega arith) ∙ rw (q, r) (ap (λ (x : ℕ). decimal m ++ (x ∷ [])) (sym (digit_from b d a.there))) in
    decimal_on (m * 10 + d) bs n (omega arith) a.then ∙ rw (step, append_assoc)

number_from : (bs : List ℕ) (n : ℕ) → eqb (length bs) 0 ≡ false → leading_zero bs ≡ false → spelt digit 10 0 bs ≡ some n → bs ≡ decimal n
unfolding spelt
number_from [] n e z s = absurd (false≢true (sym e))
number_from (b ∷ bs) n e z s =
    let a = after (digit b) (λ k. spelt digit 10 (0 * 10 + k) bs) n s in
    let is = digit_from b a.first a.there in
    let z' : 0 * 10 + a.first ≡ a.first = omega arith in
    let t = rw z' at a.then in
    below 0 a.first
    (λ l. sym (decimal_on a.first bs n l t ∙ rw (decimal_one a.first (digit_below b a.first a.there)) (ap {B = List ℕ} (λ x. x ∷ bs) (sym is))))
    (λ l. alone bs a.first (omega arith) is z t)
  where
    alone : (cs : List ℕ) (d : ℕ) → d ≡ 0 → b ≡ 48 + d → leading_zero (b ∷ cs) ≡ false → spelt digit 10 d cs ≡ some n → b ∷ cs ≡ decimal n
    alone [] d o q y t =
        let w : d ≡ n = some_same t in
        let v : n ≡ 0 = omega arith in
        rw (decimal_one n (omega arith)) (ap {B = List ℕ} (λ x. x ∷ []) (omega arith))
    alone (c ∷ cs) d o q y t = let v : b ≡ 48 = omega arith in absurd (false≢true (sym y ∙ rw (lt-ltb 1 (length (b ∷ (c ∷ cs))) (omega arith), v) refl))

limited : (o : Option ℕ) (n : ℕ) → at_most most_number o ≡ some n → (o ≡ some n) × (n ≤ most_number)
limited none n e = absurd (none_some e)
limited (some m) n e =
    let g = passed (leb m most_number) (some m) n e in
    let q : m ≡ n = some_same g.1 in
    (ap some q, omega (arith, leb-true m most_number g.0))

pub decimal_number : (bs : List ℕ) (n : ℕ) → number bs ≡ some n → (bs ≡ decimal n) × (n ≤ most_number)
unfolding number
decimal_number bs n e =
    let a = unhindered (eqb (length bs) 0) (cond (leading_zero bs) none (at_most most_number (spelt digit 10 0 bs))) n e in
    let b = unhindered (leading_zero bs) (at_most most_number (spelt digit 10 0 bs)) n a.1 in
    let c = limited (spelt digit 10 0 bs) n b.1 in
    (number_from bs n a.0 b.0 c.0, c.1)
