-- The laws of mark sets, over every width: none names a number of bits but by a variable. Assumes nothing.
use mathlib.Core.Path.{◌≡◌, refl, sym, ap, ◌∙◌, subst}
use mathlib.Core.Logic.{◌↔◌, ◌⊎◌, inl, inr, ◌≢◌}
use Prim.Native.Nat.{ℕ, zero, suc, ◌+◌, ◌-◌, ◌/◌, ◌%◌, ◌^◌, ◌≤◌, ◌<◌, min, max}
use native.Mathlib.Nat.{pow-suc, div-eq_of_lt, lt_of_lt_of_le}
use native.Mathlib.Numerals.{one-add}
use native.Mathlib.Omega.{arith}
use lib.Bits.{bit_and, bit_or, bit_xor, differ, and_le_l, and_step, or_step, xor_step, and_shr, or_shr, xor_shr}
use lib.Pow.{pow_pos, pow_mono, pow-lt, pow-add, shl-shr, shr-shr, high, ones_split, ones_lt}
use lib.Arith.{bin_ind}
use Rattle.marks.specs.Mark.{Has, union, without, Meets, Covers, first_marks}
use Rattle.marks.proofs.Cases.{same, below}

-- ---- one mark of a set, as a digit

pub or_digit : (a b i : ℕ) → bit_or a b / 2 ^ i % 2 ≡ max (a / 2 ^ i % 2) (b / 2 ^ i % 2)
or_digit a b i = rw (or_shr a b i) (omega (arith, or_step (a / 2 ^ i) (b / 2 ^ i)))

pub and_digit : (a b i : ℕ) → bit_and a b / 2 ^ i % 2 ≡ min (a / 2 ^ i % 2) (b / 2 ^ i % 2)
and_digit a b i = rw (and_shr a b i) (omega (arith, and_step (a / 2 ^ i) (b / 2 ^ i)))

odd_differ : (x y : ℕ) → x < 2 → y < 2 → differ x y ≡ (x + y) % 2
odd_differ zero y hx hy = omega arith
odd_differ (suc zero) zero hx hy = refl
odd_differ (suc zero) (suc zero) hx hy = refl
odd_differ (suc zero) (suc (suc y)) hx hy = absurd (omega arith)
odd_differ (suc (suc x)) y hx hy = absurd (omega arith)

pub xor_digit : (a b i : ℕ) → bit_xor a b / 2 ^ i % 2 ≡ (a / 2 ^ i % 2 + b / 2 ^ i % 2) % 2
xor_digit a b i =
    let d = odd_differ (a / 2 ^ i % 2) (b / 2 ^ i % 2) (omega arith) (omega arith) in
    rw (xor_shr a b i) (omega (arith, xor_step (a / 2 ^ i) (b / 2 ^ i), d))

pub half_digit : (x i : ℕ) → x / 2 / 2 ^ i % 2 ≡ x / 2 ^ suc i % 2
half_digit x i = ap (λ (y : ℕ). y % 2) (shr-shr x 1 i ∙ ap (λ (j : ℕ). x / 2 ^ j) (one-add i))

low_digit : (x : ℕ) → x / 2 ^ 0 % 2 ≡ x % 2
low_digit x = omega arith

-- ---- the empty set, and the marks of a half

pub Has-none : (i : ℕ) → Has i 0 → ⊥
unfolding Has
Has-none i h = omega (arith, div-eq_of_lt (pow_pos i), h)

pub Has-half : (x i : ℕ) → Has i (x / 2) → Has (suc i) x
unfolding Has
Has-half x i h = sym (half_digit x i) ∙ h

pub half_has : (x i : ℕ) → Has (suc i) x → Has i (x / 2)
unfolding Has
half_has x i h = half_digit x i ∙ h

Has-low : (x : ℕ) → x % 2 ≡ 1 → Has 0 x
unfolding Has
Has-low x h = low_digit x ∙ h

low_has : (x : ℕ) → Has 0 x → x % 2 ≡ 1
unfolding Has
low_has x h = sym (low_digit x) ∙ h

-- whether a set has a mark can be told
pub Has-or_not : {C : Type 0} (i x : ℕ) → (Has i x → C) → ((Has i x → ⊥) → C) → C
unfolding Has
Has-or_not i x f g = same (x / 2 ^ i % 2) 1 f g

-- ---- union, meeting, covering

-- a union has exactly what either has
pub Has-union : (i a b : ℕ) → Has i (union a b) ↔ (Has i a ⊎ Has i b)
unfolding Has union
Has-union i a b = (to, from)
  where
    to : bit_or a b / 2 ^ i % 2 ≡ 1 → (a / 2 ^ i % 2 ≡ 1) ⊎ (b / 2 ^ i % 2 ≡ 1)
    to h = same (a / 2 ^ i % 2) 1 (λ q. inl q) (λ q. inr (omega (arith, or_digit a b i)))

    from : (a / 2 ^ i % 2 ≡ 1) ⊎ (b / 2 ^ i % 2 ≡ 1) → bit_or a b / 2 ^ i % 2 ≡ 1
    from (inl h) = omega (arith, or_digit a b i)
    from (inr h) = omega (arith, or_digit a b i)

-- what is left of a has exactly the marks of a that b has not
pub Has-without : (i a b : ℕ) → Has i (without a b) ↔ (Has i a × (Has i b → ⊥))
unfolding Has without
Has-without i a b = (to, from)
  where
    to : bit_xor (bit_and a b) a / 2 ^ i % 2 ≡ 1 → (a / 2 ^ i % 2 ≡ 1) × (b / 2 ^ i % 2 ≡ 1 → ⊥)
    to h = (omega (arith, xor_digit (bit_and a b) a i, and_digit a b i), λ (k : b / 2 ^ i % 2 ≡ 1). omega (arith, xor_digit (bit_and a b) a i, and_digit a b i))

    from : (a / 2 ^ i % 2 ≡ 1) × (b / 2 ^ i % 2 ≡ 1 → ⊥) → bit_xor (bit_and a b) a / 2 ^ i % 2 ≡ 1
    from h = let n : b / 2 ^ i % 2 ≢ 1 = h.1 in omega (arith, h.0, xor_digit (bit_and a b) a i, and_digit a b i)

-- a set that has any number above 0 has a mark
pub some_mark : (x : ℕ) → x ≢ 0 → (i : ℕ) × Has i x
some_mark =
    bin_ind (λ (x : ℕ). x ≢ 0 → (i : ℕ) × Has i x) (λ h. absurd (h refl))
    (λ x more h. same (x % 2) 1 (λ q. (0, Has-low x q)) (λ q. let m = more (λ (z : x / 2 ≡ 0). h (omega arith)) in (suc m.0, Has-half x m.0 m.1)))

both_has : (i a b : ℕ) → Has i (bit_and a b) → Has i a × Has i b
unfolding Has
both_has i a b h = (omega (arith, and_digit a b i), omega (arith, and_digit a b i))

has_both : (i a b : ℕ) → Has i a → Has i b → Has i (bit_and a b)
unfolding Has
has_both i a b h k = omega (arith, and_digit a b i)

-- two sets meet exactly if their digits do
pub meets_and : (a b : ℕ) → (bit_and a b ≢ 0) ↔ Meets a b
meets_and a b = (to, from)
  where
    to : bit_and a b ≢ 0 → Meets a b
    to h = let m = some_mark (bit_and a b) h in record { mark = m.0; first = (both_has m.0 a b m.1).0; second = (both_has m.0 a b m.1).1 }

    from : Meets a b → bit_and a b ≢ 0
    from m e = Has-none m.mark (subst (Has m.mark) e (has_both m.mark a b m.first m.second))

no_marks : (x : ℕ) → ((i : ℕ) → Has i x → ⊥) → x ≡ 0
no_marks x h = same x 0 (λ q. q) (λ q. let m = some_mark x q in absurd (h m.0 m.1))

-- equal marks make equal sets
pub same_marks : (a b : ℕ) → ((i : ℕ) → Has i a → Has i b) → ((i : ℕ) → Has i b → Has i a) → a ≡ b
same_marks =
    bin_ind (λ (a : ℕ). (b : ℕ) → ((i : ℕ) → Has i a → Has i b) → ((i : ℕ) → Has i b → Has i a) → a ≡ b)
    (λ b f g. sym (no_marks b (λ i h. Has-none i (g i h))))
    (λ a more b f g.
    let halves : a / 2 ≡ b / 2 = more (b / 2) (λ i h. half_has b i (f (suc i) (Has-half a i h))) (λ i h. half_has a i (g (suc i) (Has-half b i h))) in
    same (a % 2) 1
    (λ q. let r : b % 2 ≡ 1 = low_has b (f 0 (Has-low a q)) in omega arith)
    (λ q. same (b % 2) 1 (λ r. absurd (q (low_has a (g 0 (Has-low b r))))) (λ r. omega arith)))

-- one set covers another exactly if their common digits are the other's
pub covers_and : (a b : ℕ) → (bit_and a b ≡ b) ↔ Covers a b
unfolding Covers
covers_and a b = (to, from)
  where
    to : bit_and a b ≡ b → (i : ℕ) → Has i b → Has i a
    to e i h = (both_has i a b (subst (Has i) (sym e) h)).0

    from : ((i : ℕ) → Has i b → Has i a) → bit_and a b ≡ b
    from f = same_marks (bit_and a b) b (λ i h. (both_has i a b h).1) (λ i h. has_both i a b (f i h) h)

-- ---- the first marks

ones_digit : (j i : ℕ) → (2 ^ (suc j + i) - 1) / 2 ^ i % 2 ≡ 1
ones_digit j i =
    ap (λ (x : ℕ). x / 2 ^ i % 2) (ones_split (suc j) i) ∙ ap (λ (x : ℕ). x % 2) (high (2 ^ suc j - 1) i (ones_lt i))
    ∙ omega (arith, pow-suc 2 j, pow_pos j)

-- the set {0..k-1} has exactly the marks below k
pub Has-ones : (i k : ℕ) → Has i (2 ^ k - 1) ↔ (i < k)
unfolding Has
Has-ones i k = (to, from)
  where
    to : (2 ^ k - 1) / 2 ^ i % 2 ≡ 1 → i < k
    to h = below i k (λ l. l) (λ l. absurd (omega (arith, div-eq_of_lt (lt_of_lt_of_le (ones_lt k) (pow_mono l)))))

    from : i < k → (2 ^ k - 1) / 2 ^ i % 2 ≡ 1
    from l =
        let e : suc (k - suc i) + i ≡ k = omega arith in
        subst (λ (n : ℕ). (2 ^ n - 1) / 2 ^ i % 2 ≡ 1) e (ones_digit (k - suc i) i)

-- as far as w marks go
pub has_first : (w i k : ℕ) → Has i (first_marks w k) ↔ ((i < k) × (i < w))
unfolding first_marks
has_first w i k = (to, from)
  where
    to : Has i (2 ^ min k w - 1) → (i < k) × (i < w)
    to h = let l : i < min k w = (Has-ones i (min k w)).0 h in (omega arith, omega arith)

    from : (i < k) × (i < w) → Has i (2 ^ min k w - 1)
    from l = (Has-ones i (min k w)).1 (omega (arith, l.0, l.1))

-- ---- one mark alone

-- the set of mark j alone has exactly that mark
pub Has-power : (i j : ℕ) → Has i (2 ^ j) ↔ (i ≡ j)
unfolding Has
Has-power i j = (to, from)
  where
    shifted : i ≤ j → 2 ^ j / 2 ^ i ≡ 2 ^ (j - i)
    shifted l =
        let e : (j - i) + i ≡ j = omega arith in
        ap (λ (n : ℕ). 2 ^ n / 2 ^ i) (sym e) ∙ ap (λ (x : ℕ). x / 2 ^ i) (pow-add 2 (j - i) i) ∙ shl-shr (2 ^ (j - i)) i

    to : 2 ^ j / 2 ^ i % 2 ≡ 1 → i ≡ j
    to h =
        below j i
        (λ l. absurd (omega (arith, div-eq_of_lt (pow-lt l))))
        (λ l. same i j (λ q. q) (λ q.
        let e : suc (j - i - 1) ≡ j - i = omega arith in
        absurd (omega (arith, shifted l, ap (λ (n : ℕ). 2 ^ n) e, pow-suc 2 (j - i - 1)))))

    from : i ≡ j → 2 ^ j / 2 ^ i % 2 ≡ 1
    from q =
        let e : j - i ≡ 0 = omega arith in
        ap (λ (x : ℕ). x % 2) (shifted (omega arith) ∙ ap (λ (n : ℕ). 2 ^ n) e)

-- ---- what fits a word

-- a mark of a set below 2 ^ w is below w
pub Has-fits : (w i x : ℕ) → x < 2 ^ w → Has i x → i < w
unfolding Has
Has-fits w i x l h = below i w (λ k. k) (λ k. absurd (omega (arith, div-eq_of_lt (lt_of_lt_of_le l (pow_mono k)))))

-- a set whose marks are all below w is below 2 ^ w
pub fits_has : (w x : ℕ) → ((i : ℕ) → Has i x → i < w) → x < 2 ^ w
unfolding Covers
fits_has w x f =
    let e : bit_and (2 ^ w - 1) x ≡ x = (covers_and (2 ^ w - 1) x).1 covered in
    omega (arith, and_le_l (2 ^ w - 1) x, ones_lt w)
  where
    covered : Covers (2 ^ w - 1) x
    covered i h = (Has-ones i w).1 (f i h)
