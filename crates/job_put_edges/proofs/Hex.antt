-- The eight hex digits of a set of marks read back. Assumes nothing.
use mathlib.Core.Path.{◌≡◌, refl, ap, ◌∙◌}
use mathlib.Core.List.{[], ◌++◌}
use mathlib.Core.Option.{some}
use Prim.Native.Nat.{ℕ, zero, suc, ◌+◌, ◌-◌, ◌*◌, ◌/◌, ◌%◌, ◌^◌, ◌≤◌, ◌<◌}
use native.Mathlib.Omega.{arith}
use lib.ListN.{length, length-append}
use lib.Pow.{shr-shr}
use borrow.Author.Tests.{eq-eqb, lt-ltb, le-ltb}
use Rattle.marks.specs.Mark.{width}
use Rattle.marks.proofs.Cases.{below}
use Rattle.digits.specs.Digit.{hex_digit}
use Rattle.digits.proofs.Digits.{within, over}
use Rattle.puts.specs.Put.{joined}
use Rattle.puts.proofs.Over.{Over, over_both}
use Rattle.job_values.proofs.Numbers.{spelt_snoc}
use Rattle.job_text.specs.Value.{spelt, hex_digits, hex_word}
use Rattle.job_put_edges.specs.Edges.{hex_byte, hex_at, hex_text}

-- ---- one digit

-- the byte of a decimal digit
pub byte_low : (d : ℕ) → d < 10 → hex_byte d ≡ 48 + d
unfolding hex_byte
byte_low d l = rw (lt-ltb d 10 l)

-- the byte of another
pub byte_high : (d : ℕ) → 10 ≤ d → hex_byte d ≡ 87 + d
unfolding hex_byte
byte_high d l = rw (le-ltb d 10 l)

-- its value is the digit
byte_back : (d : ℕ) → d < 16 → hex_digit (hex_byte d) ≡ some d
unfolding hex_digit
byte_back d l =
    below d 10
    (λ s. let e : 48 + d - 48 ≡ d = omega arith in rw (byte_low d s, within 48 57 (48 + d) (omega arith) (omega arith), e))
    (λ s.
    let e : 87 + d - 97 + 10 ≡ d = omega arith in
    rw (byte_high d s, over 48 57 (87 + d) (omega arith), within 97 102 (87 + d) (omega arith) (omega arith), e))

-- it stands above the comma
byte_over : (b d : ℕ) → b < 48 → b < hex_byte d
byte_over b d l = below d 10 (λ s. rw (byte_low d s) (omega arith)) (λ s. rw (byte_high d s) (omega arith))

-- ---- all of them

-- one digit more
hex_more : (set k : ℕ) → joined (hex_at set) (suc k) ≡ joined (hex_at set) k ++ hex_at set k
unfolding joined
hex_more set k = refl

-- none
hex_none : (set : ℕ) → joined (hex_at set) 0 ≡ []
unfolding joined
hex_none set = refl

pub hex_over : (b set k : ℕ) → b < 48 → Over b (joined (hex_at set) k)
hex_over b set zero l = rw (hex_none set) tt
hex_over b set (suc k) l = rw (hex_more set k) (over_both b (joined (hex_at set) k) (hex_at set k) (hex_over b set k l) (byte_over b (set / 2 ^ (28 - 4 * k) % 16) l, tt))

pub hex_length : (set k : ℕ) → length (joined (hex_at set) k) ≡ k
hex_length set zero = rw (hex_none set) refl
hex_length set (suc k) = rw (hex_more set k) (omega (arith, length-append (joined (hex_at set) k) (hex_at set k), hex_length set k))

-- no digits
spelt_none : spelt hex_digit 16 0 [] ≡ some 0
unfolding spelt
spelt_none = refl

-- the first k digits spell what is left of the set without its last 32 - 4k bits
hex_spell : (set k : ℕ) → set < 2 ^ width → k ≤ 8 → spelt hex_digit 16 0 (joined (hex_at set) k) ≡ some (set / 2 ^ (32 - 4 * k))
hex_spell set zero l h = let e : 0 ≡ set / 2 ^ 32 = omega arith in rw (hex_none set) (spelt_none ∙ ap some e)
hex_spell set (suc k) l h =
    let p = 2 ^ (28 - 4 * k) in
    let low : 32 - 4 * suc k ≡ 28 - 4 * k = omega arith in
    let high : 28 - 4 * k + 4 ≡ 32 - 4 * k = omega arith in
    let four : set / p / 16 ≡ set / 2 ^ (32 - 4 * k) = shr-shr set (28 - 4 * k) 4 ∙ ap (λ (i : ℕ). set / 2 ^ i) high in
    let e : set / 2 ^ (32 - 4 * k) * 16 + set / p % 16 ≡ set / p = omega (arith, four) in
    let d = set / p % 16 in
    rw (hex_more set k, low)
    (spelt_snoc hex_digit 16 0 (set / 2 ^ (32 - 4 * k)) d (hex_byte d) (joined (hex_at set) k) (hex_spell set k l (omega arith)) (byte_back d (omega arith)) ∙ ap some e)

-- "marks as eight lower-case hex digits"
pub hex_back : (set : ℕ) → set < 2 ^ width → hex_word (hex_text set) ≡ some set
unfolding hex_word
hex_back set l =
    let e : set / 2 ^ (32 - 4 * 8) ≡ set = omega arith in
    rw (eq-eqb (length (hex_text set)) hex_digits (hex_length set 8)) (hex_spell set 8 l (omega arith) ∙ ap some e)
