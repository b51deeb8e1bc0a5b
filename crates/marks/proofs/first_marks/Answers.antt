-- `marks::first_marks` meets its contract: `(1 << k) - 1` is 2 ^ k - 1, and the full word where k is the width or above. Assumes nothing.
use mathlib.Core.Path.{◌≡◌, ap, ◌∙◌}
use Prim.Native.Nat.{ℕ, ◌*◌, ◌%◌, ◌^◌, min}
use native.Mathlib.Nat.{min-eq_left, min-eq_right, le_of_lt, one-mul, mod-eq_of_lt}
use native.Mathlib.Omega.{arith}
use lib.Pow.{pow-lt, pow_pos}
use Rattle.marks.specs.Mark.{first_marks, width}
use Rattle.marks.proofs.first_marks.Goals as goal

pub returns-then-k-ge-WIDTH : goal.returns-then-k-ge-WIDTH
unfolding first_marks
returns-then-k-ge-WIDTH c = let full : min c.args.k width ≡ width = min-eq_right c.if-k-ge-WIDTH.true in rw full

-- the shifted 1 is the power of two, which fits the word
power : (c : goal.Else-k-ge-WIDTH) → 1 * 2 ^ c.args.k % 2 ^ width ≡ 2 ^ c.args.k
power c = ap (λ (x : ℕ). x % 2 ^ width) (one-mul _) ∙ mod-eq_of_lt (pow-lt c.if-k-ge-WIDTH.false)

pub overflow_sub-result : goal.overflow_sub-result
overflow_sub-result c = omega (arith, power c, pow_pos c.args.k)

pub returns : goal.returns
unfolding first_marks
returns c = rw (power c, min-eq_left (le_of_lt c.if-k-ge-WIDTH.false))
