-- `sig::with_mark` meets its contract: the shifted 1 is a power of two. Assumes nothing.
use mathlib.Core.Path.{◌≡◌, sym, ap, ◌∙◌}
use Prim.Native.Nat.{ℕ, ◌*◌, ◌%◌, ◌^◌}
use native.Mathlib.Nat.{one-mul, mod-eq_of_lt}
use lib.Pow.{pow-lt}
use borrow.Author.Tests.{lt-ltb, le-ltb}
use Rattle.marks.specs.Mark.{union, width}
use Rattle.hoa_entry.specs.Sig.{alone}
use lib.Bits.{or_zero_r}
use Rattle.hoa_entry.proofs.sig.with_mark.Goals as goal

pub returns-then-i-lt32 : goal.returns-then-i-lt32
unfolding union alone
returns-then-i-lt32 c =
    let i = c.args.i in
    let power : 1 * 2 ^ i % 2 ^ width ≡ 2 ^ i = ap (λ (x : ℕ). x % 2 ^ width) (one-mul _) ∙ mod-eq_of_lt (pow-lt c.if-i-lt32.true) in
    rw (lt-ltb i width c.if-i-lt32.true, power)

pub returns-else-i-lt32 : goal.returns-else-i-lt32
unfolding union alone
returns-else-i-lt32 c = rw (le-ltb c.args.i width c.if-i-lt32.false) (sym (or_zero_r c.args.marks))
