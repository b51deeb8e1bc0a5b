-- `marks::just` meets its contract: the shifted 1 is a power of two, which has one mark (`Has-power`). Assumes nothing.
use mathlib.Core.Path.{◌≡◌, ap, ◌∙◌, sym, subst}
use Prim.Native.Nat.{ℕ, ◌*◌, ◌%◌, ◌^◌}
use native.Mathlib.Nat.{one-mul, mod-eq_of_lt}
use native.Mathlib.Omega.{arith}
use lib.Pow.{pow-lt}
use Rattle.marks.specs.Mark.{Has, width}
use Rattle.marks.proofs.Laws.{Has-none, Has-power}
use Rattle.marks.proofs.just.Goals as goal

pub returns-then-mark-ge-WIDTH : goal.returns-then-mark-ge-WIDTH
returns-then-mark-ge-WIDTH c i = (λ h. absurd (Has-none i h), λ h. absurd (omega (arith, h.1)))

pub returns : goal.returns
returns c i =
    let j = c.args.mark in
    let power : 1 * 2 ^ j % 2 ^ width ≡ 2 ^ j = ap (λ (x : ℕ). x % 2 ^ width) (one-mul _) ∙ mod-eq_of_lt (pow-lt c.if-mark-ge-WIDTH.false) in
    (λ h. ((Has-power i j).0 (subst (Has i) power h), c.if-mark-ge-WIDTH.false), λ h. subst (Has i) (sym power) ((Has-power i j).1 h.0))
