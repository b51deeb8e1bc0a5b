-- `marks::has_mark` meets its contract: the shifted word's last digit is the mark's digit, and a word has no mark past its width
-- (`Has-fits`). Assumes nothing.
use Prim.Native.Nat.{◌/◌, ◌%◌, ◌^◌}
use native.Mathlib.Omega.{arith}
use borrow.Author.Tests.{ltb-true, eqb-true, eq-eqb}
use Rattle.marks.specs.Mark.{Has, width}
use Rattle.marks.proofs.Laws.{Has-fits}
use Rattle.marks.proofs.has_mark.Goals as goal

pub returns-else-mark-lt-WIDTH : goal.returns-else-mark-lt-WIDTH
returns-else-mark-lt-WIDTH c =
    let a = c.args in
    (λ h. absurd (omega (arith, ltb-true a.mark width h, c.if-mark-lt-WIDTH.false)), λ h. absurd (omega (arith, Has-fits width a.mark a.set c.ranges.set.fits h)))

pub returns-then-mark-lt-WIDTH : goal.returns-then-mark-lt-WIDTH
unfolding Has
returns-then-mark-lt-WIDTH c =
    let a = c.args in
    (eqb-true (a.set / 2 ^ a.mark % 2) 1, eq-eqb (a.set / 2 ^ a.mark % 2) 1)
