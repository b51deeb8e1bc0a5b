-- `marks::meets` meets its contract: the word's `&` is not 0 exactly if some mark is in both (`meets_and`). Assumes nothing.
use mathlib.Core.Path.{ap}
use mathlib.Core.Bool.{not}
use lib.Bits.{bit_and}
use borrow.Author.Tests.{eqb-false, ne_eqb, not-true}
use Rattle.marks.proofs.Laws.{meets_and}
use Rattle.marks.proofs.meets.Goals as goal

pub returns : goal.returns
returns c =
    let x = c.args.a in
    let y = c.args.b in
    (λ h. (meets_and x y).0 (eqb-false (bit_and x y) 0 (not-true _ h)), λ m. ap not (ne_eqb (bit_and x y) 0 ((meets_and x y).1 m)))
