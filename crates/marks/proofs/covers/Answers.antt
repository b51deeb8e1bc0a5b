-- `marks::covers` meets its contract: the word's `&` is the second set exactly if the first has each of its marks (`covers_and`). Assumes nothing.
use lib.Bits.{bit_and}
use borrow.Author.Tests.{eqb-true, eq-eqb}
use Rattle.marks.proofs.Laws.{covers_and}
use Rattle.marks.proofs.covers.Goals as goal

pub returns : goal.returns
returns c =
    let x = c.args.a in
    let y = c.args.b in
    (λ h. (covers_and x y).0 (eqb-true (bit_and x y) y h), λ m. eq-eqb (bit_and x y) y ((covers_and x y).1 m))
