-- `put_listed` meets its contract: the key, the list and the newline byte, one after another. Assumes nothing.
use Rattle.puts.proofs.Puts.{put_both}
use Rattle.answer_text.proofs.Prints.{list_few}
use native.Mathlib.Omega.{arith}
use Rattle.answer_text.proofs.put_listed.Goals as goal

pub put-requires : goal.put-requires
put-requires c =
    let cells = c.args.cells.now in
    omega (arith, c.put_list-end.ensures.next, c.put_word-value.ensures.next, c.requires, list_few cells (λ i. omega (arith, c.type_inv.cells i)))

pub returns : goal.returns
returns c =
    let cells = c.args.cells.now in
    record {
      put = put_both (put_both c.put_word-value.ensures c.put_list-end.ensures) c.put.ensures;
      few =
          omega (arith, c.put_word-value.ensures.next, c.put_list-end.ensures.next, c.put.ensures.next, list_few cells (λ i. omega (arith, c.type_inv.cells i)));
    }
