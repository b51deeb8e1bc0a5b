-- `print_told` meets its contract: writing into no cells gives the text's length, and where the buffer is long enough the text is written
-- and zeros after it (`printed_whole`). Assumes nothing.
use Rattle.answer_text.proofs.Prints.{printed_whole}
use Rattle.answer_text.proofs.print_told.Goals as goal

pub returns : goal.returns
returns c =
    let out = c.args.out.now in
    let p = c.put_answer-length in
    printed_whole _ out p.new.out c.put_answer.new.out _ p.result p.auto.out p.ensures.next c.if-out-length.false
    c.put_answer.ensures.cells c.clear.ensures
