-- `show` meets its contract: the text fits, so `print` gives its length and writes all of it (`shown_whole`); the other arm is never come to
-- (`never_short`). Assumes nothing.
use borrow.Author.Rules.{rules}
use Rattle.judge_text.proofs.Telling.{shown_whole, never_short}
use Rattle.judge_text.proofs.show.Goals as goal

pub returns-in-Ok : goal.returns-in-Ok
returns-in-Ok c =
    let print = c.print in
    shown_whole (search rules) c.requires print.ensures c.in-Ok.is

pub returns-in-Err : goal.returns-in-Err
returns-in-Err c =
    let print = c.print in
    never_short (search rules) c.requires print.ensures c.in-Err.is
