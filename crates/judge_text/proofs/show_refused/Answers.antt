-- `show_refused` meets its contract: a refusal's eight lines fit (`refused_fits`), so `print_refused` gives their length and writes all of them (`shown_whole`);
-- the other arm is never come to (`never_short`). Assumes nothing.
use native.Mathlib.Omega.{arith}
use borrow.Author.Rules.{rules}
use Rattle.judge_text.proofs.Fits.{refused_fits}
use Rattle.judge_text.proofs.Telling.{shown_whole, never_short}
use Rattle.judge_text.proofs.show_refused.Goals as goal

pub returns-in-Ok : goal.returns-in-Ok
returns-in-Ok c =
    let a = c.args in
    shown_whole (search rules) (refused_fits a.number a.place a.column (omega arith) (omega arith) (omega arith)) c.print_refused.ensures c.in-Ok.is

pub returns-in-Err : goal.returns-in-Err
returns-in-Err c =
    let a = c.args in
    never_short (search rules) (refused_fits a.number a.place a.column (omega arith) (omega arith) (omega arith)) c.print_refused.ensures c.in-Err.is
