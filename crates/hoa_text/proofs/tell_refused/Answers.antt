-- `tell_refused` meets its contract: a refusal's eight lines fit (`refused_few`), so `print_refused` gives their length and writes them all (`stands_whole`);
-- the other arm is never come to (`never_refused`). Assumes nothing.
use mathlib.Core.Path.{◌≡◌}
use native.Mathlib.Omega.{arith}
use lib.ListN.{length}
use Rattle.answer_text.proofs.Refusals.{refused_few, never_refused}
use Rattle.hoa_written.specs.Writing.{most_bytes}
use Rattle.hoa_text.proofs.Turning.{stands_whole}
use borrow.Author.Rules.{rules}
use Rattle.hoa_text.proofs.tell_refused.Goals as goal

pub returns-in-Ok : goal.returns-in-Ok
returns-in-Ok c =
    let a = c.args in
    let wide : length a.out.now ≡ most_bytes = search rules in
    let short = refused_few a.number a.place a.column (omega arith) (omega arith) (omega arith) in
    stands_whole wide (omega (arith, wide, short)) c.print_refused.ensures c.in-Ok.is

pub returns-in-Err : goal.returns-in-Err
returns-in-Err c =
    let a = c.args in
    let wide : length a.out.now ≡ most_bytes = search rules in
    let short = refused_few a.number a.place a.column (omega arith) (omega arith) (omega arith) in
    never_refused (omega (arith, wide, short)) c.print_refused.ensures c.in-Err.is
