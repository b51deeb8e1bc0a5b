-- `write_made` meets its contract: the text stands in the output (`written_stands`), or what the writer refuses is told (`refusal_stands`). Assumes nothing.
use mathlib.Core.Path.{◌≡◌}
use lib.ListN.{length}
use Rattle.table.specs.Table.{lent}
use Rattle.job_writer.specs.Writing.{most_bytes}
use Rattle.translate_text.proofs.Translating.{written_stands, refusal_stands}
use borrow.Author.Rules.{rules}
use Rattle.translate_text.proofs.write_made.Goals as goal

pub returns-in-Ok : goal.returns-in-Ok
returns-in-Ok c =
    let a = c.args in
    let t = lent a.n a.start a.from.now a.to.now a.marks.now in
    let wide : length a.out.now ≡ most_bytes = search rules in
    written_stands t a.out.now wide c.write_job.ensures c.in-Ok.is

pub returns-in-Err : goal.returns-in-Err
returns-in-Err c =
    let a = c.args in
    let t = lent a.n a.start a.from.now a.to.now a.marks.now in
    let wide : length a.out.now ≡ most_bytes = search rules in
    refusal_stands t a.out.now wide c.write_job.ensures c.in-Err.is c.tell_refused.ensures
