-- `reader::read` meets its contract: 20 first, then the lines' first fault with its column; else the tables are handed over. Assumes nothing.
use mathlib.Core.Path.{refl}
use Rattle.job_text.specs.Reading.{head_of}
use Rattle.job_text.proofs.Jobs.{too_long, long_column, lines_blamed, job_said, read_refused, read_done}
use Rattle.job_text.proofs.reader.read.Goals as goal

pub returns-then-text-gt-MOST_BYTES : goal.returns-then-text-gt-MOST_BYTES
returns-then-text-gt-MOST_BYTES c =
    let a = c.args in
    read_refused a.text.now a.from.now a.to.now a.marks.now c.refused.result 20 0 0 c.refused.ensures
    (too_long a.text.now c.if-text-gt-MOST_BYTES.true, long_column a.text.now c.if-text-gt-MOST_BYTES.true)

pub returns-in-Err : goal.returns-in-Err
returns-in-Err c =
    let a = c.args in
    read_refused a.text.now a.from.now a.to.now a.marks.now c.refused-in-Err.result _ _ _ c.refused-in-Err.ensures
    (lines_blamed a.text.now c.if-text-gt-MOST_BYTES.false c.in-Err.fault _ refl c.in-Err.ensures)

pub returns-in-Ok : goal.returns-in-Ok
returns-in-Ok c =
    let a = c.args in
    let text = a.text.now in
    let told = c.in-Ok.ensures in
    read_done text a.from.now a.to.now a.marks.now _ _ _ _ (head_of c.in-Ok.head) told.given
    (job_said text c.if-text-gt-MOST_BYTES.false (head_of c.in-Ok.head) told.given told.place told.rest told.read)
    told.held
    (rw (c.condition_of.ensures, told.many))
