-- `lift_state` meets its contract: where edges stand or k is not 0 the row is written as it is (`no_loop`), else the marked loop is the row of the
-- stop state (`loop_written`). Assumes nothing.
use mathlib.Core.Path.{sym, ◌∙◌}
use Rattle.lifting.proofs.RowParts.{no_loop, loop_long, loop_written}
use Rattle.lifting.proofs.lift_state.Goals as goal

pub lift_row-requires : goal.lift_row-requires
lift_row-requires c =
    let a = c.args in
    record { ladder = c.requires.ladder; row_asked = c.requires.row_asked; room = rw (no_loop a.shape.k a.to.now a.state a.to.now (sym c.loops.ensures ∙ c.if-loops-eq0.true)) at c.requires.room }

pub returns-then-loops-eq0 : goal.returns-then-loops-eq0
returns-then-loops-eq0 c =
    let called = c.lift_row.ensures in
    let a = c.args in
    let to = no_loop a.shape.k a.to.now a.state a.to.now (sym c.loops.ensures ∙ c.if-loops-eq0.true) in
    let marks = no_loop a.shape.k a.to.now 0 a.marks.now (sym c.loops.ensures ∙ c.if-loops-eq0.true) in
    record { value = rw to called.value; state_written = rw (to, marks) called.row_written }

pub write_loop-requires : goal.write_loop-requires
write_loop-requires c =
    let a = c.args in
    rw (loop_long a.shape.k a.shape.levels a.state a.to.now c.requires.ladder.all (λ e. c.if-loops-eq0.false (c.loops.ensures ∙ e))) at c.requires.room

pub returns : goal.returns
returns c =
    let wrote = c.write_loop.ensures in
    let a = c.args in
    let pre = c.requires in record { value = rw (loop_long a.shape.k a.shape.levels a.state a.to.now pre.ladder.all (λ e. c.if-loops-eq0.false (c.loops.ensures ∙ e))); state_written = loop_written a.shape.k a.shape.levels a.state a.at a.to.now a.marks.now pre.ladder.all pre.row_asked.even (λ e. c.if-loops-eq0.false (c.loops.ensures ∙ e)) wrote }
