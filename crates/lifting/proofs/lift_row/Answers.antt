-- `lift_row` meets its contract: each turn writes one level more, behind those before (`level_behind`). Assumes nothing.
use borrow.Author.Rules.{rules}
use Rattle.lifting.proofs.Wrote.{wrote_kept, level_room, level_behind}
use Rattle.lifting.proofs.lift_row.Goals as goal

pub lift_level-next-requires : goal.lift_level-next-requires
lift_level-next-requires c =
    let pre = c.requires in
    let inv = c.loop-level.invariant in
    let low = c.loop-level-test.true in
    record { ladder = pre.ladder; level_lt_levels = low; row_asked = pre.row_asked; room = level_room _ _ _ _ _ pre.room (wrote_kept inv.written) low inv.place }

pub loop-level-preserved : goal.loop-level-preserved
loop-level-preserved c =
    let called = c.lift_level-next.ensures in
    let loop = c.loop-level in
    let a = c.args in
    record {
      place = search rules;
      written = level_behind a.shape.k a.state loop.level a.at loop.next a.to.now a.marks.now loop.invariant.written called.level_written loop.invariant.place;
    }
