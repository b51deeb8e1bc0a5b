-- `copied::copy_rows` meets its contract: after q states their edges stand in front (`Sorting`), and the next state finds room (`sorting_room`). Assumes nothing.
use Rattle.std.proofs.Common.{◌+◌, ◌-◌, ◌≤◌, refl, arith}
use Rattle.hoa_kept.specs.inner.Copied.{end_of}
use Rattle.hoa_kept.proofs.Copying.{filled, copied, sorting_none, sorting_room, sorting_more}
use Rattle.hoa_kept.proofs.copied.copy_rows.Goals as goal

pub loop-q-init : goal.loop-q-init
loop-q-init c = sorting_none _ _ _ _ _ _ _

pub overflow_add-next : goal.overflow_add-next
overflow_add-next c =
    let a = c.args in
    let l = c.loop-q in
    let room = rw (← c.saturating_sub-first.ensures) at (sorting_room a.rows.now.firsts a.rows.now.ends a.rows.now.tos a.rows.now.sets l.from l.to l.marks l.q l.m l.invariant a.rows.now.count c.loop-q-test.true) in
    omega (arith, room, c.requires.from_room, c.loop-q.auto.from, c.well_formed)

pub offset_bounds-from-m : goal.offset_bounds-from-m
offset_bounds-from-m c =
    let a = c.args in
    let l = c.loop-q in
    let room = rw (← c.saturating_sub-first.ensures) at (sorting_room a.rows.now.firsts a.rows.now.ends a.rows.now.tos a.rows.now.sets l.from l.to l.marks l.q l.m l.invariant a.rows.now.count c.loop-q-test.true) in
    omega (arith, room, c.requires.from_room, c.loop-q.auto.from, c.well_formed)

pub slice_bounds-fill-end : goal.slice_bounds-fill-end
slice_bounds-fill-end c =
    let a = c.args in
    let l = c.loop-q in
    let room = rw (← c.saturating_sub-first.ensures) at (sorting_room a.rows.now.firsts a.rows.now.ends a.rows.now.tos a.rows.now.sets l.from l.to l.marks l.q l.m l.invariant a.rows.now.count c.loop-q-test.true) in
    omega (arith, room, c.requires.from_room, c.loop-q.auto.from)

pub offset_bounds-to-m : goal.offset_bounds-to-m
offset_bounds-to-m c =
    let a = c.args in
    let l = c.loop-q in
    let room = rw (← c.saturating_sub-first.ensures) at (sorting_room a.rows.now.firsts a.rows.now.ends a.rows.now.tos a.rows.now.sets l.from l.to l.marks l.q l.m l.invariant a.rows.now.count c.loop-q-test.true) in
    omega (arith, room, c.requires.to_room, c.loop-q.auto.to, c.well_formed)

pub slice_bounds-copy_from_slice-end : goal.slice_bounds-copy_from_slice-end
slice_bounds-copy_from_slice-end c =
    let a = c.args in
    let l = c.loop-q in
    let room = rw (← c.saturating_sub-first.ensures) at (sorting_room a.rows.now.firsts a.rows.now.ends a.rows.now.tos a.rows.now.sets l.from l.to l.marks l.q l.m l.invariant a.rows.now.count c.loop-q-test.true) in
    omega (arith, room, c.requires.to_room, c.loop-q.auto.to)

pub offset_bounds-marks-m : goal.offset_bounds-marks-m
offset_bounds-marks-m c =
    let a = c.args in
    let l = c.loop-q in
    let room = rw (← c.saturating_sub-first.ensures) at (sorting_room a.rows.now.firsts a.rows.now.ends a.rows.now.tos a.rows.now.sets l.from l.to l.marks l.q l.m l.invariant a.rows.now.count c.loop-q-test.true) in
    omega (arith, room, c.requires.marks_room, c.loop-q.auto.marks, c.well_formed)

pub slice_bounds-copy_from_slice-end-in-loop-q-2 : goal.slice_bounds-copy_from_slice-end-in-loop-q-2
slice_bounds-copy_from_slice-end-in-loop-q-2 c =
    let a = c.args in
    let l = c.loop-q in
    let room = rw (← c.saturating_sub-first.ensures) at (sorting_room a.rows.now.firsts a.rows.now.ends a.rows.now.tos a.rows.now.sets l.from l.to l.marks l.q l.m l.invariant a.rows.now.count c.loop-q-test.true) in
    omega (arith, room, c.requires.marks_room, c.loop-q.auto.marks)

pub loop-q-preserved : goal.loop-q-preserved
loop-q-preserved c =
    let a = c.args in
    let l = c.loop-q in
    let room = rw (← c.saturating_sub-first.ensures) at (sorting_room a.rows.now.firsts a.rows.now.ends a.rows.now.tos a.rows.now.sets l.from l.to l.marks l.q l.m l.invariant a.rows.now.count c.loop-q-test.true) in
    let first = c.saturating_sub-first.result in
    let end = end_of a.rows.now.ends l.q in
    let next = l.m + (end - first) in
    let ordered : first ≤ end = rw (← c.saturating_sub-first.ensures) at (c.requires.ordered l.q) in
    sorting_more a.rows.now.firsts a.rows.now.ends a.rows.now.tos a.rows.now.sets l.from l.to l.marks l.q l.m l.invariant _ _ _ first next c.saturating_sub-first.ensures refl
    (filled l.m next l.q l.from _ (omega arith) (omega (arith, room, c.requires.from_room, l.auto.from)) (c.fill.ensures.after (λ y e. e)))
    (copied l.m next first end l.to a.rows.now.tos _ refl (omega (arith, room, c.requires.to_room, l.auto.to)) ordered (omega (arith, c.requires.targets, c.requires.within l.q)) c.copy_from_slice.ensures.after)
    (copied l.m next first end l.marks a.rows.now.sets _ refl (omega (arith, room, c.requires.marks_room, l.auto.marks)) ordered (omega (arith, c.requires.unions, c.requires.within l.q)) c.copy_from_slice-in-loop-q.ensures.after)
