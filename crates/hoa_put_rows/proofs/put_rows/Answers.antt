-- `body::put_rows` meets its contract: the row of the state begins at e, and its run of edges is the row (`row_at_lem`), so that the next one begins where
-- it ends. Assumes nothing.
use mathlib.Core.Path.{◌≡◌, ◌∙◌, sym}
use Prim.Native.Nat.{◌+◌}
use Rattle.table.proofs.Rows.{first_begins, part_length}
use Rattle.puts.proofs.Few.{joined_none, few_more}
use Rattle.hoa_put_rows.proofs.Rows.{row_ends, row_at_lem, rows_more, next_row}
use native.Mathlib.Omega.{arith}
use Rattle.hoa_put_rows.proofs.put_rows.Goals as goal

pub loop-state-init : goal.loop-state-init
loop-state-init c = (first_begins _, joined_none _ _ _ _)

pub overflow_add-end : goal.overflow_add-end
overflow_add-end c =
    let turn = c.loop-state in
    let sound = c.requires.passed in
    let found = c.run in
    let within = row_ends c.args.from.now turn.state turn.e found.result turn.invariant.0.within found.ensures in
    omega (arith, sound.to_length, sound.marks_length, sound.few)

pub slice_bounds-put_row-end : goal.slice_bounds-put_row-end
slice_bounds-put_row-end c =
    let turn = c.loop-state in
    let sound = c.requires.passed in
    let found = c.run in
    let within = row_ends c.args.from.now turn.state turn.e found.result turn.invariant.0.within found.ensures in
    omega (arith, sound.to_length, sound.marks_length, sound.few)

pub put_row-next-requires : goal.put_row-next-requires
put_row-next-requires c =
    let a = c.args in
    let sound = c.requires.passed in
    let turn = c.loop-state in
    let found = c.run in
    let end = turn.e + found.result in
    let within = row_ends a.from.now turn.state turn.e found.result turn.invariant.0.within found.ensures in
    let long = part_length turn.e end a.to.now (omega (arith, sound.to_length)) in
    let wide = part_length turn.e end a.marks.now (omega (arith, sound.marks_length)) in
    record { to_bound = omega (arith, turn.invariant.1.few, c.requires.at_bound, c.requires.n_bound, sound.few); to_len = long ∙ sym wide }

pub loop-state-preserved : goal.loop-state-preserved
loop-state-preserved c =
    let a = c.args in
    let sound = c.requires.passed in
    let turn = c.loop-state in
    let found = c.run in
    let row = row_at_lem a.from.now turn.state turn.e found.result turn.invariant.0.within found.ensures sound.sorted turn.invariant.0 in
    let next = rows_more a.from.now a.to.now a.marks.now turn.state turn.e (turn.e + found.result) sound.to_length sound.marks_length row in (
      next_row a.from.now a.to.now a.marks.now turn.state turn.e (turn.e + found.result) sound.to_length sound.marks_length row,
      next turn.invariant.1 c.put_row-next.ensures,
    )

pub returns : goal.returns
returns c =
    let turn = c.loop-state in
    let e : turn.state ≡ c.args.n = omega arith in
    few_more 209920 (rw e at turn.invariant.1) (omega (arith, turn.invariant.0.within, c.requires.n_bound, c.requires.passed.few))
