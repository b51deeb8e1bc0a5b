-- `lift_table` meets its contract: each turn finds the row of the next state and writes what stands for it behind what stands for the states below
-- (`row_behind`), so that at the end all states are written. Assumes nothing.
use mathlib.Core.Path.{◌≡◌}
use Prim.Native.Nat.{ℕ, ◌<◌}
use lib.ListN.{length}
use native.Mathlib.Omega.{arith}
use Rattle.table.specs.Table.{Table, lent}
use Rattle.table.specs.Refusal.{Proper}
use Rattle.table.specs.Row.{part, run}
use Rattle.table.proofs.Rows.{Begins, first_begins}
use Rattle.climbing.specs.Source.{source}
use Rattle.climbing.proofs.Looped.{source_length}
use Rattle.lifting.proofs.RowParts.{RowAt, row_ends, next, row_asked, source_row, row_room, row_placed, row_behind, first_place, none_written}
use Rattle.lifting.proofs.Wrote.{wrote_kept}
use Rattle.lifting.proofs.lift_table.Goals as goal

-- the row that was found in the table that is lent
row_at_lem : {t : Table} {state first size : ℕ} → Proper t → state < t.states → Begins t.from state first → size ≡ run state (part first (length t.from) t.from)
    → RowAt t state first size
row_at_lem proper state begins long = record { proper = proper; state = state; begins = begins; long = long }

pub loop-state-init : goal.loop-state-init
loop-state-init c =
    let a = c.args in
    let u = source (lent a.shape.states 0 a.from.now a.to.now a.marks.now) a.shape.k in
    record { begins = first_begins a.from.now; placed = first_place u a.shape.levels; written = none_written u a.shape.k }

pub overflow_add-end : goal.overflow_add-end
overflow_add-end c =
    let row = row_at_lem c.requires.proper c.loop-state-test.true c.loop-state.invariant.begins c.run.ensures in
    omega (arith, row_ends row)

pub slice_bounds-ends-end : goal.slice_bounds-ends-end
slice_bounds-ends-end c =
    let row = row_at_lem c.requires.proper c.loop-state-test.true c.loop-state.invariant.begins c.run.ensures in
    omega (arith, row_ends row, row.proper.to_length)

pub slice_bounds-sets-end : goal.slice_bounds-sets-end
slice_bounds-sets-end c =
    let row = row_at_lem c.requires.proper c.loop-state-test.true c.loop-state.invariant.begins c.run.ensures in
    omega (arith, row_ends row, row.proper.marks_length)

pub lift_state-place-requires : goal.lift_state-place-requires
lift_state-place-requires c =
    let inv = c.loop-state.invariant in
    let k = c.args.shape.k in
    let row = row_at_lem c.requires.proper c.loop-state-test.true c.loop-state.invariant.begins c.run.ensures in
    record { ladder = c.requires.ladder; row_asked = row_asked row; room = row_room (source_row row k) _ _ (source_length (lent c.args.shape.states 0 c.args.from.now c.args.to.now c.args.marks.now) row.proper k) c.requires.room (wrote_kept inv.written) inv.placed }

pub loop-state-preserved : goal.loop-state-preserved
loop-state-preserved c =
    let called = c.lift_state-place.ensures in
    let loop = c.loop-state in
    let shape = c.args.shape in
    let at = row_at_lem c.requires.proper c.loop-state-test.true c.loop-state.invariant.begins c.run.ensures in
    let row = source_row at shape.k in
    record {
      begins = next at;
      placed = row_placed row _ _ _ loop.invariant.placed called.value;
      written = row_behind row shape.k shape.levels loop.place c.requires.ladder.all loop.invariant.placed loop.invariant.written called.state_written;
    }
