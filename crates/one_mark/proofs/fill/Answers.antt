-- `fill` meets its contract: the table is written from the front of the outputs, and each is cleared behind it (`filled`). Assumes nothing.
use mathlib.Core.Path.{◌∙◌}
use Rattle.table.specs.Table.{lent}
use Rattle.climbing.specs.Source.{source}
use Rattle.climbing.proofs.Looped.{source_proper}
use Rattle.one_mark.proofs.Outcomes.{fewer, filled, all_states}
use Rattle.one_mark.proofs.fill.Goals as goal

pub lift_table-requires : goal.lift_table-requires
lift_table-requires c =
    let pre = c.requires in
    record { ladder = pre.ladder; proper = pre.proper; room = rw pre.count at pre.room }

pub returns : goal.returns
returns c =
    let a = c.args in
    let pre = c.requires in
    let k = a.shape.k in
    let t = lent a.shape.states 0 a.from.now a.to.now a.marks.now in
    let few = fewer k (source t k).edges (pre.count ∙ rw pre.ladder.all) pre.few_edges in
    filled (source t k) (source_proper t pre.proper k few) k a.edges (pre.count ∙ rw pre.ladder.all) pre.room (all_states t k c.lift_table.ensures)
    c.clear.ensures
    c.clear-2.ensures
    c.clear-3.ensures
