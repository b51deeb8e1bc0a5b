-- `body::put_edges` meets its contract: each turn writes one edge more (`joined_more`), whose target and marks stand in one place of the two lists (`zip_turn`). Assumes nothing.
use Rattle.std.proofs.Common.{get_or, length-append, rules, arith}
use Rattle.std.proofs.lemmas.Slice.Zip.{zip_turn}
use Rattle.hoa_written.specs.Written.{edge_text}
use Rattle.puts.proofs.Few.{joined_none, joined_more}
use Rattle.hoa_put_rows.proofs.put_edges.Goals as goal

pub loop-target-init : goal.loop-target-init
loop-target-init c = joined_none _ _ _ _

pub loop-target-preserved : goal.loop-target-preserved
loop-target-preserved c =
    let a = c.args in
    let turn = zip_turn a.to.now a.marks.now c.loop-target.yielded c.into_iter-target-iterator.result c.loop-target.target-iterator c.next.new.self c.next.result (search rules) (search rules) c.loop-target.yielded_by _ c.in-Some.is c.next.ensures.steps in
    let edge = rw (turn.2 0, turn.3 0) at c.put_edge-next.ensures in
    simp length-append
    (joined_more (λ i. edge_text (get_or a.to.now i 0) (get_or a.marks.now i 0)) _ c.loop-target.invariant edge (omega arith))
