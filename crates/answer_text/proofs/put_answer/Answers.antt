-- `put_answer` meets its contract: the lists are the cells of the room that are there (`lists_there`). Assumes nothing.
use Rattle.std.proofs.Common.{◌≡◌, ◌-◌, length, min, rules}
use Rattle.table.specs.Verdict.{prefix_of, cycle_of}
use Rattle.answer_text.specs.Printed.{answer_text}
use Rattle.puts.proofs.Puts.{put_both}
use Rattle.answer_text.proofs.Prints.{lists_there}
use Rattle.answer_text.proofs.put_answer.Goals as goal

pub returns : goal.returns
unfolding answer_text
returns c =
    let a = c.args in
    let knot : c.min-knot.result ≡ min c.prefix_of.result (length a.room.now) = search rules in
    let rest : c.min.result ≡ min c.cycle_of.result (length a.room.now - c.min-knot.result) = search rules in
    rw (← lists_there a.room.now (prefix_of a.verdict) (cycle_of a.verdict) c.min-knot.result c.min.result (rw (← c.prefix_of.ensures) knot) (rw (← c.cycle_of.ensures) rest))
    (put_both c.put_top-lists.ensures.put c.put_bottom.ensures)
