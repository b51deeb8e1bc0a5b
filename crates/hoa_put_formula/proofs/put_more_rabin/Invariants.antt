-- The loop of `formula::put_more_rabin`: each turn writes one pair more, whose forbidden mark is the number of marks dealt out before it. Assumes nothing.
use Rattle.std.proofs.Common.{◌≡◌, ◌+◌, ◌*◌}
use Rattle.table.specs.Condition.{dealt}
use Rattle.puts.specs.Put.{PutFew}
use Rattle.hoa_written.specs.Written.{further_rabin}
use Rattle.hoa_put_formula.proofs.put_more_rabin.Given as goal

abbrev pub invariant-loop-need : goal.invariant-loop-need
invariant-loop-need l =
    (l.forbidden ≡ dealt l.fn.needs (l.need-index + 1))
    × PutFew l.initial.out l.out l.at (further_rabin l.fn.needs l.need-index) l.next (18 * l.forbidden)
