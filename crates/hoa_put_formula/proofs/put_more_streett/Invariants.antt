-- The loop of `formula::put_more_streett`: each turn writes one pair more, in at most 34 bytes. Assumes nothing.
use Rattle.std.proofs.Common.{◌*◌}
use Rattle.puts.specs.Put.{PutFew}
use Rattle.hoa_written.specs.Written.{further_streett}
use Rattle.hoa_put_formula.proofs.put_more_streett.Given as goal

abbrev pub invariant-loop-i : goal.invariant-loop-i
invariant-loop-i l = PutFew l.initial.out l.out l.at (further_streett l.i) l.next (34 * l.i)
