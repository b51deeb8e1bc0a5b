-- The loop of `formula::put_infs`: each turn writes one mark more, in at most 16 bytes. Assumes nothing.
use Rattle.std.proofs.Common.{◌*◌}
use Rattle.puts.specs.Put.{PutFew}
use Rattle.hoa_written.specs.Written.{further_infs}
use Rattle.hoa_put_formula.proofs.put_infs.Given as goal

abbrev pub invariant-loop-i : goal.invariant-loop-i
invariant-loop-i l = PutFew l.initial.out l.out l.at (further_infs l.first l.i) l.next (16 * l.i)
