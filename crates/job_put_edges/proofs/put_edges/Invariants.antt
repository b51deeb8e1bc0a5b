-- `put_edges`: the lines of the first i edges are written. Assumes nothing.
use Rattle.std.proofs.Common.{◌*◌}
use Rattle.puts.specs.Put.{PutFew}
use Rattle.job_put_edges.specs.Edges.{edges_text}
use Rattle.job_put_edges.proofs.put_edges.Given as goal

abbrev pub invariant-loop-i : goal.invariant-loop-i
invariant-loop-i l = PutFew l.initial.out l.out l.at (edges_text l.from l.to l.marks l.i) l.next (40 * l.i)
