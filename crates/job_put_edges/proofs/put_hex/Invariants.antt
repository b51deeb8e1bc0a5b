-- `put_hex`: the first i digits are written. Assumes nothing.
use Rattle.puts.specs.Put.{joined, PutFew}
use Rattle.job_put_edges.specs.Edges.{hex_at}
use Rattle.job_put_edges.proofs.put_hex.Given as goal

abbrev pub invariant-loop-i : goal.invariant-loop-i
invariant-loop-i l = PutFew l.initial.out l.out l.at (joined (hex_at l.set) l.i) l.next l.i
