-- The loop of `body::put_edges`: each turn writes one edge more, in at most 400 bytes. Assumes nothing.
use Rattle.std.proofs.Common.{◌*◌, length, get_or}
use Rattle.puts.specs.Put.{joined, PutFew}
use Rattle.hoa_written.specs.Written.{edge_text}
use Rattle.hoa_put_rows.proofs.put_edges.Given as goal

abbrev pub invariant-loop-target : goal.invariant-loop-target
invariant-loop-target l =
    PutFew l.initial.out l.out l.at (joined (λ i. edge_text (get_or l.to i 0) (get_or l.marks i 0)) (length l.yielded)) l.next (400 * length l.yielded)
