-- `edges::put_edge` meets its contract: two states, the digits and the newline byte, one after another. Assumes nothing.
use Rattle.puts.proofs.Few.{few_word, few_both}
use Rattle.job_put_edges.proofs.Pieces.{edge_pieces}
use native.Mathlib.Omega.{arith}
use Rattle.job_put_edges.proofs.put_edge.Goals as goal

pub returns : goal.returns
returns c =
    let a = c.args in
    let last = few_both 9 c.put_hex-end.ensures (few_word 1 c.put.ensures (omega arith)) (omega arith) in
    let second = few_both 20 c.put_held-bears.ensures last (omega arith) in
    rw (edge_pieces a.from a.to a.set) (few_both 40 c.put_held-target.ensures second (omega arith))
