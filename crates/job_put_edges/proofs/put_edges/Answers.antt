-- `put_edges` meets its contract: each turn writes one edge more (`joined_more`). Assumes nothing.
use mathlib.Core.List.{List}
use Prim.Native.Nat.{ℕ}
use lib.ListN.{get_or}
use Rattle.puts.proofs.Few.{joined_none, joined_more}
use Rattle.job_put_edges.specs.Edges.{edge_text}
use native.Mathlib.Omega.{arith}
use Rattle.job_put_edges.proofs.put_edges.Goals as goal

pub loop-i-init : goal.loop-i-init
loop-i-init c = joined_none _ _ _ _

pub loop-i-preserved : goal.loop-i-preserved
loop-i-preserved c =
    let a = c.args in
    let line : ℕ → List ℕ = λ i. edge_text (get_or a.from.now i 0) (get_or a.to.now i 0) (get_or a.marks.now i 0) in
    joined_more line _ c.loop-i.invariant c.put_edge-next.ensures (omega arith)
