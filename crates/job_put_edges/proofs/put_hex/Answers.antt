-- `put_hex` meets its contract: each turn writes one digit more (`joined_more`). Assumes nothing.
use native.Mathlib.Omega.{arith}
use Rattle.puts.proofs.Few.{joined_none, joined_more, few_word}
use Rattle.job_put_edges.specs.Edges.{hex_at}
use Rattle.job_put_edges.proofs.put_hex.Goals as goal

pub loop-i-init : goal.loop-i-init
loop-i-init c = joined_none _ _ _ _

pub loop-i-preserved : goal.loop-i-preserved
loop-i-preserved c =
    let digit = rw c.hex_byte.ensures at c.put-next.ensures in
    joined_more (hex_at c.args.set) _ c.loop-i.invariant (few_word 1 digit (omega arith)) (omega arith)
