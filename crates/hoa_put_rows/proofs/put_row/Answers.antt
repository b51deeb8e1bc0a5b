-- `body::put_row` meets its contract: the state's line and its edges, one after another. Assumes nothing.
use Rattle.hoa_tokens.specs.Bytes.{bytes}
use Rattle.puts.proofs.Few.{few_both}
use native.Mathlib.Omega.{arith}
use Rattle.hoa_put_rows.proofs.put_row.Goals as goal

pub returns : goal.returns
unfolding bytes
returns c =
    few_both _ c.put_held-next.ensures c.put_edges.ensures (omega arith)
