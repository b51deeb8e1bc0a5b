-- `body::put_edge` meets its contract: label, target, marks and newline byte, one after another. Assumes nothing.
use Rattle.hoa_tokens.specs.Bytes.{bytes}
use Rattle.hoa_written.specs.Written.{edge_text}
use Rattle.puts.proofs.Few.{few_word, few_both}
use native.Mathlib.Omega.{arith}
use Rattle.hoa_put_rows.proofs.put_edge.Goals as goal

pub returns : goal.returns
unfolding edge_text bytes
returns c =
    let named = few_both 365 c.put_number-sig.ensures c.put_sig-end.ensures (omega arith) in
    let said = few_both 369 (few_word 4 c.put_word-target.ensures (omega arith)) named (omega arith) in
    few_both 400 said (few_word 1 c.put.ensures (omega arith)) (omega arith)
