-- `formula::put_streett_pair` meets its contract: both marks and the bracket, one after another. Assumes nothing.
use Rattle.hoa_tokens.specs.Bytes.{bytes}
use Rattle.puts.proofs.Few.{few_both, few_word}
use native.Mathlib.Omega.{arith}
use Rattle.hoa_put_formula.proofs.put_streett_pair.Goals as goal

pub returns : goal.returns
unfolding bytes
returns c =
    let asked = few_both 17 c.put_held-end.ensures (few_word 1 c.put.ensures (omega arith)) (omega arith) in
    few_both 34 c.put_held-asks.ensures asked (omega arith)
