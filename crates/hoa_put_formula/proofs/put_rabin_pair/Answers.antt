-- `formula::put_rabin_pair` meets its contract: the forbidden mark, the needed marks and the bracket, one after another. Assumes nothing.
use native.Mathlib.Nat.{le_refl}
use Rattle.hoa_tokens.specs.Bytes.{bytes}
use Rattle.puts.proofs.Few.{few_word, few_both}
use native.Mathlib.Omega.{arith}
use Rattle.hoa_put_formula.proofs.put_rabin_pair.Goals as goal

pub returns : goal.returns
unfolding bytes
returns c =
    let needed = few_both _ c.put_infs-end.ensures (few_word 1 c.put.ensures (omega arith)) (le_refl _) in
    few_both _ c.put_held-asks.ensures needed (omega (arith, c.requires.key_len_bound))
