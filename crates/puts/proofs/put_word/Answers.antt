-- `put_word` meets its contract: each turn writes one byte more (`word_more`), and after the last the word is whole (`word_whole`). Assumes nothing.
use native.Mathlib.Omega.{arith}
use Rattle.puts.proofs.Puts.{word_more, word_whole}
use Rattle.puts.proofs.put_word.Goals as goal

pub loop-i-preserved : goal.loop-i-preserved
loop-i-preserved c = word_more _ _ _ _ _ _ _ (omega arith) c.loop-i.invariant c.put.ensures

pub returns : goal.returns
returns c = word_whole _ c.loop-i.i _ (omega arith) c.loop-i.invariant
