-- `formula::put_buchi` meets its contract: `t` for none, else the first mark and the others (`buchi_some`). Assumes nothing.
use Rattle.hoa_tokens.specs.Bytes.{bytes}
use Rattle.puts.proofs.Few.{few_word, few_both}
use Rattle.hoa_written.proofs.Formulas.{buchi_none, buchi_some}
use native.Mathlib.Omega.{arith}
use Rattle.hoa_put_formula.proofs.put_buchi.Goals as goal

pub returns-then-k-eq0 : goal.returns-then-k-eq0
unfolding bytes
returns-then-k-eq0 c =
    rw (buchi_none c.args.k c.if-k-eq0.true) (few_word 1000 c.put.ensures (omega arith))

pub returns : goal.returns
unfolding bytes
returns c =
    rw (buchi_some c.args.k c.if-k-eq0.false)
    (few_both 1000 c.put_held-next.ensures c.put_infs.ensures (omega (arith, c.requires.k_bound)))
