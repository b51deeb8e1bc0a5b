-- `formula::put_streett` meets its contract: `t` for none, else the first pair and the others (`streett_some`). Assumes nothing.
use Rattle.hoa_tokens.specs.Bytes.{bytes}
use Rattle.puts.proofs.Few.{few_word, few_both}
use Rattle.hoa_written.proofs.Formulas.{streett_none, streett_some}
use native.Mathlib.Omega.{arith}
use Rattle.hoa_put_formula.proofs.put_streett.Goals as goal

pub returns-then-p-eq0 : goal.returns-then-p-eq0
unfolding bytes
returns-then-p-eq0 c =
    rw (streett_none c.args.p c.if-p-eq0.true) (few_word 1000 c.put.ensures (omega arith))

pub returns : goal.returns
unfolding bytes
returns c =
    rw (streett_some c.args.p c.if-p-eq0.false)
    (few_both 1000 c.put_streett_pair-next.ensures c.put_more_streett.ensures (omega (arith, c.requires.p_bound)))
