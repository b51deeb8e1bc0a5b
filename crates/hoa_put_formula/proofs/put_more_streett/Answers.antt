-- `formula::put_more_streett` meets its contract: each turn writes one pair more (`streett_more`). Assumes nothing.
use Rattle.hoa_tokens.specs.Bytes.{bytes}
use Rattle.puts.proofs.Few.{joined_none}
use Rattle.hoa_written.proofs.Formulas.{streett_more}
use Rattle.hoa_put_formula.proofs.put_more_streett.Goals as goal

pub loop-i-init : goal.loop-i-init
loop-i-init c = joined_none _ _ _ _

pub loop-i-preserved : goal.loop-i-preserved
unfolding bytes
loop-i-preserved c = streett_more c.loop-i.i c.loop-i.invariant c.put_streett_pair-next.ensures
