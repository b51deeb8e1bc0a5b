-- `put_checked` meets its contract: the first lines, then the last two. Assumes nothing.
use Rattle.puts.proofs.Few.{few_both}
use Rattle.check_text.specs.Replied.{checked_text}
use native.Mathlib.Omega.{arith}
use Rattle.check_text.proofs.put_checked.Goals as goal

pub returns : goal.returns
unfolding checked_text
returns c = few_both 110 c.put_top-faults.ensures c.put_bottom.ensures (omega arith)
