-- `put_refused` meets its contract: three numbers, each behind its key. Assumes nothing.
use Rattle.puts.proofs.Few.{few_both}
use Rattle.check_text.specs.Replied.{top_text}
use native.Mathlib.Omega.{arith}
use Rattle.check_text.proofs.put_refused.Goals as goal

pub returns : goal.returns
unfolding top_text
returns c =
    few_both 70 (few_both 50 c.put_held-next.ensures c.put_held-told.ensures (omega arith)) c.put_held.ensures (omega arith)
