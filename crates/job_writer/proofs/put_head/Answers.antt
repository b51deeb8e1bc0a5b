-- `put_head` meets its contract: the lines one after another; those that say the same in every text stand in the keys of others. Assumes nothing.
use Rattle.puts.specs.Put.{decimal_in}
use Rattle.puts.proofs.Few.{few_both}
use Rattle.job_writer.specs.Written.{head_text}
use native.Mathlib.Omega.{arith}
use Rattle.job_writer.proofs.put_head.Goals as goal

pub returns : goal.returns
unfolding head_text decimal_in
returns c =
    let second = few_both 61 c.put_held-kinds.ensures c.put_held.ensures (omega arith) in
    few_both 100 c.put_held-starts.ensures second (omega arith)
