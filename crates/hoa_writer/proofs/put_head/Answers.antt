-- `put_head` meets its contract: the lines one after another; the first two begin in one key. Assumes nothing.
use Rattle.hoa_tokens.specs.Bytes.{bytes}
use Rattle.hoa_written.specs.Written.{head_text}
use Rattle.puts.proofs.Few.{few_both, few_word}
use native.Mathlib.Omega.{arith}
use Rattle.hoa_writer.proofs.put_head.Goals as goal

pub returns : goal.returns
unfolding bytes head_text
returns c =
    let second = few_both 33 c.put_held-names.ensures (few_word 6 c.put_word.ensures (omega arith)) (omega arith) in
    few_both 60 c.put_held-starts.ensures second (omega arith)
