-- `put_text` meets its contract: its parts, one after another. Assumes nothing.
use Rattle.puts.proofs.Puts.{put_both}
use Rattle.job_writer.specs.Written.{job_text}
use Rattle.job_writer.proofs.put_text.Goals as goal

pub returns : goal.returns
unfolding job_text
returns c =
    let body = put_both c.put_edges-end.ensures.put c.put_word.ensures in
    put_both c.put_head-begin.ensures.put body
