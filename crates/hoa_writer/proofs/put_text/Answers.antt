-- `put_text` meets its contract: its parts, one after another. Assumes nothing.
use Rattle.hoa_tokens.specs.Bytes.{bytes}
use Rattle.hoa_written.specs.Written.{hoa_text}
use Rattle.puts.proofs.Puts.{put_both}
use Rattle.hoa_writer.proofs.put_text.Goals as goal

pub returns : goal.returns
unfolding hoa_text bytes
returns c =
    let rows = put_both c.put_rows-end.ensures.put c.put_word.ensures in
    put_both c.put_head-accepts.ensures.put (put_both c.put_acceptance-begin.ensures.put (put_both c.put_word-rows.ensures rows))
