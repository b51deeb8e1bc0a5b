-- `put_list` meets its contract: `-`, or the first edge and then the others with their commas (`list_some`). Assumes nothing.
use Rattle.puts.proofs.Puts.{put_both}
use Rattle.answer_text.proofs.Prints.{list_some}
use Rattle.answer_text.proofs.put_list.Goals as goal

pub returns-in-len1-up : goal.returns-in-len1-up
returns-in-len1-up c = rw (list_some c.args.cells.now c.in-len1-up.len_at_least) (put_both c.put_step-next.ensures.put c.put_more.ensures)
