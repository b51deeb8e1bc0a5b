-- `put_bottom` meets its contract: the two lines, one after the other. Assumes nothing.
use Rattle.answer_text.specs.Printed.{bottom_text}
use Rattle.puts.proofs.Puts.{put_both}
use Rattle.answer_text.proofs.put_bottom.Goals as goal

pub returns : goal.returns
unfolding bottom_text
returns c = put_both c.put_listed-next.ensures.put c.put_listed.ensures.put
