-- `reader::read_end` meets its contract: after the end line either a byte is left, which is 21 at the next line, or none. Assumes nothing.
use Rattle.job_text.proofs.Bodies.{end_followed, end_said}
use Rattle.job_text.proofs.reader.read_end.Goals as goal

pub returns-then-next-text : goal.returns-then-next-text
returns-then-next-text c = rw c.missing.ensures (end_followed c.args.text.now c.args.start _ c.in_ok-next.ensures.read c.if-next-text.true)

pub returns : goal.returns
returns c = end_said c.args.text.now c.args.start _ c.in_ok-next.ensures.read c.if-next-text.false
