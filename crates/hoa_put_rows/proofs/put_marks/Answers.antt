-- `body::put_marks` meets its contract: each turn writes one mark more (`joined_more`). Assumes nothing.
use Rattle.hoa_written.specs.Written.{mark_text}
use Rattle.puts.proofs.Few.{joined_none, joined_more}
use native.Mathlib.Omega.{arith}
use Rattle.hoa_put_rows.proofs.put_marks.Goals as goal

pub loop-mark-init : goal.loop-mark-init
loop-mark-init c = joined_none _ _ _ _

pub loop-mark-preserved : goal.loop-mark-preserved
loop-mark-preserved c = joined_more (mark_text c.args.set) _ c.loop-mark.invariant c.put_mark-next.ensures (omega arith)
