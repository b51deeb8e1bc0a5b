-- `put_more` meets its contract: each turn writes a comma and an edge more (`further_more`). Assumes nothing.
use Rattle.std.proofs.Common.{arith}
use Rattle.puts.proofs.Puts.{put_both}
use Rattle.answer_text.proofs.Prints.{further_none, further_more}
use Rattle.answer_text.proofs.put_more.Goals as goal

pub loop-cell-init : goal.loop-cell-init
loop-cell-init c = record { written = further_none _ _; few = omega arith }

pub loop-cell-preserved : goal.loop-cell-preserved
loop-cell-preserved c = record {
  written = further_more c.args.cells.now c.loop-cell.cell-index (omega arith) c.loop-cell.invariant.written (put_both c.put-digits.ensures c.put_step-next.ensures.put);
  few = omega arith;
}
