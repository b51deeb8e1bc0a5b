-- `put_top` meets its contract: the first four lines and the two behind them. Assumes nothing.
use Rattle.answer_text.specs.Printed.{top_text}
use Rattle.puts.proofs.Puts.{put_both}
use native.Mathlib.Omega.{arith}
use Rattle.answer_text.proofs.put_top.Goals as goal

pub returns : goal.returns
unfolding top_text
returns c =
    record {
      put = put_both (put_both c.put_head-pair.ensures.put c.put_pair-deep.ensures.put) c.put_held.ensures.put;
      few = omega (arith, c.put_head-pair.ensures.few, c.put_pair-deep.ensures.few, c.put_held.ensures.few);
    }
