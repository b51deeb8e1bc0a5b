-- `put_head` meets its contract: the four lines, one after the other. Assumes nothing.
use Rattle.puts.proofs.Puts.{put_both}
use native.Mathlib.Omega.{arith}
use Rattle.answer_text.proofs.put_head.Goals as goal

pub returns : goal.returns
returns c =
    record {
      put =
          rw (← c.number_of.ensures, ← c.place_of.ensures)
          (put_both (put_both (put_both c.put_verdict-code.ensures.put c.put_held-place.ensures.put) c.put_held-told.ensures.put) c.put_held.ensures.put);
      few = omega (arith, c.put_verdict-code.ensures.few, c.put_held-place.ensures.few, c.put_held-told.ensures.few, c.put_held.ensures.few);
    }
