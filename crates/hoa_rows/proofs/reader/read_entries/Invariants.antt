-- The loop of `reader::read_entries`: before each entry the rows so far are held, and the tokens left decide (`Standing`). The measure is what is left
-- of the text. Assumes nothing.
use Prim.Native.Nat.{◌-◌}
use lib.ListN.{length}
use Rattle.hoa_rows.proofs.Turning.{Standing}
use Rattle.hoa_rows.proofs.reader.read_entries.Given as goal

abbrev pub invariant-loop-next : goal.invariant-loop-next
invariant-loop-next l = Standing l.limits l.text l.at l.place l.rows

abbrev pub decreases-loop-next : goal.decreases-loop-next
decreases-loop-next l = length l.text - l.place
