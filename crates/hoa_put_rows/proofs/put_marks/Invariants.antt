-- The loop of `body::put_marks`: each turn writes one mark more, in at most 11 bytes. Assumes nothing.
use Prim.Native.Nat.{◌*◌}
use Rattle.puts.specs.Put.{joined, PutFew}
use Rattle.hoa_written.specs.Written.{mark_text}
use Rattle.hoa_put_rows.proofs.put_marks.Given as goal

abbrev pub invariant-loop-mark : goal.invariant-loop-mark
invariant-loop-mark l = PutFew l.initial.out l.out l.at (joined (mark_text l.set) l.mark) l.next (11 * l.mark)
