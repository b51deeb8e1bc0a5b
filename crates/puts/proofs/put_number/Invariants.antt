-- `put_number` meets its contract: each turn writes the digit before those that are written (`digits_more`), and there are at most ten (`decimal_few`).
-- Assumes nothing.
use Rattle.puts.proofs.Puts.{Digits}
use Rattle.puts.proofs.put_number.Given as goal

abbrev pub invariant-loop-i : goal.invariant-loop-i
invariant-loop-i l = Digits l.initial.out l.at l.n l.i l.rest l.out
