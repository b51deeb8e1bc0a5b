-- `put_word` meets its contract: after i turns the first i bytes are written (`word_more`). Assumes nothing.
use Prim.Native.Nat.{◌+◌}
use lib.ListN.{take}
use Rattle.puts.specs.Put.{Put}
use Rattle.puts.proofs.put_word.Given as goal

abbrev pub invariant-loop-i : goal.invariant-loop-i
invariant-loop-i l = Put l.initial.out l.out l.at (take l.i l.word) (l.at + l.i)
