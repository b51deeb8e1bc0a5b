-- `part::find` meets its contract: while the byte is not at i, the number of bytes before it falls by one (`ahead_miss`). Assumes nothing.
use mathlib.Core.Path.{◌≡◌}
use Prim.Native.Nat.{◌+◌}
use lib.ListN.{drop}
use Rattle.job_values.specs.Bytes.{ahead}
use Rattle.job_values.proofs.part.find.Given as goal

abbrev pub invariant-loop-i : goal.invariant-loop-i
invariant-loop-i l = l.from + ahead l.byte (drop l.from l.bytes) ≡ l.i + ahead l.byte (drop l.i l.bytes)
