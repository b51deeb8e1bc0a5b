-- The loop of `body::put_rows`: the row of the state begins at e, and what stands before it is written. Assumes nothing.
use Prim.Native.Nat.{◌+◌, ◌*◌}
use Rattle.table.proofs.Rows.{Begins}
use Rattle.puts.specs.Put.{joined, PutFew}
use Rattle.hoa_written.specs.Written.{row_text}
use Rattle.hoa_put_rows.proofs.put_rows.Given as goal

abbrev pub invariant-loop-state : goal.invariant-loop-state
invariant-loop-state l =
    Begins l.from l.state l.e × PutFew l.initial.out l.out l.at (joined (row_text l.from l.to l.marks) l.state) l.next (20 * l.state + 400 * l.e)
