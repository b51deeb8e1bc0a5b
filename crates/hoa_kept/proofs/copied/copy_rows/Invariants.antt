-- The loop of `copied::copy_rows`: after q states their edges stand in front (`Sorting`). Assumes nothing.
use Rattle.hoa_kept.proofs.Copying.{Sorting}
use Rattle.hoa_kept.proofs.copied.copy_rows.Given as goal

abbrev pub invariant-loop-q : goal.invariant-loop-q
invariant-loop-q l = Sorting l.rows.firsts l.rows.ends l.rows.tos l.rows.sets l.from l.to l.marks l.q l.m
