-- `field::number_run` meets its contract: the digits passed spell the value so far; it stops at the first byte that makes no number with them.
-- Assumes nothing.
use Rattle.job_values.proofs.Runs.{Spells}
use Rattle.job_values.proofs.field.number_run.Given as goal

abbrev pub invariant-loop-i : goal.invariant-loop-i
invariant-loop-i l = Spells l.text l.at l.end l.value l.i
