-- `field::word_run` meets its contract: the bytes passed agree. Assumes nothing.
use Rattle.job_values.proofs.Words.{Agrees}
use Rattle.job_values.proofs.field.word_run.Given as goal

abbrev pub invariant-loop-i : goal.invariant-loop-i
invariant-loop-i l = Agrees l.text l.at l.end l.word l.i
