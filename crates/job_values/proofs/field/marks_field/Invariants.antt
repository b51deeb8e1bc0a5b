-- `field::marks_field` meets its contract: the digits passed spell the value so far, which has four bits for each, so that eight fit. Assumes nothing.
use Rattle.job_values.proofs.Marks.{Spells}
use Rattle.job_values.proofs.field.marks_field.Given as goal

abbrev pub invariant-loop-i : goal.invariant-loop-i
invariant-loop-i l = Spells l.text l.at l.end l.value l.i
