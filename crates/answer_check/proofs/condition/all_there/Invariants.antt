-- The marks looked at are there. Assumes nothing.
use Rattle.std.proofs.Common.{ℕ, ◌+◌}
use Rattle.marks.specs.Mark.{Has}
use Rattle.answer_check.proofs.Conditions.{Each}
use Rattle.answer_check.proofs.condition.all_there.Given as goal

abbrev pub invariant-loop-j : goal.invariant-loop-j
invariant-loop-j l = Each (λ (k : ℕ). Has (l.first + k) l.union) l.j
