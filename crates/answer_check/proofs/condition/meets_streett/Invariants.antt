-- The pairs looked at are answered. Assumes nothing.
use Rattle.std.proofs.Common.{ℕ, ◌+◌, ◌*◌}
use Rattle.marks.specs.Mark.{Has}
use Rattle.answer_check.proofs.Conditions.{Each}
use Rattle.answer_check.proofs.condition.meets_streett.Given as goal

abbrev pub invariant-loop-i : goal.invariant-loop-i
invariant-loop-i l = Each (λ (k : ℕ). Has (2 * k) l.union → Has (2 * k + 1) l.union) l.i
