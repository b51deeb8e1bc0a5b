-- `condition::dealt_before`: the sum is what is dealt out before the pair at hand, and each pair adds at most 2 ^ 32, so that it fits. Assumes nothing.
use Rattle.std.proofs.Common.{◌≡◌, ◌*◌, ◌≤◌}
use Rattle.table.specs.Condition.{dealt}
use Rattle.table.proofs.condition.dealt_before.Given as goal

abbrev pub invariant-loop-need : goal.invariant-loop-need
invariant-loop-need l = (l.sum ≡ dealt l.fn.needs l.need-index) × (l.sum ≤ l.need-index * 4294967296)
