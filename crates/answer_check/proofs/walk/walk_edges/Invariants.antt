-- `position` edges are walked, and the fields from `at` on are those that are left; the measure is what is left of the bytes. Assumes nothing.
use Prim.Native.Nat.{◌+◌, ◌-◌, ◌≤◌}
use lib.ListN.{length}
use Rattle.answer_check.proofs.Going.{Underway}
use Rattle.answer_check.proofs.walk.walk_edges.Given as goal

abbrev pub invariant-loop-at : goal.invariant-loop-at
invariant-loop-at l = Underway l.list l.initial.place l.from l.to l.marks l.at l.position l.place × (l.position ≤ l.at)

abbrev pub decreases-loop-at : goal.decreases-loop-at
decreases-loop-at l = length l.list + 1 - l.at
