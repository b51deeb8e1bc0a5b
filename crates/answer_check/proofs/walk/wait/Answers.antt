-- `walk::wait` meets its contract: a walk that waits goes on waiting; else a state that no edge leaves is a stop state. Assumes nothing.
use Rattle.std.proofs.Common.{subst, rules}
use Rattle.answer_check.specs.inner.{LeftBy}
use Rattle.answer_check.proofs.Going.{wait_again, wait_first}
use Rattle.answer_check.proofs.walk.wait.Goals as goal
use Rattle.answer_check.proofs.walk.wait.Goals.{else-not-place-via-then-not-place+else-leaves, else-not-place-via-else-not-place}

pub returns : goal.returns
returns c =
    let a = c.args in
    elim c.else-not-place.branch [
      | else-not-place-via-then-not-place+else-leaves w ↦ wait_first a.from.now a.place (subst (LeftBy a.from.now a.place.state) w.if-leaves.false w.leaves.ensures)
      | else-not-place-via-else-not-place w ↦ wait_again a.from.now a.place (search rules)
    ]
