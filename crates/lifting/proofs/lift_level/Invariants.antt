-- `lift_level`: the first i edges are written. Assumes nothing.
use lib.ListN.{get_or}
use Rattle.climbing.specs.Climb.{number, landing, bearing}
use Rattle.climbing.specs.Place.{cells}
use Rattle.lifting.specs.inner.{Wrote}
use Rattle.lifting.proofs.lift_level.Given as goal

abbrev pub invariant-loop-i : goal.invariant-loop-i
invariant-loop-i l =
    Wrote l.at (cells (λ e. number l.shape.k l.rung.state l.rung.level) 0 l.i)
    (cells (λ e. number l.shape.k (get_or l.to e 0) (landing l.shape.k (get_or l.marks e 0) l.rung.level)) 0 l.i)
    (cells (λ e. bearing l.shape.k (get_or l.marks e 0) l.rung.level) 0 l.i)
    l.initial.leaves l.initial.arrives l.initial.bears l.leaves l.arrives l.bears
