-- From the walks along its two lists to a lasso. Assumes nothing.
use Rattle.std.proofs.Common.{◌≡◌, subst, ◌∙◌, arith, ℕ, ◌<◌, length, Ok}
use Rattle.table.specs.Table.{Walk, marks_of}
use Rattle.answer_check.specs.declared.walk.Place.{Place}
use Rattle.answer_check.specs.inner.{Named, KnotSays, afresh, Through, TurnedSays}
use Rattle.answer_check.proofs.Going.{none_union}

-- the cycle's walk arrives at the knot again
pub turn_closed : (g : Named) (knot end : Place) (count : ℕ) → KnotSays g knot → Through g.table (afresh knot) g.cycle end count → (count ≡ 0 → ⊥) → end.state ≡ knot.state
    → TurnedSays g (Ok end.union)
turn_closed g knot end count K T some e =
    let turns : 0 < length g.cycle = omega (arith, T.counted, some) in
    record {
      knot = knot.state;
      leads = K.leads;
      closes = subst (Walk g.table knot.state g.cycle) e T.walk;
      turns = turns;
      marks = T.marks ∙ none_union (marks_of g.table g.cycle);
    }
