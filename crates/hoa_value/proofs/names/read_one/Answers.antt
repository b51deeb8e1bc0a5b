-- `names::read_one` meets its contract: another token than a STRING leaves too few names (`one_stops`), a name that came is refused (`one_came`), and
-- another is one more (`one_goes`). Assumes nothing.
use mathlib.Core.Path.{◌∙◌, refl, sym}
use Rattle.hoa_value.proofs.Naming.{came_any, one_came, one_goes, one_stops}
use Rattle.hoa_value.proofs.names.read_one.Goals as goal

pub returns-then-not-is_text : goal.returns-then-not-is_text
returns-then-not-is_text c =
    rw c.misplaced.ensures (one_stops _ _ _ _ c.look-spot.ensures (sym c.is_text.ensures ∙ c.if-not-is_text.true) c.requires)

pub returns-then-contains : goal.returns-then-contains
returns-then-contains c =
    one_came _ _ _ _ c.look-spot.ensures (sym c.is_text.ensures ∙ c.if-not-is_text.false)
    (sym (came_any _ c.args.before.now) ∙ sym c.contains.ensures.value ∙ c.if-contains.true)

pub returns : goal.returns
returns c =
    one_goes _ _ _ _ c.look-spot.ensures (sym c.is_text.ensures ∙ c.if-not-is_text.false) _ refl
    (sym (came_any _ c.args.before.now) ∙ sym c.contains.ensures.value ∙ c.if-contains.false)
