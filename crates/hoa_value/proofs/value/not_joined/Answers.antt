-- `value::not_joined` meets its contract: `&` is refused (`joined`), and any other token does what it does where an item may begin (`not_joined`).
-- Assumes nothing.
use mathlib.Core.Path.{◌∙◌, sym}
use Rattle.hoa_value.proofs.Values.{joined, not_joined}
use Rattle.hoa_value.proofs.value.not_joined.Goals as goal

pub returns-then-is_join : goal.returns-then-is_join
returns-then-is_join c = joined _ _ _ c.look-spot.ensures (sym c.is_join.ensures ∙ c.if-is_join.true) c.requires

pub returns : goal.returns
returns c = not_joined _ _ _ c.look-spot.ensures (sym c.is_join.ensures ∙ c.if-is_join.false) c.requires
