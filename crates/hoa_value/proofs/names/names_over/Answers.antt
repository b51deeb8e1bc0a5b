-- `names::names_over` meets its contract: a STRING is one name too many (`over_text`); any other token does what it does where an item may begin
-- (`over_not`). Assumes nothing.
use mathlib.Core.Path.{◌∙◌, sym}
use Rattle.hoa_value.proofs.Naming.{over_not, over_text}
use Rattle.hoa_value.proofs.names.names_over.Goals as goal

pub returns-then-is_text : goal.returns-then-is_text
returns-then-is_text c = over_text _ _ _ c.look-spot.ensures c.requires (sym c.is_text.ensures ∙ c.if-is_text.true)

pub returns : goal.returns
returns c = over_not _ _ _ c.look-spot.ensures c.requires (sym c.is_text.ensures ∙ c.if-is_text.false)
