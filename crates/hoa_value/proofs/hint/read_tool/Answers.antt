-- `hint::read_tool` meets its contract: behind the first STRING a second one (`tool_second`) or what may stand behind an item (`tool_alone`); another
-- token than a STRING is refused (`text_stops`). Assumes nothing.
use mathlib.Core.Path.{◌∙◌, sym}
use Rattle.std.proofs.lemmas.Result.{err_from_is_err_and}
use Rattle.hoa_value.proofs.Passing.{text_stops, tool_alone, tool_second, tool_text_lem}
use Rattle.hoa_value.specs.Heading.{items, tool_more, tool_text}
use Rattle.hoa_value.proofs.hint.read_tool.Goals as goal

pub returns-in_err-next : goal.returns-in_err-next
returns-in_err-next c =
    let p = err_from_is_err_and c.from_residual.result c.from_residual.ensures.1 in
    rw (p.1, p.2) (text_stops _ _ tool_text items tool_more _ tool_text_lem c.in_err-next.ensures c.requires)

pub returns-then-is_text : goal.returns-then-is_text
returns-then-is_text c = tool_second _ _ _ c.in_ok-next.ensures _ c.look-spot.ensures (sym c.is_text.ensures ∙ c.if-is_text.true)

pub returns-else-is_text : goal.returns-else-is_text
returns-else-is_text c = tool_alone _ _ _ c.in_ok-next.ensures _ c.look-spot.ensures (sym c.is_text.ensures ∙ c.if-is_text.false)
