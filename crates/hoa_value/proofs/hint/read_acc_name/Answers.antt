-- `hint::read_acc_name` meets its contract: a WORD, and what is passed over behind it (`acc_goes`); another token is refused (`acc_stops`). Assumes nothing.
use mathlib.Core.Path.{◌∙◌, sym}
use Rattle.hoa_value.proofs.Passing.{acc_goes, acc_stops, word_next}
use Rattle.hoa_value.proofs.hint.read_acc_name.Goals as goal

pub pass_hints-requires : goal.pass_hints-requires
pass_hints-requires c = (word_next _ _ _ c.look-spot.ensures (sym c.is_word.ensures ∙ c.if-is_word.true)).within

pub returns-then-is_word : goal.returns-then-is_word
returns-then-is_word c = acc_goes _ _ _ c.look-spot.ensures _ (sym c.is_word.ensures ∙ c.if-is_word.true) c.pass_hints.ensures

pub returns-else-is_word : goal.returns-else-is_word
returns-else-is_word c = rw c.misplaced.ensures (acc_stops _ _ _ c.look-spot.ensures (sym c.is_word.ensures ∙ c.if-is_word.false) c.requires)
