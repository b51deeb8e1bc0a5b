-- `number::digits_kind` meets its contract: several digits with a zero in front are no number, and of all others the value decides. Assumes nothing.
use mathlib.Core.Path.{sym, ◌∙◌}
use Rattle.hoa_tokens.proofs.Numbers.{digits_short, digits_long, digits_zero}
use native.Mathlib.Omega.{arith}
use Rattle.hoa_tokens.proofs.number.digits_kind.Goals as goal

pub returns-then-digits-le1 : goal.returns-then-digits-le1
returns-then-digits-le1 c = record { says = λ text a b. c.spell.ensures.says text a b ∙ sym (digits_short c.args.digits.now c.if-digits-le1.true) }

pub returns-then-digits-eq48 : goal.returns-then-digits-eq48
returns-then-digits-eq48 c = record { says = λ text a b. sym (digits_zero c.args.digits.now (omega arith) c.if-digits-eq48.true) }

pub returns : goal.returns
returns c = record { says = λ text a b. c.spell-2.ensures.says text a b ∙ sym (digits_long c.args.digits.now c.if-digits-eq48.false) }
