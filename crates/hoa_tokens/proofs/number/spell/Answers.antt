-- `number::spell` meets its contract: the digits passed spell the value so far, which the next digit takes on (`spelt_more`); once it is too large
-- it stays so (`too_large`). The measure is what is left of the digits. Assumes nothing.
use mathlib.Core.Path.{refl, sym}
use Rattle.hoa_tokens.proofs.Numbers.{spelt_more, spelt_end, too_large, small_enough}
use native.Mathlib.Omega.{arith}
use Rattle.hoa_tokens.proofs.number.spell.Goals as goal

pub loop-digit-init : goal.loop-digit-init
loop-digit-init c = (omega arith, refl)

pub overflow_mul-value : goal.overflow_mul-value
overflow_mul-value c = omega arith

pub overflow_add-value : goal.overflow_add-value
overflow_add-value c = omega (arith, c.worth.ensures, c.type_inv.digits c.loop-digit.digit-index)

pub returns-then-value-ge-INT_LIMIT : goal.returns-then-value-ge-INT_LIMIT
returns-then-value-ge-INT_LIMIT c =
    let ds = c.args.digits.now in
    record {
      says = λ text a b.
          rw (c.loop-digit.invariant.1, spelt_more ds c.loop-digit.digit-index c.loop-digit.value (omega arith), ← c.worth.ensures) (sym (too_large _ _ c.if-value-ge-INT_LIMIT.true));
    }

pub loop-digit-preserved : goal.loop-digit-preserved
loop-digit-preserved c =
    let ds = c.args.digits.now in
    (omega arith, rw (c.loop-digit.invariant.1, spelt_more ds c.loop-digit.digit-index c.loop-digit.value (omega arith), ← c.worth.ensures))

pub overflow_cast-result : goal.overflow_cast-result
overflow_cast-result c = omega arith

pub returns : goal.returns
returns c =
    let l = c.loop-digit in
    let ds = c.args.digits.now in
    record { says = λ text a b. rw (l.invariant.1, spelt_end ds l.digit-index l.value (omega arith), small_enough l.value l.invariant.0) }
