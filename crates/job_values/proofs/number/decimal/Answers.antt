-- `number::decimal` meets its contract: see its invariant. Assumes nothing.
use mathlib.Core.Path.{sym, ◌∙◌}
use native.Mathlib.Omega.{arith}
use Rattle.digits.specs.Digit.{digit}
use Rattle.job_values.specs.Number.{most_number}
use Rattle.job_values.proofs.Numbers.{spelt_more, too_large}
use Rattle.job_values.proofs.number.decimal.Goals as goal

pub returns-then-value-gt-MOST_NUMBER : goal.returns-then-value-gt-MOST_NUMBER
returns-then-value-gt-MOST_NUMBER c =
    let read = spelt_more digit 10 _ c.loop-byte.byte-index c.loop-byte.value c.in_ok-value.field-0 (omega arith) (sym c.in_ok-value.ensures) in
    rw (c.loop-byte.invariant.1 ∙ read, too_large digit most_number _ _ c.if-value-gt-MOST_NUMBER.true)
