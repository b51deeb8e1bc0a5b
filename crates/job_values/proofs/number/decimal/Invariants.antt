-- `number::decimal` meets its contract: the digits passed spell the value so far, which the next digit takes on (`spelt_more`); once it is too
-- large it stays so (`too_large`). Assumes nothing.
use mathlib.Core.Path.{◌≡◌}
use Prim.Native.Nat.{◌≤◌}
use lib.ListN.{drop}
use Rattle.job_values.specs.Number.{spelt, most_number}
use Rattle.digits.specs.Digit.{digit}
use Rattle.job_values.proofs.number.decimal.Given as goal

abbrev pub invariant-loop-byte : goal.invariant-loop-byte
invariant-loop-byte l = (l.value ≤ most_number) × (spelt digit 10 0 l.bytes ≡ spelt digit 10 l.value (drop l.byte-index l.bytes))
