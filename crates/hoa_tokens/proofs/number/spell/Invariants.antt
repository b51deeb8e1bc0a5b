-- The value is below the limit, and the digits that are left take it on. Assumes nothing.
use mathlib.Core.Path.{◌≡◌}
use Prim.Native.Nat.{◌<◌}
use lib.ListN.{drop}
use Rattle.hoa_tokens.specs.Token.{spelt, int_limit}
use Rattle.hoa_tokens.proofs.number.spell.Given as goal

abbrev pub invariant-loop-digit : goal.invariant-loop-digit
invariant-loop-digit l = (l.value < int_limit) × (spelt 0 l.digits ≡ spelt l.value (drop l.digit-index l.digits))
