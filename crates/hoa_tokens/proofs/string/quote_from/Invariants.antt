-- What is passed over leaves the closing quote where it is; the measure is what is left of the text. Assumes nothing.
use mathlib.Core.Path.{◌≡◌}
use Prim.Native.Nat.{◌-◌}
use lib.ListN.{length, drop}
use Rattle.hoa_tokens.specs.Token.{later, quoted}
use Rattle.hoa_tokens.proofs.string.quote_from.Given as goal

abbrev pub invariant-loop-i : goal.invariant-loop-i
invariant-loop-i l = later l.at (quoted (drop l.at l.text)) ≡ later l.i (quoted (drop l.i l.text))

abbrev pub decreases-loop-i : goal.decreases-loop-i
decreases-loop-i l = length l.text - l.i
