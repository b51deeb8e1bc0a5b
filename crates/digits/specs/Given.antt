-- What the answers say, in the words of Digit.antt. Assumes nothing.
use Rattle.std.specs.Prelude.{ℕ, Option, Some, None}
use Rattle.std.proofs.Math.Option as math

abbrev pub digit_given : Option ℕ → math.Option ℕ
digit_given (Some d) = math.some d
digit_given None = math.none
