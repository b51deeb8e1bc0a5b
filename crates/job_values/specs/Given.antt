-- What the reader of a number says, in the words of Number.antt. Assumes nothing.
use Rattle.std.specs.Prelude.{ℕ, Option, Some, None}
use Rattle.std.proofs.Math.Option as math

abbrev pub number_given : Option ℕ → math.Option ℕ
number_given (Some n) = math.some n
number_given None = math.none
