-- Numbers of the header that may be missing (docs/RULES.md, "The Hanoi format", the faulty token: "so far"). Assumes nothing.
use Rattle.std.specs.Prelude.{Option, Some, None, Bool, true, false, ℕ, leb}

abbrev pub is_given : Option ℕ → Bool
is_given None = false
is_given (Some n) = true

-- the number, or another where none was given
abbrev pub given_or : ℕ → Option ℕ → ℕ
given_or other None = other
given_or other (Some n) = n

-- a number was given, and x is not below it
abbrev pub not_below : ℕ → Option ℕ → Bool
not_below x None = false
not_below x (Some n) = leb n x

-- a number was given, and x is not above it
abbrev pub not_above : ℕ → Option ℕ → Bool
not_above x None = false
not_above x (Some s) = leb x s
