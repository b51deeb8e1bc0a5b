-- What reading comes to: so many bytes, or that a read failed. Assumes nothing.
use Rattle.std.specs.Prelude.{ℕ, ◌≤◌, ◌<◌, List, length, take, Option, Result, Ok, Err}
use Rattle.std.specs.Io.KnownBytes.{Consumes, IsAtEnd}

-- no more bytes than were asked for
abbrev pub Within : {E : Type 0} → ℕ → Result ℕ E → Type 0
Within most (Ok count) = count ≤ most
Within most (Err reason) = Unit {0}

-- the whole of reading: what the input began with stands at the text's beginning, and unless that fills the text nothing is left of the input
abbrev pub Reads : {E : Type 0} → Option (List ℕ) → Option (List ℕ) → Result ℕ E → List ℕ → Type 0
Reads before after (Ok count) text = Consumes before after (take count text) × (count < length text → IsAtEnd after)
Reads before after (Err reason) text = Unit {0}
