-- What a program did that reads a text and writes what a function on bytes makes of it. Assumes nothing.
use Rattle.std.specs.Prelude.{ℕ, ◌≤◌, ◌<◌, List, length, take, Option}
use Rattle.std.specs.Io.KnownBytes.{Appends, Consumes, IsAtEnd}

-- what the function left in its buffer `out` was written, the first `size` bytes and no more
abbrev pub Wrote : (List ℕ → ℕ → Type 0) → Option (List ℕ) → Option (List ℕ) → Type 0
Wrote reply before after = (out : List ℕ) × (size : ℕ) × reply out size × Appends before after (take size out)

-- the text that was read is what the input began with, `most` bytes or fewer, and fewer only if nothing is left; its reply was written
abbrev pub Served : ℕ → (List ℕ → List ℕ → ℕ → Type 0) → Option (List ℕ) → Option (List ℕ) → Option (List ℕ) → Option (List ℕ) → Type 0
Served most reply input rest before after = (text : List ℕ) × (length text ≤ most) × Consumes input rest text × (length text < most → IsAtEnd rest) × Wrote (reply text) before after
