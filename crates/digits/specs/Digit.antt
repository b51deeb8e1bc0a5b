-- Which bytes are digits, and what each is worth (docs/RULES.md, "The job text and the printed answer"): `none` for every other byte. Assumes nothing.
use Rattle.std.specs.Prelude.{Bool, cond, ◌&&◌, ℕ, ◌+◌, ◌-◌, leb}
use Rattle.std.proofs.Math.Option.{Option, some, none}

-- the byte stands from low to high, both ends counted
abbrev pub between : ℕ → ℕ → ℕ → Bool
between low high b = leb low b && leb b high

-- `0` to `9`: bytes 48 to 57
unfoldable pub digit : ℕ → Option ℕ
digit b = cond (between 48 57 b) (some (b - 48)) none

-- `0` to `9`, bytes 48 to 57, are worth 0 to 9; `a` to `f`, bytes 97 to 102, are worth 10 to 15: "lower-case hex digits"
unfoldable pub hex_digit : ℕ → Option ℕ
hex_digit b =
    cond (between 48 57 b) (some (b - 48))
    (cond (between 97 102 b) (some (b - 97 + 10))
    none)
