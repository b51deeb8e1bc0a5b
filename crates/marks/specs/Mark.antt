-- Mark sets (docs/RULES.md, "Tables, walks and lassos": "a 32-bit set of marks"). Mark i is bit i of a word.
-- What is plain of each definition is proved once for every width in proofs/Laws.antt. Assumes nothing.
use Rattle.std.specs.Prelude.{◌≡◌, ℕ, ◌-◌, ◌/◌, ◌%◌, ◌^◌, min}
use Rattle.std.specs.Int.Bits.{bit_and, bit_or, bit_xor}

-- how many marks one set can hold
abbrev pub width : ℕ
width = 32

-- the set x has mark i
unfoldable pub Has : ℕ → ℕ → Type 0
Has i x = x / 2 ^ i % 2 ≡ 1

-- the marks of either set (`Has-union`: it has exactly what either has)
unfoldable pub union : ℕ → ℕ → ℕ
union a b = bit_or a b

-- the marks of a that b has not (`Has-without`)
unfoldable pub without : ℕ → ℕ → ℕ
without a b = bit_xor (bit_and a b) a

-- some mark is in both sets
pub record Meets (a b : ℕ) : Type 0 where
  pub mark : ℕ
  pub first : Has mark a
  pub second : Has mark b

-- a has each mark of b
unfoldable pub Covers : ℕ → ℕ → Type 0
Covers a b = (i : ℕ) → Has i b → Has i a

-- the marks 0 to k - 1, as far as w marks go (`has_first`)
unfoldable pub first_marks : ℕ → ℕ → ℕ
first_marks w k = 2 ^ min k w - 1
