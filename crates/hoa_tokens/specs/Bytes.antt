-- Bytes of a text: quoted texts, classes of bytes, runs (docs/RULES.md, "The Hanoi format", tokens). Assumes nothing.
use Rattle.std.specs.Prelude.{Bool, true, false, cond, ◌&&◌, ◌||◌, List, [], ◌∷◌, ℕ, suc, eqb, leb}
use Prim.Native.Char.{code}
use Prim.Native.String as string

-- the bytes of a quoted text
unfoldable pub bytes : string.String → List ℕ
bytes string.[] = []
bytes (string.◌∷◌ c s) = code c ∷ bytes s

-- the two are the same bytes
unfoldable pub same : List ℕ → List ℕ → Bool
same [] [] = true
same [] (b ∷ bs) = false
same (a ∷ xs) [] = false
same (a ∷ xs) (b ∷ bs) = eqb a b && same xs bs

-- a byte from low to high
abbrev pub between : ℕ → ℕ → ℕ → Bool
between low high b = leb low b && leb b high

-- `0` to `9`
unfoldable pub is_digit : ℕ → Bool
is_digit b = between 48 57 b

-- `A` to `Z`
unfoldable pub is_capital : ℕ → Bool
is_capital b = between 65 90 b

-- "letter or `_`"
unfoldable pub is_letter : ℕ → Bool
is_letter b = is_capital b || (between 97 122 b || eqb b 95)

-- "letters, digits, `_`, `-`"
unfoldable pub is_name : ℕ → Bool
is_name b = is_letter b || (is_digit b || eqb b 45)

-- "space, tab, newline, carriage return"
unfoldable pub is_blank : ℕ → Bool
is_blank b = eqb b 32 || (eqb b 9 || (eqb b 10 || eqb b 13))

-- how many bytes of a class stand in front
unfoldable pub run : (ℕ → Bool) → List ℕ → ℕ
run class [] = 0
run class (b ∷ bs) = cond (class b) (suc (run class bs)) 0
