-- Tokens, and the token at the front of bytes (docs/RULES.md, "The Hanoi format", tokens). Assumes nothing.
use Rattle.std.specs.Prelude.{Bool, cond, not, ◌&&◌, ◌||◌, List, [], ◌∷◌, ℕ, suc, ◌+◌, ◌-◌, ◌*◌, ◌^◌, eqb, ltb, length, take, get_or}
use Rattle.std.proofs.Math.Option.{Option, some, none}
use Rattle.hoa_tokens.specs.declared.Word.{Word}
use Rattle.hoa_tokens.specs.declared.Word.TheVariants as word_is
use Rattle.hoa_tokens.specs.declared.Header.{Header}
use Rattle.hoa_tokens.specs.declared.Header.TheVariants as header_is
use Rattle.hoa_tokens.specs.declared.Sign.{Sign}
use Rattle.hoa_tokens.specs.declared.Sign.TheVariants as sign_is
use Rattle.hoa_tokens.specs.Bytes.{bytes, same, is_digit, is_capital, is_letter, is_name, run}

-- the tokens
pub data Token : Type 0 where
  -- INT, with its value
  int : ℕ → Token
  word : Word → Token
  header : Header → Token
  -- STRING, with the bytes between its quotes
  str : List ℕ → Token
  -- ANAME
  aname : Token
  -- a mark of one byte
  sign : Sign → Token
  -- `--BODY--`, `--END--`, `--ABORT--`
  body : Token
  end : Token
  abort : Token
  -- END: the text's end
  finish : Token
  -- BAD: what begins none of these
  bad : Token

-- a token, and how many bytes it takes
pub record Taken : Type 0 where
  pub token : Token
  pub size : ℕ

-- a token of so many bytes
abbrev pub taken : Token → ℕ → Taken
taken t k = record { token = t; size = k }

-- ---- words and headers by their text

-- the first of the texts that is the same decides
abbrev pub among : {A : Type 0} → List ℕ → List (List ℕ × A) → A → A
among bs [] other = other
among bs (k ∷ ks) other = cond (same bs k.0) k.1 (among bs ks other)

-- the word with this text
unfoldable pub word_of : List ℕ → Word
word_of bs =
    among
    bs
    (
    (bytes "t", word_is.True)
    ∷ (bytes "f", word_is.False)
    ∷ (bytes "v1", word_is.V1)
    ∷ (bytes "Inf", word_is.Inf)
    ∷ (bytes "Fin", word_is.Fin)
    ∷ [])
    word_is.Other

-- a name that the grammar does not know: with a capital letter in front, or without
abbrev pub unknown : List ℕ → Header
unknown bs = cond (is_capital (get_or bs 0 0)) header_is.Capital header_is.Lower

-- the headers of hints and names, and those that the grammar does not know
unfoldable pub further_header : List ℕ → Header
further_header bs =
    among
    bs
    (
    (bytes "acc-name", header_is.AccName)
    ∷ (bytes "tool", header_is.Tool)
    ∷ (bytes "name", header_is.Name)
    ∷ (bytes "properties", header_is.Properties)
    ∷ (bytes "Alias", header_is.Alias)
    ∷ [])
    (unknown bs)

-- the header with this text, its `:` left out
unfoldable pub header_of : List ℕ → Header
header_of bs =
    among
    bs
    (
    (bytes "HOA", header_is.Hoa)
    ∷ (bytes "States", header_is.States)
    ∷ (bytes "Start", header_is.Start)
    ∷ (bytes "AP", header_is.Ap)
    ∷ (bytes "Acceptance", header_is.Acceptance)
    ∷ (bytes "State", header_is.State)
    ∷ [])
    (further_header bs)

-- ---- each form

-- "value below 2^31"
abbrev pub int_limit : ℕ
int_limit = 2 ^ 31

-- the number that digits spell, where the digits before them spell n
unfoldable pub spelt : ℕ → List ℕ → ℕ
spelt n [] = n
spelt n (b ∷ bs) = spelt (n * 10 + (b - 48)) bs

-- "INT: `0`, or 1-9 followed by digits; value below 2^31"
unfoldable pub is_int : List ℕ → Bool
is_int bs = (eqb (length bs) 1 || not (eqb (get_or bs 0 0) 48)) && ltb (spelt 0 bs) int_limit

-- "a whole run of digits that is no INT" is BAD
abbrev pub digits : List ℕ → Token
digits ds = cond (is_int ds) (int (spelt 0 ds)) bad

-- the whole run of digits
unfoldable pub number : List ℕ → Taken
number bs = taken (digits (take (run is_digit bs) bs)) (run is_digit bs)

-- "HEADER: the same with `:` directly behind, which belongs to it"
unfoldable pub named : List ℕ → Taken
named bs =
    let k = run is_name bs in
    cond (eqb (get_or bs k 0) 58) (taken (header (header_of (take k bs))) (suc k)) (taken (word (word_of (take k bs))) k)

-- so many more
abbrev pub later : ℕ → Option ℕ → Option ℕ
later k none = none
later k (some n) = some (k + n)

-- how many bytes stand before the string's closing quote, if it has one; `\` takes the byte behind it along
unfoldable pub quoted : List ℕ → Option ℕ
quoted [] = none
quoted (b ∷ []) = cond (eqb b 34) (some 0) none
quoted (b ∷ (c ∷ bs)) = cond (eqb b 34) (some 0) (cond (eqb b 92) (later 2 (quoted bs)) (later 1 (quoted (c ∷ bs))))

-- a string whose quote stands in front of the bytes; "an open string, to the text's end" is BAD
abbrev pub closed : List ℕ → Option ℕ → Taken
closed bs none = taken bad (suc (length bs))
closed bs (some k) = taken (str (take k bs)) (k + 2)

-- "ANAME: `@` and at least one letter, digit, `_`, `-`"; the `@` stands in front of the bytes
unfoldable pub at : List ℕ → Taken
at bs = cond (eqb (run is_name bs) 0) (taken bad 1) (taken aname (suc (run is_name bs)))

-- the bytes begin with the text
abbrev pub begins : List ℕ → List ℕ → Bool
begins key bs = same (take (length key) bs) key

-- `--BODY--`, `--END--`, `--ABORT--`
unfoldable pub fixed : List ℕ → Taken
fixed bs =
    cond
    (begins (bytes "--BODY--") bs)
    (taken body 8)
    (cond (begins (bytes "--END--") bs) (taken end 7) (cond (begins (bytes "--ABORT--") bs) (taken abort 9) (taken bad 1)))

-- "marks of one byte"
unfoldable pub sign_of : ℕ → Option Sign
sign_of b =
    cond (eqb b 40) (some sign_is.ParenLeft)
    (cond (eqb b 41) (some sign_is.ParenRight)
    (cond (eqb b 91) (some sign_is.BracketLeft)
    (cond (eqb b 93) (some sign_is.BracketRight)
    (cond (eqb b 123) (some sign_is.BraceLeft)
    (cond (eqb b 125) (some sign_is.BraceRight)
    (cond (eqb b 38) (some sign_is.And) (cond (eqb b 124) (some sign_is.Or) (cond (eqb b 33) (some sign_is.Not) none))))))))

-- a mark of one byte, or a byte that begins no token
abbrev pub single : Option Sign → Taken
single none = taken bad 1
single (some s) = taken (sign s) 1

-- ---- "a token is as long as it can be"

-- the token at the front of the bytes, where neither a blank nor a comment stands in front
unfoldable pub front : List ℕ → Taken
front [] = taken finish 0
front (b ∷ bs) =
    cond (is_digit b) (number (b ∷ bs))
    (cond (is_letter b) (named (b ∷ bs))
    (cond (eqb b 34) (closed bs (quoted bs))
    (cond (eqb b 64) (at bs)
    (cond (eqb b 45) (fixed (b ∷ bs)) (single (sign_of b))))))
