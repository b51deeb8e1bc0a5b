-- The rules' own examples of tokens (docs/RULES.md, "The Hanoi format"), computed from the definitions. Assumes nothing.
use mathlib.Core.Path.{◌≡◌, refl}
use mathlib.Core.List.{List, [], ◌∷◌}
use Prim.Native.Nat.{ℕ}
use Rattle.hoa_tokens.specs.declared.Word.TheVariants as word_is
use Rattle.hoa_tokens.specs.declared.Header.TheVariants as header_is
use Rattle.hoa_tokens.specs.declared.Sign.TheVariants as sign_is
use Rattle.hoa_tokens.specs.Bytes.{bytes, same, is_digit, is_capital, is_letter, is_name, is_blank, run}
use Rattle.hoa_tokens.specs.Token.{Token, int, word, header, str, aname, sign, body, finish, bad}
use Rattle.hoa_tokens.specs.Token.{word_of, further_header, header_of, spelt, is_int, number, named, quoted, at, fixed, sign_of, front}
use Rattle.hoa_tokens.specs.Stream.{gap_of, Placed, first, some, tokens_at}

-- the tokens of a text, without where they end
abbrev pub seen : List Placed → List (ℕ × Token)
seen [] = []
seen (p ∷ ps) = (p.place, p.token) ∷ seen ps

-- the text has these tokens, at these places
abbrev Says : List ℕ → List (ℕ × Token) → Type 0
Says text ts = seen (tokens_at text 0) ≡ ts

-- the examples
pub record Examples : Type 0 where
  -- an empty text has its end
  pub empty : Says [] ((0, finish) ∷ [])
  -- "`0abc` is `0` then `abc`"
  pub zero_word : Says (bytes "0abc") ((0, int 0) ∷ (1, word word_is.Other) ∷ (4, finish) ∷ [])
  -- "`007` is one faulty number"
  pub zeros : Says (bytes "007") ((0, bad) ∷ (3, finish) ∷ [])
  -- "value below 2^31"
  pub largest : Says (bytes "2147483647") ((0, int 2147483647) ∷ (10, finish) ∷ [])
  pub too_large : Says (bytes "2147483648 1") ((0, bad) ∷ (11, int 1) ∷ (12, finish) ∷ [])
  -- "`States :` is a word and a stray `:`"
  pub stray : Says (bytes "States :") ((0, word word_is.Other) ∷ (7, bad) ∷ (8, finish) ∷ [])
  pub header_here : Says (bytes "States: State:") ((0, header header_is.States) ∷ (8, header header_is.State) ∷ (14, finish) ∷ [])
  -- "`v1--BODY--` is one word"
  pub one_word : Says (bytes "v1--BODY--") ((0, word word_is.Other) ∷ (10, finish) ∷ [])
  pub fixed_word : Says (bytes "--BODY--v1") ((0, body) ∷ (8, word word_is.V1) ∷ (10, finish) ∷ [])
  -- comments nest, and quotes mean nothing in them
  pub nested : Says (bytes "/* /* \" */ */t") ((13, word word_is.True) ∷ (14, finish) ∷ [])
  -- "`/*/` opens only", and the place of an open comment is the outermost `/*`
  pub opens_only : Says (bytes " /*/ /* */ f") ((1, bad) ∷ (12, finish) ∷ [])
  -- "`/*` nothing in a string", and `\` takes the next byte along
  pub string_here : Says (bytes "\"/*\\\"\"&") ((0, str (47 ∷ 42 ∷ 92 ∷ 34 ∷ [])) ∷ (6, sign sign_is.And) ∷ (7, finish) ∷ [])
  -- "an open string .., to the text's end (place: its `\"`)"
  pub open_string : Says (bytes "t \"a b") ((0, word word_is.True) ∷ (2, bad) ∷ (6, finish) ∷ [])
  -- "`@` and at least one letter, digit, `_`, `-`"
  pub alias_here : Says (bytes "@-1@") ((0, aname) ∷ (3, bad) ∷ (4, finish) ∷ [])
  -- a byte order mark
  pub above : Says (239 ∷ 187 ∷ 191 ∷ []) ((0, bad) ∷ (1, bad) ∷ (2, bad) ∷ (3, finish) ∷ [])
  -- "a form feed"
  pub form_feed : Says (12 ∷ 13 ∷ []) ((0, bad) ∷ (2, finish) ∷ [])

-- each computes
pub examples : Examples
unfolding tokens_at some first gap_of is_blank front is_digit is_capital is_letter is_name run number is_int spelt named word_of header_of further_header quoted at fixed sign_of bytes same
examples =
    record {
      empty = refl;
      zero_word = refl;
      zeros = refl;
      largest = refl;
      too_large = refl;
      stray = refl;
      header_here = refl;
      one_word = refl;
      fixed_word = refl;
      nested = refl;
      opens_only = refl;
      string_here = refl;
      open_string = refl;
      alias_here = refl;
      above = refl;
      form_feed = refl;
    }
