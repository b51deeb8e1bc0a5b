-- What a token is where the header stands, and whether it belongs to what stands before it. Assumes nothing.
use Rattle.std.specs.Prelude.{◌≡◌, Bool, true, false, List, ◌∷◌, ℕ, ◌+◌, ◌-◌, ◌≤◌, length}
use Rattle.hoa_tokens.specs.declared.BadToken.{BadToken}
use Rattle.hoa_tokens.specs.declared.Kind.{Kind}
use Rattle.hoa_tokens.specs.declared.Kind.TheVariants as kind_is
use Rattle.hoa_tokens.specs.Token.{Token, str}
use Rattle.hoa_tokens.specs.Stream.{Placed, placed, tokens_at, part}
use Rattle.hoa_step.specs.Wanted.{Next}
use Rattle.hoa_value.specs.declared.Piece.{Piece}
use Rattle.hoa_value.specs.declared.Piece.TheVariants as piece_is
use Rattle.hoa_value.specs.declared.token.Spot.{Spot}
use Rattle.hoa_value.specs.Heading.{piece_header, piece_sign, piece_of}

-- what a token of this kind is
abbrev pub piece_kind : Kind → Piece
piece_kind (kind_is.Header h) = piece_header h
piece_kind (kind_is.Sign s) = piece_sign s
piece_kind kind_is.Body = piece_is.Body
piece_kind (kind_is.Word w) = piece_is.Word
piece_kind (kind_is.Int n) = piece_is.Int
piece_kind kind_is.Quoted = piece_is.Text
piece_kind kind_is.Abort = piece_is.Wrong 41
piece_kind kind_is.Alias = piece_is.Wrong 40
piece_kind kind_is.End = piece_is.Wrong 40
piece_kind kind_is.Finish = piece_is.Wrong 40
piece_kind kind_is.Bad = piece_is.Wrong 40

-- the number of a token that may not stand here: this one for an item and `--BODY--`
abbrev pub misplaced_number : ℕ → Piece → ℕ
misplaced_number item (piece_is.Item k) = item
misplaced_number item piece_is.Body = item
misplaced_number item piece_is.Word = 40
misplaced_number item piece_is.Int = 40
misplaced_number item piece_is.Text = 40
misplaced_number item piece_is.Join = 40
misplaced_number item (piece_is.Wrong n) = n

-- its refusal
abbrev pub misplaced_token : ℕ → Spot → BadToken
misplaced_token item spot = record { number = misplaced_number item spot.piece; place = spot.first }

-- `&`
abbrev pub is_join : Piece → Bool
is_join piece_is.Join = true
is_join (piece_is.Item k) = false
is_join piece_is.Body = false
is_join piece_is.Word = false
is_join piece_is.Int = false
is_join piece_is.Text = false
is_join (piece_is.Wrong n) = false

-- a STRING
abbrev pub is_text : Piece → Bool
is_text piece_is.Text = true
is_text (piece_is.Item k) = false
is_text piece_is.Body = false
is_text piece_is.Word = false
is_text piece_is.Int = false
is_text piece_is.Join = false
is_text (piece_is.Wrong n) = false

-- a WORD
abbrev pub is_word : Piece → Bool
is_word piece_is.Word = true
is_word (piece_is.Item k) = false
is_word piece_is.Body = false
is_word piece_is.Int = false
is_word piece_is.Text = false
is_word piece_is.Join = false
is_word (piece_is.Wrong n) = false

-- a WORD, and an INT or a STRING if so said
abbrev pub is_hint : Bool → Bool → Piece → Bool
is_hint ints texts piece_is.Word = true
is_hint ints texts piece_is.Int = ints
is_hint ints texts piece_is.Text = texts
is_hint ints texts (piece_is.Item k) = false
is_hint ints texts piece_is.Body = false
is_hint ints texts piece_is.Join = false
is_hint ints texts (piece_is.Wrong n) = false

-- the token is admitted somewhere in a header, so that it is not the text's end
abbrev pub known : Piece → Bool
known (piece_is.Item k) = true
known piece_is.Body = true
known piece_is.Word = true
known piece_is.Int = true
known piece_is.Text = true
known piece_is.Join = true
known (piece_is.Wrong n) = false

-- the first token from `at` on
pub record Spotted (text : List ℕ) (at : ℕ) (r : Spot) : Type 0 where
  pub token : Token
  pub rest : List Placed
  pub is : tokens_at text at ≡ placed r.first r.next token ∷ rest
  pub piece : piece_of token ≡ r.piece
  -- the bytes of a STRING stand between its quotes
  pub quoted : r.piece ≡ piece_is.Text → token ≡ str (part text (r.first + 1) (r.next - 1))
  pub wide : r.piece ≡ piece_is.Text → r.first + 2 ≤ r.next
  -- the tokens behind it
  pub goes_on : known r.piece ≡ true → Next text at r.first r.next token
  pub within : at ≤ length text → r.first ≤ length text
