-- The tokens of a text with their places (docs/RULES.md, "The Hanoi format", tokens). Assumes nothing.
use Rattle.std.specs.Prelude.{Result, Err, cond, ◌&&◌, List, [], ◌∷◌, ◌≡◌, ℕ, zero, suc, ◌+◌, ◌-◌, ◌≤◌, eqb, length, take, drop}
use Rattle.hoa_tokens.specs.declared.Kind.{Kind}
use Rattle.hoa_tokens.specs.declared.Kind.TheVariants as kind_is
use Rattle.hoa_tokens.specs.declared.Found.{Found}
use Rattle.hoa_tokens.specs.declared.BadToken.{BadToken}
use Rattle.hoa_tokens.specs.Bytes.{is_blank}
use Rattle.hoa_tokens.specs.Token.{Token, int, word, header, str, aname, sign, body, end, abort, finish, bad, front}

-- ---- what stands between tokens

-- blanks and comments in front of bytes
pub data Gap : Type 0 where
  -- so many bytes of blanks and comments stand in front
  gap : ℕ → Gap
  -- behind so many bytes a comment begins that is never closed
  unclosed : ℕ → Gap
  -- the bytes begin in a comment that is never closed
  lost : Gap

-- so many more bytes stand in front
abbrev pub behind : ℕ → Gap → Gap
behind k (gap n) = gap (k + n)
behind k (unclosed n) = unclosed (k + n)
behind k lost = lost

-- a comment's `/*` stands in front
abbrev pub opened : Gap → Gap
opened (gap n) = gap (2 + n)
opened (unclosed n) = unclosed (2 + n)
opened lost = unclosed 0

-- "blanks (space, tab, newline, carriage return) and comments `/* .. */`, which nest, with any bytes inside"; so many comments are open in front
unfoldable pub gap_of : List ℕ → ℕ → Gap
gap_of [] zero = gap 0
gap_of [] (suc d) = lost
gap_of (b ∷ []) zero = cond (is_blank b) (gap 1) (gap 0)
gap_of (b ∷ []) (suc d) = lost
gap_of (b ∷ (c ∷ bs)) zero =
    cond (is_blank b) (behind 1 (gap_of (c ∷ bs) zero)) (cond (eqb b 47 && eqb c 42) (opened (gap_of bs (suc zero))) (gap 0))
gap_of (b ∷ (c ∷ bs)) (suc d) =
    cond
    (eqb b 47 && eqb c 42)
    (behind 2 (gap_of bs (suc (suc d))))
    (cond (eqb b 42 && eqb c 47) (behind 2 (gap_of bs d)) (behind 1 (gap_of (c ∷ bs) (suc d))))

-- ---- the tokens with their places

-- "A token's place is its first byte, from 0"; `next` is the byte behind it
pub record Placed : Type 0 where
  pub place : ℕ
  pub next : ℕ
  pub token : Token

-- a token and its places
abbrev pub placed : ℕ → ℕ → Token → Placed
placed p q t = record { place = p; next = q; token = t }

-- what stands behind a gap
abbrev pub first_of : ℕ → List ℕ → Gap → Placed
first_of at bs (gap n) = placed (at + n) (at + n + (front (drop n bs)).size) (front (drop n bs)).token
first_of at bs (unclosed n) = placed (at + n) (at + length bs) bad
first_of at bs lost = placed at (at + length bs) bad

-- the first token of the bytes, which stand from `at` on
unfoldable pub first : ℕ → List ℕ → Placed
first at bs = first_of at bs (gap_of bs zero)

-- nothing follows the text's end
abbrev pub unless_finished : Token → List Placed → List Placed
unless_finished finish ps = []
unless_finished (int n) ps = ps
unless_finished (word w) ps = ps
unless_finished (header h) ps = ps
unless_finished (str bs) ps = ps
unless_finished aname ps = ps
unless_finished (sign s) ps = ps
unless_finished body ps = ps
unless_finished end ps = ps
unless_finished abort ps = ps
unless_finished bad ps = ps

-- at most so many tokens of the text, from a place on
unfoldable pub some : ℕ → List ℕ → ℕ → List Placed
some zero text at = []
some (suc k) text at =
    let p = first at (drop at text) in
    p ∷ unless_finished p.token (some k text p.next)

-- the tokens of the text from a place on, up to its end; each but the last takes a byte, so there are no more than this
unfoldable pub tokens_at : List ℕ → ℕ → List Placed
tokens_at text at = some (suc (length text)) text at

-- ---- what is found at a place

-- the bytes of the text from one place up to another
abbrev pub part : List ℕ → ℕ → ℕ → List ℕ
part text a b = take (b - a) (drop a text)

-- the token that is found; a string's quotes are its first and last byte
abbrev pub token_of : List ℕ → ℕ → ℕ → Kind → Token
token_of text a b (kind_is.Int n) = int n
token_of text a b (kind_is.Word w) = word w
token_of text a b (kind_is.Header h) = header h
token_of text a b kind_is.Quoted = str (part text (a + 1) (b - 1))
token_of text a b kind_is.Alias = aname
token_of text a b (kind_is.Sign s) = sign s
token_of text a b kind_is.Body = body
token_of text a b kind_is.End = end
token_of text a b kind_is.Abort = abort
token_of text a b kind_is.Finish = finish
token_of text a b kind_is.Bad = bad

-- f is the first token of the text from `at` on
pub record TokenAt (text : List ℕ) (at : ℕ) (f : Found) : Type 0 where
  pub is : first at (drop at text) ≡ placed f.first f.next (token_of text f.first f.next f.kind)
  pub behind_at : at ≤ f.first
  pub behind_first : f.first ≤ f.next
  pub within : at ≤ length text → f.next ≤ length text

-- ---- refusals

-- a refusal with a fault's number, of the token at a place
abbrev pub bad_at : {T : Type 0} → ℕ → ℕ → Result T BadToken
bad_at n p = Err (record { number = n; place = p })
