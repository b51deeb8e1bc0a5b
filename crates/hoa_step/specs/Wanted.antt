-- What reading gives where an INT or a STRING is wanted. Assumes nothing.
use Rattle.std.specs.Prelude.{◌≡◌, Result, Ok, Err, List, ◌∷◌, ℕ, ◌≤◌, ◌<◌, length}
use Rattle.std.proofs.Math.Option.{Option, some, none}
use Rattle.hoa_tokens.specs.Token.{Token, int, word, header, str, aname, sign, body, end, abort, finish, bad}
use Rattle.hoa_tokens.specs.Stream.{Placed, placed, tokens_at}
use Rattle.hoa_tokens.specs.declared.BadToken.{BadToken}
use Rattle.hoa_step.specs.declared.IntAt.{IntAt}

-- a token of the text from `at` on, and the tokens behind it
pub record Next (text : List ℕ) (at p q : ℕ) (t : Token) : Type 0 where
  pub is : tokens_at text at ≡ placed p q t ∷ tokens_at text q
  pub behind_at : at ≤ p
  pub takes : p < q
  pub within : q ≤ length text

-- the number of a token that is no INT
unfoldable pub int_fault : Token → Option ℕ
int_fault (int i) = none
int_fault (word w) = some 40
int_fault (header h) = some 40
int_fault (str bs) = some 40
int_fault aname = some 40
int_fault (sign s) = some 40
int_fault body = some 40
int_fault end = some 40
int_fault abort = some 41
int_fault finish = some 40
int_fault bad = some 40

-- the number of a token that is no STRING
unfoldable pub text_fault : Token → Option ℕ
text_fault (str bs) = none
text_fault (int i) = some 40
text_fault (word w) = some 40
text_fault (header h) = some 40
text_fault aname = some 40
text_fault (sign s) = some 40
text_fault body = some 40
text_fault end = some 40
text_fault abort = some 41
text_fault finish = some 40
text_fault bad = some 40

-- the first token from `at` on stands at p and is faulty there
pub record Faulty (text : List ℕ) (at : ℕ) (fault : Token → Option ℕ) (n p : ℕ) : Type 0 where
  pub token : Token
  pub next : ℕ
  pub rest : List Placed
  pub is : tokens_at text at ≡ placed p next token ∷ rest
  pub faulty : fault token ≡ some n

abbrev pub IntReads : List ℕ → ℕ → Result IntAt BadToken → Type 0
IntReads text at (Ok i) = Next text at i.place i.next (int i.value)
IntReads text at (Err e) = Faulty text at int_fault e.number e.place

-- a STRING, with its bytes
pub record Quoted (text : List ℕ) (at q : ℕ) : Type 0 where
  pub place : ℕ
  pub bytes : List ℕ
  pub there : Next text at place q (str bytes)

abbrev pub TextReads : List ℕ → ℕ → Result ℕ BadToken → Type 0
TextReads text at (Ok q) = Quoted text at q
TextReads text at (Err e) = Faulty text at text_fault e.number e.place
