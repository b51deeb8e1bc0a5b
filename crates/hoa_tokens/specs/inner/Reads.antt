-- What the functions of the crate promise to each other. Assumes nothing.
use Rattle.std.specs.Prelude as given
use Rattle.std.specs.Prelude.{Result, Some, None, Ok, Err, Bool, cond, ◌&&◌, List, ◌≡◌, ℕ, zero, ◌+◌, ◌≤◌, ◌<◌, eqb, ltb, length, get_or, drop}
use denote.Ref.{Bor}
use Rattle.std.proofs.Math.Option.{Option, some, none}
use Rattle.hoa_tokens.specs.declared.Kind.{Kind}
use Rattle.hoa_tokens.specs.declared.Found.{Found}
use Rattle.hoa_tokens.specs.declared.gap.Spot.{Spot}
use Rattle.hoa_tokens.specs.Bytes.{run}
use Rattle.hoa_tokens.specs.Token.{Token, int, bad, Taken, int_limit, later, quoted}
use Rattle.hoa_tokens.specs.Stream.{Gap, gap, unclosed, lost, behind, gap_of, token_of}

-- ---- runs

-- r stands behind the bytes of the class from `at` on
pub record RunTo (class : ℕ → Bool) (text : List ℕ) (at r : ℕ) : Type 0 where
  pub place : r ≡ at + run class (drop at text)
  pub low : at ≤ r
  pub high : at ≤ length text → r ≤ length text

-- ---- names

-- a key that is lent, with what it stands for
abbrev pub lent_key : {A : Type 0} → Bor (List ℕ) × A → List ℕ × A
lent_key k = (k.0.now, k.1)

-- ---- kinds that say all of their token

-- whatever the text, the kind says the token
pub record Says (k : Kind) (t : Token) : Type 0 where
  pub says : (text : List ℕ) (a b : ℕ) → token_of text a b k ≡ t

-- the number, if it is below 2^31
abbrev pub of_value : ℕ → Token
of_value n = cond (ltb n int_limit) (int n) bad

-- ---- a token at a place

-- f stands at `at` and is the token t
pub record Reads (text : List ℕ) (at : ℕ) (f : Found) (t : Taken) : Type 0 where
  pub first : f.first ≡ at
  pub next : f.next ≡ at + t.size
  pub token : token_of text f.first f.next f.kind ≡ t.token

-- ---- strings

-- the closing quote's place, if there is one
abbrev pub quote_at : given.Option ℕ → Option ℕ
quote_at (Some i) = some i
quote_at None = none

-- the place of the first quote from `at` on that `\` does not take along
pub record QuoteAt (text : List ℕ) (at : ℕ) (q : given.Option ℕ) : Type 0 where
  pub is : later at (quoted (drop at text)) ≡ quote_at q

-- a byte of the text that is no quote
pub record Unquoted (text : List ℕ) (i : ℕ) : Type 0 where
  pub within : i < length text
  pub other : get_or text i 0 ≡ 34 → ⊥

-- from i, where no quote stands, the string goes on at r
pub record Past (text : List ℕ) (i r : ℕ) : Type 0 where
  pub goes : i < r
  pub within : r ≤ length text
  pub same : later i (quoted (drop i text)) ≡ later r (quoted (drop r text))

-- ---- gaps

-- two bytes stand at a place, one behind the other
abbrev pub stand : List ℕ → ℕ → ℕ → ℕ → Bool
stand text i a b = eqb (get_or text i 0) a && eqb (get_or text (i + 1) 0) b

-- the gap from a place of the text on, where so many comments are open, with its end as a place of the text
abbrev pub gap_from : List ℕ → ℕ → ℕ → Gap
gap_from text at depth = behind at (gap_of (drop at text) depth)

-- the gap that is ahead
abbrev pub ahead_gap : Result ℕ ℕ → Gap
ahead_gap (Ok i) = gap i
ahead_gap (Err i) = unclosed i

-- at a place in a comment, where so many are open
pub record Inside (text : List ℕ) (at depth : ℕ) : Type 0 where
  pub within : at < length text
  pub some : 0 < depth
  pub few : depth ≤ at + 1

-- the comment goes on at r
pub record Spotted (text : List ℕ) (at depth : ℕ) (r : Spot) : Type 0 where
  pub goes : at < r.at
  pub few : r.depth ≤ r.at + 1
  pub same : gap_from text at depth ≡ gap_from text r.at r.depth

-- how the gap goes on behind a comment
abbrev pub comment_gap : List ℕ → given.Option ℕ → Gap
comment_gap text (Some i) = gap_from text i zero
comment_gap text None = lost

-- a comment does not end before it begins
abbrev pub CommentLow : ℕ → given.Option ℕ → Type 0
CommentLow at (Some i) = at ≤ i
CommentLow at None = Unit

-- the comment that is open at `at` ends there
pub record CommentAt (text : List ℕ) (at : ℕ) (c : given.Option ℕ) : Type 0 where
  pub is : gap_from text at 1 ≡ comment_gap text c
  pub low : CommentLow at c

-- how the gap goes on behind `at`, or ends there
abbrev pub hop_gap : List ℕ → ℕ → Result (given.Option ℕ) ℕ → Gap
hop_gap text at (Ok (Some i)) = gap_from text i zero
hop_gap text at (Ok None) = gap at
hop_gap text at (Err i) = unclosed i

-- a byte is passed
abbrev pub HopLow : List ℕ → ℕ → Result (given.Option ℕ) ℕ → Type 0
HopLow text at (Ok (Some i)) = (at < i) × (at < length text)
HopLow text at (Ok None) = Unit
HopLow text at (Err i) = Unit

-- the gap from `at` on goes on there, or ends
pub record HopAt (text : List ℕ) (at : ℕ) (h : Result (given.Option ℕ) ℕ) : Type 0 where
  pub is : gap_from text at 0 ≡ hop_gap text at h
  pub low : HopLow text at h
