-- Which token of a label is admitted, one token at a time, behind the label's `[` (docs/RULES.md, "The Hanoi format", the faulty token). That this is the
-- grammar of Label.antt is proved in proofs/. A label is read as its set of valuations: valuation v, of at most 6 propositions, is mark v of a set of 64.
-- Assumes nothing.
use Rattle.std.specs.Prelude.{Bool, true, false, not, cond, List, [], ◌∷◌, ℕ, ◌-◌, ◌^◌, ltb, length, get_or}
use Rattle.std.specs.Int.Bits.{bit_and, bit_or, bit_xor}
use Rattle.hoa_tokens.specs.declared.Word.{Word}
use Rattle.hoa_tokens.specs.declared.Word.TheVariants as word_is
use Rattle.hoa_tokens.specs.declared.Sign.{Sign}
use Rattle.hoa_tokens.specs.declared.Sign.TheVariants as sign_is
use Rattle.hoa_tokens.specs.Token.{Token, int, word, header, str, aname, sign, body, end, abort, finish, bad}
use Rattle.hoa_tokens.specs.Stream.{Placed}
use Rattle.hoa_label.specs.declared.Wanted.{Wanted}
use Rattle.hoa_label.specs.declared.Wanted.TheVariants as wanted_is
use Rattle.hoa_label.specs.declared.Behind.{Behind}
use Rattle.hoa_label.specs.declared.Behind.TheVariants as behind_is
use Rattle.hoa_label.specs.Label.{most_levels}

-- ---- sets of valuations

-- all 64 valuations
unfoldable pub full : ℕ
full = 2 ^ 64 - 1

-- for each proposition the valuations in which it is true: v is one for proposition i if bit i of v is 1
abbrev pub prop_sets : List ℕ
prop_sets =
    0xAAAAAAAAAAAAAAAA
    ∷ 0xCCCCCCCCCCCCCCCC
    ∷ 0xF0F0F0F0F0F0F0F0
    ∷ 0xFF00FF00FF00FF00
    ∷ 0xFFFF0000FFFF0000
    ∷ 0xFFFFFFFF00000000
    ∷ []

-- none from the seventh proposition on
unfoldable pub prop_set : ℕ → ℕ
prop_set i = get_or prop_sets i 0

-- the set, or the valuations outside it
abbrev pub turned : Bool → ℕ → ℕ
turned true x = bit_xor full x
turned false x = x

-- ---- where a label stands

-- how far a level of brackets is read
pub record Frame : Type 0 where
  -- the valuations of the conjunctions that are finished
  pub ors : ℕ
  -- the valuations of the factors so far in this one
  pub ands : ℕ
  -- whether the next factor is negated
  pub flipped : Bool

-- a frame by its parts
abbrev pub frame : ℕ → ℕ → Bool → Frame
frame o c n = record { ors = o; ands = c; flipped = n }

-- a level that begins
abbrev pub fresh : Frame
fresh = frame 0 full false

-- a factor is wanted, or one is behind; the level that is read, and the levels outside it, the innermost first
pub data LabelState : Type 0 where
  wants : Frame → List Frame → LabelState
  Has : ℕ → ℕ → List Frame → LabelState

-- behind the `[`
abbrev pub label_begin : LabelState
label_begin = wants fresh []

-- behind a factor with these valuations
abbrev pub joined : Frame → ℕ → List Frame → LabelState
joined f x fs = Has f.ors (bit_and f.ands (turned f.flipped x)) fs

-- ---- what a token is

-- where a factor is wanted
abbrev pub wanted_word : Word → Wanted
wanted_word word_is.True = wanted_is.Set full
wanted_word word_is.False = wanted_is.Set 0
wanted_word word_is.V1 = wanted_is.Wrong 40
wanted_word word_is.Inf = wanted_is.Wrong 40
wanted_word word_is.Fin = wanted_is.Wrong 40
wanted_word word_is.Other = wanted_is.Wrong 40

-- a mark, with room for one more level or not
abbrev pub wanted_sign : Bool → Sign → Wanted
wanted_sign room sign_is.ParenLeft = cond room wanted_is.Deeper (wanted_is.Wrong 42)
wanted_sign room sign_is.Not = wanted_is.Not
wanted_sign room sign_is.ParenRight = wanted_is.Wrong 40
wanted_sign room sign_is.BracketLeft = wanted_is.Wrong 40
wanted_sign room sign_is.BracketRight = wanted_is.Wrong 40
wanted_sign room sign_is.BraceLeft = wanted_is.Wrong 40
wanted_sign room sign_is.BraceRight = wanted_is.Wrong 40
wanted_sign room sign_is.And = wanted_is.Wrong 40
wanted_sign room sign_is.Or = wanted_is.Wrong 40

-- with a propositions, and room for one more level or not
unfoldable pub wanted : ℕ → Bool → Token → Wanted
wanted a room (int i) = cond (ltb i a) (wanted_is.Set (prop_set i)) (wanted_is.Wrong 41)
wanted a room (word w) = wanted_word w
wanted a room aname = wanted_is.Wrong 41
wanted a room (sign s) = wanted_sign room s
wanted a room abort = wanted_is.Wrong 41
wanted a room (header h) = wanted_is.Wrong 40
wanted a room (str bs) = wanted_is.Wrong 40
wanted a room body = wanted_is.Wrong 40
wanted a room end = wanted_is.Wrong 40
wanted a room finish = wanted_is.Wrong 40
wanted a room bad = wanted_is.Wrong 40

-- behind a factor: `)` shuts a level, `]` the label, which is outermost
abbrev pub behind_sign : Bool → Sign → Behind
behind_sign outermost sign_is.And = behind_is.And
behind_sign outermost sign_is.Or = behind_is.Or
behind_sign outermost sign_is.ParenRight = cond outermost (behind_is.Wrong 40) behind_is.Shut
behind_sign outermost sign_is.BracketRight = cond outermost behind_is.Shut (behind_is.Wrong 40)
behind_sign outermost sign_is.ParenLeft = behind_is.Wrong 40
behind_sign outermost sign_is.BracketLeft = behind_is.Wrong 40
behind_sign outermost sign_is.BraceLeft = behind_is.Wrong 40
behind_sign outermost sign_is.BraceRight = behind_is.Wrong 40
behind_sign outermost sign_is.Not = behind_is.Wrong 40

-- a token behind a factor
unfoldable pub behind : Bool → Token → Behind
behind outermost (sign s) = behind_sign outermost s
behind outermost abort = behind_is.Wrong 41
behind outermost (int i) = behind_is.Wrong 40
behind outermost (word w) = behind_is.Wrong 40
behind outermost aname = behind_is.Wrong 40
behind outermost (header h) = behind_is.Wrong 40
behind outermost (str bs) = behind_is.Wrong 40
behind outermost body = behind_is.Wrong 40
behind outermost end = behind_is.Wrong 40
behind outermost finish = behind_is.Wrong 40
behind outermost bad = behind_is.Wrong 40

-- ---- one token

-- what a token does
pub data LabelStep : Type 0 where
  -- the label goes on
  go : LabelState → LabelStep
  -- the label is shut, with this set of valuations
  shut : ℕ → LabelStep
  -- the token is faulty, with this number
  wrong : ℕ → LabelStep

-- what a token does where a factor is wanted
abbrev pub on_wanted : Frame → List Frame → Wanted → LabelStep
on_wanted f fs (wanted_is.Set x) = go (joined f x fs)
on_wanted f fs wanted_is.Not = go (wants (frame f.ors f.ands (not f.flipped)) fs)
on_wanted f fs wanted_is.Deeper = go (wants fresh (f ∷ fs))
on_wanted f fs (wanted_is.Wrong n) = wrong n

-- the level with this set is shut
abbrev pub shut_level : ℕ → List Frame → LabelStep
shut_level x [] = shut x
shut_level x (f ∷ fs) = go (joined f x fs)

-- what a token does behind a factor
abbrev pub on_behind : ℕ → ℕ → List Frame → Behind → LabelStep
on_behind o c fs behind_is.And = go (wants (frame o c false) fs)
on_behind o c fs behind_is.Or = go (wants (frame (bit_or o c) full false) fs)
on_behind o c fs behind_is.Shut = shut_level (bit_or o c) fs
on_behind o c fs (behind_is.Wrong n) = wrong n

-- whether no level is outside
abbrev pub is_outermost : List Frame → Bool
is_outermost [] = true
is_outermost (f ∷ fs) = false

-- brackets may nest `levels` deep, there are a propositions
unfoldable pub step_within : ℕ → ℕ → LabelState → Token → LabelStep
step_within levels a (wants f fs) t = on_wanted f fs (wanted a (ltb (length fs) levels) t)
step_within levels a (Has o c fs) t = on_behind o c fs (behind (is_outermost fs) t)

-- with the levels that are allowed
unfoldable pub label_step : ℕ → LabelState → Token → LabelStep
label_step a s t = step_within most_levels a s t

-- ---- tokens without their places

-- what tokens do
pub data LabelWalk : Type 0 where
  -- all tokens are admitted, and the label is not shut
  going : LabelState → LabelWalk
  -- the set of valuations, and the tokens behind `]`
  closed : ℕ → List Token → LabelWalk
  -- a token is faulty, with this number
  faulty : ℕ → LabelWalk

-- behind a step the tokens that are left decide
abbrev pub walk_by : LabelStep → List Token → (LabelState → LabelWalk) → LabelWalk
walk_by (go s) ts more = more s
walk_by (shut x) ts more = closed x ts
walk_by (wrong n) ts more = faulty n

-- the first token that is not admitted, or that shuts the label, decides
unfoldable pub walk_within : ℕ → ℕ → LabelState → List Token → LabelWalk
walk_within levels a s [] = going s
walk_within levels a s (t ∷ ts) = walk_by (step_within levels a s t) ts (λ u. walk_within levels a u ts)

-- ---- the tokens of a text

-- how a label in a text ends
pub data LabelEnd : Type 0 where
  -- the set of valuations, and the tokens behind `]`
  shut_at : ℕ → List Placed → LabelEnd
  -- the number and the place
  wrong_at : ℕ → ℕ → LabelEnd
  -- no token is left
  cut : LabelEnd

-- behind a step at a place the tokens that are left decide
abbrev pub end_by : LabelStep → ℕ → List Placed → (LabelState → LabelEnd) → LabelEnd
end_by (go s) place ps more = more s
end_by (shut x) place ps more = shut_at x ps
end_by (wrong n) place ps more = wrong_at n place

-- the first token that is not admitted, or that shuts the label, decides
unfoldable pub label_run : ℕ → LabelState → List Placed → LabelEnd
label_run a s [] = cut
label_run a s (p ∷ ps) = end_by (label_step a s p.token) p.place ps (λ t. label_run a t ps)

-- behind a step whose token ends at `next`
abbrev pub next_by : LabelStep → ℕ → (LabelState → ℕ) → ℕ
next_by (go s) next more = more s
next_by (shut x) next more = next
next_by (wrong n) next more = 0

-- the byte behind the token that shuts the label; 0 where none does
unfoldable pub label_next : ℕ → LabelState → List Placed → ℕ
label_next a s [] = 0
label_next a s (p ∷ ps) = next_by (label_step a s p.token) p.next (λ t. label_next a t ps)
