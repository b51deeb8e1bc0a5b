-- What the functions that read a factor and a level of brackets give, for every list of levels outside them. Assumes nothing.
use Rattle.std.specs.Prelude.{Result, Ok, Err, Bool, false, List, ◌≡◌, ℕ, length}
use Rattle.std.specs.Int.Bits.{bit_and}
use Rattle.hoa_tokens.specs.declared.BadToken.{BadToken}
use Rattle.hoa_tokens.specs.Stream.{Placed, tokens_at}
use Rattle.hoa_label.specs.declared.LabelRead.{LabelRead}
use Rattle.hoa_label.specs.Labels.{
  turned,
  Frame,
  frame,
  fresh,
  LabelState,
  wants,
  Has,
  LabelStep,
  go,
  shut,
  wrong,
  shut_level,
  LabelEnd,
  shut_at,
  wrong_at,
  label_run,
  label_next,
}
use Rattle.hoa_label.specs.Reading.{shut_to, Onward}

-- how a run ends, and the byte behind the token that shuts the label
abbrev pub Stop : Type 0
Stop = LabelEnd × ℕ

-- the run from a place of the text on
abbrev pub stop_from : List ℕ → ℕ → ℕ → LabelState → Stop
stop_from text a at s = (label_run a s (tokens_at text at), label_next a s (tokens_at text at))

-- a token at a place, with the byte behind it and the tokens behind it
abbrev pub stop_by : LabelStep → ℕ → ℕ → List Placed → (LabelState → Stop) → Stop
stop_by (go s) place next ps more = more s
stop_by (shut x) place next ps more = (shut_at x ps, next)
stop_by (wrong n) place next ps more = (wrong_at n place, 0)

-- behind a factor that is read, of a level with the sets o and c
abbrev pub factor_stop : List ℕ → ℕ → ℕ → ℕ → List Frame → Result LabelRead BadToken → Stop
factor_stop text a o c fs (Ok r) = stop_from text a r.next (Has o (bit_and c r.set) fs)
factor_stop text a o c fs (Err e) = (wrong_at e.number e.place, 0)

-- r is what the tokens give where a factor is wanted, so many levels deep
pub record FactorAt (text : List ℕ) (at a depth : ℕ) (r : Result LabelRead BadToken) : Type 0 where
  pub is : (o c : ℕ) (fs : List Frame) → length fs ≡ depth → stop_from text a at (wants (frame o c false) fs) ≡ factor_stop text a o c fs r
  pub onward : Onward text at r

-- a level that is read as a factor, negated or not
abbrev pub flipped_read : Bool → Result LabelRead BadToken → Result LabelRead BadToken
flipped_read n (Ok r) = shut_to (turned n r.set) r.next
flipped_read n (Err e) = Err e

-- behind a level that is read
abbrev pub level_stop : List ℕ → ℕ → List Frame → Result LabelRead BadToken → Stop
level_stop text a fs (Ok r) = stop_by (shut_level r.set fs) 0 r.next (tokens_at text r.next) (stop_from text a r.next)
level_stop text a fs (Err e) = (wrong_at e.number e.place, 0)

-- r is what the tokens give where a level begins, so many levels deep
pub record LevelAt (text : List ℕ) (at a depth : ℕ) (r : Result LabelRead BadToken) : Type 0 where
  pub is : (fs : List Frame) → length fs ≡ depth → stop_from text a at (wants fresh fs) ≡ level_stop text a fs r
  pub onward : Onward text at r
