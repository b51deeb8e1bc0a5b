-- The token that may stand behind an item: one that begins another, or `--BODY--`. Assumes nothing.
use mathlib.Core.List.{List, ◌∷◌}
use mathlib.Core.Path.{◌≡◌, ap}
use Rattle.hoa_tokens.specs.declared.Header.{Header}
use Rattle.hoa_tokens.specs.Token.{Token, header, body}
use Rattle.hoa_value.specs.declared.Head.{Head}
use Rattle.hoa_value.specs.declared.Piece.TheVariants as piece_is
use Rattle.hoa_value.specs.Heading.{HeadState, HeadStep, piece_of, head_step}
use Rattle.hoa_grammar.specs.Walk.{Walk, walk_by, walk}

abbrev pub HeadWalk : Type 0
HeadWalk = Walk HeadState Head

-- a token that may begin an item, or `--BODY--`
pub data Opens : Token → Type 0 where
  opens_item : (k : Header) → piece_of (header k) ≡ piece_is.Item k → Opens (header k)
  opens_body : Opens body

-- the same step, and so the same walk
pub same_step : (s u : HeadState) (t : Token) (rest : List Token) → head_step s t ≡ head_step u t → walk head_step (t ∷ rest) s ≡ walk head_step (t ∷ rest) u
unfolding walk
same_step s u t rest e = ap (λ (x : HeadStep). walk_by x rest (λ v. walk head_step rest v)) e
