-- The rules' own examples of headers (docs/RULES.md, "The Hanoi format", the faulty token), computed from the definitions. Assumes nothing.
use mathlib.Core.Path.{◌≡◌, refl}
use mathlib.Core.List.{[], ◌∷◌}
use Rattle.table.specs.declared.Acceptance.TheVariants.{Buchi}
use Rattle.hoa_tokens.specs.Bytes.{bytes, same, is_digit, is_capital, is_letter, is_name, is_blank, run as ahead}
use Rattle.hoa_tokens.specs.Token.{finish, word_of, further_header, header_of, spelt, is_int, number, named, quoted, at, fixed, sign_of, front}
use Rattle.hoa_tokens.specs.Stream.{gap_of, placed, first, some, tokens_at}
use Rattle.hoa_standard.specs.Standard.{no_needs}
use Rattle.hoa_standard.specs.Formulas.{formula_begin, formula_step, free_step, meaning_of, piece_of as formula_piece}
use Rattle.hoa_step.specs.Machine.{done_at, wrong_at, run, wants_int, wants_text}
use Rattle.hoa_value.specs.Head.{blank, with_start, with_marks}
use Rattle.hoa_value.specs.Heading.{head_step, piece_of, on_opening, on_version, on_names}
use Rattle.hoa_head.specs.Headed.{head_end}

pub record Examples : Type 0 where
  -- another version is 41, no text at all is 40 at the text's end
  pub version : head_end (bytes "HOA: v2") ≡ wrong_at 41 5
  pub empty : head_end [] ≡ wrong_at 40 0
  -- "`States: 5` .. `Start: 300` 41 at `300`, and without `States:` 42 there"
  pub start_not_below : head_end (bytes "HOA: v1 States: 5 Start: 300") ≡ wrong_at 41 25
  pub start_above : head_end (bytes "HOA: v1 Start: 300") ≡ wrong_at 42 15
  -- "`&` behind it: always"
  pub joined : head_end (bytes "HOA: v1 Start: 0&1") ≡ wrong_at 41 16
  -- an item that may come once
  pub second_name : head_end (bytes "HOA: v1 name: \"a\" name:") ≡ wrong_at 41 18
  -- a name twice, and too few names: 41 where an item may stand, else 40
  pub name_twice : head_end (bytes "HOA: v1 AP: 2 \"a\" \"a\"") ≡ wrong_at 41 18
  pub too_few : head_end (bytes "HOA: v1 AP: 1 --BODY--") ≡ wrong_at 41 14
  pub too_few_astray : head_end (bytes "HOA: v1 AP: 1 t") ≡ wrong_at 40 14

pub examples : Examples
unfolding head_end run head_step piece_of on_opening on_version on_names wants_int wants_text tokens_at some first gap_of
    front number named quoted at fixed sign_of is_int spelt header_of further_header word_of ahead is_blank is_name is_letter is_capital is_digit same bytes
examples =
    record {
      version = refl;
      empty = refl;
      start_not_below = refl;
      start_above = refl;
      joined = refl;
      second_name = refl;
      name_twice = refl;
      too_few = refl;
      too_few_astray = refl;
    }

-- a whole header
pub whole : head_end (bytes "HOA: v1 Start: 0 Acceptance: 0 t --BODY--")
    ≡ done_at (with_marks 0 (Buchi 0) no_needs (with_start 0 blank)) (placed 41 41 finish ∷ [])
unfolding head_end run head_step piece_of on_opening on_version on_names wants_int wants_text tokens_at some first gap_of
    front number named quoted at fixed sign_of is_int spelt header_of further_header word_of ahead is_blank is_name is_letter is_capital is_digit same bytes
    formula_begin formula_step free_step meaning_of formula_piece
whole = refl
