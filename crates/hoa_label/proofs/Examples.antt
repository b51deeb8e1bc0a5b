-- Examples of labels, from the bytes of a text to the set, computed from the definitions; a label and what it says by the grammar. Assumes nothing.
use mathlib.Core.Bool.{true, false}
use mathlib.Core.List.{List, ◌∷◌}
use mathlib.Core.Path.{◌≡◌, refl}
use Prim.Native.Nat.{ℕ}
use lib.ListN.{replicate}
use Rattle.std.specs.Prelude.{Result}
use Rattle.hoa_tokens.specs.declared.Sign.TheVariants as sign_is
use Rattle.hoa_tokens.specs.Bytes.{bytes, same, is_digit, is_capital, is_letter, is_name, is_blank, run}
use Rattle.hoa_tokens.specs.Token.{sign, word_of, further_header, header_of, spelt, is_int, number, named, quoted, at, fixed, sign_of, front}
use Rattle.hoa_tokens.specs.Stream.{gap_of, first, some, tokens_at, bad_at}
use Rattle.hoa_tokens.specs.declared.BadToken.{BadToken}
use Rattle.hoa_label.specs.declared.LabelRead.{LabelRead}
use Rattle.hoa_label.specs.Label.{Label, conj, or, factor, and, prop, negated, label_text, label_holds, valuation}
use Rattle.hoa_label.specs.Labels.{full, prop_set, label_begin, wanted, behind, step_within, label_step, walk_within, label_run}
use Rattle.hoa_label.specs.Reading.{shut_to, label_end, tokens_of}

-- the text, a label behind its `[`, is read so with a propositions
abbrev Gives : ℕ → List ℕ → Result LabelRead BadToken → Type 0
Gives a text r = label_run a label_begin (tokens_at text 0) ≡ label_end text r

-- `!0&1|2` by the grammar: `!` binds closest, then `&`, then `|`
abbrev mixed : Label
mixed = or (and (negated (prop 0)) (factor (prop 1))) (conj (factor (prop 2)))

-- the examples
pub record Examples : Type 0 where
  -- the set of `!0&1|2`, and the label whose tokens these are
  pub mixed_read : Gives 3 (bytes "!0&1|2] 5") (shut_to 17651002172490708212 7)
  pub mixed_is : tokens_of (tokens_at (bytes "!0&1|2]") 0) ≡ label_text mixed (sign sign_is.BracketRight ∷ tokens_of (tokens_at (bytes "!0&1|2]") 7))
  -- with 1 alone it holds, with 0 and 1 it does not, with all three it does
  pub holds_at_2 : label_holds mixed (valuation 2) ≡ true
  pub fails_at_3 : label_holds mixed (valuation 3) ≡ false
  pub holds_at_7 : label_holds mixed (valuation 7) ≡ true
  pub bracketed_truth : Gives 0 (bytes "(t)]") (shut_to 18446744073709551615 4)
  pub falsity_read : Gives 0 (bytes "f ]") (shut_to 0 3)
  pub twice_negated : Gives 1 (bytes "!!0]") (shut_to 12297829382473034410 4)
  pub nested_read : Gives 3 (bytes "!(0|1)&((2))]") (shut_to 1157442765409226768 13)
  pub closest : Gives 3 (bytes "0 | 1 & 2]") (shut_to 16927600444109941482 10)
  -- "INT in a label: not below a", "ANAME in a label", "`--ABORT--`": always 41
  pub above : Gives 3 (bytes "0&3]") (bad_at 41 2)
  pub alias_here : Gives 3 (bytes "@x]") (bad_at 41 0)
  pub aborted : Gives 3 (bytes "0 --ABORT--") (bad_at 41 2)
  -- what no label begins with, an alias behind a factor too
  pub not_opened : Gives 3 (bytes "0)") (bad_at 40 1)
  pub not_shut : Gives 3 (bytes "(0]") (bad_at 40 2)
  pub no_mark : Gives 3 (bytes "0 9]") (bad_at 40 2)
  pub alias_behind : Gives 3 (bytes "0@x]") (bad_at 40 1)
  pub empty : Gives 3 (bytes "]") (bad_at 40 0)
  pub cut_off : Gives 3 (bytes "0&") (bad_at 40 2)
  -- brackets nest 256 deep, and no deeper
  pub too_deep : Gives 0 (replicate 257 40) (bad_at 42 256)
  pub deep_enough : Gives 0 (replicate 256 40) (bad_at 40 256)

-- they hold by computing
pub examples : Examples
unfolding tokens_at some first gap_of is_blank front is_digit is_capital is_letter is_name run number is_int spelt named word_of header_of further_header quoted at fixed sign_of
    bytes same full prop_set wanted behind step_within label_step walk_within label_run label_text label_holds valuation
examples =
    record {
      mixed_read = refl;
      mixed_is = refl;
      holds_at_2 = refl;
      fails_at_3 = refl;
      holds_at_7 = refl;
      bracketed_truth = refl;
      falsity_read = refl;
      twice_negated = refl;
      nested_read = refl;
      closest = refl;
      above = refl;
      alias_here = refl;
      aborted = refl;
      not_opened = refl;
      not_shut = refl;
      no_mark = refl;
      alias_behind = refl;
      empty = refl;
      cut_off = refl;
      too_deep = refl;
      deep_enough = refl;
    }
