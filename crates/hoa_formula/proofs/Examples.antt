-- The rules' own examples of formulas (docs/RULES.md, "The Hanoi format"), computed from the definitions. Assumes nothing.
use mathlib.Core.Path.{◌≡◌, refl}
use mathlib.Core.List.{List, [], ◌∷◌}
use Prim.Native.Nat.{ℕ}
use Rattle.table.specs.declared.Acceptance.TheVariants as acceptance
use Rattle.hoa_tokens.specs.Bytes.{bytes, same, is_digit, is_capital, is_letter, is_name, is_blank, run}
use Rattle.hoa_tokens.specs.Token.{word_of, further_header, header_of, spelt, is_int, number, named, quoted, at, fixed, sign_of, front}
use Rattle.hoa_tokens.specs.Stream.{gap_of, first, tokens_at}
use Rattle.hoa_tokens.specs.Stream as stream
use Rattle.hoa_standard.specs.Standard.{FormulaMeaning, standard, short, no_needs, eight_needs}
use Rattle.hoa_standard.specs.Formulas.{FormulaEnd, over_at, wrong_at, cut, piece_of, meaning_of, formula_begin, free_step, formula_step, formula_run}

-- what a run says, the tokens behind left out
data Said : Type 0 where
  means : FormulaMeaning → Said
  refused : ℕ → ℕ → Said
  nothing : Said

abbrev said : FormulaEnd → Said
said (over_at m ps) = means m
said (wrong_at k p) = refused k p
said cut = nothing

abbrev Reads : ℕ → List ℕ → Said → Type 0
Reads c text s = said (formula_run c (formula_begin c) (tokens_at text 0)) ≡ s

record Examples : Type 0 where
  -- "`Inf(0)|..` 41 at `|`"
  inf_or : Reads 2 (bytes "Inf(0)|Inf(1)") (refused 41 6)
  -- "`Fin(0)&(Inf(1)|..` 41 at that `|`"
  or_in_need : Reads 4 (bytes "Fin(0)&(Inf(1)|Inf(2))") (refused 41 14)
  -- "`Inf(1)|Fin(0)` 41 at `1`"
  mark_out_of_order : Reads 2 (bytes "Inf(1)|Fin(0)") (refused 41 4)
  -- "`Fin(!0)` 41 at `!`"
  negated : Reads 1 (bytes "Fin(!0)") (refused 41 4)
  -- "`!Fin(0)` 40 at `!`"
  not_in_front : Reads 1 (bytes "!Fin(0)") (refused 40 0)
  -- "`Foo(0)` 41 at `Foo`"
  other_word : Reads 1 (bytes "Foo(0)") (refused 41 0)
  -- "brackets are never simply deleted (`Fin(0)|Inf(1)&Fin(2)|Inf(3)` is no Streett formula)"
  no_streett : Reads 4 (bytes "Fin(0)|Inf(1)&Fin(2)|Inf(3)") (refused 41 7)
  -- "So `Fin(0)` is Rabin with need 0, `Fin(0)&Inf(1)` Rabin with need 1"
  fin_alone : Reads 1 (bytes "Fin(0) ") (means (standard (acceptance.Rabin 1) no_needs))
  fin_inf : Reads 2 (bytes "Fin(0)&Inf(1) ") (means (standard (acceptance.Rabin 1) (1 ∷ 0 ∷ 0 ∷ 0 ∷ 0 ∷ 0 ∷ 0 ∷ 0 ∷ [])))
  -- Streett 1, with its bracket and without
  bare_pair : Reads 2 (bytes "Fin(0)|Inf(1) ") (means (standard (acceptance.Streett 1) no_needs))
  streett : Reads 4 (bytes "(Fin(0)|Inf(1))&(Fin(2)|Inf(3))") (means (standard (acceptance.Streett 2) no_needs))
  -- Rabin in any bracketing
  rabin : Reads 3 (bytes "((Fin(0))&Inf(1))|(Fin(2))") (means (standard (acceptance.Rabin 2) (1 ∷ 0 ∷ 0 ∷ 0 ∷ 0 ∷ 0 ∷ 0 ∷ 0 ∷ [])))
  -- "`t` Büchi 0, `f` Rabin 0"
  truth : Reads 0 (bytes "(t)") (means (standard (acceptance.Buchi 0) no_needs))
  falsity : Reads 0 (bytes "f --BODY--") (means (standard (acceptance.Rabin 0) no_needs))
  -- "token behind the formula: fewer than c atoms"
  too_few : Reads 3 (bytes "Inf(0)&Inf(1) States:") (means short)
  -- 42 at the `|` that would open pair 9; "41 (c atoms so far) comes before 42"
  ninth_pair : Reads 9 (bytes "Fin(0)|Fin(1)|Fin(2)|Fin(3)|Fin(4)|Fin(5)|Fin(6)|Fin(7)|Fin(8)") (refused 42 55)
  no_ninth_atom : Reads 8 (bytes "Fin(0)|Fin(1)|Fin(2)|Fin(3)|Fin(4)|Fin(5)|Fin(6)|Fin(7)|Fin(8)") (refused 41 55)
  -- an open bracket at the text's end is 40, `--ABORT--` 41
  open_end : Reads 1 (bytes "(Inf(0)") (refused 40 7)
  aborted : Reads 1 (bytes "(Inf(0) --ABORT--") (refused 41 8)

examples : Examples
unfolding tokens_at stream.some first gap_of is_blank front is_digit is_capital is_letter is_name run number is_int spelt named word_of header_of further_header quoted at fixed
    sign_of bytes same piece_of meaning_of eight_needs formula_begin free_step formula_step formula_run
examples =
    record {
      inf_or = refl;
      or_in_need = refl;
      mark_out_of_order = refl;
      negated = refl;
      not_in_front = refl;
      other_word = refl;
      no_streett = refl;
      fin_alone = refl;
      fin_inf = refl;
      bare_pair = refl;
      streett = refl;
      rabin = refl;
      truth = refl;
      falsity = refl;
      too_few = refl;
      ninth_pair = refl;
      no_ninth_atom = refl;
      open_end = refl;
      aborted = refl;
    }
