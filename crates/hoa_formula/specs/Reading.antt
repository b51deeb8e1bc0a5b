-- What `read_formula` promises (docs/RULES.md, "The Hanoi format"). Assumes nothing.
use Rattle.std.specs.Prelude.{List, ◌≡◌, ℕ, ◌≤◌, length, Result, Ok, Err}
use Rattle.table.specs.declared.Acceptance.{Acceptance}
use Rattle.table.specs.declared.Acceptance.TheVariants as acceptance
use Rattle.hoa_tokens.specs.Stream.{tokens_at}
use Rattle.hoa_tokens.specs.declared.BadToken.{BadToken}
use Rattle.hoa_formula.specs.declared.FormulaRead.{FormulaRead}
use Rattle.hoa_formula.specs.declared.FormulaRead.TheVariants as found_is
use Rattle.hoa_standard.specs.Standard.{standard, short, no_needs}
use Rattle.hoa_standard.specs.Formulas.{FormulaEnd, over_at, wrong_at, formula_begin, formula_run}

-- what is found in a text
abbrev pub found_says : List ℕ → Result FormulaRead BadToken → FormulaEnd
found_says text (Ok (found_is.Standard condition needs next)) = over_at (standard condition needs) (tokens_at text next)
found_says text (Ok (found_is.Short next)) = over_at short (tokens_at text next)
found_says text (Err bad) = wrong_at bad.number bad.place

-- where the reader stopped: where the token behind is read again, or the refusal's place
abbrev pub found_place : Result FormulaRead BadToken → ℕ
found_place (Ok (found_is.Standard condition needs next)) = next
found_place (Ok (found_is.Short next)) = next
found_place (Err bad) = bad.place

-- "0 for other kinds"
abbrev pub AcceptanceNeeds : Acceptance → List ℕ → Type 0
AcceptanceNeeds (acceptance.Buchi k) needs = needs ≡ no_needs
AcceptanceNeeds (acceptance.Streett p) needs = needs ≡ no_needs
AcceptanceNeeds (acceptance.Rabin p) needs = length needs ≡ 8

abbrev pub FoundNeeds : Result FormulaRead BadToken → Type 0
FoundNeeds (Ok (found_is.Standard condition needs next)) = AcceptanceNeeds condition needs
FoundNeeds (Ok (found_is.Short next)) = Unit {0}
FoundNeeds (Err bad) = Unit {0}

-- the formula with c marks that begins at a place of the text
pub record FormulaAt (text : List ℕ) (at c : ℕ) (r : Result FormulaRead BadToken) : Type 0 where
  pub is : formula_run c (formula_begin c) (tokens_at text at) ≡ found_says text r
  pub behind_at : at ≤ found_place r
  pub within : at ≤ length text → found_place r ≤ length text
  pub needs : FoundNeeds r
