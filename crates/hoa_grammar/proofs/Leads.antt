-- Tokens that lead through a formula, and what they come to. Assumes nothing.
use mathlib.Core.List.{List, ◌∷◌}
use mathlib.Core.Path.{◌≡◌}
use Prim.Native.Nat.{ℕ, ◌≤◌}
use Rattle.table.specs.declared.Acceptance.{Acceptance}
use Rattle.hoa_tokens.specs.Token.{Token}
use Rattle.hoa_formula.specs.Cond.{Cond, cond_text}
use Rattle.hoa_standard.specs.Standard.{FormulaMeaning, standard, most_pairs}
use Rattle.hoa_standard.specs.Formulas as formula
use Rattle.hoa_standard.specs.Formulas.{FormulaState, formula_begin, formula_step}
use Rattle.hoa_grammar.specs.Subset.{StandardAs, pairs_in}

-- the tokens lead from a state of a formula to its end, with this meaning, and these are left
pub data Leads (c : ℕ) : FormulaState → List Token → FormulaMeaning → List Token → Type 0 where
  ends : {s : FormulaState} {t : Token} {ts : List Token} {m : FormulaMeaning} → formula_step c s t ≡ formula.over m → Leads c s (t ∷ ts) m (t ∷ ts)
  steps : {s u : FormulaState} {t : Token} {ts rest : List Token} {m : FormulaMeaning} → formula_step c s t ≡ formula.go u → Leads c u ts m rest → Leads c s (t ∷ ts) m rest

-- the tokens are a standard formula with this meaning, and then `rest`
pub record FormulaRead (c : ℕ) (ts rest : List Token) (condition : Acceptance) (needs : List ℕ) : Type 0 where
  pub cond : Cond
  pub text : ts ≡ cond_text cond rest
  pub means : StandardAs (record { marks = c; cond = cond }) condition needs
  pub few : pairs_in condition ≤ most_pairs

-- what the crate `hoa_formula` knows: tokens that lead to the end of a formula are one
abbrev pub FormulaSound : Type 0
FormulaSound =
    (c : ℕ) (ts rest : List Token) (condition : Acceptance) (needs : List ℕ)
    → Leads c (formula_begin c) ts (standard condition needs) rest → FormulaRead c ts rest condition needs
