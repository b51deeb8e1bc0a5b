-- Runs of tokens through the admission, and where a formula stands complete (docs/RULES.md, "The Hanoi format", the faulty token). Assumes nothing.
use Rattle.std.specs.Prelude.{List, [], ◌∷◌, ◌++◌, ◌≡◌, ℕ}
use Rattle.hoa_tokens.specs.Token.{Token}
use Rattle.hoa_standard.specs.Standard.{FormulaMeaning, Std, IsStd, std_text}
use Rattle.hoa_standard.specs.Machines.{Behind}
use Rattle.hoa_standard.specs.Formulas.{FormulaState, FormulaStep, go, over, wrong, after, meaning_of, free_step}

abbrev pub and_on : FormulaStep → (FormulaState → FormulaStep) → FormulaStep
and_on (go s) further = further s
and_on (over m) further = over m
and_on (wrong k) further = wrong k

-- token after token, the limit of pairs set aside
unfoldable pub free_walk : (c : ℕ) → FormulaState → List Token → FormulaStep
free_walk c s [] = go s
free_walk c s (t ∷ ts) = and_on (free_step c s t) (λ s'. free_walk c s' ts)

-- the formula may be over here, and then means m
pub record Stands (c : ℕ) (s : FormulaState) (m : FormulaMeaning) : Type 0 where
  pub behind : Behind
  pub stage : s.stage ≡ after behind
  pub outside : s.depth ≡ 0
  pub means : meaning_of c s.atoms s.needs behind ≡ m

-- a formula of std(c) begins with these tokens
pub record Begins (c : ℕ) (ts : List Token) : Type 0 where
  pub formula : Std
  pub rest : List Token
  pub standard : IsStd c formula
  pub text : std_text formula [] ≡ ts ++ rest
