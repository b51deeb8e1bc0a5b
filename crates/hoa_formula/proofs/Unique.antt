-- Two answers that `read_formula` may give for one text, place and count are the same: both say what the run over the tokens says, and the needs. Assumes nothing.
use mathlib.Core.List.{List}
use mathlib.Core.Path.{◌≡◌, sym, ◌∙◌}
use Prim.Native.Nat.{ℕ}
use Rattle.std.specs.Prelude.{Result}
use Rattle.hoa_tokens.specs.declared.BadToken.{BadToken}
use Rattle.hoa_formula.specs.declared.FormulaRead.{FormulaRead}
use Rattle.hoa_formula.specs.Reading.{found_says, FormulaAt}

-- both say the same of the text
pub same_said : (text : List ℕ) (at c : ℕ) (r q : Result FormulaRead BadToken)
    → FormulaAt text at c r → FormulaAt text at c q → found_says text r ≡ found_says text q
same_said text at c r q a b = sym a.is ∙ b.is
