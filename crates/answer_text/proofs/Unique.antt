-- Any two results that the printer's contract allows for one input are equal. Assumes nothing.
use Rattle.table.specs.declared.Refusal.{Refusal}
use Rattle.std.specs.Prelude.{Result}
use mathlib.Core.Path.{◌≡◌, sym, ◌∙◌}
use mathlib.Core.List.{List}
use Prim.Native.Nat.{ℕ}
use Rattle.answer_text.specs.Printed.{Prints}

-- an answer gives one printed text
pub one_print : (text out o o' : List ℕ) (r s : Result ℕ Refusal) → Prints text out o r → Prints text out o' s → (r ≡ s) × (o ≡ o')
one_print text out o o' r s a b = (a.answer ∙ sym b.answer, a.buffer ∙ sym b.buffer)
