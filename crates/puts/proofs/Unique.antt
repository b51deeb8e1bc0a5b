-- Any two results that a contract of this crate allows for one input are equal. Assumes nothing.
use mathlib.Core.Path.{◌≡◌, sym, ◌∙◌}
use mathlib.Core.List.{List}
use Prim.Native.Nat.{ℕ}
use Rattle.marks.proofs.Unique.{OneResult}
use Rattle.puts.specs.Put.{Put}
use Rattle.puts.proofs.count_digits.Reads as count_digits

-- a number has one count of digits
pub one_count : OneResult count_digits.Post
one_count κ a r s e f p q = p ∙ sym q

-- a text has one place behind it, and leaves one buffer
pub one_put : (out o o' : List ℕ) (at : ℕ) (text : List ℕ) (r s : ℕ) → Put out o at text r → Put out o' at text s → (r ≡ s) × (o ≡ o')
one_put out o o' at text r s p q = (p.next ∙ sym q.next, p.cells ∙ sym q.cells)
