-- Two results that the contract of `read_label` allows for one text, place and number of propositions are equal. The theorem is about the contract itself, as src/
-- writes it. Assumes nothing.
use mathlib.Core.List.{List}
use mathlib.Core.Path.{◌≡◌, sym, ◌∙◌}
use Prim.Native.Nat.{ℕ}
use native.Mathlib.Omega.{arith}
use Rattle.std.specs.Prelude.{Result, Ok, Err}
use Rattle.marks.proofs.Unique.{OneResult}
use Rattle.hoa_tokens.specs.declared.BadToken.{BadToken}
use Rattle.hoa_tokens.specs.Stream.{bad_at}
use Rattle.hoa_label.specs.declared.LabelRead.{LabelRead}
use Rattle.hoa_label.specs.Reading.{shut_to, label_end, next_of, LabelAt}
use Rattle.hoa_label.proofs.read_label.Reads as read_label

-- two readings with one end and one byte behind it
same_read : (text : List ℕ) (r s : Result LabelRead BadToken) → label_end text r ≡ label_end text s → next_of r ≡ next_of s → r ≡ s
same_read text (Ok x) (Ok y) e q = let p : shut_to x.set x.next ≡ shut_to y.set y.next = cc in p
same_read text (Ok x) (Err y) e q = let z : ◌≡◌ {A = ℕ} 0 1 = cc in absurd (omega arith)
same_read text (Err x) (Ok y) e q = let z : ◌≡◌ {A = ℕ} 0 1 = cc in absurd (omega arith)
same_read text (Err x) (Err y) e q = let p : bad_at x.number x.place ≡ bad_at y.number y.place = cc in p

-- of one text, place and number of propositions
pub one_reading : (text : List ℕ) (at a : ℕ) (r s : Result LabelRead BadToken) → LabelAt text at a r → LabelAt text at a s → r ≡ s
one_reading text at a r s p q = same_read text r s (sym p.is ∙ q.is) (sym p.behind ∙ q.behind)

-- as src/ writes it
pub read_label_once : OneResult read_label.Post
read_label_once κ a r s e f p q = one_reading _ _ _ r s p q
