-- What the public contracts settle: any two results that they allow for one input are the same.
-- Assumes nothing.
use mathlib.Core.Path.{◌≡◌, refl, sym, ◌∙◌}
use Prim.Native.Nat.{ℕ}
use Rattle.std.specs.Prelude.{Option, Some, None}
use Rattle.job_values.specs.Given.{number_given}
use Rattle.marks.proofs.Unique.{OneResult}
use Rattle.job_values.proofs.part.find.Reads as find
use Rattle.job_values.proofs.part.alike.Reads as alike
use Rattle.job_values.proofs.number.read_number.Reads as read_number

-- a byte is first found at one place
pub one_place : OneResult find.Post
one_place κ a r s e f p q = p.place ∙ sym q.place

-- two parts are the same bytes, or not
pub one_likeness : OneResult alike.Post
one_likeness κ a r s e f p q = p ∙ sym q

-- a number is told in one way
told : (r s : Option ℕ) → number_given r ≡ number_given s → r ≡ s
told (Some a) (Some b) e = cc
told (Some a) None e = cc
told None (Some b) e = cc
told None None e = refl

-- bytes are read as one number, or as none
pub one_number : OneResult read_number.Post
one_number κ a r s e f p q = told r s (p ∙ sym q)
