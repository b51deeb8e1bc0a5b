-- Any two results that a contract of this crate allows for one byte are equal. Assumes nothing.
use mathlib.Core.Path.{◌≡◌, refl, sym, ◌∙◌}
use Prim.Native.Nat.{ℕ}
use Rattle.std.specs.Prelude.{Option, Some, None}
use Rattle.marks.proofs.Unique.{OneResult}
use Rattle.digits.specs.Given.{digit_given}
use Rattle.digits.proofs.digit_value.Reads as digit_value
use Rattle.digits.proofs.hex_value.Reads as hex_value

-- what an answer says tells the answer
pub same_digit : (r s : Option ℕ) → digit_given r ≡ digit_given s → r ≡ s
same_digit (Some d) (Some e) p = cc
same_digit (Some d) None p = cc
same_digit None (Some e) p = cc
same_digit None None p = refl

pub digit_value_once : OneResult digit_value.Post
digit_value_once κ a r s e f p q = same_digit r s (p ∙ sym q)

pub hex_value_once : OneResult hex_value.Post
hex_value_once κ a r s e f p q = same_digit r s (p ∙ sym q)
