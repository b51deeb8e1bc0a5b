-- The text of a mark of a set, by whether the set has it and whether it is the lowest. Assumes nothing.
use mathlib.Core.Path.{◌≡◌, ap, ◌∙◌}
use mathlib.Core.List.{[], ◌∷◌}
use Prim.Native.Nat.{ℕ, ◌*◌, ◌/◌, ◌%◌, ◌^◌, ◌<◌}
use native.Mathlib.Nat.{one-mul, mod-eq_of_lt}
use lib.Pow.{pow-lt}
use borrow.Author.Tests.{eq-eqb, ne_eqb}
use Rattle.marks.specs.Mark.{Has, width}
use Rattle.puts.specs.Put.{decimal}
use Rattle.hoa_tokens.specs.Bytes.{bytes}
use Rattle.hoa_written.specs.Written.{mark_text, blank}

-- a shifted 1 is the power of two
pub shifted : (i : ℕ) → i < width → 1 * 2 ^ i % 2 ^ width ≡ 2 ^ i
shifted i l = ap (λ (x : ℕ). x % 2 ^ width) (one-mul _) ∙ mod-eq_of_lt (pow-lt l)

-- a mark that the set has not
pub mark_absent : (set i : ℕ) → (Has i set → ⊥) → mark_text set i ≡ []
unfolding Has
mark_absent set i h = rw (ne_eqb (set / 2 ^ i % 2) 1 h)

-- its lowest mark
pub mark_lowest : (set i : ℕ) → Has i set → set % 2 ^ i ≡ 0 → mark_text set i ≡ decimal i
unfolding Has
mark_lowest set i h z = rw (eq-eqb (set / 2 ^ i % 2) 1 h, eq-eqb (set % 2 ^ i) 0 z)

-- another mark of it
pub mark_further : (set i : ℕ) → Has i set → (set % 2 ^ i ≡ 0 → ⊥) → mark_text set i ≡ blank ∷ decimal i
unfolding Has bytes
mark_further set i h z = rw (eq-eqb (set / 2 ^ i % 2) 1 h, ne_eqb (set % 2 ^ i) 0 z)
