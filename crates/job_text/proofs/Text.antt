-- Cutting a text into lines: what a search for the newline byte says of them. Assumes nothing.
use mathlib.Core.Path.{◌≡◌, refl, ap, ◌∙◌}
use mathlib.Core.List.{List, [], ◌∷◌}
use Prim.Native.Nat.{ℕ, suc, ◌≤◌, ◌<◌}
use native.Mathlib.Nat.{le_of_suc-le-suc}
use native.Mathlib.Omega.{arith}
use lib.Dec.{eqb}
use lib.ListN.{length, take, drop}
pub use Rattle.job_values.proofs.Cut.{by_test, same_length}
use Rattle.job_text.specs.Text.{newline, ahead, Lines, done, broken, line, longer, lines}

-- ---- lines

pub lines_cut : (xs : List ℕ) → ahead newline xs < length xs
    → lines xs ≡ line (take (ahead newline xs) xs) (lines (drop (suc (ahead newline xs)) xs))
unfolding ahead lines
lines_cut [] l = absurd (omega arith)
lines_cut (x ∷ xs) l =
    by_test (eqb x newline) (λ e. rw e) (λ e. rw e (ap (longer x) (lines_cut xs (le_of_suc-le-suc (rw e at l)))))

-- what the lines are where there is no newline byte
abbrev pub unended : List ℕ → Lines
unended [] = done
unended (x ∷ xs) = broken

longer_unended : (x : ℕ) (xs : List ℕ) → longer x (unended xs) ≡ broken
longer_unended x [] = refl
longer_unended x (y ∷ ys) = refl

pub lines_uncut : (xs : List ℕ) → length xs ≤ ahead newline xs → lines xs ≡ unended xs
unfolding ahead lines
lines_uncut [] l = refl
lines_uncut (x ∷ xs) l =
    by_test (eqb x newline) (λ e. let z : suc (length xs) ≤ 0 = rw e at l in absurd (omega arith))
    (λ e. rw e (ap (longer x) (lines_uncut xs (le_of_suc-le-suc (rw e at l))) ∙ longer_unended x xs))
