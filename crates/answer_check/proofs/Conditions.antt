-- Whether the marks on a cycle meet a condition: mark by mark and pair by pair. Assumes nothing.
use mathlib.Core.Path.{◌≡◌, sym, ap, subst}
use mathlib.Core.Bool.{Bool, true, false}
use mathlib.Core.Logic.{◌↔◌}
use mathlib.Core.List.{List}
use Prim.Native.Nat.{ℕ, zero, suc, ◌+◌, ◌≤◌, ◌<◌}
use native.Mathlib.Omega.{arith}
use native.Mathlib.Nat.{le_refl}
use native.Mathlib.Numerals.{add-one}
use lib.ListN.{get_or}
use Rattle.marks.specs.Mark.{Covers, first_marks, width}
use Rattle.marks.proofs.Cases.{same}
use Rattle.marks.proofs.Laws.{has_first}
use Rattle.table.specs.declared.Acceptance.{Acceptance}
use Rattle.table.specs.declared.Acceptance.TheVariants.{Buchi, Rabin}
use Rattle.table.specs.Condition.{dealt}
use Rattle.table.specs.Refusal.{wrong_condition}
use Rattle.table.proofs.Sound.{used_few}
use Rattle.answer_check.specs.Fault.{Meets}

-- ---- marks dealt out

pub dealt_next : (needs : List ℕ) (i : ℕ) → dealt needs (i + 1) ≡ dealt needs i + (1 + get_or needs i 0)
dealt_next needs i = ap (dealt needs) (add-one i)

pub dealt_up : (needs : List ℕ) (i j : ℕ) → i ≤ j → dealt needs i ≤ dealt needs j
dealt_up needs i zero l = let e : i ≡ 0 = omega arith in rw e (le_refl 0)
dealt_up needs i (suc j) l =
    same i (suc j) (λ (e : i ≡ suc j). rw e (le_refl (dealt needs (suc j)))) (λ (h : i ≡ suc j → ⊥). omega (arith, dealt_up needs i j (omega arith)))

-- a pair's marks are among those that the condition uses
pub dealt_within : (needs : List ℕ) (i p most : ℕ) → i < p → dealt needs p ≤ most → dealt needs i + (1 + get_or needs i 0) ≤ most
dealt_within needs i p most l h = omega (arith, dealt_up needs (suc i) p l)

pub dealt_few : (p : ℕ) (needs : List ℕ) → wrong_condition (Rabin p) needs ≡ false → dealt needs p ≤ width
dealt_few p needs w = used_few (Rabin p) needs w

-- ---- so many in a row

-- each of the first i
abbrev pub Each : (ℕ → Type 0) → ℕ → Type 0
Each P i = (j : ℕ) → j < i → P j

-- ---- the kinds

pub buchi_meets : (k : ℕ) (needs : List ℕ) (M pair : ℕ) (r : Bool) (f : ℕ) → wrong_condition (Buchi k) needs ≡ false → f ≡ first_marks width k → (r ≡ true) ↔ Covers M f
    → (r ≡ true) ↔ Meets (Buchi k) needs M pair
unfolding Covers
buchi_meets k needs M pair r f w e p =
    let few : k ≤ width = used_few (Buchi k) needs w in
    (λ t i l. p.0 t i (rw e ((has_first width i k).1 (l, omega arith))), λ m. p.1 (λ i h. m i ((has_first width i k).0 (rw e at h)).0))

-- ---- by the kind that was matched

pub by_kind : (needs : List ℕ) (M pair : ℕ) (r : Bool) (c d : Acceptance) → c ≡ d → (r ≡ true) ↔ Meets d needs M pair → (r ≡ true) ↔ Meets c needs M pair
by_kind needs M pair r c d e m = subst (λ (k : Acceptance). (r ≡ true) ↔ Meets k needs M pair) (sym e) m

pub still : (needs : List ℕ) (c d : Acceptance) → c ≡ d → wrong_condition c needs ≡ false → wrong_condition d needs ≡ false
still needs c d e w = subst (λ (k : Acceptance). wrong_condition k needs ≡ false) e w
