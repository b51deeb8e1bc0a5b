-- Any two results that a contract of this crate allows for one input are equal. Each theorem is about the contract itself, as src/ writes it: `Post` is what
-- the check makes of a function's `ensures`. Assumes nothing.
use mathlib.Core.Path.{◌≡◌, refl, sym, ◌∙◌}
use mathlib.Core.Bool.{Bool, true, false}
use mathlib.Core.Logic.{◌↔◌}
use Rattle.marks.proofs.Laws.{same_marks}
use Rattle.marks.proofs.has_mark.Reads as has_mark
use Rattle.marks.proofs.join.Reads as join
use Rattle.marks.proofs.leave.Reads as leave
use Rattle.marks.proofs.meets.Reads as meets
use Rattle.marks.proofs.covers.Reads as covers
use Rattle.marks.proofs.first_marks.Reads as first_marks
use Rattle.marks.proofs.just.Reads as just

-- the contract allows one result: of any lifetimes κ and arguments a, two results r and s that it allows are equal, whatever is lent holds then (e, f)
abbrev pub OneResult : {K : Type 0} {A R E : K → Type 0} → ((κ : K) → A κ → R κ → E κ → Type 0) → Type 0
OneResult {K} {A} {R} {E} post = (κ : K) (a : A κ) (r s : R κ) (e f : E κ) → post κ a r e → post κ a s f → r ≡ s

-- a test that says whether P holds has one outcome
pub told_once : {P : Type 0} (r s : Bool) → (r ≡ true) ↔ P → (s ≡ true) ↔ P → r ≡ s
told_once true true p q = refl
told_once true false p q = sym (q.1 (p.0 refl))
told_once false true p q = p.1 (q.0 refl)
told_once false false p q = refl

pub has_mark_once : OneResult has_mark.Post
has_mark_once κ a r s e f = told_once r s

pub join_once : OneResult join.Post
join_once κ a r s e f p q = p ∙ sym q

pub leave_once : OneResult leave.Post
leave_once κ a r s e f p q = p ∙ sym q

pub meets_once : OneResult meets.Post
meets_once κ a r s e f = told_once r s

pub covers_once : OneResult covers.Post
covers_once κ a r s e f = told_once r s

pub first_marks_once : OneResult first_marks.Post
first_marks_once κ a r s e f p q = p ∙ sym q

pub just_once : OneResult just.Post
just_once κ a r s e f p q = same_marks r s (λ i h. (q i).1 ((p i).0 h)) (λ i h. (p i).1 ((q i).0 h))
