-- Cutting a text at a byte: what a search for the byte finds, and what that says of fields. Assumes nothing.
use mathlib.Core.Path.{◌≡◌, refl, ap, ◌∙◌}
use mathlib.Core.Bool.{Bool, true, false, cond, ◌&&◌}
use mathlib.Core.List.{List, [], ◌∷◌, ◌++◌}
use Prim.Native.Nat.{ℕ, suc, ◌+◌, ◌-◌, ◌≤◌, ◌<◌, zero-le, suc-le-suc}
use native.Mathlib.Nat.{le_of_suc-le-suc}
use native.Mathlib.Numerals.{add-one}
use native.Mathlib.Omega.{arith}
use lib.Dec.{eqb, leb}
use lib.Pointwise.{pointwise}
use Rattle.std.specs.Prelude.{nat_eq}
use lib.ListN.{length, get_or, take, drop, drop_of_length-le, length-append, length-drop}
use lib.Seq.{drop-cons, drop-drop, take_all}
use borrow.Author.Tests.{eq-eqb, ne_eqb, le-leb, lt-leb}
use Rattle.marks.proofs.Cases.{below}
use Rattle.job_values.specs.Bytes.{newline, comma, shown, fields, longer_field, same, ahead, FirstAt}
use Rattle.table.specs.Row.{part}

-- by a test's outcome
pub by_test : {C : Type 0} (t : Bool) → (t ≡ true → C) → (t ≡ false → C) → C
by_test true f g = f refl
by_test false f g = g refl

-- ---- a line

pub shown_length : (key value : List ℕ) → length (shown key value) ≡ length key + length value + 1
shown_length key value = omega (arith, length-append (key ++ value) (newline ∷ []), length-append key value)

-- ---- the search

pub ahead_le : (b : ℕ) (xs : List ℕ) → ahead b xs ≤ length xs
unfolding ahead
ahead_le b [] = zero-le
ahead_le b (x ∷ xs) = by_test (eqb x b) (λ e. rw e zero-le) (λ e. rw e (suc-le-suc (ahead_le b xs)))

-- the byte stands at i
pub ahead_hit : (b : ℕ) (xs : List ℕ) (i : ℕ) → i < length xs → get_or xs i 0 ≡ b → ahead b (drop i xs) ≡ 0
unfolding ahead
ahead_hit b xs i l e = rw (drop-cons xs i 0 l, eq-eqb (get_or xs i 0) b e)

-- another byte stands at i
pub ahead_miss : (b : ℕ) (xs : List ℕ) (i : ℕ) → i < length xs → (get_or xs i 0 ≡ b → ⊥) → i + ahead b (drop i xs) ≡ (i + 1) + ahead b (drop (i + 1) xs)
unfolding ahead
ahead_miss b xs i l e = rw (drop-cons xs i 0 l, ne_eqb (get_or xs i 0) b e, add-one i) (omega arith)

-- nothing stands at i
pub ahead_end : (b : ℕ) (xs : List ℕ) (i : ℕ) → length xs ≤ i → ahead b (drop i xs) ≡ 0
unfolding ahead
ahead_end b xs i l = rw (drop_of_length-le xs l)

-- a search from within ends at the end at the latest
pub reach : (b : ℕ) (xs : List ℕ) (i : ℕ) → i ≤ length xs → i + ahead b (drop i xs) ≤ length xs
reach b xs i l = omega (arith, ahead_le b (drop i xs), length-drop i xs)

-- what a search from byte to byte uses
pub ruleset search_steps = (ahead_hit, ahead_miss, ahead_end, reach)

-- ---- fields

pub fields_cut : (xs : List ℕ) → ahead comma xs < length xs
    → fields xs ≡ take (ahead comma xs) xs ∷ fields (drop (suc (ahead comma xs)) xs)
unfolding ahead fields
fields_cut [] l = absurd (omega arith)
fields_cut (x ∷ xs) l =
    by_test (eqb x comma) (λ e. rw e) (λ e. rw e (ap (longer_field x) (fields_cut xs (le_of_suc-le-suc (rw e at l)))))

-- the field from i, which ends at e
pub field_at : (xs : List ℕ) (i e : ℕ) → FirstAt xs i comma e → e < length xs → fields (drop i xs) ≡ part i e xs ∷ fields (drop (e + 1) xs)
field_at xs i e f l =
    let a : e - i ≡ ahead comma (drop i xs) = omega (arith, f.place) in
    let b : i + suc (ahead comma (drop i xs)) ≡ e + 1 = omega (arith, f.place) in
    fields_cut (drop i xs) (omega (arith, f.place, length-drop i xs))
    ∙ rw (drop-drop (suc (ahead comma (drop i xs))) i xs, b, a)

-- no comma: one field
pub fields_uncut : (xs : List ℕ) → length xs ≤ ahead comma xs → fields xs ≡ xs ∷ []
unfolding ahead fields
fields_uncut [] l = refl
fields_uncut (x ∷ xs) l =
    by_test (eqb x comma) (λ e. let z : suc (length xs) ≤ 0 = rw e at l in absurd (omega arith))
    (λ e. rw e (ap (longer_field x) (fields_uncut xs (le_of_suc-le-suc (rw e at l)))))

-- the last field, from i
pub field_last : (xs : List ℕ) (i e : ℕ) → FirstAt xs i comma e → i ≤ length xs → length xs ≤ e → fields (drop i xs) ≡ part i (length xs) xs ∷ []
field_last xs i e f h l =
    fields_uncut (drop i xs) (omega (arith, f.place, length-drop i xs))
    ∙ rw (take_all (length xs - i) (drop i xs) (omega (arith, length-drop i xs)))

-- the fields from place `at` on: none where it is past the end
abbrev pub left : List ℕ → ℕ → List (List ℕ)
left bs at = cond (leb at (length bs)) (fields (drop at bs)) []

-- the field at `at`, and those after it
pub left_cut : (bs : List ℕ) (at e : ℕ) → at ≤ length bs → FirstAt bs at comma e → left bs at ≡ part at e bs ∷ left bs (e + 1)
left_cut bs at e l f =
    below e (length bs)
    (λ k. rw (le-leb at (length bs) l, le-leb (e + 1) (length bs) (omega arith)) (field_at bs at e f k))
    (λ k.
    let q : e ≡ length bs = omega (arith, f.high l) in
    rw (le-leb at (length bs) l, lt-leb (e + 1) (length bs) (omega arith), q) (field_last bs at e f l k))

cons_nil : {A : Type 0} {x : A} {xs : List A} → x ∷ xs ≡ [] → ⊥
cons_nil e = let z : ◌≡◌ {A = ℕ} 0 1 = cc in omega arith

longer_some : (x : ℕ) (fs : List (List ℕ)) → longer_field x fs ≡ [] → ⊥
longer_some x [] e = cons_nil e
longer_some x (f ∷ fs) e = cons_nil e

-- there is always a field
pub fields_some : (xs : List ℕ) → fields xs ≡ [] → ⊥
unfolding fields
fields_some [] e = cons_nil e
fields_some (x ∷ xs) e =
    by_test (eqb x comma) (λ t. cons_nil (rw t at e)) (λ t. longer_some x (fields xs) (rw t at e))

-- ---- the same bytes

-- the library's word for it
pub same_pointwise : (xs ys : List ℕ) → pointwise nat_eq xs ys ≡ same xs ys
unfolding same
same_pointwise [] [] = refl
same_pointwise [] (y ∷ ys) = refl
same_pointwise (x ∷ xs) [] = refl
same_pointwise (x ∷ xs) (y ∷ ys) = ap (λ (r : Bool). eqb x y && r) (same_pointwise xs ys)

-- lists of two lengths are not the same
pub same_length : (xs ys : List ℕ) → (length xs ≡ length ys → ⊥) → same xs ys ≡ false
unfolding same
same_length [] [] h = absurd (h refl)
same_length [] (y ∷ ys) h = refl
same_length (x ∷ xs) [] h = refl
same_length (x ∷ xs) (y ∷ ys) h = by_test (eqb x y) (λ e. rw e (same_length xs ys (λ q. h (ap suc q)))) (λ e. rw e)
