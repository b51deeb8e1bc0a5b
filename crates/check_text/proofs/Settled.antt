-- An input longer than the longest job and the longest answer text together is settled by its first bytes, one more than these: whatever follows changes nothing. So the
-- program need not read on. Assumes nothing.
use mathlib.Core.Path.{◌≡◌, refl, sym, ap, ◌∙◌, subst}
use mathlib.Core.Bool.{Bool, true, false}
use mathlib.Core.Logic.{◌⊎◌, inl, inr}
use mathlib.Core.List.{List, [], ◌∷◌, ◌++◌}
use Prim.Native.Nat.{ℕ, zero, suc, ◌+◌, ◌≤◌, ◌<◌, zero-le, suc-le-suc}
use native.Mathlib.Nat.{le_refl, le_of_suc-le-suc}
use native.Mathlib.Omega.{arith}
use lib.Dec.{eqb}
use lib.ListN.{length, take, drop, length-append, length-take, length-drop}
use lib.Seq.{take-append-le, drop-append-le}
use borrow.Author.Tests.{lt-ltb}
use Rattle.marks.proofs.Cases.{below}
use Rattle.job_text.specs.Text.{newline, lines, same, ahead}
use Rattle.job_text.specs.Job.{Outcome, most_bytes, ColumnIf}
use Rattle.job_text.proofs.Text.{by_test, lines_cut, lines_uncut}
use Rattle.job_text.proofs.Jobs.{too_long}
use Rattle.answer_check.specs.declared.Checked.{Checked}
use Rattle.answer_check.specs.Checking.{TextRefused, ByJob, Checks}
use Rattle.check_text.specs.Split.{end_line, size_from, job_size, job_part, answer_part, most_answer, heard}
use Rattle.check_text.specs.Replied.{CheckReplied}
use Rattle.check_text.proofs.Splits.{unended_size}

-- ---- the first newline byte, where more bytes follow

-- it is among those before
ahead_same : (b : ℕ) (xs ys : List ℕ) → ahead b xs < length xs → ahead b (xs ++ ys) ≡ ahead b xs
unfolding ahead
ahead_same b [] ys l = absurd (omega arith)
ahead_same b (x ∷ xs) ys l = by_test (eqb x b) (λ e. rw e) (λ e. rw e (ap suc (ahead_same b xs ys (le_of_suc-le-suc (rw e at l)))))

-- it is not
ahead_past : (b : ℕ) (xs ys : List ℕ) → length xs ≤ ahead b xs → length xs ≤ ahead b (xs ++ ys)
unfolding ahead
ahead_past b [] ys l = zero-le
ahead_past b (x ∷ xs) ys l =
    by_test (eqb x b) (λ e. let z : suc (length xs) ≤ 0 = rw e at l in absurd (omega arith))
    (λ e. rw e (suc-le-suc (ahead_past b xs ys (le_of_suc-le-suc (rw e at l)))))

-- ---- the job's size by the first line

size_uncut : (all at : ℕ) (xs : List ℕ) → length xs ≤ ahead newline xs → size_from all at (lines xs) ≡ all
size_uncut all at xs l = rw (lines_uncut xs l) (unended_size all at xs)

module _ (all at : ℕ) (xs : List ℕ) (l : ahead newline xs < length xs) where
  first_length : length (take (ahead newline xs) xs) ≡ ahead newline xs
  first_length = omega (arith, l, length-take (ahead newline xs) xs)

  size_ends : same (take (ahead newline xs) xs) end_line ≡ true → size_from all at (lines xs) ≡ at + (ahead newline xs + 1)
  unfolding size_from
  size_ends s = rw (lines_cut xs l, s, first_length)

  size_goes : same (take (ahead newline xs) xs) end_line ≡ false
      → size_from all at (lines xs) ≡ size_from all (at + (ahead newline xs + 1)) (lines (drop (suc (ahead newline xs)) xs))
  unfolding size_from
  size_goes s = rw (lines_cut xs l, s, first_length)

-- the job does not end before its lines begin
size_low : (k : ℕ) (xs : List ℕ) (all at : ℕ) → length xs ≤ k → at + length xs ≤ all → at ≤ size_from all at (lines xs)
size_low zero xs all at h q = omega (arith, h, q, size_uncut all at xs (omega (arith, h)))
size_low (suc k) xs all at h q =
    below (ahead newline xs) (length xs)
    (λ l.
    by_test (same (take (ahead newline xs) xs) end_line) (λ s. omega (arith, size_ends all at xs l s))
    (λ s.
    let short = length-drop (suc (ahead newline xs)) xs in
    let rest = size_low k (drop (suc (ahead newline xs)) xs) all (at + (ahead newline xs + 1)) (omega (arith, l, h, short)) (omega (arith, l, q, short)) in
    omega (arith, size_goes all at xs l s, rest)))
    (λ l. omega (arith, q, size_uncut all at xs l))

-- without a newline byte among the first bytes it ends behind them
size_past : (xs ys : List ℕ) (all at : ℕ) → length xs ≤ ahead newline xs → at + length (xs ++ ys) ≤ all → at + length xs ≤ size_from all at (lines (xs ++ ys))
size_past xs ys all at l q =
    below (ahead newline (xs ++ ys)) (length (xs ++ ys))
    (λ m.
    by_test (same (take (ahead newline (xs ++ ys)) (xs ++ ys)) end_line) (λ s. omega (arith, size_ends all at (xs ++ ys) m s, ahead_past newline xs ys l))
    (λ s.
    let short = length-drop (suc (ahead newline (xs ++ ys))) (xs ++ ys) in
    let behind = drop (suc (ahead newline (xs ++ ys))) (xs ++ ys) in
    let rest = size_low (length behind) behind all (at + (ahead newline (xs ++ ys) + 1)) (le_refl _) (omega (arith, m, q, short)) in
    omega (arith, size_goes all at (xs ++ ys) m s, rest, ahead_past newline xs ys l)))
    (λ m. omega (arith, q, size_uncut all at (xs ++ ys) m, length-append xs ys))

-- ---- where more bytes follow

-- the first line is the same
module _ (xs ys : List ℕ) (more at : ℕ) (l : ahead newline xs < length xs) where
  inside : ahead newline (xs ++ ys) < length (xs ++ ys)
  inside = omega (arith, l, ahead_same newline xs ys l, length-append xs ys)

  first_line : take (ahead newline (xs ++ ys)) (xs ++ ys) ≡ take (ahead newline xs) xs
  first_line = rw (ahead_same newline xs ys l) (take-append-le (ahead newline xs) xs ys (omega (arith, l)))

  behind_it : drop (suc (ahead newline (xs ++ ys))) (xs ++ ys) ≡ drop (suc (ahead newline xs)) xs ++ ys
  behind_it = rw (ahead_same newline xs ys l) (drop-append-le (suc (ahead newline xs)) xs ys l)

  more_ends : same (take (ahead newline xs) xs) end_line ≡ true → size_from more at (lines (xs ++ ys)) ≡ at + (ahead newline xs + 1)
  more_ends s = size_ends more at (xs ++ ys) inside (rw first_line s) ∙ rw (ahead_same newline xs ys l)

  more_goes : same (take (ahead newline xs) xs) end_line ≡ false
      → size_from more at (lines (xs ++ ys)) ≡ size_from more (at + (ahead newline xs + 1)) (lines (drop (suc (ahead newline xs)) xs ++ ys))
  more_goes s = size_goes more at (xs ++ ys) inside (rw first_line s) ∙ rw (behind_it, ahead_same newline xs ys l)

-- the size x stays as it is; or it was all there was, and becomes x', which is no less
abbrev Grows : ℕ → ℕ → ℕ → ℕ → Type 0
Grows all low x x' = (x' ≡ x) ⊎ ((x ≡ all) × (low ≤ x'))

grows_by : (all low low' x x' y y' : ℕ) → x' ≡ y' → x ≡ y → low ≤ low' → Grows all low' y y' → Grows all low x x'
grows_by all low low' x x' y y' p q l (inl e) = inl (p ∙ e ∙ sym q)
grows_by all low low' x x' y y' p q l (inr e) = inr (q ∙ e.0, omega (arith, p, l, e.1))

size_grows : (k : ℕ) (xs ys : List ℕ) (all more at : ℕ) → length xs ≤ k → at + length (xs ++ ys) ≤ more
    → Grows all (at + length xs) (size_from all at (lines xs)) (size_from more at (lines (xs ++ ys)))
size_grows zero xs ys all more at h q = let l : length xs ≤ ahead newline xs = omega (arith, h) in inr (size_uncut all at xs l, size_past xs ys more at l q)
size_grows (suc k) xs ys all more at h q =
    below (ahead newline xs) (length xs)
    (λ l.
    by_test (same (take (ahead newline xs) xs) end_line) (λ s. inl (more_ends xs ys more at l s ∙ sym (size_ends all at xs l s)))
    (λ s.
    let behind = drop (suc (ahead newline xs)) xs in
    let short = length-drop (suc (ahead newline xs)) xs in
    let next = at + (ahead newline xs + 1) in
    grows_by all (at + length xs) (next + length behind) _ _ _ _ (more_goes xs ys more at l s) (size_goes all at xs l s) (omega (arith, l, short))
    (size_grows k behind ys all more next (omega (arith, l, h, short)) (omega (arith, l, q, short, length-append xs ys, length-append behind ys)))))
    (λ l. inr (size_uncut all at xs l, size_past xs ys more at l q))

job_grows : (seen rest : List ℕ) → Grows (length seen) (length seen) (job_size seen) (job_size (seen ++ rest))
unfolding job_size
job_grows seen rest =
    grows_by (length seen) (length seen) (0 + length seen) _ _ _ _ refl refl (omega arith)
    (size_grows (length seen) seen rest (length seen) (length (seen ++ rest)) 0 (le_refl _) (omega arith))

-- ---- the whole result

-- too long an answer text is not heard
unheard : (answer : List ℕ) → most_answer < length answer → heard answer ≡ []
unheard answer l = rw (lt-ltb most_answer (length answer) l)

module _ (seen rest : List ℕ) (r : Checked) (long : most_bytes + most_answer < length seen) (C : Checks (job_part seen) (heard (answer_part seen)) r) where
  -- the job is too long, and stays so
  job_long : most_bytes < job_size seen → most_bytes < job_size (seen ++ rest) → Checks (job_part (seen ++ rest)) (heard (answer_part (seen ++ rest))) r
  job_long l m =
      let one : most_bytes < length (job_part seen) = omega (arith, long, l, length-take (job_size seen) seen) in
      let other : most_bytes < length (job_part (seen ++ rest)) = omega (arith, long, m, length-take (job_size (seen ++ rest)) (seen ++ rest), length-append seen rest) in
      let told : TextRefused (job_part seen) 20 0 r = subst (λ (o : Outcome). ByJob (job_part seen) o (heard (answer_part seen)) r) (too_long (job_part seen) one) C in
      let none : told.column ≡ 0 = subst (λ (b : Bool). ColumnIf b (lines (job_part seen)) told.column) (lt-ltb most_bytes (length (job_part seen)) one) told.first in
      let first = subst (λ (b : Bool). ColumnIf b (lines (job_part (seen ++ rest))) told.column) (sym (lt-ltb most_bytes (length (job_part (seen ++ rest))) other)) none in
      subst (λ (o : Outcome). ByJob (job_part (seen ++ rest)) o (heard (answer_part (seen ++ rest))) r) (sym (too_long (job_part (seen ++ rest)) other))
      (record { column = told.column; first = first; told = told.told })

  -- the answer text is too long, and stays so
  answer_long : job_size seen ≤ most_bytes → job_size (seen ++ rest) ≡ job_size seen → Checks (job_part (seen ++ rest)) (heard (answer_part (seen ++ rest))) r
  answer_long l e =
      let same-job : job_part (seen ++ rest) ≡ job_part seen = rw e (take-append-le (job_size seen) seen rest (omega (arith, long, l))) in
      let before = unheard (answer_part seen) (omega (arith, long, l, length-drop (job_size seen) seen)) in
      let now = unheard (answer_part (seen ++ rest)) (omega (arith, long, l, e, length-drop (job_size (seen ++ rest)) (seen ++ rest), length-append seen rest)) in
      subst (λ (j : List ℕ). Checks j (heard (answer_part (seen ++ rest))) r) (sym same-job)
      (subst (λ (a : List ℕ). Checks (job_part seen) a r) (before ∙ sym now) C)

  by_size : Grows (length seen) (length seen) (job_size seen) (job_size (seen ++ rest)) → Checks (job_part (seen ++ rest)) (heard (answer_part (seen ++ rest))) r
  by_size (inl e) = below most_bytes (job_size seen) (λ l. job_long l (omega (arith, l, e))) (λ l. answer_long l e)
  by_size (inr e) = job_long (omega (arith, long, e.0)) (omega (arith, long, e.1))

-- what is printed for an input that is longer than both may be is printed for it with anything behind it
pub settled : (seen rest out : List ℕ) (size : ℕ) → most_bytes + most_answer < length seen → CheckReplied seen out size → CheckReplied (seen ++ rest) out size
settled seen rest out size long R =
    record { result = R.result; checks = by_size seen rest R.result long R.checks (job_grows seen rest); held = R.held }
