-- The lines of an answer, one after another, and how long they are. Assumes nothing.
use Rattle.table.specs.Refusal.{refused}
use Rattle.std.specs.Prelude.{Ok}
use mathlib.Core.Path.{◌≡◌, refl, sym, ap, ◌∙◌}
use mathlib.Core.List.{List, [], ◌∷◌, ◌++◌, append-nil, append_assoc}
use Prim.Native.Nat.{ℕ, suc, ◌+◌, ◌-◌, ◌*◌, ◌^◌, ◌≤◌, ◌<◌, min}
use native.Mathlib.Nat.{add-zero}
use native.Mathlib.Numerals.{add-one}
use native.Mathlib.Omega.{arith}
use lib.ListN.{length, get_or, take, drop, length-append, length-drop, drop_of_length-le, replicate}
use lib.Seq.{sets, take-suc, take-length, take_all, drop-length}
use borrow.Author.Tests.{le-leb, ne_eqb}
use Rattle.marks.proofs.Cases.{below, same}
use Rattle.table.specs.Row.{part}
use Rattle.table.specs.Table.{waiting}
use Rattle.puts.specs.Put.{decimal, Put}
use Rattle.puts.proofs.Puts.{put_both, decimal_few, then_zeros}
use Rattle.job_text.specs.Text.{comma}
use Rattle.answer_text.specs.Printed.{stop, step_text, further_text, list_text, bottom_text, Prints}

-- ---- an edge

-- a waiting edge
pub step_stop : (e : ℕ) → e ≡ waiting → step_text e ≡ stop
unfolding step_text
step_stop e q = rw q

-- another one
pub step_number : (e : ℕ) → (e ≡ waiting → ⊥) → step_text e ≡ decimal e
unfolding step_text
step_number e h = rw (ne_eqb e waiting h)

pub step_few : (e : ℕ) → e < 2 ^ 32 → length (step_text e) ≤ 10
step_few e l =
    same e waiting (λ q. rw (step_stop e q) (omega arith)) (λ h. rw (step_number e h) (decimal_few e l))

-- ---- a list, edge by edge

further_append : (xs : List ℕ) (x : ℕ) → further_text (xs ++ (x ∷ [])) ≡ further_text xs ++ (comma ∷ step_text x)
unfolding further_text
further_append [] x = append-nil (comma ∷ step_text x)
further_append (y ∷ ys) x = ap (λ (t : List ℕ). (comma ∷ step_text y) ++ t) (further_append ys x) ∙ sym (append_assoc (comma ∷ step_text y) (further_text ys) (comma ∷ step_text x))

pub further_none : (out : List ℕ) (at : ℕ) → Put out out at (further_text []) at
unfolding further_text
further_none out at = record { cells = refl; next = sym (add-zero at) }

pub further_more : {out mid out' : List ℕ} {at m r : ℕ} (cells : List ℕ) (i : ℕ) → i < length cells → Put out mid at (further_text (take i cells)) m
    → Put mid out' m (comma ∷ step_text (get_or cells i 0)) r → Put out out' at (further_text (take (i + 1) cells)) r
further_more cells i l p q =
    rw (add-one i, take-suc cells i 0 l, further_append (take i cells) (get_or cells i 0)) (put_both p q)

-- eleven bytes for each number: its comma and at most ten digits
pub further_few : (xs : List ℕ) → ((i : ℕ) → get_or xs i 0 < 2 ^ 32) → length (further_text xs) ≤ 11 * length xs
unfolding further_text
further_few [] h = omega arith
further_few (x ∷ xs) h =
    omega (arith, length-append (comma ∷ step_text x) (further_text xs), step_few x (h 0), further_few xs (λ i. h (suc i)))

pub list_few : (xs : List ℕ) → ((i : ℕ) → get_or xs i 0 < 2 ^ 32) → length (list_text xs) ≤ 11 * length xs + 1
list_few [] h = omega arith
list_few (x ∷ xs) h =
    omega (arith, length-append (step_text x) (further_text xs), step_few x (h 0), further_few xs (λ i. h (suc i)))

pub list_some : (xs : List ℕ) → 1 ≤ length xs → list_text xs ≡ step_text (get_or xs 0 0) ++ further_text (part 1 (length xs) xs)
list_some [] h = absurd (omega arith)
list_some (x ∷ xs) h = rw (take_all (suc (length xs) - 1) xs (omega arith))

-- ---- the cells of the room that are there

take_min : (k : ℕ) (xs : List ℕ) → take (min k (length xs)) xs ≡ take k xs
take_min k xs =
    below k (length xs) (λ l. let e : min k (length xs) ≡ k = omega arith in rw e)
    (λ l. let e : min k (length xs) ≡ length xs = omega arith in rw (e, take-length xs, take_all k xs l))

drop_min : (k : ℕ) (xs : List ℕ) → drop (min k (length xs)) xs ≡ drop k xs
drop_min k xs =
    below k (length xs) (λ l. let e : min k (length xs) ≡ k = omega arith in rw e)
    (λ l. let e : min k (length xs) ≡ length xs = omega arith in rw (e, drop-length xs) (sym (drop_of_length-le xs l)))

pub lists_there : (room : List ℕ) (p c knot rest : ℕ) → knot ≡ min p (length room) → rest ≡ min c (length room - knot)
    → bottom_text (part 0 knot room) (part knot (knot + rest) room) ≡ bottom_text (take p room) (take c (drop p room))
lists_there room p c knot rest e f =
    let a : knot - 0 ≡ min p (length room) = omega arith in
    let b : knot + rest - knot ≡ min c (length (drop knot room)) = omega (arith, length-drop knot room) in
    let d : drop knot room ≡ drop p room = rw e (drop_min p room) in
    rw (a, take_min p room, b, take_min c (drop knot room), d)

-- ---- the whole answer

pub printed_whole : (text out ys out' out'' : List ℕ) (n : ℕ) → length ys ≡ 0 → n ≡ 0 + length text → n ≤ length (ys ++ out) → out' ≡ sets (ys ++ out) 0 text
    → out'' ≡ take n out' ++ replicate (length out' - n) 0 → Prints text out out'' (Ok n)
printed_whole text out ys out' out'' n e q l p z =
    let m : n ≡ length text = omega arith in
    let s : length text ≤ length out = omega (arith, length-append ys out) in
    record {
      answer = rw (le-leb (length text) (length out) s, m);
      buffer = rw (le-leb (length text) (length out) s) (then_zeros text out ys out' out'' n e q l p z);
    }
