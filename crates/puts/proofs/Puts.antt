-- Writing one text after another, and how many digits a number has. Assumes nothing.
use mathlib.Core.Path.{◌≡◌, refl, sym, ap, ◌∙◌}
use mathlib.Core.List.{List, [], ◌∷◌, ◌++◌, append-nil, append_assoc}
use Prim.Native.Nat.{ℕ, zero, suc, ◌+◌, ◌-◌, ◌/◌, ◌%◌, ◌^◌, ◌≤◌, ◌<◌}
use native.Mathlib.Nat.{pow-suc, add-zero}
use native.Mathlib.Numerals.{add-one}
use native.Mathlib.Omega.{arith}
use lib.ListN.{length, get_or, take, set, length-append, replicate}
use lib.Seq.{sets, sets-eq, length-sets, take-suc, take-length, take_at, set_comm}
use borrow.Author.Tests.{lt-ltb, le-ltb}
use Rattle.marks.proofs.Cases.{below}
use Rattle.puts.specs.Put.{decimal_in, decimal, joined, Put}

-- ---- one text after another

sets_append : (l : List ℕ) (i : ℕ) (a b : List ℕ) → sets (sets l i a) (i + length a) b ≡ sets l i (a ++ b)
sets_append l i [] b = rw (add-zero i)
sets_append l i (x ∷ a) b =
    let e : i + suc (length a) ≡ suc i + length a = omega arith in
    rw e (sets_append (set l i x) (suc i) a b)

pub put_none : (out : List ℕ) (at : ℕ) → Put out out at [] (at + 0)
put_none out at = record { cells = refl; next = refl }

pub put_both : {out mid out' : List ℕ} {at m r : ℕ} {a b : List ℕ} → Put out mid at a m → Put mid out' m b r → Put out out' at (a ++ b) r
put_both {out} {mid} {out'} {at} {m} {r} {a} {b} p q =
    record {
      cells = q.cells ∙ rw (p.cells, p.next) (sets_append out at a b);
      next = omega (arith, p.next, q.next, length-append a b);
    }

-- a word, byte by byte
pub word_more : (out mid out' : List ℕ) (at i r : ℕ) (word : List ℕ) → i < length word → Put out mid at (take i word) (at + i) → Put mid out' (at + i) (get_or word i 0 ∷ []) r
    → Put out out' at (take (i + 1) word) (at + (i + 1))
word_more out mid out' at i r word l p q =
    rw (add-one i, take-suc word i 0 l) (let b = put_both p q in record { cells = b.cells; next = omega (arith, q.next, b.next) })

pub word_whole : {out out' : List ℕ} (at i : ℕ) (word : List ℕ) → i ≡ length word → Put out out' at (take i word) (at + i) → Put out out' at word (at + length word)
word_whole at i word e p = rw (e, take-length word) at p

-- texts joined: one more, or none
pub joined_length : (f : ℕ → List ℕ) (k : ℕ) → length (joined f (suc k)) ≡ length (joined f k) + length (f k)
unfolding joined
joined_length f k = length-append (joined f k) (f k)

pub joined_zero : (f : ℕ → List ℕ) → length (joined f 0) ≡ 0
unfolding joined
joined_zero f = refl

-- ---- digits

one : (k n : ℕ) → n < 10 → decimal_in k n ≡ (48 + n) ∷ []
unfolding decimal_in
one zero n l = let e : n % 10 ≡ n = omega arith in rw e
one (suc k) n l = rw (lt-ltb n 10 l)

more : (k n : ℕ) → 10 ≤ n → decimal_in (suc k) n ≡ decimal_in k (n / 10) ++ ((48 + n % 10) ∷ [])
unfolding decimal_in
more k n l = rw (le-ltb n 10 l)

-- digits enough are enough
fuel : (k j n : ℕ) → n ≤ k → n ≤ j → decimal_in k n ≡ decimal_in j n
fuel zero j n l h = one 0 n (omega arith) ∙ sym (one j n (omega arith))
fuel (suc k) zero n l h = one (suc k) n (omega arith) ∙ sym (one 0 n (omega arith))
fuel (suc k) (suc j) n l h =
    below n 10 (λ s. one (suc k) n s ∙ sym (one (suc j) n s))
    (λ s. more k n s ∙ rw (fuel k j (n / 10) (omega arith) (omega arith)) (sym (more j n s)))

pub decimal_one : (n : ℕ) → n < 10 → decimal n ≡ (48 + n) ∷ []
decimal_one n l = one n n l

pub decimal_more : (n : ℕ) → 10 ≤ n → decimal n ≡ decimal (n / 10) ++ ((48 + n % 10) ∷ [])
decimal_more n l =
    let e : n ≡ suc (n - 1) = omega arith in
    ap (λ (k : ℕ). decimal_in k n) e ∙ more (n - 1) n l
    ∙ ap (λ (ds : List ℕ). ds ++ ((48 + n % 10) ∷ [])) (fuel (n - 1) (n / 10) (n / 10) (omega arith) (omega arith))

last : (n : ℕ) → decimal_in 0 n ≡ (48 + n % 10) ∷ []
unfolding decimal_in
last n = refl

-- a number below 10 ^ d has at most d digits
pub digits_few : (d k n : ℕ) → n < 10 ^ suc d → length (decimal_in k n) ≤ suc d
digits_few d zero n l = rw (last n) (omega arith)
digits_few zero (suc k) n l = rw (one (suc k) n (omega (arith, l))) (omega arith)
digits_few (suc d) (suc k) n l =
    below n 10 (λ s. rw (one (suc k) n s) (omega arith))
    (λ s.
    let h : n / 10 < 10 ^ suc d = omega (arith, pow-suc 10 (suc d)) in
    omega (arith, ap length (more k n s), length-append (decimal_in k (n / 10)) ((48 + n % 10) ∷ []), digits_few d k (n / 10) h))

-- a number below 1,000 has at most three
pub decimal_three : (n : ℕ) → n < 1000 → length (decimal n) ≤ 3
decimal_three n l = digits_few 2 n n l

pub decimal_few : (n : ℕ) → n < 2 ^ 32 → length (decimal n) ≤ 10
decimal_few n l = digits_few 9 n n (omega arith)

-- one digit more is counted
pub decimal_longer : (n : ℕ) → 10 ≤ n → length (decimal n) ≡ suc (length (decimal (n / 10)))
decimal_longer n l = ap length (decimal_more n l) ∙ length-append (decimal (n / 10)) ((48 + n % 10) ∷ []) ∙ add-one (length (decimal (n / 10)))

-- the last k digits of a number
abbrev pub last_digits : ℕ → ℕ → List ℕ
last_digits zero n = []
last_digits (suc k) n = last_digits k (n / 10) ++ ((48 + n % 10) ∷ [])

-- as many as it has are all of them
digits_all : (k n : ℕ) → decimal_in k n ≡ last_digits (length (decimal_in k n)) n
digits_all zero n = rw (last n) refl
digits_all (suc k) n =
    below n 10 (λ s. let e : n % 10 ≡ n = omega arith in rw (one (suc k) n s) (ap (λ (d : ℕ). (48 + d) ∷ []) (sym e)))
    (λ s.
    let long : length (decimal_in k (n / 10) ++ ((48 + n % 10) ∷ [])) ≡ suc (length (decimal_in k (n / 10))) =
    length-append (decimal_in k (n / 10)) ((48 + n % 10) ∷ []) ∙ add-one (length (decimal_in k (n / 10))) in
    rw (more k n s, long) (ap (λ (ds : List ℕ). ds ++ ((48 + n % 10) ∷ [])) (digits_all k (n / 10))))

-- `left` digits are left to be written, those of `rest`, before what is written
pub record Digits (out : List ℕ) (at n left rest : ℕ) (out' : List ℕ) : Type 0 where
  pub written : List ℕ
  pub joins : decimal n ≡ last_digits left rest ++ written
  pub cells : out' ≡ sets out (at + left) written

pub digits_none : (out : List ℕ) (at n count : ℕ) → count ≡ length (decimal n) → Digits out at n count n out
digits_none out at n count e =
    record { written = []; joins = digits_all n n ∙ ap (λ (k : ℕ). last_digits k n) (sym e) ∙ sym (append-nil (last_digits count n)); cells = refl }

-- a store before others
sets_before : (l : List ℕ) (i j b : ℕ) (vs : List ℕ) → i < j → set (sets l j vs) i b ≡ sets (set l i b) j vs
sets_before l i j b [] h = refl
sets_before l i j b (v ∷ vs) h =
    sets_before (set l j v) i (suc j) b vs (omega arith)
    ∙ ap (λ (k : List ℕ). sets k (suc j) vs) (set_comm l j i v b (λ (e : j ≡ i). omega arith))

pub digits_more : {out mid out' : List ℕ} {at n left rest r : ℕ} → 0 < left → Digits out at n left rest mid → Put mid out' (at + (left - 1)) ((48 + rest % 10) ∷ []) r
    → Digits out at n (left - 1) (rest / 10) out'
digits_more {out} {mid} {out'} {at} {n} {left} {rest} l D P = one_more (left - 1) (omega arith)
  where
    one_more : (k : ℕ) → left ≡ suc k → Digits out at n (left - 1) (rest / 10) out'
    one_more k e =
        let less : left - 1 ≡ k = omega arith in
        let next : at + suc k ≡ suc (at + k) = omega arith in
        let J : decimal n ≡ last_digits (suc k) rest ++ D.written = rw e at D.joins in
        let C : mid ≡ sets out (suc (at + k)) D.written = rw (e, next) at D.cells in
        let Q : out' ≡ set mid (at + k) (48 + rest % 10) = rw less at P.cells in
        rw less
        (record {
          written = (48 + rest % 10) ∷ D.written;
          joins = J ∙ append_assoc (last_digits k (rest / 10)) ((48 + rest % 10) ∷ []) D.written;
          cells = Q ∙ ap (λ (l : List ℕ). set l (at + k) (48 + rest % 10)) C ∙ sets_before out (at + k) (suc (at + k)) (48 + rest % 10) D.written (omega arith);
        })

pub digits_put : {out out' : List ℕ} {at n left rest count : ℕ} → left ≤ 0 → count ≡ length (decimal n) → Digits out at n left rest out' → Put out out' at (decimal n) (at + count)
digits_put {out} {out'} {at} {n} {left} {rest} l e D =
    let z : left ≡ 0 = omega arith in
    let J : decimal n ≡ D.written = rw z at D.joins in
    let C : out' ≡ sets out at D.written = rw (z, add-zero at) at D.cells in
    record { cells = rw J C; next = omega arith }

-- what counting the digits of a number uses, and what writing them from the last one on uses
pub ruleset digit_counts = (decimal_one, decimal_longer, decimal_few)

pub ruleset digit_puts = (decimal_few, digits_none, digits_more, digits_put)

-- ---- a whole buffer, written from its beginning

no_cells : (ys : List ℕ) → length ys ≡ 0 → ys ≡ []
no_cells [] e = refl
no_cells (y ∷ ys) e = absurd (omega arith)

-- writing into none of its cells leaves it as it was
pub as_it_was : (ys out : List ℕ) → length ys ≡ 0 → ys ++ out ≡ out
as_it_was ys out e = rw (no_cells ys e)

-- the text, and zeros to the end
pub then_zeros : (text out ys out' out'' : List ℕ) (n : ℕ) → length ys ≡ 0 → n ≡ 0 + length text → n ≤ length (ys ++ out) → out' ≡ sets (ys ++ out) 0 text
    → out'' ≡ take n out' ++ replicate (length out' - n) 0 → out'' ≡ text ++ replicate (length out - length text) 0
then_zeros text out ys out' out'' n e q l p z =
    let m : n ≡ length text = omega arith in
    let s : length text ≤ length out = omega (arith, length-append ys out) in
    let w : out' ≡ sets out 0 text = p ∙ rw (no_cells ys e) in
    let v : take (length text) out' ≡ text = rw (w, sets-eq text out 0 (omega arith)) (take_at text _ (length text) refl) in
    let k : length out' ≡ length out = ap length w ∙ length-sets out 0 text in
    rw (z, m, v, k)
