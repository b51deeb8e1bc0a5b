-- How many bytes a gap and a token take: never more than there are, and each token but the text's end takes one. Assumes nothing.
use mathlib.Core.Path.{◌≡◌, refl, ap}
use mathlib.Core.Bool.{Bool, true, false, false≢true, ◌&&◌}
use mathlib.Core.List.{List, [], ◌∷◌}
use mathlib.Core.Option.{Option, some, none}
use Prim.Native.Nat.{ℕ, zero, suc, ◌≤◌, ◌<◌, zero-le, suc-le-suc}
use native.Mathlib.Omega.{arith}
use lib.Dec.{eqb}
use lib.ListN.{length, get_or, take, length-take}
use borrow.Author.Tests.{eqb-true}
use Rattle.hoa_tokens.specs.declared.Sign.{Sign}
use Rattle.hoa_tokens.specs.Bytes.{bytes, same, is_digit, is_letter, is_name, is_blank, run}
use Rattle.hoa_tokens.specs.Token.{Token, int, word, header, str, aname, sign, body, end, abort, finish, bad, Taken, taken}
use Rattle.hoa_tokens.specs.Token.{is_int, digits, number, named, later, quoted, closed, at, begins, fixed, sign_of, single, front}
use Rattle.hoa_tokens.specs.Stream.{Gap, gap, unclosed, lost, behind, opened, gap_of}

-- by a test's outcome
pub by_test : {C : Type 0} (t : Bool) → (t ≡ true → C) → (t ≡ false → C) → C
by_test true f g = f refl
by_test false f g = g refl

-- ---- gaps

-- a gap among so many bytes; only where a comment is open in front can all be lost
abbrev pub GapIn : ℕ → ℕ → Gap → Type 0
GapIn k d (gap n) = n ≤ k
GapIn k d (unclosed n) = n < k
GapIn k d lost = 0 < d

-- a byte more
behind_one : (k d : ℕ) (g : Gap) → GapIn k d g → GapIn (suc k) d (behind 1 g)
behind_one k d (gap n) h = omega arith
behind_one k d (unclosed n) h = omega arith
behind_one k d lost h = h

-- two bytes more, inside a comment
behind_two : (k d e : ℕ) (g : Gap) → GapIn k d g → GapIn (suc (suc k)) (suc e) (behind 2 g)
behind_two k d e (gap n) h = omega arith
behind_two k d e (unclosed n) h = omega arith
behind_two k d e lost h = omega arith

-- a comment in front
opened_in : (k : ℕ) (g : Gap) → GapIn k 1 g → GapIn (suc (suc k)) 0 (opened g)
opened_in k (gap n) h = omega arith
opened_in k (unclosed n) h = omega arith
opened_in k lost h = omega arith

-- a gap takes no more bytes than there are
pub gap_in : (bs : List ℕ) (d : ℕ) → GapIn (length bs) d (gap_of bs d)
unfolding gap_of
gap_in [] zero = zero-le
gap_in [] (suc d) = omega arith
gap_in (b ∷ []) zero = by_test (is_blank b) (λ e. rw e (omega arith)) (λ e. rw e zero-le)
gap_in (b ∷ []) (suc d) = omega arith
gap_in (b ∷ (c ∷ bs)) zero =
    by_test (is_blank b) (λ e. rw e (behind_one _ 0 (gap_of (c ∷ bs) 0) (gap_in (c ∷ bs) zero)))
    (λ e. by_test (eqb b 47 && eqb c 42) (λ q. rw (e, q) (opened_in _ (gap_of bs 1) (gap_in bs 1))) (λ q. rw (e, q) zero-le))
gap_in (b ∷ (c ∷ bs)) (suc d) =
    by_test (eqb b 47 && eqb c 42) (λ q. rw q (behind_two _ (suc (suc d)) d (gap_of bs (suc (suc d))) (gap_in bs (suc (suc d)))))
    (λ q.
    by_test (eqb b 42 && eqb c 47) (λ e. rw (q, e) (behind_two _ d d (gap_of bs d) (gap_in bs d)))
    (λ e. rw (q, e) (behind_one _ (suc d) (gap_of (c ∷ bs) (suc d)) (gap_in (c ∷ bs) (suc d)))))

-- ---- runs and texts

-- a run takes no more bytes than there are
pub run_le : (class : ℕ → Bool) (bs : List ℕ) → run class bs ≤ length bs
unfolding run
run_le class [] = zero-le
run_le class (b ∷ bs) = by_test (class b) (λ e. rw e (suc-le-suc (run_le class bs))) (λ e. rw e zero-le)

-- a byte of the class in front
pub run_some : (class : ℕ → Bool) (b : ℕ) (bs : List ℕ) → class b ≡ true → run class (b ∷ bs) ≡ suc (run class bs)
unfolding run
run_some class b bs e = rw e

-- a word may go on with a letter
pub letter_name : (b : ℕ) → is_letter b ≡ true → is_name b ≡ true
unfolding is_name
letter_name b e = rw e

-- the same bytes are equally many
pub same_length : (xs ys : List ℕ) → same xs ys ≡ true → length xs ≡ length ys
unfolding same
same_length [] [] e = refl
same_length [] (y ∷ ys) e = absurd (false≢true e)
same_length (x ∷ xs) [] e = absurd (false≢true e)
same_length (x ∷ xs) (y ∷ ys) e = by_test (eqb x y) (λ q. ap suc (same_length xs ys (rw q at e))) (λ q. absurd (false≢true (rw q at e)))

-- a key that stands in front is not longer than the bytes
pub begins_le : (key bs : List ℕ) → begins key bs ≡ true → length key ≤ length bs
begins_le key bs e = omega (arith, same_length _ _ e, length-take (length key) bs)

-- a byte that is not 0 is one of the bytes
pub byte_in : (bs : List ℕ) (k : ℕ) → (get_or bs k 0 ≡ 0 → ⊥) → k < length bs
byte_in [] k h = absurd (h refl)
byte_in (b ∷ bs) zero h = omega arith
byte_in (b ∷ bs) (suc k) h = suc-le-suc (byte_in bs k h)

-- ---- tokens

-- the closing quote is one of the bytes
abbrev pub QuoteIn : ℕ → Option ℕ → Type 0
QuoteIn k none = Unit
QuoteIn k (some n) = n < k

-- a byte more
later_one : (k : ℕ) (o : Option ℕ) → QuoteIn k o → QuoteIn (suc k) (later 1 o)
later_one k none h = tt
later_one k (some n) h = omega arith

-- two bytes more
later_two : (k : ℕ) (o : Option ℕ) → QuoteIn k o → QuoteIn (suc (suc k)) (later 2 o)
later_two k none h = tt
later_two k (some n) h = omega arith

-- so it is
pub quote_in : (bs : List ℕ) → QuoteIn (length bs) (quoted bs)
unfolding quoted
quote_in [] = tt
quote_in (b ∷ []) = by_test (eqb b 34) (λ e. rw e (omega arith)) (λ e. rw e tt)
quote_in (b ∷ (c ∷ bs)) =
    by_test (eqb b 34) (λ e. rw e (omega arith))
    (λ e.
    by_test (eqb b 92) (λ q. rw (e, q) (later_two _ (quoted bs) (quote_in bs)))
    (λ q. rw (e, q) (later_one _ (quoted (c ∷ bs)) (quote_in (c ∷ bs)))))

-- the text's end
abbrev pub ends : Token → Bool
ends finish = true
ends (int n) = false
ends (word w) = false
ends (header h) = false
ends (str bs) = false
ends aname = false
ends (sign s) = false
ends body = false
ends end = false
ends abort = false
ends bad = false

-- a token that takes a byte, of so many
pub record Takes (k : ℕ) (t : Taken) : Type 0 where
  pub some : 0 < t.size
  pub most : t.size ≤ k
  pub token : ends t.token ≡ false

-- by its parts
takes : (k n : ℕ) (t : Token) → 0 < n → n ≤ k → ends t ≡ false → Takes k (taken t n)
takes k n t l h e = record { some = l; most = h; token = e }

-- digits are not the text's end
digits_token : (ds : List ℕ) → ends (digits ds) ≡ false
digits_token ds = by_test (is_int ds) (λ e. rw e) (λ e. rw e)

-- each form takes a byte, and no more than there are
number_takes : (b : ℕ) (bs : List ℕ) → is_digit b ≡ true → Takes (length (b ∷ bs)) (number (b ∷ bs))
unfolding number
number_takes b bs e = takes _ _ _ (omega (arith, run_some is_digit b bs e)) (run_le is_digit (b ∷ bs)) (digits_token (take (run is_digit (b ∷ bs)) (b ∷ bs)))

-- `:` is not 0
not_both : (b : ℕ) → b ≡ 0 → eqb b 58 ≡ true → ⊥
not_both b z e = omega (arith, eqb-true b 58 e)

named_takes : (b : ℕ) (bs : List ℕ) → is_letter b ≡ true → Takes (length (b ∷ bs)) (named (b ∷ bs))
unfolding named
named_takes b bs e =
    let some = run_some is_name b bs (letter_name b e) in
    let most = run_le is_name (b ∷ bs) in
    by_test (eqb (get_or (b ∷ bs) (run is_name (b ∷ bs)) 0) 58)
    (λ q. rw q (takes _ _ _ (omega arith) (byte_in (b ∷ bs) _ (λ z. not_both (get_or (b ∷ bs) (run is_name (b ∷ bs)) 0) z q)) refl))
    (λ q. rw q (takes _ _ _ (omega arith) most refl))

closed_takes : (bs : List ℕ) (o : Option ℕ) → QuoteIn (length bs) o → Takes (suc (length bs)) (closed bs o)
closed_takes bs none h = takes _ _ _ (omega arith) (omega arith) refl
closed_takes bs (some k) h = takes _ _ _ (omega arith) (omega arith) refl

at_takes : (bs : List ℕ) → Takes (suc (length bs)) (at bs)
unfolding at
at_takes bs =
    by_test (eqb (run is_name bs) 0) (λ e. rw e (takes _ _ _ (omega arith) (omega arith) refl))
    (λ e. rw e (takes _ _ _ (omega arith) (omega (arith, run_le is_name bs)) refl))

fixed_takes : (b : ℕ) (bs : List ℕ) → Takes (length (b ∷ bs)) (fixed (b ∷ bs))
unfolding fixed bytes
fixed_takes b bs =
    let all = b ∷ bs in
    by_test (begins (bytes "--BODY--") all) (λ e. rw e (takes _ _ _ (omega arith) (begins_le (bytes "--BODY--") all e) refl))
    (λ e.
    by_test (begins (bytes "--END--") all) (λ q. rw (e, q) (takes _ _ _ (omega arith) (begins_le (bytes "--END--") all q) refl))
    (λ q.
    by_test (begins (bytes "--ABORT--") all) (λ a. rw (e, q, a) (takes _ _ _ (omega arith) (begins_le (bytes "--ABORT--") all a) refl))
    (λ a. rw (e, q, a) (takes _ _ _ (omega arith) (omega arith) refl))))

single_takes : (k : ℕ) (o : Option Sign) → Takes (suc k) (single o)
single_takes k none = takes _ _ _ (omega arith) (omega arith) refl
single_takes k (some s) = takes _ _ _ (omega arith) (omega arith) refl

-- each token takes a byte
pub front_takes : (b : ℕ) (bs : List ℕ) → Takes (length (b ∷ bs)) (front (b ∷ bs))
unfolding front
front_takes b bs =
    by_test (is_digit b) (λ e. rw e (number_takes b bs e))
    (λ d.
    by_test (is_letter b) (λ e. rw (d, e) (named_takes b bs e))
    (λ l.
    by_test (eqb b 34) (λ e. rw (d, l, e) (closed_takes bs (quoted bs) (quote_in bs)))
    (λ q.
    by_test (eqb b 64) (λ e. rw (d, l, q, e) (at_takes bs))
    (λ a. by_test (eqb b 45) (λ e. rw (d, l, q, a, e) (fixed_takes b bs)) (λ f. rw (d, l, q, a, f) (single_takes (length bs) (sign_of b)))))))
