-- A mark of one byte takes one byte: the place of the `]` that shuts a label is the byte before the one behind it. Assumes nothing.
use mathlib.Core.Path.{◌≡◌, refl, sym, ◌∙◌}
use mathlib.Core.Bool.{Bool, true, false, false≢true}
use mathlib.Core.List.{List, [], ◌∷◌}
use mathlib.Core.Option.{Option, some, none}
use Prim.Native.Nat.{ℕ, zero, suc, ◌-◌}
use native.Mathlib.Omega.{arith}
use lib.Dec.{eqb, ltb}
use lib.ListN.{length, take, drop, get_or}
use Rattle.hoa_tokens.specs.declared.Sign.{Sign}
use Rattle.hoa_tokens.specs.Bytes.{bytes, is_digit, is_letter, is_name, run}
use Rattle.hoa_tokens.specs.Token.{Token, int, word, header, str, aname, sign, body, end, abort, finish, bad, Taken}
use Rattle.hoa_tokens.specs.Token.{is_int, digits, number, named, quoted, closed, at, begins, fixed, sign_of, single, front}
use Rattle.hoa_tokens.specs.Stream.{Gap, gap, unclosed, lost, gap_of, Placed, first_of, first, unless_finished, tokens_at, some as up_to}
use Rattle.hoa_tokens.proofs.Sizes.{by_test}
use Rattle.hoa_label.specs.declared.Wanted.{Wanted}
use Rattle.hoa_label.specs.declared.Wanted.TheVariants as wanted_is
use Rattle.hoa_label.specs.Label.{most_levels}
use Rattle.hoa_label.specs.Labels.{LabelState, wants, Has, LabelStep, go, shut, wrong, Frame, on_wanted, wanted, behind, step_within, label_step}

abbrev pub is_sign : Token → Bool
is_sign (sign s) = true
is_sign (int i) = false
is_sign (word w) = false
is_sign (header h) = false
is_sign (str bs) = false
is_sign aname = false
is_sign body = false
is_sign end = false
is_sign abort = false
is_sign finish = false
is_sign bad = false

-- one byte, if it is a mark of one byte
abbrev OneByte : Taken → Type 0
OneByte t = is_sign t.token ≡ true → t.size ≡ 1

-- ---- the token at the front of bytes

digits_no_sign : (ds : List ℕ) → is_sign (digits ds) ≡ false
digits_no_sign ds = by_test (is_int ds) (λ e. rw e) (λ e. rw e)

number_one : (bs : List ℕ) → OneByte (number bs)
unfolding number
number_one bs h = absurd (false≢true (sym (digits_no_sign (take (run is_digit bs) bs)) ∙ h))

named_one : (bs : List ℕ) → OneByte (named bs)
unfolding named
named_one bs =
    by_test (eqb (get_or bs (run is_name bs) 0) 58) (λ e. rw e (λ h. absurd (false≢true h))) (λ e. rw e (λ h. absurd (false≢true h)))

closed_one : (bs : List ℕ) (o : Option ℕ) → OneByte (closed bs o)
closed_one bs none h = absurd (false≢true h)
closed_one bs (some k) h = absurd (false≢true h)

at_one : (bs : List ℕ) → OneByte (at bs)
unfolding at
at_one bs = by_test (eqb (run is_name bs) 0) (λ e. rw e (λ h. refl)) (λ e. rw e (λ h. absurd (false≢true h)))

fixed_one : (bs : List ℕ) → OneByte (fixed bs)
unfolding fixed
fixed_one bs =
    by_test (begins (bytes "--BODY--") bs) (λ e. rw e (λ h. absurd (false≢true h)))
    (λ e.
    by_test (begins (bytes "--END--") bs) (λ q. rw (e, q) (λ h. absurd (false≢true h)))
    (λ q. by_test (begins (bytes "--ABORT--") bs) (λ a. rw (e, q, a) (λ h. absurd (false≢true h))) (λ a. rw (e, q, a) (λ h. refl))))

single_one : (o : Option Sign) → OneByte (single o)
single_one none h = refl
single_one (some s) h = refl

front_one : (bs : List ℕ) → OneByte (front bs)
unfolding front
front_one [] = λ h. absurd (false≢true h)
front_one (b ∷ bs) =
    by_test (is_digit b) (λ e. rw e (number_one (b ∷ bs)))
    (λ d.
    by_test (is_letter b) (λ e. rw (d, e) (named_one (b ∷ bs)))
    (λ l.
    by_test (eqb b 34) (λ e. rw (d, l, e) (closed_one bs (quoted bs)))
    (λ q.
    by_test (eqb b 64) (λ e. rw (d, l, q, e) (at_one bs))
    (λ a. by_test (eqb b 45) (λ e. rw (d, l, q, a, e) (fixed_one (b ∷ bs))) (λ f. rw (d, l, q, a, f) (single_one (sign_of b)))))))

-- ---- the tokens of a text

abbrev pub SignTakes : Placed → Type 0
SignTakes p = is_sign p.token ≡ true → p.place ≡ p.next - 1

first_of_takes : (at : ℕ) (bs : List ℕ) (g : Gap) → SignTakes (first_of at bs g)
first_of_takes at bs (gap n) h = omega (arith, front_one (drop n bs) h)
first_of_takes at bs (unclosed n) h = absurd (false≢true h)
first_of_takes at bs lost h = absurd (false≢true h)

first_takes : (at : ℕ) (bs : List ℕ) → SignTakes (first at bs)
unfolding first
first_takes at bs = first_of_takes at bs (gap_of bs zero)

abbrev pub AllTake : List Placed → Type 0
AllTake [] = Unit
AllTake (p ∷ ps) = SignTakes p × AllTake ps

unless_takes : (t : Token) (ps : List Placed) → AllTake ps → AllTake (unless_finished t ps)
unless_takes (sign s) ps h = h
unless_takes (int i) ps h = h
unless_takes (word w) ps h = h
unless_takes (header x) ps h = h
unless_takes (str bs) ps h = h
unless_takes aname ps h = h
unless_takes body ps h = h
unless_takes end ps h = h
unless_takes abort ps h = h
unless_takes finish ps h = tt
unless_takes bad ps h = h

some_take : (k : ℕ) (text : List ℕ) (at : ℕ) → AllTake (up_to k text at)
unfolding up_to
some_take zero text at = tt
some_take (suc k) text at = (
  first_takes at (drop at text),
  unless_takes (first at (drop at text)).token (up_to k text (first at (drop at text)).next) (some_take k text (first at (drop at text)).next),
)

pub signs_take : (text : List ℕ) (at : ℕ) → AllTake (tokens_at text at)
unfolding tokens_at
signs_take text at = some_take (suc (length text)) text at

-- ---- the token that shuts a label

abbrev pub is_shut : LabelStep → Bool
is_shut (go s) = false
is_shut (shut x) = true
is_shut (wrong n) = false

wanted_shuts : (f : Frame) (fs : List Frame) (w : Wanted) → is_shut (on_wanted f fs w) ≡ false
wanted_shuts f fs (wanted_is.Set x) = refl
wanted_shuts f fs wanted_is.Not = refl
wanted_shuts f fs wanted_is.Deeper = refl
wanted_shuts f fs (wanted_is.Wrong n) = refl

pub shut_sign : (a : ℕ) (s : LabelState) (t : Token) → is_shut (label_step a s t) ≡ true → is_sign t ≡ true
unfolding label_step step_within behind
shut_sign a (wants f fs) t h = absurd (false≢true (sym (wanted_shuts f fs (wanted a (ltb (length fs) most_levels) t)) ∙ h))
shut_sign a (Has o c fs) (sign s) h = refl
shut_sign a (Has o c fs) (int i) h = absurd (false≢true h)
shut_sign a (Has o c fs) (word w) h = absurd (false≢true h)
shut_sign a (Has o c fs) (header x) h = absurd (false≢true h)
shut_sign a (Has o c fs) (str bs) h = absurd (false≢true h)
shut_sign a (Has o c fs) aname h = absurd (false≢true h)
shut_sign a (Has o c fs) body h = absurd (false≢true h)
shut_sign a (Has o c fs) end h = absurd (false≢true h)
shut_sign a (Has o c fs) abort h = absurd (false≢true h)
shut_sign a (Has o c fs) finish h = absurd (false≢true h)
shut_sign a (Has o c fs) bad h = absurd (false≢true h)
