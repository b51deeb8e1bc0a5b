-- Values that are words: where one stops, and which words a form has. Assumes nothing.
use mathlib.Core.Path.{◌≡◌, refl, sym, ap, subst, ◌∙◌}
use mathlib.Core.Bool.{Bool, true, false, false≢true, cond}
use mathlib.Core.Logic.{◌⊎◌, inl, inr, ⊎_elim}
use mathlib.Core.List.{List, [], ◌∷◌, ◌++◌}
use mathlib.Core.Option.{Option, some, none}
use Prim.Native.Nat.{ℕ, suc, ◌+◌, ◌-◌, ◌≤◌, max}
use Rattle.marks.proofs.Cases.{below}
use native.Mathlib.Omega.{arith}
use lib.Dec.{eqb}
use lib.ListN.{length, take, drop, length-append}
use borrow.Author.Tests.{eqb-true, eq-eqb}
use Rattle.table.specs.Row.{part}
use Rattle.job_values.specs.declared.value.Form.TheVariants.{Two}
use Rattle.job_values.specs.declared.value.Kind.TheVariants.{Buchi, Streett, Rabin}
use Rattle.job_values.specs.Bytes.{newline, ahead, same}
use Rattle.job_values.specs.Value.{text_form, kind, buchi, streett, rabin, end as end_word, job}
use Rattle.job_values.specs.Column.{given}
use Rattle.job_values.specs.inner.Field.{Within, Ended, Stuck, agree}
use Rattle.job_values.specs.inner.Told.{Unformed, WordAt, EndAt}
use Rattle.std.specs.Prelude.{Result, Ok, Err}
use Rattle.job_values.proofs.Cut.{by_test}
use Rattle.job_values.proofs.Sets.{stuck_grow}
use Rattle.job_values.proofs.Words.{agree_left, value_long, word_stuck}
use Rattle.job_values.proofs.Losses.{line_is}

-- ---- the same bytes

pub same_is : (u w : List ℕ) → same u w ≡ true → u ≡ w
unfolding same
same_is [] [] e = refl
same_is [] (b ∷ w) e = absurd (false≢true e)
same_is (a ∷ u) [] e = absurd (false≢true e)
same_is (a ∷ u) (b ∷ w) e =
    by_test (eqb a b)
    (λ t. rw (eqb-true a b t) (ap (λ (z : List ℕ). b ∷ z) (same_is u w (rw t at e))))
    (λ t. absurd (false≢true (rw t at e)))

pub same_refl : (w : List ℕ) → same w w ≡ true
unfolding same
same_refl [] = refl
same_refl (b ∷ w) = rw (eq-eqb b b refl) (same_refl w)

-- ---- the value of a line has no newline byte

ahead_take : (b : ℕ) (l : List ℕ) → ahead b (take (ahead b l) l) ≡ length (take (ahead b l) l)
unfolding ahead
ahead_take b [] = refl
ahead_take b (x ∷ l) = by_test (eqb x b) (λ t. rw t) (λ t. rw (t, t) (ap suc (ahead_take b l)))

module _ (text : List ℕ) (at end : ℕ) (w : Within text at end) where
  pub value_free : ahead newline (part at end text) ≡ length (part at end text)
  value_free = rw w.first at (ahead_take newline (drop at text))

  -- a value that is none of the form's words, and agrees furthest with one of them
  pub word_unformed : {A : Type 0} (form : List ℕ → Option A) (e : ℕ) → form (part at end text) ≡ none
      → (word : List ℕ) → given (form word) ≡ true → e ≡ at + agree (part at end text) word
      → ((u : List ℕ) → given (form u) ≡ true → (at + agree (part at end text) u ≤ e) × (ahead newline u ≡ length u))
      → Unformed form text at end e
  word_unformed form e n word g q all =
      let l : agree (part at end text) word ≤ end - at = omega (arith, agree_left (part at end text) word, value_long text at end w word) in
      let k : e - at ≡ agree (part at end text) word = omega (arith, q) in
      let s : Stuck (Ended newline form) (part at end text ++ (newline ∷ [])) (e - at) =
      word_stuck form (part at end text) (e - at) n value_free (λ u h. (omega (arith, (all u h).0, q), (all u h).1)) word g (sym k) in
      record {
        none_said = n;
        lost =
            record {
              ordered = omega (arith, q);
              ends = omega (arith, q, l, w.ordered);
              stuck =
                  subst (λ (z : List ℕ). Stuck (Ended newline form) z (e - at)) (sym (line_is text at end w))
                  (stuck_grow (Ended newline form) (part at end text ++ (newline ∷ [])) (drop (suc end) text) (e - at) (omega (arith, k, l, value_long text at end w word, length-append (part at end text) (newline ∷ []))) s);
            };
      }

  -- the only word
  pub only_unformed : {A : Type 0} (form : List ℕ → Option A) (e : ℕ) → form (part at end text) ≡ none → (word : List ℕ) → given (form word) ≡ true
      → ((u : List ℕ) → given (form u) ≡ true → u ≡ word) → ahead newline word ≡ length word → e ≡ at + agree (part at end text) word → Unformed form text at end e
  only_unformed form e n word g only free q =
      word_unformed form e n word g q
      (λ u h. (omega (arith, q, ap (agree (part at end text)) (only u h)), ap (ahead newline) (only u h) ∙ free ∙ ap length (sym (only u h))))

-- ---- the words of each form

cond_given : {A : Type 0} (t : Bool) (a : A) (o : Option A) → given (cond t (some a) o) ≡ true → (t ≡ true) ⊎ (given o ≡ true)
cond_given true a o g = inl refl
cond_given false a o g = inr g

pub form_only : (u : List ℕ) → given (text_form u) ≡ true → u ≡ 50 ∷ []
unfolding text_form
form_only u g = ⊎_elim (λ t. same_is u (50 ∷ []) t) (λ h. absurd (false≢true h)) (cond_given (same u (50 ∷ [])) Two none g)

pub end_only : (u : List ℕ) → given (end_word u) ≡ true → u ≡ job
unfolding end_word
end_only u g = ⊎_elim (λ t. same_is u job t) (λ h. absurd (false≢true h)) (cond_given (same u job) tt none g)

pub kind_one : (u : List ℕ) → given (kind u) ≡ true → (u ≡ buchi) ⊎ ((u ≡ streett) ⊎ (u ≡ rabin))
unfolding kind
kind_one u g =
    ⊎_elim (λ t. inl (same_is u buchi t))
    (λ h.
    ⊎_elim (λ t. inr (inl (same_is u streett t)))
    (λ i. ⊎_elim (λ t. inr (inr (same_is u rabin t))) (λ j. absurd (false≢true j)) (cond_given (same u rabin) Rabin none i))
    (cond_given (same u streett) Streett (cond (same u rabin) (some Rabin) none) h))
    (cond_given (same u buchi) Buchi (cond (same u streett) (some Streett) (cond (same u rabin) (some Rabin) none)) g)

-- ---- each form's value in a line

form_free : ahead newline (50 ∷ []) ≡ 1
unfolding ahead
form_free = refl

end_free : ahead newline job ≡ 3
unfolding ahead
end_free = refl

buchi_free : ahead newline buchi ≡ 5
unfolding ahead
buchi_free = refl

streett_free : ahead newline streett ≡ 7
unfolding ahead
streett_free = refl

rabin_free : ahead newline rabin ≡ 5
unfolding ahead
rabin_free = refl

form_given : given (text_form (50 ∷ [])) ≡ true
unfolding text_form same
form_given = refl

end_given : given (end_word job) ≡ true
unfolding end_word same
end_given = refl

buchi_given : given (kind buchi) ≡ true
unfolding kind same
buchi_given = refl

streett_given : given (kind streett) ≡ true
unfolding kind same
streett_given = refl

rabin_given : given (kind rabin) ≡ true
unfolding kind same
rabin_given = refl

form_none : (v : List ℕ) → same v (50 ∷ []) ≡ false → text_form v ≡ none
unfolding text_form
form_none v e = rw e

pub form_some : (v : List ℕ) → same v (50 ∷ []) ≡ true → text_form v ≡ some Two
unfolding text_form
form_some v e = rw e

end_none : (v : List ℕ) → same v job ≡ false → end_word v ≡ none
unfolding end_word
end_none v e = rw e

pub end_some : (v : List ℕ) → same v job ≡ true → end_word v ≡ some tt
unfolding end_word
end_some v e = rw e

module _ (v : List ℕ) where
  pub kind_buchi : same v buchi ≡ true → kind v ≡ some Buchi
  unfolding kind
  kind_buchi e = rw e

  module _ (b : same v buchi ≡ false) where
    pub kind_streett : same v streett ≡ true → kind v ≡ some Streett
    unfolding kind
    kind_streett e = rw (b, e)

    module _ (s : same v streett ≡ false) where
      pub kind_rabin : same v rabin ≡ true → kind v ≡ some Rabin
      unfolding kind
      kind_rabin e = rw (b, s, e)

      kind_none : same v rabin ≡ false → kind v ≡ none
      unfolding kind
      kind_none e = rw (b, s, e)

module _ (text : List ℕ) (at end : ℕ) (w : Within text at end) where
  pub form_lost : (e : ℕ) → (same (part at end text) (50 ∷ []) ≡ false) × (e ≡ at + agree (part at end text) (50 ∷ [])) → Unformed text_form text at end e
  form_lost e h = only_unformed text at end w text_form e (form_none (part at end text) h.0) (50 ∷ []) form_given form_only form_free h.1

  pub end_lost : (e : ℕ) → (same (part at end text) job ≡ false) × (e ≡ at + agree (part at end text) job) → Unformed end_word text at end e
  end_lost e h = only_unformed text at end w end_word e (end_none (part at end text) h.0) job end_given end_only end_free h.1

  pub end_told : (r : Result (Unit {0}) ℕ) → WordAt text at end job r → EndAt text at end r
  end_told (Ok u) h = end_some (part at end text) h
  end_told (Err e) h = end_lost e h

  module _ (b s r : ℕ) (hb : (same (part at end text) buchi ≡ false) × (b ≡ at + agree (part at end text) buchi))
      (hs : (same (part at end text) streett ≡ false) × (s ≡ at + agree (part at end text) streett))
      (hr : (same (part at end text) rabin ≡ false) × (r ≡ at + agree (part at end text) rabin)) where
    abbrev furthest : ℕ
    furthest = max (max b s) r

    kind_all : (u : List ℕ) → given (kind u) ≡ true → (at + agree (part at end text) u ≤ furthest) × (ahead newline u ≡ length u)
    kind_all u g =
        ⊎_elim (λ (q : u ≡ buchi). rw q (omega (arith, hb.1), buchi_free))
        (λ (o : (u ≡ streett) ⊎ (u ≡ rabin)).
        ⊎_elim (λ (q : u ≡ streett). rw q (omega (arith, hs.1), streett_free)) (λ (q : u ≡ rabin). rw q (omega (arith, hr.1), rabin_free)) o)
        (kind_one u g)

    none_here : kind (part at end text) ≡ none
    none_here = kind_none (part at end text) hb.0 hs.0 hr.0

    one_of : (furthest ≡ b) ⊎ ((furthest ≡ s) ⊎ (furthest ≡ r))
    one_of =
        below (max b s) r (λ l. inr (inr (omega arith)))
        (λ l. below b s (λ h. inr (inl (omega arith))) (λ h. inl (omega arith)))

    pub kind_lost : Unformed kind text at end (max (max b s) r)
    kind_lost =
        ⊎_elim (λ (q : furthest ≡ b). word_unformed text at end w kind furthest none_here buchi buchi_given (q ∙ hb.1) kind_all)
        (λ (o : (furthest ≡ s) ⊎ (furthest ≡ r)).
        ⊎_elim (λ (p : furthest ≡ s). word_unformed text at end w kind furthest none_here streett streett_given (p ∙ hs.1) kind_all)
        (λ (p : furthest ≡ r). word_unformed text at end w kind furthest none_here rabin rabin_given (p ∙ hr.1) kind_all) o)
        one_of
