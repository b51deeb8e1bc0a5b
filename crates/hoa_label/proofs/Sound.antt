-- What is read to its `]` is a label of the grammar, with a propositions, whose brackets nest at most `levels` deep (`sound`). Each admitted token puts a piece in
-- front of what is left: of a level behind a factor the `Ends`, of one that wants a factor that factor first (`Factored`). Assumes nothing.
use mathlib.Core.Bool.{Bool, true, false, cond}
use mathlib.Core.List.{List, [], ◌∷◌, ◌++◌}
use mathlib.Core.Path.{◌≡◌, refl, sym, ap, subst, ◌∙◌}
use Prim.Native.Nat.{ℕ, zero, suc, ◌+◌, ◌≤◌}
use native.Mathlib.Omega.{arith}
use borrow.Author.Tests.{ltb-true}
use lib.Dec.{ltb}
use lib.ListN.{length}
use Rattle.hoa_tokens.specs.declared.Word.{Word}
use Rattle.hoa_tokens.specs.declared.Word.TheVariants as word_is
use Rattle.hoa_tokens.specs.declared.Sign.{Sign}
use Rattle.hoa_tokens.specs.declared.Sign.TheVariants as sign_is
use Rattle.hoa_tokens.specs.Token.{Token, int, word, header, str, aname, sign, body, end, abort, finish, bad}
use Rattle.hoa_label.specs.declared.Wanted.TheVariants as wanted_is
use Rattle.hoa_label.specs.Label.{
  Label,
  conj,
  or,
  factor,
  and,
  Lfactor,
  truth,
  falsity,
  prop,
  negated,
  nested,
  label_text,
  factor_text,
  label_fits,
  factor_fits,
  label_depth,
  factor_depth,
  Within,
}
use Rattle.hoa_label.specs.Labels.{
  prop_set,
  Frame,
  LabelState,
  wants,
  Has,
  label_begin,
  LabelStep,
  go,
  shut,
  wrong,
  step_within,
  wanted,
  wanted_word,
  wanted_sign,
  on_wanted,
  behind,
  behind_sign,
  on_behind,
  is_outermost,
  going,
  closed,
  walk_by,
  walk_within,
}
use Rattle.hoa_label.proofs.Sets.{label_set}
use Rattle.hoa_label.proofs.Walks.{closed_going, faulty_going, closed_faulty, going_inj, closed_set, closed_rest}
use Rattle.hoa_label.proofs.Complete.{complete}

-- the factor in front of the label's first conjunction
and_front : Lfactor → Label → Label
and_front x (conj c) = conj (and x c)
and_front x (or c l) = or (and x c) l

-- its tokens
front_text : (x : Lfactor) (l : Label) (rest : List Token) → label_text (and_front x l) rest ≡ factor_text x (sign sign_is.And ∷ label_text l rest)
unfolding and_front label_text
front_text x (conj c) rest = refl
front_text x (or c l) rest = refl

-- it fits
front_fits : (x : Lfactor) (l : Label) (a : ℕ) → factor_fits x a → label_fits l a → label_fits (and_front x l) a
unfolding and_front label_fits
front_fits x (conj c) a f g = (f, g)
front_fits x (or c l) a f g = ((f, g.0), g.1)

-- it is as deep as its parts
front_deep : (x : Lfactor) (l : Label) (d levels : ℕ) → factor_depth x + d ≤ levels → label_depth l + d ≤ levels → label_depth (and_front x l) + d ≤ levels
unfolding and_front label_depth
front_deep x (conj c) d levels f g = omega arith
front_deep x (or c l) d levels f g = omega arith

-- where `S` holds propositions are below a, where `D` holds brackets nest at most `levels` deep
module _ (S D : Type 0) (levels a : ℕ) (rest : List Token) where
  -- a factor with a propositions, d levels deep
  pub record Fits (d : ℕ) (x : Lfactor) : Type 0 where
    pub fits : S → factor_fits x a
    pub deep : D → factor_depth x + d ≤ levels

  -- behind a factor, d levels deep, the tokens lead to the label's `]`, and `rest` follows
  pub data Ends : ℕ → List Token → Type 0 where
    last : Ends 0 (sign sign_is.BracketRight ∷ rest)
    out : {d : ℕ} {ts : List Token} → Ends d ts → Ends (suc d) (sign sign_is.ParenRight ∷ ts)
    more_and : {d : ℕ} {ts us : List Token} (x : Lfactor) → Fits d x → us ≡ factor_text x ts → Ends d ts → Ends d (sign sign_is.And ∷ us)
    more_or : {d : ℕ} {ts us : List Token} (x : Lfactor) → Fits d x → us ≡ factor_text x ts → Ends d ts → Ends d (sign sign_is.Or ∷ us)

  -- where a factor is wanted
  pub record Factored (d : ℕ) (ts : List Token) : Type 0 where
    pub first : Lfactor
    pub fit : Fits d first
    pub after : List Token
    pub text : ts ≡ factor_text first after
    pub ends : Ends d after

  -- what shuts the level that is d deep, and what follows
  abbrev pub After : ℕ → List Token → Type 0
  After zero us = us ≡ sign sign_is.BracketRight ∷ rest
  After (suc d) us = (ts : List Token) × ((us ≡ sign sign_is.ParenRight ∷ ts) × Ends d ts)

  -- a whole level
  pub record Whole (d : ℕ) (ts : List Token) : Type 0 where
    pub label : Label
    pub fits : S → label_fits label a
    pub deep : D → label_depth label + d ≤ levels
    pub after : List Token
    pub text : ts ≡ label_text label after
    pub shuts : After d after

  -- the pieces of a level make a label
  gather : (x : Lfactor) {d : ℕ} {ts : List Token} → Fits d x → Ends d ts → Whole d (factor_text x ts)
  unfolding label_text label_fits label_depth
  gather x h last = record { label = conj (factor x); fits = h.fits; deep = h.deep; after = sign sign_is.BracketRight ∷ rest; text = refl; shuts = refl }
  gather x h (out {ts = ts} e) =
      record { label = conj (factor x); fits = h.fits; deep = h.deep; after = sign sign_is.ParenRight ∷ ts; text = refl; shuts = (ts, (refl, e)) }
  gather x {d} h (more_and y g q e) =
      let w = gather y g e in
      record {
        label = and_front x w.label;
        fits = λ s. front_fits x w.label a (h.fits s) (w.fits s);
        deep = λ k. front_deep x w.label d levels (h.deep k) (w.deep k);
        after = w.after;
        text = ap (λ (us : List Token). factor_text x (sign sign_is.And ∷ us)) (q ∙ w.text) ∙ sym (front_text x w.label w.after);
        shuts = w.shuts;
      }
  gather x {d} h (more_or y g q e) =
      let w = gather y g e in
      record {
        label = or (factor x) w.label;
        fits = λ s. (h.fits s, w.fits s);
        deep = λ k. omega (arith, h.deep k, w.deep k);
        after = w.after;
        text = ap (λ (us : List Token). factor_text x (sign sign_is.Or ∷ us)) (q ∙ w.text);
        shuts = w.shuts;
      }

  -- ---- one token in front

  -- the levels outside
  abbrev pub frames_of : LabelState → List Frame
  frames_of (wants f fs) = fs
  frames_of (Has o k fs) = fs

  -- the tokens lead on from the state to the label's `]`
  abbrev pub Rests : LabelState → List Token → Type 0
  Rests (wants f fs) ts = Factored (length fs) ts
  Rests (Has o k fs) ts = Ends (length fs) ts

  -- the levels outside are no more than there may be
  abbrev pub Few : List Frame → Type 0
  Few fs = D → length fs ≤ levels

  -- what is asked of the tokens behind a step
  abbrev Next : LabelStep → List Token → Type 0
  Next (go s) ts = Few (frames_of s) → Rests s ts
  Next (shut x) ts = ts ≡ rest
  Next (wrong n) ts = ⊥

  module _ (ts : List Token) where
    -- a single token that is a factor
    lone : (y : Lfactor) (t : Token) (s : LabelState) → (S → factor_fits y a) → factor_depth y ≡ 0 → t ∷ ts ≡ factor_text y ts → Few (frames_of s)
        → Ends (length (frames_of s)) ts → Factored (length (frames_of s)) (t ∷ ts)
    lone y t s f d q h e = record { first = y; fit = record { fits = f; deep = λ k. omega (arith, h k) }; after = ts; text = q; ends = e }

    -- a word
    by_word : (w : Word) (f : Frame) (fs : List Frame) → Few fs
        → Next (on_wanted f fs (wanted_word w)) ts → Factored (length fs) (word w ∷ ts)
    unfolding label_text label_fits label_depth
    by_word word_is.True f fs h e = lone truth (word word_is.True) (Has 0 0 fs) (λ k. tt) refl refl h (e h)
    by_word word_is.False f fs h e = lone falsity (word word_is.False) (Has 0 0 fs) (λ k. tt) refl refl h (e h)
    by_word word_is.V1 f fs h e = absurd e
    by_word word_is.Inf f fs h e = absurd e
    by_word word_is.Fin f fs h e = absurd e
    by_word word_is.Other f fs h e = absurd e

    -- an INT
    by_int : (below : Bool) (i : ℕ) (f : Frame) (fs : List Frame) → ltb i a ≡ below → Few fs
        → Next (on_wanted f fs (cond below (wanted_is.Set (prop_set i)) (wanted_is.Wrong 41))) ts
        → Factored (length fs) (int i ∷ ts)
    unfolding label_text label_fits label_depth
    by_int true i f fs q h e = lone (prop i) (int i) (Has 0 0 fs) (λ k. ltb-true i a q) refl refl h (e h)
    by_int false i f fs q h e = absurd e

    -- a `!`
    flip : {d : ℕ} → Factored d ts → Factored d (sign sign_is.Not ∷ ts)
    unfolding label_text label_fits label_depth
    flip w =
        record {
          first = negated w.first;
          fit = record { fits = w.fit.fits; deep = w.fit.deep };
          after = w.after;
          text = ap (λ (us : List Token). sign sign_is.Not ∷ us) w.text;
          ends = w.ends;
        }

    -- the pieces inside a `(` make a label
    bracket : {d : ℕ} → Whole (suc d) ts → Factored d (sign sign_is.ParenLeft ∷ ts)
    unfolding label_text label_fits label_depth
    bracket {d} w =
        record {
          first = nested w.label;
          fit = record { fits = w.fits; deep = λ k. omega (arith, w.deep k) };
          after = w.shuts.0;
          text = ap (λ (us : List Token). sign sign_is.ParenLeft ∷ us) (w.text ∙ ap (label_text w.label) w.shuts.1.0);
          ends = w.shuts.1.1;
        }

    -- the pieces of a level, gathered
    pub whole : {d : ℕ} → Factored d ts → Whole d ts
    whole w = rw w.text (gather w.first w.fit w.ends)

    -- a `(`
    by_level : (room : Bool) (f : Frame) (fs : List Frame) → ltb (length fs) levels ≡ room
        → Next (on_wanted f fs (cond room wanted_is.Deeper (wanted_is.Wrong 42))) ts
        → Factored (length fs) (sign sign_is.ParenLeft ∷ ts)
    by_level true f fs q e = bracket (whole (e (λ k. ltb-true (length fs) levels q)))
    by_level false f fs q e = absurd e

    -- a mark where a factor is wanted
    by_sign : (s : Sign) (f : Frame) (fs : List Frame) → Few fs
        → Next (on_wanted f fs (wanted_sign (ltb (length fs) levels) s)) ts → Factored (length fs) (sign s ∷ ts)
    by_sign sign_is.ParenLeft f fs h e = by_level (ltb (length fs) levels) f fs refl e
    by_sign sign_is.Not f fs h e = flip (e h)
    by_sign sign_is.ParenRight f fs h e = absurd e
    by_sign sign_is.BracketLeft f fs h e = absurd e
    by_sign sign_is.BracketRight f fs h e = absurd e
    by_sign sign_is.BraceLeft f fs h e = absurd e
    by_sign sign_is.BraceRight f fs h e = absurd e
    by_sign sign_is.And f fs h e = absurd e
    by_sign sign_is.Or f fs h e = absurd e

    -- where a factor is wanted
    front_wants : (t : Token) (f : Frame) (fs : List Frame) → Few fs
        → Next (on_wanted f fs (wanted a (ltb (length fs) levels) t)) ts → Factored (length fs) (t ∷ ts)
    unfolding wanted
    front_wants (int i) f fs h e = by_int (ltb i a) i f fs refl h e
    front_wants (word w) f fs h e = by_word w f fs h e
    front_wants (sign s) f fs h e = by_sign s f fs h e
    front_wants aname f fs h e = absurd e
    front_wants abort f fs h e = absurd e
    front_wants (header k) f fs h e = absurd e
    front_wants (str bs) f fs h e = absurd e
    front_wants body f fs h e = absurd e
    front_wants end f fs h e = absurd e
    front_wants finish f fs h e = absurd e
    front_wants bad f fs h e = absurd e

    -- a `)`
    by_paren : (o k : ℕ) (fs : List Frame) → Few fs
        → Next (on_behind o k fs (behind_sign (is_outermost fs) sign_is.ParenRight)) ts
        → Ends (length fs) (sign sign_is.ParenRight ∷ ts)
    by_paren o k [] h e = absurd e
    by_paren o k (f ∷ fs) h e = out (e (λ k. omega (arith, h k)))

    -- a `]`
    by_bracket : (o k : ℕ) (fs : List Frame)
        → Next (on_behind o k fs (behind_sign (is_outermost fs) sign_is.BracketRight)) ts
        → Ends (length fs) (sign sign_is.BracketRight ∷ ts)
    by_bracket o k [] e = rw e last
    by_bracket o k (f ∷ fs) e = absurd e

    -- a mark behind a factor
    behind_sign_lem : (s : Sign) (o k : ℕ) (fs : List Frame) → Few fs
        → Next (on_behind o k fs (behind_sign (is_outermost fs) s)) ts → Ends (length fs) (sign s ∷ ts)
    behind_sign_lem sign_is.And o k fs h e = let w = e h in more_and w.first w.fit w.text w.ends
    behind_sign_lem sign_is.Or o k fs h e = let w = e h in more_or w.first w.fit w.text w.ends
    behind_sign_lem sign_is.ParenRight o k fs h e = by_paren o k fs h e
    behind_sign_lem sign_is.BracketRight o k fs h e = by_bracket o k fs e
    behind_sign_lem sign_is.ParenLeft o k fs h e = absurd e
    behind_sign_lem sign_is.BracketLeft o k fs h e = absurd e
    behind_sign_lem sign_is.BraceLeft o k fs h e = absurd e
    behind_sign_lem sign_is.BraceRight o k fs h e = absurd e
    behind_sign_lem sign_is.Not o k fs h e = absurd e

    -- behind a factor
    front_has : (t : Token) (o k : ℕ) (fs : List Frame) → Few fs
        → Next (on_behind o k fs (behind (is_outermost fs) t)) ts → Ends (length fs) (t ∷ ts)
    unfolding behind
    front_has (sign s) o k fs h e = behind_sign_lem s o k fs h e
    front_has (int i) o k fs h e = absurd e
    front_has (word w) o k fs h e = absurd e
    front_has aname o k fs h e = absurd e
    front_has abort o k fs h e = absurd e
    front_has (header n) o k fs h e = absurd e
    front_has (str bs) o k fs h e = absurd e
    front_has body o k fs h e = absurd e
    front_has end o k fs h e = absurd e
    front_has finish o k fs h e = absurd e
    front_has bad o k fs h e = absurd e

    -- any token
    front_any : (t : Token) (s : LabelState) → Few (frames_of s)
        → Next (step_within levels a s t) ts → Rests s (t ∷ ts)
    unfolding step_within
    front_any t (wants f fs) h e = front_wants t f fs h e
    front_any t (Has o k fs) h e = front_has t o k fs h e

  -- ---- many tokens in front

  -- the first step of a walk that goes on
  on_going : (u : LabelState) (ts us : List Token) (d : LabelStep)
      → ((s : LabelState) → walk_within levels a s ts ≡ going u → Few (frames_of s) → Rests s (ts ++ us))
      → walk_by d ts (λ s. walk_within levels a s ts) ≡ going u → Next d (ts ++ us)
  on_going u ts us (go s) more e = more s e
  on_going u ts us (shut x) more e = closed_going e
  on_going u ts us (wrong n) more e = faulty_going e

  -- tokens that lead to a state stand in front of what leads on from it
  pub pull : (u : LabelState) (us : List Token) → (Few (frames_of u) → Rests u us)
      → (ts : List Token) (s : LabelState) → walk_within levels a s ts ≡ going u → Few (frames_of s) → Rests s (ts ++ us)
  unfolding walk_within
  pull u us r [] s e h = subst (λ (v : LabelState). Few (frames_of v) → Rests v us) (sym (going_inj e)) r h
  pull u us r (t ∷ ts) s e h = front_any (ts ++ us) t s h (on_going u ts us (step_within levels a s t) (pull u us r ts) e)

  -- the first step of a walk that shuts the label
  on_closed : (x : ℕ) (ts : List Token) (d : LabelStep)
      → ((s : LabelState) → walk_within levels a s ts ≡ closed x rest → Few (frames_of s) → Rests s ts)
      → walk_by d ts (λ s. walk_within levels a s ts) ≡ closed x rest → Next d ts
  on_closed x ts (go s) more e = more s e
  on_closed x ts (shut y) more e = closed_rest e
  on_closed x ts (wrong n) more e = closed_faulty (sym e)

  -- tokens that shut the label lead on to its `]`
  rests : (x : ℕ) (ts : List Token) (s : LabelState) → walk_within levels a s ts ≡ closed x rest → Few (frames_of s) → Rests s ts
  unfolding walk_within
  rests x [] s e h = closed_going (sym e)
  rests x (t ∷ ts) s e h = front_any ts t s h (on_closed x ts (step_within levels a s t) (rests x ts) e)

-- ---- the theorems

-- what is read to its `]` is a label, with its set
pub record Sound (levels a x : ℕ) (ts rest : List Token) : Type 0 where
  pub label : Label
  pub within : Within levels a label
  pub text : ts ≡ label_text label (sign sign_is.BracketRight ∷ rest)
  pub set : x ≡ label_set label

-- from its `[` on
pub sound : (levels a x : ℕ) (ts rest : List Token) → walk_within levels a label_begin ts ≡ closed x rest → Sound levels a x ts rest
sound levels a x ts rest e =
    let w = whole Unit Unit levels a rest ts (rests Unit Unit levels a rest x ts label_begin e (λ k. omega arith)) in
    let t = w.text ∙ ap (label_text w.label) w.shuts in
    let i : Within levels a w.label = record { fits = w.fits tt; deep = omega (arith, w.deep tt) } in
    record {
      label = w.label;
      within = i;
      text = t;
      set = closed_set (sym e ∙ ap (walk_within levels a label_begin) t ∙ complete levels a w.label rest i);
    }
