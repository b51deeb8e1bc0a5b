-- Which token is faulty, and with which number. Tokens that are admitted begin a label that fits (`admitted`: no fault is late); a token that is refused is faulty
-- with its number (`faulty_token`); no token is faulty with two numbers (`one_fault`), so a token is refused exactly if it is faulty (`fault_exactly`). Assumes nothing.
use mathlib.Core.Bool.{Bool, true, false, cond, false≢true}
use mathlib.Core.List.{List, [], ◌∷◌, ◌++◌, append_assoc, append-nil}
use mathlib.Core.Logic.{◌↔◌, inl, inr, ⊎_elim}
use mathlib.Core.Path.{◌≡◌, refl, sym, ap, subst, ◌∙◌}
use Prim.Native.Nat.{ℕ, ◌≤◌}
use native.Mathlib.Omega.{arith}
use lib.Dec.{ltb}
use lib.ListN.{length}
use Rattle.hoa_tokens.specs.declared.Word.{Word}
use Rattle.hoa_tokens.specs.declared.Word.TheVariants as word_is
use Rattle.hoa_tokens.specs.declared.Sign.{Sign}
use Rattle.hoa_tokens.specs.declared.Sign.TheVariants as sign_is
use Rattle.hoa_tokens.specs.Token.{Token, int, word, header, str, aname, sign, body, end, abort, finish, bad}
use Rattle.hoa_label.specs.declared.Wanted.TheVariants as wanted_is
use Rattle.hoa_label.specs.Label.{
  Label,
  conj,
  factor,
  Lfactor,
  truth,
  prop,
  alias,
  nested,
  label_text,
  label_fits,
  factor_fits,
  label_depth,
  factor_depth,
  factor_text,
  Any,
  Fitting,
  Within,
  Begins,
  Fault,
  no_label,
  none_fits,
  too_deep,
}
use Rattle.hoa_label.specs.Labels.{
  prop_set,
  Frame,
  LabelState,
  wants,
  Has,
  label_begin,
  LabelStep,
  go,
  shut,
  wrong,
  step_within,
  wanted,
  wanted_word,
  wanted_sign,
  on_wanted,
  behind,
  behind_sign,
  on_behind,
  is_outermost,
  going,
  closed,
  faulty,
  walk_by,
  walk_within,
}
use Rattle.hoa_label.proofs.Walks.{walk_one}
use Rattle.hoa_label.proofs.Complete.{refused, no_syntax_fault, no_early_fault}
use Rattle.hoa_label.proofs.Sound.{Ends, last, out, Factored, Rests, Few, frames_of, whole, pull, sound}

-- ---- no fault is late

-- what shuts these levels, and the label
shutters : List Frame → List Token
shutters [] = sign sign_is.BracketRight ∷ []
shutters (f ∷ fs) = sign sign_is.ParenRight ∷ shutters fs

module _ (S D : Type 0) (levels a : ℕ) where
  -- they end every level
  shut_ends : (fs : List Frame) → Ends S D levels a [] (length fs) (shutters fs)
  unfolding shutters
  shut_ends [] = last
  shut_ends (f ∷ fs) = out (shut_ends fs)

  -- a factor, and then what shuts all levels
  record Lone (fs : List Frame) (ts : List Token) : Type 0 where
    first : Lfactor
    fits : S → factor_fits first a
    flat : D → factor_depth first ≡ 0
    text : ts ≡ factor_text first (shutters fs)

  -- it leads on from where a factor is wanted
  lone : {fs : List Frame} {ts : List Token} → Lone fs ts → Few S D levels a [] fs → Factored S D levels a [] (length fs) ts
  lone {fs} l h =
      record {
        first = l.first;
        fit = record { fits = l.fits; deep = λ k. omega (arith, h k, l.flat k) };
        after = shutters fs;
        text = l.text;
        ends = shut_ends fs;
      }

  -- what a label has whose first tokens lead to a state
  record Begun (ts : List Token) : Type 0 where
    label : Label
    fits : S → label_fits label a
    deep : D → label_depth label ≤ levels
    text : label_text label (sign sign_is.BracketRight ∷ []) ≡ ts

  -- tokens that lead to a state, and what leads on from it, are a label
  begun : (u : LabelState) (ts us : List Token) → walk_within levels a label_begin ts ≡ going u
      → (Few S D levels a [] (frames_of S D levels a [] u) → Rests S D levels a [] u us) → Begun (ts ++ us)
  begun u ts us e r =
      let w = whole S D levels a [] (ts ++ us) (pull S D levels a [] u us r ts label_begin e (λ k. omega arith)) in
      record {
        label = w.label;
        fits = w.fits;
        deep = λ k. omega (arith, w.deep k);
        text = sym (w.text ∙ ap (label_text w.label) w.shuts);
      }

-- such a label fits
fitting : (levels a : ℕ) (ts us : List Token) → Begun Unit Unit levels a (ts ++ us) → Begins (Within levels a) ts
fitting levels a ts us b = record { label = b.label; kind = record { fits = b.fits tt; deep = b.deep tt }; more = us; text = b.text }

-- tokens that are admitted begin a label that fits
pub admitted : (levels a : ℕ) (ts : List Token) (s : LabelState) → walk_within levels a label_begin ts ≡ going s → Begins (Within levels a) ts
unfolding label_text label_fits label_depth
admitted levels a ts (wants f fs) e =
    fitting levels a ts (word word_is.True ∷ shutters fs)
    (begun Unit Unit levels a (wants f fs) ts (word word_is.True ∷ shutters fs) e
    (lone Unit Unit levels a (record { first = truth; fits = λ k. tt; flat = λ k. refl; text = refl })))
admitted levels a ts (Has o k fs) e =
    fitting levels a ts (shutters fs) (begun Unit Unit levels a (Has o k fs) ts (shutters fs) e (λ h. shut_ends Unit Unit levels a fs))

-- so do tokens that shut one
pub shut_begins : (levels a x : ℕ) (ts : List Token) → walk_within levels a label_begin ts ≡ closed x [] → Begins (Within levels a) ts
shut_begins levels a x ts e =
    let w = sound levels a x ts [] e in record { label = w.label; kind = w.within; more = []; text = sym w.text ∙ sym (append-nil ts) }

-- ---- why a token is refused

-- whether it is `--ABORT--`
is_abort : Token → Bool
is_abort abort = true
is_abort (int i) = false
is_abort (word w) = false
is_abort (header h) = false
is_abort (str bs) = false
is_abort aname = false
is_abort (sign s) = false
is_abort body = false
is_abort end = false
is_abort finish = false
is_abort bad = false

-- which is told by that test
not_abort : (t : Token) → is_abort t ≡ false → t ≡ abort → ⊥
unfolding is_abort
not_abort t q e = false≢true (sym q ∙ ap is_abort e)

module _ (levels a : ℕ) where
  -- why a token that the state does not admit has its number: another token could stand here; it is `--ABORT--`; a label begins so, but none with a
  -- propositions; one with a propositions begins so, but its brackets nest too deep
  data Cause (s : LabelState) (t : Token) : ℕ → Type 0 where
    syntax : is_abort t ≡ false → Cause s t 40
    aborted : t ≡ abort → Cause s t 41
    unfit : (us : List Token) → Rests ⊥ ⊥ levels a [] s (t ∷ us) → Cause s t 41
    deep : (us : List Token) → Rests Unit ⊥ levels a [] s (t ∷ us) → Cause s t 42

  -- a step that refuses has its cause
  abbrev Blamed : LabelState → Token → LabelStep → Type 0
  Blamed s t (go u) = Unit
  Blamed s t (shut x) = Unit
  Blamed s t (wrong n) = Cause s t n

  -- without a limit nothing is asked of the levels
  none : (fs : List Frame) → Few ⊥ ⊥ levels a [] fs
  none fs k = absurd k

  -- an INT
  blame_int : (below : Bool) (i : ℕ) (f : Frame) (fs : List Frame)
      → Blamed (wants f fs) (int i) (on_wanted f fs (cond below (wanted_is.Set (prop_set i)) (wanted_is.Wrong 41)))
  unfolding label_text
  blame_int true i f fs = tt
  blame_int false i f fs = unfit (shutters fs) (lone ⊥ ⊥ levels a (record { first = prop i; fits = absurd; flat = absurd; text = refl }) (none fs))

  -- a `(`
  blame_level : (room : Bool) (f : Frame) (fs : List Frame)
      → Blamed (wants f fs) (sign sign_is.ParenLeft) (on_wanted f fs (cond room wanted_is.Deeper (wanted_is.Wrong 42)))
  unfolding label_text label_fits
  blame_level true f fs = tt
  blame_level false f fs =
      deep (word word_is.True ∷ sign sign_is.ParenRight ∷ shutters fs)
      (lone Unit ⊥ levels a (record { first = nested (conj (factor truth)); fits = λ k. tt; flat = absurd; text = refl }) absurd)

  -- a word where a factor is wanted
  blame_word : (w : Word) (f : Frame) (fs : List Frame) → Blamed (wants f fs) (word w) (on_wanted f fs (wanted_word w))
  unfolding is_abort
  blame_word word_is.True f fs = tt
  blame_word word_is.False f fs = tt
  blame_word word_is.V1 f fs = syntax refl
  blame_word word_is.Inf f fs = syntax refl
  blame_word word_is.Fin f fs = syntax refl
  blame_word word_is.Other f fs = syntax refl

  -- a mark where a factor is wanted
  blame_sign : (s : Sign) (f : Frame) (fs : List Frame) → Blamed (wants f fs) (sign s) (on_wanted f fs (wanted_sign (ltb (length fs) levels) s))
  unfolding is_abort
  blame_sign sign_is.ParenLeft f fs = blame_level (ltb (length fs) levels) f fs
  blame_sign sign_is.Not f fs = tt
  blame_sign sign_is.ParenRight f fs = syntax refl
  blame_sign sign_is.BracketLeft f fs = syntax refl
  blame_sign sign_is.BracketRight f fs = syntax refl
  blame_sign sign_is.BraceLeft f fs = syntax refl
  blame_sign sign_is.BraceRight f fs = syntax refl
  blame_sign sign_is.And f fs = syntax refl
  blame_sign sign_is.Or f fs = syntax refl

  -- a token where a factor is wanted
  blame_wanted : (t : Token) (f : Frame) (fs : List Frame) → Blamed (wants f fs) t (on_wanted f fs (wanted a (ltb (length fs) levels) t))
  unfolding is_abort wanted label_text
  blame_wanted (int i) f fs = blame_int (ltb i a) i f fs
  blame_wanted (word w) f fs = blame_word w f fs
  blame_wanted (sign s) f fs = blame_sign s f fs
  blame_wanted aname f fs = unfit (shutters fs) (lone ⊥ ⊥ levels a (record { first = alias; fits = absurd; flat = absurd; text = refl }) (none fs))
  blame_wanted abort f fs = aborted refl
  blame_wanted (header h) f fs = syntax refl
  blame_wanted (str bs) f fs = syntax refl
  blame_wanted body f fs = syntax refl
  blame_wanted end f fs = syntax refl
  blame_wanted finish f fs = syntax refl
  blame_wanted bad f fs = syntax refl

  -- a `)`
  blame_shut : (o k : ℕ) (fs : List Frame) → Blamed (Has o k fs) (sign sign_is.ParenRight) (on_behind o k fs (behind_sign (is_outermost fs) sign_is.ParenRight))
  unfolding is_abort
  blame_shut o k [] = syntax refl
  blame_shut o k (f ∷ fs) = tt

  -- a `]`
  blame_end : (o k : ℕ) (fs : List Frame) → Blamed (Has o k fs) (sign sign_is.BracketRight) (on_behind o k fs (behind_sign (is_outermost fs) sign_is.BracketRight))
  unfolding is_abort
  blame_end o k [] = tt
  blame_end o k (f ∷ fs) = syntax refl

  -- a mark behind a factor
  behind_sign_lem : (s : Sign) (o k : ℕ) (fs : List Frame) → Blamed (Has o k fs) (sign s) (on_behind o k fs (behind_sign (is_outermost fs) s))
  unfolding is_abort
  behind_sign_lem sign_is.And o k fs = tt
  behind_sign_lem sign_is.Or o k fs = tt
  behind_sign_lem sign_is.ParenRight o k fs = blame_shut o k fs
  behind_sign_lem sign_is.BracketRight o k fs = blame_end o k fs
  behind_sign_lem sign_is.ParenLeft o k fs = syntax refl
  behind_sign_lem sign_is.BracketLeft o k fs = syntax refl
  behind_sign_lem sign_is.BraceLeft o k fs = syntax refl
  behind_sign_lem sign_is.BraceRight o k fs = syntax refl
  behind_sign_lem sign_is.Not o k fs = syntax refl

  -- a token behind a factor
  blame_behind : (t : Token) (o k : ℕ) (fs : List Frame) → Blamed (Has o k fs) t (on_behind o k fs (behind (is_outermost fs) t))
  unfolding is_abort behind
  blame_behind (sign s) o k fs = behind_sign_lem s o k fs
  blame_behind abort o k fs = aborted refl
  blame_behind (int i) o k fs = syntax refl
  blame_behind (word w) o k fs = syntax refl
  blame_behind aname o k fs = syntax refl
  blame_behind (header h) o k fs = syntax refl
  blame_behind (str bs) o k fs = syntax refl
  blame_behind body o k fs = syntax refl
  blame_behind end o k fs = syntax refl
  blame_behind finish o k fs = syntax refl
  blame_behind bad o k fs = syntax refl

  -- any token
  blame : (s : LabelState) (t : Token) → Blamed s t (step_within levels a s t)
  unfolding step_within
  blame (wants f fs) t = blame_wanted t f fs
  blame (Has o k fs) t = blame_behind t o k fs

  -- the number that a cause has
  cause_number : (s : LabelState) (t : Token) (n : ℕ) → Cause s t n → (40 ≤ n) × (n ≤ 42)
  cause_number s t n (syntax q) = (omega arith, omega arith)
  cause_number s t n (aborted q) = (omega arith, omega arith)
  cause_number s t n (unfit us r) = (omega arith, omega arith)
  cause_number s t n (deep us r) = (omega arith, omega arith)

  -- every refusal, from whatever state, has the number 40, 41 or 42
  pub step_number : (s : LabelState) (t : Token) (n : ℕ) → step_within levels a s t ≡ wrong n → (40 ≤ n) × (n ≤ 42)
  step_number s t n q = cause_number s t n (subst (Blamed s t) q (blame s t))

  -- ---- the faulty token

  -- by its cause
  at_fault : (ts : List Token) (s : LabelState) (t : Token) (n : ℕ) → walk_within levels a label_begin ts ≡ going s
      → walk_within levels a label_begin (ts ++ t ∷ []) ≡ faulty n → Cause s t n → Fault levels a ts t n
  at_fault ts s t n e w (syntax q) = no_label (not_abort t q) (no_syntax_fault levels a (ts ++ t ∷ []) w)
  at_fault ts s t n e w (aborted q) = none_fits (inl q) (no_early_fault levels a (ts ++ t ∷ []) 41 (λ (h : 41 ≡ 42). omega arith) w)
  at_fault ts s t n e w (unfit us r) =
      let b = begun ⊥ ⊥ levels a s ts (t ∷ us) e (λ h. r) in
      none_fits
      (inr (record { label = b.label; kind = record {}; more = us; text = b.text ∙ sym (append_assoc ts (t ∷ []) us) }))
      (no_early_fault levels a (ts ++ t ∷ []) 41 (λ (h : 41 ≡ 42). omega arith) w)
  at_fault ts s t n e w (deep us r) =
      let b = begun Unit ⊥ levels a s ts (t ∷ us) e (λ h. r) in
      too_deep
      (record { label = b.label; kind = record { fits = b.fits tt }; more = us; text = b.text ∙ sym (append_assoc ts (t ∷ []) us) })
      (refused levels a (ts ++ t ∷ []) 42 w)

  -- a token that is refused behind tokens that are admitted is faulty with its number
  pub faulty_token : (ts : List Token) (s : LabelState) (t : Token) (n : ℕ) → walk_within levels a label_begin ts ≡ going s
      → step_within levels a s t ≡ wrong n → Fault levels a ts t n
  faulty_token ts s t n e q =
      at_fault ts s t n e
      (walk_one levels a label_begin s ts t e ∙ ap (λ (d : LabelStep). walk_by d [] going) q)
      (subst (Blamed s t) q (blame s t))

-- ---- one number

-- a label that fits is a label
any_of : (a : ℕ) (ts : List Token) → Begins (Fitting a) ts → Begins Any ts
any_of a ts b = record { label = b.label; kind = record {}; more = b.more; text = b.text }

-- no token is faulty with two numbers
pub one_fault : (levels a : ℕ) (ts : List Token) (t : Token) (n m : ℕ) → Fault levels a ts t n → Fault levels a ts t m → n ≡ m
one_fault levels a ts t n m (no_label x y) (no_label p q) = refl
one_fault levels a ts t n m (no_label x y) (none_fits p q) = absurd (⊎_elim x y p)
one_fault levels a ts t n m (no_label x y) (too_deep p q) = absurd (y (any_of a (ts ++ t ∷ []) p))
one_fault levels a ts t n m (none_fits x y) (no_label p q) = absurd (⊎_elim p q x)
one_fault levels a ts t n m (none_fits x y) (none_fits p q) = refl
one_fault levels a ts t n m (none_fits x y) (too_deep p q) = absurd (y p)
one_fault levels a ts t n m (too_deep x y) (no_label p q) = absurd (q (any_of a (ts ++ t ∷ []) x))
one_fault levels a ts t n m (too_deep x y) (none_fits p q) = absurd (q x)
one_fault levels a ts t n m (too_deep x y) (too_deep p q) = refl

-- ---- exactly so

-- no label that fits begins with a faulty token
none_within : (levels a : ℕ) (ts : List Token) (t : Token) (n : ℕ) → Fault levels a ts t n → Begins (Within levels a) (ts ++ t ∷ []) → ⊥
none_within levels a ts t n (no_label x y) b = y (record { label = b.label; kind = record {}; more = b.more; text = b.text })
none_within levels a ts t n (none_fits x y) b = y (record { label = b.label; kind = record { fits = b.kind.fits }; more = b.more; text = b.text })
none_within levels a ts t n (too_deep x y) b = y b

-- what 40 says
forty : (levels a : ℕ) (ts : List Token) (t : Token) (n : ℕ) → n ≡ 40 → Fault levels a ts t n → (t ≡ abort → ⊥) × (Begins Any (ts ++ t ∷ []) → ⊥)
forty levels a ts t n e (no_label x y) = (x, y)
forty levels a ts t n e (none_fits x y) = absurd (omega arith)
forty levels a ts t n e (too_deep x y) = absurd (omega arith)

module _ (levels a : ℕ) (ts : List Token) (s : LabelState) (t : Token) (e : walk_within levels a label_begin ts ≡ going s) where
  -- a faulty token is neither admitted nor does it shut the label
  by_step : (d : LabelStep) (n : ℕ) → step_within levels a s t ≡ d → Fault levels a ts t n → d ≡ wrong n
  by_step (go u) n q f =
      absurd (none_within levels a ts t n f
      (admitted levels a (ts ++ t ∷ []) u (walk_one levels a label_begin s ts t e ∙ ap (λ (d : LabelStep). walk_by d [] going) q)))
  by_step (shut x) n q f =
      absurd (none_within levels a ts t n f
      (shut_begins levels a x (ts ++ t ∷ []) (walk_one levels a label_begin s ts t e ∙ ap (λ (d : LabelStep). walk_by d [] going) q)))
  by_step (wrong m) n q f = ap wrong (one_fault levels a ts t m n (faulty_token levels a ts s t m e q) f)

  -- behind tokens that are admitted a token is refused with a number exactly if it is faulty with it
  pub fault_exactly : (n : ℕ) → (step_within levels a s t ≡ wrong n) ↔ Fault levels a ts t n
  fault_exactly n = (faulty_token levels a ts s t n e, by_step (step_within levels a s t) n refl)

  -- with 40 exactly if no label of the grammar begins with the tokens up to it, and it is not `--ABORT--`
  pub forty_exactly : (step_within levels a s t ≡ wrong 40) ↔ ((t ≡ abort → ⊥) × (Begins Any (ts ++ t ∷ []) → ⊥))
  forty_exactly = (λ q. forty levels a ts t 40 refl ((fault_exactly 40).0 q), λ f. (fault_exactly 40).1 (no_label f.0 f.1))
