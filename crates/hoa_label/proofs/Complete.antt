-- Every label that fits is read to its end, with its set (`complete`), so no token of one is refused (`refused`); no token of any label is refused with 40
-- (`no_syntax_fault`), and no token of a label with a propositions with 41, however deep its brackets nest (`no_early_fault`). Assumes nothing.
use mathlib.Core.Bool.{Bool, true, false, not, cond}
use mathlib.Core.List.{List, [], ◌∷◌}
use mathlib.Core.Path.{◌≡◌, refl, sym, ap, ◌∙◌}
use mathlib.Core.Logic.{◌≢◌}
use Prim.Native.Nat.{ℕ, ◌+◌, ◌≤◌, ◌<◌}
use native.Mathlib.Omega.{arith}
use borrow.Author.Tests.{lt-ltb, ltb-false}
use lib.Bits.{bit_and, bit_or}
use lib.Dec.{ltb}
use lib.ListN.{length}
use Rattle.hoa_tokens.specs.declared.Sign.TheVariants as sign_is
use Rattle.hoa_tokens.specs.Token.{Token, sign}
use Rattle.hoa_label.specs.Label.{
  Label,
  conj,
  or,
  Lconj,
  factor,
  and,
  Lfactor,
  truth,
  falsity,
  prop,
  alias,
  negated,
  nested,
  label_text,
  conj_text,
  factor_text,
  label_fits,
  conj_fits,
  factor_fits,
  label_depth,
  conj_depth,
  factor_depth,
  Any,
  Fitting,
  Within,
  Begins,
}
use Rattle.hoa_label.specs.declared.Wanted.TheVariants as wanted_is
use Rattle.hoa_label.specs.Labels.{
  full,
  prop_set,
  turned,
  on_wanted,
  Frame,
  frame,
  fresh,
  wants,
  Has,
  label_begin,
  step_within,
  wanted,
  behind,
  LabelWalk,
  closed,
  faulty,
  walk_by,
  walk_within,
}
use Rattle.hoa_label.proofs.Sets.{ors_of, last_of, ands_of, set_of, label_set}
use Rattle.hoa_label.proofs.Walks.{closed_faulty, faulty_inj, walk_stops}

module _ (levels a : ℕ) where
  mutual
    unfolding walk_within step_within wanted behind label_text label_fits label_depth ors_of

    -- from where a label is wanted to behind it
    walk_label : (l : Label) (o : ℕ) (fs : List Frame) (rest : List Token) → label_fits l a → label_depth l + length fs ≤ levels
        → walk_within levels a (wants (frame o full false) fs) (label_text l rest) ≡ walk_within levels a (Has (ors_of l o) (last_of l) fs) rest
    walk_label (conj c) o fs rest f d = walk_conj c o full fs rest f d
    walk_label (or c l) o fs rest f d =
        walk_conj c o full fs (sign sign_is.Or ∷ label_text l rest) f.0 (omega arith) ∙ walk_label l (bit_or o (ands_of c full)) fs rest f.1 (omega arith)

    -- from where a conjunction is wanted to behind it
    walk_conj : (c : Lconj) (o k : ℕ) (fs : List Frame) (rest : List Token) → conj_fits c a → conj_depth c + length fs ≤ levels
        → walk_within levels a (wants (frame o k false) fs) (conj_text c rest) ≡ walk_within levels a (Has o (ands_of c k) fs) rest
    walk_conj (factor x) o k fs rest f d = walk_factor x o k false fs rest f d
    walk_conj (and x c) o k fs rest f d =
        walk_factor x o k false fs (sign sign_is.And ∷ conj_text c rest) f.0 (omega arith)
        ∙ walk_conj c o (bit_and k (set_of x false)) fs rest f.1 (omega arith)

    -- from where a factor is wanted to behind it
    walk_factor : (x : Lfactor) (o k : ℕ) (n : Bool) (fs : List Frame) (rest : List Token) → factor_fits x a → factor_depth x + length fs ≤ levels
        → walk_within levels a (wants (frame o k n) fs) (factor_text x rest) ≡ walk_within levels a (Has o (bit_and k (set_of x n)) fs) rest
    walk_factor truth o k n fs rest f d = refl
    walk_factor falsity o k n fs rest f d = refl
    walk_factor (prop i) o k n fs rest f d = rw (lt-ltb i a f)
    walk_factor alias o k n fs rest f d = absurd f
    walk_factor (negated x) o k n fs rest f d = walk_factor x o k (not n) fs rest f d
    walk_factor (nested l) o k n fs rest f d =
        rw (lt-ltb (length fs) levels (omega arith)) (walk_label l 0 (frame o k n ∷ fs) (sign sign_is.ParenRight ∷ rest) f (omega arith))

  -- every label with a propositions whose brackets nest at most `levels` deep is read to its `]`, with its set
  pub complete : (l : Label) (rest : List Token) → Within levels a l
      → walk_within levels a label_begin (label_text l (sign sign_is.BracketRight ∷ rest)) ≡ closed (label_set l) rest
  unfolding walk_within step_within behind
  complete l rest w = walk_label l 0 [] (sign sign_is.BracketRight ∷ rest) w.fits (omega (arith, w.deep))

  -- no token is refused where a label that fits begins with the tokens up to it
  pub refused : (ts : List Token) (n : ℕ) → walk_within levels a label_begin ts ≡ faulty n → Begins (Within levels a) ts → ⊥
  refused ts n e b =
      closed_faulty
      (sym (complete b.label [] b.kind) ∙ ap (walk_within levels a label_begin) b.text ∙ walk_stops levels a label_begin n ts b.more e)

-- ---- labels that need not fit

-- a label of the grammar is read to its `]`, or refused with a number above 40; where `S` holds, which says that it has a propositions, the number is 42
pub data Read (S : Type 0) (rest : List Token) (w : LabelWalk) : Type 0 where
  whole : (x : ℕ) → w ≡ closed x rest → Read S rest w
  halted : (n : ℕ) → 40 < n → (S → n ≡ 42) → w ≡ faulty n → Read S rest w

module _ (S : Type 0) (levels a : ℕ) where
  -- the walk w passes what stands before `rest` on this level, or stops there
  data Passed (fs : List Frame) (rest : List Token) (w : LabelWalk) : Type 0 where
    passes : (o k : ℕ) → w ≡ walk_within levels a (Has o k fs) rest → Passed fs rest w
    stops : (n : ℕ) → 40 < n → (S → n ≡ 42) → w ≡ faulty n → Passed fs rest w

  -- what is passed goes on with what follows
  then : {fs : List Frame} {rest more : List Token} {w : LabelWalk} → Passed fs rest w
      → ((o k : ℕ) → Passed fs more (walk_within levels a (Has o k fs) rest)) → Passed fs more w
  then (passes o k e) next = rw e (next o k)
  then (stops n h l e) next = stops n h l e

  -- a proposition is passed if it is below a
  by_prop : (below : Bool) (i o k x : ℕ) (n : Bool) (fs : List Frame) (rest : List Token) → ltb i a ≡ below → (S → i < a)
      → Passed fs rest (walk_by (on_wanted (frame o k n) fs (cond below (wanted_is.Set x) (wanted_is.Wrong 41))) rest (λ u. walk_within levels a u rest))
  by_prop true i o k x n fs rest q f = passes o (bit_and k (turned n x)) refl
  by_prop false i o k x n fs rest q f = stops 41 (omega arith) (λ s. absurd (omega (arith, ltb-false i a q, f s))) refl

  -- a `(` is passed if there is room
  by_level : (room : Bool) (f : Frame) (fs : List Frame) (ts rest : List Token) → Passed fs rest (walk_within levels a (wants fresh (f ∷ fs)) ts)
      → Passed fs rest (walk_by (on_wanted f fs (cond room wanted_is.Deeper (wanted_is.Wrong 42))) ts (λ u. walk_within levels a u ts))
  by_level true f fs ts rest p = p
  by_level false f fs ts rest p = stops 42 (omega arith) (λ s. refl) refl

  -- a level that is passed is shut by its `)`
  outward : (o k : ℕ) (n : Bool) (fs : List Frame) (rest : List Token) {w : LabelWalk} → Passed (frame o k n ∷ fs) (sign sign_is.ParenRight ∷ rest) w → Passed fs rest w
  unfolding walk_within step_within behind
  outward o k n fs rest (passes p q e) = passes o (bit_and k (turned n (bit_or p q))) e
  outward o k n fs rest (stops m h l e) = stops m h l e

  mutual
    unfolding walk_within step_within wanted behind label_text label_fits

    -- a label
    any_label : (l : Label) (o : ℕ) (fs : List Frame) (rest : List Token) → (S → label_fits l a)
        → Passed fs rest (walk_within levels a (wants (frame o full false) fs) (label_text l rest))
    any_label (conj c) o fs rest f = any_conj c o full fs rest f
    any_label (or c l) o fs rest f =
        then (any_conj c o full fs (sign sign_is.Or ∷ label_text l rest) (λ s. (f s).0)) (λ p k. any_label l (bit_or p k) fs rest (λ s. (f s).1))

    -- a conjunction
    any_conj : (c : Lconj) (o k : ℕ) (fs : List Frame) (rest : List Token) → (S → conj_fits c a)
        → Passed fs rest (walk_within levels a (wants (frame o k false) fs) (conj_text c rest))
    any_conj (factor x) o k fs rest f = any_factor x o k false fs rest f
    any_conj (and x c) o k fs rest f =
        then (any_factor x o k false fs (sign sign_is.And ∷ conj_text c rest) (λ s. (f s).0)) (λ p q. any_conj c p q fs rest (λ s. (f s).1))

    -- a factor
    any_factor : (x : Lfactor) (o k : ℕ) (n : Bool) (fs : List Frame) (rest : List Token) → (S → factor_fits x a)
        → Passed fs rest (walk_within levels a (wants (frame o k n) fs) (factor_text x rest))
    any_factor truth o k n fs rest f = passes o (bit_and k (turned n full)) refl
    any_factor falsity o k n fs rest f = passes o (bit_and k (turned n 0)) refl
    any_factor (prop i) o k n fs rest f = by_prop (ltb i a) i o k (prop_set i) n fs rest refl f
    any_factor alias o k n fs rest f = stops 41 (omega arith) (λ s. absurd (f s)) refl
    any_factor (negated x) o k n fs rest f = any_factor x o k (not n) fs rest f
    any_factor (nested l) o k n fs rest f =
        by_level (ltb (length fs) levels) (frame o k n) fs (label_text l (sign sign_is.ParenRight ∷ rest)) rest
        (outward o k n fs rest (any_label l 0 (frame o k n ∷ fs) (sign sign_is.ParenRight ∷ rest) f))

  -- a label of the grammar, from its `[` on
  pub any_label_read : (l : Label) (rest : List Token) → (S → label_fits l a)
      → Read S rest (walk_within levels a label_begin (label_text l (sign sign_is.BracketRight ∷ rest)))
  unfolding walk_within step_within behind
  any_label_read l rest f = at_end (any_label l 0 [] (sign sign_is.BracketRight ∷ rest) f)
    where
      -- what is passed is shut by the `]`
      at_end : {w : LabelWalk} → Passed [] (sign sign_is.BracketRight ∷ rest) w → Read S rest w
      at_end (passes o k e) = whole (bit_or o k) e
      at_end (stops n h l e) = halted n h l e

module _ (levels a : ℕ) where
  -- no token is refused with 40 where a label of the grammar begins with the tokens up to it
  pub no_syntax_fault : (ts : List Token) → walk_within levels a label_begin ts ≡ faulty 40 → Begins Any ts → ⊥
  no_syntax_fault ts e b =
      never (any_label_read ⊥ levels a b.label [] absurd) (ap (walk_within levels a label_begin) b.text ∙ walk_stops levels a label_begin 40 ts b.more e)
    where
      -- neither way leads to this fault
      never : {w : LabelWalk} → Read ⊥ [] w → w ≡ faulty 40 → ⊥
      never (whole x q) h = closed_faulty (sym q ∙ h)
      never (halted n l k q) h = omega (arith, faulty_inj (sym q ∙ h))

  -- no token is refused with 40 or 41 where a label with a propositions begins with the tokens up to it, however deep its brackets nest
  pub no_early_fault : (ts : List Token) (n : ℕ) → n ≢ 42 → walk_within levels a label_begin ts ≡ faulty n → Begins (Fitting a) ts → ⊥
  no_early_fault ts n d e b =
      never (any_label_read Unit levels a b.label [] (λ s. b.kind.fits))
      (ap (walk_within levels a label_begin) b.text ∙ walk_stops levels a label_begin n ts b.more e)
    where
      -- neither way leads to this fault
      never : {w : LabelWalk} → Read Unit [] w → w ≡ faulty n → ⊥
      never (whole x q) h = closed_faulty (sym q ∙ h)
      never (halted m l k q) h = omega (arith, k tt, faulty_inj (sym q ∙ h))
