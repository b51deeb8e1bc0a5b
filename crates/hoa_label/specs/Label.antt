-- Labels as a grammar, apart from any reader (docs/RULES.md, "The Hanoi format", labels). Assumes nothing.
use Rattle.std.specs.Prelude.{Bool, true, false, not, ◌&&◌, ◌||◌, List, [], ◌∷◌, ◌++◌, ◌⊎◌, ◌↔◌, ◌≡◌, ℕ, suc, ◌/◌, ◌%◌, ◌^◌, ◌<◌, ◌≤◌, max, eqb}
use Rattle.marks.specs.Mark.{Has}
use Rattle.hoa_tokens.specs.declared.Word.TheVariants as word_is
use Rattle.hoa_tokens.specs.declared.Sign.TheVariants as sign_is
use Rattle.hoa_tokens.specs.Token.{Token, int, word, aname, sign, abort}

mutual
  -- label = lconj ("|" lconj)*
  pub data Label : Type 0 where
    conj : Lconj → Label
    or : Lconj → Label → Label

  -- lconj = lfactor ("&" lfactor)*
  pub data Lconj : Type 0 where
    factor : Lfactor → Lconj
    and : Lfactor → Lconj → Lconj

  -- lfactor = "t" | "f" | INT | ANAME | "!" lfactor | "(" label ")"
  pub data Lfactor : Type 0 where
    truth : Lfactor
    falsity : Lfactor
    prop : ℕ → Lfactor
    alias : Lfactor
    negated : Lfactor → Lfactor
    nested : Label → Lfactor

-- ---- the tokens of a label, and then what follows it

unfoldable mutual
  -- a label
  pub label_text : Label → List Token → List Token
  label_text (conj c) rest = conj_text c rest
  label_text (or c l) rest = conj_text c (sign sign_is.Or ∷ label_text l rest)

  -- a conjunction
  pub conj_text : Lconj → List Token → List Token
  conj_text (factor x) rest = factor_text x rest
  conj_text (and x c) rest = factor_text x (sign sign_is.And ∷ conj_text c rest)

  -- a factor
  pub factor_text : Lfactor → List Token → List Token
  factor_text truth rest = word word_is.True ∷ rest
  factor_text falsity rest = word word_is.False ∷ rest
  factor_text (prop i) rest = int i ∷ rest
  factor_text alias rest = aname ∷ rest
  factor_text (negated x) rest = sign sign_is.Not ∷ factor_text x rest
  factor_text (nested l) rest = sign sign_is.ParenLeft ∷ label_text l (sign sign_is.ParenRight ∷ rest)

-- ---- what a label may hold

-- no ANAME, and "each INT in a label is below a"
unfoldable mutual
  -- a label
  pub label_fits : Label → ℕ → Type 0
  label_fits (conj c) a = conj_fits c a
  label_fits (or c l) a = conj_fits c a × label_fits l a

  -- a conjunction
  pub conj_fits : Lconj → ℕ → Type 0
  conj_fits (factor x) a = factor_fits x a
  conj_fits (and x c) a = factor_fits x a × conj_fits c a

  -- a factor
  pub factor_fits : Lfactor → ℕ → Type 0
  factor_fits truth a = Unit
  factor_fits falsity a = Unit
  factor_fits (prop i) a = i < a
  factor_fits alias a = ⊥
  factor_fits (negated x) a = factor_fits x a
  factor_fits (nested l) a = label_fits l a

-- how deep brackets nest: "outside is level 0; `!` opens none"
unfoldable mutual
  -- a label
  pub label_depth : Label → ℕ
  label_depth (conj c) = conj_depth c
  label_depth (or c l) = max (conj_depth c) (label_depth l)

  -- a conjunction
  pub conj_depth : Lconj → ℕ
  conj_depth (factor x) = factor_depth x
  conj_depth (and x c) = max (factor_depth x) (conj_depth c)

  -- a factor
  pub factor_depth : Lfactor → ℕ
  factor_depth truth = 0
  factor_depth falsity = 0
  factor_depth (prop i) = 0
  factor_depth alias = 0
  factor_depth (negated x) = factor_depth x
  factor_depth (nested l) = suc (label_depth l)

-- brackets nest at most so deep: a limit of ours
abbrev pub most_levels : ℕ
most_levels = 256

-- a label with a propositions
pub record Fitting (a : ℕ) (l : Label) : Type 0 where
  pub fits : label_fits l a

-- such a label whose brackets nest at most `levels` deep
pub record Within (levels a : ℕ) (l : Label) : Type 0 where
  pub fits : label_fits l a
  pub deep : label_depth l ≤ levels

-- any label of the grammar
pub record Any (l : Label) : Type 0 where

-- a label of this kind, shut by its `]`, begins with the tokens
pub record Begins (P : Label → Type 0) (ts : List Token) : Type 0 where
  pub label : Label
  pub kind : P label
  pub more : List Token
  pub text : label_text label (sign sign_is.BracketRight ∷ []) ≡ ts ++ more

-- t is faulty behind the tokens ts, with the lowest number that holds: 40 if no label begins with them, and t is not `--ABORT--`; 41 if none with a
-- propositions does; 42 if only such do whose brackets nest deeper than `levels`
pub data Fault (levels a : ℕ) (ts : List Token) (t : Token) : ℕ → Type 0 where
  no_label : (t ≡ abort → ⊥) → (Begins Any (ts ++ t ∷ []) → ⊥) → Fault levels a ts t 40
  none_fits : (t ≡ abort) ⊎ Begins Any (ts ++ t ∷ []) → (Begins (Fitting a) (ts ++ t ∷ []) → ⊥) → Fault levels a ts t 41
  too_deep : Begins (Fitting a) (ts ++ t ∷ []) → (Begins (Within levels a) (ts ++ t ∷ []) → ⊥) → Fault levels a ts t 42

-- ---- what a label means

-- whether it holds where the propositions have these truth values; an ANAME stands for no proposition, and no label that fits has one
unfoldable mutual
  -- a label
  pub label_holds : Label → (ℕ → Bool) → Bool
  label_holds (conj c) v = conj_holds c v
  label_holds (or c l) v = conj_holds c v || label_holds l v

  -- a conjunction
  pub conj_holds : Lconj → (ℕ → Bool) → Bool
  conj_holds (factor x) v = factor_holds x v
  conj_holds (and x c) v = factor_holds x v && conj_holds c v

  -- a factor
  pub factor_holds : Lfactor → (ℕ → Bool) → Bool
  factor_holds truth v = true
  factor_holds falsity v = false
  factor_holds (prop i) v = v i
  factor_holds alias v = false
  factor_holds (negated x) v = not (factor_holds x v)
  factor_holds (nested l) v = label_holds l v

-- "some valuation of the a propositions makes it true"; a valuation is false from a on
pub record Satisfiable (a : ℕ) (l : Label) : Type 0 where
  pub values : ℕ → Bool
  pub of_a : (i : ℕ) → a ≤ i → values i ≡ false
  pub makes_true : label_holds l values ≡ true

-- valuation v of at most 6 propositions: proposition i is true if bit i of v is 1
unfoldable pub valuation : ℕ → ℕ → Bool
valuation v i = eqb (v / 2 ^ i % 2) 1

-- x is the label's set among the 64 valuations of 6 propositions
pub record SetOf (l : Label) (x : ℕ) : Type 0 where
  pub small : x < 2 ^ 64
  pub each : (v : ℕ) → v < 64 → Has v x ↔ (label_holds l (valuation v) ≡ true)
