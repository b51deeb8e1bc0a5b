-- Labels inside a longer text: what follows a label follows its tokens (`label_append`), so what a label begins with, a text begins with that has the label, its `]` and
-- anything behind it (`begins_text`). Assumes nothing.
use mathlib.Core.List.{List, [], ◌∷◌, ◌++◌, append_assoc}
use mathlib.Core.Path.{◌≡◌, refl, ap, ◌∙◌}
use Rattle.hoa_tokens.specs.declared.Sign.TheVariants as sign_is
use Rattle.hoa_tokens.specs.Token.{Token, sign}
use Rattle.hoa_label.specs.Label.{Label, conj, or, Lconj, factor, and, Lfactor, truth, falsity, prop, alias, negated, nested, label_text, conj_text, factor_text, Begins}

mutual
  unfolding label_text

  -- a label
  pub label_append : (l : Label) (ts us : List Token) → label_text l (ts ++ us) ≡ label_text l ts ++ us
  label_append (conj c) ts us = conj_append c ts us
  label_append (or c l) ts us =
      ap (λ (xs : List Token). conj_text c (sign sign_is.Or ∷ xs)) (label_append l ts us) ∙ conj_append c (sign sign_is.Or ∷ label_text l ts) us

  -- a conjunction
  pub conj_append : (c : Lconj) (ts us : List Token) → conj_text c (ts ++ us) ≡ conj_text c ts ++ us
  conj_append (factor x) ts us = factor_append x ts us
  conj_append (and x c) ts us =
      ap (λ (xs : List Token). factor_text x (sign sign_is.And ∷ xs)) (conj_append c ts us) ∙ factor_append x (sign sign_is.And ∷ conj_text c ts) us

  -- a factor
  pub factor_append : (x : Lfactor) (ts us : List Token) → factor_text x (ts ++ us) ≡ factor_text x ts ++ us
  factor_append truth ts us = refl
  factor_append falsity ts us = refl
  factor_append (prop i) ts us = refl
  factor_append alias ts us = refl
  factor_append (negated x) ts us = ap (λ (xs : List Token). sign sign_is.Not ∷ xs) (factor_append x ts us)
  factor_append (nested l) ts us = ap (λ (xs : List Token). sign sign_is.ParenLeft ∷ xs) (label_append l (sign sign_is.ParenRight ∷ ts) us)

-- a label begins with the tokens, whatever stands behind its `]`
pub begins_text : (P : Label → Type 0) (ts : List Token) (b : Begins P ts) (rest : List Token)
    → label_text b.label (sign sign_is.BracketRight ∷ rest) ≡ ts ++ (b.more ++ rest)
begins_text P ts b rest =
    label_append b.label (sign sign_is.BracketRight ∷ []) rest ∙ ap (λ (xs : List Token). xs ++ rest) b.text ∙ append_assoc ts b.more rest
