-- The grammar of a condition (docs/RULES.md, "The Hanoi format", HOA v1): one type for each nonterminal, and its text with what follows it. Assumes nothing.
use Rattle.std.specs.Prelude.{Bool, true, false, List, ◌∷◌, ℕ}
use Rattle.hoa_tokens.specs.declared.Word.{Word}
use Rattle.hoa_tokens.specs.declared.Word.TheVariants as word_is
use Rattle.hoa_tokens.specs.declared.Sign.TheVariants as sign_is
use Rattle.hoa_tokens.specs.Token.{Token, int, word, sign}

-- "WORD not t, f"
pub data Name : Type 0 where
  v1 : Name
  inf : Name
  fin : Name
  other : Name

abbrev pub name_word : Name → Word
name_word v1 = word_is.V1
name_word inf = word_is.Inf
name_word fin = word_is.Fin
name_word other = word_is.Other

-- cond = cconj ("|" cconj)*; cconj = catom ("&" catom)*; catom = "t" | "f" | WORD "(" "!"? INT ")" | "(" cond ")"
mutual
  pub data Cond : Type 0 where
    one : Cconj → Cond
    more : Cconj → Cond → Cond

  pub data Cconj : Type 0 where
    single : Catom → Cconj
    several : Catom → Cconj → Cconj

  pub data Catom : Type 0 where
    truth : Catom
    falsity : Catom
    mark : Name → Bool → ℕ → Catom
    brackets : Cond → Catom

-- "!"?
abbrev pub perhaps_not : Bool → List Token → List Token
perhaps_not true ts = sign sign_is.Not ∷ ts
perhaps_not false ts = ts

-- the text of each, with what follows it
unfoldable mutual
  pub cond_text : Cond → List Token → List Token
  cond_text (Cond.one x) ts = cconj_text x ts
  cond_text (Cond.more x y) ts = cconj_text x (sign sign_is.Or ∷ cond_text y ts)

  pub cconj_text : Cconj → List Token → List Token
  cconj_text (Cconj.single x) ts = catom_text x ts
  cconj_text (Cconj.several x y) ts = catom_text x (sign sign_is.And ∷ cconj_text y ts)

  pub catom_text : Catom → List Token → List Token
  catom_text truth ts = word word_is.True ∷ ts
  catom_text falsity ts = word word_is.False ∷ ts
  catom_text (mark w negated k) ts = word (name_word w) ∷ (sign sign_is.ParenLeft ∷ perhaps_not negated (int k ∷ (sign sign_is.ParenRight ∷ ts)))
  catom_text (brackets x) ts = sign sign_is.ParenLeft ∷ cond_text x (sign sign_is.ParenRight ∷ ts)
