-- The formula that is written is a standard one, with the condition's marks and meaning. Assumes nothing.
use mathlib.Core.Path.{◌≡◌, refl, sym, ap, ◌∙◌}
use mathlib.Core.List.{List, ◌∷◌}
use Prim.Native.Nat.{ℕ, zero, suc, ◌+◌, ◌*◌}
use native.Mathlib.Nat.{add-zero}
use native.Mathlib.Omega.{arith}
use Rattle.table.specs.declared.Acceptance.{Acceptance}
use Rattle.table.specs.declared.Acceptance.TheVariants as acceptance
use Rattle.table.specs.Condition.{need, dealt}
use Rattle.table.specs.Refusal.{used}
use Rattle.hoa_tokens.specs.declared.Word.TheVariants as word_is
use Rattle.hoa_tokens.specs.declared.Sign.TheVariants as sign_is
use Rattle.hoa_tokens.specs.Token.{Token, sign}
use Rattle.hoa_standard.specs.Standard.{Strop, infs_text, infs_end, pair_text, pair_end, rabin_text, rabin_end, rabop_text, rabop_end}
use Rattle.hoa_standard.specs.Standard.{streett_text, streett_end, strop_text, spair_text, single_text, truth_text, std_text, IsStd}
use Rattle.hoa_written.specs.Tokens.{joined_tokens, atom_tokens, infs_tokens, buchi_tokens, streett_pair_tokens, streett_tokens, rabin_pair_tokens, rabin_tokens, formula_tokens}
use Rattle.hoa_round.specs.Trees.{infs_of, pair_of, rabin_of, asking_of, streett_of, std_of}

-- ---- joined tokens from the front

-- the first, and those behind it
joined_front : (f : ℕ → List Token → List Token) (k : ℕ) (ts : List Token) → joined_tokens f (suc k) ts ≡ f 0 (joined_tokens (λ i. f (suc i)) k ts)
unfolding joined_tokens
joined_front f zero ts = refl
joined_front f (suc k) ts = joined_front f k (f (suc k) ts)

-- the same pieces
joined_like : (f g : ℕ → List Token → List Token) (k : ℕ) → ((i : ℕ) (ts : List Token) → f i ts ≡ g i ts) → (ts : List Token) → joined_tokens f k ts ≡ joined_tokens g k ts
unfolding joined_tokens
joined_like f g zero h ts = refl
joined_like f g (suc k) h ts = joined_like f g k h (f k ts) ∙ ap (joined_tokens g k) (h k ts)

-- a tree that is a row of items with a sign between them
module _ (item : ℕ → List Token → List Token) (sep : Token) (tree : ℕ → ℕ → List Token → List Token) (last : (i : ℕ) (ts : List Token) → tree i 0 ts ≡ item i ts)
    (more : (i k : ℕ) (ts : List Token) → tree i (suc k) ts ≡ item i (sep ∷ tree (suc i) k ts)) where
  -- item i, and so many behind it
  pub in_a_row : (k i : ℕ) (ts : List Token) → tree i k ts ≡ item i (joined_tokens (λ j us. sep ∷ item (suc (i + j)) us) k ts)
  unfolding joined_tokens
  in_a_row zero i ts = last i ts
  in_a_row (suc k) i ts =
      let first : suc (i + 0) ≡ suc i = ap suc (add-zero i) in
      more i k ts
      ∙ ap (λ (us : List Token). item i (sep ∷ us)) (in_a_row k (suc i) ts)
      ∙ ap (λ (us : List Token). item i (sep ∷ item (suc i) us))
      (joined_like (λ j us. sep ∷ item (suc (suc i + j)) us) (λ j us. sep ∷ item (suc (i + suc j)) us) k (λ j us. ap (λ (n : ℕ). sep ∷ item (suc n) us) (omega arith)) ts)
      ∙ ap (λ (n : ℕ). item i (sep ∷ item n (joined_tokens (λ j us. sep ∷ item (suc (i + suc j)) us) k ts))) (sym first)
      ∙ ap (item i) (sym (joined_front (λ j us. sep ∷ item (suc (i + j)) us) k ts))

-- ---- the marks in a row

-- `&Inf(n)`
abbrev and_inf : ℕ → List Token → List Token
and_inf n us = sign sign_is.And ∷ atom_tokens word_is.Inf n us

-- `&` and Streett pair n
abbrev and_pair : ℕ → List Token → List Token
and_pair n us = sign sign_is.And ∷ streett_pair_tokens n us

-- behind mark i
infs_are : (k i : ℕ) (ts : List Token) → infs_text (infs_of k) i ts ≡ atom_tokens word_is.Inf i (infs_tokens (i + 1) k ts)
unfolding infs_text infs_end
infs_are k i ts =
    in_a_row (atom_tokens word_is.Inf) (sign sign_is.And) (λ i k ts. infs_text (infs_of k) i ts) (λ i ts. refl) (λ i k ts. refl) k i ts
    ∙ ap (atom_tokens word_is.Inf i) (joined_like (λ j. and_inf (suc (i + j))) (λ j. and_inf (i + 1 + j)) k (λ j us. ap (λ (n : ℕ). and_inf n us) (omega arith)) ts)

-- the number behind its last mark
infs_end_lem : (k i : ℕ) → infs_end (infs_of k) i ≡ i + suc k
unfolding infs_end
infs_end_lem zero i = omega arith
infs_end_lem (suc k) i = infs_end_lem k (suc i) ∙ omega arith

-- ---- Streett pairs in a row

-- pair i and so many behind it
streett_are : (k i : ℕ) (ts : List Token) → streett_text (streett_of k) (2 * i) ts ≡ streett_pair_tokens i (joined_tokens (λ j. and_pair (suc (i + j))) k ts)
unfolding streett_text streett_end spair_text single_text
streett_are k i ts =
    in_a_row streett_pair_tokens (sign sign_is.And) (λ i k ts. streett_text (streett_of k) (2 * i) ts)
    (λ i ts. one i ts)
    (λ i k ts.
    one i (sign sign_is.And ∷ streett_text (streett_of k) (suc (suc (2 * i))) ts)
    ∙ ap (λ (n : ℕ). streett_pair_tokens i (sign sign_is.And ∷ streett_text (streett_of k) n ts)) (omega arith))
    k i ts
  where
    one : (i : ℕ) (ts : List Token) → strop_text (Strop.pair asking_of) (2 * i) ts ≡ streett_pair_tokens i ts
    one i ts = ap (λ (n : ℕ). sign sign_is.ParenLeft ∷ atom_tokens word_is.Fin (2 * i) (sign sign_is.Or ∷ atom_tokens word_is.Inf n (sign sign_is.ParenRight ∷ ts))) (omega arith)

-- the number behind its last mark
streett_end_lem : (k i : ℕ) → streett_end (streett_of k) i ≡ i + 2 * suc k
unfolding streett_end
streett_end_lem zero i = omega arith
streett_end_lem (suc k) i = streett_end_lem k (suc (suc i)) ∙ omega arith

-- ---- Rabin pairs in a row

-- a pair in its brackets
pair_is : (k d : ℕ) (ts : List Token) → rabop_text (pair_of k) d ts ≡ rabin_pair_tokens d k ts
unfolding rabin_text pair_text pair_end infs_text infs_end joined_tokens
pair_is zero d ts = refl
pair_is (suc k) d ts =
    ap (λ (us : List Token). sign sign_is.ParenLeft ∷ atom_tokens word_is.Fin d (sign sign_is.And ∷ us)) (infs_are k (suc d) (sign sign_is.ParenRight ∷ ts))
    ∙ ap (λ (us : List Token). sign sign_is.ParenLeft ∷ atom_tokens word_is.Fin d us)
    (ap (λ (n : ℕ). sign sign_is.And ∷ atom_tokens word_is.Inf n (infs_tokens (suc d + 1) k (sign sign_is.ParenRight ∷ ts))) (omega arith)
    ∙ ap (λ (us : List Token). sign sign_is.And ∷ atom_tokens word_is.Inf (d + 1 + 0) us)
    (joined_like (λ j. and_inf (suc d + 1 + j)) (λ j. and_inf (d + 1 + suc j)) k (λ j us. ap (λ (n : ℕ). and_inf n us) (omega arith)) (sign sign_is.ParenRight ∷ ts))
    ∙ sym (joined_front (λ j us. sign sign_is.And ∷ atom_tokens word_is.Inf (d + 1 + j) us) k (sign sign_is.ParenRight ∷ ts)))

-- the number behind its last mark
pair_end_lem : (k d : ℕ) → rabop_end (pair_of k) d ≡ d + (1 + k)
unfolding rabin_end pair_end
pair_end_lem zero d = omega arith
pair_end_lem (suc k) d = infs_end_lem k (suc d) ∙ omega arith

module _ (needs : List ℕ) where
  -- pair i and so many behind it
  rabin_are : (k i : ℕ) (ts : List Token) → rabin_text (rabin_of needs i k) (dealt needs i) ts
      ≡ rabin_pair_tokens (dealt needs i) (need needs i) (joined_tokens (λ j us. sign sign_is.Or ∷ rabin_pair_tokens (dealt needs (suc (i + j))) (need needs (suc (i + j))) us) k ts)
  unfolding rabin_text
  rabin_are k i ts =
      in_a_row (λ i. rabin_pair_tokens (dealt needs i) (need needs i)) (sign sign_is.Or) (λ i k ts. rabin_text (rabin_of needs i k) (dealt needs i) ts)
      (λ i ts. pair_is (need needs i) (dealt needs i) ts)
      (λ i k ts.
      pair_is (need needs i) (dealt needs i) _
      ∙ ap (λ (n : ℕ). rabin_pair_tokens (dealt needs i) (need needs i) (sign sign_is.Or ∷ rabin_text (rabin_of needs (suc i) k) n ts)) (pair_end_lem (need needs i) (dealt needs i)))
      k i ts

  -- the number behind its last mark
  rabin_end_lem : (k i : ℕ) → rabin_end (rabin_of needs i k) (dealt needs i) ≡ dealt needs (suc (i + k))
  unfolding rabin_end
  rabin_end_lem zero i = pair_end_lem (need needs i) (dealt needs i) ∙ ap (λ (n : ℕ). dealt needs (suc n)) (sym (add-zero i))
  rabin_end_lem (suc k) i =
      let e : suc i + k ≡ i + suc k = omega arith in
      ap (λ (d : ℕ). rabin_end (rabin_of needs (suc i) k) d) (pair_end_lem (need needs i) (dealt needs i)) ∙ rabin_end_lem k (suc i) ∙ ap (λ (n : ℕ). dealt needs (suc n)) e

-- ---- every condition

-- from pair 0 on
zero_plus : (j : ℕ) → 0 + j ≡ j
zero_plus j = omega arith

-- the pair behind pair i, and its sign
abbrev behind_or : List ℕ → ℕ → List Token → List Token
behind_or needs i us = sign sign_is.Or ∷ rabin_pair_tokens (dealt needs (suc i)) (need needs (suc i)) us

-- the tokens of the formula that is written are those of the tree
pub formula_tree : (c : Acceptance) (needs : List ℕ) (ts : List Token) → formula_tokens c needs ts ≡ std_text (std_of c needs) ts
unfolding std_text truth_text buchi_tokens streett_tokens rabin_tokens
formula_tree (acceptance.Buchi zero) needs ts = refl
formula_tree (acceptance.Buchi (suc k)) needs ts = sym (infs_are k 0 ts)
formula_tree (acceptance.Streett zero) needs ts = refl
formula_tree (acceptance.Streett (suc p)) needs ts =
    let like = joined_like (λ j us. sign sign_is.And ∷ streett_pair_tokens (suc (0 + j)) us) (λ j us. sign sign_is.And ∷ streett_pair_tokens (suc j) us) p in
    sym (streett_are p 0 ts ∙ ap (streett_pair_tokens 0) (like (λ j us. ap (λ (n : ℕ). sign sign_is.And ∷ streett_pair_tokens (suc n) us) (zero_plus j)) ts))
formula_tree (acceptance.Rabin zero) needs ts = refl
formula_tree (acceptance.Rabin (suc p)) needs ts =
    sym (rabin_are needs p 0 ts
    ∙ ap (rabin_pair_tokens 0 (need needs 0)) (joined_like (λ j. behind_or needs (0 + j)) (behind_or needs) p (λ j us. ap (λ (n : ℕ). behind_or needs n us) (zero_plus j)) ts))

-- it is a formula with as many marks as the condition uses
pub tree_marks : (c : Acceptance) (needs : List ℕ) → IsStd (used c needs) (std_of c needs)
tree_marks (acceptance.Buchi zero) needs = refl
tree_marks (acceptance.Buchi (suc k)) needs = infs_end_lem k 0 ∙ omega arith
tree_marks (acceptance.Streett zero) needs = refl
tree_marks (acceptance.Streett (suc p)) needs = (streett_end_lem p 0 ∙ omega arith, omega arith)
tree_marks (acceptance.Rabin zero) needs = refl
tree_marks (acceptance.Rabin (suc p)) needs = let e : 0 + p ≡ p = omega arith in rabin_end_lem needs p 0 ∙ ap (λ (n : ℕ). dealt needs (suc n)) e
