-- Blanks and comments at a place of a text: how the gap goes on there. Assumes nothing.
use mathlib.Core.Path.{◌≡◌, refl, sym, ap, ◌∙◌}
use mathlib.Core.Bool.{Bool, true, false, cond, ◌&&◌}
use mathlib.Core.List.{List, [], ◌∷◌}
use Prim.Native.Nat.{ℕ, zero, suc, ◌+◌, ◌-◌, ◌≤◌, ◌<◌}
use native.Mathlib.Numerals.{add-one}
use native.Mathlib.Omega.{arith}
use lib.Dec.{eqb}
use lib.ListN.{length, get_or, take, drop, drop_of_length-le}
use lib.Seq.{get_or-drop}
use borrow.Author.Tests.{ne_eqb}
use Rattle.std.specs.Prelude.{nat_eq}
use Rattle.std.specs.List.{starts_with}
use Rattle.hoa_tokens.specs.Bytes.{is_blank, same}
use Rattle.hoa_tokens.specs.Token.{begins}
use Rattle.hoa_tokens.specs.Stream.{Gap, gap, unclosed, lost, behind, opened, gap_of}
use Rattle.hoa_tokens.specs.inner.Reads.{stand, gap_from}
use Rattle.hoa_tokens.proofs.Sizes.{by_test, GapIn, gap_in}
use Rattle.hoa_tokens.proofs.Runs.{here, second, behind_second, starts_begins}

-- behind two stretches
behind_add : (i k n : ℕ) (g : Gap) → n ≡ i + k → behind i (behind k g) ≡ behind n g
behind_add i k n (gap m) e = ap gap (omega arith)
behind_add i k n (unclosed m) e = ap unclosed (omega arith)
behind_add i k n lost e = refl

-- ---- two bytes, one behind the other

-- another first byte
pub stand_other : (text : List ℕ) (i a b : ℕ) → (get_or text i 0 ≡ a → ⊥) → stand text i a b ≡ false
stand_other text i a b h = rw (ne_eqb (get_or text i 0) a h)

module _ (a b : ℕ) (some : 0 < a) (more : 0 < b) where
  -- in front of bytes
  pair_front : (bs : List ℕ) → begins (a ∷ b ∷ []) bs ≡ (eqb (get_or bs 0 0) a && eqb (get_or bs 1 0) b)
  unfolding same
  pair_front [] = rw (ne_eqb 0 a (λ (e : 0 ≡ a). omega arith))
  pair_front (x ∷ []) = rw (ne_eqb 0 b (λ (e : 0 ≡ b). omega arith))
  pair_front (x ∷ (y ∷ bs)) = ap (λ (t : Bool). eqb x a && t) (and_true (eqb y b))
    where
      and_true : (t : Bool) → (t && true) ≡ t
      and_true true = refl
      and_true false = refl

  -- at a place, as the library tells
  pub stand_starts : (text : List ℕ) (i : ℕ) {r : Bool} → r ≡ starts_with nat_eq (take (length text - i) (drop i text)) (a ∷ b ∷ []) → stand text i a b ≡ r
  stand_starts text i e =
      let first : get_or (drop i text) 0 0 ≡ get_or text i 0 = get_or-drop i text 0 0 ∙ ap (λ (k : ℕ). get_or text k 0) (omega arith) in
      let next : get_or (drop i text) 1 0 ≡ get_or text (i + 1) 0 = get_or-drop i text 1 0 in
      let both = pair_front (drop i text) in
      sym (rw (first, next) at both) ∙ starts_begins text i (a ∷ b ∷ []) e

-- ---- the rules, at a place

-- the rule with the second byte 0 where there is none
outside_rule : (b : ℕ) (bs : List ℕ) → gap_of (b ∷ bs) zero
    ≡ cond (is_blank b) (behind 1 (gap_of bs zero)) (cond (eqb b 47 && eqb (get_or bs 0 0) 42) (opened (gap_of (drop 1 bs) 1)) (gap 0))
unfolding gap_of
outside_rule b [] = by_test (is_blank b) (λ e. rw e) (λ e. by_test (eqb b 47) (λ q. rw (e, q)) (λ q. rw (e, q)))
outside_rule b (c ∷ bs) = refl

-- the same in a comment
inside_rule : (b : ℕ) (bs : List ℕ) (d : ℕ) → gap_of (b ∷ bs) (suc d)
    ≡ cond
    (eqb b 47 && eqb (get_or bs 0 0) 42)
    (behind 2 (gap_of (drop 1 bs) (suc (suc d))))
    (cond (eqb b 42 && eqb (get_or bs 0 0) 47) (behind 2 (gap_of (drop 1 bs) d)) (behind 1 (gap_of bs (suc d))))
unfolding gap_of
inside_rule b [] d =
    by_test (eqb b 47) (λ q. by_test (eqb b 42) (λ e. rw (q, e)) (λ e. rw (q, e))) (λ q. by_test (eqb b 42) (λ e. rw (q, e)) (λ e. rw (q, e)))
inside_rule b (c ∷ bs) d = refl

module _ (text : List ℕ) (i : ℕ) (l : i < length text) where
  -- outside of comments
  outside_at : gap_of (drop i text) zero
      ≡ cond
      (is_blank (get_or text i 0))
      (behind 1 (gap_of (drop (i + 1) text) zero))
      (cond (stand text i 47 42) (opened (gap_of (drop (i + 2) text) 1)) (gap 0))
  outside_at = rw (here text i l) (outside_rule (get_or text i 0) (drop (i + 1) text) ∙ rw (second text i, behind_second text i))

  -- in a comment
  inside_at : (d : ℕ) → gap_of (drop i text) (suc d)
      ≡ cond
      (stand text i 47 42)
      (behind 2 (gap_of (drop (i + 2) text) (suc (suc d))))
      (cond (stand text i 42 47) (behind 2 (gap_of (drop (i + 2) text) d)) (behind 1 (gap_of (drop (i + 1) text) (suc d))))
  inside_at d = rw (here text i l) (inside_rule (get_or text i 0) (drop (i + 1) text) d ∙ rw (second text i, behind_second text i))

  -- ---- in a comment, where `depth` are open

  -- `/*`
  pub comment_opens : (depth : ℕ) → 0 < depth → stand text i 47 42 ≡ true → gap_from text i depth ≡ gap_from text (i + 2) (depth + 1)
  comment_opens zero p e = absurd (omega arith)
  comment_opens (suc d) p e = rw (inside_at d, e, add-one (suc d)) (behind_add i 2 (i + 2) (gap_of (drop (i + 2) text) (suc (suc d))) refl)

  -- `*/`
  pub comment_closes : (depth : ℕ) → 0 < depth → stand text i 47 42 ≡ false → stand text i 42 47 ≡ true
      → gap_from text i depth ≡ gap_from text (i + 2) (depth - 1)
  comment_closes zero p e q = absurd (omega arith)
  comment_closes (suc d) p e q =
      let m : suc d - 1 ≡ d = omega arith in
      rw (inside_at d, e, q, m) (behind_add i 2 (i + 2) (gap_of (drop (i + 2) text) d) refl)

  -- any other byte
  pub comment_on : (depth : ℕ) → 0 < depth → stand text i 47 42 ≡ false → stand text i 42 47 ≡ false
      → gap_from text i depth ≡ gap_from text (i + 1) depth
  comment_on zero p e q = absurd (omega arith)
  comment_on (suc d) p e q = rw (inside_at d, e, q) (behind_add i 1 (i + 1) (gap_of (drop (i + 1) text) (suc d)) refl)

  -- ---- outside of comments

  -- a blank
  pub blank_on : is_blank (get_or text i 0) ≡ true → gap_from text i 0 ≡ gap_from text (i + 1) 0
  blank_on e = rw (outside_at, e) (behind_add i 1 (i + 1) (gap_of (drop (i + 1) text) 0) refl)

  -- neither a blank nor a comment
  pub token_here : is_blank (get_or text i 0) ≡ false → stand text i 47 42 ≡ false → gap_from text i 0 ≡ gap i
  token_here e q = rw (outside_at, e, q) (ap gap (omega arith))

  -- a comment begins
  comment_here : is_blank (get_or text i 0) ≡ false → stand text i 47 42 ≡ true → gap_from text i 0 ≡ behind i (opened (gap_of (drop (i + 2) text) 1))
  comment_here e q = rw (outside_at, e, q)

  -- an open comment is the gap's end
  endless : (g : Gap) → behind (i + 2) g ≡ lost → behind i (opened g) ≡ unclosed i
  -- an open comment is the gap's end
  endless (gap n) e = absurd (let z : ◌≡◌ {A = ℕ} 0 1 = cc in omega arith)
  -- an open comment is the gap's end
  endless (unclosed n) e = absurd (let z : ◌≡◌ {A = ℕ} 0 1 = cc in omega arith)
  endless lost e = ap unclosed (omega arith)

  -- a comment that is never closed
  pub comment_endless : is_blank (get_or text i 0) ≡ false → stand text i 47 42 ≡ true → gap_from text (i + 2) 1 ≡ lost → gap_from text i 0 ≡ unclosed i
  comment_endless e q h = comment_here e q ∙ endless (gap_of (drop (i + 2) text) 1) h

  -- behind a comment the gap goes on
  ended : (g h : Gap) (j k : ℕ) → GapIn k 0 h → behind (i + 2) g ≡ behind j h → behind i (opened g) ≡ behind j h
  ended (gap n) h j k f e = ap gap (omega arith) ∙ e
  ended (unclosed n) h j k f e = ap unclosed (omega arith) ∙ e
  -- behind a comment the gap goes on
  ended lost (gap m) j k f e = absurd (let z : ◌≡◌ {A = ℕ} 0 1 = cc in omega arith)
  -- behind a comment the gap goes on
  ended lost (unclosed m) j k f e = absurd (let z : ◌≡◌ {A = ℕ} 0 1 = cc in omega arith)
  ended lost lost j k f e = absurd (omega arith)

  -- a comment that ends
  pub comment_ended : (j : ℕ) → is_blank (get_or text i 0) ≡ false → stand text i 47 42 ≡ true → gap_from text (i + 2) 1 ≡ gap_from text j 0
      → gap_from text i 0 ≡ gap_from text j 0
  comment_ended j e q h =
      comment_here e q ∙ ended (gap_of (drop (i + 2) text) 1) (gap_of (drop j text) 0) j (length (drop j text)) (gap_in (drop j text) 0) h

-- ---- at the text's end

module _ (text : List ℕ) (i : ℕ) (l : length text ≤ i) where
  -- the gap ends
  pub gap_ends : gap_from text i 0 ≡ gap i
  unfolding gap_of
  gap_ends = rw (drop_of_length-le text l) (ap gap (omega arith))

  -- an open comment is never closed
  pub comment_lost : (depth : ℕ) → 0 < depth → gap_from text i depth ≡ lost
  unfolding gap_of
  comment_lost zero p = absurd (omega arith)
  comment_lost (suc d) p = rw (drop_of_length-le text l)
