-- Words: how far bytes agree with one, and where they stop beginning any of a form's words. Assumes nothing.
use mathlib.Core.Path.{◌≡◌, refl, sym, ap, subst, ◌∙◌}
use mathlib.Core.Bool.{true}
use mathlib.Core.List.{List, [], ◌∷◌, ◌++◌, append_assoc}
use mathlib.Core.Option.{Option, none}
use Prim.Native.Nat.{ℕ, zero, suc, ◌+◌, ◌-◌, ◌≤◌, ◌<◌, zero-le, suc-le-suc}
use native.Mathlib.Nat.{le_of_suc-le-suc}
use native.Mathlib.Omega.{arith}
use lib.Dec.{eqb}
use lib.ListN.{length, get_or, take, drop, length-append, length-drop, take-append-drop, drop_of_length-le}
use lib.Seq.{length-take-le, take_all, take-append-le, take-append_seam, take-suc, drop-cons, get_or-take, get_or-drop}
use borrow.Author.Tests.{eq-eqb, ne_eqb, eqb-true}
use Rattle.marks.proofs.Cases.{below}
use Rattle.table.specs.Row.{part}
use Rattle.job_values.specs.Bytes.{newline, ahead}
use Rattle.job_values.specs.Column.{given, Begins}
use Rattle.job_values.specs.inner.Field.{Within, Ended, Stuck, agree}
use Rattle.job_values.proofs.Cut.{by_test}
use Rattle.job_values.proofs.Sets.{longer, same_cut}
use Rattle.job_values.proofs.Fields.{ahead_append, ahead_before, given_none}

-- ---- how far two lists agree

pub agree_nil : (xs : List ℕ) → agree xs [] ≡ 0
unfolding agree
agree_nil [] = refl
agree_nil (x ∷ xs) = refl

pub agree_left : (v w : List ℕ) → agree v w ≤ length v
unfolding agree
agree_left [] w = zero-le
agree_left (x ∷ v) [] = zero-le
agree_left (x ∷ v) (y ∷ w) = by_test (eqb x y) (λ t. rw t (suc-le-suc (agree_left v w))) (λ t. rw t zero-le)

agree_take : (v w : List ℕ) → take (agree v w) v ≡ take (agree v w) w
unfolding agree
agree_take [] w = refl
agree_take (x ∷ v) [] = refl
agree_take (x ∷ v) (y ∷ w) = by_test (eqb x y) (λ t. rw (t, eqb-true x y t) (ap (λ (z : List ℕ). y ∷ z) (agree_take v w))) (λ t. rw t)

-- what is the same in both is counted
agree_least : (v w : List ℕ) (k : ℕ) → k ≤ length v → k ≤ length w → take k v ≡ take k w → k ≤ agree v w
unfolding agree
agree_least v w zero l h e = zero-le
agree_least [] w (suc k) l h e = absurd (omega arith)
agree_least (x ∷ v) [] (suc k) l h e = absurd (omega arith)
agree_least (x ∷ v) (y ∷ w) (suc k) l h e =
    let q : x ≡ y = cc in
    let r : take k v ≡ take k w = cc in
    rw (eq-eqb x y q) (suc-le-suc (agree_least v w k (le_of_suc-le-suc l) (le_of_suc-le-suc h) r))

-- one byte after the other
module _ (v w : List ℕ) (i : ℕ) where
  pub agree_more : i < length v → i < length w → get_or v i 0 ≡ get_or w i 0 → agree (drop i v) (drop i w) ≡ suc (agree (drop (suc i) v) (drop (suc i) w))
  unfolding agree
  agree_more l h e = rw (drop-cons v i 0 l, drop-cons w i 0 h, eq-eqb (get_or v i 0) (get_or w i 0) e)

  pub agree_other : i < length v → i < length w → (get_or v i 0 ≡ get_or w i 0 → ⊥) → agree (drop i v) (drop i w) ≡ 0
  unfolding agree
  agree_other l h e = rw (drop-cons v i 0 l, drop-cons w i 0 h, ne_eqb (get_or v i 0) (get_or w i 0) e)

  pub agree_end : length v ≤ i → agree (drop i v) (drop i w) ≡ 0
  unfolding agree
  agree_end l = rw (drop_of_length-le v l)

  pub agree_done : length w ≤ i → agree (drop i v) (drop i w) ≡ 0
  agree_done l = rw (drop_of_length-le w l) (agree_nil (drop i v))

-- ---- where a value that is no word of the form stops

head_is : {x y : ℕ} {xs ys : List ℕ} → x ∷ xs ≡ y ∷ ys → x ≡ y
head_is e = cc

module _ {A : Type 0} (form : List ℕ → Option A) (v : List ℕ) (k : ℕ) (wrong : form v ≡ none) (free : ahead newline v ≡ length v)
    (all : (u : List ℕ) → given (form u) ≡ true → (agree v u ≤ k) × (ahead newline u ≡ length u)) where
  -- a newline byte within the value
  inner : (u q : List ℕ) → given (form u) ≡ true → v ≡ u ++ (newline ∷ q) → ⊥
  inner u q g e = omega (arith, free, ap (ahead newline) e ∙ ahead_append newline u q (all u g).1, ap length e, length-append u (newline ∷ q))

  module _ (w : List ℕ) (g : given (form w) ≡ true) (is : agree v w ≡ k) where
    low : k ≤ length v
    low = omega (arith, agree_left v w, is)

    cut : take k (v ++ (newline ∷ [])) ≡ take k v
    cut = take-append-le k v (newline ∷ []) low

    begins : Begins (Ended newline form) (take k (v ++ (newline ∷ [])))
    begins =
        record {
          rest = drop k w ++ (newline ∷ []);
          whole =
              record {
                value = w;
                right = g;
                is =
                    ap (λ (z : List ℕ). z ++ (drop k w ++ (newline ∷ []))) (cut ∙ subst (λ (n : ℕ). take n v ≡ take n w) is (agree_take v w))
                    ∙ sym (append_assoc (take k w) (drop k w) (newline ∷ []))
                    ∙ ap (λ (z : List ℕ). z ++ (newline ∷ [])) (take-append-drop k w);
              };
        }

    -- a byte of the value is another than in every word
    differs : k < length v → (u rest : List ℕ) → given (form u) ≡ true → take (suc k) v ++ rest ≡ u ++ (newline ∷ []) → ⊥
    differs l u rest gu e =
        let n : length (take (suc k) v) ≡ suc k = length-take-le (suc k) v l in
        below k (length u)
        (λ h.
        let m = longer (take (suc k) v) rest u (newline ∷ []) e (omega (arith, n)) in
        let t : take (suc k) v ≡ take (suc k) u = sym (ap (take (suc k)) m.is ∙ ap (λ (j : ℕ). take j (take (suc k) v ++ m.more)) (sym n) ∙ take-append_seam (take (suc k) v) m.more) in
        omega (arith, agree_least v u (suc k) l h t, (all u gu).0))
        (λ h.
        let f : take k v ++ (get_or v k 0 ∷ rest) ≡ u ++ (newline ∷ []) =
        sym (append_assoc (take k v) (get_or v k 0 ∷ []) rest) ∙ ap (λ (z : List ℕ). z ++ rest) (sym (take-suc v k 0 l)) ∙ e in
        let c = same_cut (take k v) (get_or v k 0 ∷ rest) u (newline ∷ []) f (omega (arith, length-take-le k v (omega arith), n, ap length e, length-append (take (suc k) v) rest, length-append u (newline ∷ []))) in
        ahead_before newline v k (omega (arith, free)) (head_is c.1))

    no_more : Begins (Ended newline form) (take (suc k) (v ++ (newline ∷ []))) → ⊥
    no_more b =
        below k (length v)
        (λ l. differs l b.whole.value b.rest b.whole.right (ap (λ (z : List ℕ). z ++ b.rest) (sym (take-append-le (suc k) v (newline ∷ []) l)) ∙ b.whole.is))
        (λ l.
        let u = b.whole.value in
        let a : take (suc k) (v ++ (newline ∷ [])) ≡ v ++ (newline ∷ []) = take_all (suc k) (v ++ (newline ∷ [])) (omega (arith, length-append v (newline ∷ []))) in
        let e : v ++ (newline ∷ b.rest) ≡ u ++ (newline ∷ []) = sym (append_assoc v (newline ∷ []) b.rest) ∙ ap (λ (z : List ℕ). z ++ b.rest) (sym a) ∙ b.whole.is in
        let n : length v ≡ length u = sym (ahead_append newline v b.rest free) ∙ ap (ahead newline) e ∙ ahead_append newline u [] (all u b.whole.right).1 in
        let c = same_cut v (newline ∷ b.rest) u (newline ∷ []) e n in
        given_none (form v) wrong (rw c.0 b.whole.right))

    pub word_stuck : Stuck (Ended newline form) (v ++ (newline ∷ [])) k
    word_stuck =
        record {
          begins = begins;
          no_more = no_more;
          short = λ t. inner t.value (drop k v) t.right (sym (take-append-drop k v) ∙ ap (λ (z : List ℕ). z ++ drop k v) (sym cut ∙ t.is) ∙ append_assoc t.value (newline ∷ []) (drop k v));
        }

-- ---- a word in a line

-- the first i bytes agree
pub record Agrees (text : List ℕ) (at end : ℕ) (word : List ℕ) (i : ℕ) : Type 0 where
  pub few : i ≤ length word
  pub low : at + i ≤ end
  pub so_far : agree (part at end text) word ≡ i + agree (drop i (part at end text)) (drop i word)

module _ (text : List ℕ) (at end : ℕ) (w : Within text at end) (word : List ℕ) where
  pub value_long : length (part at end text) ≡ end - at
  value_long = length-take-le (end - at) (drop at text) (omega (arith, length-drop at text, w.ends))

  value_at : (i : ℕ) → at + i < end → get_or (part at end text) i 0 ≡ get_or text (at + i) 0
  value_at i l = get_or-take (end - at) (drop at text) i 0 (omega arith) ∙ get_or-drop at text i 0

  pub agrees_none : Agrees text at end word 0
  agrees_none = record { few = zero-le; low = omega (arith, w.ordered); so_far = omega arith }

  module _ (i : ℕ) (s : Agrees text at end word i) where
    pub agrees_end : end ≤ at + i → end ≡ at + agree (part at end text) word
    agrees_end l = omega (arith, s.low, s.so_far, agree_end (part at end text) word i (omega (arith, value_long)))

    pub agrees_done : length word ≤ i → at + i ≡ at + agree (part at end text) word
    agrees_done l = omega (arith, s.so_far, agree_done (part at end text) word i l)

    module _ (l : at + i < end) (h : i < length word) where
      pub agrees_stop : (get_or text (at + i) 0 ≡ get_or word i 0 → ⊥) → at + i ≡ at + agree (part at end text) word
      agrees_stop e =
          omega (arith, s.so_far, agree_other (part at end text) word i (omega (arith, value_long)) h (λ (q : get_or (part at end text) i 0 ≡ get_or word i 0). e (sym (value_at i l) ∙ q)))

      pub agrees_more : get_or text (at + i) 0 ≡ get_or word i 0 → Agrees text at end word (i + 1)
      agrees_more e =
          let n : i + 1 ≡ suc i = omega arith in
          let m = agree_more (part at end text) word i (omega (arith, value_long)) h (value_at i l ∙ e) in
          record { few = omega arith; low = omega arith; so_far = rw n (omega (arith, s.so_far, m)) }

-- what going along a word uses
pub ruleset word_steps = (agrees_none, agrees_end, agrees_done, agrees_stop, agrees_more)
