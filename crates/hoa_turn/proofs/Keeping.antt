-- What stays true from token to token while a formula is read (`Keeps`): counts of brackets stay small, and the needs are counted. Assumes nothing.
use mathlib.Core.Bool.{Bool, true, false, cond, ◌&&◌}
use mathlib.Core.List.{List, [], ◌∷◌, ◌++◌, reverse, reverse-cons, append_assoc}
use mathlib.Core.Path.{◌≡◌, refl, sym, ap, ◌∙◌}
use Prim.Native.Nat.{ℕ, zero, suc, ◌%◌, ◌+◌, ◌-◌, ◌≤◌, ◌<◌}
use native.Mathlib.Numerals.{add-one}
use native.Mathlib.Omega.{arith}
use lib.Dec.{eqb, ltb, leb}
use lib.ListN.{length, get_or, set, replicate, length-reverse}
use borrow.Author.Tests.{leb-false, ne_eqb}
use Rattle.hoa_standard.specs.declared.Piece.{Piece}
use Rattle.hoa_standard.specs.declared.Piece.TheVariants as piece_is
use Rattle.hoa_standard.specs.declared.Ahead.{Ahead}
use Rattle.hoa_standard.specs.declared.Ahead.TheVariants as ahead_kinds
use Rattle.hoa_standard.specs.declared.Past.{Past}
use Rattle.hoa_standard.specs.declared.Past.TheVariants as past_kinds
use Rattle.hoa_turn.specs.declared.step.Stage.{Stage}
use Rattle.hoa_turn.specs.declared.step.Stage.TheVariants as stage_is
use Rattle.hoa_turn.specs.declared.step.Formula.{Formula}
use Rattle.hoa_turn.specs.declared.step.Turn.TheVariants as turn_is
use Rattle.hoa_turn.specs.declared.needs.Needs.{Needs}
use Rattle.hoa_standard.specs.Standard.{most_pairs, eight_needs}
use Rattle.hoa_standard.specs.Machines.{RabinWants}
use Rattle.hoa_standard.specs.Formulas.{needs_inf, needs_fin}
use Rattle.hoa_standard.specs.inner.Sides.{ahead_is, AheadWithin, PastWithin, opened_to, inf_to, fin_to, truth_to, closed_to}
use Rattle.hoa_standard.specs.inner.Sides.{and_to, or_to, is_lost_ahead, is_lost_past}
use Rattle.hoa_turn.specs.inner.Turns as turns
use Rattle.hoa_turn.specs.inner.Turns.{Within, formula, opens_pair_ahead, go_ahead, go_named, go_past, turn_at}
use Rattle.hoa_turn.specs.inner.Counts.{Counts, no_ninth, Bounded, tally, needed_to, begun_to, inf_needs, stage_needs, counted_to}
use Rattle.hoa_turn.proofs.Steps.{needs_next}

-- ---- counts of brackets

open_within : (k : ℕ) (a : Ahead) → AheadWithin k a → AheadWithin (suc k) (opened_to a)
open_within k ahead_kinds.Lost h = tt
open_within k (ahead_kinds.Start d) h = omega arith
open_within k (ahead_kinds.FirstOr o m v) h = omega arith
open_within k (ahead_kinds.Buchi d) h = omega arith
open_within k (ahead_kinds.RabinFin m b) h = omega arith
open_within k (ahead_kinds.RabinInf m b d) h = omega arith
open_within k (ahead_kinds.StreettFin m u) h = omega arith
open_within k (ahead_kinds.StreettInf m v) h = omega arith

first_within : (k c o v : ℕ) (t : Bool) → v ≤ k → PastWithin (suc k) (cond t (past_kinds.Bare v) past_kinds.Lost)
first_within k c o v true h = omega arith
first_within k c o v false h = tt

first_within_2 : (k c o v : ℕ) (t : Bool) → o ≤ k → v ≤ k → PastWithin (suc k) (cond t (past_kinds.StreettInf o v) past_kinds.Lost)
first_within_2 k c o v true h l = omega arith
first_within_2 k c o v false h l = tt

truth_within_by : (k d : ℕ) (x t : Bool) → d ≤ k → PastWithin (suc k) (cond t (past_kinds.Truth x d) past_kinds.Lost)
truth_within_by k d x true h = omega arith
truth_within_by k d x false h = tt

inf_within : (k c : ℕ) (a : Ahead) → AheadWithin k a → PastWithin (suc k) (inf_to c a)
inf_within k c ahead_kinds.Lost h = tt
inf_within k c (ahead_kinds.Start d) h = omega arith
inf_within k c (ahead_kinds.FirstOr zero m v) h = first_within k c 0 v (eqb c 2) h.2
inf_within k c (ahead_kinds.FirstOr (suc o) m v) h = first_within_2 k c o v (eqb (c % 2) 0) (omega arith) h.2
inf_within k c (ahead_kinds.Buchi d) h = omega arith
inf_within k c (ahead_kinds.RabinFin m b) h = tt
inf_within k c (ahead_kinds.RabinInf m b d) h = omega arith
inf_within k c (ahead_kinds.StreettFin m u) h = tt
inf_within k c (ahead_kinds.StreettInf m v) h = omega arith

fin_within : (k : ℕ) (a : Ahead) → AheadWithin k a → PastWithin (suc k) (fin_to a)
fin_within k ahead_kinds.Lost h = tt
fin_within k (ahead_kinds.Start d) h = omega arith
fin_within k (ahead_kinds.FirstOr o m v) h = omega arith
fin_within k (ahead_kinds.Buchi d) h = tt
fin_within k (ahead_kinds.RabinFin m b) h = omega arith
fin_within k (ahead_kinds.RabinInf m b d) h = tt
fin_within k (ahead_kinds.StreettFin m zero) h = tt
fin_within k (ahead_kinds.StreettFin zero (suc u)) h = tt
fin_within k (ahead_kinds.StreettFin (suc m) (suc u)) h = omega arith
fin_within k (ahead_kinds.StreettInf m v) h = tt

truth_within : (k c : ℕ) (x : Bool) (a : Ahead) → AheadWithin k a → PastWithin (suc k) (truth_to c x a)
truth_within k c x ahead_kinds.Lost h = tt
truth_within k c x (ahead_kinds.Start d) h = truth_within_by k d x (eqb c 0) h
truth_within k c x (ahead_kinds.FirstOr o m v) h = tt
truth_within k c x (ahead_kinds.Buchi d) h = tt
truth_within k c x (ahead_kinds.RabinFin m b) h = tt
truth_within k c x (ahead_kinds.RabinInf m b d) h = tt
truth_within k c x (ahead_kinds.StreettFin m u) h = tt
truth_within k c x (ahead_kinds.StreettInf m v) h = tt

close_within : (k : ℕ) (p : Past) → PastWithin k p → PastWithin (suc k) (closed_to p)
close_within k past_kinds.Lost h = tt
close_within k (past_kinds.Truth b zero) h = tt
close_within k (past_kinds.Truth b (suc x)) h = omega arith
close_within k (past_kinds.Buchi zero) h = tt
close_within k (past_kinds.Buchi (suc x)) h = omega arith
close_within k (past_kinds.FirstFin zero) h = tt
close_within k (past_kinds.FirstFin (suc x)) h = omega arith
close_within k (past_kinds.RabinPair m b (suc d)) h = omega arith
close_within k (past_kinds.RabinPair zero b zero) h = tt
close_within k (past_kinds.RabinPair (suc m) zero zero) h = omega arith
close_within k (past_kinds.RabinPair (suc m) (suc b) zero) h = omega arith
close_within k (past_kinds.RabinGroup zero) h = tt
close_within k (past_kinds.RabinGroup (suc x)) h = omega arith
close_within k (past_kinds.StreettFin m zero) h = tt
close_within k (past_kinds.StreettFin zero (suc u)) h = tt
close_within k (past_kinds.StreettFin (suc m) (suc u)) h = omega arith
close_within k (past_kinds.StreettInf m zero) h = omega arith
close_within k (past_kinds.StreettInf m (suc x)) h = omega arith
close_within k (past_kinds.StreettPair zero) h = tt
close_within k (past_kinds.StreettPair (suc x)) h = omega arith
close_within k (past_kinds.Bare zero) h = tt
close_within k (past_kinds.Bare (suc x)) h = omega arith

and_within : (k : ℕ) (p : Past) → PastWithin k p → AheadWithin (suc k) (and_to p)
and_within k past_kinds.Lost h = tt
and_within k (past_kinds.Truth b d) h = tt
and_within k (past_kinds.Buchi d) h = omega arith
and_within k (past_kinds.FirstFin d) h = omega arith
and_within k (past_kinds.RabinPair m b d) h = omega arith
and_within k (past_kinds.RabinGroup m) h = tt
and_within k (past_kinds.StreettFin m u) h = tt
and_within k (past_kinds.StreettInf m v) h = tt
and_within k (past_kinds.StreettPair m) h = omega arith
and_within k (past_kinds.Bare x) h = tt

or_within : (k : ℕ) (p : Past) → PastWithin k p → AheadWithin (suc k) (or_to p)
or_within k past_kinds.Lost h = tt
or_within k (past_kinds.Truth b d) h = tt
or_within k (past_kinds.Buchi d) h = tt
or_within k (past_kinds.FirstFin d) h = omega arith
or_within k (past_kinds.RabinPair m b zero) h = omega arith
or_within k (past_kinds.RabinPair m b (suc d)) h = tt
or_within k (past_kinds.RabinGroup m) h = omega arith
or_within k (past_kinds.StreettFin m u) h = omega arith
or_within k (past_kinds.StreettInf m v) h = tt
or_within k (past_kinds.StreettPair m) h = tt
or_within k (past_kinds.Bare x) h = tt

past_more : (k : ℕ) (p : Past) → PastWithin k p → PastWithin (suc k) p
past_more k past_kinds.Lost h = tt
past_more k (past_kinds.Truth b d) h = omega arith
past_more k (past_kinds.Buchi d) h = omega arith
past_more k (past_kinds.FirstFin d) h = omega arith
past_more k (past_kinds.RabinPair m b d) h = omega arith
past_more k (past_kinds.RabinGroup m) h = omega arith
past_more k (past_kinds.StreettFin m u) h = omega arith
past_more k (past_kinds.StreettInf m v) h = omega arith
past_more k (past_kinds.StreettPair m) h = omega arith
past_more k (past_kinds.Bare x) h = omega arith

-- ---- needs

cond_same : {A : Type 0} (t : Bool) (x : A) → cond t x x ≡ x
cond_same true x = refl
cond_same false x = refl

set_at : (xs : List ℕ) (x : ℕ) (ys : List ℕ) (v : ℕ) → set (xs ++ (x ∷ ys)) (length xs) v ≡ xs ++ (v ∷ ys)
set_at [] x ys v = refl
set_at (a ∷ xs) x ys v = ap (λ (zs : List ℕ). a ∷ zs) (set_at xs x ys v)

get_at : (xs : List ℕ) (x : ℕ) (ys : List ℕ) → get_or (xs ++ (x ∷ ys)) (length xs) 0 ≡ x
get_at [] x ys = refl
get_at (a ∷ xs) x ys = get_at xs x ys

-- the needs with the last pair's apart
eight_last : (n : ℕ) (ns : List ℕ) → eight_needs (n ∷ ns) ≡ reverse ns ++ (n ∷ replicate (most_pairs - suc (length ns)) 0)
unfolding eight_needs
eight_last n ns = rw (reverse-cons n ns) (append_assoc (reverse ns) (n ∷ []) (replicate (most_pairs - suc (length ns)) 0))

eight_begun : (ns : List ℕ) → length ns < 8 → eight_needs (0 ∷ ns) ≡ eight_needs ns
unfolding eight_needs
eight_begun ns l =
    eight_last 0 ns
    ∙ ap (λ (j : ℕ). reverse ns ++ replicate j 0) (let z : suc (8 - suc (length ns)) ≡ 8 - length ns = omega arith in z)

eight_needed : (n : ℕ) (ns : List ℕ) → set (eight_needs (n ∷ ns)) (length ns) (get_or (eight_needs (n ∷ ns)) (length ns) 0 + 1) ≡ eight_needs (suc n ∷ ns)
eight_needed n ns =
    rw (eight_last n ns, eight_last (suc n) ns, ← length-reverse ns, get_at (reverse ns) n _, add-one, set_at (reverse ns) n _ (suc n))

counts_needed : (ns : List ℕ) (n : Needs) (m b d : ℕ) → Counts ns n → Counts (needs_inf (RabinWants.inf m b d) ns) (needed_to n)
counts_needed [] n m b d h = rw h.pairs (record { pairs = refl; needs = h.needs; few = h.few })
counts_needed (x ∷ ns) n m b d h =
    rw (ne_eqb n.pairs 0 (λ (e : n.pairs ≡ 0). omega (arith, h.pairs)))
    (record {
      pairs = h.pairs;
      needs = rw (h.needs, last) (eight_needed x ns);
      few = h.few;
    })
  where
    last : n.pairs - 1 ≡ length ns
    last = omega (arith, h.pairs)

counts_begun : (ns : List ℕ) (n : Needs) → n.pairs < 8 → Counts ns n → Counts (0 ∷ ns) (begun_to n)
counts_begun ns n l h =
    record { pairs = omega (arith, h.pairs); needs = h.needs ∙ sym (eight_begun ns (omega (arith, h.pairs))); few = omega (arith, h.pairs) }

-- no need grows by more than one
needed_each : (n : Needs) (k : ℕ) → ((i : ℕ) → get_or n.needs i 0 ≤ k) → (i : ℕ) → get_or (needed_to n).needs i 0 ≤ suc k
needed_each n k h i = by (eqb n.pairs 0)
  where
    one : (xs : List ℕ) (j i v : ℕ) → v ≤ suc k → ((i : ℕ) → get_or xs i 0 ≤ k) → get_or (set xs j v) i 0 ≤ suc k
    one [] j i v l g = omega (arith, g i)
    one (x ∷ xs) zero zero v l g = l
    one (x ∷ xs) zero (suc i) v l g = omega (arith, g (suc i))
    one (x ∷ xs) (suc j) zero v l g = omega (arith, g 0)
    one (x ∷ xs) (suc j) (suc i) v l g = one xs j i v l (λ i. g (suc i))

    by : (t : Bool) → get_or (cond t n (tally n.pairs (set n.needs (n.pairs - 1) (get_or n.needs (n.pairs - 1) 0 + 1)))).needs i 0 ≤ suc k
    by true = omega (arith, h i)
    by false = one n.needs (n.pairs - 1) i (get_or n.needs (n.pairs - 1) 0 + 1) (omega (arith, h (n.pairs - 1))) h

needed_pairs : (n : Needs) → (needed_to n).pairs ≡ n.pairs
needed_pairs n = by (eqb n.pairs 0)
  where
    by : (t : Bool) → (cond t n (tally n.pairs (set n.needs (n.pairs - 1) (get_or n.needs (n.pairs - 1) 0 + 1)))).pairs ≡ n.pairs
    by true = refl
    by false = refl

-- ---- where the reader goes on

ahead_goes : (d n : ℕ) (a : Ahead) (q : ℕ) (f : Formula) → go_ahead d n a q ≡ turn_is.Go f
    → (formula d n (stage_is.Operand a) ≡ f) × (leb most_pairs q && opens_pair_ahead a ≡ false)
ahead_goes d n a q f e = by (is_lost_ahead a) (leb most_pairs q && opens_pair_ahead a) refl e
  where
    by : (lost many : Bool) → leb most_pairs q && opens_pair_ahead a ≡ many
        → cond lost (turn_is.Wrong 41) (cond many (turn_is.Wrong 42) (turn_is.Go (formula d n (stage_is.Operand a)))) ≡ turn_is.Go f
        → (formula d n (stage_is.Operand a) ≡ f) × (leb most_pairs q && opens_pair_ahead a ≡ false)
    by true many m e = absurd (let z : ◌≡◌ {A = ℕ} 0 1 = cc in omega arith)
    by false true m e = absurd (let z : ◌≡◌ {A = ℕ} 0 1 = cc in omega arith)
    by false false m e = (cc, m)

named_goes : (c d n : ℕ) (p : Past) (f : Formula) → go_named c d n p ≡ turn_is.Go f → (formula d (suc n) (stage_is.Named p) ≡ f) × (ltb n c ≡ true)
named_goes c d n p f e = by (ltb n c) (is_lost_past p) refl e
  where
    by : (below lost : Bool) → ltb n c ≡ below
        → cond below (cond lost (turn_is.Wrong 41) (turn_is.Go (formula d (suc n) (stage_is.Named p)))) (turn_is.Wrong 41) ≡ turn_is.Go f
        → (formula d (suc n) (stage_is.Named p) ≡ f) × (ltb n c ≡ true)
    by true true b e = absurd (let z : ◌≡◌ {A = ℕ} 0 1 = cc in omega arith)
    by true false b e = (cc, b)
    by false lost b e = absurd (let z : ◌≡◌ {A = ℕ} 0 1 = cc in omega arith)

past_goes : (d n : ℕ) (p : Past) (f : Formula) → go_past d n p ≡ turn_is.Go f → formula d n (stage_is.After p) ≡ f
past_goes d n p f e = by (is_lost_past p) e
  where
    by : (lost : Bool) → cond lost (turn_is.Wrong 41) (turn_is.Go (formula d n (stage_is.After p))) ≡ turn_is.Go f → formula d n (stage_is.After p) ≡ f
    by true e = absurd (let z : ◌≡◌ {A = ℕ} 0 1 = cc in omega arith)
    by false e = cc

-- what stays true behind a token that is admitted
pub record Keeps (c : ℕ) (ns : List ℕ) (n : Needs) (f : Formula) (p : Piece) (f' : Formula) : Type 0 where
  pub within : (k : ℕ) → Within k f → Within (suc k) f'
  pub counts : Counts ns n → Bounded n f.atoms f.stage → Counts (needs_next c f.stage p ns) (counted_to n c f.atoms f.stage p)
  pub bounded : Bounded n f.atoms f.stage → Bounded (counted_to n c f.atoms f.stage p) f'.atoms f'.stage

never : {A : Type 0} (k : ℕ) (f : Formula) → turn_is.Wrong k ≡ turn_is.Go f → A
never k f e = absurd (let z : ◌≡◌ {A = ℕ} 0 1 = cc in omega arith)

never_over : {A : Type 0} (f : Formula) → turn_is.Over ≡ turn_is.Go f → A
never_over f e = absurd (let z : ◌≡◌ {A = ℕ} 0 1 = cc in omega arith)

never_ends : {A : Type 0} (d k : ℕ) (f : Formula) → turns.ends d k ≡ turn_is.Go f → A
never_ends zero k f e = never_over f e
never_ends (suc d) k f e = never k f e

module _ (c : ℕ) (ns : List ℕ) (n : Needs) where
  -- a token that changes no need
  still : (f : Formula) (p : Piece) (f' : Formula) → needs_next c f.stage p ns ≡ ns → stage_needs n f.stage p ≡ n → f.atoms ≤ f'.atoms
      → no_ninth n.pairs f'.stage ≡ false
      → ((k : ℕ) → Within k f → Within (suc k) f')
      → Keeps c ns n f p f'
  still f p f' e s l ninth w =
      record {
        within = w;
        counts = λ h b. rw (e, s, cond_same (ltb f.atoms c) n) h;
        bounded = λ b. rw (s, cond_same (ltb f.atoms c) n) (record { pairs = b.pairs; each = λ i. omega (arith, b.each i); ninth = ninth });
      }

  -- Inf
  inf_keeps : (d k : ℕ) (a : Ahead) → ltb k c ≡ true → Keeps c ns n (formula d k (stage_is.Operand a)) piece_is.Inf (formula d (suc k) (stage_is.Named (inf_to c a)))
  inf_keeps d k a l =
      record {
        within = λ j w. record { depth = omega (arith, w.depth); stage = inf_within j c a w.stage };
        counts = λ h b. rw l (counted a h);
        bounded = λ b. rw l (kept a b);
      }
    where
      counted : (x : Ahead) → Counts ns n → Counts (needs_inf (ahead_is c x).rabin ns) (inf_needs n x)
      counted ahead_kinds.Lost h = h
      counted (ahead_kinds.Start d) h = h
      counted (ahead_kinds.FirstOr o m v) h = h
      counted (ahead_kinds.Buchi d) h = h
      counted (ahead_kinds.RabinFin m b) h = h
      counted (ahead_kinds.RabinInf m b d) h = counts_needed ns n m b d h
      counted (ahead_kinds.StreettFin m u) h = h
      counted (ahead_kinds.StreettInf m v) h = h

      kept : (x : Ahead) → Bounded n k (stage_is.Operand a) → Bounded (inf_needs n x) (suc k) (stage_is.Named (inf_to c a))
      kept ahead_kinds.Lost b = record { pairs = b.pairs; each = λ i. omega (arith, b.each i); ninth = refl }
      kept (ahead_kinds.Start d) b = record { pairs = b.pairs; each = λ i. omega (arith, b.each i); ninth = refl }
      kept (ahead_kinds.FirstOr o m v) b = record { pairs = b.pairs; each = λ i. omega (arith, b.each i); ninth = refl }
      kept (ahead_kinds.Buchi d) b = record { pairs = b.pairs; each = λ i. omega (arith, b.each i); ninth = refl }
      kept (ahead_kinds.RabinFin m y) b = record { pairs = b.pairs; each = λ i. omega (arith, b.each i); ninth = refl }
      kept (ahead_kinds.RabinInf m y d) b = record { pairs = rw (needed_pairs n) b.pairs; each = needed_each n k b.each; ninth = refl }
      kept (ahead_kinds.StreettFin m u) b = record { pairs = b.pairs; each = λ i. omega (arith, b.each i); ninth = refl }
      kept (ahead_kinds.StreettInf m v) b = record { pairs = b.pairs; each = λ i. omega (arith, b.each i); ninth = refl }

  -- Fin
  fin_keeps : (d k : ℕ) (a : Ahead) → ltb k c ≡ true → Keeps c ns n (formula d k (stage_is.Operand a)) piece_is.Fin (formula d (suc k) (stage_is.Named (fin_to a)))
  fin_keeps d k a l =
      record {
        within = λ j w. record { depth = omega (arith, w.depth); stage = fin_within j a w.stage };
        counts = λ h b. rw l (counted a h b.ninth);
        bounded = λ b. rw l (kept a b);
      }
    where
      room : leb most_pairs n.pairs && true ≡ false → n.pairs < 8
      room e = by (leb most_pairs n.pairs) refl e
        where
          by : (t : Bool) → leb most_pairs n.pairs ≡ t → t && true ≡ false → n.pairs < 8
          by true x y = absurd (let z : ◌≡◌ {A = ℕ} 0 1 = cc in omega arith)
          by false x y = leb-false 8 n.pairs x

      counted : (x : Ahead) → Counts ns n → leb most_pairs n.pairs && opens_pair_ahead x ≡ false
          → Counts (needs_fin (ahead_is c x).rabin ns) (cond (opens_pair_ahead x) (begun_to n) n)
      counted ahead_kinds.Lost h e = h
      counted (ahead_kinds.Start d) h e = counts_begun ns n (room e) h
      counted (ahead_kinds.FirstOr o m v) h e = counts_begun ns n (room e) h
      counted (ahead_kinds.Buchi d) h e = h
      counted (ahead_kinds.RabinFin m b) h e = counts_begun ns n (room e) h
      counted (ahead_kinds.RabinInf m b d) h e = h
      counted (ahead_kinds.StreettFin m u) h e = h
      counted (ahead_kinds.StreettInf m v) h e = h

      kept : (x : Ahead) → Bounded n k (stage_is.Operand x) → Bounded (cond (opens_pair_ahead x) (begun_to n) n) (suc k) (stage_is.Named (fin_to a))
      kept ahead_kinds.Lost b = record { pairs = b.pairs; each = λ i. omega (arith, b.each i); ninth = refl }
      kept (ahead_kinds.Start d) b = record { pairs = omega (arith, room b.ninth); each = λ i. omega (arith, b.each i); ninth = refl }
      kept (ahead_kinds.FirstOr o m v) b = record { pairs = omega (arith, room b.ninth); each = λ i. omega (arith, b.each i); ninth = refl }
      kept (ahead_kinds.Buchi d) b = record { pairs = b.pairs; each = λ i. omega (arith, b.each i); ninth = refl }
      kept (ahead_kinds.RabinFin m y) b = record { pairs = omega (arith, room b.ninth); each = λ i. omega (arith, b.each i); ninth = refl }
      kept (ahead_kinds.RabinInf m y d) b = record { pairs = b.pairs; each = λ i. omega (arith, b.each i); ninth = refl }
      kept (ahead_kinds.StreettFin m u) b = record { pairs = b.pairs; each = λ i. omega (arith, b.each i); ninth = refl }
      kept (ahead_kinds.StreettInf m v) b = record { pairs = b.pairs; each = λ i. omega (arith, b.each i); ninth = refl }

  -- ---- by stages and tokens

  unwrap : {g f : Formula} → turn_is.Go g ≡ turn_is.Go f → g ≡ f
  unwrap e = cc

  to : {f : Formula} {p : Piece} {g f' : Formula} → g ≡ f' → Keeps c ns n f p g → Keeps c ns n f p f'
  to e h = rw e at h

  operand_keeps : (d k : ℕ) (a : Ahead) (p : Piece) (f : Formula) → turns.on_operand c d k a p n.pairs ≡ turn_is.Go f → Keeps c ns n (formula d k (stage_is.Operand a)) p f
  operand_keeps d k a piece_is.Left f e =
      to (ahead_goes (suc d) k (opened_to a) n.pairs f e).0
      (still _ piece_is.Left _ refl refl (omega arith) (ahead_goes (suc d) k (opened_to a) n.pairs f e).1
      (λ j w. record { depth = omega (arith, w.depth); stage = open_within j a w.stage }))
  operand_keeps d k a piece_is.Right f e = never 40 f e
  operand_keeps d k a piece_is.And f e = never 40 f e
  operand_keeps d k a piece_is.Or f e = never 40 f e
  operand_keeps d k a piece_is.Not f e = never 40 f e
  operand_keeps d k a piece_is.Inf f e = to (named_goes c d k (inf_to c a) f e).0 (inf_keeps d k a (named_goes c d k (inf_to c a) f e).1)
  operand_keeps d k a piece_is.Fin f e = to (named_goes c d k (fin_to a) f e).0 (fin_keeps d k a (named_goes c d k (fin_to a) f e).1)
  operand_keeps d k a (piece_is.Truth x) f e =
      to (past_goes d k (truth_to c x a) f e)
      (still _ (piece_is.Truth x) _ refl refl (omega arith) refl (λ j w. record { depth = omega (arith, w.depth); stage = truth_within j c x a w.stage }))
  operand_keeps d k a piece_is.Name f e = never 41 f e
  operand_keeps d k a (piece_is.Number x) f e = never 40 f e
  operand_keeps d k a piece_is.Abort f e = never 41 f e
  operand_keeps d k a piece_is.Foreign f e = never 40 f e

  named_keeps : (d k : ℕ) (b : Past) (p : Piece) (f : Formula) → turns.on_named d k b p ≡ turn_is.Go f → Keeps c ns n (formula d k (stage_is.Named b)) p f
  named_keeps d k b piece_is.Left f e =
      to (unwrap e)
      (still _ piece_is.Left (formula d k (stage_is.Bracket b)) refl refl (omega arith) refl (λ j w. record { depth = omega (arith, w.depth); stage = past_more j b w.stage }))
  named_keeps d k b piece_is.Right f e = never 40 f e
  named_keeps d k b piece_is.And f e = never 40 f e
  named_keeps d k b piece_is.Or f e = never 40 f e
  named_keeps d k b piece_is.Not f e = never 40 f e
  named_keeps d k b piece_is.Inf f e = never 40 f e
  named_keeps d k b piece_is.Fin f e = never 40 f e
  named_keeps d k b (piece_is.Truth x) f e = never 40 f e
  named_keeps d k b piece_is.Name f e = never 40 f e
  named_keeps d k b (piece_is.Number x) f e = never 40 f e
  named_keeps d k b piece_is.Abort f e = never 41 f e
  named_keeps d k b piece_is.Foreign f e = never 40 f e

  number_keeps : (d k : ℕ) (b : Past) (p : Piece) (f : Formula) → turns.on_number d k b p ≡ turn_is.Go f → Keeps c ns n (formula d k (stage_is.Number b)) p f
  number_keeps d k b piece_is.Left f e = never 40 f e
  number_keeps d k b piece_is.Right f e =
      to (unwrap e)
      (still _ piece_is.Right (formula d k (stage_is.After b)) refl refl (omega arith) refl (λ j w. record { depth = omega (arith, w.depth); stage = past_more j b w.stage }))
  number_keeps d k b piece_is.And f e = never 40 f e
  number_keeps d k b piece_is.Or f e = never 40 f e
  number_keeps d k b piece_is.Not f e = never 40 f e
  number_keeps d k b piece_is.Inf f e = never 40 f e
  number_keeps d k b piece_is.Fin f e = never 40 f e
  number_keeps d k b (piece_is.Truth x) f e = never 40 f e
  number_keeps d k b piece_is.Name f e = never 40 f e
  number_keeps d k b (piece_is.Number x) f e = never 40 f e
  number_keeps d k b piece_is.Abort f e = never 41 f e
  number_keeps d k b piece_is.Foreign f e = never 40 f e

  by_number : (d k : ℕ) (b : Past) (x : ℕ) (t : Bool) (f : Formula) → cond t (turn_is.Go (formula d k (stage_is.Number b))) (turn_is.Wrong 41) ≡ turn_is.Go f
      → Keeps c ns n (formula d k (stage_is.Bracket b)) (piece_is.Number x) f
  by_number d k b x true f e =
      to (unwrap e)
      (still _ (piece_is.Number x) (formula d k (stage_is.Number b)) refl refl (omega arith) refl
      (λ j w. record { depth = omega (arith, w.depth); stage = past_more j b w.stage }))
  by_number d k b x false f e = never 41 f e

  bracket_keeps : (d k : ℕ) (b : Past) (p : Piece) (f : Formula) → turns.on_bracket d k b p ≡ turn_is.Go f → Keeps c ns n (formula d k (stage_is.Bracket b)) p f
  bracket_keeps d k b piece_is.Left f e = never 40 f e
  bracket_keeps d k b piece_is.Right f e = never 40 f e
  bracket_keeps d k b piece_is.And f e = never 40 f e
  bracket_keeps d k b piece_is.Or f e = never 40 f e
  bracket_keeps d k b piece_is.Not f e = never 41 f e
  bracket_keeps d k b piece_is.Inf f e = never 40 f e
  bracket_keeps d k b piece_is.Fin f e = never 40 f e
  bracket_keeps d k b (piece_is.Truth x) f e = never 40 f e
  bracket_keeps d k b piece_is.Name f e = never 40 f e
  bracket_keeps d k b (piece_is.Number x) f e = by_number d k b x (eqb (suc x) k) f e
  bracket_keeps d k b piece_is.Abort f e = never 41 f e
  bracket_keeps d k b piece_is.Foreign f e = never 40 f e

  by_joined : (d k : ℕ) (b : Past) (p : Piece) (a : Ahead) (t : Bool) (f : Formula) → stage_needs n (stage_is.After b) p ≡ n
      → ((j : ℕ) → PastWithin j b → AheadWithin (suc j) a)
      → cond t (go_ahead d k a n.pairs) (turn_is.Wrong 41) ≡ turn_is.Go f
      → Keeps c ns n (formula d k (stage_is.After b)) p f
  by_joined d k b p a true f s h e =
      to (ahead_goes d k a n.pairs f e).0
      (still _ p (formula d k (stage_is.Operand a)) refl s (omega arith) (ahead_goes d k a n.pairs f e).1
      (λ j w. record { depth = omega (arith, w.depth); stage = h j w.stage }))
  by_joined d k b p a false f s h e = never 41 f e

  by_closed : (d k : ℕ) (b : Past) (f : Formula) → turns.closes d k b ≡ turn_is.Go f → Keeps c ns n (formula d k (stage_is.After b)) piece_is.Right f
  by_closed zero k b f e = never_over f e
  by_closed (suc d) k b f e =
      to (past_goes d k (closed_to b) f e)
      (still _ piece_is.Right (formula d k (stage_is.After (closed_to b))) refl refl (omega arith) refl
      (λ j w. record { depth = omega (arith, w.depth); stage = close_within j b w.stage }))

  after_keeps : (d k : ℕ) (b : Past) (p : Piece) (f : Formula) → turns.on_after c d k b p n.pairs ≡ turn_is.Go f → Keeps c ns n (formula d k (stage_is.After b)) p f
  after_keeps d k b piece_is.Left f e = never_ends d 40 f e
  after_keeps d k b piece_is.Right f e = by_closed d k b f e
  after_keeps d k b piece_is.And f e = by_joined d k b piece_is.And (and_to b) (ltb k c) f refl (λ j. and_within j b) e
  after_keeps d k b piece_is.Or f e = by_joined d k b piece_is.Or (or_to b) (ltb k c) f refl (λ j. or_within j b) e
  after_keeps d k b piece_is.Not f e = never_ends d 40 f e
  after_keeps d k b piece_is.Inf f e = never_ends d 40 f e
  after_keeps d k b piece_is.Fin f e = never_ends d 40 f e
  after_keeps d k b (piece_is.Truth x) f e = never_ends d 40 f e
  after_keeps d k b piece_is.Name f e = never_ends d 40 f e
  after_keeps d k b (piece_is.Number x) f e = never_ends d 40 f e
  after_keeps d k b piece_is.Abort f e = never_ends d 41 f e
  after_keeps d k b piece_is.Foreign f e = never_ends d 40 f e

  stage_keeps : (d k : ℕ) (g : Stage) (p : Piece) (f : Formula) → turns.on_stage c d k g p n.pairs ≡ turn_is.Go f → Keeps c ns n (formula d k g) p f
  stage_keeps d k (stage_is.Operand a) p f e = operand_keeps d k a p f e
  stage_keeps d k (stage_is.Named b) p f e = named_keeps d k b p f e
  stage_keeps d k (stage_is.Bracket b) p f e = bracket_keeps d k b p f e
  stage_keeps d k (stage_is.Number b) p f e = number_keeps d k b p f e
  stage_keeps d k (stage_is.After b) p f e = after_keeps d k b p f e

  pub keeps : (f : Formula) (p : Piece) (f' : Formula) → turn_at c f p n.pairs ≡ turn_is.Go f' → Keeps c ns n f p f'
  keeps f p f' e = stage_keeps f.depth f.atoms f.stage p f' e
