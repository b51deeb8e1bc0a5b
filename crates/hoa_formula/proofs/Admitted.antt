-- Every formula of std(c) is admitted, token by token, to where it stands complete with its meaning (`complete`): one lemma for each nonterminal.
-- Assumes nothing.
use mathlib.Core.Bool.{Bool, true, false, cond, ◌&&◌, ◌||◌}
use mathlib.Core.List.{List, [], ◌∷◌}
use mathlib.Core.Path.{◌≡◌, refl, sym, ap, ◌∙◌}
use Prim.Native.Nat.{ℕ, zero, suc, ◌%◌, ◌/◌, ◌≤◌, ◌<◌}
use native.Mathlib.Omega.{arith}
use lib.Dec.{ltb}
use borrow.Author.Tests.{lt-ltb, le-ltb, eq-eqb}
use Rattle.hoa_tokens.specs.declared.Word.{Word}
use Rattle.hoa_tokens.specs.declared.Word.TheVariants as word_is
use Rattle.hoa_tokens.specs.Token.{Token}
use Rattle.table.specs.declared.Acceptance.TheVariants as acceptance
use Rattle.hoa_standard.specs.declared.Piece.{Piece}
use Rattle.hoa_standard.specs.declared.Piece.TheVariants as piece_is
use Rattle.hoa_standard.specs.Standard.{left, right, both, either, atom, Infs, Infop, infs_end, infop_end, infs_text, infop_text, infs_count, infop_count, FormulaMeaning}
use Rattle.hoa_standard.specs.Standard.{standard}
use Rattle.hoa_standard.specs.Standard.{Pair, Phead, pair_end, phead_end, pair_text, phead_text, pair_need, phead_need, Rabin, Rabop, rabin_end, rabop_end, rabin_text, rabop_text}
use Rattle.hoa_standard.specs.Standard.{rabin_needs, rabop_needs}
use Rattle.hoa_standard.specs.Standard.{Single, Spair, Streett, Strop, streett_end, strop_end, single_text, spair_text, streett_text, strop_text, Truth, truth_text, truth_meaning}
use Rattle.hoa_standard.specs.Standard.{Std, std_text, IsStd, std_meaning, no_needs}
use Rattle.hoa_standard.specs.Machines.{Buchi, RabinWants, RabinBehind, StreettWants, StreettBehind, Bare, TruthWants, TruthBehind, Wants, Behind, begin}
use Rattle.hoa_standard.specs.Machines.{wants_open, wants_inf, wants_fin, wants_truth, behind_close, behind_and, behind_or, some_wants, some_behind}
use Rattle.hoa_standard.specs.Machines.{rabin_open, rabin_inf, rabin_close, rabin_or, buchi_live, rabin_wanting, rabin_live, streett_wanting, streett_live, bare_live, truth_wanting}
use Rattle.hoa_standard.specs.Machines.{truth_live, rabin_done, streett_done}
use Rattle.hoa_standard.specs.Formulas.{FormulaState, go, wrong, state, operand, named, number, after, word_piece, piece_of, on_operand, needs_inf}
use Rattle.hoa_standard.specs.Formulas.{needs_fin, by_done, truth_done, meaning_of, free_step, formula_begin}
use Rattle.hoa_formula.specs.Walking.{and_on, free_walk, Stands}

-- ---- some machine goes on

or_right : (a b : Bool) → b ≡ true → a || b ≡ true
or_right true b e = refl
or_right false b e = e

or_left : (a b : Bool) → a ≡ true → a || b ≡ true
or_left a b e = rw e

module _ (w : Wants) where
  some_buchi : buchi_live w.buchi ≡ true → some_wants w ≡ true
  some_buchi e = or_left _ _ e

  some_rabin : rabin_wanting w.rabin ≡ true → some_wants w ≡ true
  some_rabin e = or_right (buchi_live w.buchi) _ (or_left _ _ e)

  some_streett : streett_wanting w.streett ≡ true → some_wants w ≡ true
  some_streett e = or_right (buchi_live w.buchi) _ (or_right (rabin_wanting w.rabin) _ (or_left _ _ e))

  some_bare : bare_live w.bare ≡ true → some_wants w ≡ true
  some_bare e = or_right (buchi_live w.buchi) _ (or_right (rabin_wanting w.rabin) _ (or_right (streett_wanting w.streett) _ (or_left _ _ e)))

  some_truth : truth_wanting w.truth ≡ true → some_wants w ≡ true
  some_truth e =
      or_right (buchi_live w.buchi) _ (or_right (rabin_wanting w.rabin) _ (or_right (streett_wanting w.streett) _ (or_right (bare_live w.bare) _ e)))

module _ (b : Behind) where
  past_buchi : buchi_live b.buchi ≡ true → some_behind b ≡ true
  past_buchi e = or_left _ _ e

  past_rabin : rabin_live b.rabin ≡ true → some_behind b ≡ true
  past_rabin e = or_right (buchi_live b.buchi) _ (or_left _ _ e)

  past_streett : streett_live b.streett ≡ true → some_behind b ≡ true
  past_streett e = or_right (buchi_live b.buchi) _ (or_right (rabin_live b.rabin) _ (or_left _ _ e))

  past_bare : bare_live b.bare ≡ true → some_behind b ≡ true
  past_bare e = or_right (buchi_live b.buchi) _ (or_right (rabin_live b.rabin) _ (or_right (streett_live b.streett) _ (or_left _ _ e)))

  past_truth : truth_live b.truth ≡ true → some_behind b ≡ true
  past_truth e =
      or_right (buchi_live b.buchi) _ (or_right (rabin_live b.rabin) _ (or_right (streett_live b.streett) _ (or_right (bare_live b.bare) _ e)))

-- ---- single tokens, and atoms

module _ (c d n : ℕ) (ns : List ℕ) (ts : List Token) where
  open_step : (w : Wants) → some_wants (wants_open w) ≡ true → free_walk c (state d n ns (operand w)) (left ts) ≡ free_walk c (state (suc d) n ns (operand (wants_open w))) ts
  unfolding free_walk free_step piece_of
  open_step w e = ap (λ (t : Bool). and_on (cond t (go (state (suc d) n ns (operand (wants_open w)))) (wrong 41)) (λ s. free_walk c s ts)) e

  close_step : (b : Behind) → some_behind (behind_close b) ≡ true → free_walk c (state (suc d) n ns (after b)) (right ts) ≡ free_walk c (state d n ns (after (behind_close b))) ts
  unfolding free_walk free_step piece_of
  close_step b e = ap (λ (t : Bool). and_on (cond t (go (state d n ns (after (behind_close b)))) (wrong 41)) (λ s. free_walk c s ts)) e

  and_step : (b : Behind) → n < c → some_wants (behind_and b) ≡ true → free_walk c (state d n ns (after b)) (both ts) ≡ free_walk c (state d n ns (operand (behind_and b))) ts
  unfolding free_walk free_step piece_of
  and_step b l e =
      ap (λ (u : Bool). and_on (cond u (cond (some_wants (behind_and b)) (go (state d n ns (operand (behind_and b)))) (wrong 41)) (wrong 41)) (λ s. free_walk c s ts)) (lt-ltb n c l)
      ∙ ap (λ (t : Bool). and_on (cond t (go (state d n ns (operand (behind_and b)))) (wrong 41)) (λ s. free_walk c s ts)) e

  or_step : (b : Behind) → n < c → some_wants (behind_or b) ≡ true → free_walk c (state d n ns (after b)) (either ts) ≡ free_walk c (state d n ns (operand (behind_or b))) ts
  unfolding free_walk free_step piece_of
  or_step b l e =
      ap (λ (u : Bool). and_on (cond u (cond (some_wants (behind_or b)) (go (state d n ns (operand (behind_or b)))) (wrong 41)) (wrong 41)) (λ s. free_walk c s ts)) (lt-ltb n c l)
      ∙ ap (λ (t : Bool). and_on (cond t (go (state d n ns (operand (behind_or b)))) (wrong 41)) (λ s. free_walk c s ts)) e

  -- behind the word: its bracket, its number, its bracket
  rest_step : (b : Behind) → free_walk c (state d (suc n) ns (named b)) (left (Token.int n ∷ right ts)) ≡ free_walk c (state d (suc n) ns (after b)) ts
  unfolding free_walk free_step piece_of
  rest_step b =
      ap (λ (t : Bool). and_on (cond t (go (state d (suc n) ns (number b))) (wrong 41)) (λ s. free_walk c s (right ts))) (eq-eqb (suc n) (suc n) refl)

  begun_step : (b : Behind) → n < c → some_behind b ≡ true
      → and_on (cond (ltb n c && some_behind b) (go (state d (suc n) ns (named b))) (wrong 41)) (λ s. free_walk c s (left (Token.int n ∷ right ts)))
      ≡ free_walk c (state d (suc n) ns (after b)) ts
  begun_step b l e =
      ap (λ (t : Bool). and_on (cond (t && some_behind b) (go (state d (suc n) ns (named b))) (wrong 41)) (λ s. free_walk c s (left (Token.int n ∷ right ts)))) (lt-ltb n c l)
      ∙ ap (λ (t : Bool). and_on (cond t (go (state d (suc n) ns (named b))) (wrong 41)) (λ s. free_walk c s (left (Token.int n ∷ right ts)))) e
      ∙ rest_step b

module _ (c d n : ℕ) (ns : List ℕ) (ts : List Token) (w : Wants) (l : n < c) where
  inf_step : some_behind (wants_inf w) ≡ true
      → free_walk c (state d n ns (operand w)) (atom word_is.Inf n ts) ≡ free_walk c (state d (suc n) (needs_inf w.rabin ns) (after (wants_inf w))) ts
  unfolding free_walk free_step piece_of
  inf_step e = begun_step c d n (needs_inf w.rabin ns) ts (wants_inf w) l e

  fin_step : some_behind (wants_fin w) ≡ true
      → free_walk c (state d n ns (operand w)) (atom word_is.Fin n ts) ≡ free_walk c (state d (suc n) (needs_fin w.rabin ns) (after (wants_fin w))) ts
  unfolding free_walk free_step piece_of
  fin_step e = begun_step c d n (needs_fin w.rabin ns) ts (wants_fin w) l e

-- ---- nonterminals

-- from s the text leads behind an operand, with so many brackets and atoms
record Arrives (c : ℕ) (s : FormulaState) (text : List Token) (d n : ℕ) (ts : List Token) (Q : Behind → List ℕ → Type 0) : Type 0 where
  needs : List ℕ
  behind : Behind
  walk : free_walk c s text ≡ free_walk c (state d n needs (after behind)) ts
  holds : Q behind needs

mutual
  unfolding infs_end infop_end

  infs_more : (x : Infs) (n : ℕ) → n < infs_end x n
  infs_more (Infs.one x) n = infop_more x n
  infs_more (Infs.more x y) n = omega (arith, infop_more x n, infs_more y (infop_end x n))

  infop_more : (x : Infop) (n : ℕ) → n < infop_end x n
  infop_more Infop.mark n = omega arith
  infop_more (Infop.brackets x) n = infs_more x n

-- infs, for any machine that takes rows of `&` in brackets: at e brackets, with k Inf counted
module _ (c : ℕ) (PW : ℕ → ℕ → Wants → List ℕ → Type 0) (PB : ℕ → ℕ → Behind → List ℕ → Type 0)
    (w-open : (e k : ℕ) (w : Wants) (ns : List ℕ) → PW e k w ns → PW (suc e) k (wants_open w) ns × (some_wants (wants_open w) ≡ true))
    (w-inf : (e k : ℕ) (w : Wants) (ns : List ℕ) → PW e k w ns → PB e (suc k) (wants_inf w) (needs_inf w.rabin ns) × (some_behind (wants_inf w) ≡ true))
    (b_close : (e k : ℕ) (b : Behind) (ns : List ℕ) → PB (suc e) k b ns → PB e k (behind_close b) ns × (some_behind (behind_close b) ≡ true))
    (b-and : (e k : ℕ) (b : Behind) (ns : List ℕ) → PB e k b ns → PW e k (behind_and b) ns × (some_wants (behind_and b) ≡ true)) where
  mutual
    unfolding infs_end infop_end infs_text infop_text infs_count infop_count

    infs_walk : (x : Infs) (d n e k : ℕ) (w : Wants) (ns : List ℕ) (ts : List Token) → PW e k w ns → infs_end x n ≤ c
        → Arrives c (state d n ns (operand w)) (infs_text x n ts) d (infs_end x n) ts (PB e (infs_count x k))
    infs_walk (Infs.one x) d n e k w ns ts h l = infop_walk x d n e k w ns ts h l
    infs_walk (Infs.more x y) d n e k w ns ts h l =
        let m = infs_more y (infop_end x n) in
        let a = infop_walk x d n e k w ns (both (infs_text y (infop_end x n) ts)) h (omega arith) in
        let g = b-and e (infop_count x k) a.behind a.needs a.holds in
        let r = infs_walk y d (infop_end x n) e (infop_count x k) (behind_and a.behind) a.needs ts g.0 l in
        record {
          needs = r.needs;
          behind = r.behind;
          walk = a.walk ∙ and_step c d (infop_end x n) a.needs (infs_text y (infop_end x n) ts) a.behind (omega arith) g.1 ∙ r.walk;
          holds = r.holds;
        }

    infop_walk : (x : Infop) (d n e k : ℕ) (w : Wants) (ns : List ℕ) (ts : List Token) → PW e k w ns → infop_end x n ≤ c
        → Arrives c (state d n ns (operand w)) (infop_text x n ts) d (infop_end x n) ts (PB e (infop_count x k))
    infop_walk Infop.mark d n e k w ns ts h l =
        let g = w-inf e k w ns h in
        record { needs = needs_inf w.rabin ns; behind = wants_inf w; walk = inf_step c d n ns ts w l g.1; holds = g.0 }
    infop_walk (Infop.brackets x) d n e k w ns ts h l =
        let g = w-open e k w ns h in
        let a = infs_walk x (suc d) n (suc e) k (wants_open w) ns (right ts) g.0 l in
        let q = b_close e (infs_count x k) a.behind a.needs a.holds in
        record {
          needs = a.needs;
          behind = behind_close a.behind;
          walk = open_step c d n ns (infs_text x n (right ts)) w g.1 ∙ a.walk ∙ close_step c d (infs_end x n) a.needs ts a.behind q.1;
          holds = q.0;
        }

-- infs as a Büchi formula
buchi_walk : (c : ℕ) (x : Infs) (d n e : ℕ) (w : Wants) (ns : List ℕ) (ts : List Token) → w.buchi ≡ Buchi.live e → infs_end x n ≤ c
    → Arrives c (state d n ns (operand w)) (infs_text x n ts) d (infs_end x n) ts (λ b ns. b.buchi ≡ Buchi.live e)
buchi_walk c x d n e w ns ts h l =
    infs_walk c (λ e k w ns. w.buchi ≡ Buchi.live e) (λ e k b ns. b.buchi ≡ Buchi.live e)
    (λ e k w ns h. (rw h, some_buchi (wants_open w) (rw h)))
    (λ e k w ns h. (h, past_buchi (wants_inf w) (rw h)))
    (λ e k b ns h. (rw h, past_buchi (behind_close b) (rw h)))
    (λ e k b ns h. (h, some_buchi (behind_and b) (rw h)))
    x d n e 0 w ns ts h l

-- infs as the needs of a Rabin pair
needs_walk : (c m b : ℕ) (ms : List ℕ) (x : Infs) (d n k : ℕ) (w : Wants) (ns : List ℕ) (ts : List Token)
    → w.rabin ≡ RabinWants.inf m b 0 × (ns ≡ k ∷ ms) × (w.buchi ≡ Buchi.lost)
    → infs_end x n ≤ c
    → Arrives c (state d n ns (operand w)) (infs_text x n ts) d (infs_end x n) ts
    (λ y ns. y.rabin ≡ RabinBehind.pair m b 0 × (ns ≡ infs_count x k ∷ ms) × (y.buchi ≡ Buchi.lost))
needs_walk c m b ms x d n k w ns ts h l =
    infs_walk c (λ e k w ns. w.rabin ≡ RabinWants.inf m b e × (ns ≡ k ∷ ms) × (w.buchi ≡ Buchi.lost))
    (λ e k y ns. y.rabin ≡ RabinBehind.pair m b e × (ns ≡ k ∷ ms) × (y.buchi ≡ Buchi.lost))
    (λ e k w ns h. ((rw h.0, h.1, rw h.2), some_rabin (wants_open w) (rw h.0)))
    (λ e k w ns h. ((rw h.0, rw (h.0, h.1), h.2), past_rabin (wants_inf w) (rw h.0)))
    (λ e k y ns h. ((rw h.0, h.1, rw h.2), past_rabin (behind_close y) (rw h.0)))
    (λ e k y ns h. ((rw h.0, h.1, h.2), some_rabin (behind_and y) (rw h.0)))
    x d n 0 k w ns ts h l

-- ---- Rabin

mutual
  unfolding pair_end phead_end

  pair_more : (x : Pair) (n : ℕ) → n < pair_end x n
  pair_more (Pair.alone x) n = phead_more x n
  pair_more (Pair.needing x y) n = omega (arith, phead_more x n, infs_more y (phead_end x n))

  phead_more : (x : Phead) (n : ℕ) → n < phead_end x n
  phead_more Phead.mark n = omega arith
  phead_more (Phead.brackets x) n = pair_more x n

mutual
  unfolding pair_end phead_end pair_text phead_text pair_need phead_need

  pair_walk : (x : Pair) (c m b d n : ℕ) (w : Wants) (ns : List ℕ) (ts : List Token) → w.rabin ≡ RabinWants.fin m b → pair_end x n ≤ c
      → Arrives c (state d n ns (operand w)) (pair_text x n ts) d (pair_end x n) ts (λ y ms. y.rabin ≡ RabinBehind.pair m b 0 × (ms ≡ pair_need x ∷ ns) × (y.buchi ≡ Buchi.lost))
  pair_walk (Pair.alone x) c m b d n w ns ts h l = phead_walk x c m b d n w ns ts h l
  pair_walk (Pair.needing x y) c m b d n w ns ts h l =
      let z = infs_more y (phead_end x n) in
      let a = phead_walk x c m b d n w ns (both (infs_text y (phead_end x n) ts)) h (omega arith) in
      let r =
      needs_walk c m b ns y d (phead_end x n) (phead_need x) (behind_and a.behind) a.needs ts (rw a.holds.0, a.holds.1, a.holds.2) l in
      record {
        needs = r.needs;
        behind = r.behind;
        walk =
            a.walk
            ∙ and_step c d (phead_end x n) a.needs (infs_text y (phead_end x n) ts) a.behind (omega arith) (some_rabin (behind_and a.behind) (rw a.holds.0))
            ∙ r.walk;
        holds = r.holds;
      }

  phead_walk : (x : Phead) (c m b d n : ℕ) (w : Wants) (ns : List ℕ) (ts : List Token) → w.rabin ≡ RabinWants.fin m b → phead_end x n ≤ c
      → Arrives c (state d n ns (operand w)) (phead_text x n ts) d (phead_end x n) ts (λ y ms. y.rabin ≡ RabinBehind.pair m b 0 × (ms ≡ phead_need x ∷ ns) × (y.buchi ≡ Buchi.lost))
  phead_walk Phead.mark c m b d n w ns ts h l =
      record {
        needs = needs_fin w.rabin ns;
        behind = wants_fin w;
        walk = fin_step c d n ns ts w l (past_rabin (wants_fin w) (rw h));
        holds = (rw h, rw h, refl);
      }
  phead_walk (Phead.brackets x) c m b d n w ns ts h l =
      let a = pair_walk x c (suc m) (suc b) (suc d) n (wants_open w) ns (right ts) (rw h) l in
      record {
        needs = a.needs;
        behind = behind_close a.behind;
        walk =
            open_step c d n ns (pair_text x n (right ts)) w (some_rabin (wants_open w) (rw h))
            ∙ a.walk
            ∙ close_step c d (pair_end x n) a.needs ts a.behind (past_rabin (behind_close a.behind) (rw a.holds.0));
        holds = (rw a.holds.0, a.holds.1, rw a.holds.2);
      }

-- behind a row of pairs in m brackets
data Rowed (m : ℕ) : RabinBehind → Type 0 where
  paired : (b : ℕ) → Rowed m (RabinBehind.pair m b 0)
  grouped : Rowed m (RabinBehind.group m)

rowed_close : (m : ℕ) (r : RabinBehind) → Rowed (suc m) r → Rowed m (rabin_close r) × (rabin_live (rabin_close r) ≡ true)
rowed_close m r (paired zero) = (grouped, refl)
rowed_close m r (paired (suc b)) = (paired b, refl)
rowed_close m r grouped = (grouped, refl)

rowed_or : (m : ℕ) (r : RabinBehind) → Rowed m r → rabin_or r ≡ RabinWants.fin m 0
rowed_or m r (paired b) = refl
rowed_or m r grouped = refl

rowed_done : (r : RabinBehind) → Rowed 0 r → rabin_done r ≡ true
rowed_done r (paired b) = refl
rowed_done r grouped = refl

mutual
  unfolding rabin_end rabop_end

  rabin_more : (x : Rabin) (n : ℕ) → n < rabin_end x n
  rabin_more (Rabin.one x) n = rabop_more x n
  rabin_more (Rabin.more x y) n = omega (arith, rabop_more x n, rabin_more y (rabop_end x n))

  rabop_more : (x : Rabop) (n : ℕ) → n < rabop_end x n
  rabop_more (Rabop.pair x) n = pair_more x n
  rabop_more (Rabop.brackets x) n = rabin_more x n

mutual
  unfolding rabin_end rabop_end rabin_text rabop_text rabin_needs rabop_needs

  rabin_walk : (x : Rabin) (c m b d n : ℕ) (w : Wants) (ns : List ℕ) (ts : List Token) → w.rabin ≡ RabinWants.fin m b → rabin_end x n ≤ c
      → Arrives c (state d n ns (operand w)) (rabin_text x n ts) d (rabin_end x n) ts (λ y ms. Rowed m y.rabin × (ms ≡ rabin_needs x ns) × (y.buchi ≡ Buchi.lost))
  rabin_walk (Rabin.one x) c m b d n w ns ts h l = rabop_walk x c m b d n w ns ts h l
  rabin_walk (Rabin.more x y) c m b d n w ns ts h l =
      let z = rabin_more y (rabop_end x n) in
      let a = rabop_walk x c m b d n w ns (either (rabin_text y (rabop_end x n) ts)) h (omega arith) in
      let g = rowed_or m a.behind.rabin a.holds.0 in
      let r = rabin_walk y c m 0 d (rabop_end x n) (behind_or a.behind) a.needs ts g l in
      record {
        needs = r.needs;
        behind = r.behind;
        walk =
            a.walk
            ∙ or_step c d (rabop_end x n) a.needs (rabin_text y (rabop_end x n) ts) a.behind (omega arith) (some_rabin (behind_or a.behind) (rw g))
            ∙ r.walk;
        holds = (r.holds.0, r.holds.1 ∙ ap (rabin_needs y) a.holds.1, r.holds.2);
      }

  rabop_walk : (x : Rabop) (c m b d n : ℕ) (w : Wants) (ns : List ℕ) (ts : List Token) → w.rabin ≡ RabinWants.fin m b → rabop_end x n ≤ c
      → Arrives c (state d n ns (operand w)) (rabop_text x n ts) d (rabop_end x n) ts (λ y ms. Rowed m y.rabin × (ms ≡ rabop_needs x ns) × (y.buchi ≡ Buchi.lost))
  rabop_walk (Rabop.pair x) c m b d n w ns ts h l =
      let a = pair_walk x c m b d n w ns ts h l in
      record { needs = a.needs; behind = a.behind; walk = a.walk; holds = (rw a.holds.0 (paired b), a.holds.1, a.holds.2) }
  rabop_walk (Rabop.brackets x) c m b d n w ns ts h l =
      let a = rabin_walk x c (suc m) (suc b) (suc d) n (wants_open w) ns (right ts) (rw h) l in
      let g = rowed_close m a.behind.rabin a.holds.0 in
      record {
        needs = a.needs;
        behind = behind_close a.behind;
        walk =
            open_step c d n ns (rabin_text x n (right ts)) w (some_rabin (wants_open w) (rw h))
            ∙ a.walk
            ∙ close_step c d (rabin_end x n) a.needs ts a.behind (past_rabin (behind_close a.behind) g.1);
        holds = (g.0, a.holds.1, rw a.holds.2);
      }

-- ---- Streett, and the bare pair

-- neither Büchi nor Rabin goes on with an Inf
data Head : RabinWants → Type 0 where
  none : Head RabinWants.lost
  some : (m b : ℕ) → Head (RabinWants.fin m b)

abbrev Plain : Wants → Type 0
Plain w = (w.buchi ≡ Buchi.lost) × Head w.rabin

abbrev Quiet : Behind → Type 0
Quiet b = (b.buchi ≡ Buchi.lost) × (b.rabin ≡ RabinBehind.lost)

head_open : (r : RabinWants) → Head r → Head (rabin_open r)
head_open r none = none
head_open r (some m b) = some (suc m) (suc b)

head_inf : (r : RabinWants) → Head r → rabin_inf r ≡ RabinBehind.lost
head_inf r none = refl
head_inf r (some m b) = refl

or_head : (r : RabinBehind) → Head (rabin_or r)
or_head RabinBehind.lost = none
or_head (RabinBehind.pair m b zero) = some m 0
or_head (RabinBehind.pair m b (suc d)) = none
or_head (RabinBehind.group m) = some m 0

plain_open : (w : Wants) → Plain w → Plain (wants_open w)
plain_open w h = (rw h.0, head_open w.rabin h.1)

plain_inf : (w : Wants) → Plain w → Quiet (wants_inf w)
plain_inf w h = (h.0, head_inf w.rabin h.1)

or_plain : (b : Behind) → Plain (behind_or b)
or_plain b = (refl, or_head b.rabin)

quiet_close : (b : Behind) → Quiet b → Quiet (behind_close b)
quiet_close b h = (rw h.0, rw h.1)

-- fin(i) where a Streett pair is expected
streett_fin_walk : (x : Single) (c m u d n : ℕ) (w : Wants) (ns : List ℕ) (ts : List Token) → w.streett ≡ StreettWants.fin (suc m) (suc u) → n < c
    → Arrives c (state d n ns (operand w)) (single_text x word_is.Fin n ts) d (suc n) ts (λ y ms. y.streett ≡ StreettBehind.fin m u)
unfolding single_text
streett_fin_walk Single.mark c m u d n w ns ts h l =
    record {
      needs = needs_fin w.rabin ns;
      behind = wants_fin w;
      walk = fin_step c d n ns ts w l (past_streett (wants_fin w) (rw h));
      holds = rw h;
    }
streett_fin_walk (Single.brackets x) c m u d n w ns ts h l =
    let a = streett_fin_walk x c (suc m) (suc u) (suc d) n (wants_open w) ns (right ts) (rw h) l in
    record {
      needs = a.needs;
      behind = behind_close a.behind;
      walk =
          open_step c d n ns (single_text x word_is.Fin n (right ts)) w (some_streett (wants_open w) (rw h))
          ∙ a.walk
          ∙ close_step c d (suc n) a.needs ts a.behind (past_streett (behind_close a.behind) (rw a.holds));
      holds = rw a.holds;
    }

-- inf(i) behind it
streett_inf_walk : (x : Single) (c m v d n : ℕ) (w : Wants) (ns : List ℕ) (ts : List Token) → w.streett ≡ StreettWants.inf m v × Plain w → n < c
    → Arrives c (state d n ns (operand w)) (single_text x word_is.Inf n ts) d (suc n) ts (λ y ms. (y.streett ≡ StreettBehind.inf m v) × Quiet y)
unfolding single_text
streett_inf_walk Single.mark c m v d n w ns ts h l =
    record {
      needs = needs_inf w.rabin ns;
      behind = wants_inf w;
      walk = inf_step c d n ns ts w l (past_streett (wants_inf w) (rw h.0));
      holds = (rw h.0, plain_inf w h.1);
    }
streett_inf_walk (Single.brackets x) c m v d n w ns ts h l =
    let a = streett_inf_walk x c m (suc v) (suc d) n (wants_open w) ns (right ts) (rw h.0, plain_open w h.1) l in
    record {
      needs = a.needs;
      behind = behind_close a.behind;
      walk =
          open_step c d n ns (single_text x word_is.Inf n (right ts)) w (some_streett (wants_open w) (rw h.0))
          ∙ a.walk
          ∙ close_step c d (suc n) a.needs ts a.behind (past_streett (behind_close a.behind) (rw a.holds.0));
      holds = (rw a.holds.0, quiet_close a.behind a.holds.1);
    }

-- spair(i) in its bracket
streett_pair_walk : (x : Spair) (c m u d n : ℕ) (w : Wants) (ns : List ℕ) (ts : List Token) → w.streett ≡ StreettWants.fin (suc m) (suc u) → suc (suc n) ≤ c
    → Arrives c (state d n ns (operand w)) (spair_text x n ts) d (suc (suc n)) ts (λ y ms. (y.streett ≡ StreettBehind.inf m 0) × Quiet y)
unfolding spair_text
streett_pair_walk x c m u d n w ns ts h l =
    let a = streett_fin_walk x.fin c m u d n w ns (either (single_text x.inf word_is.Inf (suc n) ts)) h (omega arith) in
    let r = streett_inf_walk x.inf c m 0 d (suc n) (behind_or a.behind) a.needs ts (rw a.holds, or_plain a.behind) l in
    record {
      needs = r.needs;
      behind = r.behind;
      walk =
          a.walk
          ∙ or_step c d (suc n) a.needs (single_text x.inf word_is.Inf (suc n) ts) a.behind l (some_streett (behind_or a.behind) (rw a.holds))
          ∙ r.walk;
      holds = r.holds;
    }

mutual
  unfolding streett_end strop_end

  streett_more : (x : Streett) (n : ℕ) → n < streett_end x n
  streett_more (Streett.one x) n = strop_more x n
  streett_more (Streett.more x y) n = omega (arith, strop_more x n, streett_more y (strop_end x n))

  strop_more : (x : Strop) (n : ℕ) → n < strop_end x n
  strop_more (Strop.pair x) n = omega arith
  strop_more (Strop.brackets x) n = streett_more x n

mutual
  unfolding streett_end strop_end streett_text strop_text

  streett_walk : (x : Streett) (c m u d n : ℕ) (w : Wants) (ns : List ℕ) (ts : List Token) → w.streett ≡ StreettWants.fin m u → streett_end x n ≤ c
      → Arrives c (state d n ns (operand w)) (streett_text x n ts) d (streett_end x n) ts (λ y ms. (y.streett ≡ StreettBehind.pair m) × Quiet y)
  streett_walk (Streett.one x) c m u d n w ns ts h l = strop_walk x c m u d n w ns ts h l
  streett_walk (Streett.more x y) c m u d n w ns ts h l =
      let z = streett_more y (strop_end x n) in
      let a = strop_walk x c m u d n w ns (both (streett_text y (strop_end x n) ts)) h (omega arith) in
      let r = streett_walk y c m 0 d (strop_end x n) (behind_and a.behind) a.needs ts (rw a.holds.0) l in
      record {
        needs = r.needs;
        behind = r.behind;
        walk =
            a.walk
            ∙ and_step c d (strop_end x n) a.needs (streett_text y (strop_end x n) ts) a.behind (omega arith) (some_streett (behind_and a.behind) (rw a.holds.0))
            ∙ r.walk;
        holds = r.holds;
      }

  strop_walk : (x : Strop) (c m u d n : ℕ) (w : Wants) (ns : List ℕ) (ts : List Token) → w.streett ≡ StreettWants.fin m u → strop_end x n ≤ c
      → Arrives c (state d n ns (operand w)) (strop_text x n ts) d (strop_end x n) ts (λ y ms. (y.streett ≡ StreettBehind.pair m) × Quiet y)
  strop_walk (Strop.pair x) c m u d n w ns ts h l =
      let a = streett_pair_walk x c m u (suc d) n (wants_open w) ns (right ts) (rw h) l in
      record {
        needs = a.needs;
        behind = behind_close a.behind;
        walk =
            open_step c d n ns (spair_text x n (right ts)) w (some_streett (wants_open w) (rw h))
            ∙ a.walk
            ∙ close_step c d (suc (suc n)) a.needs ts a.behind (past_streett (behind_close a.behind) (rw a.holds.0));
        holds = (rw a.holds.0, quiet_close a.behind a.holds.1);
      }
  strop_walk (Strop.brackets x) c m u d n w ns ts h l =
      let a = streett_walk x c (suc m) (suc u) (suc d) n (wants_open w) ns (right ts) (rw h) l in
      record {
        needs = a.needs;
        behind = behind_close a.behind;
        walk =
            open_step c d n ns (streett_text x n (right ts)) w (some_streett (wants_open w) (rw h))
            ∙ a.walk
            ∙ close_step c d (streett_end x n) a.needs ts a.behind (past_streett (behind_close a.behind) (rw a.holds.0));
        holds = (rw a.holds.0, quiet_close a.behind a.holds.1);
      }

bare_fin_walk : (x : Single) (c u d n : ℕ) (w : Wants) (ns : List ℕ) (ts : List Token) → w.bare ≡ Bare.fin u → n < c
    → Arrives c (state d n ns (operand w)) (single_text x word_is.Fin n ts) d (suc n) ts (λ y ms. y.bare ≡ Bare.fin u)
unfolding single_text
bare_fin_walk Single.mark c u d n w ns ts h l =
    record {
      needs = needs_fin w.rabin ns;
      behind = wants_fin w;
      walk = fin_step c d n ns ts w l (past_bare (wants_fin w) (rw h));
      holds = rw h;
    }
bare_fin_walk (Single.brackets x) c u d n w ns ts h l =
    let a = bare_fin_walk x c (suc u) (suc d) n (wants_open w) ns (right ts) (rw h) l in
    record {
      needs = a.needs;
      behind = behind_close a.behind;
      walk =
          open_step c d n ns (single_text x word_is.Fin n (right ts)) w (some_bare (wants_open w) (rw h))
          ∙ a.walk
          ∙ close_step c d (suc n) a.needs ts a.behind (past_bare (behind_close a.behind) (rw a.holds));
      holds = rw a.holds;
    }

bare_inf_walk : (x : Single) (c v d n : ℕ) (w : Wants) (ns : List ℕ) (ts : List Token) → w.bare ≡ Bare.inf v × Plain w → n < c
    → Arrives c (state d n ns (operand w)) (single_text x word_is.Inf n ts) d (suc n) ts (λ y ms. (y.bare ≡ Bare.inf v) × Quiet y)
unfolding single_text
bare_inf_walk Single.mark c v d n w ns ts h l =
    record {
      needs = needs_inf w.rabin ns;
      behind = wants_inf w;
      walk = inf_step c d n ns ts w l (past_bare (wants_inf w) (rw h.0));
      holds = (rw h.0, plain_inf w h.1);
    }
bare_inf_walk (Single.brackets x) c v d n w ns ts h l =
    let a = bare_inf_walk x c (suc v) (suc d) n (wants_open w) ns (right ts) (rw h.0, plain_open w h.1) l in
    record {
      needs = a.needs;
      behind = behind_close a.behind;
      walk =
          open_step c d n ns (single_text x word_is.Inf n (right ts)) w (some_bare (wants_open w) (rw h.0))
          ∙ a.walk
          ∙ close_step c d (suc n) a.needs ts a.behind (past_bare (behind_close a.behind) (rw a.holds.0));
      holds = (rw a.holds.0, quiet_close a.behind a.holds.1);
    }

bare_walk : (x : Spair) (c d n : ℕ) (w : Wants) (ns : List ℕ) (ts : List Token) → w.bare ≡ Bare.fin 0 → suc (suc n) ≤ c
    → Arrives c (state d n ns (operand w)) (spair_text x n ts) d (suc (suc n)) ts (λ y ms. (y.bare ≡ Bare.inf 0) × Quiet y)
unfolding spair_text
bare_walk x c d n w ns ts h l =
    let a = bare_fin_walk x.fin c 0 d n w ns (either (single_text x.inf word_is.Inf (suc n) ts)) h (omega arith) in
    let r = bare_inf_walk x.inf c 0 d (suc n) (behind_or a.behind) a.needs ts (rw a.holds, or_plain a.behind) l in
    record {
      needs = r.needs;
      behind = r.behind;
      walk =
          a.walk
          ∙ or_step c d (suc n) a.needs (single_text x.inf word_is.Inf (suc n) ts) a.behind l (some_bare (behind_or a.behind) (rw a.holds))
          ∙ r.walk;
      holds = r.holds;
    }

-- ---- truth values

truth_step : (c d n : ℕ) (ns : List ℕ) (ts : List Token) (w : Wants) (e : ℕ) (t : Bool) (x : Word) → word_piece x ≡ piece_is.Truth t → w.truth ≡ TruthWants.live e
    → free_walk c (state d n ns (operand w)) (Token.word x ∷ ts) ≡ free_walk c (state d n ns (after (wants_truth t w))) ts
unfolding free_walk free_step piece_of
truth_step c d n ns ts w e t x q h =
    ap (λ (p : Piece). and_on (on_operand c d n ns w p) (λ s. free_walk c s ts)) q
    ∙ ap (λ (y : Bool). and_on (cond y (go (state d n ns (after (wants_truth t w)))) (wrong 41)) (λ s. free_walk c s ts)) (past_truth (wants_truth t w) (rw h))

-- no machine but the one for the truth values goes on
abbrev Only : Behind → Type 0
Only b = (b.buchi ≡ Buchi.lost) × (b.rabin ≡ RabinBehind.lost) × (b.streett ≡ StreettBehind.lost) × (b.bare ≡ Bare.lost)

only_close : (b : Behind) → Only b → Only (behind_close b)
only_close b h = (rw h.0, rw h.1, rw h.2, rw h.3)

truth_value : Truth → Bool
truth_value Truth.truth = true
truth_value Truth.falsity = false
truth_value (Truth.brackets x) = truth_value x

truth_walk : (x : Truth) (c d n e : ℕ) (w : Wants) (ns : List ℕ) (ts : List Token) → w.truth ≡ TruthWants.live e
    → Arrives c (state d n ns (operand w)) (truth_text x ts) d n ts (λ y ms. (y.truth ≡ TruthBehind.is (truth_value x) e) × Only y)
unfolding truth_text truth_value
truth_walk Truth.truth c d n e w ns ts h =
    record { needs = ns; behind = wants_truth true w; walk = truth_step c d n ns ts w e true word_is.True refl h; holds = (rw h, (refl, refl, refl, refl)) }
truth_walk Truth.falsity c d n e w ns ts h =
    record { needs = ns; behind = wants_truth false w; walk = truth_step c d n ns ts w e false word_is.False refl h; holds = (rw h, (refl, refl, refl, refl)) }
truth_walk (Truth.brackets x) c d n e w ns ts h =
    let a = truth_walk x c (suc d) n (suc e) (wants_open w) ns (right ts) (rw h) in
    record {
      needs = a.needs;
      behind = behind_close a.behind;
      walk =
          open_step c d n ns (truth_text x (right ts)) w (some_truth (wants_open w) (rw h))
          ∙ a.walk
          ∙ close_step c d n a.needs ts a.behind (past_truth (behind_close a.behind) (rw a.holds.0));
      holds = (rw a.holds.0, only_close a.behind a.holds.1);
    }

-- ---- std(c)

-- the formula stands complete behind the text, with this meaning
pub record Complete (c : ℕ) (ts : List Token) (m : FormulaMeaning) : Type 0 where
  pub state : FormulaState
  pub walk : free_walk c (formula_begin c) ts ≡ go state
  pub stands : Stands c state m

stand : (c n : ℕ) (s : FormulaState) (text : List Token) (m : FormulaMeaning) (Q : Behind → List ℕ → Type 0) (a : Arrives c s text 0 n [] Q)
    → formula_begin c ≡ s
    → c ≤ n
    → by_done c a.needs a.behind ≡ m
    → Complete c text m
unfolding free_walk meaning_of
stand c n s text m Q a b l e =
    record {
      state = state 0 n a.needs (after a.behind);
      walk = rw b a.walk;
      stands = record { behind = a.behind; stage = refl; outside = refl; means = rw (le-ltb n c l) e };
    }

begun : (c : ℕ) → formula_begin c ≡ state 0 0 [] (operand (begin c))
unfolding formula_begin
begun c = refl

truth_done_lem : (x : Truth) → truth_done (TruthBehind.is (truth_value x) 0) ≡ truth_meaning x
unfolding truth_value truth_meaning
truth_done_lem Truth.truth = refl
truth_done_lem Truth.falsity = refl
truth_done_lem (Truth.brackets x) = truth_done_lem x

pub complete : (c : ℕ) (x : Std) → IsStd c x → Complete c (std_text x []) (std_meaning c x)
unfolding std_text std_meaning
complete c (Std.infs x) e =
    let a = buchi_walk c x 0 0 0 (begin c) [] [] refl (omega arith) in
    stand c (infs_end x 0) _ _ _ _ a (begun c) (omega arith) (rw a.holds)
complete c (Std.rabin x) e =
    let a = rabin_walk x c 0 0 0 0 (begin c) [] [] refl (omega arith) in
    stand c (rabin_end x 0) _ _ _ _ a (begun c) (omega arith) (rw (a.holds.2, rowed_done a.behind.rabin a.holds.0, a.holds.1))
complete c (Std.streett x) e =
    let a = streett_walk x c 0 0 0 0 (begin c) [] [] (rw (eq-eqb (c % 2) 0 e.1)) (omega (arith, e.0)) in
    stand c (streett_end x 0) _ _ _ _ a (begun c) (omega (arith, e.0)) (rw (a.holds.1.0, a.holds.1.1, a.holds.0))
complete c (Std.spair x) e =
    let a = bare_walk x c 0 0 (begin c) [] [] (rw (eq-eqb c 2 e)) (omega arith) in
    stand c 2 _ _ _ _ a (begun c) (omega arith) (rw (a.holds.1.0, a.holds.1.1, a.holds.0) (bared (streett_done a.behind.streett) (truth_done a.behind.truth)))
  where
    bared : (t : Bool) (m : FormulaMeaning) → cond (t || true) (standard (acceptance.Streett (c / 2)) no_needs) m ≡ standard (acceptance.Streett (c / 2)) no_needs
    bared true m = refl
    bared false m = refl
complete c (Std.truth x) e =
    let a = truth_walk x c 0 0 0 (begin c) [] [] (rw (eq-eqb c 0 e)) in
    stand c 0 _ _ _ _ a (begun c) (omega arith) (rw (a.holds.1.0, a.holds.1.1, a.holds.1.2, a.holds.1.3, a.holds.0) (truth_done_lem x))

-- "No formula has two kinds": two formulas of the same text mean the same
pub one_kind : (c : ℕ) (x y : Std) → IsStd c x → IsStd c y → std_text x [] ≡ std_text y [] → std_meaning c x ≡ std_meaning c y
one_kind c x y p q e = same (complete c x p) (complete c y q)
  where
    after_same : {b d : Behind} → after b ≡ after d → b ≡ d
    after_same e = cc

    same : Complete c (std_text x []) (std_meaning c x) → Complete c (std_text y []) (std_meaning c y) → std_meaning c x ≡ std_meaning c y
    same a b =
        let s : go a.state ≡ go b.state = sym a.walk ∙ ap (free_walk c (formula_begin c)) e ∙ b.walk in
        let t : a.state ≡ b.state = cc in
        let g : a.stands.behind ≡ b.stands.behind = after_same (sym a.stands.stage ∙ ap (λ (z : FormulaState). z.stage) t ∙ b.stands.stage) in
        sym a.stands.means
        ∙ ap (λ (z : FormulaState). meaning_of c z.atoms z.needs a.stands.behind) t
        ∙ ap (meaning_of c b.state.atoms b.state.needs) g
        ∙ b.stands.means
