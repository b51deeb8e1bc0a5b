-- What stands complete is a formula of std(c) with that meaning (`sound`): for each kind, what its machine's states still want (`..Wants`, `..Behind`).
-- Assumes nothing.
pub mod Late
use mathlib.Core.Bool.{Bool, true, false, cond, ◌||◌}
use mathlib.Core.List.{List, [], ◌∷◌}
use mathlib.Core.Path.{◌≡◌, refl, sym, ap, subst, ◌∙◌}
use Prim.Native.Nat.{ℕ, zero, suc, ◌%◌, ◌≤◌}
use native.Mathlib.Omega.{arith}
use lib.Dec.{eqb, ltb}
use borrow.Author.Tests.{ltb-false, eqb-true}
use Rattle.hoa_tokens.specs.declared.Word.TheVariants as word_is
use Rattle.hoa_tokens.specs.Token.{Token, word}
use Rattle.hoa_standard.specs.declared.Piece.{Piece}
use Rattle.hoa_standard.specs.Standard.{left, right, both, either, atom, Infs, Infop, infs_end, infop_end, infs_text, infop_text, FormulaMeaning, standard, short}
use Rattle.hoa_standard.specs.Standard.{Pair, Phead, pair_end, phead_end, pair_text, phead_text, Rabin, Rabop, rabin_end, rabop_end, rabin_text, rabop_text}
use Rattle.hoa_standard.specs.Standard.{Single, Streett, Strop, streett_end, strop_end, single_text, spair_text, streett_text, strop_text, Truth, truth_text}
use Rattle.hoa_standard.specs.Standard.{Std, std_text, IsStd, std_meaning}
use Rattle.hoa_standard.specs.Machines.{Buchi, RabinWants, RabinBehind, StreettWants, StreettBehind, Bare, TruthWants, TruthBehind, Behind, begin}
use Rattle.hoa_standard.specs.Machines.{buchi_open, buchi_close, rabin_open, rabin_inf, rabin_fin, rabin_close, rabin_and, rabin_or, streett_open, streett_inf, streett_fin}
use Rattle.hoa_standard.specs.Machines.{streett_close, streett_and, streett_or}
use Rattle.hoa_standard.specs.Machines.{bare_open, bare_inf, bare_fin, bare_close, bare_or, truth_open, truth_is, truth_close, buchi_done, rabin_done, streett_done, bare_done}
use Rattle.hoa_standard.specs.Formulas.{FormulaState, go, Stage, after, piece_of, truth_done, by_done, meaning_of, formula_begin}
use Rattle.hoa_formula.specs.Walking.{free_walk, Stands}
use Rattle.hoa_formula.proofs.Rests.{truth_word, Went, opens, infs, fins, truths, brackets, numbers, shuts, closed, ands, ors, went, walked, go_is, rest}
use Rattle.hoa_formula.proofs.Admitted.{Complete, complete}

-- ---- rows of `&`, of which the innermost bracket's end is told by E

-- behind an operand: the row ends, or goes on
data Rows (E : ℕ → List Token → Type 0) (k : ℕ) (ts : List Token) : Type 0 where
  stops : E k ts → Rows E k ts
  goes : (x : Infs) (us : List Token) → ts ≡ both (infs_text x k us) → E (infs_end x k) us → Rows E k ts

-- behind a row in d brackets
InfsEnd : (ℕ → List Token → Type 0) → ℕ → ℕ → List Token → Type 0
InfsEnd K zero k ts = K k ts
InfsEnd K (suc d) k ts = (us : List Token) × (ts ≡ right us) × Rows (InfsEnd K d) k us

-- a row is wanted in d brackets
record InfsWants (K : ℕ → List Token → Type 0) (d i : ℕ) (ts : List Token) : Type 0 where
  row : Infs
  us : List Token
  text : ts ≡ infs_text row i us
  end : InfsEnd K d (infs_end row i) us

module _ (K : ℕ → List Token → Type 0) where
  infs_open : (d i : ℕ) (ts : List Token) → InfsWants K (suc d) i ts → InfsWants K d i (left ts)
  unfolding InfsEnd infs_text infop_text infs_end infop_end
  infs_open d i ts h = by h.end.2
    where
      by : Rows (InfsEnd K d) (infs_end h.row i) h.end.0 → InfsWants K d i (left ts)
      by (stops e) = record { row = Infs.one (Infop.brackets h.row); us = h.end.0; text = rw (h.text, h.end.1); end = e }
      by (goes y vs q e) = record { row = Infs.more (Infop.brackets h.row) y; us = vs; text = rw (h.text, h.end.1, q); end = e }

  infs_mark : (d i : ℕ) (ts : List Token) → Rows (InfsEnd K d) (suc i) ts → InfsWants K d i (atom word_is.Inf i ts)
  unfolding infs_text infop_text infs_end infop_end
  infs_mark d i ts (stops e) = record { row = Infs.one Infop.mark; us = ts; text = refl; end = e }
  infs_mark d i ts (goes y vs q e) = record { row = Infs.more Infop.mark y; us = vs; text = rw q; end = e }

  infs_and : (d k : ℕ) (ts : List Token) → InfsWants K d k ts → Rows (InfsEnd K d) k (both ts)
  infs_and d k ts h = goes h.row h.us (rw h.text) h.end

  infs_close : (d k : ℕ) (ts : List Token) → Rows (InfsEnd K d) k ts → Rows (InfsEnd K (suc d)) k (right ts)
  unfolding InfsEnd
  infs_close d k ts h = stops (ts, refl, h)

-- the formula ends with the c-th atom
abbrev Ended : ℕ → ℕ → List Token → Type 0
Ended c k ts = (k ≡ c) × (ts ≡ [])

-- ---- Büchi

abbrev BuchiWants : ℕ → Buchi → ℕ → List Token → Type 0
BuchiWants c Buchi.lost n ts = ⊥
BuchiWants c (Buchi.live d) n ts = InfsWants (Ended c) d n ts

abbrev BuchiBehind : ℕ → Buchi → ℕ → List Token → Type 0
BuchiBehind c Buchi.lost n ts = ⊥
BuchiBehind c (Buchi.live d) n ts = Rows (InfsEnd (Ended c) d) n ts

module _ (c : ℕ) where
  buchi_open_lem : (x : Buchi) (n : ℕ) (ts : List Token) → BuchiWants c (buchi_open x) n ts → BuchiWants c x n (left ts)
  buchi_open_lem Buchi.lost n ts h = h
  buchi_open_lem (Buchi.live d) n ts h = infs_open (Ended c) d n ts h

  buchi_inf : (x : Buchi) (n : ℕ) (ts : List Token) → BuchiBehind c x (suc n) ts → BuchiWants c x n (atom word_is.Inf n ts)
  buchi_inf Buchi.lost n ts h = h
  buchi_inf (Buchi.live d) n ts h = infs_mark (Ended c) d n ts h

  buchi_close_lem : (x : Buchi) (n : ℕ) (ts : List Token) → BuchiBehind c (buchi_close x) n ts → BuchiBehind c x n (right ts)
  buchi_close_lem Buchi.lost n ts h = h
  buchi_close_lem (Buchi.live zero) n ts h = absurd h
  buchi_close_lem (Buchi.live (suc d)) n ts h = infs_close (Ended c) d n ts h

  buchi_and : (x : Buchi) (n : ℕ) (ts : List Token) → BuchiWants c x n ts → BuchiBehind c x n (both ts)
  buchi_and Buchi.lost n ts h = h
  buchi_and (Buchi.live d) n ts h = infs_and (Ended c) d n ts h

  buchi_rest : (ts : List Token) (f : FormulaState) (b : Behind) → free_walk c (formula_begin c) ts ≡ go f → f.stage ≡ after b → BuchiBehind c b.buchi f.atoms []
      → BuchiWants c (Buchi.live 0) 0 ts
  unfolding formula_begin
  buchi_rest ts f b e g h =
      rest c (λ w. BuchiWants c w.buchi) (λ b. BuchiBehind c b.buchi) (λ w. buchi_open_lem w.buchi) (λ w n ts l. buchi_inf w.buchi n ts) (λ w n ts l h. absurd h)
      (λ t w n ts h. absurd h) (λ b. buchi_close_lem b.buchi) (λ b n ts l. buchi_and b.buchi n ts) (λ b n ts l h. absurd h)
      ts (formula_begin c) f e (rw g h)

-- ---- Rabin

-- behind a pair or a bracket: the row of pairs ends, or goes on
data Groups (E : ℕ → List Token → Type 0) (k : ℕ) (ts : List Token) : Type 0 where
  stops : E k ts → Groups E k ts
  goes : (x : Rabin) (us : List Token) → ts ≡ either (rabin_text x k us) → E (rabin_end x k) us → Groups E k ts

RabinEnd : ℕ → ℕ → ℕ → List Token → Type 0
RabinEnd c zero k ts = Ended c k ts
RabinEnd c (suc m) k ts = (us : List Token) × (ts ≡ right us) × Groups (RabinEnd c m) k us

-- behind a whole pair: it stands in the row, or its bracket is closed, and it is the head of a pair
data Closed (c : ℕ) (E : ℕ → List Token → Type 0) (m k : ℕ) (ts : List Token) : Type 0 where
  stands : Groups (RabinEnd c m) k ts → Closed c E m k ts
  heads : (us : List Token) → ts ≡ right us → Rows E k us → Closed c E m k ts

PairEnd : ℕ → ℕ → ℕ → ℕ → List Token → Type 0
PairEnd c zero b k ts = Groups (RabinEnd c zero) k ts
PairEnd c (suc m) zero k ts = Groups (RabinEnd c (suc m)) k ts
PairEnd c (suc m) (suc b) k ts = Closed c (PairEnd c m b) (suc m) k ts

-- a row of pairs is wanted: it begins with a pair, or with a bracket that is none
data FinWants (c m b i : ℕ) (ts : List Token) : Type 0 where
  pair : (x : Pair) (us : List Token) → ts ≡ pair_text x i us → PairEnd c m b (pair_end x i) us → FinWants c m b i ts
  group : (x : Rabin) (us : List Token) → ts ≡ left (rabin_text x i (right us)) → Groups (RabinEnd c m) (rabin_end x i) us → FinWants c m b i ts

abbrev WantsRabin : ℕ → RabinWants → ℕ → List Token → Type 0
WantsRabin c RabinWants.lost n ts = ⊥
WantsRabin c (RabinWants.fin m b) n ts = FinWants c m b n ts
WantsRabin c (RabinWants.inf m b d) n ts = InfsWants (PairEnd c m b) d n ts

abbrev BehindRabin : ℕ → RabinBehind → ℕ → List Token → Type 0
BehindRabin c RabinBehind.lost n ts = ⊥
BehindRabin c (RabinBehind.pair m b d) n ts = Rows (InfsEnd (PairEnd c m b) d) n ts
BehindRabin c (RabinBehind.group m) n ts = Groups (RabinEnd c m) n ts

module _ (c : ℕ) where
  fin_open : (m b i : ℕ) (ts : List Token) → FinWants c (suc m) (suc b) i ts → FinWants c m b i (left ts)
  unfolding PairEnd RabinEnd pair_text phead_text pair_end phead_end rabin_text rabop_text rabin_end rabop_end
  fin_open m b i ts (pair x us e (Closed.stands (Groups.stops h))) = group (Rabin.one (Rabop.pair x)) h.0 (rw (e, h.1)) h.2
  fin_open m b i ts (pair x us e (Closed.stands (Groups.goes y vs q h))) = group (Rabin.more (Rabop.pair x) y) h.0 (rw (e, q, h.1)) h.2
  fin_open m b i ts (pair x us e (Closed.heads vs q (Rows.stops h))) = pair (Pair.alone (Phead.brackets x)) vs (rw (e, q)) h
  fin_open m b i ts (pair x us e (Closed.heads vs q (Rows.goes z xs p h))) = pair (Pair.needing (Phead.brackets x) z) xs (rw (e, q, p)) h
  fin_open m b i ts (group x us e (Groups.stops h)) = group (Rabin.one (Rabop.brackets x)) h.0 (rw (e, h.1)) h.2
  fin_open m b i ts (group x us e (Groups.goes y vs q h)) = group (Rabin.more (Rabop.brackets x) y) h.0 (rw (e, q, h.1)) h.2

  rabin_open_lem : (x : RabinWants) (n : ℕ) (ts : List Token) → WantsRabin c (rabin_open x) n ts → WantsRabin c x n (left ts)
  rabin_open_lem RabinWants.lost n ts h = h
  rabin_open_lem (RabinWants.fin m b) n ts h = fin_open m b n ts h
  rabin_open_lem (RabinWants.inf m b d) n ts h = infs_open (PairEnd c m b) d n ts h

  rabin_inf_lem : (x : RabinWants) (n : ℕ) (ts : List Token) → BehindRabin c (rabin_inf x) (suc n) ts → WantsRabin c x n (atom word_is.Inf n ts)
  rabin_inf_lem RabinWants.lost n ts h = h
  rabin_inf_lem (RabinWants.fin m b) n ts h = absurd h
  rabin_inf_lem (RabinWants.inf m b d) n ts h = infs_mark (PairEnd c m b) d n ts h

  fin_mark_lem : (m b n : ℕ) (ts : List Token) → Rows (PairEnd c m b) (suc n) ts → FinWants c m b n (atom word_is.Fin n ts)
  unfolding pair_text phead_text pair_end phead_end
  fin_mark_lem m b n ts (Rows.stops h) = pair (Pair.alone Phead.mark) ts refl h
  fin_mark_lem m b n ts (Rows.goes z us q h) = pair (Pair.needing Phead.mark z) us (rw q) h

  rabin_fin_lem : (x : RabinWants) (n : ℕ) (ts : List Token) → BehindRabin c (rabin_fin x) (suc n) ts → WantsRabin c x n (atom word_is.Fin n ts)
  unfolding InfsEnd
  rabin_fin_lem RabinWants.lost n ts h = h
  rabin_fin_lem (RabinWants.fin m b) n ts h = fin_mark_lem m b n ts h
  rabin_fin_lem (RabinWants.inf m b d) n ts h = absurd h

  rabin_close_lem : (x : RabinBehind) (n : ℕ) (ts : List Token) → BehindRabin c (rabin_close x) n ts → BehindRabin c x n (right ts)
  unfolding InfsEnd PairEnd RabinEnd
  rabin_close_lem RabinBehind.lost n ts h = h
  rabin_close_lem (RabinBehind.pair m b (suc d)) n ts h = infs_close (PairEnd c m b) d n ts h
  rabin_close_lem (RabinBehind.pair zero b zero) n ts h = absurd h
  rabin_close_lem (RabinBehind.pair (suc m) zero zero) n ts h = Rows.stops (Groups.stops (ts, refl, h))
  rabin_close_lem (RabinBehind.pair (suc m) (suc b) zero) n ts h = Rows.stops (Closed.heads ts refl h)
  rabin_close_lem (RabinBehind.group zero) n ts h = absurd h
  rabin_close_lem (RabinBehind.group (suc m)) n ts h = Groups.stops (ts, refl, h)

  rabin_and_lem : (x : RabinBehind) (n : ℕ) (ts : List Token) → WantsRabin c (rabin_and x) n ts → BehindRabin c x n (both ts)
  rabin_and_lem RabinBehind.lost n ts h = h
  rabin_and_lem (RabinBehind.pair m b d) n ts h = infs_and (PairEnd c m b) d n ts h
  rabin_and_lem (RabinBehind.group m) n ts h = absurd h

  -- a whole row of pairs
  fin_row : (m k : ℕ) (ts : List Token) → FinWants c m 0 k ts → Groups (RabinEnd c m) k (either ts)
  unfolding PairEnd rabin_text rabop_text rabin_end rabop_end
  fin_row zero k ts (pair x us e (Groups.stops h)) = Groups.goes (Rabin.one (Rabop.pair x)) us (rw e) h
  fin_row zero k ts (pair x us e (Groups.goes y vs q h)) = Groups.goes (Rabin.more (Rabop.pair x) y) vs (rw (e, q)) h
  fin_row zero k ts (group x us e (Groups.stops h)) = Groups.goes (Rabin.one (Rabop.brackets x)) us (rw e) h
  fin_row zero k ts (group x us e (Groups.goes y vs q h)) = Groups.goes (Rabin.more (Rabop.brackets x) y) vs (rw (e, q)) h
  fin_row (suc m) k ts (pair x us e (Groups.stops h)) = Groups.goes (Rabin.one (Rabop.pair x)) us (rw e) h
  fin_row (suc m) k ts (pair x us e (Groups.goes y vs q h)) = Groups.goes (Rabin.more (Rabop.pair x) y) vs (rw (e, q)) h
  fin_row (suc m) k ts (group x us e (Groups.stops h)) = Groups.goes (Rabin.one (Rabop.brackets x)) us (rw e) h
  fin_row (suc m) k ts (group x us e (Groups.goes y vs q h)) = Groups.goes (Rabin.more (Rabop.brackets x) y) vs (rw (e, q)) h

  row_pair : (m b k : ℕ) (ts : List Token) → Groups (RabinEnd c m) k ts → PairEnd c m b k ts
  unfolding PairEnd
  row_pair zero b k ts h = h
  row_pair (suc m) zero k ts h = h
  row_pair (suc m) (suc b) k ts h = Closed.stands h

  rabin_or_lem : (x : RabinBehind) (n : ℕ) (ts : List Token) → WantsRabin c (rabin_or x) n ts → BehindRabin c x n (either ts)
  unfolding InfsEnd
  rabin_or_lem RabinBehind.lost n ts h = h
  rabin_or_lem (RabinBehind.pair m b zero) n ts h = Rows.stops (row_pair m b n (either ts) (fin_row m n ts h))
  rabin_or_lem (RabinBehind.pair m b (suc d)) n ts h = absurd h
  rabin_or_lem (RabinBehind.group m) n ts h = fin_row m n ts h

  rabin_rest : (ts : List Token) (f : FormulaState) (b : Behind) → free_walk c (formula_begin c) ts ≡ go f → f.stage ≡ after b → BehindRabin c b.rabin f.atoms []
      → FinWants c 0 0 0 ts
  unfolding formula_begin
  rabin_rest ts f b e g h =
      rest c (λ w. WantsRabin c w.rabin) (λ b. BehindRabin c b.rabin) (λ w. rabin_open_lem w.rabin) (λ w n ts l. rabin_inf_lem w.rabin n ts)
      (λ w n ts l. rabin_fin_lem w.rabin n ts)
      (λ t w n ts h. absurd h) (λ b. rabin_close_lem b.rabin) (λ b n ts l. rabin_and_lem b.rabin n ts) (λ b n ts l. rabin_or_lem b.rabin n ts)
      ts (formula_begin c) f e (rw g h)

-- ---- Streett

data Pairs (E : ℕ → List Token → Type 0) (k : ℕ) (ts : List Token) : Type 0 where
  stops : E k ts → Pairs E k ts
  goes : (x : Streett) (us : List Token) → ts ≡ both (streett_text x k us) → E (streett_end x k) us → Pairs E k ts

StreettEnd : ℕ → ℕ → ℕ → List Token → Type 0
StreettEnd c zero k ts = Ended c k ts
StreettEnd c (suc m) k ts = (us : List Token) × (ts ≡ right us) × Pairs (StreettEnd c m) k us

-- behind the Inf in v brackets: they are closed, then the pair's own
InfEnd : ℕ → ℕ → ℕ → ℕ → List Token → Type 0
InfEnd c m zero k ts = (us : List Token) × (ts ≡ right us) × Pairs (StreettEnd c m) k us
InfEnd c m (suc v) k ts = (us : List Token) × (ts ≡ right us) × InfEnd c m v k us

-- the Inf is wanted in v brackets
record InfWanted (c m v k : ℕ) (ts : List Token) : Type 0 where
  inf : Single
  us : List Token
  text : ts ≡ single_text inf word_is.Inf k us
  end : InfEnd c m v (suc k) us

-- behind the Fin: the `|`, or one of its brackets is closed
data FinEnd (c : ℕ) : ℕ → ℕ → ℕ → List Token → Type 0 where
  joins : {m u k : ℕ} {ts : List Token} (us : List Token) → ts ≡ either us → InfWanted c m 0 k us → FinEnd c m u k ts
  closes : {m u k : ℕ} {ts : List Token} (us : List Token) → ts ≡ right us → FinEnd c m u k us → FinEnd c (suc m) (suc u) k ts

-- an operand is wanted: a Streett operand, or, inside a bracket, a Fin
data StrWanted (c : ℕ) : ℕ → ℕ → ℕ → List Token → Type 0 where
  operand : {m u i : ℕ} {ts : List Token} (x : Strop) (us : List Token) → ts ≡ strop_text x i us → Pairs (StreettEnd c m) (strop_end x i) us → StrWanted c m u i ts
  fin : {m u i : ℕ} {ts : List Token} (x : Single) (us : List Token) → ts ≡ single_text x word_is.Fin i us → FinEnd c m u (suc i) us → StrWanted c (suc m) (suc u) i ts

abbrev WantsStreett : ℕ → StreettWants → ℕ → List Token → Type 0
WantsStreett c StreettWants.lost n ts = ⊥
WantsStreett c (StreettWants.fin m u) n ts = StrWanted c m u n ts
WantsStreett c (StreettWants.inf m v) n ts = InfWanted c m v n ts

abbrev BehindStreett : ℕ → StreettBehind → ℕ → List Token → Type 0
BehindStreett c StreettBehind.lost n ts = ⊥
BehindStreett c (StreettBehind.fin m u) n ts = FinEnd c m u n ts
BehindStreett c (StreettBehind.inf m v) n ts = InfEnd c m v n ts
BehindStreett c (StreettBehind.pair m) n ts = Pairs (StreettEnd c m) n ts

module _ (c : ℕ) where
  inf_open : (m v k : ℕ) (ts : List Token) → InfWanted c m (suc v) k ts → InfWanted c m v k (left ts)
  unfolding InfEnd single_text
  inf_open m v k ts h = record { inf = Single.brackets h.inf; us = h.end.0; text = rw (h.text, h.end.1); end = h.end.2 }

  str_open_operand : (m u i : ℕ) (ts : List Token) (x : Strop) (us : List Token)
      → ts ≡ strop_text x i us → Pairs (StreettEnd c (suc m)) (strop_end x i) us → StrWanted c m u i (left ts)
  unfolding StreettEnd streett_text strop_text streett_end strop_end
  str_open_operand m u i ts x us e (Pairs.stops h) = operand {i = i} {ts = left ts} (Strop.brackets (Streett.one x)) h.0 (rw (e, h.1)) h.2
  str_open_operand m u i ts x us e (Pairs.goes y vs q h) = operand {i = i} {ts = left ts} (Strop.brackets (Streett.more x y)) h.0 (rw (e, q, h.1)) h.2

  str_open_fin : (m u i : ℕ) (ts : List Token) (x : Single) (us : List Token) → ts ≡ single_text x word_is.Fin i us → FinEnd c m u (suc i) us → StrWanted c m u i (left ts)
  unfolding InfEnd single_text spair_text strop_text strop_end
  str_open_fin m u i ts x us e (joins vs q h) =
      operand {i = i} {ts = left ts} (Strop.pair (record { fin = x; inf = h.inf })) h.end.0 (rw (e, q, h.text, h.end.1)) h.end.2
  str_open_fin m u i ts x us e (closes vs q h) = fin {i = i} {ts = left ts} (Single.brackets x) vs (rw (e, q)) h

  str_open : (m u m' u' i : ℕ) (ts : List Token) → m' ≡ suc m → u' ≡ suc u → StrWanted c m' u' i ts → StrWanted c m u i (left ts)
  str_open m u m' u' i ts p q (operand x us e h) = str_open_operand m u i ts x us e (rw p at h)
  str_open m u m' u' i ts p q (fin {m = a} {u = b} x us e h) =
      let j : a ≡ m = omega arith in
      let k : b ≡ u = omega arith in
      str_open_fin m u i ts x us e (rw (j, k) at h)

  streett_open_lem : (x : StreettWants) (n : ℕ) (ts : List Token) → WantsStreett c (streett_open x) n ts → WantsStreett c x n (left ts)
  streett_open_lem StreettWants.lost n ts h = h
  streett_open_lem (StreettWants.fin m u) n ts h = str_open m u (suc m) (suc u) n ts refl refl h
  streett_open_lem (StreettWants.inf m v) n ts h = inf_open m v n ts h

  streett_inf_lem : (x : StreettWants) (n : ℕ) (ts : List Token) → BehindStreett c (streett_inf x) (suc n) ts → WantsStreett c x n (atom word_is.Inf n ts)
  unfolding single_text
  streett_inf_lem StreettWants.lost n ts h = h
  streett_inf_lem (StreettWants.fin m u) n ts h = absurd h
  streett_inf_lem (StreettWants.inf m v) n ts h = record { inf = Single.mark; us = ts; text = refl; end = h }

  streett_fin_lem : (x : StreettWants) (n : ℕ) (ts : List Token) → BehindStreett c (streett_fin x) (suc n) ts → WantsStreett c x n (atom word_is.Fin n ts)
  unfolding single_text
  streett_fin_lem StreettWants.lost n ts h = h
  streett_fin_lem (StreettWants.fin m zero) n ts h = absurd h
  streett_fin_lem (StreettWants.fin zero (suc u)) n ts h = absurd h
  streett_fin_lem (StreettWants.fin (suc m) (suc u)) n ts h = fin Single.mark ts refl h
  streett_fin_lem (StreettWants.inf m v) n ts h = absurd h

  streett_close_lem : (x : StreettBehind) (n : ℕ) (ts : List Token) → BehindStreett c (streett_close x) n ts → BehindStreett c x n (right ts)
  unfolding InfEnd StreettEnd
  streett_close_lem StreettBehind.lost n ts h = h
  streett_close_lem (StreettBehind.fin m zero) n ts h = absurd h
  streett_close_lem (StreettBehind.fin zero (suc u)) n ts h = absurd h
  streett_close_lem (StreettBehind.fin (suc m) (suc u)) n ts h = closes ts refl h
  streett_close_lem (StreettBehind.inf m zero) n ts h = (ts, refl, h)
  streett_close_lem (StreettBehind.inf m (suc v)) n ts h = (ts, refl, h)
  streett_close_lem (StreettBehind.pair zero) n ts h = absurd h
  streett_close_lem (StreettBehind.pair (suc m)) n ts h = Pairs.stops (ts, refl, h)

  str_row : (m z k : ℕ) (ts : List Token) → z ≡ 0 → StrWanted c m z k ts → Pairs (StreettEnd c m) k (both ts)
  unfolding streett_text streett_end
  str_row m z k ts e (operand x us q (Pairs.stops h)) = Pairs.goes (Streett.one x) us (rw q) h
  str_row m z k ts e (operand x us q (Pairs.goes y vs p h)) = Pairs.goes (Streett.more x y) vs (rw (q, p)) h
  str_row m z k ts e (fin x us q h) = absurd (omega arith)

  streett_and_lem : (x : StreettBehind) (n : ℕ) (ts : List Token) → WantsStreett c (streett_and x) n ts → BehindStreett c x n (both ts)
  streett_and_lem StreettBehind.lost n ts h = h
  streett_and_lem (StreettBehind.fin m u) n ts h = absurd h
  streett_and_lem (StreettBehind.inf m v) n ts h = absurd h
  streett_and_lem (StreettBehind.pair m) n ts h = str_row m 0 n ts refl h

  streett_or_lem : (x : StreettBehind) (n : ℕ) (ts : List Token) → WantsStreett c (streett_or x) n ts → BehindStreett c x n (either ts)
  streett_or_lem StreettBehind.lost n ts h = h
  streett_or_lem (StreettBehind.fin m u) n ts h = joins ts refl h
  streett_or_lem (StreettBehind.inf m v) n ts h = absurd h
  streett_or_lem (StreettBehind.pair m) n ts h = absurd h

  streett_rest : (ts : List Token) (f : FormulaState) (b : Behind) → free_walk c (formula_begin c) ts ≡ go f → f.stage ≡ after b → BehindStreett c b.streett f.atoms []
      → WantsStreett c (begin c).streett 0 ts
  unfolding formula_begin
  streett_rest ts f b e g h =
      rest c (λ w. WantsStreett c w.streett) (λ b. BehindStreett c b.streett) (λ w. streett_open_lem w.streett) (λ w n ts l. streett_inf_lem w.streett n ts)
      (λ w n ts l. streett_fin_lem w.streett n ts) (λ t w n ts h. absurd h) (λ b. streett_close_lem b.streett) (λ b n ts l. streett_and_lem b.streett n ts)
      (λ b n ts l. streett_or_lem b.streett n ts) ts (formula_begin c) f e (rw g h)

-- ---- the bare pair

-- behind the Inf in v brackets
BareEnd : ℕ → ℕ → ℕ → List Token → Type 0
BareEnd c zero k ts = Ended c k ts
BareEnd c (suc v) k ts = (us : List Token) × (ts ≡ right us) × BareEnd c v k us

record BareInf (c v k : ℕ) (ts : List Token) : Type 0 where
  inf : Single
  us : List Token
  text : ts ≡ single_text inf word_is.Inf k us
  end : BareEnd c v (suc k) us

-- behind the Fin in x brackets
BareOr : ℕ → ℕ → ℕ → List Token → Type 0
BareOr c zero k ts = (us : List Token) × (ts ≡ either us) × BareInf c 0 k us
BareOr c (suc x) k ts = (us : List Token) × (ts ≡ right us) × BareOr c x k us

record BareFin (c x i : ℕ) (ts : List Token) : Type 0 where
  fin : Single
  us : List Token
  text : ts ≡ single_text fin word_is.Fin i us
  end : BareOr c x (suc i) us

abbrev WantsBare : ℕ → Bare → ℕ → List Token → Type 0
WantsBare c Bare.lost n ts = ⊥
WantsBare c (Bare.fin x) n ts = BareFin c x n ts
WantsBare c (Bare.inf v) n ts = BareInf c v n ts

abbrev BehindBare : ℕ → Bare → ℕ → List Token → Type 0
BehindBare c Bare.lost n ts = ⊥
BehindBare c (Bare.fin x) n ts = BareOr c x n ts
BehindBare c (Bare.inf v) n ts = BareEnd c v n ts

module _ (c : ℕ) where
  bare_open_lem : (x : Bare) (n : ℕ) (ts : List Token) → WantsBare c (bare_open x) n ts → WantsBare c x n (left ts)
  unfolding BareEnd BareOr single_text
  bare_open_lem Bare.lost n ts h = h
  bare_open_lem (Bare.fin x) n ts h = record { fin = Single.brackets h.fin; us = h.end.0; text = rw (h.text, h.end.1); end = h.end.2 }
  bare_open_lem (Bare.inf v) n ts h = record { inf = Single.brackets h.inf; us = h.end.0; text = rw (h.text, h.end.1); end = h.end.2 }

  bare_inf_lem : (x : Bare) (n : ℕ) (ts : List Token) → BehindBare c (bare_inf x) (suc n) ts → WantsBare c x n (atom word_is.Inf n ts)
  unfolding single_text
  bare_inf_lem Bare.lost n ts h = h
  bare_inf_lem (Bare.fin x) n ts h = absurd h
  bare_inf_lem (Bare.inf v) n ts h = record { inf = Single.mark; us = ts; text = refl; end = h }

  bare_fin_lem : (x : Bare) (n : ℕ) (ts : List Token) → BehindBare c (bare_fin x) (suc n) ts → WantsBare c x n (atom word_is.Fin n ts)
  unfolding single_text
  bare_fin_lem Bare.lost n ts h = h
  bare_fin_lem (Bare.fin x) n ts h = record { fin = Single.mark; us = ts; text = refl; end = h }
  bare_fin_lem (Bare.inf v) n ts h = absurd h

  bare_close_lem : (x : Bare) (n : ℕ) (ts : List Token) → BehindBare c (bare_close x) n ts → BehindBare c x n (right ts)
  unfolding BareEnd BareOr
  bare_close_lem Bare.lost n ts h = h
  bare_close_lem (Bare.fin zero) n ts h = absurd h
  bare_close_lem (Bare.fin (suc x)) n ts h = (ts, refl, h)
  bare_close_lem (Bare.inf zero) n ts h = absurd h
  bare_close_lem (Bare.inf (suc v)) n ts h = (ts, refl, h)

  bare_or_lem : (x : Bare) (n : ℕ) (ts : List Token) → WantsBare c (bare_or x) n ts → BehindBare c x n (either ts)
  unfolding BareOr
  bare_or_lem Bare.lost n ts h = h
  bare_or_lem (Bare.fin zero) n ts h = (ts, refl, h)
  bare_or_lem (Bare.fin (suc x)) n ts h = absurd h
  bare_or_lem (Bare.inf v) n ts h = absurd h

  bare_rest : (ts : List Token) (f : FormulaState) (b : Behind) → free_walk c (formula_begin c) ts ≡ go f → f.stage ≡ after b → BehindBare c b.bare f.atoms []
      → WantsBare c (begin c).bare 0 ts
  unfolding formula_begin
  bare_rest ts f b e g h =
      rest c (λ w. WantsBare c w.bare) (λ b. BehindBare c b.bare) (λ w. bare_open_lem w.bare) (λ w n ts l. bare_inf_lem w.bare n ts)
      (λ w n ts l. bare_fin_lem w.bare n ts) (λ t w n ts h. absurd h) (λ b. bare_close_lem b.bare) (λ b n ts l h. absurd h)
      (λ b n ts l. bare_or_lem b.bare n ts) ts (formula_begin c) f e (rw g h)

-- ---- truth values

TruthEnd : ℕ → List Token → Type 0
TruthEnd zero ts = ts ≡ []
TruthEnd (suc d) ts = (us : List Token) × (ts ≡ right us) × TruthEnd d us

record TruthWanted (d : ℕ) (ts : List Token) : Type 0 where
  value : Truth
  us : List Token
  text : ts ≡ truth_text value us
  end : TruthEnd d us

abbrev WantsTruth : TruthWants → ℕ → List Token → Type 0
WantsTruth TruthWants.lost n ts = ⊥
WantsTruth (TruthWants.live d) n ts = TruthWanted d ts

abbrev BehindTruth : TruthBehind → ℕ → List Token → Type 0
BehindTruth TruthBehind.lost n ts = ⊥
BehindTruth (TruthBehind.is b d) n ts = TruthEnd d ts

truth_open_lem : (x : TruthWants) (n : ℕ) (ts : List Token) → WantsTruth (truth_open x) n ts → WantsTruth x n (left ts)
unfolding TruthEnd truth_text
truth_open_lem TruthWants.lost n ts h = h
truth_open_lem (TruthWants.live d) n ts h = record { value = Truth.brackets h.value; us = h.end.0; text = rw (h.text, h.end.1); end = h.end.2 }

truth_is_lem : (t : Bool) (x : TruthWants) (n : ℕ) (ts : List Token) → BehindTruth (truth_is t x) n ts → WantsTruth x n (word (truth_word t) ∷ ts)
unfolding truth_text
truth_is_lem true TruthWants.lost n ts h = h
truth_is_lem false TruthWants.lost n ts h = h
truth_is_lem true (TruthWants.live d) n ts h = record { value = Truth.truth; us = ts; text = refl; end = h }
truth_is_lem false (TruthWants.live d) n ts h = record { value = Truth.falsity; us = ts; text = refl; end = h }

truth_close_lem : (x : TruthBehind) (n : ℕ) (ts : List Token) → BehindTruth (truth_close x) n ts → BehindTruth x n (right ts)
unfolding TruthEnd
truth_close_lem TruthBehind.lost n ts h = h
truth_close_lem (TruthBehind.is b zero) n ts h = absurd h
truth_close_lem (TruthBehind.is b (suc d)) n ts h = (ts, refl, h)

truth_rest : (c : ℕ) (ts : List Token) (f : FormulaState) (b : Behind) → free_walk c (formula_begin c) ts ≡ go f → f.stage ≡ after b → BehindTruth b.truth f.atoms []
    → WantsTruth (begin c).truth 0 ts
unfolding formula_begin
truth_rest c ts f b e g h =
    rest c (λ w. WantsTruth w.truth) (λ b. BehindTruth b.truth) (λ w. truth_open_lem w.truth) (λ w n ts l h. absurd h) (λ w n ts l h. absurd h)
    (λ t w. truth_is_lem t w.truth) (λ b. truth_close_lem b.truth) (λ b n ts l h. absurd h) (λ b n ts l h. absurd h) ts (formula_begin c) f e (rw g h)

-- ---- std(c)

-- no walk begins more than c atoms
atoms_went : (c n d d' n' : ℕ) (g g' : Stage) (p : Piece) → Went c n d g p d' n' g' → n ≤ c → n' ≤ c
atoms_went c n d d' n' g g' p (opens a) l = l
atoms_went c n d d' n' g g' p (infs h a) l = h
atoms_went c n d d' n' g g' p (fins h a) l = h
atoms_went c n d d' n' g g' p (truths t a) l = l
atoms_went c n d d' n' g g' p brackets l = l
atoms_went c n d d' n' g g' p (numbers k e) l = l
atoms_went c n d d' n' g g' p shuts l = l
atoms_went c n d d' n' g g' p (closed a) l = l
atoms_went c n d d' n' g g' p (ands h a) l = l
atoms_went c n d d' n' g g' p (ors h a) l = l

atoms_walk : (c : ℕ) (ts : List Token) (s f : FormulaState) → free_walk c s ts ≡ go f → s.atoms ≤ c → f.atoms ≤ c
unfolding free_walk
atoms_walk c [] s f e l = rw (ap (λ (x : FormulaState). x.atoms) (go_is e)) at l
atoms_walk c (t ∷ ts) s f e l =
    let x = walked c s t ts f e in
    atoms_walk c ts x.0 f x.2 (atoms_went c s.atoms s.depth x.0.depth x.0.atoms s.stage x.0.stage (piece_of t) (went c s t x.0 x.1) l)

-- a formula of std(c) with this text and meaning
pub record IsFormula (c : ℕ) (ts : List Token) (m : FormulaMeaning) : Type 0 where
  pub formula : Std
  pub standard : IsStd c formula
  pub text : std_text formula [] ≡ ts
  pub means : std_meaning c formula ≡ m

pub stands_once : (c : ℕ) (s : FormulaState) (m m' : FormulaMeaning) → Stands c s m → Stands c s m' → m ≡ m'
stands_once c s m m' a b = sym a.means ∙ ap (meaning_of c s.atoms s.needs) (after_same (sym a.stage ∙ b.stage)) ∙ b.means
  where
    after_same : {x y : Behind} → after x ≡ after y → x ≡ y
    after_same e = cc

module _ (c : ℕ) (ts : List Token) (s : FormulaState) (walk : free_walk c (formula_begin c) ts ≡ go s) (m : FormulaMeaning) (h : Stands c s m) where
  -- the meaning is that of the formula, since each walk is one
  formula_is : (x : Std) → IsStd c x → std_text x [] ≡ ts → IsFormula c ts m
  formula_is x p e = record { formula = x; standard = p; text = e; means = same (complete c x p) }
    where
      same : Complete c (std_text x []) (std_meaning c x) → std_meaning c x ≡ m
      same a =
          let t : a.state ≡ s = go_is (sym a.walk ∙ ap (free_walk c (formula_begin c)) e ∙ walk) in
          stands_once c s (std_meaning c x) m (subst (λ (z : FormulaState). Stands c z (std_meaning c x)) t a.stands) h

  by_buchi : (x : Buchi) → h.behind.buchi ≡ x → s.atoms ≡ c → buchi_done x ≡ true → IsFormula c ts m
  unfolding InfsEnd std_text
  by_buchi Buchi.lost q n d = absurd (let z : ◌≡◌ {A = ℕ} 0 1 = cc in omega arith)
  by_buchi (Buchi.live (suc k)) q n d = absurd (let z : ◌≡◌ {A = ℕ} 0 1 = cc in omega arith)
  by_buchi (Buchi.live zero) q n d =
      let r = buchi_rest c ts s h.behind walk h.stage (rw q (Rows.stops (n, refl))) in
      formula_is (Std.infs r.row) r.end.0 (sym (r.text ∙ ap (infs_text r.row 0) r.end.1))

  rabin_final : (x : RabinBehind) → s.atoms ≡ c → rabin_done x ≡ true → BehindRabin c x s.atoms []
  unfolding InfsEnd PairEnd RabinEnd
  rabin_final RabinBehind.lost n d = absurd (let z : ◌≡◌ {A = ℕ} 0 1 = cc in omega arith)
  rabin_final (RabinBehind.pair zero b zero) n d = Rows.stops (Groups.stops (n, refl))
  rabin_final (RabinBehind.pair (suc k) b zero) n d = absurd (let z : ◌≡◌ {A = ℕ} 0 1 = cc in omega arith)
  rabin_final (RabinBehind.pair k b (suc x)) n d = absurd (let z : ◌≡◌ {A = ℕ} 0 1 = cc in omega arith)
  rabin_final (RabinBehind.group zero) n d = Groups.stops (n, refl)
  rabin_final (RabinBehind.group (suc k)) n d = absurd (let z : ◌≡◌ {A = ℕ} 0 1 = cc in omega arith)

  from_groups : Groups (RabinEnd c 0) 0 (either ts) → IsFormula c ts m
  unfolding RabinEnd std_text
  from_groups (Groups.stops e) = absurd (let z : ◌≡◌ {A = ℕ} 0 1 = cc in omega arith)
  from_groups (Groups.goes x us e d) = formula_is (Std.rabin x) d.0 (let q : ts ≡ rabin_text x 0 us = cc in sym (q ∙ ap (rabin_text x 0) d.1))

  by_rabin : s.atoms ≡ c → rabin_done h.behind.rabin ≡ true → IsFormula c ts m
  by_rabin n d = from_groups (fin_row c 0 0 ts (rabin_rest c ts s h.behind walk h.stage (rabin_final h.behind.rabin n d)))

  streett_final : (x : StreettBehind) → s.atoms ≡ c → streett_done x ≡ true → BehindStreett c x s.atoms []
  unfolding StreettEnd
  streett_final StreettBehind.lost n d = absurd (let z : ◌≡◌ {A = ℕ} 0 1 = cc in omega arith)
  streett_final (StreettBehind.fin k u) n d = absurd (let z : ◌≡◌ {A = ℕ} 0 1 = cc in omega arith)
  streett_final (StreettBehind.inf k u) n d = absurd (let z : ◌≡◌ {A = ℕ} 0 1 = cc in omega arith)
  streett_final (StreettBehind.pair zero) n d = Pairs.stops (n, refl)
  streett_final (StreettBehind.pair (suc k)) n d = absurd (let z : ◌≡◌ {A = ℕ} 0 1 = cc in omega arith)

  from_pairs : c % 2 ≡ 0 → Pairs (StreettEnd c 0) 0 (both ts) → IsFormula c ts m
  unfolding StreettEnd std_text
  from_pairs v (Pairs.stops e) = absurd (let z : ◌≡◌ {A = ℕ} 0 1 = cc in omega arith)
  from_pairs v (Pairs.goes x us e d) = formula_is (Std.streett x) (d.0, v) (let q : ts ≡ streett_text x 0 us = cc in sym (q ∙ ap (streett_text x 0) d.1))

  by_streett : s.atoms ≡ c → streett_done h.behind.streett ≡ true → IsFormula c ts m
  by_streett n d = even (eqb (c % 2) 0) refl (streett_rest c ts s h.behind walk h.stage (streett_final h.behind.streett n d))
    where
      even : (t : Bool) → eqb (c % 2) 0 ≡ t → WantsStreett c (cond t (StreettWants.fin 0 0) StreettWants.lost) 0 ts → IsFormula c ts m
      even true q r = from_pairs (eqb-true (c % 2) 0 q) (str_row c 0 0 0 ts refl r)
      even false q r = absurd r

  bare_final : (x : Bare) → s.atoms ≡ c → bare_done x ≡ true → BehindBare c x s.atoms []
  unfolding BareEnd
  bare_final Bare.lost n d = absurd (let z : ◌≡◌ {A = ℕ} 0 1 = cc in omega arith)
  bare_final (Bare.fin k) n d = absurd (let z : ◌≡◌ {A = ℕ} 0 1 = cc in omega arith)
  bare_final (Bare.inf zero) n d = (n, refl)
  bare_final (Bare.inf (suc k)) n d = absurd (let z : ◌≡◌ {A = ℕ} 0 1 = cc in omega arith)

  by_bare : s.atoms ≡ c → bare_done h.behind.bare ≡ true → IsFormula c ts m
  unfolding BareOr BareEnd std_text spair_text
  by_bare n d = two (eqb c 2) refl (bare_rest c ts s h.behind walk h.stage (bare_final h.behind.bare n d))
    where
      two : (t : Bool) → eqb c 2 ≡ t → WantsBare c (cond t (Bare.fin 0) Bare.lost) 0 ts → IsFormula c ts m
      two true q r =
          let i = r.end.2 in
          formula_is (Std.spair (record { fin = r.fin; inf = i.inf })) (eqb-true c 2 q) (sym (rw (r.text, r.end.1, i.text, i.end.1)))
      two false q r = absurd r

  truth_final : (x : TruthBehind) → truth_done x ≡ m → (m ≡ short → ⊥) → BehindTruth x s.atoms []
  unfolding TruthEnd
  truth_final TruthBehind.lost e n = absurd (n (sym e))
  truth_final (TruthBehind.is true zero) e n = refl
  truth_final (TruthBehind.is false zero) e n = refl
  truth_final (TruthBehind.is true (suc d)) e n = absurd (n (sym e))
  truth_final (TruthBehind.is false (suc d)) e n = absurd (n (sym e))

  by_truth : truth_done h.behind.truth ≡ m → (m ≡ short → ⊥) → IsFormula c ts m
  unfolding TruthEnd std_text
  by_truth e n = none (eqb c 0) refl (truth_rest c ts s h.behind walk h.stage (truth_final h.behind.truth e n))
    where
      none : (t : Bool) → eqb c 0 ≡ t → WantsTruth (cond t (TruthWants.live 0) TruthWants.lost) 0 ts → IsFormula c ts m
      none true q r = formula_is (Std.truth r.value) (eqb-true c 0 q) (sym (r.text ∙ ap (truth_text r.value) r.end))
      none false q r = absurd r

  by_done_lem : (b r t : Bool) → s.atoms ≡ c → (m ≡ short → ⊥)
      → buchi_done h.behind.buchi ≡ b
      → rabin_done h.behind.rabin ≡ r
      → (streett_done h.behind.streett || bare_done h.behind.bare) ≡ t
      → by_done c s.needs h.behind ≡ m
      → IsFormula c ts m
  by_done_lem true r t n k x y z e = by_buchi h.behind.buchi refl n x
  by_done_lem false true t n k x y z e = by_rabin n y
  by_done_lem false false true n k x y z e = either_of (streett_done h.behind.streett) refl z
    where
      either_of : (u : Bool) → streett_done h.behind.streett ≡ u → u || bare_done h.behind.bare ≡ true → IsFormula c ts m
      either_of true q z = by_streett n q
      either_of false q z = by_bare n z
  by_done_lem false false false n k x y z e = by_truth (rw (x, y, z) at e) k

  -- what stands complete is a formula of std(c) with that meaning
  pub sound : (m ≡ short → ⊥) → IsFormula c ts m
  unfolding meaning_of formula_begin
  sound k = full (ltb s.atoms c) refl h.means
    where
      full : (t : Bool) → ltb s.atoms c ≡ t → cond t short (by_done c s.needs h.behind) ≡ m → IsFormula c ts m
      full true q e = absurd (k (sym e))
      full false q e =
          let u = atoms_walk c ts (formula_begin c) s walk (omega arith) in
          by_done_lem (buchi_done h.behind.buchi) (rabin_done h.behind.rabin) (streett_done h.behind.streett || bare_done h.behind.bare)
          (omega (arith, ltb-false s.atoms c q)) k refl refl refl e
