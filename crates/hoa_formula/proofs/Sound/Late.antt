-- 41 never falls late: what is admitted is the beginning of a formula of std(c) (`never_late`); and short is fewer than c atoms (`short_few`).
-- Each state of a machine that goes on is completed to the c-th atom, and what every token keeps (`Fair`, `Deep`) says that there is room for that.
-- Assumes nothing.
use mathlib.Core.Bool.{Bool, true, false, cond, ◌||◌}
use mathlib.Core.List.{List, [], ◌∷◌, ◌++◌}
use mathlib.Core.Path.{◌≡◌, refl, sym, ap, subst, ◌∙◌}
use mathlib.Core.Logic.{◌⊎◌, inl, inr}
use Prim.Native.Nat.{ℕ, zero, suc, ◌+◌, ◌-◌, ◌/◌, ◌%◌, ◌≤◌, ◌<◌}
use native.Mathlib.Omega.{arith}
use native.Mathlib.Decide.{dec_lt}
use lib.Dec.{eqb, ltb}
use borrow.Author.Tests.{eqb-true, eqb-false, ltb-true, ltb-false}
use Rattle.marks.proofs.Cases.{either_false}
use Rattle.hoa_tokens.specs.declared.Word.TheVariants as word_is
use Rattle.hoa_tokens.specs.Token.{Token, word}
use Rattle.hoa_standard.specs.declared.Piece.{Piece}
use Rattle.hoa_standard.specs.Standard.{right, both, either, atom, Infs, Infop, infs_end, infop_end, infs_text}
use Rattle.hoa_standard.specs.Standard.{rabin_text, Single, Strop, streett_text, strop_text, strop_end, spair_text, single_text, Truth, truth_text, Std}
use Rattle.hoa_standard.specs.Standard.{std_text, IsStd}
use Rattle.hoa_standard.specs.Machines.{Buchi, RabinWants, RabinBehind, StreettWants, StreettBehind, Bare, TruthWants, TruthBehind, Wants, Behind, begin}
use Rattle.hoa_standard.specs.Machines.{streett_open, streett_inf, streett_fin, streett_close, streett_and, streett_or, bare_open, bare_inf, bare_fin, bare_close, bare_or, truth_open}
use Rattle.hoa_standard.specs.Machines.{truth_is, truth_close}
use Rattle.hoa_standard.specs.Machines.{buchi_open, buchi_close, rabin_open, rabin_inf, rabin_fin, rabin_close, rabin_and, rabin_or}
use Rattle.hoa_standard.specs.Machines.{some_wants, some_behind}
use Rattle.hoa_standard.specs.Machines.{buchi_live, rabin_wanting, rabin_live, streett_wanting, streett_live, bare_live, truth_wanting, truth_live}
use Rattle.hoa_standard.specs.Formulas.{FormulaState, go, Stage, operand, named, bracket, number, after, piece_of, formula_begin}
use Rattle.hoa_standard.specs.Formulas.{truth_done, by_done, meaning_of}
use Rattle.hoa_standard.specs.Standard.{FormulaMeaning, standard, short, no_needs, rabin_meaning}
use Rattle.hoa_standard.specs.Machines.{buchi_done, rabin_done, streett_done, bare_done}
use Rattle.table.specs.declared.Acceptance.TheVariants as acceptance
use Rattle.hoa_formula.specs.Walking.{free_walk, Begins, Stands}
use Rattle.hoa_formula.proofs.Rests.{Went, opens, infs, fins, truths, brackets, numbers, shuts, closed, ands, ors, begun, forward, Some, went, walked, go_is}
use Rattle.hoa_formula.proofs.Sound as sound

-- ---- each state completed

-- j Inf more
row : ℕ → Infs
row zero = Infs.one Infop.mark
row (suc j) = Infs.more Infop.mark (row j)

row_end_lem : (c j n : ℕ) → n + suc j ≡ c → infs_end (row j) n ≡ c
unfolding row infs_end infop_end
row_end_lem c zero n e = omega arith
row_end_lem c (suc j) n e = row_end_lem c j (suc n) (omega arith)

abbrev Tail : (ℕ → List Token → Type 0) → ℕ → Type 0
Tail K k = (us : List Token) × K k us

module _ (K : ℕ → List Token → Type 0) (c : ℕ) (k : Tail K c) where
  infs_shut : (d : ℕ) → Tail (sound.InfsEnd K d) c
  unfolding sound.InfsEnd
  infs_shut zero = k
  infs_shut (suc d) = let r = infs_shut d in (right r.0, (r.0, refl, sound.Rows.stops r.1))

  infs_left : (d n : ℕ) → n < c → (us : List Token) × sound.InfsWants K d n us
  infs_left d n l =
      let j = c - suc n in
      let r = infs_shut d in
      (infs_text (row j) n r.0, record { row = row j; us = r.0; text = refl; end = rw (row_end_lem c j n (omega arith)) r.1 })

  rows_left : (d n : ℕ) → n ≤ c → (us : List Token) × sound.Rows (sound.InfsEnd K d) n us
  rows_left d n l = by (dec_lt n c)
    where
      by : Dec (n < c) → (us : List Token) × sound.Rows (sound.InfsEnd K d) n us
      by (yes h) = let r = infs_left d n h in (both r.0, sound.infs_and K d n r.0 r.1)
      by (no h) =
          let e : n ≡ c = omega arith in
          let r = infs_shut d in
          (r.0, sound.Rows.stops (rw e r.1))

module _ (c : ℕ) where
  rabin_shut : (m : ℕ) → Tail (sound.RabinEnd c m) c
  unfolding sound.RabinEnd
  rabin_shut zero = ([], (refl, refl))
  rabin_shut (suc m) = let r = rabin_shut m in (right r.0, (r.0, refl, sound.Groups.stops r.1))

  pair_shut : (m b : ℕ) → Tail (sound.PairEnd c m b) c
  pair_shut m b = let r = rabin_shut m in (r.0, sound.row_pair c m b c r.0 (sound.Groups.stops r.1))

  fin_left : (m b n : ℕ) → n < c → (us : List Token) × sound.FinWants c m b n us
  unfolding sound.InfsEnd
  fin_left m b n l =
      let r = rows_left (sound.PairEnd c m b) c (pair_shut m b) 0 (suc n) l in
      (atom word_is.Fin n r.0, sound.fin_mark_lem c m b n r.0 r.1)

  groups_left : (m n : ℕ) → n ≤ c → (us : List Token) × sound.Groups (sound.RabinEnd c m) n us
  groups_left m n l = by (dec_lt n c)
    where
      by : Dec (n < c) → (us : List Token) × sound.Groups (sound.RabinEnd c m) n us
      by (yes h) = let r = fin_left m 0 n h in (either r.0, sound.fin_row c m n r.0 r.1)
      by (no h) =
          let e : n ≡ c = omega arith in
          let r = rabin_shut m in
          (r.0, sound.Groups.stops (rw e r.1))

  streett_shut : (m : ℕ) → Tail (sound.StreettEnd c m) c
  unfolding sound.StreettEnd
  streett_shut zero = ([], (refl, refl))
  streett_shut (suc m) = let r = streett_shut m in (right r.0, (r.0, refl, sound.Pairs.stops r.1))

  one_pair : Strop
  one_pair = Strop.pair (record { fin = Single.mark; inf = Single.mark })

  -- j pairs more
  pairs_left : (j m n : ℕ) → n + (j + j) ≡ c → (us : List Token) × sound.Pairs (sound.StreettEnd c m) n us
  unfolding one_pair strop_end
  pairs_left zero m n e =
      let q : n ≡ c = omega arith in
      let r = streett_shut m in
      (r.0, sound.Pairs.stops (rw q r.1))
  pairs_left (suc j) m n e =
      let r = pairs_left j m (suc (suc n)) (omega arith) in
      let us = strop_text one_pair n r.0 in
      (both us, sound.str_row c m 0 n us refl (sound.operand {i = n} {ts = us} one_pair r.0 refl r.1))

  half : (n : ℕ) → n % 2 ≡ 0 → c % 2 ≡ 0 → n ≤ c → n + ((c - n) / 2 + (c - n) / 2) ≡ c
  half n p q l = omega arith

  -- what is known of the numbers, by the state
  abbrev StreettAt : StreettWants → ℕ → Type 0
  StreettAt StreettWants.lost n = Unit
  StreettAt (StreettWants.fin m u) n = (n % 2 ≡ 0) × (c % 2 ≡ 0)
  StreettAt (StreettWants.inf m v) n = (n % 2 ≡ 1) × (c % 2 ≡ 0)

  abbrev StreettPast : StreettBehind → ℕ → Type 0
  StreettPast StreettBehind.lost n = Unit
  StreettPast (StreettBehind.fin m u) n = (n % 2 ≡ 1) × (c % 2 ≡ 0)
  StreettPast (StreettBehind.inf m v) n = (n % 2 ≡ 0) × (c % 2 ≡ 0)
  StreettPast (StreettBehind.pair m) n = (n % 2 ≡ 0) × (c % 2 ≡ 0)

  abbrev BareAt : Bare → ℕ → Type 0
  BareAt Bare.lost n = Unit
  BareAt (Bare.fin x) n = (n ≡ 0) × (c ≡ 2)
  BareAt (Bare.inf v) n = (n ≡ 1) × (c ≡ 2)

  abbrev BarePast : Bare → ℕ → Type 0
  BarePast Bare.lost n = Unit
  BarePast (Bare.fin x) n = (n ≡ 1) × (c ≡ 2)
  BarePast (Bare.inf v) n = (n ≡ 2) × (c ≡ 2)

  no_yes : {A : Type 0} → false ≡ true → A
  no_yes e = absurd (let z : ◌≡◌ {A = ℕ} 0 1 = cc in omega arith)

  buchi_wants : (x : Buchi) (n : ℕ) → buchi_live x ≡ true → n < c → (us : List Token) × sound.BuchiWants c x n us
  buchi_wants Buchi.lost n e l = no_yes e
  buchi_wants (Buchi.live d) n e l = infs_left (sound.Ended c) c ([], (refl, refl)) d n l

  buchi_behind : (x : Buchi) (n : ℕ) → buchi_live x ≡ true → n ≤ c → (us : List Token) × sound.BuchiBehind c x n us
  buchi_behind Buchi.lost n e l = no_yes e
  buchi_behind (Buchi.live d) n e l = rows_left (sound.Ended c) c ([], (refl, refl)) d n l

  rabin_wants : (x : RabinWants) (n : ℕ) → rabin_wanting x ≡ true → n < c → (us : List Token) × sound.WantsRabin c x n us
  rabin_wants RabinWants.lost n e l = no_yes e
  rabin_wants (RabinWants.fin m b) n e l = fin_left m b n l
  rabin_wants (RabinWants.inf m b d) n e l = infs_left (sound.PairEnd c m b) c (pair_shut m b) d n l

  rabin_behind : (x : RabinBehind) (n : ℕ) → rabin_live x ≡ true → n ≤ c → (us : List Token) × sound.BehindRabin c x n us
  rabin_behind RabinBehind.lost n e l = no_yes e
  rabin_behind (RabinBehind.pair m b d) n e l = rows_left (sound.PairEnd c m b) c (pair_shut m b) d n l
  rabin_behind (RabinBehind.group m) n e l = groups_left m n l

  inf_shut : (m v n : ℕ) → n % 2 ≡ 0 → c % 2 ≡ 0 → n ≤ c → (us : List Token) × sound.InfEnd c m v n us
  unfolding sound.InfEnd
  inf_shut m zero n p q l = let r = pairs_left ((c - n) / 2) m n (half n p q l) in (right r.0, (r.0, refl, r.1))
  inf_shut m (suc v) n p q l = let r = inf_shut m v n p q l in (right r.0, (r.0, refl, r.1))

  inf_wanted : (m v n : ℕ) → n % 2 ≡ 1 → c % 2 ≡ 0 → n ≤ c → (us : List Token) × sound.InfWanted c m v n us
  unfolding single_text
  inf_wanted m v n p q l =
      let r = inf_shut m v (suc n) (omega arith) q (omega arith) in
      (atom word_is.Inf n r.0, record { inf = Single.mark; us = r.0; text = refl; end = r.1 })

  streett_wants : (x : StreettWants) (n : ℕ) → streett_wanting x ≡ true → StreettAt x n → n < c → (us : List Token) × sound.WantsStreett c x n us
  unfolding one_pair strop_end
  streett_wants StreettWants.lost n e h l = no_yes e
  streett_wants (StreettWants.fin m u) n e h l =
      let r = pairs_left ((c - suc (suc n)) / 2) m (suc (suc n)) (half (suc (suc n)) (omega (arith, h.0)) h.1 (omega (arith, h.0, h.1))) in
      let us = strop_text one_pair n r.0 in
      (us, sound.operand {i = n} {ts = us} one_pair r.0 refl r.1)
  streett_wants (StreettWants.inf m v) n e h l = inf_wanted m v n h.0 h.1 (omega arith)

  streett_behind : (x : StreettBehind) (n : ℕ) → streett_live x ≡ true → StreettPast x n → n ≤ c → (us : List Token) × sound.BehindStreett c x n us
  streett_behind StreettBehind.lost n e h l = no_yes e
  streett_behind (StreettBehind.fin m u) n e h l = let r = inf_wanted m 0 n h.0 h.1 l in (either r.0, sound.joins r.0 refl r.1)
  streett_behind (StreettBehind.inf m v) n e h l = inf_shut m v n h.0 h.1 l
  streett_behind (StreettBehind.pair m) n e h l = pairs_left ((c - n) / 2) m n (half n h.0 h.1 l)

  bare_shut : (v n : ℕ) → n ≡ 2 → c ≡ 2 → (us : List Token) × sound.BareEnd c v n us
  unfolding sound.BareEnd
  bare_shut zero n e q = ([], (omega arith, refl))
  bare_shut (suc v) n e q = let r = bare_shut v n e q in (right r.0, (r.0, refl, r.1))

  bare_inf_lem : (v n : ℕ) → n ≡ 1 → c ≡ 2 → (us : List Token) × sound.BareInf c v n us
  unfolding single_text
  bare_inf_lem v n e q =
      let r = bare_shut v (suc n) (omega arith) q in
      (atom word_is.Inf n r.0, record { inf = Single.mark; us = r.0; text = refl; end = r.1 })

  bare_or_lem : (x n : ℕ) → n ≡ 1 → c ≡ 2 → (us : List Token) × sound.BareOr c x n us
  unfolding sound.BareOr
  bare_or_lem zero n e q = let r = bare_inf_lem 0 n e q in (either r.0, (r.0, refl, r.1))
  bare_or_lem (suc x) n e q = let r = bare_or_lem x n e q in (right r.0, (r.0, refl, r.1))

  bare_wants : (x : Bare) (n : ℕ) → bare_live x ≡ true → BareAt x n → (us : List Token) × sound.WantsBare c x n us
  unfolding single_text
  bare_wants Bare.lost n e h = no_yes e
  bare_wants (Bare.fin x) n e h =
      let r = bare_or_lem x (suc n) (omega (arith, h.0)) h.1 in
      (atom word_is.Fin n r.0, record { fin = Single.mark; us = r.0; text = refl; end = r.1 })
  bare_wants (Bare.inf v) n e h = bare_inf_lem v n h.0 h.1

  bare_behind : (x : Bare) (n : ℕ) → bare_live x ≡ true → BarePast x n → (us : List Token) × sound.BehindBare c x n us
  bare_behind Bare.lost n e h = no_yes e
  bare_behind (Bare.fin x) n e h = bare_or_lem x n h.0 h.1
  bare_behind (Bare.inf v) n e h = bare_shut v n h.0 h.1

  truth_shut : (d : ℕ) → (us : List Token) × sound.TruthEnd d us
  unfolding sound.TruthEnd
  truth_shut zero = ([], refl)
  truth_shut (suc d) = let r = truth_shut d in (right r.0, (r.0, refl, r.1))

  truth_wants : (x : TruthWants) (n : ℕ) → truth_wanting x ≡ true → (us : List Token) × sound.WantsTruth x n us
  unfolding truth_text
  truth_wants TruthWants.lost n e = no_yes e
  truth_wants (TruthWants.live d) n e = let r = truth_shut d in (word word_is.True ∷ r.0, record { value = Truth.truth; us = r.0; text = refl; end = r.1 })

  truth_behind : (x : TruthBehind) (n : ℕ) → truth_live x ≡ true → (us : List Token) × sound.BehindTruth x n us
  truth_behind TruthBehind.lost n e = no_yes e
  truth_behind (TruthBehind.is b d) n e = truth_shut d

  -- ---- what every token keeps

  record FairWants (n : ℕ) (w : Wants) : Type 0 where
    some : some_wants w ≡ true
    room : (n < c) ⊎ (truth_wanting w.truth ≡ true)
    most : n ≤ c
    streett : StreettAt w.streett n
    bare : BareAt w.bare n

  record FairBehind (n : ℕ) (b : Behind) : Type 0 where
    some : some_behind b ≡ true
    most : n ≤ c
    streett : StreettPast b.streett n
    bare : BarePast b.bare n

  abbrev Fair : ℕ → Stage → Type 0
  Fair n (operand w) = FairWants n w
  Fair n (named b) = (0 < n) × FairBehind n b
  Fair n (bracket b) = (0 < n) × FairBehind n b
  Fair n (number b) = FairBehind n b
  Fair n (after b) = FairBehind n b

  s_open : (x : StreettWants) (n : ℕ) → StreettAt x n → StreettAt (streett_open x) n
  s_open StreettWants.lost n h = tt
  s_open (StreettWants.fin m u) n h = h
  s_open (StreettWants.inf m v) n h = h

  s_inf : (x : StreettWants) (n : ℕ) → StreettAt x n → StreettPast (streett_inf x) (suc n)
  s_inf StreettWants.lost n h = tt
  s_inf (StreettWants.fin m u) n h = tt
  s_inf (StreettWants.inf m v) n h = (omega (arith, h.0), h.1)

  s_fin : (x : StreettWants) (n : ℕ) → StreettAt x n → StreettPast (streett_fin x) (suc n)
  s_fin StreettWants.lost n h = tt
  s_fin (StreettWants.fin m zero) n h = tt
  s_fin (StreettWants.fin zero (suc u)) n h = tt
  s_fin (StreettWants.fin (suc m) (suc u)) n h = (omega (arith, h.0), h.1)
  s_fin (StreettWants.inf m v) n h = tt

  s_close : (x : StreettBehind) (n : ℕ) → StreettPast x n → StreettPast (streett_close x) n
  s_close StreettBehind.lost n h = tt
  s_close (StreettBehind.fin m zero) n h = tt
  s_close (StreettBehind.fin zero (suc u)) n h = tt
  s_close (StreettBehind.fin (suc m) (suc u)) n h = h
  s_close (StreettBehind.inf m zero) n h = h
  s_close (StreettBehind.inf m (suc v)) n h = h
  s_close (StreettBehind.pair zero) n h = tt
  s_close (StreettBehind.pair (suc m)) n h = h

  s_and : (x : StreettBehind) (n : ℕ) → StreettPast x n → StreettAt (streett_and x) n
  s_and StreettBehind.lost n h = tt
  s_and (StreettBehind.fin m u) n h = tt
  s_and (StreettBehind.inf m v) n h = tt
  s_and (StreettBehind.pair m) n h = h

  s_or : (x : StreettBehind) (n : ℕ) → StreettPast x n → StreettAt (streett_or x) n
  s_or StreettBehind.lost n h = tt
  s_or (StreettBehind.fin m u) n h = h
  s_or (StreettBehind.inf m v) n h = tt
  s_or (StreettBehind.pair m) n h = tt

  b_open : (x : Bare) (n : ℕ) → BareAt x n → BareAt (bare_open x) n
  b_open Bare.lost n h = tt
  b_open (Bare.fin x) n h = h
  b_open (Bare.inf v) n h = h

  b_inf : (x : Bare) (n : ℕ) → BareAt x n → BarePast (bare_inf x) (suc n)
  b_inf Bare.lost n h = tt
  b_inf (Bare.fin x) n h = tt
  b_inf (Bare.inf v) n h = (omega (arith, h.0), h.1)

  b_fin : (x : Bare) (n : ℕ) → BareAt x n → BarePast (bare_fin x) (suc n)
  b_fin Bare.lost n h = tt
  b_fin (Bare.fin x) n h = (omega (arith, h.0), h.1)
  b_fin (Bare.inf v) n h = tt

  b_close : (x : Bare) (n : ℕ) → BarePast x n → BarePast (bare_close x) n
  b_close Bare.lost n h = tt
  b_close (Bare.fin zero) n h = tt
  b_close (Bare.fin (suc x)) n h = h
  b_close (Bare.inf zero) n h = tt
  b_close (Bare.inf (suc v)) n h = h

  b_or : (x : Bare) (n : ℕ) → BarePast x n → BareAt (bare_or x) n
  b_or Bare.lost n h = tt
  b_or (Bare.fin zero) n h = h
  b_or (Bare.fin (suc x)) n h = tt
  b_or (Bare.inf v) n h = tt

  t_open : (x : TruthWants) → truth_wanting x ≡ true → truth_wanting (truth_open x) ≡ true
  t_open TruthWants.lost e = e
  t_open (TruthWants.live d) e = refl

  room_open : (n : ℕ) (w : Wants) → (n < c) ⊎ (truth_wanting w.truth ≡ true) → (n < c) ⊎ (truth_wanting (truth_open w.truth) ≡ true)
  room_open n w (inl l) = inl l
  room_open n w (inr e) = inr (t_open w.truth e)

  fair_went : (n d d' n' : ℕ) (g g' : Stage) (p : Piece) → Went c n d g p d' n' g' → Fair n g → Fair n' g'
  fair_went n d d' n' g g' p (opens {w = w} a) h =
      record { some = a; room = room_open n w h.room; most = h.most; streett = s_open w.streett n h.streett; bare = b_open w.bare n h.bare }
  fair_went n d d' n' g g' p (infs {w = w} l a) h =
      (omega arith, record { some = a; most = l; streett = s_inf w.streett n h.streett; bare = b_inf w.bare n h.bare })
  fair_went n d d' n' g g' p (fins {w = w} l a) h =
      (omega arith, record { some = a; most = l; streett = s_fin w.streett n h.streett; bare = b_fin w.bare n h.bare })
  fair_went n d d' n' g g' p (truths {w = w} t a) h = record { some = a; most = h.most; streett = tt; bare = tt }
  fair_went n d d' n' g g' p brackets h = h
  fair_went n d d' n' g g' p (numbers k e) h = h.1
  fair_went n d d' n' g g' p shuts h = h
  fair_went n d d' n' g g' p (closed {b = b} a) h =
      record { some = a; most = h.most; streett = s_close b.streett n h.streett; bare = b_close b.bare n h.bare }
  fair_went n d d' n' g g' p (ands {b = b} l a) h = record { some = a; room = inl l; most = h.most; streett = s_and b.streett n h.streett; bare = tt }
  fair_went n d d' n' g g' p (ors {b = b} l a) h =
      record { some = a; room = inl l; most = h.most; streett = s_or b.streett n h.streett; bare = b_or b.bare n h.bare }

  fair_begins : FairWants 0 (begin c)
  fair_begins =
      record { some = refl; room = rooms (eqb c 0) refl; most = omega arith; streett = evens (eqb (c % 2) 0) refl; bare = twos (eqb c 2) refl }
    where
      rooms : (t : Bool) → eqb c 0 ≡ t → (0 < c) ⊎ (truth_wanting (cond t (TruthWants.live 0) TruthWants.lost) ≡ true)
      rooms true e = inr refl
      rooms false e = let h = eqb-false c 0 e in inl (positive c h)
        where
          positive : (k : ℕ) → (k ≡ 0 → ⊥) → 0 < k
          positive zero h = absurd (h refl)
          positive (suc k) h = omega arith

      evens : (t : Bool) → eqb (c % 2) 0 ≡ t → StreettAt (cond t (StreettWants.fin 0 0) StreettWants.lost) 0
      evens true e = (refl, eqb-true (c % 2) 0 e)
      evens false e = tt

      twos : (t : Bool) → eqb c 2 ≡ t → BareAt (cond t (Bare.fin 0) Bare.lost) 0
      twos true e = (refl, eqb-true c 2 e)
      twos false e = tt

  -- ---- by the machine that goes on

  data Machine : Type 0 where
    buchi : Machine
    rabin : Machine
    streett : Machine
    bare : Machine
    truth : Machine

  abbrev WantsOf : Machine → Wants → ℕ → List Token → Type 0
  WantsOf buchi w = sound.BuchiWants c w.buchi
  WantsOf rabin w = sound.WantsRabin c w.rabin
  WantsOf streett w = sound.WantsStreett c w.streett
  WantsOf bare w = sound.WantsBare c w.bare
  WantsOf truth w = sound.WantsTruth w.truth

  abbrev BehindOf : Machine → Behind → ℕ → List Token → Type 0
  BehindOf buchi b = sound.BuchiBehind c b.buchi
  BehindOf rabin b = sound.BehindRabin c b.rabin
  BehindOf streett b = sound.BehindStreett c b.streett
  BehindOf bare b = sound.BehindBare c b.bare
  BehindOf truth b = sound.BehindTruth b.truth

  or_cases : (a b : Bool) → a || b ≡ true → (a ≡ true) ⊎ (b ≡ true)
  or_cases true b e = inl refl
  or_cases false b e = inr e

  pick_wants : (n : ℕ) (w : Wants) → FairWants n w → (k : Machine) × ((us : List Token) × WantsOf k w n us)
  pick_wants n w h = by h.room
    where
      five : n < c → bare_live w.bare ≡ true ⊎ (truth_wanting w.truth ≡ true) → (k : Machine) × ((us : List Token) × WantsOf k w n us)
      five l (inl e) = (bare, bare_wants w.bare n e h.bare)
      five l (inr e) = (truth, truth_wants w.truth n e)

      four : n < c → streett_wanting w.streett ≡ true ⊎ (bare_live w.bare || truth_wanting w.truth ≡ true) → (k : Machine) × ((us : List Token) × WantsOf k w n us)
      four l (inl e) = (streett, streett_wants w.streett n e h.streett l)
      four l (inr e) = five l (or_cases (bare_live w.bare) (truth_wanting w.truth) e)

      three : n < c → rabin_wanting w.rabin ≡ true ⊎ (streett_wanting w.streett || (bare_live w.bare || truth_wanting w.truth) ≡ true)
          → (k : Machine) × ((us : List Token) × WantsOf k w n us)
      three l (inl e) = (rabin, rabin_wants w.rabin n e l)
      three l (inr e) = four l (or_cases (streett_wanting w.streett) (bare_live w.bare || truth_wanting w.truth) e)

      two : n < c → buchi_live w.buchi ≡ true ⊎ (rabin_wanting w.rabin || (streett_wanting w.streett || (bare_live w.bare || truth_wanting w.truth)) ≡ true)
          → (k : Machine) × ((us : List Token) × WantsOf k w n us)
      two l (inl e) = (buchi, buchi_wants w.buchi n e l)
      two l (inr e) = three l (or_cases (rabin_wanting w.rabin) (streett_wanting w.streett || (bare_live w.bare || truth_wanting w.truth)) e)

      by : (n < c) ⊎ (truth_wanting w.truth ≡ true) → (k : Machine) × ((us : List Token) × WantsOf k w n us)
      by (inr e) = (truth, truth_wants w.truth n e)
      by (inl l) =
          two l (or_cases (buchi_live w.buchi) (rabin_wanting w.rabin || (streett_wanting w.streett || (bare_live w.bare || truth_wanting w.truth))) h.some)

  pick_behind : (n : ℕ) (b : Behind) → FairBehind n b → (k : Machine) × ((us : List Token) × BehindOf k b n us)
  pick_behind n b h = two (or_cases (buchi_live b.buchi) (rabin_live b.rabin || (streett_live b.streett || (bare_live b.bare || truth_live b.truth))) h.some)
    where
      five : bare_live b.bare ≡ true ⊎ (truth_live b.truth ≡ true) → (k : Machine) × ((us : List Token) × BehindOf k b n us)
      five (inl e) = (bare, bare_behind b.bare n e h.bare)
      five (inr e) = (truth, truth_behind b.truth n e)

      four : streett_live b.streett ≡ true ⊎ (bare_live b.bare || truth_live b.truth ≡ true) → (k : Machine) × ((us : List Token) × BehindOf k b n us)
      four (inl e) = (streett, streett_behind b.streett n e h.streett h.most)
      four (inr e) = five (or_cases (bare_live b.bare) (truth_live b.truth) e)

      three : rabin_live b.rabin ≡ true ⊎ (streett_live b.streett || (bare_live b.bare || truth_live b.truth) ≡ true)
          → (k : Machine) × ((us : List Token) × BehindOf k b n us)
      three (inl e) = (rabin, rabin_behind b.rabin n e h.most)
      three (inr e) = four (or_cases (streett_live b.streett) (bare_live b.bare || truth_live b.truth) e)

      two : buchi_live b.buchi ≡ true ⊎ (rabin_live b.rabin || (streett_live b.streett || (bare_live b.bare || truth_live b.truth)) ≡ true)
          → (k : Machine) × ((us : List Token) × BehindOf k b n us)
      two (inl e) = (buchi, buchi_behind b.buchi n e h.most)
      two (inr e) = three (or_cases (rabin_live b.rabin) (streett_live b.streett || (bare_live b.bare || truth_live b.truth)) e)

  pick : (n : ℕ) (g : Stage) → Fair n g → (k : Machine) × Some (WantsOf k) (BehindOf k) g n
  pick n (operand w) h = pick_wants n w h
  pick n (named b) h = let r = pick_behind n b h.1 in (r.0, (h.0, r.1))
  pick n (bracket b) h = let r = pick_behind n b h.1 in (r.0, (h.0, r.1))
  pick n (number b) h = pick_behind n b h
  pick n (after b) h = pick_behind n b h

  back : (k : Machine) (ts : List Token) (f : FormulaState) → free_walk c (formula_begin c) ts ≡ go f → Some (WantsOf k) (BehindOf k) f.stage f.atoms
      → (us : List Token) × WantsOf k (begin c) 0 (ts ++ us)
  unfolding formula_begin
  back buchi ts f e h =
      begun c (WantsOf buchi) (BehindOf buchi) (λ w. sound.buchi_open_lem c w.buchi) (λ w n ts l. sound.buchi_inf c w.buchi n ts) (λ w n ts l h. absurd h)
      (λ t w n ts h. absurd h) (λ b. sound.buchi_close_lem c b.buchi) (λ b n ts l. sound.buchi_and c b.buchi n ts) (λ b n ts l h. absurd h) ts (formula_begin c) f e h
  back rabin ts f e h =
      begun c (WantsOf rabin) (BehindOf rabin) (λ w. sound.rabin_open_lem c w.rabin) (λ w n ts l. sound.rabin_inf_lem c w.rabin n ts)
      (λ w n ts l. sound.rabin_fin_lem c w.rabin n ts) (λ t w n ts h. absurd h) (λ b. sound.rabin_close_lem c b.rabin) (λ b n ts l. sound.rabin_and_lem c b.rabin n ts)
      (λ b n ts l. sound.rabin_or_lem c b.rabin n ts) ts (formula_begin c) f e h
  back streett ts f e h =
      begun c (WantsOf streett) (BehindOf streett) (λ w. sound.streett_open_lem c w.streett) (λ w n ts l. sound.streett_inf_lem c w.streett n ts)
      (λ w n ts l. sound.streett_fin_lem c w.streett n ts) (λ t w n ts h. absurd h) (λ b. sound.streett_close_lem c b.streett)
      (λ b n ts l. sound.streett_and_lem c b.streett n ts) (λ b n ts l. sound.streett_or_lem c b.streett n ts) ts (formula_begin c) f e h
  back bare ts f e h =
      begun c (WantsOf bare) (BehindOf bare) (λ w. sound.bare_open_lem c w.bare) (λ w n ts l. sound.bare_inf_lem c w.bare n ts) (λ w n ts l. sound.bare_fin_lem c w.bare n ts)
      (λ t w n ts h. absurd h) (λ b. sound.bare_close_lem c b.bare) (λ b n ts l h. absurd h) (λ b n ts l. sound.bare_or_lem c b.bare n ts) ts (formula_begin c) f e h
  back truth ts f e h =
      begun c (WantsOf truth) (BehindOf truth) (λ w. sound.truth_open_lem w.truth) (λ w n ts l h. absurd h) (λ w n ts l h. absurd h) (λ t w. sound.truth_is_lem t w.truth)
      (λ b. sound.truth_close_lem b.truth) (λ b n ts l h. absurd h) (λ b n ts l h. absurd h) ts (formula_begin c) f e h

  -- what is wanted at the beginning is a formula
  abbrev Formula : List Token → Type 0
  Formula xs = (x : Std) × IsStd c x × (std_text x [] ≡ xs)

  of_groups : (xs : List Token) → sound.Groups (sound.RabinEnd c 0) 0 (either xs) → Formula xs
  unfolding sound.RabinEnd std_text
  of_groups xs (sound.Groups.stops e) = absurd (let z : ◌≡◌ {A = ℕ} 0 1 = cc in omega arith)
  of_groups xs (sound.Groups.goes x us e d) = (Std.rabin x, d.0, (let q : xs ≡ rabin_text x 0 us = cc in sym (q ∙ ap (rabin_text x 0) d.1)))

  of_pairs : (xs : List Token) → c % 2 ≡ 0 → sound.Pairs (sound.StreettEnd c 0) 0 (both xs) → Formula xs
  unfolding sound.StreettEnd std_text
  of_pairs xs v (sound.Pairs.stops e) = absurd (let z : ◌≡◌ {A = ℕ} 0 1 = cc in omega arith)
  of_pairs xs v (sound.Pairs.goes x us e d) = (Std.streett x, (d.0, v), (let q : xs ≡ streett_text x 0 us = cc in sym (q ∙ ap (streett_text x 0) d.1)))

  formula : (k : Machine) (xs : List Token) → WantsOf k (begin c) 0 xs → Formula xs
  unfolding sound.InfsEnd sound.BareOr sound.BareEnd sound.TruthEnd std_text spair_text
  formula buchi xs h = (Std.infs h.row, h.end.0, sym (h.text ∙ ap (infs_text h.row 0) h.end.1))
  formula rabin xs h = of_groups xs (sound.fin_row c 0 0 xs h)
  formula streett xs h = even (eqb (c % 2) 0) refl h
    where
      even : (t : Bool) → eqb (c % 2) 0 ≡ t → sound.WantsStreett c (cond t (StreettWants.fin 0 0) StreettWants.lost) 0 xs → Formula xs
      even true q r = of_pairs xs (eqb-true (c % 2) 0 q) (sound.str_row c 0 0 0 xs refl r)
      even false q r = absurd r
  formula bare xs h = two (eqb c 2) refl h
    where
      two : (t : Bool) → eqb c 2 ≡ t → sound.WantsBare c (cond t (Bare.fin 0) Bare.lost) 0 xs → Formula xs
      two true q r =
          let i = r.end.2 in
          (Std.spair (record { fin = r.fin; inf = i.inf }), eqb-true c 2 q, sym (rw (r.text, r.end.1, i.text, i.end.1)))
      two false q r = absurd r
  formula truth xs h = none (eqb c 0) refl h
    where
      none : (t : Bool) → eqb c 0 ≡ t → sound.WantsTruth (cond t (TruthWants.live 0) TruthWants.lost) 0 xs → Formula xs
      none true q r = (Std.truth r.value, eqb-true c 0 q, sym (r.text ∙ ap (truth_text r.value) r.end))
      none false q r = absurd r

  fair_begin : Fair (formula_begin c).atoms (formula_begin c).stage
  unfolding formula_begin
  fair_begin = fair_begins

  -- what is admitted is the beginning of a formula of std(c): 41 never falls late
  pub never_late : (ts : List Token) (f : FormulaState) → free_walk c (formula_begin c) ts ≡ go f → Begins c ts
  never_late ts f e =
      let k = pick f.atoms f.stage (forward c Fair fair_went ts (formula_begin c) f e fair_begin) in
      let r = back k.0 ts f e k.1 in
      let x = formula k.0 (ts ++ r.0) r.1 in
      record { formula = x.0; rest = r.0; standard = x.1; text = x.2 }

  -- ---- "fewer than c atoms"

  -- the counts of brackets are the open brackets
  abbrev BuchiDeep : Buchi → ℕ → Type 0
  BuchiDeep Buchi.lost d = Unit
  BuchiDeep (Buchi.live e) d = e ≡ d

  abbrev RabinDeep : RabinWants → ℕ → Type 0
  RabinDeep RabinWants.lost d = Unit
  RabinDeep (RabinWants.fin m b) d = m ≡ d
  RabinDeep (RabinWants.inf m b i) d = m + i ≡ d

  abbrev PairDeep : RabinBehind → ℕ → Type 0
  PairDeep RabinBehind.lost d = Unit
  PairDeep (RabinBehind.pair m b i) d = m + i ≡ d
  PairDeep (RabinBehind.group m) d = m ≡ d

  abbrev StreettDeep : StreettWants → ℕ → Type 0
  StreettDeep StreettWants.lost d = Unit
  StreettDeep (StreettWants.fin m u) d = m ≡ d
  StreettDeep (StreettWants.inf m v) d = suc (m + v) ≡ d

  abbrev StropDeep : StreettBehind → ℕ → Type 0
  StropDeep StreettBehind.lost d = Unit
  StropDeep (StreettBehind.fin m u) d = suc m ≡ d
  StropDeep (StreettBehind.inf m v) d = suc (m + v) ≡ d
  StropDeep (StreettBehind.pair m) d = m ≡ d

  abbrev BareDeep : Bare → ℕ → Type 0
  BareDeep Bare.lost d = Unit
  BareDeep (Bare.fin x) d = x ≡ d
  BareDeep (Bare.inf v) d = v ≡ d

  abbrev TruthDeep : TruthWants → ℕ → Type 0
  TruthDeep TruthWants.lost d = Unit
  TruthDeep (TruthWants.live e) d = e ≡ d

  abbrev ValueDeep : TruthBehind → ℕ → Type 0
  ValueDeep TruthBehind.lost d = Unit
  ValueDeep (TruthBehind.is b e) d = e ≡ d

  record DeepWants (d : ℕ) (w : Wants) : Type 0 where
    buchi : BuchiDeep w.buchi d
    rabin : RabinDeep w.rabin d
    streett : StreettDeep w.streett d
    bare : BareDeep w.bare d
    truth : TruthDeep w.truth d

  record DeepBehind (d : ℕ) (b : Behind) : Type 0 where
    buchi : BuchiDeep b.buchi d
    rabin : PairDeep b.rabin d
    streett : StropDeep b.streett d
    bare : BareDeep b.bare d
    truth : ValueDeep b.truth d

  abbrev Deep : ℕ → Stage → Type 0
  Deep d (operand w) = DeepWants d w
  Deep d (named b) = DeepBehind d b
  Deep d (bracket b) = DeepBehind d b
  Deep d (number b) = DeepBehind d b
  Deep d (after b) = DeepBehind d b

  db_open : (x : Buchi) (d : ℕ) → BuchiDeep x d → BuchiDeep (buchi_open x) (suc d)
  db_open Buchi.lost d h = tt
  db_open (Buchi.live e) d h = ap suc h

  dr_open : (x : RabinWants) (d : ℕ) → RabinDeep x d → RabinDeep (rabin_open x) (suc d)
  dr_open RabinWants.lost d h = tt
  dr_open (RabinWants.fin m b) d h = ap suc h
  dr_open (RabinWants.inf m b i) d h = omega arith

  ds_open : (x : StreettWants) (d : ℕ) → StreettDeep x d → StreettDeep (streett_open x) (suc d)
  ds_open StreettWants.lost d h = tt
  ds_open (StreettWants.fin m u) d h = ap suc h
  ds_open (StreettWants.inf m v) d h = omega arith

  da_open : (x : Bare) (d : ℕ) → BareDeep x d → BareDeep (bare_open x) (suc d)
  da_open Bare.lost d h = tt
  da_open (Bare.fin x) d h = ap suc h
  da_open (Bare.inf v) d h = ap suc h

  dt_open : (x : TruthWants) (d : ℕ) → TruthDeep x d → TruthDeep (truth_open x) (suc d)
  dt_open TruthWants.lost d h = tt
  dt_open (TruthWants.live e) d h = ap suc h

  dr_inf : (x : RabinWants) (d : ℕ) → RabinDeep x d → PairDeep (rabin_inf x) d
  dr_inf RabinWants.lost d h = tt
  dr_inf (RabinWants.fin m b) d h = tt
  dr_inf (RabinWants.inf m b i) d h = h

  dr_fin : (x : RabinWants) (d : ℕ) → RabinDeep x d → PairDeep (rabin_fin x) d
  dr_fin RabinWants.lost d h = tt
  dr_fin (RabinWants.fin m b) d h = omega arith
  dr_fin (RabinWants.inf m b i) d h = tt

  ds_inf : (x : StreettWants) (d : ℕ) → StreettDeep x d → StropDeep (streett_inf x) d
  ds_inf StreettWants.lost d h = tt
  ds_inf (StreettWants.fin m u) d h = tt
  ds_inf (StreettWants.inf m v) d h = h

  ds_fin : (x : StreettWants) (d : ℕ) → StreettDeep x d → StropDeep (streett_fin x) d
  ds_fin StreettWants.lost d h = tt
  ds_fin (StreettWants.fin m zero) d h = tt
  ds_fin (StreettWants.fin zero (suc u)) d h = tt
  ds_fin (StreettWants.fin (suc m) (suc u)) d h = h
  ds_fin (StreettWants.inf m v) d h = tt

  da_inf : (x : Bare) (d : ℕ) → BareDeep x d → BareDeep (bare_inf x) d
  da_inf Bare.lost d h = tt
  da_inf (Bare.fin x) d h = tt
  da_inf (Bare.inf v) d h = h

  da_fin : (x : Bare) (d : ℕ) → BareDeep x d → BareDeep (bare_fin x) d
  da_fin Bare.lost d h = tt
  da_fin (Bare.fin x) d h = h
  da_fin (Bare.inf v) d h = tt

  dt_is : (t : Bool) (x : TruthWants) (d : ℕ) → TruthDeep x d → ValueDeep (truth_is t x) d
  dt_is t TruthWants.lost d h = tt
  dt_is t (TruthWants.live e) d h = h

  db_close : (x : Buchi) (d : ℕ) → BuchiDeep x (suc d) → BuchiDeep (buchi_close x) d
  db_close Buchi.lost d h = tt
  db_close (Buchi.live zero) d h = tt
  db_close (Buchi.live (suc e)) d h = omega arith

  dr_close : (x : RabinBehind) (d : ℕ) → PairDeep x (suc d) → PairDeep (rabin_close x) d
  dr_close RabinBehind.lost d h = tt
  dr_close (RabinBehind.pair m b (suc i)) d h = omega arith
  dr_close (RabinBehind.pair zero b zero) d h = tt
  dr_close (RabinBehind.pair (suc m) zero zero) d h = omega arith
  dr_close (RabinBehind.pair (suc m) (suc b) zero) d h = omega arith
  dr_close (RabinBehind.group zero) d h = tt
  dr_close (RabinBehind.group (suc m)) d h = omega arith

  ds_close : (x : StreettBehind) (d : ℕ) → StropDeep x (suc d) → StropDeep (streett_close x) d
  ds_close StreettBehind.lost d h = tt
  ds_close (StreettBehind.fin m zero) d h = tt
  ds_close (StreettBehind.fin zero (suc u)) d h = tt
  ds_close (StreettBehind.fin (suc m) (suc u)) d h = omega arith
  ds_close (StreettBehind.inf m zero) d h = omega arith
  ds_close (StreettBehind.inf m (suc v)) d h = omega arith
  ds_close (StreettBehind.pair zero) d h = tt
  ds_close (StreettBehind.pair (suc m)) d h = omega arith

  da_close : (x : Bare) (d : ℕ) → BareDeep x (suc d) → BareDeep (bare_close x) d
  da_close Bare.lost d h = tt
  da_close (Bare.fin zero) d h = tt
  da_close (Bare.fin (suc x)) d h = omega arith
  da_close (Bare.inf zero) d h = tt
  da_close (Bare.inf (suc v)) d h = omega arith

  dt_close : (x : TruthBehind) (d : ℕ) → ValueDeep x (suc d) → ValueDeep (truth_close x) d
  dt_close TruthBehind.lost d h = tt
  dt_close (TruthBehind.is b zero) d h = tt
  dt_close (TruthBehind.is b (suc e)) d h = omega arith

  dr_and : (x : RabinBehind) (d : ℕ) → PairDeep x d → RabinDeep (rabin_and x) d
  dr_and RabinBehind.lost d h = tt
  dr_and (RabinBehind.pair m b i) d h = h
  dr_and (RabinBehind.group m) d h = tt

  dr_or : (x : RabinBehind) (d : ℕ) → PairDeep x d → RabinDeep (rabin_or x) d
  dr_or RabinBehind.lost d h = tt
  dr_or (RabinBehind.pair m b zero) d h = omega arith
  dr_or (RabinBehind.pair m b (suc i)) d h = tt
  dr_or (RabinBehind.group m) d h = h

  ds_and : (x : StreettBehind) (d : ℕ) → StropDeep x d → StreettDeep (streett_and x) d
  ds_and StreettBehind.lost d h = tt
  ds_and (StreettBehind.fin m u) d h = tt
  ds_and (StreettBehind.inf m v) d h = tt
  ds_and (StreettBehind.pair m) d h = h

  ds_or : (x : StreettBehind) (d : ℕ) → StropDeep x d → StreettDeep (streett_or x) d
  ds_or StreettBehind.lost d h = tt
  ds_or (StreettBehind.fin m u) d h = omega arith
  ds_or (StreettBehind.inf m v) d h = tt
  ds_or (StreettBehind.pair m) d h = tt

  da_or : (x : Bare) (d : ℕ) → BareDeep x d → BareDeep (bare_or x) d
  da_or Bare.lost d h = tt
  da_or (Bare.fin zero) d h = h
  da_or (Bare.fin (suc x)) d h = tt
  da_or (Bare.inf v) d h = tt

  deep_went : (n d d' n' : ℕ) (g g' : Stage) (p : Piece) → Went c n d g p d' n' g' → Deep d g → Deep d' g'
  deep_went n d d' n' g g' p (opens {w = w} a) h =
      record {
        buchi = db_open w.buchi d h.buchi;
        rabin = dr_open w.rabin d h.rabin;
        streett = ds_open w.streett d h.streett;
        bare = da_open w.bare d h.bare;
        truth = dt_open w.truth d h.truth;
      }
  deep_went n d d' n' g g' p (infs {w = w} l a) h =
      record { buchi = h.buchi; rabin = dr_inf w.rabin d h.rabin; streett = ds_inf w.streett d h.streett; bare = da_inf w.bare d h.bare; truth = tt }
  deep_went n d d' n' g g' p (fins {w = w} l a) h =
      record { buchi = tt; rabin = dr_fin w.rabin d h.rabin; streett = ds_fin w.streett d h.streett; bare = da_fin w.bare d h.bare; truth = tt }
  deep_went n d d' n' g g' p (truths {w = w} t a) h = record { buchi = tt; rabin = tt; streett = tt; bare = tt; truth = dt_is t w.truth d h.truth }
  deep_went n d d' n' g g' p brackets h = h
  deep_went n d d' n' g g' p (numbers k e) h = h
  deep_went n d d' n' g g' p shuts h = h
  deep_went n d d' n' g g' p (closed {d = i} {b = b} a) h =
      record {
        buchi = db_close b.buchi i h.buchi;
        rabin = dr_close b.rabin i h.rabin;
        streett = ds_close b.streett i h.streett;
        bare = da_close b.bare i h.bare;
        truth = dt_close b.truth i h.truth;
      }
  deep_went n d d' n' g g' p (ands {b = b} l a) h =
      record { buchi = h.buchi; rabin = dr_and b.rabin d h.rabin; streett = ds_and b.streett d h.streett; bare = tt; truth = tt }
  deep_went n d d' n' g g' p (ors {b = b} l a) h =
      record { buchi = tt; rabin = dr_or b.rabin d h.rabin; streett = ds_or b.streett d h.streett; bare = da_or b.bare d h.bare; truth = tt }

  deep_walk : (ts : List Token) (s f : FormulaState) → free_walk c s ts ≡ go f → Deep s.depth s.stage → Deep f.depth f.stage
  unfolding free_walk
  deep_walk [] s f e h = subst (λ (x : FormulaState). Deep x.depth x.stage) (go_is e) h
  deep_walk (t ∷ ts) s f e h =
      let x = walked c s t ts f e in
      deep_walk ts x.0 f x.2 (deep_went s.atoms s.depth x.0.depth x.0.atoms s.stage x.0.stage (piece_of t) (went c s t x.0 x.1) h)

  deep_begin : Deep (formula_begin c).depth (formula_begin c).stage
  unfolding formula_begin
  deep_begin = record { buchi = refl; rabin = refl; streett = evens (eqb (c % 2) 0); bare = twos (eqb c 2); truth = nones (eqb c 0) }
    where
      evens : (t : Bool) → StreettDeep (cond t (StreettWants.fin 0 0) StreettWants.lost) 0
      evens true = refl
      evens false = tt

      twos : (t : Bool) → BareDeep (cond t (Bare.fin 0) Bare.lost) 0
      twos true = refl
      twos false = tt

      nones : (t : Bool) → TruthDeep (cond t (TruthWants.live 0) TruthWants.lost) 0
      nones true = refl
      nones false = tt

  -- with no open bracket and c atoms each machine that goes on is complete
  buchi_ends : (x : Buchi) → buchi_live x ≡ true → BuchiDeep x 0 → buchi_done x ≡ true
  buchi_ends Buchi.lost e h = e
  buchi_ends (Buchi.live zero) e h = refl
  buchi_ends (Buchi.live (suc d)) e h = absurd (omega arith)

  rabin_ends : (x : RabinBehind) → rabin_live x ≡ true → PairDeep x 0 → rabin_done x ≡ true
  rabin_ends RabinBehind.lost e h = e
  rabin_ends (RabinBehind.pair zero b zero) e h = refl
  rabin_ends (RabinBehind.pair (suc m) b zero) e h = absurd (omega arith)
  rabin_ends (RabinBehind.pair m b (suc i)) e h = absurd (omega arith)
  rabin_ends (RabinBehind.group zero) e h = refl
  rabin_ends (RabinBehind.group (suc m)) e h = absurd (omega arith)

  streett_ends : (x : StreettBehind) → streett_live x ≡ true → StropDeep x 0 → streett_done x ≡ true
  streett_ends StreettBehind.lost e h = e
  streett_ends (StreettBehind.fin m u) e h = absurd (omega arith)
  streett_ends (StreettBehind.inf m v) e h = absurd (omega arith)
  streett_ends (StreettBehind.pair zero) e h = refl
  streett_ends (StreettBehind.pair (suc m)) e h = absurd (omega arith)

  bare_ends : (x : Bare) (n : ℕ) → n ≡ c → BarePast x n → bare_live x ≡ true → BareDeep x 0 → bare_done x ≡ true
  bare_ends Bare.lost n q p e h = e
  bare_ends (Bare.fin x) n q p e h = absurd (omega (arith, p.0, p.1))
  bare_ends (Bare.inf zero) n q p e h = refl
  bare_ends (Bare.inf (suc v)) n q p e h = absurd (omega arith)

  truth_ends : (x : TruthBehind) → truth_live x ≡ true → ValueDeep x 0 → truth_done x ≡ short → ⊥
  truth_ends TruthBehind.lost e h s = no_yes e
  truth_ends (TruthBehind.is true zero) e h s = let z : ◌≡◌ {A = ℕ} 0 1 = cc in omega arith
  truth_ends (TruthBehind.is false zero) e h s = let z : ◌≡◌ {A = ℕ} 0 1 = cc in omega arith
  truth_ends (TruthBehind.is true (suc d)) e h s = omega arith
  truth_ends (TruthBehind.is false (suc d)) e h s = omega arith

  -- short only if none is complete
  all_short : (x y z : Bool) (ns : List ℕ) (m : FormulaMeaning)
      → cond x (standard (acceptance.Buchi c) no_needs) (cond y (rabin_meaning ns) (cond z (standard (acceptance.Streett (c / 2)) no_needs) m)) ≡ short
      → (x ≡ false) × (y ≡ false) × (z ≡ false) × (m ≡ short)
  all_short true y z ns m e = absurd (let z : ◌≡◌ {A = ℕ} 0 1 = cc in omega arith)
  all_short false true z ns m e = absurd (let z : ◌≡◌ {A = ℕ} 0 1 = cc in omega arith)
  all_short false false true ns m e = absurd (let z : ◌≡◌ {A = ℕ} 0 1 = cc in omega arith)
  all_short false false false ns m e = (refl, refl, refl, e)

  clash : {x : Bool} → x ≡ false → x ≡ true → ⊥
  clash p q = let z : ◌≡◌ {A = ℕ} 0 1 = cc in omega arith

  complete_not_short : (n : ℕ) (ns : List ℕ) (b : Behind) → n ≡ c → FairBehind n b → DeepBehind 0 b → by_done c ns b ≡ short → ⊥
  complete_not_short n ns b q f g s =
      two (or_cases (buchi_live b.buchi) (rabin_live b.rabin || (streett_live b.streett || (bare_live b.bare || truth_live b.truth))) f.some)
    where
      a : (buchi_done b.buchi ≡ false) × (rabin_done b.rabin ≡ false) × ((streett_done b.streett || bare_done b.bare) ≡ false) × (truth_done b.truth ≡ short)
      a = all_short (buchi_done b.buchi) (rabin_done b.rabin) (streett_done b.streett || bare_done b.bare) ns (truth_done b.truth) s

      five : bare_live b.bare ≡ true ⊎ (truth_live b.truth ≡ true) → ⊥
      five (inl e) = clash (either_false (streett_done b.streett) (bare_done b.bare) a.2).1 (bare_ends b.bare n q f.bare e g.bare)
      five (inr e) = truth_ends b.truth e g.truth a.3

      four : streett_live b.streett ≡ true ⊎ (bare_live b.bare || truth_live b.truth ≡ true) → ⊥
      four (inl e) = clash (either_false (streett_done b.streett) (bare_done b.bare) a.2).0 (streett_ends b.streett e g.streett)
      four (inr e) = five (or_cases (bare_live b.bare) (truth_live b.truth) e)

      three : rabin_live b.rabin ≡ true ⊎ (streett_live b.streett || (bare_live b.bare || truth_live b.truth) ≡ true) → ⊥
      three (inl e) = clash a.1 (rabin_ends b.rabin e g.rabin)
      three (inr e) = four (or_cases (streett_live b.streett) (bare_live b.bare || truth_live b.truth) e)

      two : buchi_live b.buchi ≡ true ⊎ (rabin_live b.rabin || (streett_live b.streett || (bare_live b.bare || truth_live b.truth)) ≡ true) → ⊥
      two (inl e) = clash a.0 (buchi_ends b.buchi e g.buchi)
      two (inr e) = three (or_cases (rabin_live b.rabin) (streett_live b.streett || (bare_live b.bare || truth_live b.truth)) e)

  -- a formula that may be over is short only with fewer than c atoms
  pub short_few : (ts : List Token) (f : FormulaState) → free_walk c (formula_begin c) ts ≡ go f → Stands c f short → f.atoms < c
  unfolding meaning_of
  short_few ts f e h = by (ltb f.atoms c) refl h.means
    where
      fair : FairBehind f.atoms h.behind
      fair = subst (λ (g : Stage). Fair f.atoms g) h.stage (forward c Fair fair_went ts (formula_begin c) f e fair_begin)

      deep : DeepBehind 0 h.behind
      deep = subst (λ (d : ℕ). DeepBehind d h.behind) h.outside (subst (λ (g : Stage). Deep f.depth g) h.stage (deep_walk ts (formula_begin c) f e deep_begin))

      by : (t : Bool) → ltb f.atoms c ≡ t → cond t short (by_done c f.needs h.behind) ≡ short → f.atoms < c
      by true q s = ltb-true f.atoms c q
      by false q s =
          absurd (complete_not_short f.atoms f.needs h.behind (omega (arith, ltb-false f.atoms c q, fair.most)) fair deep s)
