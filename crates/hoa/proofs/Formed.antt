-- What a formula that is over means is a permitted condition that uses its c marks (row 4 never refuses it): all its atoms lie in the pairs so far, there
-- are no more than eight pairs, and each machine is begun only for the c that it is for. Assumes nothing.
use mathlib.Core.Path.{◌≡◌, refl, sym, ap, ◌∙◌}
use mathlib.Core.Bool.{Bool, true, false, cond, ◌&&◌, ◌||◌, true≢false}
use mathlib.Core.List.{List, [], ◌∷◌, ◌++◌, reverse, reverse-cons, append_assoc}
use Prim.Native.Nat.{ℕ, zero, suc, ◌+◌, ◌-◌, ◌*◌, ◌/◌, ◌%◌, ◌≤◌, ◌<◌}
use native.Mathlib.Omega.{arith}
use lib.Dec.{eqb, ltb, leb}
use lib.ListN.{length, drop, replicate, length-reverse}
use lib.Seq.{drop_at, get_or_at}
use borrow.Author.Tests.{ltb-true, ltb-false, leb-false, eqb-true, le-ltb}
use Rattle.table.specs.declared.Acceptance.TheVariants as acceptance
use Rattle.table.specs.Condition.{dealt}
use Rattle.table.specs.Refusal.{some_need, used, wrong_condition}
use Rattle.hoa_tokens.specs.Token.{Token}
use Rattle.hoa_standard.specs.declared.Piece.{Piece}
use Rattle.hoa_standard.specs.declared.Piece.TheVariants as piece_is
use Rattle.hoa_standard.specs.Standard.{FormulaMeaning, standard, short, most_pairs, no_needs, eight_needs, rabin_meaning}
use Rattle.hoa_standard.specs.Machines.{RabinWants, RabinBehind, StreettWants, StreettBehind, Bare, TruthWants, TruthBehind, Wants, Behind}
use Rattle.hoa_standard.specs.Machines.{rabin_open, rabin_inf, rabin_fin, rabin_close, rabin_and, rabin_or, streett_open, streett_inf, streett_fin, streett_close, streett_and, streett_or}
use Rattle.hoa_standard.specs.Machines.{bare_open, bare_inf, bare_fin, bare_close, bare_or, truth_open, truth_is, truth_close, wants_open, wants_inf, wants_fin, wants_truth}
use Rattle.hoa_standard.specs.Machines.{behind_close, behind_and, behind_or, buchi_done, rabin_done, streett_done, bare_done, some_wants, some_behind}
use Rattle.hoa_standard.specs.Formulas.{Stage, operand, named, bracket, number, after, FormulaState, FormulaStep, go, over, wrong, formula_begin, go_wants, go_named, go_after}
use Rattle.hoa_standard.specs.Formulas.{needs_inf, needs_fin, on_operand, on_named, on_bracket, on_number, on_after, on_stage, truth_done, meaning_of, ends, closes, piece_of}
use Rattle.hoa_standard.specs.Formulas.{free_step, opens_pair, too_many, limited, formula_step}

-- ---- what the machines keep

-- the marks of pairs with these needs: a forbidden one and the needed ones each
abbrev pub dealt_to : List ℕ → ℕ
dealt_to [] = 0
dealt_to (n ∷ ns) = dealt_to ns + (1 + n)

-- n atoms so far, in pairs with these needs
pub record Pairs (n : ℕ) (ns : List ℕ) : Type 0 where
  pub some : 0 < length ns
  pub few : length ns ≤ 8
  pub all : dealt_to ns ≡ n

-- where a pair may begin there are at most so many before it
abbrev pub RabinAhead : ℕ → ℕ → List ℕ → RabinWants → Type 0
RabinAhead most n ns RabinWants.lost = Unit {0}
RabinAhead most n ns (RabinWants.fin m b) = (length ns ≤ most) × (dealt_to ns ≡ n)
RabinAhead most n ns (RabinWants.inf m b d) = Pairs n ns

abbrev pub RabinPast : ℕ → List ℕ → RabinBehind → Type 0
RabinPast n ns RabinBehind.lost = Unit {0}
RabinPast n ns (RabinBehind.pair m b d) = Pairs n ns
RabinPast n ns (RabinBehind.group m) = Pairs n ns

abbrev pub StreettAhead : ℕ → StreettWants → Type 0
StreettAhead c StreettWants.lost = Unit {0}
StreettAhead c (StreettWants.fin m u) = c % 2 ≡ 0
StreettAhead c (StreettWants.inf m v) = c % 2 ≡ 0

abbrev pub StreettPast : ℕ → StreettBehind → Type 0
StreettPast c StreettBehind.lost = Unit {0}
StreettPast c (StreettBehind.fin m u) = c % 2 ≡ 0
StreettPast c (StreettBehind.inf m v) = c % 2 ≡ 0
StreettPast c (StreettBehind.pair m) = c % 2 ≡ 0

abbrev pub BareFor : ℕ → Bare → Type 0
BareFor c Bare.lost = Unit {0}
BareFor c (Bare.fin x) = c ≡ 2
BareFor c (Bare.inf x) = c ≡ 2

abbrev pub TruthAhead : ℕ → TruthWants → Type 0
TruthAhead c TruthWants.lost = Unit {0}
TruthAhead c (TruthWants.live d) = c ≡ 0

abbrev pub TruthPast : ℕ → TruthBehind → Type 0
TruthPast c TruthBehind.lost = Unit {0}
TruthPast c (TruthBehind.is b d) = c ≡ 0

pub record Ahead (most c n : ℕ) (ns : List ℕ) (w : Wants) : Type 0 where
  pub rabin : RabinAhead most n ns w.rabin
  pub streett : StreettAhead c w.streett
  pub bare : BareFor c w.bare
  pub truth : TruthAhead c w.truth

pub record Past (c n : ℕ) (ns : List ℕ) (b : Behind) : Type 0 where
  pub rabin : RabinPast n ns b.rabin
  pub streett : StreettPast c b.streett
  pub bare : BareFor c b.bare
  pub truth : TruthPast c b.truth

abbrev pub AtStage : ℕ → ℕ → ℕ → List ℕ → Stage → Type 0
AtStage most c n ns (operand w) = Ahead most c n ns w
AtStage most c n ns (named b) = Past c n ns b
AtStage most c n ns (bracket b) = Past c n ns b
AtStage most c n ns (number b) = Past c n ns b
AtStage most c n ns (after b) = Past c n ns b

-- a formula with c marks, where at most so many pairs may stand before another one
pub record Formed (most c : ℕ) (s : FormulaState) : Type 0 where
  pub atoms_few : s.atoms ≤ c
  pub stands : AtStage most c s.atoms s.needs s.stage

-- ---- what comes of a step

-- a permitted condition that uses c marks
abbrev pub Meant : ℕ → FormulaMeaning → Type 0
Meant c short = Unit {0}
Meant c (standard condition needs) = c ≤ 32 → (wrong_condition condition needs ≡ false) × (used condition needs ≡ c)

abbrev pub Keeps : ℕ → ℕ → FormulaStep → Type 0
Keeps most c (go s) = Formed most c s
Keeps most c (over m) = Meant c m
Keeps most c (wrong k) = Unit {0}

if_so : (b : Bool) (most c k : ℕ) (s : FormulaStep) → (b ≡ true → Keeps most c s) → Keeps most c (cond b s (wrong k))
if_so true most c k s f = f refl
if_so false most c k s f = tt

first : (a b : Bool) → (a && b) ≡ true → a ≡ true
first true b e = refl
first false b e = e

-- ---- the Rabin machine

rabin_open_lem : (most n : ℕ) (ns : List ℕ) (w : RabinWants) → RabinAhead most n ns w → RabinAhead most n ns (rabin_open w)
rabin_open_lem most n ns RabinWants.lost p = tt
rabin_open_lem most n ns (RabinWants.fin m b) p = p
rabin_open_lem most n ns (RabinWants.inf m b d) p = p

rabin_inf_lem : (n : ℕ) (ns : List ℕ) (w : RabinWants) → RabinAhead 7 n ns w → RabinPast (suc n) (needs_inf w ns) (rabin_inf w)
rabin_inf_lem n ns RabinWants.lost p = tt
rabin_inf_lem n ns (RabinWants.fin m b) p = tt
rabin_inf_lem n [] (RabinWants.inf m b d) p = absurd (omega (arith, p.some))
rabin_inf_lem n (x ∷ xs) (RabinWants.inf m b d) p = record { some = omega arith; few = p.few; all = omega (arith, p.all) }

rabin_fin_lem : (n : ℕ) (ns : List ℕ) (w : RabinWants) → RabinAhead 7 n ns w → RabinPast (suc n) (needs_fin w ns) (rabin_fin w)
rabin_fin_lem n ns RabinWants.lost p = tt
rabin_fin_lem n ns (RabinWants.fin m b) p = record { some = omega arith; few = omega (arith, p.0); all = omega (arith, p.1) }
rabin_fin_lem n ns (RabinWants.inf m b d) p = tt

rabin_close_lem : (n : ℕ) (ns : List ℕ) (b : RabinBehind) → RabinPast n ns b → RabinPast n ns (rabin_close b)
rabin_close_lem n ns RabinBehind.lost p = tt
rabin_close_lem n ns (RabinBehind.pair m b (suc d)) p = p
rabin_close_lem n ns (RabinBehind.pair zero b zero) p = tt
rabin_close_lem n ns (RabinBehind.pair (suc m) zero zero) p = p
rabin_close_lem n ns (RabinBehind.pair (suc m) (suc b) zero) p = p
rabin_close_lem n ns (RabinBehind.group zero) p = tt
rabin_close_lem n ns (RabinBehind.group (suc m)) p = p

rabin_and_lem : (n : ℕ) (ns : List ℕ) (b : RabinBehind) → RabinPast n ns b → RabinAhead 8 n ns (rabin_and b)
rabin_and_lem n ns RabinBehind.lost p = tt
rabin_and_lem n ns (RabinBehind.pair m b d) p = p
rabin_and_lem n ns (RabinBehind.group m) p = tt

rabin_or_lem : (n : ℕ) (ns : List ℕ) (b : RabinBehind) → RabinPast n ns b → RabinAhead 8 n ns (rabin_or b)
rabin_or_lem n ns RabinBehind.lost p = tt
rabin_or_lem n ns (RabinBehind.pair m b zero) p = (p.few, p.all)
rabin_or_lem n ns (RabinBehind.pair m b (suc d)) p = tt
rabin_or_lem n ns (RabinBehind.group m) p = (p.few, p.all)

-- a limit that was kept is kept further on
rabin_wide : (n : ℕ) (ns : List ℕ) (w : RabinWants) → RabinAhead 7 n ns w → RabinAhead 8 n ns w
rabin_wide n ns RabinWants.lost p = tt
rabin_wide n ns (RabinWants.fin m b) p = (omega (arith, p.0), p.1)
rabin_wide n ns (RabinWants.inf m b d) p = p

-- "`|` that opens pair 9" is refused
rabin_limited : (n : ℕ) (ns : List ℕ) (w : RabinWants) → (leb 8 (length ns) && opens_pair w) ≡ false → RabinAhead 8 n ns w → RabinAhead 7 n ns w
rabin_limited n ns RabinWants.lost e p = tt
rabin_limited n ns (RabinWants.fin m b) e p = (omega (arith, leb-false 8 (length ns) (left_false (leb 8 (length ns)) e)), p.1)
  where
    left_false : (a : Bool) → (a && true) ≡ false → a ≡ false
    left_false true e = e
    left_false false e = refl
rabin_limited n ns (RabinWants.inf m b d) e p = p

-- ---- the other machines

streett_open_lem : (c : ℕ) (w : StreettWants) → StreettAhead c w → StreettAhead c (streett_open w)
streett_open_lem c StreettWants.lost p = tt
streett_open_lem c (StreettWants.fin m u) p = p
streett_open_lem c (StreettWants.inf m v) p = p

streett_inf_lem : (c : ℕ) (w : StreettWants) → StreettAhead c w → StreettPast c (streett_inf w)
streett_inf_lem c StreettWants.lost p = tt
streett_inf_lem c (StreettWants.fin m u) p = tt
streett_inf_lem c (StreettWants.inf m v) p = p

streett_fin_lem : (c : ℕ) (w : StreettWants) → StreettAhead c w → StreettPast c (streett_fin w)
streett_fin_lem c StreettWants.lost p = tt
streett_fin_lem c (StreettWants.fin m zero) p = tt
streett_fin_lem c (StreettWants.fin zero (suc u)) p = tt
streett_fin_lem c (StreettWants.fin (suc m) (suc u)) p = p
streett_fin_lem c (StreettWants.inf m v) p = tt

streett_close_lem : (c : ℕ) (b : StreettBehind) → StreettPast c b → StreettPast c (streett_close b)
streett_close_lem c StreettBehind.lost p = tt
streett_close_lem c (StreettBehind.fin m zero) p = tt
streett_close_lem c (StreettBehind.fin zero (suc u)) p = tt
streett_close_lem c (StreettBehind.fin (suc m) (suc u)) p = p
streett_close_lem c (StreettBehind.inf m zero) p = p
streett_close_lem c (StreettBehind.inf m (suc v)) p = p
streett_close_lem c (StreettBehind.pair zero) p = tt
streett_close_lem c (StreettBehind.pair (suc m)) p = p

streett_and_lem : (c : ℕ) (b : StreettBehind) → StreettPast c b → StreettAhead c (streett_and b)
streett_and_lem c StreettBehind.lost p = tt
streett_and_lem c (StreettBehind.fin m u) p = tt
streett_and_lem c (StreettBehind.inf m v) p = tt
streett_and_lem c (StreettBehind.pair m) p = p

streett_or_lem : (c : ℕ) (b : StreettBehind) → StreettPast c b → StreettAhead c (streett_or b)
streett_or_lem c StreettBehind.lost p = tt
streett_or_lem c (StreettBehind.fin m u) p = p
streett_or_lem c (StreettBehind.inf m v) p = tt
streett_or_lem c (StreettBehind.pair m) p = tt

bare_open_lem : (c : ℕ) (b : Bare) → BareFor c b → BareFor c (bare_open b)
bare_open_lem c Bare.lost p = tt
bare_open_lem c (Bare.fin x) p = p
bare_open_lem c (Bare.inf x) p = p

bare_inf_lem : (c : ℕ) (b : Bare) → BareFor c b → BareFor c (bare_inf b)
bare_inf_lem c Bare.lost p = tt
bare_inf_lem c (Bare.fin x) p = tt
bare_inf_lem c (Bare.inf x) p = p

bare_fin_lem : (c : ℕ) (b : Bare) → BareFor c b → BareFor c (bare_fin b)
bare_fin_lem c Bare.lost p = tt
bare_fin_lem c (Bare.fin x) p = p
bare_fin_lem c (Bare.inf x) p = tt

bare_close_lem : (c : ℕ) (b : Bare) → BareFor c b → BareFor c (bare_close b)
bare_close_lem c Bare.lost p = tt
bare_close_lem c (Bare.fin zero) p = tt
bare_close_lem c (Bare.fin (suc x)) p = p
bare_close_lem c (Bare.inf zero) p = tt
bare_close_lem c (Bare.inf (suc x)) p = p

bare_or_lem : (c : ℕ) (b : Bare) → BareFor c b → BareFor c (bare_or b)
bare_or_lem c Bare.lost p = tt
bare_or_lem c (Bare.fin zero) p = p
bare_or_lem c (Bare.fin (suc x)) p = tt
bare_or_lem c (Bare.inf x) p = tt

truth_open_lem : (c : ℕ) (w : TruthWants) → TruthAhead c w → TruthAhead c (truth_open w)
truth_open_lem c TruthWants.lost p = tt
truth_open_lem c (TruthWants.live d) p = p

truth_is_lem : (c : ℕ) (x : Bool) (w : TruthWants) → TruthAhead c w → TruthPast c (truth_is x w)
truth_is_lem c x TruthWants.lost p = tt
truth_is_lem c x (TruthWants.live d) p = p

truth_close_lem : (c : ℕ) (b : TruthBehind) → TruthPast c b → TruthPast c (truth_close b)
truth_close_lem c TruthBehind.lost p = tt
truth_close_lem c (TruthBehind.is x zero) p = tt
truth_close_lem c (TruthBehind.is x (suc d)) p = p

-- ---- side by side

module _ (c n : ℕ) (ns : List ℕ) where
  ahead_open : (w : Wants) → Ahead 7 c n ns w → Ahead 8 c n ns (wants_open w)
  ahead_open w A =
      record {
        rabin = rabin_open_lem 8 n ns w.rabin (rabin_wide n ns w.rabin A.rabin);
        streett = streett_open_lem c w.streett A.streett;
        bare = bare_open_lem c w.bare A.bare;
        truth = truth_open_lem c w.truth A.truth;
      }

  past_inf : (w : Wants) → Ahead 7 c n ns w → Past c (suc n) (needs_inf w.rabin ns) (wants_inf w)
  past_inf w A = record { rabin = rabin_inf_lem n ns w.rabin A.rabin; streett = streett_inf_lem c w.streett A.streett; bare = bare_inf_lem c w.bare A.bare; truth = tt }

  past_fin : (w : Wants) → Ahead 7 c n ns w → Past c (suc n) (needs_fin w.rabin ns) (wants_fin w)
  past_fin w A = record { rabin = rabin_fin_lem n ns w.rabin A.rabin; streett = streett_fin_lem c w.streett A.streett; bare = bare_fin_lem c w.bare A.bare; truth = tt }

  past_truth : (x : Bool) (w : Wants) → Ahead 7 c n ns w → Past c n ns (wants_truth x w)
  past_truth x w A = record { rabin = tt; streett = tt; bare = tt; truth = truth_is_lem c x w.truth A.truth }

  past_close : (b : Behind) → Past c n ns b → Past c n ns (behind_close b)
  past_close b P =
      record {
        rabin = rabin_close_lem n ns b.rabin P.rabin;
        streett = streett_close_lem c b.streett P.streett;
        bare = bare_close_lem c b.bare P.bare;
        truth = truth_close_lem c b.truth P.truth;
      }

  ahead_and : (b : Behind) → Past c n ns b → Ahead 8 c n ns (behind_and b)
  ahead_and b P = record { rabin = rabin_and_lem n ns b.rabin P.rabin; streett = streett_and_lem c b.streett P.streett; bare = tt; truth = tt }

  ahead_or : (b : Behind) → Past c n ns b → Ahead 8 c n ns (behind_or b)
  ahead_or b P = record { rabin = rabin_or_lem n ns b.rabin P.rabin; streett = streett_or_lem c b.streett P.streett; bare = bare_or_lem c b.bare P.bare; truth = tt }

-- ---- what it means

-- the needs of the pairs, in their order, and others behind them: the pairs have dealt out their marks
dealt_pairs : (ns zs : List ℕ) → dealt (reverse ns ++ zs) (length ns) ≡ dealt_to ns
dealt_pairs [] zs = refl
dealt_pairs (n ∷ ns) zs =
    let e : reverse (n ∷ ns) ++ zs ≡ reverse ns ++ (n ∷ zs) = ap (λ (xs : List ℕ). xs ++ zs) (reverse-cons n ns) ∙ append_assoc (reverse ns) (n ∷ []) zs in
    ap (λ (xs : List ℕ). dealt xs (suc (length ns))) e
    ∙ omega (arith, dealt_pairs ns (n ∷ zs), get_or_at (reverse ns) n zs 0 (length ns) (length-reverse ns))

none_needed : (k : ℕ) → some_need (replicate k 0) ≡ false
none_needed zero = refl
none_needed (suc k) = none_needed k

rabin_meant : (c : ℕ) (ns : List ℕ) → length ns ≤ 8 → dealt_to ns ≡ c → Meant c (rabin_meaning ns)
unfolding eight_needs
rabin_meant c ns few all small =
    let zs = replicate {A = ℕ} (most_pairs - length ns) 0 in
    let dealt-all : dealt (reverse ns ++ zs) (length ns) ≡ c = dealt_pairs ns zs ∙ all in
    let rest : some_need (drop (length ns) (reverse ns ++ zs)) ≡ false =
    ap some_need (drop_at (reverse ns) zs (length ns) (length-reverse ns)) ∙ none_needed (most_pairs - length ns) in
    (rw (le-ltb 8 (length ns) few, rest, dealt-all, le-ltb 32 c small), dealt-all)

by_cond : (c : ℕ) (b : Bool) (x y : FormulaMeaning) → (b ≡ true → Meant c x) → (b ≡ false → Meant c y) → Meant c (cond b x y)
by_cond c true x y f g = f refl
by_cond c false x y f g = g refl

rabin_done_lem : (c : ℕ) (ns : List ℕ) (b : RabinBehind) → rabin_done b ≡ true → RabinPast c ns b → Pairs c ns
rabin_done_lem c ns RabinBehind.lost e p = absurd (true≢false (sym e))
rabin_done_lem c ns (RabinBehind.pair m b d) e p = p
rabin_done_lem c ns (RabinBehind.group m) e p = p

-- half of an even number, twice
even : (c : ℕ) → c % 2 ≡ 0 → 2 * (c / 2) ≡ c
even c e = omega arith

streett_meant : (c : ℕ) → c % 2 ≡ 0 → Meant c (standard (acceptance.Streett (c / 2)) no_needs)
streett_meant c e small = (le-ltb 16 (c / 2) (omega arith), even c e)

streett_done_lem : (c : ℕ) (s : StreettBehind) (b : Bare) → (streett_done s || bare_done b) ≡ true → StreettPast c s → BareFor c b → c % 2 ≡ 0
streett_done_lem c (StreettBehind.pair m) b e p q = p
streett_done_lem c (StreettBehind.fin m u) b e p q = p
streett_done_lem c (StreettBehind.inf m v) b e p q = p
streett_done_lem c StreettBehind.lost (Bare.fin x) e p q = ap (λ (k : ℕ). k % 2) q
streett_done_lem c StreettBehind.lost (Bare.inf x) e p q = ap (λ (k : ℕ). k % 2) q
streett_done_lem c StreettBehind.lost Bare.lost e p q = absurd (true≢false (sym e))

truth_meant : (c : ℕ) (b : TruthBehind) → TruthPast c b → Meant c (truth_done b)
truth_meant c TruthBehind.lost p = tt
truth_meant c (TruthBehind.is true zero) p = λ small. (refl, sym p)
truth_meant c (TruthBehind.is false zero) p = λ small. (refl, sym p)
truth_meant c (TruthBehind.is true (suc d)) p = tt
truth_meant c (TruthBehind.is false (suc d)) p = tt

module _ (c n : ℕ) (ns : List ℕ) (b : Behind) (few : n ≤ c) (P : Past c n ns b) where
  meant : Meant c (meaning_of c n ns b)
  unfolding meaning_of
  meant =
      by_cond c (ltb n c) _ _ (λ t. tt)
      (λ t.
      let e : n ≡ c = omega (arith, ltb-false n c t) in
      by_cond c (buchi_done b.buchi) _ _ (λ t. λ small. (le-ltb 32 c small, refl))
      (λ t.
      by_cond c (rabin_done b.rabin) _ _ (λ t. let pairs = rabin_done_lem n ns b.rabin t P.rabin in rabin_meant c ns pairs.few (pairs.all ∙ e))
      (λ t.
      by_cond c (streett_done b.streett || bare_done b.bare) _ _
      (λ t. streett_meant c (streett_done_lem c b.streett b.bare t P.streett P.bare))
      (λ t. truth_meant c b.truth P.truth))))

-- ---- one token

module _ (c d n : ℕ) (ns : List ℕ) (few : n ≤ c) where
  wants_kept : (w : Wants) → Ahead 8 c n ns w → (e : ℕ) → Keeps 8 c (go_wants e n ns w)
  wants_kept w A e = if_so (some_wants w) 8 c 41 _ (λ t. record { atoms_few = few; stands = A })

  named_kept : (ms : List ℕ) (b : Behind) → Past c (suc n) ms b → Keeps 8 c (go_named c d n ms b)
  named_kept ms b P =
      if_so (ltb n c && some_behind b) 8 c 41 _ (λ t. record { atoms_few = omega (arith, ltb-true n c (first (ltb n c) (some_behind b) t)); stands = P })

  after_kept : (b : Behind) → Past c n ns b → (e : ℕ) → Keeps 8 c (go_after e n ns b)
  after_kept b P e = if_so (some_behind b) 8 c 41 _ (λ t. record { atoms_few = few; stands = P })

  on_operand_lem : (w : Wants) → Ahead 7 c n ns w → (p : Piece) → Keeps 8 c (on_operand c d n ns w p)
  on_operand_lem w A piece_is.Left = wants_kept (wants_open w) (ahead_open c n ns w A) (suc d)
  on_operand_lem w A piece_is.Right = tt
  on_operand_lem w A piece_is.And = tt
  on_operand_lem w A piece_is.Or = tt
  on_operand_lem w A piece_is.Not = tt
  on_operand_lem w A piece_is.Inf = named_kept (needs_inf w.rabin ns) (wants_inf w) (past_inf c n ns w A)
  on_operand_lem w A piece_is.Fin = named_kept (needs_fin w.rabin ns) (wants_fin w) (past_fin c n ns w A)
  on_operand_lem w A (piece_is.Truth x) = after_kept (wants_truth x w) (past_truth c n ns x w A) d
  on_operand_lem w A piece_is.Name = tt
  on_operand_lem w A (piece_is.Number k) = tt
  on_operand_lem w A piece_is.Abort = tt
  on_operand_lem w A piece_is.Foreign = tt

  module _ (b : Behind) (P : Past c n ns b) where
    on_named_lem : (p : Piece) → Keeps 8 c (on_named d n ns b p)
    on_named_lem piece_is.Left = record { atoms_few = few; stands = P }
    on_named_lem piece_is.Right = tt
    on_named_lem piece_is.And = tt
    on_named_lem piece_is.Or = tt
    on_named_lem piece_is.Not = tt
    on_named_lem piece_is.Inf = tt
    on_named_lem piece_is.Fin = tt
    on_named_lem (piece_is.Truth x) = tt
    on_named_lem piece_is.Name = tt
    on_named_lem (piece_is.Number k) = tt
    on_named_lem piece_is.Abort = tt
    on_named_lem piece_is.Foreign = tt

    on_bracket_lem : (p : Piece) → Keeps 8 c (on_bracket d n ns b p)
    on_bracket_lem piece_is.Left = tt
    on_bracket_lem piece_is.Right = tt
    on_bracket_lem piece_is.And = tt
    on_bracket_lem piece_is.Or = tt
    on_bracket_lem piece_is.Not = tt
    on_bracket_lem piece_is.Inf = tt
    on_bracket_lem piece_is.Fin = tt
    on_bracket_lem (piece_is.Truth x) = tt
    on_bracket_lem piece_is.Name = tt
    on_bracket_lem (piece_is.Number k) = if_so (eqb (suc k) n) 8 c 41 _ (λ t. record { atoms_few = few; stands = P })
    on_bracket_lem piece_is.Abort = tt
    on_bracket_lem piece_is.Foreign = tt

    on_number_lem : (p : Piece) → Keeps 8 c (on_number d n ns b p)
    on_number_lem piece_is.Left = tt
    on_number_lem piece_is.Right = record { atoms_few = few; stands = P }
    on_number_lem piece_is.And = tt
    on_number_lem piece_is.Or = tt
    on_number_lem piece_is.Not = tt
    on_number_lem piece_is.Inf = tt
    on_number_lem piece_is.Fin = tt
    on_number_lem (piece_is.Truth x) = tt
    on_number_lem piece_is.Name = tt
    on_number_lem (piece_is.Number k) = tt
    on_number_lem piece_is.Abort = tt
    on_number_lem piece_is.Foreign = tt

    ends_kept : (e k : ℕ) → Keeps 8 c (ends e (meaning_of c n ns b) k)
    ends_kept zero k = meant c n ns b few P
    ends_kept (suc e) k = tt

    closes_kept : (e : ℕ) → Keeps 8 c (closes c e n ns b)
    closes_kept zero = meant c n ns b few P
    closes_kept (suc e) = after_kept (behind_close b) (past_close c n ns b P) e

    on_after_lem : (p : Piece) → Keeps 8 c (on_after c d n ns b p)
    on_after_lem piece_is.Left = ends_kept d 40
    on_after_lem piece_is.Right = closes_kept d
    on_after_lem piece_is.And = if_so (ltb n c) 8 c 41 _ (λ t. wants_kept (behind_and b) (ahead_and c n ns b P) d)
    on_after_lem piece_is.Or = if_so (ltb n c) 8 c 41 _ (λ t. wants_kept (behind_or b) (ahead_or c n ns b P) d)
    on_after_lem piece_is.Not = ends_kept d 40
    on_after_lem piece_is.Inf = ends_kept d 40
    on_after_lem piece_is.Fin = ends_kept d 40
    on_after_lem (piece_is.Truth x) = ends_kept d 40
    on_after_lem piece_is.Name = ends_kept d 40
    on_after_lem (piece_is.Number k) = ends_kept d 40
    on_after_lem piece_is.Abort = ends_kept d 41
    on_after_lem piece_is.Foreign = ends_kept d 40

  on_stage_lem : (g : Stage) → AtStage 7 c n ns g → (p : Piece) → Keeps 8 c (on_stage c d n ns g p)
  on_stage_lem (operand w) A p = on_operand_lem w A p
  on_stage_lem (named b) P p = on_named_lem b P p
  on_stage_lem (bracket b) P p = on_bracket_lem b P p
  on_stage_lem (number b) P p = on_number_lem b P p
  on_stage_lem (after b) P p = on_after_lem b P p

-- the limit of pairs
stage_limited : (c n : ℕ) (ns : List ℕ) (g : Stage) → too_many (length ns) g ≡ false → AtStage 8 c n ns g → AtStage 7 c n ns g
stage_limited c n ns (operand w) e A = record { rabin = rabin_limited n ns w.rabin e A.rabin; streett = A.streett; bare = A.bare; truth = A.truth }
stage_limited c n ns (named b) e P = P
stage_limited c n ns (bracket b) e P = P
stage_limited c n ns (number b) e P = P
stage_limited c n ns (after b) e P = P

limited_kept : (c : ℕ) (s : FormulaStep) → Keeps 8 c s → Keeps 7 c (limited s)
limited_kept c (go s) F = by (too_many (length s.needs) s.stage) refl
  where
    by : (b : Bool) → too_many (length s.needs) s.stage ≡ b → Keeps 7 c (cond b (wrong 42) (go s))
    by true e = tt
    by false e = record { atoms_few = F.atoms_few; stands = stage_limited c s.atoms s.needs s.stage e F.stands }
limited_kept c (over m) M = M
limited_kept c (wrong k) u = tt

-- one token keeps the formula formed, or what it means is a permitted condition
pub formula_kept : (c : ℕ) (s : FormulaState) (t : Token) → Formed 7 c s → Keeps 7 c (formula_step c s t)
unfolding formula_step free_step
formula_kept c s t F = limited_kept c (free_step c s t) (on_stage_lem c s.depth s.atoms s.needs F.atoms_few s.stage F.stands (piece_of t))

-- before the first token
pub formula_begins : (c : ℕ) → Formed 7 c (formula_begin c)
unfolding formula_begin
formula_begins c =
    record {
      atoms_few = omega arith;
      stands = record { rabin = (omega arith, refl); streett = streett_begins (eqb (c % 2) 0) refl; bare = bare_begins (eqb c 2) refl; truth = truth_begins (eqb c 0) refl };
    }
  where
    streett_begins : (b : Bool) → eqb (c % 2) 0 ≡ b → StreettAhead c (cond b (StreettWants.fin 0 0) StreettWants.lost)
    streett_begins true e = eqb-true (c % 2) 0 e
    streett_begins false e = tt

    bare_begins : (b : Bool) → eqb c 2 ≡ b → BareFor c (cond b (Bare.fin 0) Bare.lost)
    bare_begins true e = eqb-true c 2 e
    bare_begins false e = tt

    truth_begins : (b : Bool) → eqb c 0 ≡ b → TruthAhead c (cond b (TruthWants.live 0) TruthWants.lost)
    truth_begins true e = eqb-true c 0 e
    truth_begins false e = tt
