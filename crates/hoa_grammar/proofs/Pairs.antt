-- The pairs of a formula: within the limit no token is refused for it, and a token that is refused for it stands in a formula of nine pairs or more. Where the
-- ninth pair opens no other machine goes on (`Alone`, `Opening`). Assumes nothing.
use mathlib.Core.Bool.{Bool, true, false, cond, ◌&&◌}
use mathlib.Core.List.{List, [], ◌∷◌}
use mathlib.Core.Path.{◌≡◌, refl, sym, subst}
use Prim.Native.Nat.{ℕ, zero, suc, ◌≤◌, ◌<◌}
use native.Mathlib.Omega.{arith}
use borrow.Author.Tests.{leb-false}
use lib.Dec.{eqb, ltb, leb}
use lib.ListN.{length}
use Rattle.hoa_tokens.specs.Token.{Token}
use Rattle.hoa_standard.specs.declared.Piece.{Piece}
use Rattle.hoa_standard.specs.declared.Piece.TheVariants as piece_is
use Rattle.hoa_standard.specs.Standard.{FormulaMeaning, most_pairs}
use Rattle.hoa_standard.specs.Machines.{
  Buchi,
  RabinWants,
  RabinBehind,
  StreettWants,
  StreettBehind,
  Bare,
  TruthWants,
  TruthBehind,
  Wants,
  Behind,
  wants_open,
  wants_inf,
  wants_fin,
  wants_truth,
  behind_close,
  behind_and,
  behind_or,
  some_wants,
  some_behind,
  rabin_open,
  rabin_inf,
  rabin_fin,
  rabin_close,
  rabin_and,
  rabin_or,
  streett_open,
  streett_fin,
  streett_close,
  streett_and,
  streett_or,
  bare_open,
  bare_fin,
  bare_close,
  bare_or,
}
use Rattle.hoa_standard.specs.Formulas as formulas
use Rattle.hoa_standard.specs.Formulas.{
  FormulaState,
  FormulaStep,
  go,
  over,
  wrong,
  Stage,
  operand,
  named,
  bracket,
  number,
  after,
  state,
  needs_inf,
  needs_fin,
  on_operand,
  on_named,
  on_bracket,
  on_number,
  on_after,
  on_stage,
  ends,
  closes,
  free_step,
  opens_pair,
  too_many,
  meaning_of,
}

-- ---- what holds wherever a step goes

abbrev pub Wherever : (FormulaState → Type 0) → FormulaStep → Type 0
Wherever P (go s) = P s
Wherever P (over m) = Unit {0}
Wherever P (wrong k) = Unit {0}

module _ (P : FormulaState → Type 0) where
  tested : (t : Bool) (s : FormulaState) → P s → Wherever P (cond t (go s) (wrong 41))
  tested true s h = h
  tested false s h = tt

  tested_twice : (t u : Bool) (s : FormulaState) → P s → Wherever P (cond t (cond u (go s) (wrong 41)) (wrong 41))
  tested_twice true u s h = tested u s h
  tested_twice false u s h = tt

  at_end : (d : ℕ) (m : FormulaMeaning) (k : ℕ) → Wherever P (ends d m k)
  at_end zero m k = tt
  at_end (suc d) m k = tt

-- ---- what stands beside the Rabin machine

-- behind an operand: a Streett pair or a bare pair has at most its Fin, and then one pair is open
abbrev pub FinAtMost : ℕ → StreettBehind → Type 0
FinAtMost n StreettBehind.lost = Unit {0}
FinAtMost n (StreettBehind.fin m u) = n ≤ 1
FinAtMost n (StreettBehind.inf m v) = ⊥
FinAtMost n (StreettBehind.pair m) = ⊥

abbrev pub BareFin : ℕ → Bare → Type 0
BareFin n Bare.lost = Unit {0}
BareFin n (Bare.fin x) = n ≤ 1
BareFin n (Bare.inf x) = ⊥

-- where the next pair opens: a Streett pair or a bare pair wants its Inf, and then one pair was read
abbrev pub InfAtMost : ℕ → StreettWants → Type 0
InfAtMost n StreettWants.lost = Unit {0}
InfAtMost n (StreettWants.fin m u) = ⊥
InfAtMost n (StreettWants.inf m v) = n ≤ 1

abbrev pub BareInf : ℕ → Bare → Type 0
BareInf n Bare.lost = Unit {0}
BareInf n (Bare.fin x) = ⊥
BareInf n (Bare.inf x) = n ≤ 1

-- behind an operand with n pairs so far
pub record Alone (n : ℕ) (b : Behind) : Type 0 where
  pub some : 1 ≤ n
  pub buchi_lost : b.buchi ≡ Buchi.lost
  pub truth_lost : b.truth ≡ TruthBehind.lost
  pub streett_fin_lem : FinAtMost n b.streett
  pub bare_fin_lem : BareFin n b.bare

-- where a pair opens, behind n pairs
pub record Opening (n : ℕ) (w : Wants) : Type 0 where
  pub buchi_lost : w.buchi ≡ Buchi.lost
  pub truth_lost : w.truth ≡ TruthWants.lost
  pub streett_inf_lem : InfAtMost n w.streett
  pub bare_inf_lem : BareInf n w.bare

-- where a needed mark is wanted
pub record Needing (n : ℕ) (w : Wants) : Type 0 where
  pub some : 1 ≤ n
  pub buchi_lost : w.buchi ≡ Buchi.lost
  pub truth_lost : w.truth ≡ TruthWants.lost
  pub streett_lost : w.streett ≡ StreettWants.lost
  pub bare_lost : w.bare ≡ Bare.lost

abbrev pub BesideBehind : ℕ → RabinBehind → Behind → Type 0
BesideBehind n RabinBehind.lost b = Unit {0}
BesideBehind n (RabinBehind.pair m p d) b = Alone n b
BesideBehind n (RabinBehind.group m) b = Alone n b

abbrev pub BesideWants : ℕ → RabinWants → Wants → Type 0
BesideWants n RabinWants.lost w = Unit {0}
BesideWants n (RabinWants.fin m p) w = 0 < n → Opening n w
BesideWants n (RabinWants.inf m p d) w = Needing n w

abbrev pub BesideStage : ℕ → Stage → Type 0
BesideStage n (operand w) = BesideWants n w.rabin w
BesideStage n (named b) = BesideBehind n b.rabin b
BesideStage n (bracket b) = BesideBehind n b.rabin b
BesideStage n (number b) = BesideBehind n b.rabin b
BesideStage n (after b) = BesideBehind n b.rabin b

abbrev pub Beside : FormulaState → Type 0
Beside s = BesideStage (length s.needs) s.stage

-- ---- each token keeps it

open_streett : (n : ℕ) (s : StreettWants) → InfAtMost n s → InfAtMost n (streett_open s)
open_streett n StreettWants.lost h = tt
open_streett n (StreettWants.fin m u) h = h
open_streett n (StreettWants.inf m v) h = h

open_bare : (n : ℕ) (x : Bare) → BareInf n x → BareInf n (bare_open x)
open_bare n Bare.lost h = tt
open_bare n (Bare.fin x) h = h
open_bare n (Bare.inf x) h = h

open_beside : (n : ℕ) (r : RabinWants) (w : Wants) → BesideWants n r w → BesideWants n (rabin_open r) (wants_open w)
open_beside n RabinWants.lost w h = tt
open_beside n (RabinWants.fin m p) w h = λ z.
    let o = h z in
    record {
      buchi_lost = rw o.buchi_lost refl;
      truth_lost = rw o.truth_lost refl;
      streett_inf_lem = open_streett n w.streett o.streett_inf_lem;
      bare_inf_lem = open_bare n w.bare o.bare_inf_lem;
    }
open_beside n (RabinWants.inf m p d) w h =
    record {
      some = h.some;
      buchi_lost = rw h.buchi_lost refl;
      truth_lost = rw h.truth_lost refl;
      streett_lost = rw h.streett_lost refl;
      bare_lost = rw h.bare_lost refl;
    }

fin_streett : (n : ℕ) (s : StreettWants) → (0 < n → InfAtMost n s) → FinAtMost (suc n) (streett_fin s)
fin_streett n StreettWants.lost h = tt
fin_streett n (StreettWants.fin m zero) h = tt
fin_streett n (StreettWants.fin zero (suc u)) h = tt
fin_streett zero (StreettWants.fin (suc m) (suc u)) h = omega arith
fin_streett (suc n) (StreettWants.fin (suc m) (suc u)) h = absurd (h (omega arith))
fin_streett n (StreettWants.inf m v) h = tt

fin_bare : (n : ℕ) (x : Bare) → (0 < n → BareInf n x) → BareFin (suc n) (bare_fin x)
fin_bare n Bare.lost h = tt
fin_bare zero (Bare.fin x) h = omega arith
fin_bare (suc n) (Bare.fin x) h = absurd (h (omega arith))
fin_bare n (Bare.inf x) h = tt

fin_beside : (ns : List ℕ) (r : RabinWants) (w : Wants) → BesideWants (length ns) r w → BesideBehind (length (needs_fin r ns)) (rabin_fin r) (wants_fin w)
fin_beside ns RabinWants.lost w h = tt
fin_beside ns (RabinWants.fin m p) w h =
    record {
      some = omega arith;
      buchi_lost = refl;
      truth_lost = refl;
      streett_fin_lem = fin_streett (length ns) w.streett (λ z. (h z).streett_inf_lem);
      bare_fin_lem = fin_bare (length ns) w.bare (λ z. (h z).bare_inf_lem);
    }
fin_beside ns (RabinWants.inf m p d) w h = tt

same_needs : (r : RabinWants) (ns : List ℕ) → length (needs_inf r ns) ≡ length ns
same_needs RabinWants.lost ns = refl
same_needs (RabinWants.fin m p) ns = refl
same_needs (RabinWants.inf m p d) [] = refl
same_needs (RabinWants.inf m p d) (n ∷ ns) = refl

inf_beside : (n : ℕ) (r : RabinWants) (w : Wants) → BesideWants n r w → BesideBehind n (rabin_inf r) (wants_inf w)
inf_beside n RabinWants.lost w h = tt
inf_beside n (RabinWants.fin m p) w h = tt
inf_beside n (RabinWants.inf m p d) w h =
    record {
      some = h.some;
      buchi_lost = h.buchi_lost;
      truth_lost = refl;
      streett_fin_lem = rw h.streett_lost tt;
      bare_fin_lem = rw h.bare_lost tt;
    }

close_streett : (n : ℕ) (s : StreettBehind) → FinAtMost n s → FinAtMost n (streett_close s)
close_streett n StreettBehind.lost h = tt
close_streett n (StreettBehind.fin m zero) h = tt
close_streett n (StreettBehind.fin zero (suc u)) h = tt
close_streett n (StreettBehind.fin (suc m) (suc u)) h = h
close_streett n (StreettBehind.inf m v) h = absurd h
close_streett n (StreettBehind.pair m) h = absurd h

close_bare : (n : ℕ) (x : Bare) → BareFin n x → BareFin n (bare_close x)
close_bare n Bare.lost h = tt
close_bare n (Bare.fin zero) h = tt
close_bare n (Bare.fin (suc x)) h = h
close_bare n (Bare.inf x) h = absurd h

close_alone : (n : ℕ) (b : Behind) → Alone n b → Alone n (behind_close b)
close_alone n b h =
    record {
      some = h.some;
      buchi_lost = rw h.buchi_lost refl;
      truth_lost = rw h.truth_lost refl;
      streett_fin_lem = close_streett n b.streett h.streett_fin_lem;
      bare_fin_lem = close_bare n b.bare h.bare_fin_lem;
    }

close_beside : (n : ℕ) (r : RabinBehind) (b : Behind) → BesideBehind n r b → BesideBehind n (rabin_close r) (behind_close b)
close_beside n RabinBehind.lost b h = tt
close_beside n (RabinBehind.pair m p (suc d)) b h = close_alone n b h
close_beside n (RabinBehind.pair zero p zero) b h = tt
close_beside n (RabinBehind.pair (suc m) zero zero) b h = close_alone n b h
close_beside n (RabinBehind.pair (suc m) (suc p) zero) b h = close_alone n b h
close_beside n (RabinBehind.group zero) b h = tt
close_beside n (RabinBehind.group (suc m)) b h = close_alone n b h

and_streett : (n : ℕ) (s : StreettBehind) → FinAtMost n s → streett_and s ≡ StreettWants.lost
and_streett n StreettBehind.lost h = refl
and_streett n (StreettBehind.fin m u) h = refl
and_streett n (StreettBehind.inf m v) h = absurd h
and_streett n (StreettBehind.pair m) h = absurd h

and_beside : (n : ℕ) (r : RabinBehind) (b : Behind) → BesideBehind n r b → BesideWants n (rabin_and r) (behind_and b)
and_beside n RabinBehind.lost b h = tt
and_beside n (RabinBehind.pair m p d) b h =
    record { some = h.some; buchi_lost = h.buchi_lost; truth_lost = refl; streett_lost = and_streett n b.streett h.streett_fin_lem; bare_lost = refl }
and_beside n (RabinBehind.group m) b h = tt

or_streett_lem : (n : ℕ) (s : StreettBehind) → FinAtMost n s → InfAtMost n (streett_or s)
or_streett_lem n StreettBehind.lost h = tt
or_streett_lem n (StreettBehind.fin m u) h = h
or_streett_lem n (StreettBehind.inf m v) h = absurd h
or_streett_lem n (StreettBehind.pair m) h = absurd h

or_bare_lem : (n : ℕ) (x : Bare) → BareFin n x → BareInf n (bare_or x)
or_bare_lem n Bare.lost h = tt
or_bare_lem n (Bare.fin zero) h = h
or_bare_lem n (Bare.fin (suc x)) h = tt
or_bare_lem n (Bare.inf x) h = absurd h

or_opening : (n : ℕ) (b : Behind) → Alone n b → Opening n (behind_or b)
or_opening n b h =
    record { buchi_lost = refl; truth_lost = refl; streett_inf_lem = or_streett_lem n b.streett h.streett_fin_lem; bare_inf_lem = or_bare_lem n b.bare h.bare_fin_lem }

or_beside : (n : ℕ) (r : RabinBehind) (b : Behind) → BesideBehind n r b → BesideWants n (rabin_or r) (behind_or b)
or_beside n RabinBehind.lost b h = tt
or_beside n (RabinBehind.pair m p zero) b h = λ z. or_opening n b h
or_beside n (RabinBehind.pair m p (suc d)) b h = tt
or_beside n (RabinBehind.group m) b h = λ z. or_opening n b h

module _ (c d n : ℕ) (ns : List ℕ) where
  operand_beside : (w : Wants) (p : Piece) → BesideWants (length ns) w.rabin w → Wherever Beside (on_operand c d n ns w p)
  operand_beside w piece_is.Left h = tested Beside (some_wants (wants_open w)) (state (suc d) n ns (operand (wants_open w))) (open_beside (length ns) w.rabin w h)
  operand_beside w piece_is.Right h = tt
  operand_beside w piece_is.And h = tt
  operand_beside w piece_is.Or h = tt
  operand_beside w piece_is.Not h = tt
  operand_beside w piece_is.Inf h =
      tested Beside (ltb n c && some_behind (wants_inf w)) (state d (suc n) (needs_inf w.rabin ns) (named (wants_inf w)))
      (subst (λ (k : ℕ). BesideBehind k (rabin_inf w.rabin) (wants_inf w)) (sym (same_needs w.rabin ns)) (inf_beside (length ns) w.rabin w h))
  operand_beside w piece_is.Fin h =
      tested Beside (ltb n c && some_behind (wants_fin w)) (state d (suc n) (needs_fin w.rabin ns) (named (wants_fin w))) (fin_beside ns w.rabin w h)
  operand_beside w (piece_is.Truth x) h = tested Beside (some_behind (wants_truth x w)) (state d n ns (after (wants_truth x w))) tt
  operand_beside w piece_is.Name h = tt
  operand_beside w (piece_is.Number k) h = tt
  operand_beside w piece_is.Abort h = tt
  operand_beside w piece_is.Foreign h = tt

  named_beside : (b : Behind) (p : Piece) → BesideBehind (length ns) b.rabin b → Wherever Beside (on_named d n ns b p)
  named_beside b piece_is.Left h = h
  named_beside b piece_is.Right h = tt
  named_beside b piece_is.And h = tt
  named_beside b piece_is.Or h = tt
  named_beside b piece_is.Not h = tt
  named_beside b piece_is.Inf h = tt
  named_beside b piece_is.Fin h = tt
  named_beside b (piece_is.Truth x) h = tt
  named_beside b piece_is.Name h = tt
  named_beside b (piece_is.Number k) h = tt
  named_beside b piece_is.Abort h = tt
  named_beside b piece_is.Foreign h = tt

  bracket_beside : (b : Behind) (p : Piece) → BesideBehind (length ns) b.rabin b → Wherever Beside (on_bracket d n ns b p)
  bracket_beside b piece_is.Left h = tt
  bracket_beside b piece_is.Right h = tt
  bracket_beside b piece_is.And h = tt
  bracket_beside b piece_is.Or h = tt
  bracket_beside b piece_is.Not h = tt
  bracket_beside b piece_is.Inf h = tt
  bracket_beside b piece_is.Fin h = tt
  bracket_beside b (piece_is.Truth x) h = tt
  bracket_beside b piece_is.Name h = tt
  bracket_beside b (piece_is.Number k) h = tested Beside (eqb (suc k) n) (state d n ns (number b)) h
  bracket_beside b piece_is.Abort h = tt
  bracket_beside b piece_is.Foreign h = tt

  number_beside : (b : Behind) (p : Piece) → BesideBehind (length ns) b.rabin b → Wherever Beside (on_number d n ns b p)
  number_beside b piece_is.Left h = tt
  number_beside b piece_is.Right h = h
  number_beside b piece_is.And h = tt
  number_beside b piece_is.Or h = tt
  number_beside b piece_is.Not h = tt
  number_beside b piece_is.Inf h = tt
  number_beside b piece_is.Fin h = tt
  number_beside b (piece_is.Truth x) h = tt
  number_beside b piece_is.Name h = tt
  number_beside b (piece_is.Number k) h = tt
  number_beside b piece_is.Abort h = tt
  number_beside b piece_is.Foreign h = tt

  closes_beside : (b : Behind) (k : ℕ) → BesideBehind (length ns) b.rabin b → Wherever Beside (closes c k n ns b)
  closes_beside b zero h = tt
  closes_beside b (suc k) h = tested Beside (some_behind (behind_close b)) (state k n ns (after (behind_close b))) (close_beside (length ns) b.rabin b h)

  after_beside : (b : Behind) (p : Piece) → BesideBehind (length ns) b.rabin b → Wherever Beside (on_after c d n ns b p)
  after_beside b piece_is.Left h = at_end Beside d (meaning_of c n ns b) 40
  after_beside b piece_is.Right h = closes_beside b d h
  after_beside b piece_is.And h =
      tested_twice Beside (ltb n c) (some_wants (behind_and b)) (state d n ns (operand (behind_and b))) (and_beside (length ns) b.rabin b h)
  after_beside b piece_is.Or h =
      tested_twice Beside (ltb n c) (some_wants (behind_or b)) (state d n ns (operand (behind_or b))) (or_beside (length ns) b.rabin b h)
  after_beside b piece_is.Not h = at_end Beside d (meaning_of c n ns b) 40
  after_beside b piece_is.Inf h = at_end Beside d (meaning_of c n ns b) 40
  after_beside b piece_is.Fin h = at_end Beside d (meaning_of c n ns b) 40
  after_beside b (piece_is.Truth x) h = at_end Beside d (meaning_of c n ns b) 40
  after_beside b piece_is.Name h = at_end Beside d (meaning_of c n ns b) 40
  after_beside b (piece_is.Number k) h = at_end Beside d (meaning_of c n ns b) 40
  after_beside b piece_is.Abort h = at_end Beside d (meaning_of c n ns b) 41
  after_beside b piece_is.Foreign h = at_end Beside d (meaning_of c n ns b) 40

  stage_beside : (g : Stage) (p : Piece) → BesideStage (length ns) g → Wherever Beside (on_stage c d n ns g p)
  stage_beside (operand w) p h = operand_beside w p h
  stage_beside (named b) p h = named_beside b p h
  stage_beside (bracket b) p h = bracket_beside b p h
  stage_beside (number b) p h = number_beside b p h
  stage_beside (after b) p h = after_beside b p h

-- what stands beside the Rabin machine, from token to token
pub step_beside : (c : ℕ) (s : FormulaState) (t : Token) → Beside s → Wherever Beside (free_step c s t)
unfolding free_step
step_beside c s t h = stage_beside c s.depth s.atoms s.needs s.stage (formulas.piece_of t) h

-- ---- nine pairs

-- only the Rabin machine can go on
pub record OnlyWants (w : Wants) : Type 0 where
  pub buchi_lost : w.buchi ≡ Buchi.lost
  pub truth_lost : w.truth ≡ TruthWants.lost
  pub streett_lost : w.streett ≡ StreettWants.lost
  pub bare_lost : w.bare ≡ Bare.lost

pub record OnlyBehind (b : Behind) : Type 0 where
  pub buchi_lost : b.buchi ≡ Buchi.lost
  pub truth_lost : b.truth ≡ TruthBehind.lost
  pub streett_lost : b.streett ≡ StreettBehind.lost
  pub bare_lost : b.bare ≡ Bare.lost

-- nine pairs, or eight and one that opens
abbrev pub NineWants : ℕ → RabinWants → Type 0
NineWants n RabinWants.lost = Unit {0}
NineWants n (RabinWants.fin m p) = most_pairs ≤ n
NineWants n (RabinWants.inf m p d) = most_pairs < n

abbrev pub NineBehind : ℕ → RabinBehind → Type 0
NineBehind n RabinBehind.lost = Unit {0}
NineBehind n (RabinBehind.pair m p d) = most_pairs < n
NineBehind n (RabinBehind.group m) = most_pairs < n

abbrev pub NineStage : ℕ → Stage → Type 0
NineStage n (operand w) = OnlyWants w × NineWants n w.rabin
NineStage n (named b) = OnlyBehind b × NineBehind n b.rabin
NineStage n (bracket b) = OnlyBehind b × NineBehind n b.rabin
NineStage n (number b) = OnlyBehind b × NineBehind n b.rabin
NineStage n (after b) = OnlyBehind b × NineBehind n b.rabin

abbrev pub Nine : FormulaState → Type 0
Nine s = NineStage (length s.needs) s.stage

only_open : (w : Wants) → OnlyWants w → OnlyWants (wants_open w)
only_open w h =
    record { buchi_lost = rw h.buchi_lost refl; truth_lost = rw h.truth_lost refl; streett_lost = rw h.streett_lost refl; bare_lost = rw h.bare_lost refl }

only_inf : (w : Wants) → OnlyWants w → OnlyBehind (wants_inf w)
only_inf w h = record { buchi_lost = h.buchi_lost; truth_lost = refl; streett_lost = rw h.streett_lost refl; bare_lost = rw h.bare_lost refl }

only_fin : (w : Wants) → OnlyWants w → OnlyBehind (wants_fin w)
only_fin w h = record { buchi_lost = refl; truth_lost = refl; streett_lost = rw h.streett_lost refl; bare_lost = rw h.bare_lost refl }

only_truth : (x : Bool) (w : Wants) → OnlyWants w → OnlyBehind (wants_truth x w)
only_truth x w h = record { buchi_lost = refl; truth_lost = rw h.truth_lost refl; streett_lost = refl; bare_lost = refl }

only_close : (b : Behind) → OnlyBehind b → OnlyBehind (behind_close b)
only_close b h =
    record { buchi_lost = rw h.buchi_lost refl; truth_lost = rw h.truth_lost refl; streett_lost = rw h.streett_lost refl; bare_lost = rw h.bare_lost refl }

only_and : (b : Behind) → OnlyBehind b → OnlyWants (behind_and b)
only_and b h = record { buchi_lost = h.buchi_lost; truth_lost = refl; streett_lost = rw h.streett_lost refl; bare_lost = refl }

only_or : (b : Behind) → OnlyBehind b → OnlyWants (behind_or b)
only_or b h = record { buchi_lost = refl; truth_lost = refl; streett_lost = rw h.streett_lost refl; bare_lost = rw h.bare_lost refl }

nine_open : (n : ℕ) (r : RabinWants) → NineWants n r → NineWants n (rabin_open r)
nine_open n RabinWants.lost h = tt
nine_open n (RabinWants.fin m p) h = h
nine_open n (RabinWants.inf m p d) h = h

nine_inf : (n : ℕ) (r : RabinWants) → NineWants n r → NineBehind n (rabin_inf r)
nine_inf n RabinWants.lost h = tt
nine_inf n (RabinWants.fin m p) h = tt
nine_inf n (RabinWants.inf m p d) h = h

nine_fin : (ns : List ℕ) (r : RabinWants) → NineWants (length ns) r → NineBehind (length (needs_fin r ns)) (rabin_fin r)
nine_fin ns RabinWants.lost h = tt
nine_fin ns (RabinWants.fin m p) h = omega arith
nine_fin ns (RabinWants.inf m p d) h = tt

nine_close : (n : ℕ) (r : RabinBehind) → NineBehind n r → NineBehind n (rabin_close r)
nine_close n RabinBehind.lost h = tt
nine_close n (RabinBehind.pair m p (suc d)) h = h
nine_close n (RabinBehind.pair zero p zero) h = tt
nine_close n (RabinBehind.pair (suc m) zero zero) h = h
nine_close n (RabinBehind.pair (suc m) (suc p) zero) h = h
nine_close n (RabinBehind.group zero) h = tt
nine_close n (RabinBehind.group (suc m)) h = h

nine_and : (n : ℕ) (r : RabinBehind) → NineBehind n r → NineWants n (rabin_and r)
nine_and n RabinBehind.lost h = tt
nine_and n (RabinBehind.pair m p d) h = h
nine_and n (RabinBehind.group m) h = tt

nine_or : (n : ℕ) (r : RabinBehind) → NineBehind n r → NineWants n (rabin_or r)
nine_or n RabinBehind.lost h = tt
nine_or n (RabinBehind.pair m p zero) h = omega arith
nine_or n (RabinBehind.pair m p (suc d)) h = tt
nine_or n (RabinBehind.group m) h = omega arith

module _ (c d n : ℕ) (ns : List ℕ) where
  operand_nine : (w : Wants) (p : Piece) → NineStage (length ns) (operand w) → Wherever Nine (on_operand c d n ns w p)
  operand_nine w piece_is.Left h =
      tested Nine (some_wants (wants_open w)) (state (suc d) n ns (operand (wants_open w))) (only_open w h.0, nine_open (length ns) w.rabin h.1)
  operand_nine w piece_is.Right h = tt
  operand_nine w piece_is.And h = tt
  operand_nine w piece_is.Or h = tt
  operand_nine w piece_is.Not h = tt
  operand_nine w piece_is.Inf h =
      tested Nine (ltb n c && some_behind (wants_inf w)) (state d (suc n) (needs_inf w.rabin ns) (named (wants_inf w)))
      (only_inf w h.0, subst (λ (k : ℕ). NineBehind k (rabin_inf w.rabin)) (sym (same_needs w.rabin ns)) (nine_inf (length ns) w.rabin h.1))
  operand_nine w piece_is.Fin h =
      tested Nine (ltb n c && some_behind (wants_fin w)) (state d (suc n) (needs_fin w.rabin ns) (named (wants_fin w))) (only_fin w h.0, nine_fin ns w.rabin h.1)
  operand_nine w (piece_is.Truth x) h = tested Nine (some_behind (wants_truth x w)) (state d n ns (after (wants_truth x w))) (only_truth x w h.0, tt)
  operand_nine w piece_is.Name h = tt
  operand_nine w (piece_is.Number k) h = tt
  operand_nine w piece_is.Abort h = tt
  operand_nine w piece_is.Foreign h = tt

  named_nine : (b : Behind) (p : Piece) → NineStage (length ns) (named b) → Wherever Nine (on_named d n ns b p)
  named_nine b piece_is.Left h = h
  named_nine b piece_is.Right h = tt
  named_nine b piece_is.And h = tt
  named_nine b piece_is.Or h = tt
  named_nine b piece_is.Not h = tt
  named_nine b piece_is.Inf h = tt
  named_nine b piece_is.Fin h = tt
  named_nine b (piece_is.Truth x) h = tt
  named_nine b piece_is.Name h = tt
  named_nine b (piece_is.Number k) h = tt
  named_nine b piece_is.Abort h = tt
  named_nine b piece_is.Foreign h = tt

  bracket_nine : (b : Behind) (p : Piece) → NineStage (length ns) (bracket b) → Wherever Nine (on_bracket d n ns b p)
  bracket_nine b piece_is.Left h = tt
  bracket_nine b piece_is.Right h = tt
  bracket_nine b piece_is.And h = tt
  bracket_nine b piece_is.Or h = tt
  bracket_nine b piece_is.Not h = tt
  bracket_nine b piece_is.Inf h = tt
  bracket_nine b piece_is.Fin h = tt
  bracket_nine b (piece_is.Truth x) h = tt
  bracket_nine b piece_is.Name h = tt
  bracket_nine b (piece_is.Number k) h = tested Nine (eqb (suc k) n) (state d n ns (number b)) h
  bracket_nine b piece_is.Abort h = tt
  bracket_nine b piece_is.Foreign h = tt

  number_nine : (b : Behind) (p : Piece) → NineStage (length ns) (number b) → Wherever Nine (on_number d n ns b p)
  number_nine b piece_is.Left h = tt
  number_nine b piece_is.Right h = h
  number_nine b piece_is.And h = tt
  number_nine b piece_is.Or h = tt
  number_nine b piece_is.Not h = tt
  number_nine b piece_is.Inf h = tt
  number_nine b piece_is.Fin h = tt
  number_nine b (piece_is.Truth x) h = tt
  number_nine b piece_is.Name h = tt
  number_nine b (piece_is.Number k) h = tt
  number_nine b piece_is.Abort h = tt
  number_nine b piece_is.Foreign h = tt

  closes_nine : (b : Behind) (k : ℕ) → NineStage (length ns) (after b) → Wherever Nine (closes c k n ns b)
  closes_nine b zero h = tt
  closes_nine b (suc k) h = tested Nine (some_behind (behind_close b)) (state k n ns (after (behind_close b))) (only_close b h.0, nine_close (length ns) b.rabin h.1)

  after_nine : (b : Behind) (p : Piece) → NineStage (length ns) (after b) → Wherever Nine (on_after c d n ns b p)
  after_nine b piece_is.Left h = at_end Nine d (meaning_of c n ns b) 40
  after_nine b piece_is.Right h = closes_nine b d h
  after_nine b piece_is.And h =
      tested_twice Nine (ltb n c) (some_wants (behind_and b)) (state d n ns (operand (behind_and b))) (only_and b h.0, nine_and (length ns) b.rabin h.1)
  after_nine b piece_is.Or h =
      tested_twice Nine (ltb n c) (some_wants (behind_or b)) (state d n ns (operand (behind_or b))) (only_or b h.0, nine_or (length ns) b.rabin h.1)
  after_nine b piece_is.Not h = at_end Nine d (meaning_of c n ns b) 40
  after_nine b piece_is.Inf h = at_end Nine d (meaning_of c n ns b) 40
  after_nine b piece_is.Fin h = at_end Nine d (meaning_of c n ns b) 40
  after_nine b (piece_is.Truth x) h = at_end Nine d (meaning_of c n ns b) 40
  after_nine b piece_is.Name h = at_end Nine d (meaning_of c n ns b) 40
  after_nine b (piece_is.Number k) h = at_end Nine d (meaning_of c n ns b) 40
  after_nine b piece_is.Abort h = at_end Nine d (meaning_of c n ns b) 41
  after_nine b piece_is.Foreign h = at_end Nine d (meaning_of c n ns b) 40

  stage_nine : (g : Stage) (p : Piece) → NineStage (length ns) g → Wherever Nine (on_stage c d n ns g p)
  stage_nine (operand w) p h = operand_nine w p h
  stage_nine (named b) p h = named_nine b p h
  stage_nine (bracket b) p h = bracket_nine b p h
  stage_nine (number b) p h = number_nine b p h
  stage_nine (after b) p h = after_nine b p h

pub step_nine : (c : ℕ) (s : FormulaState) (t : Token) → Nine s → Wherever Nine (free_step c s t)
unfolding free_step
step_nine c s t h = stage_nine c s.depth s.atoms s.needs s.stage (formulas.piece_of t) h

-- ---- at most eight pairs

-- at most eight pairs, and no ninth opens
abbrev pub Eight : FormulaState → Type 0
Eight s = (length s.needs ≤ most_pairs) × (too_many (length s.needs) s.stage ≡ false)

abbrev pub Few : FormulaState → Type 0
Few s = length s.needs ≤ most_pairs

few_fin : (ns : List ℕ) (w : Wants) (r : RabinWants) → w.rabin ≡ r → length ns ≤ most_pairs → leb most_pairs (length ns) && opens_pair r ≡ false → length (needs_fin r ns) ≤ most_pairs
few_fin ns w RabinWants.lost q h k = h
few_fin ns w (RabinWants.fin m p) q h k = leb-false most_pairs (length ns) (not_opens (leb most_pairs (length ns)) k)
  where
    not_opens : (x : Bool) → x && true ≡ false → x ≡ false
    not_opens true e = e
    not_opens false e = refl
few_fin ns w (RabinWants.inf m p d) q h k = h

module _ (c d n : ℕ) (ns : List ℕ) (h : length ns ≤ most_pairs) where
  operand_few : (w : Wants) (p : Piece) → leb most_pairs (length ns) && opens_pair w.rabin ≡ false → Wherever Few (on_operand c d n ns w p)
  operand_few w piece_is.Left k = tested Few (some_wants (wants_open w)) (state (suc d) n ns (operand (wants_open w))) h
  operand_few w piece_is.Right k = tt
  operand_few w piece_is.And k = tt
  operand_few w piece_is.Or k = tt
  operand_few w piece_is.Not k = tt
  operand_few w piece_is.Inf k =
      tested Few (ltb n c && some_behind (wants_inf w)) (state d (suc n) (needs_inf w.rabin ns) (named (wants_inf w))) (omega (arith, same_needs w.rabin ns))
  operand_few w piece_is.Fin k =
      tested Few (ltb n c && some_behind (wants_fin w)) (state d (suc n) (needs_fin w.rabin ns) (named (wants_fin w))) (few_fin ns w w.rabin refl h k)
  operand_few w (piece_is.Truth x) k = tested Few (some_behind (wants_truth x w)) (state d n ns (after (wants_truth x w))) h
  operand_few w piece_is.Name k = tt
  operand_few w (piece_is.Number i) k = tt
  operand_few w piece_is.Abort k = tt
  operand_few w piece_is.Foreign k = tt

  named_few : (b : Behind) (p : Piece) → Wherever Few (on_named d n ns b p)
  named_few b piece_is.Left = h
  named_few b piece_is.Right = tt
  named_few b piece_is.And = tt
  named_few b piece_is.Or = tt
  named_few b piece_is.Not = tt
  named_few b piece_is.Inf = tt
  named_few b piece_is.Fin = tt
  named_few b (piece_is.Truth x) = tt
  named_few b piece_is.Name = tt
  named_few b (piece_is.Number k) = tt
  named_few b piece_is.Abort = tt
  named_few b piece_is.Foreign = tt

  bracket_few : (b : Behind) (p : Piece) → Wherever Few (on_bracket d n ns b p)
  bracket_few b piece_is.Left = tt
  bracket_few b piece_is.Right = tt
  bracket_few b piece_is.And = tt
  bracket_few b piece_is.Or = tt
  bracket_few b piece_is.Not = tt
  bracket_few b piece_is.Inf = tt
  bracket_few b piece_is.Fin = tt
  bracket_few b (piece_is.Truth x) = tt
  bracket_few b piece_is.Name = tt
  bracket_few b (piece_is.Number k) = tested Few (eqb (suc k) n) (state d n ns (number b)) h
  bracket_few b piece_is.Abort = tt
  bracket_few b piece_is.Foreign = tt

  number_few : (b : Behind) (p : Piece) → Wherever Few (on_number d n ns b p)
  number_few b piece_is.Left = tt
  number_few b piece_is.Right = h
  number_few b piece_is.And = tt
  number_few b piece_is.Or = tt
  number_few b piece_is.Not = tt
  number_few b piece_is.Inf = tt
  number_few b piece_is.Fin = tt
  number_few b (piece_is.Truth x) = tt
  number_few b piece_is.Name = tt
  number_few b (piece_is.Number k) = tt
  number_few b piece_is.Abort = tt
  number_few b piece_is.Foreign = tt

  closes_few : (b : Behind) (k : ℕ) → Wherever Few (closes c k n ns b)
  closes_few b zero = tt
  closes_few b (suc k) = tested Few (some_behind (behind_close b)) (state k n ns (after (behind_close b))) h

  after_few : (b : Behind) (p : Piece) → Wherever Few (on_after c d n ns b p)
  after_few b piece_is.Left = at_end Few d (meaning_of c n ns b) 40
  after_few b piece_is.Right = closes_few b d
  after_few b piece_is.And = tested_twice Few (ltb n c) (some_wants (behind_and b)) (state d n ns (operand (behind_and b))) h
  after_few b piece_is.Or = tested_twice Few (ltb n c) (some_wants (behind_or b)) (state d n ns (operand (behind_or b))) h
  after_few b piece_is.Not = at_end Few d (meaning_of c n ns b) 40
  after_few b piece_is.Inf = at_end Few d (meaning_of c n ns b) 40
  after_few b piece_is.Fin = at_end Few d (meaning_of c n ns b) 40
  after_few b (piece_is.Truth x) = at_end Few d (meaning_of c n ns b) 40
  after_few b piece_is.Name = at_end Few d (meaning_of c n ns b) 40
  after_few b (piece_is.Number k) = at_end Few d (meaning_of c n ns b) 40
  after_few b piece_is.Abort = at_end Few d (meaning_of c n ns b) 41
  after_few b piece_is.Foreign = at_end Few d (meaning_of c n ns b) 40

  stage_few : (g : Stage) (p : Piece) → too_many (length ns) g ≡ false → Wherever Few (on_stage c d n ns g p)
  stage_few (operand w) p k = operand_few w p k
  stage_few (named b) p k = named_few b p
  stage_few (bracket b) p k = bracket_few b p
  stage_few (number b) p k = number_few b p
  stage_few (after b) p k = after_few b p

pub step_few : (c : ℕ) (s : FormulaState) (t : Token) → Eight s → Wherever Few (free_step c s t)
unfolding free_step
step_few c s t h = stage_few c s.depth s.atoms s.needs h.0 s.stage (formulas.piece_of t) h.1
