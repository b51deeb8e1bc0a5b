-- The cases that the reader keeps go on as the four machines do (`open_is` to `or_is`), so that its turn is the admission of a token (`turn_is`).
-- Assumes nothing.
use mathlib.Core.Bool.{Bool, true, false, cond, not, ◌&&◌}
use mathlib.Core.List.{List}
use mathlib.Core.Path.{◌≡◌, refl, ap, ◌∙◌}
use Prim.Native.Nat.{ℕ, zero, suc, ◌%◌}
use lib.Dec.{eqb, ltb, leb}
use lib.ListN.{length}
use Rattle.hoa_standard.specs.declared.Piece.{Piece}
use Rattle.hoa_standard.specs.declared.Piece.TheVariants as piece_is
use Rattle.hoa_standard.specs.declared.Ahead.{Ahead}
use Rattle.hoa_standard.specs.declared.Ahead.TheVariants as ahead_kinds
use Rattle.hoa_standard.specs.declared.Past.{Past}
use Rattle.hoa_standard.specs.declared.Past.TheVariants as past_kinds
use Rattle.hoa_turn.specs.declared.step.Stage.{Stage}
use Rattle.hoa_turn.specs.declared.step.Stage.TheVariants as stage_is
use Rattle.hoa_turn.specs.declared.step.Formula.{Formula}
use Rattle.hoa_turn.specs.declared.step.Turn.TheVariants as turn_is
use Rattle.hoa_standard.specs.Standard.{FormulaMeaning, short, most_pairs}
use Rattle.hoa_standard.specs.Machines.{Buchi, RabinWants, RabinBehind, StreettWants, StreettBehind, Bare, TruthWants, TruthBehind, Wants, Behind}
use Rattle.hoa_standard.specs.Machines.{wants_open, wants_inf, wants_fin, wants_truth, behind_close, behind_and, behind_or, some_wants, some_behind}
use Rattle.hoa_standard.specs.Formulas as formulas
use Rattle.hoa_standard.specs.Formulas.{go, wrong, state, needs_inf, needs_fin, opens_pair, limited, meaning_of, piece_of, free_step, formula_step}
use Rattle.hoa_tokens.specs.Token.{Token}
use Rattle.hoa_standard.specs.inner.Sides.{wants, behind, if_even, if_two, first_streett, or_streett, or_bare, ahead_is, past_is}
use Rattle.hoa_standard.specs.inner.Sides.{opened_to, inf_to, fin_to, truth_to, closed_to, and_to, or_to, is_lost_ahead, is_lost_past}
use Rattle.hoa_turn.specs.inner.Turns as turns
use Rattle.hoa_turn.specs.inner.Turns.{stage_of, state_of, turn_of, formula, opens_pair_ahead, go_ahead, go_named, go_past, turn_at}

-- ---- the machines side by side

open_start : (d : ℕ) (e t z : Bool)
    → wants_open
    (wants (Buchi.live d) (RabinWants.fin d d) (cond e (StreettWants.fin d d) StreettWants.lost) (cond t (Bare.fin d) Bare.lost) (cond z (TruthWants.live d) TruthWants.lost))
    ≡ wants (Buchi.live (suc d)) (RabinWants.fin (suc d) (suc d)) (cond e (StreettWants.fin (suc d) (suc d)) StreettWants.lost) (cond t (Bare.fin (suc d)) Bare.lost)
    (cond z (TruthWants.live (suc d)) TruthWants.lost)
open_start d true true true = refl
open_start d true true false = refl
open_start d true false true = refl
open_start d true false false = refl
open_start d false true true = refl
open_start d false true false = refl
open_start d false false true = refl
open_start d false false false = refl

open_or : (m v o : ℕ) (e t : Bool)
    → wants_open (wants Buchi.lost (RabinWants.fin m v) (cond e (or_streett o v) StreettWants.lost) (cond t (or_bare o v) Bare.lost) TruthWants.lost)
    ≡ wants Buchi.lost (RabinWants.fin (suc m) (suc v)) (cond e (or_streett o (suc v)) StreettWants.lost) (cond t (or_bare o (suc v)) Bare.lost) TruthWants.lost
open_or m v zero true true = refl
open_or m v zero true false = refl
open_or m v zero false true = refl
open_or m v zero false false = refl
open_or m v (suc o) true true = refl
open_or m v (suc o) true false = refl
open_or m v (suc o) false true = refl
open_or m v (suc o) false false = refl

pub open_is : (c : ℕ) (a : Ahead) → wants_open (ahead_is c a) ≡ ahead_is c (opened_to a)
open_is c ahead_kinds.Lost = refl
open_is c (ahead_kinds.Start d) = open_start d (eqb (c % 2) 0) (eqb c 2) (eqb c 0)
open_is c (ahead_kinds.FirstOr o m v) = open_or m v o (eqb (c % 2) 0) (eqb c 2)
open_is c (ahead_kinds.Buchi d) = refl
open_is c (ahead_kinds.RabinFin m b) = refl
open_is c (ahead_kinds.RabinInf m b d) = refl
open_is c (ahead_kinds.StreettFin m u) = refl
open_is c (ahead_kinds.StreettInf m v) = refl

inf_start : (d : ℕ) (e t : Bool) (z : TruthWants)
    → wants_inf (wants (Buchi.live d) (RabinWants.fin d d) (cond e (StreettWants.fin d d) StreettWants.lost) (cond t (Bare.fin d) Bare.lost) z)
    ≡ behind (Buchi.live d) RabinBehind.lost StreettBehind.lost Bare.lost TruthBehind.lost
inf_start d true true z = refl
inf_start d true false z = refl
inf_start d false true z = refl
inf_start d false false z = refl

inf_bare : (c m v : ℕ) (e t : Bool)
    → wants_inf (wants Buchi.lost (RabinWants.fin m v) (cond e StreettWants.lost StreettWants.lost) (cond t (Bare.inf v) Bare.lost) TruthWants.lost)
    ≡ past_is c (cond t (past_kinds.Bare v) past_kinds.Lost)
inf_bare c m v true true = refl
inf_bare c m v true false = refl
inf_bare c m v false true = refl
inf_bare c m v false false = refl

inf_streett : (c m v o : ℕ) (e t : Bool)
    → wants_inf (wants Buchi.lost (RabinWants.fin m v) (cond e (StreettWants.inf o v) StreettWants.lost) (cond t Bare.lost Bare.lost) TruthWants.lost)
    ≡ past_is c (cond e (past_kinds.StreettInf o v) past_kinds.Lost)
inf_streett c m v o true true = refl
inf_streett c m v o true false = refl
inf_streett c m v o false true = refl
inf_streett c m v o false false = refl

pub inf_is : (c : ℕ) (a : Ahead) → wants_inf (ahead_is c a) ≡ past_is c (inf_to c a)
inf_is c ahead_kinds.Lost = refl
inf_is c (ahead_kinds.Start d) = inf_start d (eqb (c % 2) 0) (eqb c 2) (cond (eqb c 0) (TruthWants.live d) TruthWants.lost)
inf_is c (ahead_kinds.FirstOr zero m v) = inf_bare c m v (eqb (c % 2) 0) (eqb c 2)
inf_is c (ahead_kinds.FirstOr (suc o) m v) = inf_streett c m v o (eqb (c % 2) 0) (eqb c 2)
inf_is c (ahead_kinds.Buchi d) = refl
inf_is c (ahead_kinds.RabinFin m b) = refl
inf_is c (ahead_kinds.RabinInf m b d) = refl
inf_is c (ahead_kinds.StreettFin m u) = refl
inf_is c (ahead_kinds.StreettInf m v) = refl

fin_start : (d : ℕ) (e t : Bool) (z : TruthWants)
    → wants_fin (wants (Buchi.live d) (RabinWants.fin d d) (cond e (StreettWants.fin d d) StreettWants.lost) (cond t (Bare.fin d) Bare.lost) z)
    ≡ behind Buchi.lost (RabinBehind.pair d d 0) (cond e (first_streett d) StreettBehind.lost) (cond t (Bare.fin d) Bare.lost) TruthBehind.lost
fin_start zero true true z = refl
fin_start zero true false z = refl
fin_start zero false true z = refl
fin_start zero false false z = refl
fin_start (suc d) true true z = refl
fin_start (suc d) true false z = refl
fin_start (suc d) false true z = refl
fin_start (suc d) false false z = refl

fin_or : (m v o : ℕ) (e t : Bool)
    → wants_fin (wants Buchi.lost (RabinWants.fin m v) (cond e (or_streett o v) StreettWants.lost) (cond t (or_bare o v) Bare.lost) TruthWants.lost)
    ≡ behind Buchi.lost (RabinBehind.pair m v 0) StreettBehind.lost Bare.lost TruthBehind.lost
fin_or m v zero true true = refl
fin_or m v zero true false = refl
fin_or m v zero false true = refl
fin_or m v zero false false = refl
fin_or m v (suc o) true true = refl
fin_or m v (suc o) true false = refl
fin_or m v (suc o) false true = refl
fin_or m v (suc o) false false = refl

pub fin_is : (c : ℕ) (a : Ahead) → wants_fin (ahead_is c a) ≡ past_is c (fin_to a)
fin_is c ahead_kinds.Lost = refl
fin_is c (ahead_kinds.Start d) = fin_start d (eqb (c % 2) 0) (eqb c 2) (cond (eqb c 0) (TruthWants.live d) TruthWants.lost)
fin_is c (ahead_kinds.FirstOr o m v) = fin_or m v o (eqb (c % 2) 0) (eqb c 2)
fin_is c (ahead_kinds.Buchi d) = refl
fin_is c (ahead_kinds.RabinFin m b) = refl
fin_is c (ahead_kinds.RabinInf m b d) = refl
fin_is c (ahead_kinds.StreettFin m zero) = refl
fin_is c (ahead_kinds.StreettFin zero (suc u)) = refl
fin_is c (ahead_kinds.StreettFin (suc m) (suc u)) = refl
fin_is c (ahead_kinds.StreettInf m v) = refl

truth_start : (c d : ℕ) (x : Bool) (s : StreettWants) (p : Bare) (z : Bool)
    → wants_truth x (wants (Buchi.live d) (RabinWants.fin d d) s p (cond z (TruthWants.live d) TruthWants.lost))
    ≡ past_is c (cond z (past_kinds.Truth x d) past_kinds.Lost)
truth_start c d x s p true = refl
truth_start c d x s p false = refl

pub truth_is_lem : (c : ℕ) (x : Bool) (a : Ahead) → wants_truth x (ahead_is c a) ≡ past_is c (truth_to c x a)
truth_is_lem c x ahead_kinds.Lost = refl
truth_is_lem c x (ahead_kinds.Start d) = truth_start c d x (if_even c (StreettWants.fin d d) StreettWants.lost) (if_two c (Bare.fin d) Bare.lost) (eqb c 0)
truth_is_lem c x (ahead_kinds.FirstOr o m v) = refl
truth_is_lem c x (ahead_kinds.Buchi d) = refl
truth_is_lem c x (ahead_kinds.RabinFin m b) = refl
truth_is_lem c x (ahead_kinds.RabinInf m b d) = refl
truth_is_lem c x (ahead_kinds.StreettFin m u) = refl
truth_is_lem c x (ahead_kinds.StreettInf m v) = refl

close_none : (e t : Bool)
    → behind_close (behind Buchi.lost (RabinBehind.pair 0 0 0) (cond e StreettBehind.lost StreettBehind.lost) (cond t (Bare.fin 0) Bare.lost) TruthBehind.lost)
    ≡ behind Buchi.lost RabinBehind.lost StreettBehind.lost Bare.lost TruthBehind.lost
close_none true true = refl
close_none true false = refl
close_none false true = refl
close_none false false = refl

close_some : (d : ℕ) (e t : Bool)
    → behind_close
    (behind Buchi.lost (RabinBehind.pair (suc d) (suc d) 0) (cond e (StreettBehind.fin d d) StreettBehind.lost) (cond t (Bare.fin (suc d)) Bare.lost) TruthBehind.lost)
    ≡ behind Buchi.lost (RabinBehind.pair d d 0) (cond e (first_streett d) StreettBehind.lost) (cond t (Bare.fin d) Bare.lost) TruthBehind.lost
close_some zero true true = refl
close_some zero true false = refl
close_some zero false true = refl
close_some zero false false = refl
close_some (suc d) true true = refl
close_some (suc d) true false = refl
close_some (suc d) false true = refl
close_some (suc d) false false = refl

pub close_is : (c : ℕ) (p : Past) → behind_close (past_is c p) ≡ past_is c (closed_to p)
close_is c past_kinds.Lost = refl
close_is c (past_kinds.Truth b zero) = refl
close_is c (past_kinds.Truth b (suc x)) = refl
close_is c (past_kinds.Buchi zero) = refl
close_is c (past_kinds.Buchi (suc x)) = refl
close_is c (past_kinds.FirstFin zero) = close_none (eqb (c % 2) 0) (eqb c 2)
close_is c (past_kinds.FirstFin (suc d)) = close_some d (eqb (c % 2) 0) (eqb c 2)
close_is c (past_kinds.RabinPair m b (suc d)) = refl
close_is c (past_kinds.RabinPair zero b zero) = refl
close_is c (past_kinds.RabinPair (suc m) zero zero) = refl
close_is c (past_kinds.RabinPair (suc m) (suc b) zero) = refl
close_is c (past_kinds.RabinGroup zero) = refl
close_is c (past_kinds.RabinGroup (suc x)) = refl
close_is c (past_kinds.StreettFin m zero) = refl
close_is c (past_kinds.StreettFin zero (suc u)) = refl
close_is c (past_kinds.StreettFin (suc m) (suc u)) = refl
close_is c (past_kinds.StreettInf m zero) = refl
close_is c (past_kinds.StreettInf m (suc x)) = refl
close_is c (past_kinds.StreettPair zero) = refl
close_is c (past_kinds.StreettPair (suc x)) = refl
close_is c (past_kinds.Bare zero) = refl
close_is c (past_kinds.Bare (suc x)) = refl

and_first : (d : ℕ) (e : Bool) (p : Bare)
    → behind_and (behind Buchi.lost (RabinBehind.pair d d 0) (cond e (first_streett d) StreettBehind.lost) p TruthBehind.lost)
    ≡ wants Buchi.lost (RabinWants.inf d d 0) StreettWants.lost Bare.lost TruthWants.lost
and_first zero true p = refl
and_first zero false p = refl
and_first (suc d) true p = refl
and_first (suc d) false p = refl

pub and_is : (c : ℕ) (p : Past) → behind_and (past_is c p) ≡ ahead_is c (and_to p)
and_is c past_kinds.Lost = refl
and_is c (past_kinds.Truth b d) = refl
and_is c (past_kinds.Buchi d) = refl
and_is c (past_kinds.FirstFin d) = and_first d (eqb (c % 2) 0) (if_two c (Bare.fin d) Bare.lost)
and_is c (past_kinds.RabinPair m b d) = refl
and_is c (past_kinds.RabinGroup m) = refl
and_is c (past_kinds.StreettFin m u) = refl
and_is c (past_kinds.StreettInf m v) = refl
and_is c (past_kinds.StreettPair m) = refl
and_is c (past_kinds.Bare x) = refl

or_first : (d : ℕ) (e t : Bool)
    → behind_or (behind Buchi.lost (RabinBehind.pair d d 0) (cond e (first_streett d) StreettBehind.lost) (cond t (Bare.fin d) Bare.lost) TruthBehind.lost)
    ≡ wants Buchi.lost (RabinWants.fin d 0) (cond e (or_streett d 0) StreettWants.lost) (cond t (or_bare d 0) Bare.lost) TruthWants.lost
or_first zero true true = refl
or_first zero true false = refl
or_first zero false true = refl
or_first zero false false = refl
or_first (suc d) true true = refl
or_first (suc d) true false = refl
or_first (suc d) false true = refl
or_first (suc d) false false = refl

pub or_is : (c : ℕ) (p : Past) → behind_or (past_is c p) ≡ ahead_is c (or_to p)
or_is c past_kinds.Lost = refl
or_is c (past_kinds.Truth b d) = refl
or_is c (past_kinds.Buchi d) = refl
or_is c (past_kinds.FirstFin d) = or_first d (eqb (c % 2) 0) (eqb c 2)
or_is c (past_kinds.RabinPair m b zero) = refl
or_is c (past_kinds.RabinPair m b (suc x)) = refl
or_is c (past_kinds.RabinGroup m) = refl
or_is c (past_kinds.StreettFin m u) = refl
or_is c (past_kinds.StreettInf m v) = refl
or_is c (past_kinds.StreettPair m) = refl
or_is c (past_kinds.Bare x) = refl

-- ---- some machine goes on

pub some_ahead : (c : ℕ) (a : Ahead) → some_wants (ahead_is c a) ≡ not (is_lost_ahead a)
some_ahead c ahead_kinds.Lost = refl
some_ahead c (ahead_kinds.Start d) = refl
some_ahead c (ahead_kinds.FirstOr o m v) = refl
some_ahead c (ahead_kinds.Buchi d) = refl
some_ahead c (ahead_kinds.RabinFin m b) = refl
some_ahead c (ahead_kinds.RabinInf m b d) = refl
some_ahead c (ahead_kinds.StreettFin m u) = refl
some_ahead c (ahead_kinds.StreettInf m v) = refl

pub some_past : (c : ℕ) (p : Past) → some_behind (past_is c p) ≡ not (is_lost_past p)
some_past c past_kinds.Lost = refl
some_past c (past_kinds.Truth b d) = refl
some_past c (past_kinds.Buchi d) = refl
some_past c (past_kinds.FirstFin d) = refl
some_past c (past_kinds.RabinPair m b d) = refl
some_past c (past_kinds.RabinGroup m) = refl
some_past c (past_kinds.StreettFin m u) = refl
some_past c (past_kinds.StreettInf m v) = refl
some_past c (past_kinds.StreettPair m) = refl
some_past c (past_kinds.Bare x) = refl

pub opens_is : (c : ℕ) (a : Ahead) → opens_pair (ahead_is c a).rabin ≡ opens_pair_ahead a
opens_is c ahead_kinds.Lost = refl
opens_is c (ahead_kinds.Start d) = refl
opens_is c (ahead_kinds.FirstOr o m v) = refl
opens_is c (ahead_kinds.Buchi d) = refl
opens_is c (ahead_kinds.RabinFin m b) = refl
opens_is c (ahead_kinds.RabinInf m b d) = refl
opens_is c (ahead_kinds.StreettFin m u) = refl
opens_is c (ahead_kinds.StreettInf m v) = refl

-- ---- one token

-- the needs behind a token that is admitted
abbrev pub needs_past : ℕ → Ahead → Piece → List ℕ → List ℕ
needs_past c a piece_is.Left ns = ns
needs_past c a piece_is.Right ns = ns
needs_past c a piece_is.And ns = ns
needs_past c a piece_is.Or ns = ns
needs_past c a piece_is.Not ns = ns
needs_past c a piece_is.Inf ns = needs_inf (ahead_is c a).rabin ns
needs_past c a piece_is.Fin ns = needs_fin (ahead_is c a).rabin ns
needs_past c a (piece_is.Truth b) ns = ns
needs_past c a piece_is.Name ns = ns
needs_past c a (piece_is.Number k) ns = ns
needs_past c a piece_is.Abort ns = ns
needs_past c a piece_is.Foreign ns = ns

abbrev pub needs_next : ℕ → Stage → Piece → List ℕ → List ℕ
needs_next c (stage_is.Operand a) p ns = needs_past c a p ns
needs_next c (stage_is.Named b) p ns = ns
needs_next c (stage_is.Bracket b) p ns = ns
needs_next c (stage_is.Number b) p ns = ns
needs_next c (stage_is.After b) p ns = ns

abbrev pub meaning_at : ℕ → ℕ → List ℕ → Stage → FormulaMeaning
meaning_at c n ns (stage_is.Operand a) = short
meaning_at c n ns (stage_is.Named b) = short
meaning_at c n ns (stage_is.Bracket b) = short
meaning_at c n ns (stage_is.Number b) = short
meaning_at c n ns (stage_is.After b) = meaning_of c n ns (past_is c b)

module _ (c : ℕ) (ns : List ℕ) (m : FormulaMeaning) where
  ahead_by : (d n : ℕ) (a : Ahead) (lost opens many : Bool)
      → some_wants (ahead_is c a) ≡ not lost
      → opens_pair (ahead_is c a).rabin ≡ opens
      → leb most_pairs (length ns) ≡ many
      → limited (formulas.go_wants d n ns (ahead_is c a))
      ≡ turn_of c ns m (cond lost (turn_is.Wrong 41) (cond (many && opens) (turn_is.Wrong 42) (turn_is.Go (formula d n (stage_is.Operand a)))))
  ahead_by d n a true opens many e f g = rw e
  ahead_by d n a false true true e f g = rw (e, g, f)
  ahead_by d n a false true false e f g = rw (e, g)
  ahead_by d n a false false true e f g = rw (e, g, f)
  ahead_by d n a false false false e f g = rw (e, g)

  pub go_ahead_is : (d n : ℕ) (a : Ahead) → limited (formulas.go_wants d n ns (ahead_is c a)) ≡ turn_of c ns m (go_ahead d n a (length ns))
  go_ahead_is d n a = ahead_by d n a (is_lost_ahead a) (opens_pair_ahead a) (leb most_pairs (length ns)) (some_ahead c a) (opens_is c a) refl

  past_by : (d n : ℕ) (p : Past) (lost : Bool) → some_behind (past_is c p) ≡ not lost
      → limited (formulas.go_after d n ns (past_is c p)) ≡ turn_of c ns m (cond lost (turn_is.Wrong 41) (turn_is.Go (formula d n (stage_is.After p))))
  past_by d n p true e = rw e
  past_by d n p false e = rw e

  pub go_past_is : (d n : ℕ) (p : Past) → limited (formulas.go_after d n ns (past_is c p)) ≡ turn_of c ns m (go_past d n p)
  go_past_is d n p = past_by d n p (is_lost_past p) (some_past c p)

  named_by : (d n : ℕ) (p : Past) (below lost : Bool) → ltb n c ≡ below → some_behind (past_is c p) ≡ not lost
      → limited (formulas.go_named c d n ns (past_is c p))
      ≡ turn_of c ns m (cond below (cond lost (turn_is.Wrong 41) (turn_is.Go (formula d (suc n) (stage_is.Named p)))) (turn_is.Wrong 41))
  named_by d n p true true b e = rw (b, e)
  named_by d n p true false b e = rw (b, e)
  named_by d n p false lost b e = rw b

  pub go_named_is : (d n : ℕ) (p : Past) → limited (formulas.go_named c d n ns (past_is c p)) ≡ turn_of c ns m (go_named c d n p)
  go_named_is d n p = named_by d n p (ltb n c) (is_lost_past p) refl (some_past c p)

  joined_by : (d n : ℕ) (a : Ahead) (below : Bool)
      → limited (cond below (formulas.go_wants d n ns (ahead_is c a)) (wrong 41)) ≡ turn_of c ns m (cond below (go_ahead d n a (length ns)) (turn_is.Wrong 41))
  joined_by d n a true = go_ahead_is d n a
  joined_by d n a false = refl

  number_by : (d n : ℕ) (p : Past) (t : Bool)
      → limited (cond t (go (state d n ns (formulas.Stage.number (past_is c p)))) (wrong 41)) ≡ turn_of c ns m
      (cond t (turn_is.Go (formula d n (stage_is.Number p))) (turn_is.Wrong 41))
  number_by d n p true = refl
  number_by d n p false = refl

operand_is : (c d n : ℕ) (ns : List ℕ) (a : Ahead) (p : Piece)
    → limited (formulas.on_operand c d n ns (ahead_is c a) p) ≡ turn_of c (needs_past c a p ns) short (turns.on_operand c d n a p (length ns))
operand_is c d n ns a piece_is.Left = ap (λ (w : Wants). limited (formulas.go_wants (suc d) n ns w)) (open_is c a) ∙ go_ahead_is c ns short (suc d) n (opened_to a)
operand_is c d n ns a piece_is.Right = refl
operand_is c d n ns a piece_is.And = refl
operand_is c d n ns a piece_is.Or = refl
operand_is c d n ns a piece_is.Not = refl
operand_is c d n ns a piece_is.Inf =
    ap (λ (w : Behind). limited (formulas.go_named c d n (needs_inf (ahead_is c a).rabin ns) w)) (inf_is c a)
    ∙ go_named_is c (needs_inf (ahead_is c a).rabin ns) short d n (inf_to c a)
operand_is c d n ns a piece_is.Fin =
    ap (λ (w : Behind). limited (formulas.go_named c d n (needs_fin (ahead_is c a).rabin ns) w)) (fin_is c a)
    ∙ go_named_is c (needs_fin (ahead_is c a).rabin ns) short d n (fin_to a)
operand_is c d n ns a (piece_is.Truth b) = ap (λ (w : Behind). limited (formulas.go_after d n ns w)) (truth_is_lem c b a) ∙ go_past_is c ns short d n (truth_to c b a)
operand_is c d n ns a piece_is.Name = refl
operand_is c d n ns a (piece_is.Number k) = refl
operand_is c d n ns a piece_is.Abort = refl
operand_is c d n ns a piece_is.Foreign = refl

named_is : (c d n : ℕ) (ns : List ℕ) (b : Past) (p : Piece)
    → limited (formulas.on_named d n ns (past_is c b) p) ≡ turn_of c ns short (turns.on_named d n b p)
named_is c d n ns x piece_is.Left = refl
named_is c d n ns x piece_is.Right = refl
named_is c d n ns x piece_is.And = refl
named_is c d n ns x piece_is.Or = refl
named_is c d n ns x piece_is.Not = refl
named_is c d n ns x piece_is.Inf = refl
named_is c d n ns x piece_is.Fin = refl
named_is c d n ns x (piece_is.Truth b) = refl
named_is c d n ns x piece_is.Name = refl
named_is c d n ns x (piece_is.Number k) = refl
named_is c d n ns x piece_is.Abort = refl
named_is c d n ns x piece_is.Foreign = refl

bracket_is : (c d n : ℕ) (ns : List ℕ) (b : Past) (p : Piece)
    → limited (formulas.on_bracket d n ns (past_is c b) p) ≡ turn_of c ns short (turns.on_bracket d n b p)
bracket_is c d n ns x piece_is.Left = refl
bracket_is c d n ns x piece_is.Right = refl
bracket_is c d n ns x piece_is.And = refl
bracket_is c d n ns x piece_is.Or = refl
bracket_is c d n ns x piece_is.Not = refl
bracket_is c d n ns x piece_is.Inf = refl
bracket_is c d n ns x piece_is.Fin = refl
bracket_is c d n ns x (piece_is.Truth b) = refl
bracket_is c d n ns x piece_is.Name = refl
bracket_is c d n ns x (piece_is.Number k) = number_by c ns short d n x (eqb (suc k) n)
bracket_is c d n ns x piece_is.Abort = refl
bracket_is c d n ns x piece_is.Foreign = refl

number_is : (c d n : ℕ) (ns : List ℕ) (b : Past) (p : Piece)
    → limited (formulas.on_number d n ns (past_is c b) p) ≡ turn_of c ns short (turns.on_number d n b p)
number_is c d n ns x piece_is.Left = refl
number_is c d n ns x piece_is.Right = refl
number_is c d n ns x piece_is.And = refl
number_is c d n ns x piece_is.Or = refl
number_is c d n ns x piece_is.Not = refl
number_is c d n ns x piece_is.Inf = refl
number_is c d n ns x piece_is.Fin = refl
number_is c d n ns x (piece_is.Truth b) = refl
number_is c d n ns x piece_is.Name = refl
number_is c d n ns x (piece_is.Number k) = refl
number_is c d n ns x piece_is.Abort = refl
number_is c d n ns x piece_is.Foreign = refl

ends_is : (c d : ℕ) (ns : List ℕ) (m : FormulaMeaning) (k : ℕ) → limited (formulas.ends d m k) ≡ turn_of c ns m (turns.ends d k)
ends_is c zero ns m k = refl
ends_is c (suc d) ns m k = refl

closes_is : (c d n : ℕ) (ns : List ℕ) (x : Past) → limited (formulas.closes c d n ns (past_is c x)) ≡ turn_of c ns (meaning_of c n ns (past_is c x)) (turns.closes d n x)
closes_is c zero n ns x = refl
closes_is c (suc d) n ns x =
    ap (λ (w : Behind). limited (formulas.go_after d n ns w)) (close_is c x) ∙ go_past_is c ns (meaning_of c n ns (past_is c x)) d n (closed_to x)

after_is : (c d n : ℕ) (ns : List ℕ) (b : Past) (p : Piece)
    → limited (formulas.on_after c d n ns (past_is c b) p) ≡ turn_of c ns (meaning_of c n ns (past_is c b)) (turns.on_after c d n b p (length ns))
after_is c d n ns x piece_is.Left = ends_is c d ns (meaning_of c n ns (past_is c x)) 40
after_is c d n ns x piece_is.Right = closes_is c d n ns x
after_is c d n ns x piece_is.And =
    ap (λ (w : Wants). limited (cond (ltb n c) (formulas.go_wants d n ns w) (wrong 41))) (and_is c x) ∙ joined_by c ns (meaning_of c n ns (past_is c x)) d n (and_to x) (ltb n c)
after_is c d n ns x piece_is.Or =
    ap (λ (w : Wants). limited (cond (ltb n c) (formulas.go_wants d n ns w) (wrong 41))) (or_is c x) ∙ joined_by c ns (meaning_of c n ns (past_is c x)) d n (or_to x) (ltb n c)
after_is c d n ns x piece_is.Not = ends_is c d ns (meaning_of c n ns (past_is c x)) 40
after_is c d n ns x piece_is.Inf = ends_is c d ns (meaning_of c n ns (past_is c x)) 40
after_is c d n ns x piece_is.Fin = ends_is c d ns (meaning_of c n ns (past_is c x)) 40
after_is c d n ns x (piece_is.Truth b) = ends_is c d ns (meaning_of c n ns (past_is c x)) 40
after_is c d n ns x piece_is.Name = ends_is c d ns (meaning_of c n ns (past_is c x)) 40
after_is c d n ns x (piece_is.Number k) = ends_is c d ns (meaning_of c n ns (past_is c x)) 40
after_is c d n ns x piece_is.Abort = ends_is c d ns (meaning_of c n ns (past_is c x)) 41
after_is c d n ns x piece_is.Foreign = ends_is c d ns (meaning_of c n ns (past_is c x)) 40

stage_turns : (c d n : ℕ) (ns : List ℕ) (g : Stage) (p : Piece)
    → limited (formulas.on_stage c d n ns (stage_of c g) p) ≡ turn_of c (needs_next c g p ns) (meaning_at c n ns g) (turns.on_stage c d n g p (length ns))
stage_turns c d n ns (stage_is.Operand a) p = operand_is c d n ns a p
stage_turns c d n ns (stage_is.Named b) p = named_is c d n ns b p
stage_turns c d n ns (stage_is.Bracket b) p = bracket_is c d n ns b p
stage_turns c d n ns (stage_is.Number b) p = number_is c d n ns b p
stage_turns c d n ns (stage_is.After b) p = after_is c d n ns b p

-- the reader's turn is the admission of the token
pub turn_is_step : (c : ℕ) (f : Formula) (ns : List ℕ) (t : Token)
    → formula_step c (state_of c f ns) t
    ≡ turn_of c (needs_next c f.stage (piece_of t) ns) (meaning_at c f.atoms ns f.stage) (turn_at c f (piece_of t) (length ns))
unfolding formula_step free_step
turn_is_step c f ns t = stage_turns c f.depth f.atoms ns f.stage (piece_of t)
