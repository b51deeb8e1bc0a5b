-- One token as the reader takes it (src/step.rt): what its state stands for, and its turn by cases. Assumes nothing.
use Rattle.std.specs.Prelude.{Bool, true, false, cond, ◌&&◌, List, ℕ, zero, suc, ◌≤◌, eqb, ltb, leb}
use Rattle.hoa_standard.specs.declared.Piece.{Piece}
use Rattle.hoa_standard.specs.declared.Piece.TheVariants as piece_is
use Rattle.hoa_standard.specs.declared.Ahead.{Ahead}
use Rattle.hoa_standard.specs.declared.Ahead.TheVariants as ahead_kinds
use Rattle.hoa_standard.specs.declared.Past.{Past}
use Rattle.hoa_turn.specs.declared.step.Stage.{Stage}
use Rattle.hoa_turn.specs.declared.step.Stage.TheVariants as stage_is
use Rattle.hoa_turn.specs.declared.step.Formula.{Formula}
use Rattle.hoa_turn.specs.declared.step.Turn.{Turn}
use Rattle.hoa_turn.specs.declared.step.Turn.TheVariants as turn_is
use Rattle.hoa_standard.specs.Standard.{FormulaMeaning, most_pairs}
use Rattle.hoa_standard.specs.Formulas as formulas
use Rattle.hoa_standard.specs.Formulas.{FormulaState, FormulaStep}
use Rattle.hoa_standard.specs.inner.Sides.{ahead_is, past_is, AheadWithin, PastWithin, opened_to, inf_to, fin_to, truth_to, closed_to, and_to, or_to, is_lost_ahead, is_lost_past}

-- ---- what the reader's state stands for

abbrev pub stage_of : ℕ → Stage → formulas.Stage
stage_of c (stage_is.Operand a) = formulas.Stage.operand (ahead_is c a)
stage_of c (stage_is.Named p) = formulas.Stage.named (past_is c p)
stage_of c (stage_is.Bracket p) = formulas.Stage.bracket (past_is c p)
stage_of c (stage_is.Number p) = formulas.Stage.number (past_is c p)
stage_of c (stage_is.After p) = formulas.Stage.after (past_is c p)

abbrev pub state_of : ℕ → Formula → List ℕ → FormulaState
state_of c f ns = formulas.state f.depth f.atoms ns (stage_of c f.stage)

abbrev pub turn_of : ℕ → List ℕ → FormulaMeaning → Turn → FormulaStep
turn_of c ns m (turn_is.Go f) = formulas.FormulaStep.go (state_of c f ns)
turn_of c ns m turn_is.Over = formulas.FormulaStep.over m
turn_of c ns m (turn_is.Wrong k) = formulas.FormulaStep.wrong k

-- no count is above k
abbrev pub StageWithin : ℕ → Stage → Type 0
StageWithin k (stage_is.Operand a) = AheadWithin k a
StageWithin k (stage_is.Named p) = PastWithin k p
StageWithin k (stage_is.Bracket p) = PastWithin k p
StageWithin k (stage_is.Number p) = PastWithin k p
StageWithin k (stage_is.After p) = PastWithin k p

pub record Within (k : ℕ) (f : Formula) : Type 0 where
  pub depth : f.depth ≤ k
  pub stage : StageWithin k f.stage

-- ---- one token

abbrev pub formula : ℕ → ℕ → Stage → Formula
formula d n g = record { depth = d; atoms = n; stage = g }

abbrev pub opens_pair_ahead : Ahead → Bool
opens_pair_ahead ahead_kinds.Lost = false
opens_pair_ahead (ahead_kinds.Start d) = true
opens_pair_ahead (ahead_kinds.FirstOr o m v) = true
opens_pair_ahead (ahead_kinds.Buchi d) = false
opens_pair_ahead (ahead_kinds.RabinFin m b) = true
opens_pair_ahead (ahead_kinds.RabinInf m b d) = false
opens_pair_ahead (ahead_kinds.StreettFin m u) = false
opens_pair_ahead (ahead_kinds.StreettInf m v) = false

abbrev pub go_ahead : ℕ → ℕ → Ahead → ℕ → Turn
go_ahead d n a p =
    cond (is_lost_ahead a) (turn_is.Wrong 41)
    (cond (leb most_pairs p && opens_pair_ahead a) (turn_is.Wrong 42) (turn_is.Go (formula d n (stage_is.Operand a))))

abbrev pub go_named : ℕ → ℕ → ℕ → Past → Turn
go_named c d n p = cond (ltb n c) (cond (is_lost_past p) (turn_is.Wrong 41) (turn_is.Go (formula d (suc n) (stage_is.Named p)))) (turn_is.Wrong 41)

abbrev pub go_past : ℕ → ℕ → Past → Turn
go_past d n p = cond (is_lost_past p) (turn_is.Wrong 41) (turn_is.Go (formula d n (stage_is.After p)))

abbrev pub on_operand : ℕ → ℕ → ℕ → Ahead → Piece → ℕ → Turn
on_operand c d n a piece_is.Left q = go_ahead (suc d) n (opened_to a) q
on_operand c d n a piece_is.Right q = turn_is.Wrong 40
on_operand c d n a piece_is.And q = turn_is.Wrong 40
on_operand c d n a piece_is.Or q = turn_is.Wrong 40
on_operand c d n a piece_is.Not q = turn_is.Wrong 40
on_operand c d n a piece_is.Inf q = go_named c d n (inf_to c a)
on_operand c d n a piece_is.Fin q = go_named c d n (fin_to a)
on_operand c d n a (piece_is.Truth b) q = go_past d n (truth_to c b a)
on_operand c d n a piece_is.Name q = turn_is.Wrong 41
on_operand c d n a (piece_is.Number k) q = turn_is.Wrong 40
on_operand c d n a piece_is.Abort q = turn_is.Wrong 41
on_operand c d n a piece_is.Foreign q = turn_is.Wrong 40

abbrev pub on_named : ℕ → ℕ → Past → Piece → Turn
on_named d n p piece_is.Left = turn_is.Go (formula d n (stage_is.Bracket p))
on_named d n p piece_is.Right = turn_is.Wrong 40
on_named d n p piece_is.And = turn_is.Wrong 40
on_named d n p piece_is.Or = turn_is.Wrong 40
on_named d n p piece_is.Not = turn_is.Wrong 40
on_named d n p piece_is.Inf = turn_is.Wrong 40
on_named d n p piece_is.Fin = turn_is.Wrong 40
on_named d n p (piece_is.Truth b) = turn_is.Wrong 40
on_named d n p piece_is.Name = turn_is.Wrong 40
on_named d n p (piece_is.Number k) = turn_is.Wrong 40
on_named d n p piece_is.Abort = turn_is.Wrong 41
on_named d n p piece_is.Foreign = turn_is.Wrong 40

abbrev pub on_bracket : ℕ → ℕ → Past → Piece → Turn
on_bracket d n p piece_is.Left = turn_is.Wrong 40
on_bracket d n p piece_is.Right = turn_is.Wrong 40
on_bracket d n p piece_is.And = turn_is.Wrong 40
on_bracket d n p piece_is.Or = turn_is.Wrong 40
on_bracket d n p piece_is.Not = turn_is.Wrong 41
on_bracket d n p piece_is.Inf = turn_is.Wrong 40
on_bracket d n p piece_is.Fin = turn_is.Wrong 40
on_bracket d n p (piece_is.Truth b) = turn_is.Wrong 40
on_bracket d n p piece_is.Name = turn_is.Wrong 40
on_bracket d n p (piece_is.Number k) = cond (eqb (suc k) n) (turn_is.Go (formula d n (stage_is.Number p))) (turn_is.Wrong 41)
on_bracket d n p piece_is.Abort = turn_is.Wrong 41
on_bracket d n p piece_is.Foreign = turn_is.Wrong 40

abbrev pub on_number : ℕ → ℕ → Past → Piece → Turn
on_number d n p piece_is.Left = turn_is.Wrong 40
on_number d n p piece_is.Right = turn_is.Go (formula d n (stage_is.After p))
on_number d n p piece_is.And = turn_is.Wrong 40
on_number d n p piece_is.Or = turn_is.Wrong 40
on_number d n p piece_is.Not = turn_is.Wrong 40
on_number d n p piece_is.Inf = turn_is.Wrong 40
on_number d n p piece_is.Fin = turn_is.Wrong 40
on_number d n p (piece_is.Truth b) = turn_is.Wrong 40
on_number d n p piece_is.Name = turn_is.Wrong 40
on_number d n p (piece_is.Number k) = turn_is.Wrong 40
on_number d n p piece_is.Abort = turn_is.Wrong 41
on_number d n p piece_is.Foreign = turn_is.Wrong 40

abbrev pub ends : ℕ → ℕ → Turn
ends zero k = turn_is.Over
ends (suc d) k = turn_is.Wrong k

abbrev pub closes : ℕ → ℕ → Past → Turn
closes zero n p = turn_is.Over
closes (suc d) n p = go_past d n (closed_to p)

abbrev pub on_after : ℕ → ℕ → ℕ → Past → Piece → ℕ → Turn
on_after c d n p piece_is.Left q = ends d 40
on_after c d n p piece_is.Right q = closes d n p
on_after c d n p piece_is.And q = cond (ltb n c) (go_ahead d n (and_to p) q) (turn_is.Wrong 41)
on_after c d n p piece_is.Or q = cond (ltb n c) (go_ahead d n (or_to p) q) (turn_is.Wrong 41)
on_after c d n p piece_is.Not q = ends d 40
on_after c d n p piece_is.Inf q = ends d 40
on_after c d n p piece_is.Fin q = ends d 40
on_after c d n p (piece_is.Truth b) q = ends d 40
on_after c d n p piece_is.Name q = ends d 40
on_after c d n p (piece_is.Number k) q = ends d 40
on_after c d n p piece_is.Abort q = ends d 41
on_after c d n p piece_is.Foreign q = ends d 40

abbrev pub on_stage : ℕ → ℕ → ℕ → Stage → Piece → ℕ → Turn
on_stage c d n (stage_is.Operand a) p q = on_operand c d n a p q
on_stage c d n (stage_is.Named b) p q = on_named d n b p
on_stage c d n (stage_is.Bracket b) p q = on_bracket d n b p
on_stage c d n (stage_is.Number b) p q = on_number d n b p
on_stage c d n (stage_is.After b) p q = on_after c d n b p q

-- the reader's turn at one token, where so many pairs were begun
abbrev pub turn_at : ℕ → Formula → Piece → ℕ → Turn
turn_at c f p q = on_stage c f.depth f.atoms f.stage p q
