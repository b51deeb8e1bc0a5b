-- The needs as the reader counts them (src/needs.rt). Assumes nothing.
use Rattle.std.specs.Prelude.{Bool, false, cond, ◌&&◌, List, ◌≡◌, ℕ, ◌+◌, ◌-◌, ◌<◌, ◌≤◌, eqb, ltb, leb, length, get_or, set}
use Rattle.hoa_standard.specs.declared.Piece.{Piece}
use Rattle.hoa_standard.specs.declared.Piece.TheVariants as piece_is
use Rattle.hoa_standard.specs.declared.Ahead.{Ahead}
use Rattle.hoa_standard.specs.declared.Ahead.TheVariants as ahead_kinds
use Rattle.hoa_turn.specs.declared.step.Stage.{Stage}
use Rattle.hoa_turn.specs.declared.step.Stage.TheVariants as stage_is
use Rattle.hoa_turn.specs.declared.needs.Needs.{Needs}
use Rattle.hoa_standard.specs.Standard.{most_pairs, eight_needs}
use Rattle.hoa_turn.specs.inner.Turns.{opens_pair_ahead}

abbrev pub tally : ℕ → List ℕ → Needs
tally p xs = record { pairs = p; needs = xs }

-- these are the needs ns of the pairs, the last pair's first
pub record Counts (ns : List ℕ) (n : Needs) : Type 0 where
  pub pairs : n.pairs ≡ length ns
  pub needs : n.needs ≡ eight_needs ns
  pub few : length ns ≤ most_pairs

-- there is room for one Inf more
pub record Room (n : Needs) : Type 0 where
  pub pairs : n.pairs ≤ most_pairs
  pub each : (i : ℕ) → get_or n.needs i 0 < 4294967295

-- no ninth pair is about to begin
abbrev pub no_ninth : ℕ → Stage → Bool
no_ninth p (stage_is.Operand a) = leb most_pairs p && opens_pair_ahead a
no_ninth p (stage_is.Named b) = false
no_ninth p (stage_is.Bracket b) = false
no_ninth p (stage_is.Number b) = false
no_ninth p (stage_is.After b) = false

-- each need is at most the number of atoms
pub record Bounded (n : Needs) (atoms : ℕ) (g : Stage) : Type 0 where
  pub pairs : n.pairs ≤ most_pairs
  pub each : (i : ℕ) → get_or n.needs i 0 ≤ atoms
  pub ninth : no_ninth n.pairs g ≡ false

-- one Inf more in the last pair
abbrev pub needed_to : Needs → Needs
needed_to n =
    cond (eqb n.pairs 0) n (tally n.pairs (set n.needs (n.pairs - 1) (get_or n.needs (n.pairs - 1) 0 + 1)))

-- one pair more
abbrev pub begun_to : Needs → Needs
begun_to n = tally (n.pairs + 1) n.needs

abbrev pub inf_needs : Needs → Ahead → Needs
inf_needs n ahead_kinds.Lost = n
inf_needs n (ahead_kinds.Start d) = n
inf_needs n (ahead_kinds.FirstOr o m v) = n
inf_needs n (ahead_kinds.Buchi d) = n
inf_needs n (ahead_kinds.RabinFin m b) = n
inf_needs n (ahead_kinds.RabinInf m b d) = needed_to n
inf_needs n (ahead_kinds.StreettFin m u) = n
inf_needs n (ahead_kinds.StreettInf m v) = n

abbrev pub operand_needs : Needs → Ahead → Piece → Needs
operand_needs n a piece_is.Left = n
operand_needs n a piece_is.Right = n
operand_needs n a piece_is.And = n
operand_needs n a piece_is.Or = n
operand_needs n a piece_is.Not = n
operand_needs n a piece_is.Inf = inf_needs n a
operand_needs n a piece_is.Fin = cond (opens_pair_ahead a) (begun_to n) n
operand_needs n a (piece_is.Truth b) = n
operand_needs n a piece_is.Name = n
operand_needs n a (piece_is.Number k) = n
operand_needs n a piece_is.Abort = n
operand_needs n a piece_is.Foreign = n

abbrev pub stage_needs : Needs → Stage → Piece → Needs
stage_needs n (stage_is.Operand a) p = operand_needs n a p
stage_needs n (stage_is.Named b) p = n
stage_needs n (stage_is.Bracket b) p = n
stage_needs n (stage_is.Number b) p = n
stage_needs n (stage_is.After b) p = n

-- behind a token that was admitted; the c-th atom is the last
abbrev pub counted_to : Needs → ℕ → ℕ → Stage → Piece → Needs
counted_to n c atoms g p = cond (ltb atoms c) (stage_needs n g p) n
