-- Where the formula is over, as the reader tells it (src/lib.rt). Assumes nothing.
use Rattle.std.specs.Prelude.{Bool, true, false, cond, List, ℕ, zero, suc, ◌/◌, ltb, Option, Some, None}
use Rattle.table.specs.declared.Acceptance.{Acceptance}
use Rattle.table.specs.declared.Acceptance.TheVariants as acceptance
use Rattle.hoa_tokens.specs.declared.Kind.{Kind}
use Rattle.hoa_tokens.specs.declared.Kind.TheVariants as kind_is
use Rattle.hoa_standard.specs.declared.Piece.{Piece}
use Rattle.hoa_standard.specs.declared.Piece.TheVariants as piece_is
use Rattle.hoa_standard.specs.declared.Past.{Past}
use Rattle.hoa_standard.specs.declared.Past.TheVariants as past_kinds
use Rattle.hoa_turn.specs.declared.step.Stage.{Stage}
use Rattle.hoa_turn.specs.declared.step.Stage.TheVariants as stage_is
use Rattle.hoa_turn.specs.declared.needs.Needs.{Needs}
use Rattle.hoa_formula.specs.declared.Complete.{Complete}
use Rattle.hoa_formula.specs.declared.Complete.TheVariants as complete_is
use Rattle.hoa_formula.specs.declared.FormulaRead.{FormulaRead}
use Rattle.hoa_formula.specs.declared.FormulaRead.TheVariants as found_is
use Rattle.hoa_standard.specs.Standard.{FormulaMeaning, standard, short, no_needs, rabin_meaning}
use Rattle.hoa_standard.specs.Formulas.{word_piece, sign_piece}

-- what a token's kind is to a formula
abbrev pub kind_piece : Kind → Piece
kind_piece (kind_is.Int n) = piece_is.Number n
kind_piece (kind_is.Word w) = word_piece w
kind_piece (kind_is.Header h) = piece_is.Foreign
kind_piece kind_is.Quoted = piece_is.Foreign
kind_piece kind_is.Alias = piece_is.Foreign
kind_piece (kind_is.Sign s) = sign_piece s
kind_piece kind_is.Body = piece_is.Foreign
kind_piece kind_is.End = piece_is.Foreign
kind_piece kind_is.Abort = piece_is.Abort
kind_piece kind_is.Finish = piece_is.Foreign
kind_piece kind_is.Bad = piece_is.Foreign

-- with no open bracket
abbrev pub if_none : ℕ → Complete → Option Complete
if_none zero k = Some k
if_none (suc d) k = None

abbrev pub pair_complete : ℕ → ℕ → Option Complete
pair_complete m zero = if_none m complete_is.Rabin
pair_complete m (suc d) = None

abbrev pub truth_complete : Bool → ℕ → Option Complete
truth_complete true d = if_none d complete_is.True
truth_complete false d = if_none d complete_is.False

-- the kind of formula that is complete
abbrev pub complete_to : Past → Option Complete
complete_to past_kinds.Lost = None
complete_to (past_kinds.Truth b d) = truth_complete b d
complete_to (past_kinds.Buchi d) = if_none d complete_is.Buchi
complete_to (past_kinds.FirstFin d) = if_none d complete_is.Rabin
complete_to (past_kinds.RabinPair m b d) = pair_complete m d
complete_to (past_kinds.RabinGroup m) = if_none m complete_is.Rabin
complete_to (past_kinds.StreettFin m u) = None
complete_to (past_kinds.StreettInf m v) = None
complete_to (past_kinds.StreettPair m) = if_none m complete_is.Streett
complete_to (past_kinds.Bare x) = if_none x complete_is.Streett

-- what it means
abbrev pub complete_meaning : ℕ → List ℕ → Option Complete → FormulaMeaning
complete_meaning c ns (Some complete_is.Buchi) = standard (acceptance.Buchi c) no_needs
complete_meaning c ns (Some complete_is.Rabin) = rabin_meaning ns
complete_meaning c ns (Some complete_is.Streett) = standard (acceptance.Streett (c / 2)) no_needs
complete_meaning c ns (Some complete_is.True) = standard (acceptance.Buchi 0) no_needs
complete_meaning c ns (Some complete_is.False) = standard (acceptance.Rabin 0) no_needs
complete_meaning c ns None = short

-- a standard formula that needs nothing
abbrev pub standard_read : Acceptance → ℕ → FormulaRead
standard_read a at = found_is.Standard a no_needs at

-- the reader's answer for a complete formula
abbrev pub complete_read : ℕ → Needs → ℕ → Complete → FormulaRead
complete_read c n at complete_is.Buchi = standard_read (acceptance.Buchi c) at
complete_read c n at complete_is.Rabin = found_is.Standard (acceptance.Rabin n.pairs) n.needs at
complete_read c n at complete_is.Streett = standard_read (acceptance.Streett (c / 2)) at
complete_read c n at complete_is.True = standard_read (acceptance.Buchi 0) at
complete_read c n at complete_is.False = standard_read (acceptance.Rabin 0) at

-- and where none is complete
abbrev pub done_read : ℕ → Needs → ℕ → Option Complete → FormulaRead
done_read c n at (Some k) = complete_read c n at k
done_read c n at None = found_is.Short at

abbrev pub past_read : ℕ → ℕ → Needs → ℕ → Past → FormulaRead
past_read c atoms n at p = cond (ltb atoms c) (found_is.Short at) (done_read c n at (complete_to p))

-- it is over only behind an operand
abbrev pub over_read : ℕ → ℕ → Needs → ℕ → Stage → FormulaRead
over_read c atoms n at (stage_is.Operand a) = found_is.Short at
over_read c atoms n at (stage_is.Named b) = found_is.Short at
over_read c atoms n at (stage_is.Bracket b) = found_is.Short at
over_read c atoms n at (stage_is.Number b) = found_is.Short at
over_read c atoms n at (stage_is.After p) = past_read c atoms n at p
