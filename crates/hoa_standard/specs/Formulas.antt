-- The admission of a formula, one token at a time (docs/RULES.md, "The Hanoi format", the faulty token). Assumes nothing.
use Rattle.std.specs.Prelude.{Bool, true, false, cond, ◌&&◌, ◌||◌, List, [], ◌∷◌, ℕ, zero, suc, ◌/◌, eqb, ltb, leb, length}
use Rattle.table.specs.declared.Acceptance.TheVariants as acceptance
use Rattle.hoa_tokens.specs.declared.Word.{Word}
use Rattle.hoa_tokens.specs.declared.Word.TheVariants as word_is
use Rattle.hoa_tokens.specs.declared.Sign.{Sign}
use Rattle.hoa_tokens.specs.declared.Sign.TheVariants as sign_is
use Rattle.hoa_tokens.specs.Token.{Token, int, word, header, str, aname, sign, body, end, abort, finish, bad}
use Rattle.hoa_tokens.specs.Stream.{Placed}
use Rattle.hoa_standard.specs.declared.Piece.{Piece}
use Rattle.hoa_standard.specs.declared.Piece.TheVariants as piece_is
use Rattle.hoa_standard.specs.Standard.{FormulaMeaning, standard, short, most_pairs, no_needs, rabin_meaning}
use Rattle.hoa_standard.specs.Machines.{RabinWants, TruthBehind, Wants, Behind, begin, wants_open, wants_inf, wants_fin, wants_truth, behind_close, behind_and, behind_or}
use Rattle.hoa_standard.specs.Machines.{some_wants, some_behind}
use Rattle.hoa_standard.specs.Machines.{buchi_done, rabin_done, streett_done, bare_done}

-- ---- what a token is to a formula

abbrev pub word_piece : Word → Piece
word_piece word_is.True = piece_is.Truth true
word_piece word_is.False = piece_is.Truth false
word_piece word_is.V1 = piece_is.Name
word_piece word_is.Inf = piece_is.Inf
word_piece word_is.Fin = piece_is.Fin
word_piece word_is.Other = piece_is.Name

abbrev pub sign_piece : Sign → Piece
sign_piece sign_is.ParenLeft = piece_is.Left
sign_piece sign_is.ParenRight = piece_is.Right
sign_piece sign_is.BracketLeft = piece_is.Foreign
sign_piece sign_is.BracketRight = piece_is.Foreign
sign_piece sign_is.BraceLeft = piece_is.Foreign
sign_piece sign_is.BraceRight = piece_is.Foreign
sign_piece sign_is.And = piece_is.And
sign_piece sign_is.Or = piece_is.Or
sign_piece sign_is.Not = piece_is.Not

unfoldable pub piece_of : Token → Piece
piece_of (int k) = piece_is.Number k
piece_of (word w) = word_piece w
piece_of (header h) = piece_is.Foreign
piece_of (str bs) = piece_is.Foreign
piece_of aname = piece_is.Foreign
piece_of (sign s) = sign_piece s
piece_of body = piece_is.Foreign
piece_of end = piece_is.Foreign
piece_of abort = piece_is.Abort
piece_of finish = piece_is.Foreign
piece_of bad = piece_is.Foreign

-- ---- where the reader stands

pub data Stage : Type 0 where
  -- an operand is expected
  operand : Wants → Stage
  -- behind an atom's word, behind its `(`, behind its number
  named : Behind → Stage
  bracket : Behind → Stage
  number : Behind → Stage
  -- behind an operand
  after : Behind → Stage

pub record FormulaState : Type 0 where
  -- open brackets, those of atoms aside
  pub depth : ℕ
  -- atoms so far, with the one that has begun
  pub atoms : ℕ
  -- the needs of the pairs so far, the last pair's first
  pub needs : List ℕ
  pub stage : Stage

abbrev pub state : ℕ → ℕ → List ℕ → Stage → FormulaState
state d n ns g = record { depth = d; atoms = n; needs = ns; stage = g }

pub data FormulaStep : Type 0 where
  go : FormulaState → FormulaStep
  -- the token cannot continue the formula by section 2: it is the token behind
  over : FormulaMeaning → FormulaStep
  wrong : ℕ → FormulaStep

-- before the first token of a formula with c marks
unfoldable pub formula_begin : (c : ℕ) → FormulaState
formula_begin c = state 0 0 [] (operand (begin c))

-- ---- one token

-- a token that section 2 does not admit is 40; `--ABORT--` is 41
abbrev pub astray : Piece → ℕ
astray piece_is.Left = 40
astray piece_is.Right = 40
astray piece_is.And = 40
astray piece_is.Or = 40
astray piece_is.Not = 40
astray piece_is.Inf = 40
astray piece_is.Fin = 40
astray (piece_is.Truth b) = 40
astray piece_is.Name = 40
astray (piece_is.Number k) = 40
astray piece_is.Abort = 41
astray piece_is.Foreign = 40

-- an operand is expected next, if some machine admits it
abbrev pub go_wants : ℕ → ℕ → List ℕ → Wants → FormulaStep
go_wants d n ns w = cond (some_wants w) (go (state d n ns (operand w))) (wrong 41)

-- an atom has begun, if it is no more than the c-th and some machine admits it
abbrev pub go_named : ℕ → ℕ → ℕ → List ℕ → Behind → FormulaStep
go_named c d n ns b = cond (ltb n c && some_behind b) (go (state d (suc n) ns (named b))) (wrong 41)

abbrev pub go_after : ℕ → ℕ → List ℕ → Behind → FormulaStep
go_after d n ns b = cond (some_behind b) (go (state d n ns (after b))) (wrong 41)

-- "one pair per Fin, its need the number of Inf up to the next Fin"
abbrev pub needs_inf : RabinWants → List ℕ → List ℕ
needs_inf RabinWants.lost ns = ns
needs_inf (RabinWants.fin m b) ns = ns
needs_inf (RabinWants.inf m b d) [] = []
needs_inf (RabinWants.inf m b d) (n ∷ ns) = suc n ∷ ns

abbrev pub needs_fin : RabinWants → List ℕ → List ℕ
needs_fin RabinWants.lost ns = ns
needs_fin (RabinWants.fin m b) ns = 0 ∷ ns
needs_fin (RabinWants.inf m b d) ns = ns

abbrev pub on_operand : ℕ → ℕ → ℕ → List ℕ → Wants → Piece → FormulaStep
on_operand c d n ns w piece_is.Left = go_wants (suc d) n ns (wants_open w)
on_operand c d n ns w piece_is.Right = wrong 40
on_operand c d n ns w piece_is.And = wrong 40
on_operand c d n ns w piece_is.Or = wrong 40
on_operand c d n ns w piece_is.Not = wrong 40
on_operand c d n ns w piece_is.Inf = go_named c d n (needs_inf w.rabin ns) (wants_inf w)
on_operand c d n ns w piece_is.Fin = go_named c d n (needs_fin w.rabin ns) (wants_fin w)
on_operand c d n ns w (piece_is.Truth b) = go_after d n ns (wants_truth b w)
on_operand c d n ns w piece_is.Name = wrong 41
on_operand c d n ns w (piece_is.Number k) = wrong 40
on_operand c d n ns w piece_is.Abort = wrong 41
on_operand c d n ns w piece_is.Foreign = wrong 40

abbrev pub on_named : ℕ → ℕ → List ℕ → Behind → Piece → FormulaStep
on_named d n ns b piece_is.Left = go (state d n ns (bracket b))
on_named d n ns b piece_is.Right = wrong 40
on_named d n ns b piece_is.And = wrong 40
on_named d n ns b piece_is.Or = wrong 40
on_named d n ns b piece_is.Not = wrong 40
on_named d n ns b piece_is.Inf = wrong 40
on_named d n ns b piece_is.Fin = wrong 40
on_named d n ns b (piece_is.Truth x) = wrong 40
on_named d n ns b piece_is.Name = wrong 40
on_named d n ns b (piece_is.Number k) = wrong 40
on_named d n ns b piece_is.Abort = wrong 41
on_named d n ns b piece_is.Foreign = wrong 40

-- "In every standard formula the i-th atom bears mark i"; a `!` none has
abbrev pub on_bracket : ℕ → ℕ → List ℕ → Behind → Piece → FormulaStep
on_bracket d n ns b piece_is.Left = wrong 40
on_bracket d n ns b piece_is.Right = wrong 40
on_bracket d n ns b piece_is.And = wrong 40
on_bracket d n ns b piece_is.Or = wrong 40
on_bracket d n ns b piece_is.Not = wrong 41
on_bracket d n ns b piece_is.Inf = wrong 40
on_bracket d n ns b piece_is.Fin = wrong 40
on_bracket d n ns b (piece_is.Truth x) = wrong 40
on_bracket d n ns b piece_is.Name = wrong 40
on_bracket d n ns b (piece_is.Number k) = cond (eqb (suc k) n) (go (state d n ns (number b))) (wrong 41)
on_bracket d n ns b piece_is.Abort = wrong 41
on_bracket d n ns b piece_is.Foreign = wrong 40

abbrev pub on_number : ℕ → ℕ → List ℕ → Behind → Piece → FormulaStep
on_number d n ns b piece_is.Left = wrong 40
on_number d n ns b piece_is.Right = go (state d n ns (after b))
on_number d n ns b piece_is.And = wrong 40
on_number d n ns b piece_is.Or = wrong 40
on_number d n ns b piece_is.Not = wrong 40
on_number d n ns b piece_is.Inf = wrong 40
on_number d n ns b piece_is.Fin = wrong 40
on_number d n ns b (piece_is.Truth x) = wrong 40
on_number d n ns b piece_is.Name = wrong 40
on_number d n ns b (piece_is.Number k) = wrong 40
on_number d n ns b piece_is.Abort = wrong 41
on_number d n ns b piece_is.Foreign = wrong 40

-- the formula's meaning where it is over, by the machine that is complete
abbrev pub truth_done : TruthBehind → FormulaMeaning
truth_done TruthBehind.lost = short
truth_done (TruthBehind.is true zero) = standard (acceptance.Buchi 0) no_needs
truth_done (TruthBehind.is false zero) = standard (acceptance.Rabin 0) no_needs
truth_done (TruthBehind.is b (suc d)) = short

abbrev pub by_done : ℕ → List ℕ → Behind → FormulaMeaning
by_done c ns b =
    cond (buchi_done b.buchi) (standard (acceptance.Buchi c) no_needs)
    (cond (rabin_done b.rabin) (rabin_meaning ns)
    (cond (streett_done b.streett || bare_done b.bare) (standard (acceptance.Streett (c / 2)) no_needs) (truth_done b.truth)))

unfoldable pub meaning_of : ℕ → ℕ → List ℕ → Behind → FormulaMeaning
meaning_of c n ns b = cond (ltb n c) short (by_done c ns b)

-- behind an operand with no open bracket a token that section 2 does not admit is the token behind
abbrev pub ends : ℕ → FormulaMeaning → ℕ → FormulaStep
ends zero m k = over m
ends (suc d) m k = wrong k

abbrev pub closes : ℕ → ℕ → ℕ → List ℕ → Behind → FormulaStep
closes c zero n ns b = over (meaning_of c n ns b)
closes c (suc d) n ns b = go_after d n ns (behind_close b)

abbrev pub on_after : ℕ → ℕ → ℕ → List ℕ → Behind → Piece → FormulaStep
on_after c d n ns b piece_is.Left = ends d (meaning_of c n ns b) 40
on_after c d n ns b piece_is.Right = closes c d n ns b
on_after c d n ns b piece_is.And = cond (ltb n c) (go_wants d n ns (behind_and b)) (wrong 41)
on_after c d n ns b piece_is.Or = cond (ltb n c) (go_wants d n ns (behind_or b)) (wrong 41)
on_after c d n ns b piece_is.Not = ends d (meaning_of c n ns b) 40
on_after c d n ns b piece_is.Inf = ends d (meaning_of c n ns b) 40
on_after c d n ns b piece_is.Fin = ends d (meaning_of c n ns b) 40
on_after c d n ns b (piece_is.Truth x) = ends d (meaning_of c n ns b) 40
on_after c d n ns b piece_is.Name = ends d (meaning_of c n ns b) 40
on_after c d n ns b (piece_is.Number k) = ends d (meaning_of c n ns b) 40
on_after c d n ns b piece_is.Abort = ends d (meaning_of c n ns b) 41
on_after c d n ns b piece_is.Foreign = ends d (meaning_of c n ns b) 40

abbrev pub on_stage : ℕ → ℕ → ℕ → List ℕ → Stage → Piece → FormulaStep
on_stage c d n ns (operand w) p = on_operand c d n ns w p
on_stage c d n ns (named b) p = on_named d n ns b p
on_stage c d n ns (bracket b) p = on_bracket d n ns b p
on_stage c d n ns (number b) p = on_number d n ns b p
on_stage c d n ns (after b) p = on_after c d n ns b p

-- one token, the limit of pairs set aside
unfoldable pub free_step : (c : ℕ) → FormulaState → Token → FormulaStep
free_step c s t = on_stage c s.depth s.atoms s.needs s.stage (piece_of t)

-- ---- the limit: "`|` that opens pair 9"

abbrev pub opens_pair : RabinWants → Bool
opens_pair RabinWants.lost = false
opens_pair (RabinWants.fin m b) = true
opens_pair (RabinWants.inf m b d) = false

abbrev pub too_many : ℕ → Stage → Bool
too_many p (operand w) = leb most_pairs p && opens_pair w.rabin
too_many p (named b) = false
too_many p (bracket b) = false
too_many p (number b) = false
too_many p (after b) = false

abbrev pub limited : FormulaStep → FormulaStep
limited (go s) = cond (too_many (length s.needs) s.stage) (wrong 42) (go s)
limited (over m) = over m
limited (wrong k) = wrong k

-- one token
unfoldable pub formula_step : (c : ℕ) → FormulaState → Token → FormulaStep
formula_step c s t = limited (free_step c s t)

-- ---- all tokens

pub data FormulaEnd : Type 0 where
  -- the meaning, and the tokens from the one behind on
  over_at : FormulaMeaning → List Placed → FormulaEnd
  -- number and place
  wrong_at : ℕ → ℕ → FormulaEnd
  -- the tokens end before the formula does
  cut : FormulaEnd

-- what is said behind one token
abbrev pub onward : FormulaStep → (FormulaState → FormulaEnd) → Placed → List Placed → FormulaEnd
onward (go s) further p ps = further s
onward (over m) further p ps = over_at m (p ∷ ps)
onward (wrong k) further p ps = wrong_at k p.place

unfoldable pub formula_run : (c : ℕ) → FormulaState → List Placed → FormulaEnd
formula_run c s [] = cut
formula_run c s (p ∷ ps) = onward (formula_step c s p.token) (λ s'. formula_run c s' ps) p ps
