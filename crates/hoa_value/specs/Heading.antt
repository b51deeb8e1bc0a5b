-- The header token by token, up to `--BODY--` (docs/RULES.md, "The Hanoi format", the faulty token). Assumes nothing.
use Rattle.std.specs.Prelude.{Bool, true, false, cond, not, ◌||◌, List, [], ◌∷◌, ℕ, eqb, ltb, leb, length}
use Rattle.hoa_tokens.specs.declared.Word.{Word}
use Rattle.hoa_tokens.specs.declared.Word.TheVariants as word_is
use Rattle.hoa_tokens.specs.declared.Header.{Header}
use Rattle.hoa_tokens.specs.declared.Header.TheVariants as header_is
use Rattle.hoa_tokens.specs.declared.Sign.{Sign}
use Rattle.hoa_tokens.specs.declared.Sign.TheVariants as sign_is
use Rattle.hoa_tokens.specs.Bytes.{same}
use Rattle.hoa_tokens.specs.Token.{Token, int, word, header, str, aname, sign, body, end, abort, finish, bad}
use Rattle.hoa_standard.specs.Formulas as formula
use Rattle.hoa_standard.specs.Standard.{FormulaMeaning, standard, short}
use Rattle.hoa_standard.specs.Formulas.{FormulaState, formula_begin, formula_step, FormulaStep}
use Rattle.hoa_value.specs.declared.Head.{Head}
use Rattle.hoa_value.specs.declared.Piece.{Piece}
use Rattle.hoa_value.specs.declared.Piece.TheVariants as piece_is
use Rattle.hoa_step.specs.Given.{is_given, not_below, not_above}
use Rattle.job_text.specs.Job.{most_job_states}
use Rattle.hoa_value.specs.Head.{most_props, most_marks, blank, with_states, with_start, with_props, with_marks, with_acc_name, with_tool, with_name}
use Rattle.hoa_step.specs.Machine.{Step, go, done, wrong, wants_int, wants_text}

-- ---- where the header stands

pub data HeadState : Type 0 where
  -- `HOA:` is wanted
  opening : HeadState
  -- the WORD behind it
  version : HeadState
  -- an item or `--BODY--` may begin
  items : Head → HeadState
  -- the INT of States:, Start:, AP:, Acceptance: is wanted
  states_int : Head → HeadState
  start_int : Head → HeadState
  props_int : Head → HeadState
  marks_int : Head → HeadState
  -- behind the INT of Start:
  start_more : Head → HeadState
  -- behind the INT a of AP: and these names, the last one first
  names : ℕ → List (List ℕ) → Head → HeadState
  -- in the formula, with c marks
  in_formula : ℕ → FormulaState → Head → HeadState
  -- the WORD of acc-name: is wanted
  acc_name : Head → HeadState
  -- the STRING of tool: is wanted, or a second one may follow
  tool_text : Head → HeadState
  tool_more : Head → HeadState
  -- the STRING of name: is wanted
  name_text : Head → HeadState
  -- words that are passed over, and INTs and STRINGs too if so said
  hints : Bool → Bool → Head → HeadState

abbrev pub HeadStep : Type 0
HeadStep = Step HeadState Head

-- ---- what a token is

-- "`HOA:` or `State:` among the items" is 40
abbrev pub piece_header : Header → Piece
piece_header header_is.Hoa = piece_is.Wrong 40
piece_header header_is.States = piece_is.Item header_is.States
piece_header header_is.Start = piece_is.Item header_is.Start
piece_header header_is.Ap = piece_is.Item header_is.Ap
piece_header header_is.Alias = piece_is.Item header_is.Alias
piece_header header_is.Acceptance = piece_is.Item header_is.Acceptance
piece_header header_is.AccName = piece_is.Item header_is.AccName
piece_header header_is.Tool = piece_is.Item header_is.Tool
piece_header header_is.Name = piece_is.Item header_is.Name
piece_header header_is.Properties = piece_is.Item header_is.Properties
piece_header header_is.State = piece_is.Wrong 40
piece_header header_is.Capital = piece_is.Item header_is.Capital
piece_header header_is.Lower = piece_is.Item header_is.Lower

abbrev pub piece_sign : Sign → Piece
piece_sign sign_is.And = piece_is.Join
piece_sign sign_is.ParenLeft = piece_is.Wrong 40
piece_sign sign_is.ParenRight = piece_is.Wrong 40
piece_sign sign_is.BracketLeft = piece_is.Wrong 40
piece_sign sign_is.BracketRight = piece_is.Wrong 40
piece_sign sign_is.BraceLeft = piece_is.Wrong 40
piece_sign sign_is.BraceRight = piece_is.Wrong 40
piece_sign sign_is.Or = piece_is.Wrong 40
piece_sign sign_is.Not = piece_is.Wrong 40

unfoldable pub piece_of : Token → Piece
piece_of (header h) = piece_header h
piece_of body = piece_is.Body
piece_of (word w) = piece_is.Word
piece_of (int i) = piece_is.Int
piece_of (str bs) = piece_is.Text
piece_of (sign s) = piece_sign s
piece_of abort = piece_is.Wrong 41
piece_of aname = piece_is.Wrong 40
piece_of end = piece_is.Wrong 40
piece_of finish = piece_is.Wrong 40
piece_of bad = piece_is.Wrong 40

-- ---- one token

-- "one of States:, Start:, AP:, Acceptance:, acc-name:, tool:, name: that came before" is 41
abbrev pub once : Bool → HeadState → HeadStep
once true s = wrong 41
once false s = go s

-- "HEADER as item: Alias:; unknown with first byte A-Z" is 41
abbrev pub on_item : Head → Header → HeadStep
on_item h header_is.States = once (is_given h.states) (states_int h)
on_item h header_is.Start = once (is_given h.start) (start_int h)
on_item h header_is.Ap = once (is_given h.props) (props_int h)
on_item h header_is.Acceptance = once (is_given h.marks) (marks_int h)
on_item h header_is.AccName = once h.hint (acc_name (with_acc_name h))
on_item h header_is.Tool = once h.tool (tool_text (with_tool h))
on_item h header_is.Name = once h.name (name_text (with_name h))
on_item h header_is.Properties = go (hints false false h)
on_item h header_is.Lower = go (hints true true h)
on_item h header_is.Alias = wrong 41
on_item h header_is.Capital = wrong 41
on_item h header_is.Hoa = wrong 40
on_item h header_is.State = wrong 40

-- "`--BODY--`: no Start: or no Acceptance: so far" is 41
abbrev pub on_body : Head → HeadStep
on_body h = cond (not (is_given h.start) || not (is_given h.marks)) (wrong 41) (done h)

-- where an item or `--BODY--` may begin
abbrev pub on_piece : Head → Piece → HeadStep
on_piece h (piece_is.Item k) = on_item h k
on_piece h piece_is.Body = on_body h
on_piece h piece_is.Word = wrong 40
on_piece h piece_is.Int = wrong 40
on_piece h piece_is.Text = wrong 40
on_piece h piece_is.Join = wrong 40
on_piece h (piece_is.Wrong n) = wrong n

-- the names or the formula behind which the token stands are too few: "if section 2 does not admit it at all it is 40", else 41
abbrev pub unfinished : Piece → HeadStep
unfinished (piece_is.Item k) = wrong 41
unfinished piece_is.Body = wrong 41
unfinished piece_is.Word = wrong 40
unfinished piece_is.Int = wrong 40
unfinished piece_is.Text = wrong 40
unfinished piece_is.Join = wrong 40
unfinished (piece_is.Wrong n) = wrong n

-- "INT of States:: 0, or not above s so far" 41, "above 256" 42
abbrev pub on_states : Head → ℕ → HeadStep
on_states h n = cond (eqb n 0 || not_above n h.start) (wrong 41) (cond (ltb most_job_states n) (wrong 42) (go (items (with_states n h))))

-- "INT of Start:: not below n so far" 41, "above 255" 42
abbrev pub on_start : Head → ℕ → HeadStep
on_start h s = cond (not_below s h.states) (wrong 41) (cond (leb most_job_states s) (wrong 42) (go (start_more (with_start s h))))

-- "`&` behind it: always" 41
abbrev pub on_start_more : Head → Piece → HeadStep
on_start_more h piece_is.Join = wrong 41
on_start_more h (piece_is.Item k) = on_piece h (piece_is.Item k)
on_start_more h piece_is.Body = on_piece h piece_is.Body
on_start_more h piece_is.Word = on_piece h piece_is.Word
on_start_more h piece_is.Int = on_piece h piece_is.Int
on_start_more h piece_is.Text = on_piece h piece_is.Text
on_start_more h (piece_is.Wrong n) = on_piece h (piece_is.Wrong n)

-- "INT of AP:: above 6" 42
abbrev pub on_props : Head → ℕ → HeadStep
on_props h a = cond (ltb most_props a) (wrong 42) (go (names a [] h))

-- a name so far is the same, byte for byte
abbrev pub name_came : List ℕ → List (List ℕ) → Bool
name_came bs [] = false
name_came bs (n ∷ ns) = same bs n || name_came bs ns

-- "STRING of AP:: a names so far, or equal to one of them" 41
abbrev pub on_name : ℕ → List (List ℕ) → Head → List ℕ → HeadStep
on_name a ns h bs = cond (leb a (length ns) || name_came bs ns) (wrong 41) (go (names a (bs ∷ ns) h))

-- "token behind the names: fewer than a" 41
abbrev pub behind_names : ℕ → List (List ℕ) → Head → Piece → HeadStep
behind_names a ns h p = cond (ltb (length ns) a) (unfinished p) (on_piece (with_props a h) p)

unfoldable pub on_names : ℕ → List (List ℕ) → Head → Token → HeadStep
on_names a ns h (str bs) = on_name a ns h bs
on_names a ns h (int i) = behind_names a ns h (piece_of (int i))
on_names a ns h (word w) = behind_names a ns h (piece_of (word w))
on_names a ns h (header k) = behind_names a ns h (piece_of (header k))
on_names a ns h aname = behind_names a ns h (piece_of aname)
on_names a ns h (sign s) = behind_names a ns h (piece_of (sign s))
on_names a ns h body = behind_names a ns h (piece_of body)
on_names a ns h end = behind_names a ns h (piece_of end)
on_names a ns h abort = behind_names a ns h (piece_of abort)
on_names a ns h finish = behind_names a ns h (piece_of finish)
on_names a ns h bad = behind_names a ns h (piece_of bad)

-- "INT of Acceptance:: above 32" 42
abbrev pub on_marks : Head → ℕ → HeadStep
on_marks h c = cond (ltb most_marks c) (wrong 42) (go (in_formula c (formula_begin c) h))

-- "token behind the formula: fewer than c atoms" 41
abbrev pub behind_formula : ℕ → Head → Piece → FormulaMeaning → HeadStep
behind_formula c h p (standard condition needs) = on_piece (with_marks c condition needs h) p
behind_formula c h p short = unfinished p

-- in the formula
abbrev pub on_formula : ℕ → Head → Token → FormulaStep → HeadStep
on_formula c h t (formula.go s) = go (in_formula c s h)
on_formula c h t (formula.over m) = behind_formula c h (piece_of t) m
on_formula c h t (formula.wrong n) = wrong n

-- the WORD of acc-name:, then words and INTs
abbrev pub on_acc_name : Head → Piece → HeadStep
on_acc_name h piece_is.Word = go (hints true false h)
on_acc_name h (piece_is.Item k) = wrong 40
on_acc_name h piece_is.Body = wrong 40
on_acc_name h piece_is.Int = wrong 40
on_acc_name h piece_is.Text = wrong 40
on_acc_name h piece_is.Join = wrong 40
on_acc_name h (piece_is.Wrong n) = wrong n

-- a second STRING of tool:
abbrev pub on_tool_more : Head → Piece → HeadStep
on_tool_more h piece_is.Text = go (items h)
on_tool_more h (piece_is.Item k) = on_piece h (piece_is.Item k)
on_tool_more h piece_is.Body = on_piece h piece_is.Body
on_tool_more h piece_is.Word = on_piece h piece_is.Word
on_tool_more h piece_is.Int = on_piece h piece_is.Int
on_tool_more h piece_is.Join = on_piece h piece_is.Join
on_tool_more h (piece_is.Wrong n) = on_piece h (piece_is.Wrong n)

-- words, INTs, STRINGs that are passed over
abbrev pub on_hints : Bool → Bool → Head → Piece → HeadStep
on_hints ints texts h piece_is.Word = go (hints ints texts h)
on_hints ints texts h piece_is.Int = cond ints (go (hints ints texts h)) (wrong 40)
on_hints ints texts h piece_is.Text = cond texts (go (hints ints texts h)) (wrong 40)
on_hints ints texts h (piece_is.Item k) = on_item h k
on_hints ints texts h piece_is.Body = on_body h
on_hints ints texts h piece_is.Join = wrong 40
on_hints ints texts h (piece_is.Wrong n) = wrong n

-- `HOA:`, behind nothing
abbrev pub opening_header : Header → HeadStep
opening_header header_is.Hoa = go version
opening_header header_is.States = wrong 40
opening_header header_is.Start = wrong 40
opening_header header_is.Ap = wrong 40
opening_header header_is.Alias = wrong 40
opening_header header_is.Acceptance = wrong 40
opening_header header_is.AccName = wrong 40
opening_header header_is.Tool = wrong 40
opening_header header_is.Name = wrong 40
opening_header header_is.Properties = wrong 40
opening_header header_is.State = wrong 40
opening_header header_is.Capital = wrong 40
opening_header header_is.Lower = wrong 40

unfoldable pub on_opening : Token → HeadStep
on_opening (header h) = opening_header h
on_opening (int i) = wrong 40
on_opening (word w) = wrong 40
on_opening (str bs) = wrong 40
on_opening aname = wrong 40
on_opening (sign s) = wrong 40
on_opening body = wrong 40
on_opening end = wrong 40
on_opening abort = wrong 40
on_opening finish = wrong 40
on_opening bad = wrong 40

-- "WORD behind `HOA:`: not `v1`" 41
abbrev pub version_word : Word → HeadStep
version_word word_is.V1 = go (items blank)
version_word word_is.True = wrong 41
version_word word_is.False = wrong 41
version_word word_is.Inf = wrong 41
version_word word_is.Fin = wrong 41
version_word word_is.Other = wrong 41

unfoldable pub on_version : Token → HeadStep
on_version (word w) = version_word w
on_version abort = wrong 41
on_version (int i) = wrong 40
on_version (header h) = wrong 40
on_version (str bs) = wrong 40
on_version aname = wrong 40
on_version (sign s) = wrong 40
on_version body = wrong 40
on_version end = wrong 40
on_version finish = wrong 40
on_version bad = wrong 40

unfoldable pub head_step : HeadState → Token → HeadStep
head_step opening t = on_opening t
head_step version t = on_version t
head_step (items h) t = on_piece h (piece_of t)
head_step (states_int h) t = wants_int (on_states h) t
head_step (start_int h) t = wants_int (on_start h) t
head_step (props_int h) t = wants_int (on_props h) t
head_step (marks_int h) t = wants_int (on_marks h) t
head_step (start_more h) t = on_start_more h (piece_of t)
head_step (names a ns h) t = on_names a ns h t
head_step (in_formula c s h) t = on_formula c h t (formula_step c s t)
head_step (acc_name h) t = on_acc_name h (piece_of t)
head_step (tool_text h) t = wants_text (tool_more h) t
head_step (tool_more h) t = on_tool_more h (piece_of t)
head_step (name_text h) t = wants_text (items h) t
head_step (hints ints texts h) t = on_hints ints texts h (piece_of t)
