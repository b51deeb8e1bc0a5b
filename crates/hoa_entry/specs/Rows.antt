-- The rows token by token, behind `--BODY--` (docs/RULES.md, "The Hanoi format", the faulty token). Assumes nothing.
use Rattle.std.specs.Prelude.{Option, Some, None, Bool, false, cond, ◌||◌, ◌&&◌, List, [], ◌∷◌, ◌++◌, ℕ, zero, suc, max, eqb, ltb, leb, length}
use Rattle.job_text.specs.Value.{Edge}
use Rattle.hoa_tokens.specs.declared.Header.{Header}
use Rattle.hoa_tokens.specs.declared.Header.TheVariants as header_is
use Rattle.hoa_tokens.specs.declared.Sign.{Sign}
use Rattle.hoa_tokens.specs.declared.Sign.TheVariants as sign_is
use Rattle.hoa_tokens.specs.Token.{Token, int, word, header, str, aname, sign, body, end, abort, finish, bad}
use Rattle.hoa_label.specs.Labels as label
use Rattle.hoa_label.specs.Labels.{LabelState, label_begin, label_step, LabelStep}
use Rattle.hoa_entry.specs.declared.Limits.{Limits}
use Rattle.hoa_step.specs.Given.{not_below}
use Rattle.job_text.specs.Job.{most_job_states, most_job_edges}
use Rattle.hoa_entry.specs.declared.Entry.{Entry}
use Rattle.hoa_entry.specs.declared.Entry.TheVariants as entry_is
use Rattle.hoa_step.specs.Machine.{Step, go, done, wrong, wants_int}
use Rattle.hoa_entry.specs.Sig.{sig_step, SigStep}

-- ---- the rows so far

pub record Rows : Type 0 where
  -- their numbers, the last one first
  pub seen : List ℕ
  -- the marks of the last one's sig
  pub sig : ℕ
  -- the edges that are kept, in the text's order
  pub edges : List Edge
  -- the largest of the start, the rows' numbers and the targets
  pub largest : ℕ

abbrev pub rows : List ℕ → ℕ → List Edge → ℕ → Rows
rows seen marks es largest = record { seen = seen; sig = marks; edges = es; largest = largest }

-- before the first row, where s is the start
abbrev pub no_rows : ℕ → Rows
no_rows s = rows [] 0 [] s

-- the number of the last row
abbrev pub last_row : List ℕ → ℕ
last_row [] = 0
last_row (q ∷ qs) = q

-- a row begins
abbrev pub with_row : ℕ → Rows → Rows
with_row q b = rows (q ∷ b.seen) 0 b.edges (max b.largest q)

-- the row's sig
abbrev pub with_sig : ℕ → Rows → Rows
with_sig m b = rows b.seen m b.edges b.largest

-- "An edge that no valuation satisfies is checked like any other and then not kept"
abbrev pub kept : ℕ → ℕ → ℕ → ℕ → List Edge
kept zero q to m = []
kept (suc x) q to m = record { from = q; to = to; marks = m } ∷ []

-- the edge of the last row with this set of valuations, target and marks
abbrev pub with_edge : ℕ → ℕ → ℕ → Rows → Rows
with_edge x to m b = rows b.seen b.sig (b.edges ++ kept x (last_row b.seen) to m) (max b.largest to)

-- a row so far has this number
abbrev pub came : ℕ → List ℕ → Bool
came q [] = false
came q (r ∷ rs) = eqb q r || came q rs

-- ---- where the rows stand

pub data RowState : Type 0 where
  -- a row, `--END--` or, behind a row's number, an edge may begin
  entries : Rows → RowState
  -- the INT of a row is wanted
  row_number : Rows → RowState
  -- behind it
  row_name : Rows → RowState
  -- behind the row's name
  row_sig : Rows → RowState
  -- in the row's sig, with these marks so far
  row_marks : ℕ → Rows → RowState
  -- in an edge's label
  in_label : LabelState → Rows → RowState
  -- the INT of the target is wanted; the label's set of valuations
  target : ℕ → Rows → RowState
  -- behind it; the set and the target
  target_more : ℕ → ℕ → Rows → RowState
  -- in the edge's sig, with these marks so far
  edge_marks : ℕ → ℕ → ℕ → Rows → RowState
  -- behind `--END--`
  closing : Rows → RowState

-- the edges that are kept, and how many states there are
pub record Kept : Type 0 where
  pub states : ℕ
  pub edges : List Edge

abbrev pub RowStep : Type 0
RowStep = Step RowState Kept

-- ---- what a token is

abbrev pub entry_header : Header → Entry
entry_header header_is.State = entry_is.Row
entry_header header_is.Hoa = entry_is.Wrong 40
entry_header header_is.States = entry_is.Wrong 40
entry_header header_is.Start = entry_is.Wrong 40
entry_header header_is.Ap = entry_is.Wrong 40
entry_header header_is.Alias = entry_is.Wrong 40
entry_header header_is.Acceptance = entry_is.Wrong 40
entry_header header_is.AccName = entry_is.Wrong 40
entry_header header_is.Tool = entry_is.Wrong 40
entry_header header_is.Name = entry_is.Wrong 40
entry_header header_is.Properties = entry_is.Wrong 40
entry_header header_is.Capital = entry_is.Wrong 40
entry_header header_is.Lower = entry_is.Wrong 40

abbrev pub entry_sign : Sign → Entry
entry_sign sign_is.BracketLeft = entry_is.Edge
entry_sign sign_is.BraceLeft = entry_is.Sig
entry_sign sign_is.And = entry_is.Join
entry_sign sign_is.ParenLeft = entry_is.Wrong 40
entry_sign sign_is.ParenRight = entry_is.Wrong 40
entry_sign sign_is.BracketRight = entry_is.Wrong 40
entry_sign sign_is.BraceRight = entry_is.Wrong 40
entry_sign sign_is.Or = entry_is.Wrong 40
entry_sign sign_is.Not = entry_is.Wrong 40

unfoldable pub entry_of : Token → Entry
entry_of (header h) = entry_header h
entry_of (sign s) = entry_sign s
entry_of (int i) = entry_is.Bare
entry_of (str bs) = entry_is.Text
entry_of end = entry_is.Close
entry_of abort = entry_is.Wrong 41
entry_of (word w) = entry_is.Wrong 40
entry_of aname = entry_is.Wrong 40
entry_of body = entry_is.Wrong 40
entry_of finish = entry_is.Wrong 40
entry_of bad = entry_is.Wrong 40

-- ---- one token

-- "`State:`: n given and n rows so far"
abbrev pub full_rows : Limits → Rows → Bool
full_rows l b = not_below (length b.seen) l.states

-- "fewer than n rows", or without n "a number among s, rows and targets that is not below the number of rows"
abbrev pub wrong_end : Option ℕ → Rows → Bool
wrong_end (Some n) b = ltb (length b.seen) n
wrong_end None b = leb (length b.seen) b.largest

-- "An edge before the first `State:`" is 40
abbrev pub behind_row : List ℕ → RowStep → RowStep
behind_row [] s = wrong 40
behind_row (q ∷ qs) s = s

-- where an edge, a row or `--END--` may begin; "INT where an edge may begin: always (no label)" 41
abbrev pub on_entry : Limits → Rows → Entry → RowStep
on_entry l b entry_is.Row = cond (full_rows l b) (wrong 41) (go (row_number b))
on_entry l b entry_is.Edge = behind_row b.seen (go (in_label label_begin b))
on_entry l b entry_is.Bare = behind_row b.seen (wrong 41)
on_entry l b entry_is.Close = cond (wrong_end l.states b) (wrong 41) (go (closing b))
on_entry l b entry_is.Sig = wrong 40
on_entry l b entry_is.Text = wrong 40
on_entry l b entry_is.Join = wrong 40
on_entry l b (entry_is.Wrong n) = wrong n

-- "`[` behind `State:`: always (labels on states)" 41; "INT of a row: not below n given, or a row so far has it" 41, "above 255" 42
abbrev pub on_number : Limits → Rows → ℕ → RowStep
on_number l b q =
    cond (not_below q l.states || came q b.seen) (wrong 41) (cond (leb most_job_states q) (wrong 42) (go (row_name (with_row q b))))

abbrev pub labelled : Entry → RowStep → RowStep
labelled entry_is.Edge s = wrong 41
labelled entry_is.Row s = s
labelled entry_is.Bare s = s
labelled entry_is.Close s = s
labelled entry_is.Sig s = s
labelled entry_is.Text s = s
labelled entry_is.Join s = s
labelled (entry_is.Wrong n) s = s

-- behind a row's name: its sig, or what follows
abbrev pub on_sig : Limits → Rows → Entry → RowStep
on_sig l b entry_is.Sig = go (row_marks 0 b)
on_sig l b entry_is.Row = on_entry l b entry_is.Row
on_sig l b entry_is.Edge = on_entry l b entry_is.Edge
on_sig l b entry_is.Bare = on_entry l b entry_is.Bare
on_sig l b entry_is.Close = on_entry l b entry_is.Close
on_sig l b entry_is.Text = on_entry l b entry_is.Text
on_sig l b entry_is.Join = on_entry l b entry_is.Join
on_sig l b (entry_is.Wrong n) = on_entry l b (entry_is.Wrong n)

-- behind a row's number: its name, its sig, or what follows
abbrev pub on_name : Limits → Rows → Entry → RowStep
on_name l b entry_is.Text = go (row_sig b)
on_name l b entry_is.Row = on_sig l b entry_is.Row
on_name l b entry_is.Edge = on_sig l b entry_is.Edge
on_name l b entry_is.Bare = on_sig l b entry_is.Bare
on_name l b entry_is.Close = on_sig l b entry_is.Close
on_name l b entry_is.Sig = on_sig l b entry_is.Sig
on_name l b entry_is.Join = on_sig l b entry_is.Join
on_name l b (entry_is.Wrong n) = on_sig l b (entry_is.Wrong n)

-- in the row's sig
abbrev pub on_row_marks : Rows → SigStep → RowStep
on_row_marks b (go m) = go (row_marks m b)
on_row_marks b (done m) = go (entries (with_sig m b))
on_row_marks b (wrong n) = wrong n

-- "`]` of an edge: label satisfiable and 512 edges kept so far" 42
abbrev pub shut_label : ℕ → Rows → RowStep
shut_label x b = cond (ltb 0 x && leb most_job_edges (length b.edges)) (wrong 42) (go (target x b))

-- in an edge's label
abbrev pub on_label : Rows → LabelStep → RowStep
on_label b (label.go s) = go (in_label s b)
on_label b (label.shut x) = shut_label x b
on_label b (label.wrong n) = wrong n

-- "INT of a target: not below n given" 41, "above 255" 42
abbrev pub on_target : Limits → ℕ → Rows → ℕ → RowStep
on_target l x b to = cond (not_below to l.states) (wrong 41) (cond (leb most_job_states to) (wrong 42) (go (target_more x to b)))

-- behind a target: "`&`: always" 41; a sig, or what follows the edge
abbrev pub on_more : Limits → ℕ → ℕ → Rows → Entry → RowStep
on_more l x to b entry_is.Join = wrong 41
on_more l x to b entry_is.Sig = go (edge_marks b.sig x to b)
on_more l x to b entry_is.Row = on_entry l (with_edge x to b.sig b) entry_is.Row
on_more l x to b entry_is.Edge = on_entry l (with_edge x to b.sig b) entry_is.Edge
on_more l x to b entry_is.Bare = on_entry l (with_edge x to b.sig b) entry_is.Bare
on_more l x to b entry_is.Close = on_entry l (with_edge x to b.sig b) entry_is.Close
on_more l x to b entry_is.Text = on_entry l (with_edge x to b.sig b) entry_is.Text
on_more l x to b (entry_is.Wrong n) = on_entry l (with_edge x to b.sig b) (entry_is.Wrong n)

-- in the edge's sig; "each with the marks of the row's sig and its own together"
abbrev pub on_edge_marks : ℕ → ℕ → Rows → SigStep → RowStep
on_edge_marks x to b (go m) = go (edge_marks m x to b)
on_edge_marks x to b (done m) = go (entries (with_edge x to m b))
on_edge_marks x to b (wrong n) = wrong n

-- behind `--END--`: "`HOA:` behind `--END--`: always" 41
abbrev pub closing_header : Header → RowStep
closing_header header_is.Hoa = wrong 41
closing_header header_is.States = wrong 40
closing_header header_is.Start = wrong 40
closing_header header_is.Ap = wrong 40
closing_header header_is.Alias = wrong 40
closing_header header_is.Acceptance = wrong 40
closing_header header_is.AccName = wrong 40
closing_header header_is.Tool = wrong 40
closing_header header_is.Name = wrong 40
closing_header header_is.Properties = wrong 40
closing_header header_is.State = wrong 40
closing_header header_is.Capital = wrong 40
closing_header header_is.Lower = wrong 40

unfoldable pub on_closing : Rows → Token → RowStep
on_closing b finish = done (record { states = length b.seen; edges = b.edges })
on_closing b (header h) = closing_header h
on_closing b (int i) = wrong 40
on_closing b (word w) = wrong 40
on_closing b (str bs) = wrong 40
on_closing b aname = wrong 40
on_closing b (sign s) = wrong 40
on_closing b body = wrong 40
on_closing b end = wrong 40
on_closing b abort = wrong 40
on_closing b bad = wrong 40

unfoldable pub row_step : Limits → RowState → Token → RowStep
row_step l (entries b) t = on_entry l b (entry_of t)
row_step l (row_number b) t = labelled (entry_of t) (wants_int (on_number l b) t)
row_step l (row_name b) t = on_name l b (entry_of t)
row_step l (row_sig b) t = on_sig l b (entry_of t)
row_step l (row_marks m b) t = on_row_marks b (sig_step l.marks m t)
row_step l (in_label s b) t = on_label b (label_step l.props s t)
row_step l (target x b) t = wants_int (on_target l x b) t
row_step l (target_more x to b) t = on_more l x to b (entry_of t)
row_step l (edge_marks m x to b) t = on_edge_marks x to b (sig_step l.marks m t)
row_step l (closing b) t = on_closing b t
