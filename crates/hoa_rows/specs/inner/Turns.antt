-- One entry of the rows, and all of them. Assumes nothing.
use Rattle.std.specs.Prelude.{Option, Some, None, Result, Ok, Err, ◌≡◌, Bool, cond, List, ℕ, eqb, ltb, leb, length}
use Rattle.hoa_tokens.specs.declared.BadToken.{BadToken}
use Rattle.hoa_tokens.specs.declared.Header.{Header}
use Rattle.hoa_tokens.specs.declared.Header.TheVariants as header_is
use Rattle.hoa_tokens.specs.Token.{Token, int, word, header, str, aname, sign, body, end, abort, finish, bad}
use Rattle.hoa_tokens.specs.Stream.{Placed}
use Rattle.hoa_step.specs.Given.{not_below}
use Rattle.hoa_step.specs.Machine.{End, go, wrong, done_at, wrong_at}
use Rattle.hoa_label.specs.Labels.{label_begin}
use Rattle.hoa_entry.specs.declared.Limits.{Limits}
use Rattle.hoa_entry.specs.declared.Entry.{Entry}
use Rattle.hoa_entry.specs.declared.Entry.TheVariants as entry_is
use Rattle.hoa_kept.specs.declared.held.RowsSoFar.{RowsSoFar}
use Rattle.hoa_rows.specs.declared.reader.Admitted.{Admitted}
use Rattle.hoa_rows.specs.declared.reader.Admitted.TheVariants as admitted_is
use Rattle.hoa_entry.specs.Rows as spec
use Rattle.hoa_entry.specs.Rows.{Rows, RowStep, entries, row_number, in_label, closing}
use Rattle.hoa_entry.specs.inner.Reads.{from, Onward}
use Rattle.hoa_kept.specs.inner.Held.{Holds, Room}

-- ---- what may begin

-- `--END--` is wrong by the rows' numbers
abbrev pub ends_wrong : Option ℕ → RowsSoFar → Bool
ends_wrong None s = leb s.count s.largest
ends_wrong (Some n) s = ltb s.count n

abbrev pub admitted_of : Option ℕ → RowsSoFar → Entry → Result Admitted ℕ
admitted_of states s entry_is.Row = cond (not_below s.count states) (Err 41) (Ok admitted_is.Row)
admitted_of states s entry_is.Edge = cond (eqb s.count 0) (Err 40) (Ok admitted_is.Edge)
admitted_of states s entry_is.Bare = cond (eqb s.count 0) (Err 40) (Err 41)
admitted_of states s entry_is.Close = cond (ends_wrong states s) (Err 41) (Ok admitted_is.Close)
admitted_of states s entry_is.Sig = Err 40
admitted_of states s entry_is.Text = Err 40
admitted_of states s entry_is.Join = Err 40
admitted_of states s (entry_is.Wrong n) = Err n

-- the step that this is
abbrev pub admitted_step : Rows → Result Admitted ℕ → RowStep
admitted_step b (Ok admitted_is.Row) = go (row_number b)
admitted_step b (Ok admitted_is.Edge) = go (in_label label_begin b)
admitted_step b (Ok admitted_is.Close) = go (closing b)
admitted_step b (Err n) = wrong n

-- ---- behind `--END--`

abbrev pub closing_header_fault : Header → ℕ
closing_header_fault header_is.Hoa = 41
closing_header_fault header_is.States = 40
closing_header_fault header_is.Start = 40
closing_header_fault header_is.Ap = 40
closing_header_fault header_is.Alias = 40
closing_header_fault header_is.Acceptance = 40
closing_header_fault header_is.AccName = 40
closing_header_fault header_is.Tool = 40
closing_header_fault header_is.Name = 40
closing_header_fault header_is.Properties = 40
closing_header_fault header_is.State = 40
closing_header_fault header_is.Capital = 40
closing_header_fault header_is.Lower = 40

-- none for the text's end
abbrev pub closing_fault : Token → Option ℕ
closing_fault finish = None
closing_fault (header h) = Some (closing_header_fault h)
closing_fault (int i) = Some 40
closing_fault (word w) = Some 40
closing_fault (str bs) = Some 40
closing_fault aname = Some 40
closing_fault (sign s) = Some 40
closing_fault body = Some 40
closing_fault end = Some 40
closing_fault abort = Some 40
closing_fault bad = Some 40

-- what the rows keep
abbrev pub kept_by : Rows → spec.Kept
kept_by b = record { states = length b.seen; edges = b.edges }

-- the text's end stands behind `--END--`
pub record Closed (text : List ℕ) (at : ℕ) : Type 0 where
  pub rest : List Placed
  pub is : (l : Limits) (b : Rows) → from l text at (closing b) ≡ done_at (kept_by b) rest

abbrev pub CloseAt : List ℕ → ℕ → Result Unit BadToken → Type 0
CloseAt text at (Ok u) = Closed text at
CloseAt text at (Err e) = (l : Limits) (b : Rows) → from l text at (closing b) ≡ wrong_at e.number e.place

-- ---- an entry

-- the rows go on, held by these numbers and tables
pub record GoesOn (l : Limits) (text : List ℕ) (all : End spec.Kept) (next : ℕ) (r : RowsSoFar) : Type 0 where
  pub rows : Rows
  pub held : Holds rows r
  pub is : all ≡ from l text next (entries rows)

-- the rows are read
pub record Finished (all : End spec.Kept) (r : RowsSoFar) : Type 0 where
  pub rows : Rows
  pub held : Holds rows r
  pub rest : List Placed
  pub is : all ≡ done_at (kept_by rows) rest

abbrev pub Ended : End spec.Kept → RowsSoFar → Result Unit BadToken → Type 0
Ended all r (Ok u) = Finished all r
Ended all r (Err e) = all ≡ wrong_at e.number e.place

-- a turn that goes on leaves room, and ends behind `at`
pub record GoesRoom (text : List ℕ) (at next : ℕ) (r : RowsSoFar) : Type 0 where
  pub room : Room r next
  pub onward : Onward text at next

-- a row or an edge
abbrev pub PartSays : Limits → List ℕ → End spec.Kept → RowsSoFar → Result ℕ BadToken → Type 0
PartSays l text all r (Ok next) = GoesOn l text all next r
PartSays l text all r (Err e) = all ≡ wrong_at e.number e.place

abbrev pub PartRoom : List ℕ → ℕ → RowsSoFar → Result ℕ BadToken → Type 0
PartRoom text at r (Ok next) = GoesRoom text at next r
PartRoom text at r (Err e) = Unit

pub record RowTaken (l : Limits) (text : List ℕ) (at : ℕ) (s r : RowsSoFar) (next : Result ℕ BadToken) : Type 0 where
  pub is : (b : Rows) → Holds b s → PartSays l text (from l text at (row_number b)) r next
  pub room : PartRoom text at r next

-- behind a row
pub record EdgeTaken (l : Limits) (text : List ℕ) (at : ℕ) (s r : RowsSoFar) (next : Result ℕ BadToken) : Type 0 where
  pub is : (b : Rows) → (s.count ≡ 0 → ⊥) → Holds b s → PartSays l text (from l text at (in_label label_begin b)) r next
  pub room : PartRoom text at r next

-- a row, an edge, or the end
abbrev pub TurnSays : Limits → List ℕ → End spec.Kept → RowsSoFar → Result (Option ℕ) BadToken → Type 0
TurnSays l text all r (Ok (Some next)) = GoesOn l text all next r
TurnSays l text all r (Ok None) = Finished all r
TurnSays l text all r (Err e) = all ≡ wrong_at e.number e.place

abbrev pub TurnRoom : List ℕ → ℕ → RowsSoFar → Result (Option ℕ) BadToken → Type 0
TurnRoom text at r (Ok (Some next)) = GoesRoom text at next r
TurnRoom text at r (Ok None) = Unit
TurnRoom text at r (Err e) = Unit

pub record Turned (l : Limits) (text : List ℕ) (at : ℕ) (s r : RowsSoFar) (next : Result (Option ℕ) BadToken) : Type 0 where
  pub is : (b : Rows) → Holds b s → TurnSays l text (from l text at (entries b)) r next
  pub room : TurnRoom text at r next
