-- What the functions that read a sig, a row and an edge promise: each makes a stretch of the machine of Rows.antt, from any rows so far. Assumes nothing.
use Rattle.std.specs.Prelude.{Option, Result, Ok, Err, ◌≡◌, Bool, true, false, List, ◌∷◌, ℕ, ◌≤◌, ◌<◌, ltb, length, get_or}
use Rattle.job_text.specs.Job.{most_job_states, most_job_edges}
use Rattle.hoa_tokens.specs.declared.BadToken.{BadToken}
use Rattle.hoa_tokens.specs.Token.{Token}
use Rattle.hoa_tokens.specs.Stream.{Placed, placed, tokens_at}
use Rattle.hoa_step.specs.Machine.{End, go, done, wrong, done_at, wrong_at, run}
use Rattle.hoa_step.specs.Wanted.{int_fault, Faulty}
use Rattle.hoa_label.specs.Labels.{label_begin}
use Rattle.hoa_entry.specs.declared.Limits.{Limits}
use Rattle.hoa_entry.specs.declared.Entry.{Entry}
use Rattle.hoa_entry.specs.declared.Entry.TheVariants as entry_is
use Rattle.hoa_entry.specs.declared.token.EntryAt.{EntryAt}
use Rattle.hoa_entry.specs.declared.sig.SigTurn.{SigTurn}
use Rattle.hoa_entry.specs.declared.sig.SigTurn.TheVariants as sig_turn
use Rattle.hoa_entry.specs.declared.sig.SigRead.{SigRead}
use Rattle.hoa_entry.specs.declared.row.NumberRead.{NumberRead}
use Rattle.hoa_entry.specs.declared.row.RowRead.{RowRead}
use Rattle.hoa_entry.specs.declared.edge.TargetRead.{TargetRead}
use Rattle.hoa_entry.specs.declared.edge.EdgeRead.{EdgeRead}
use Rattle.hoa_entry.specs.Sig.{SigStep, sig_step}
use Rattle.hoa_entry.specs.Rows as spec
use Rattle.hoa_entry.specs.Rows.{Rows, RowState, entries, row_number, row_name, row_sig, in_label, target, target_more, came, with_row, with_sig, with_edge, entry_of, row_step}

-- how the rows end, from a place of the text on
abbrev pub from : Limits → List ℕ → ℕ → RowState → End spec.Kept
from l text at s = run (row_step l) (tokens_at text at) s

-- ---- the rows' numbers

-- the rows so far are those that have a first edge's index
pub record Listed (seen firsts : List ℕ) : Type 0 where
  pub small : (q : ℕ) → came q seen ≡ true → q < most_job_states
  pub marked : (q : ℕ) → q < most_job_states → came q seen ≡ ltb 0 (get_or firsts q 0)

-- ---- one token

-- `next` stands behind `at`, within the text
pub record Onward (text : List ℕ) (at next : ℕ) : Type 0 where
  pub behind : at < next
  pub within : next ≤ length text

abbrev pub is_fault : Entry → Bool
is_fault entry_is.Row = false
is_fault entry_is.Edge = false
is_fault entry_is.Bare = false
is_fault entry_is.Close = false
is_fault entry_is.Sig = false
is_fault entry_is.Text = false
is_fault entry_is.Join = false
is_fault (entry_is.Wrong n) = true

-- the tokens behind a token that is no fault
pub record Behind (text : List ℕ) (at next : ℕ) (rest : List Placed) : Type 0 where
  pub is : rest ≡ tokens_at text next
  pub onward : Onward text at next

pub record EntryHere (text : List ℕ) (at : ℕ) (r : EntryAt) : Type 0 where
  pub token : Token
  pub rest : List Placed
  pub is : tokens_at text at ≡ placed r.place r.next token ∷ rest
  pub entry : entry_of token ≡ r.entry
  pub behind : is_fault r.entry ≡ false → Behind text at r.next rest

-- ---- a sig

abbrev pub sig_step_of : SigTurn → SigStep
sig_step_of (sig_turn.Go m) = go m
sig_step_of (sig_turn.Shut m) = done m
sig_step_of (sig_turn.Wrong n) = wrong n

abbrev pub sig_end : List ℕ → Result SigRead BadToken → End ℕ
sig_end text (Ok r) = done_at r.marks (tokens_at text r.next)
sig_end text (Err e) = wrong_at e.number e.place

abbrev pub SigOnward : List ℕ → ℕ → Result SigRead BadToken → Type 0
SigOnward text at (Ok r) = Onward text at r.next
SigOnward text at (Err e) = Unit

pub record SigAt (text : List ℕ) (at c before : ℕ) (r : Result SigRead BadToken) : Type 0 where
  pub is : run (sig_step c) (tokens_at text at) before ≡ sig_end text r
  pub onward : SigOnward text at r

-- a sig that may be missing
abbrev pub SigStays : List ℕ → ℕ → Result SigRead BadToken → Type 0
SigStays text at (Ok r) = (at ≤ r.next) × (at ≤ length text → r.next ≤ length text)
SigStays text at (Err e) = Unit

-- ---- a row

-- where a token that is no INT stands behind `State:`, r is its number
pub record LabelledAt (text : List ℕ) (at number r : ℕ) : Type 0 where
  pub is : (l : Limits) (b : Rows) (place : ℕ) → Faulty text at int_fault number place → from l text at (row_number b) ≡ wrong_at r place

abbrev pub number_end : Limits → List ℕ → Rows → Result NumberRead BadToken → End spec.Kept
number_end l text b (Ok r) = from l text r.next (row_name (with_row r.number b))
number_end l text b (Err e) = wrong_at e.number e.place

abbrev pub NumberOnward : List ℕ → ℕ → List ℕ → Result NumberRead BadToken → Type 0
NumberOnward text at firsts (Ok r) = Onward text at r.next × (r.number < most_job_states) × (get_or firsts r.number 0 ≡ 0)
NumberOnward text at firsts (Err e) = Unit

pub record NumberAt (states : Option ℕ) (text : List ℕ) (at : ℕ) (firsts : List ℕ) (r : Result NumberRead BadToken) : Type 0 where
  pub is : (l : Limits) (b : Rows) → l.states ≡ states → Listed b.seen firsts → from l text at (row_number b) ≡ number_end l text b r
  pub onward : NumberOnward text at firsts r

-- the place behind the name, if there is one
pub record NameAt (text : List ℕ) (at next : ℕ) : Type 0 where
  pub is : (l : Limits) (b : Rows) → from l text at (row_name b) ≡ from l text next (row_sig b)
  pub behind : at ≤ next
  pub within : at ≤ length text → next ≤ length text

abbrev pub row_sig_end : Limits → List ℕ → Rows → Result SigRead BadToken → End spec.Kept
row_sig_end l text b (Ok r) = from l text r.next (entries (with_sig r.marks b))
row_sig_end l text b (Err e) = wrong_at e.number e.place

pub record RowSigAt (text : List ℕ) (at c : ℕ) (r : Result SigRead BadToken) : Type 0 where
  pub is : (l : Limits) (b : Rows) → l.marks ≡ c → b.sig ≡ 0 → from l text at (row_sig b) ≡ row_sig_end l text b r
  pub onward : SigStays text at r

abbrev pub row_end : Limits → List ℕ → Rows → Result RowRead BadToken → End spec.Kept
row_end l text b (Ok r) = from l text r.next (entries (with_sig r.sig (with_row r.number b)))
row_end l text b (Err e) = wrong_at e.number e.place

abbrev pub RowOnward : List ℕ → ℕ → List ℕ → Result RowRead BadToken → Type 0
RowOnward text at firsts (Ok r) = Onward text at r.next × (r.number < most_job_states) × (get_or firsts r.number 0 ≡ 0)
RowOnward text at firsts (Err e) = Unit

pub record RowAt (l : Limits) (text : List ℕ) (at : ℕ) (firsts : List ℕ) (r : Result RowRead BadToken) : Type 0 where
  pub is : (b : Rows) → Listed b.seen firsts → from l text at (row_number b) ≡ row_end l text b r
  pub onward : RowOnward text at firsts r

-- ---- an edge

abbrev pub target_end : Limits → List ℕ → ℕ → Rows → Result TargetRead BadToken → End spec.Kept
target_end l text x b (Ok r) = from l text r.next (target_more x r.to b)
target_end l text x b (Err e) = wrong_at e.number e.place

abbrev pub TargetOnward : List ℕ → ℕ → Result TargetRead BadToken → Type 0
TargetOnward text at (Ok r) = Onward text at r.next
TargetOnward text at (Err e) = Unit

pub record TargetAt (states : Option ℕ) (text : List ℕ) (at : ℕ) (r : Result TargetRead BadToken) : Type 0 where
  pub is : (l : Limits) (x : ℕ) (b : Rows) → l.states ≡ states → from l text at (target x b) ≡ target_end l text x b r
  pub onward : TargetOnward text at r

abbrev pub edge_sig_end : Limits → List ℕ → ℕ → ℕ → Rows → Result SigRead BadToken → End spec.Kept
edge_sig_end l text x to b (Ok r) = from l text r.next (entries (with_edge x to r.marks b))
edge_sig_end l text x to b (Err e) = wrong_at e.number e.place

pub record EdgeSigAt (text : List ℕ) (at c before : ℕ) (r : Result SigRead BadToken) : Type 0 where
  pub is : (l : Limits) (x to : ℕ) (b : Rows) → l.marks ≡ c → b.sig ≡ before → from l text at (target_more x to b) ≡ edge_sig_end l text x to b r
  pub onward : SigStays text at r

abbrev pub edge_end : Limits → List ℕ → Rows → Result EdgeRead BadToken → End spec.Kept
edge_end l text b (Ok r) = from l text r.next (entries (with_edge r.set r.to r.marks b))
edge_end l text b (Err e) = wrong_at e.number e.place

-- an edge with these valuations ends behind `at`
abbrev pub ToOnward : List ℕ → ℕ → ℕ → Result EdgeRead BadToken → Type 0
ToOnward text at set (Ok r) = Onward text at r.next × (r.set ≡ set)
ToOnward text at set (Err e) = Unit

pub record ToAt (l : Limits) (text : List ℕ) (at before set : ℕ) (r : Result EdgeRead BadToken) : Type 0 where
  pub is : (b : Rows) → b.sig ≡ before → from l text at (target set b) ≡ edge_end l text b r
  pub onward : ToOnward text at set r

-- an edge that is kept finds room
abbrev pub EdgeOnward : List ℕ → ℕ → ℕ → Result EdgeRead BadToken → Type 0
EdgeOnward text at kept (Ok r) = Onward text at r.next × (0 < r.set → kept < most_job_edges)
EdgeOnward text at kept (Err e) = Unit

pub record EdgeAt (l : Limits) (text : List ℕ) (at before kept : ℕ) (r : Result EdgeRead BadToken) : Type 0 where
  pub is : (b : Rows) → b.sig ≡ before → length b.edges ≡ kept → from l text at (in_label label_begin b) ≡ edge_end l text b r
  pub onward : EdgeOnward text at kept r
