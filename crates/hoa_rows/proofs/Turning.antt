-- One entry of the rows, and all of them. Assumes nothing.
use Rattle.std.specs.Prelude.{Option, Some, None, Result, Ok, Err}
use mathlib.Core.Path.{◌≡◌, refl, sym, ap, ◌∙◌}
use mathlib.Core.Bool.{Bool, true, false, false≢true, cond}
use mathlib.Core.List.{List, [], ◌∷◌}
use Prim.Native.Nat.{ℕ, zero, suc, ◌<◌}
use native.Mathlib.Omega.{arith}
use borrow.Author.Tests.{ne_eqb}
use lib.Dec.{eqb}
use lib.ListN.{length}
use Rattle.hoa_tokens.proofs.Sizes.{by_test}
use Rattle.job_text.specs.Job.{most_job_edges}
use Rattle.hoa_tokens.specs.declared.BadToken.{BadToken}
use Rattle.hoa_tokens.specs.declared.Header.{Header}
use Rattle.hoa_tokens.specs.declared.Header.TheVariants as header_is
use Rattle.hoa_tokens.specs.declared.Found.{Found}
use Rattle.hoa_tokens.specs.Token.{Token, int, word, header, str, aname, sign, body, end, abort, finish, bad}
use Rattle.hoa_tokens.specs.Stream.{Placed, tokens_at, token_of, unless_finished, TokenAt, bad_at}
use Rattle.hoa_tokens.proofs.Next.{tokens_next}
use Rattle.hoa_step.specs.Given.{not_below}
use Rattle.hoa_step.specs.Machine.{End, go, done, wrong, wrong_at, run}
use Rattle.hoa_label.specs.Labels.{label_begin}
use Rattle.hoa_entry.specs.declared.Limits.{Limits}
use Rattle.hoa_entry.specs.declared.Entry.{Entry}
use Rattle.hoa_entry.specs.declared.Entry.TheVariants as entry_is
use Rattle.hoa_entry.specs.declared.token.EntryAt.{EntryAt}
use Rattle.hoa_kept.specs.declared.held.RowsSoFar.{RowsSoFar}
use Rattle.hoa_entry.specs.declared.row.RowRead.{RowRead}
use Rattle.hoa_entry.specs.declared.edge.EdgeRead.{EdgeRead}
use Rattle.hoa_rows.specs.declared.reader.Admitted.{Admitted}
use Rattle.hoa_rows.specs.declared.reader.Admitted.TheVariants as admitted_is
use Rattle.hoa_entry.specs.Rows as spec
use Rattle.hoa_entry.specs.Rows.{Rows, RowStep, no_rows, entries, row_number, in_label, closing, with_row}
use Rattle.hoa_entry.specs.Rows.{with_sig, with_edge, behind_row, on_entry, closing_header, on_closing, row_step}
use Rattle.hoa_rows.specs.Lent.{rows_end}
use Rattle.hoa_entry.specs.inner.Reads.{from, Onward, EntryHere, Behind, is_fault, RowAt, EdgeAt}
use Rattle.hoa_kept.specs.inner.Held.{Holds, Room, RowRoom, EdgeRoom, none_yet, row_begun, rows_with}
use Rattle.hoa_rows.specs.inner.Turns.{ends_wrong, admitted_of, admitted_step, closing_header_fault, closing_fault, kept_by, Closed, CloseAt}
use Rattle.hoa_rows.specs.inner.Turns.{GoesOn, PartSays, PartRoom, RowTaken, EdgeTaken, TurnSays, TurnRoom, Turned}
use Rattle.hoa_entry.proofs.Steps.{step_goes, step_ends, step_faults}
use Rattle.hoa_kept.proofs.Holding.{holds_none, holds_row, holds_edge}

-- ---- what may begin

behind_go : (b : Rows) (qs : List ℕ) → behind_row qs (go (in_label label_begin b)) ≡ admitted_step b (cond (eqb (length qs) 0) (Err 40) (Ok admitted_is.Edge))
behind_go b [] = refl
behind_go b (q ∷ qs) = rw (ne_eqb (suc (length qs)) 0 (λ (e : suc (length qs) ≡ 0). omega arith))

behind_bare : (b : Rows) (qs : List ℕ) → behind_row qs (wrong 41) ≡ admitted_step b (cond (eqb (length qs) 0) (Err 40) (Err 41))
behind_bare b [] = refl
behind_bare b (q ∷ qs) = rw (ne_eqb (suc (length qs)) 0 (λ (e : suc (length qs) ≡ 0). omega arith))

module _ (l : Limits) (b : Rows) (s : RowsSoFar) (c : s.count ≡ length b.seen) (m : s.largest ≡ b.largest) where
  ends_same : (g : Option ℕ) → ends_wrong g s ≡ spec.wrong_end g b
  ends_same None = rw (c, m)
  ends_same (Some n) = rw c

  pub admitted_step_lem : (e : Entry) → on_entry l b e ≡ admitted_step b (admitted_of l.states s e)
  admitted_step_lem entry_is.Row = rw c (by_test (not_below (length b.seen) l.states) (λ t. rw t) (λ t. rw t))
  admitted_step_lem entry_is.Edge = rw c (behind_go b b.seen)
  admitted_step_lem entry_is.Bare = rw c (behind_bare b b.seen)
  admitted_step_lem entry_is.Close = rw (ends_same l.states) (by_test (spec.wrong_end l.states b) (λ t. rw t) (λ t. rw t))
  admitted_step_lem entry_is.Sig = refl
  admitted_step_lem entry_is.Text = refl
  admitted_step_lem entry_is.Join = refl
  admitted_step_lem (entry_is.Wrong n) = refl

-- ---- behind `--END--`

-- the end, or a fault
abbrev closing_by : Rows → Option ℕ → RowStep
closing_by b None = done (kept_by b)
closing_by b (Some n) = wrong n

header_closes : (h : Header) → closing_header h ≡ wrong (closing_header_fault h)
header_closes header_is.Hoa = refl
header_closes header_is.States = refl
header_closes header_is.Start = refl
header_closes header_is.Ap = refl
header_closes header_is.Alias = refl
header_closes header_is.Acceptance = refl
header_closes header_is.AccName = refl
header_closes header_is.Tool = refl
header_closes header_is.Name = refl
header_closes header_is.Properties = refl
header_closes header_is.State = refl
header_closes header_is.Capital = refl
header_closes header_is.Lower = refl

token_closes : (l : Limits) (b : Rows) (t : Token) → row_step l (closing b) t ≡ closing_by b (closing_fault t)
unfolding row_step on_closing
token_closes l b finish = refl
token_closes l b (header h) = header_closes h
token_closes l b (int i) = refl
token_closes l b (word w) = refl
token_closes l b (str bs) = refl
token_closes l b aname = refl
token_closes l b (sign s) = refl
token_closes l b body = refl
token_closes l b end = refl
token_closes l b abort = refl
token_closes l b bad = refl

module _ (text : List ℕ) (at : ℕ) (f : Found) (h : TokenAt text at f) (r : Option ℕ) (e : r ≡ closing_fault (token_of text f.first f.next f.kind)) where
  pub closes : r ≡ None → Closed text at
  closes z =
      record {
        rest = unless_finished (token_of text f.first f.next f.kind) (tokens_at text f.next);
        is = λ l b. step_ends (row_step l) (closing b) (tokens_next text at f h) (kept_by b) (token_closes l b _ ∙ ap (closing_by b) (sym e ∙ z));
      }

  pub closes_wrong : (n : ℕ) → r ≡ Some n → (l : Limits) (b : Rows) → from l text at (closing b) ≡ wrong_at n f.first
  closes_wrong n z l b = step_faults (row_step l) (closing b) (tokens_next text at f h) n (token_closes l b _ ∙ ap (closing_by b) (sym e ∙ z))

-- ---- a row and an edge

module _ (l : Limits) (text : List ℕ) (at : ℕ) (s : RowsSoFar) (room : Room s at) where
  pub row_turned_wrong : {r : Result RowRead BadToken} {e : BadToken} → r ≡ Err e → RowAt l text at s.firsts r → RowTaken l text at s s (Err e)
  row_turned_wrong e h = let k = rw e at h in record { is = λ b d. k.is b d.listed; room = tt }

  pub row_room : {r : Result RowRead BadToken} {row : RowRead} → length text < 9223372036854775808 → r ≡ Ok row → RowAt l text at s.firsts r → RowRoom s row.number
  row_room small e h =
      let k = rw e at h in
      record { some = omega (arith, room.rows, k.onward.0.behind, k.onward.0.within); edges = room.edges; state = k.onward.1 }

  pub row_turned : {r : Result RowRead BadToken} {row : RowRead} → r ≡ Ok row → RowAt l text at s.firsts r → RowTaken l text at s (row_begun s row.number row.sig) (Ok row.next)
  row_turned {row = row} e h =
      let k = rw e at h in
      record {
        is =
            λ b d.
            record {
              rows = with_sig row.sig (with_row row.number b);
              held = holds_row b s d row.number row.sig k.onward.1 k.onward.2;
              is = k.is b d.listed;
            };
        room =
            record { room = record { rows = omega (arith, room.rows, k.onward.0.behind); state = k.onward.1; edges = room.edges }; onward = k.onward.0 };
      }

  pub edge_turned_wrong : {r : Result EdgeRead BadToken} {e : BadToken} → r ≡ Err e → EdgeAt l text at s.sig s.kept r → EdgeTaken l text at s s (Err e)
  edge_turned_wrong e h = let k = rw e at h in record { is = λ b some d. k.is b (sym d.sig) (sym d.kept); room = tt }

  pub edge_room : {r : Result EdgeRead BadToken} {edge : EdgeRead} → r ≡ Ok edge → EdgeAt l text at s.sig s.kept r → EdgeRoom s edge.set
  edge_room e h = let k = rw e at h in record { state = room.state; edges = room.edges; one_more = k.onward.1 }

  kept_room : (x to m next : ℕ) → at < next → (0 < x → s.kept < most_job_edges) → Room (rows_with s x to m) next
  kept_room zero to m next o f = record { rows = omega (arith, room.rows); state = room.state; edges = room.edges }
  kept_room (suc x) to m next o f = record { rows = omega (arith, room.rows); state = room.state; edges = omega (arith, f (omega arith)) }

  pub edge_turned : {r : Result EdgeRead BadToken} {edge : EdgeRead} → r ≡ Ok edge → EdgeAt l text at s.sig s.kept r
      → EdgeTaken l text at s (rows_with s edge.set edge.to edge.marks) (Ok edge.next)
  edge_turned {edge = edge} e h =
      let k = rw e at h in
      record {
        is =
            λ b some d.
            record {
              rows = with_edge edge.set edge.to edge.marks b;
              held = holds_edge b s d edge.set edge.to edge.marks some room.state k.onward.1;
              is = k.is b (sym d.sig) (sym d.kept);
            };
        room = record { room = kept_room edge.set edge.to edge.marks edge.next k.onward.0.behind k.onward.1; onward = k.onward.0 };
      }

-- ---- an entry

abbrev pub is_wrong : Result Admitted ℕ → Bool
is_wrong (Ok w) = false
is_wrong (Err n) = true

no_fault_lem : (g : Option ℕ) (s : RowsSoFar) (e : Entry) → is_wrong (admitted_of g s e) ≡ false → is_fault e ≡ false
no_fault_lem g s (entry_is.Wrong n) h = absurd (false≢true (sym h))
no_fault_lem g s entry_is.Row h = refl
no_fault_lem g s entry_is.Edge h = refl
no_fault_lem g s entry_is.Bare h = refl
no_fault_lem g s entry_is.Close h = refl
no_fault_lem g s entry_is.Sig h = refl
no_fault_lem g s entry_is.Text h = refl
no_fault_lem g s entry_is.Join h = refl

edge_some : (g : Option ℕ) (s : RowsSoFar) (e : Entry) → admitted_of g s e ≡ Ok admitted_is.Edge → s.count ≡ 0 → ⊥
edge_some g s entry_is.Edge h z = let t : is_wrong (admitted_of g s entry_is.Edge) ≡ true = rw z in false≢true (sym (ap is_wrong h) ∙ t)
edge_some g s entry_is.Row h z =
    by_test (not_below s.count g) (λ t. let y : ◌≡◌ {A = ℕ} 0 1 = cc (rw t at h) in omega arith)
    (λ t. let y : ◌≡◌ {A = ℕ} 0 1 = cc (rw t at h) in omega arith)
edge_some g s entry_is.Bare h z =
    by_test (eqb s.count 0) (λ t. let y : ◌≡◌ {A = ℕ} 0 1 = cc (rw t at h) in omega arith)
    (λ t. let y : ◌≡◌ {A = ℕ} 0 1 = cc (rw t at h) in omega arith)
edge_some g s entry_is.Close h z =
    by_test (ends_wrong g s) (λ t. let y : ◌≡◌ {A = ℕ} 0 1 = cc (rw t at h) in omega arith)
    (λ t. let y : ◌≡◌ {A = ℕ} 0 1 = cc (rw t at h) in omega arith)
edge_some g s entry_is.Sig h z = let y : ◌≡◌ {A = ℕ} 0 1 = cc in omega arith
edge_some g s entry_is.Text h z = let y : ◌≡◌ {A = ℕ} 0 1 = cc in omega arith
edge_some g s entry_is.Join h z = let y : ◌≡◌ {A = ℕ} 0 1 = cc in omega arith
edge_some g s (entry_is.Wrong n) h z = let y : ◌≡◌ {A = ℕ} 0 1 = cc in omega arith

-- a row or an edge is a turn
abbrev pub as_turn : Result ℕ BadToken → Result (Option ℕ) BadToken
as_turn (Ok next) = Ok (Some next)
as_turn (Err e) = Err e

says_turn : (l : Limits) (text : List ℕ) (all : End spec.Kept) (r : RowsSoFar) (next : Result ℕ BadToken)
    → PartSays l text all r next → TurnSays l text all r (as_turn next)
says_turn l text all r (Ok next) h = h
says_turn l text all r (Err e) h = h

room_later : (text : List ℕ) (at next : ℕ) → at < next → (r : RowsSoFar) (after : Result ℕ BadToken) → PartRoom text next r after
    → TurnRoom text at r (as_turn after)
room_later text at next o r (Ok after) h = record { room = h.room; onward = record { behind = omega (arith, h.onward.behind); within = h.onward.within } }
room_later text at next o r (Err e) h = tt

module _ (l : Limits) (text : List ℕ) (at : ℕ) (here : EntryAt) (h : EntryHere text at here) (s : RowsSoFar) (w : Result Admitted ℕ) (a : w ≡ admitted_of l.states s here.entry) where
  begins : (b : Rows) → Holds b s → row_step l (entries b) h.token ≡ admitted_step b w
  unfolding row_step
  begins b d = rw h.entry (admitted_step_lem l b s d.count d.largest here.entry ∙ ap (admitted_step b) (sym a))

  behind : is_wrong w ≡ false → Behind text at here.next h.rest
  behind f = h.behind (no_fault_lem l.states s here.entry (sym (ap is_wrong a) ∙ f))

  pub entry_wrong : (n : ℕ) → w ≡ Err n → Turned l text at s s (bad_at n here.place)
  entry_wrong n e =
      record { is = λ b d. step_faults (row_step l) (entries b) h.is n (begins b d ∙ ap (admitted_step b) e); room = tt }

  pub entry_row : (r : RowsSoFar) (next : Result ℕ BadToken) → w ≡ Ok admitted_is.Row → RowTaken l text here.next s r next → Turned l text at s r (as_turn next)
  entry_row r next e g =
      let k = behind (rw e) in
      record {
        is =
            λ b d.
            let i : from l text at (entries b) ≡ from l text here.next (row_number b) =
            step_goes (row_step l) (entries b) h.is (row_number b) (begins b d ∙ ap (admitted_step b) e)
            ∙ ap (λ (ps : List Placed). run (row_step l) ps (row_number b)) k.is
            in
            rw i (says_turn l text _ r next (g.is b d));
        room = room_later text at here.next k.onward.behind r next g.room;
      }

  pub entry_edge : (r : RowsSoFar) (next : Result ℕ BadToken) → w ≡ Ok admitted_is.Edge → EdgeTaken l text here.next s r next → Turned l text at s r (as_turn next)
  entry_edge r next e g =
      let k = behind (rw e) in
      record {
        is =
            λ b d.
            let i : from l text at (entries b) ≡ from l text here.next (in_label label_begin b) =
            step_goes (row_step l) (entries b) h.is (in_label label_begin b) (begins b d ∙ ap (admitted_step b) e)
            ∙ ap (λ (ps : List Placed). run (row_step l) ps (in_label label_begin b)) k.is
            in
            rw i (says_turn l text _ r next (g.is b (edge_some l.states s here.entry (sym a ∙ e)) d));
        room = room_later text at here.next k.onward.behind r next g.room;
      }

  module _ (e : w ≡ Ok admitted_is.Close) where
    closing_there : (b : Rows) → Holds b s → from l text at (entries b) ≡ from l text here.next (closing b)
    closing_there b d =
        step_goes (row_step l) (entries b) h.is (closing b) (begins b d ∙ ap (admitted_step b) e)
        ∙ ap (λ (ps : List Placed). run (row_step l) ps (closing b)) (behind (rw e)).is

    pub entry_over : Closed text here.next → Turned l text at s s (Ok None)
    entry_over k = record { is = λ b d. record { rows = b; held = d; rest = k.rest; is = closing_there b d ∙ k.is l b }; room = tt }

    pub entry_late : (u : BadToken) → CloseAt text here.next (Err u) → Turned l text at s s (Err u)
    entry_late u k = record { is = λ b d. closing_there b d ∙ k l b; room = tt }

-- ---- all of them

-- what holds before each entry
pub record Standing (l : Limits) (text : List ℕ) (at place : ℕ) (s : RowsSoFar) : Type 0 where
  pub on : GoesOn l text (rows_end l text at) place s
  pub room : Room s place

pub standing_none : (l : Limits) (text : List ℕ) (at : ℕ) → Standing l text at at (none_yet l.start)
unfolding rows_end
standing_none l text at =
    record {
      on = record { rows = no_rows l.start; held = holds_none l.start; is = refl };
      room = record { rows = omega arith; state = omega arith; edges = omega arith };
    }

-- a turn that goes on
pub record Further (l : Limits) (text : List ℕ) (at place next : ℕ) (s : RowsSoFar) : Type 0 where
  pub standing : Standing l text at next s
  pub onward : Onward text place next

module _ (l : Limits) (text : List ℕ) (at place : ℕ) (s : RowsSoFar) (h : Standing l text at place s) (r : RowsSoFar) (turn : Result (Option ℕ) BadToken)
    (g : Turned l text place s r turn) where
  pub turn_goes : (next : ℕ) → turn ≡ Ok (Some next) → Further l text at place next r
  turn_goes next e =
      let k = rw e at g in
      let i = k.is h.on.rows h.on.held in
      record {
        standing = record { on = record { rows = i.rows; held = i.held; is = h.on.is ∙ i.is }; room = k.room.room };
        onward = k.room.onward;
      }
