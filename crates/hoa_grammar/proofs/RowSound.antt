-- What is walked from behind `--BODY--` to the text's end is rows of the subset (`sound`). Each admitted token puts a piece in front of what is left.
-- Assumes nothing.
use mathlib.Core.Bool.{Bool, true, false, false≢true, cond, ◌||◌, ◌&&◌}
use mathlib.Core.List.{List, [], ◌∷◌}
use mathlib.Core.Option.{Option, some, none}
use mathlib.Core.Path.{◌≡◌, refl, sym, ap, subst, ◌∙◌}
use Prim.Native.Nat.{ℕ, ◌<◌}
use borrow.Author.Tests.{ltb-true, leb-false, lt-ltb}
use lib.Dec.{ltb, leb}
use lib.ListN.{length}
use Rattle.marks.proofs.Cases.{either_false}
use Rattle.hoa_tokens.specs.declared.Header.TheVariants as header_is
use Rattle.hoa_tokens.specs.declared.Sign.TheVariants as sign_is
use Rattle.hoa_tokens.specs.Token.{Token, int, word, header, str, aname, sign, body, end, abort, finish, bad}
use Rattle.job_text.specs.Job.{most_job_states, most_job_edges}
use Rattle.hoa_label.specs.Label.{label_text, most_levels}
use Rattle.hoa_label.specs.Labels as label
use Rattle.hoa_label.specs.Labels.{LabelState, label_begin, label_step, LabelStep, closed, walk_within}
use Rattle.hoa_label.proofs.Sets.{label_set}
use Rattle.hoa_label.proofs.Sound as label_sound
use Rattle.hoa_step.specs.Machine.{go, done, wrong, wants_int}
use Rattle.hoa_step.specs.Given.{not_below}
use Rattle.hoa_entry.specs.declared.Limits.{Limits}
use Rattle.hoa_entry.specs.declared.Entry.{Entry}
use Rattle.hoa_entry.specs.declared.Entry.TheVariants as entry_is
use Rattle.hoa_entry.specs.Sig.{sig_step, with_mark, SigStep}
use Rattle.hoa_entry.specs.Rows.{
  Rows,
  with_row,
  with_sig,
  with_edge,
  came,
  RowState,
  entries,
  row_number,
  row_name,
  row_sig,
  row_marks,
  in_label,
  target,
  target_more,
  edge_marks,
  closing,
  Kept,
  RowStep,
  entry_of,
  full_rows,
  wrong_end,
  behind_row,
  on_entry,
  on_number,
  labelled,
  on_sig,
  on_name,
  on_row_marks,
  on_label,
  on_target,
  on_more,
  on_edge_marks,
  on_closing,
  row_step,
}
use Rattle.hoa_grammar.specs.Doc.{EdgeTree, Row, conj_text, edges_text, rows_text, ints_text, perhaps_text, perhaps_sig}
use Rattle.hoa_grammar.specs.Subset.{Each, each_none, each_more, SigFits, sig_marks, marks_from}
use Rattle.hoa_grammar.specs.Walk.{Walk, going, over, faulty, walk_by, walk}
use Rattle.hoa_grammar.proofs.RowTakes.{
  edge_tree,
  TakesEdge,
  takes_edge,
  EdgeLimit,
  TakesEdges,
  takes_no_edge,
  takes_edge_more,
  EdgesLimit,
  TakesRow,
  TakesRows,
  takes_no_row,
  takes_row_more,
  RowsLimit,
}

abbrev RowWalk : Type 0
RowWalk = Walk RowState Kept

-- ---- what a token is, from its entry

-- the number that a token is
abbrev int_in : Token → ℕ
int_in (int i) = i
int_in (word w) = 0
int_in (header h) = 0
int_in (str bs) = 0
int_in aname = 0
int_in (sign g) = 0
int_in body = 0
int_in end = 0
int_in abort = 0
int_in finish = 0
int_in bad = 0

-- the bytes that a token has
abbrev text_in : Token → List ℕ
text_in (int i) = []
text_in (word w) = []
text_in (header h) = []
text_in (str bs) = bs
text_in aname = []
text_in (sign g) = []
text_in body = []
text_in end = []
text_in abort = []
text_in finish = []
text_in bad = []

entry_row : (t : Token) → entry_of t ≡ entry_is.Row → t ≡ header header_is.State
unfolding entry_of
entry_row (int i) e = cc
entry_row (word w) e = cc
entry_row (str bs) e = cc
entry_row aname e = cc
entry_row body e = cc
entry_row end e = cc
entry_row abort e = cc
entry_row finish e = cc
entry_row bad e = cc
entry_row (header header_is.Hoa) e = cc
entry_row (header header_is.States) e = cc
entry_row (header header_is.Start) e = cc
entry_row (header header_is.Ap) e = cc
entry_row (header header_is.Alias) e = cc
entry_row (header header_is.Acceptance) e = cc
entry_row (header header_is.AccName) e = cc
entry_row (header header_is.Tool) e = cc
entry_row (header header_is.Name) e = cc
entry_row (header header_is.Properties) e = cc
entry_row (header header_is.State) e = refl
entry_row (header header_is.Capital) e = cc
entry_row (header header_is.Lower) e = cc
entry_row (sign sign_is.ParenLeft) e = cc
entry_row (sign sign_is.ParenRight) e = cc
entry_row (sign sign_is.BracketLeft) e = cc
entry_row (sign sign_is.BracketRight) e = cc
entry_row (sign sign_is.BraceLeft) e = cc
entry_row (sign sign_is.BraceRight) e = cc
entry_row (sign sign_is.And) e = cc
entry_row (sign sign_is.Or) e = cc
entry_row (sign sign_is.Not) e = cc

entry_edge : (t : Token) → entry_of t ≡ entry_is.Edge → t ≡ sign sign_is.BracketLeft
unfolding entry_of
entry_edge (int i) e = cc
entry_edge (word w) e = cc
entry_edge (str bs) e = cc
entry_edge aname e = cc
entry_edge body e = cc
entry_edge end e = cc
entry_edge abort e = cc
entry_edge finish e = cc
entry_edge bad e = cc
entry_edge (header header_is.Hoa) e = cc
entry_edge (header header_is.States) e = cc
entry_edge (header header_is.Start) e = cc
entry_edge (header header_is.Ap) e = cc
entry_edge (header header_is.Alias) e = cc
entry_edge (header header_is.Acceptance) e = cc
entry_edge (header header_is.AccName) e = cc
entry_edge (header header_is.Tool) e = cc
entry_edge (header header_is.Name) e = cc
entry_edge (header header_is.Properties) e = cc
entry_edge (header header_is.State) e = cc
entry_edge (header header_is.Capital) e = cc
entry_edge (header header_is.Lower) e = cc
entry_edge (sign sign_is.ParenLeft) e = cc
entry_edge (sign sign_is.ParenRight) e = cc
entry_edge (sign sign_is.BracketLeft) e = refl
entry_edge (sign sign_is.BracketRight) e = cc
entry_edge (sign sign_is.BraceLeft) e = cc
entry_edge (sign sign_is.BraceRight) e = cc
entry_edge (sign sign_is.And) e = cc
entry_edge (sign sign_is.Or) e = cc
entry_edge (sign sign_is.Not) e = cc

entry_close : (t : Token) → entry_of t ≡ entry_is.Close → t ≡ end
unfolding entry_of
entry_close (int i) e = cc
entry_close (word w) e = cc
entry_close (str bs) e = cc
entry_close aname e = cc
entry_close body e = cc
entry_close end e = refl
entry_close abort e = cc
entry_close finish e = cc
entry_close bad e = cc
entry_close (header header_is.Hoa) e = cc
entry_close (header header_is.States) e = cc
entry_close (header header_is.Start) e = cc
entry_close (header header_is.Ap) e = cc
entry_close (header header_is.Alias) e = cc
entry_close (header header_is.Acceptance) e = cc
entry_close (header header_is.AccName) e = cc
entry_close (header header_is.Tool) e = cc
entry_close (header header_is.Name) e = cc
entry_close (header header_is.Properties) e = cc
entry_close (header header_is.State) e = cc
entry_close (header header_is.Capital) e = cc
entry_close (header header_is.Lower) e = cc
entry_close (sign sign_is.ParenLeft) e = cc
entry_close (sign sign_is.ParenRight) e = cc
entry_close (sign sign_is.BracketLeft) e = cc
entry_close (sign sign_is.BracketRight) e = cc
entry_close (sign sign_is.BraceLeft) e = cc
entry_close (sign sign_is.BraceRight) e = cc
entry_close (sign sign_is.And) e = cc
entry_close (sign sign_is.Or) e = cc
entry_close (sign sign_is.Not) e = cc

entry_sig : (t : Token) → entry_of t ≡ entry_is.Sig → t ≡ sign sign_is.BraceLeft
unfolding entry_of
entry_sig (int i) e = cc
entry_sig (word w) e = cc
entry_sig (str bs) e = cc
entry_sig aname e = cc
entry_sig body e = cc
entry_sig end e = cc
entry_sig abort e = cc
entry_sig finish e = cc
entry_sig bad e = cc
entry_sig (header header_is.Hoa) e = cc
entry_sig (header header_is.States) e = cc
entry_sig (header header_is.Start) e = cc
entry_sig (header header_is.Ap) e = cc
entry_sig (header header_is.Alias) e = cc
entry_sig (header header_is.Acceptance) e = cc
entry_sig (header header_is.AccName) e = cc
entry_sig (header header_is.Tool) e = cc
entry_sig (header header_is.Name) e = cc
entry_sig (header header_is.Properties) e = cc
entry_sig (header header_is.State) e = cc
entry_sig (header header_is.Capital) e = cc
entry_sig (header header_is.Lower) e = cc
entry_sig (sign sign_is.ParenLeft) e = cc
entry_sig (sign sign_is.ParenRight) e = cc
entry_sig (sign sign_is.BracketLeft) e = cc
entry_sig (sign sign_is.BracketRight) e = cc
entry_sig (sign sign_is.BraceLeft) e = refl
entry_sig (sign sign_is.BraceRight) e = cc
entry_sig (sign sign_is.And) e = cc
entry_sig (sign sign_is.Or) e = cc
entry_sig (sign sign_is.Not) e = cc

entry_text : (t : Token) → entry_of t ≡ entry_is.Text → t ≡ str (text_in t)
unfolding entry_of
entry_text (int i) e = cc
entry_text (word w) e = cc
entry_text (str bs) e = refl
entry_text aname e = cc
entry_text body e = cc
entry_text end e = cc
entry_text abort e = cc
entry_text finish e = cc
entry_text bad e = cc
entry_text (header header_is.Hoa) e = cc
entry_text (header header_is.States) e = cc
entry_text (header header_is.Start) e = cc
entry_text (header header_is.Ap) e = cc
entry_text (header header_is.Alias) e = cc
entry_text (header header_is.Acceptance) e = cc
entry_text (header header_is.AccName) e = cc
entry_text (header header_is.Tool) e = cc
entry_text (header header_is.Name) e = cc
entry_text (header header_is.Properties) e = cc
entry_text (header header_is.State) e = cc
entry_text (header header_is.Capital) e = cc
entry_text (header header_is.Lower) e = cc
entry_text (sign sign_is.ParenLeft) e = cc
entry_text (sign sign_is.ParenRight) e = cc
entry_text (sign sign_is.BracketLeft) e = cc
entry_text (sign sign_is.BracketRight) e = cc
entry_text (sign sign_is.BraceLeft) e = cc
entry_text (sign sign_is.BraceRight) e = cc
entry_text (sign sign_is.And) e = cc
entry_text (sign sign_is.Or) e = cc
entry_text (sign sign_is.Not) e = cc

-- ---- a walk that is over

abbrev ending : Kept → List Token → RowWalk
ending k ts = over k ts

over_kept : (k k' : Kept) (ts us : List Token) → ending k ts ≡ ending k' us → k ≡ k'
over_kept k k' ts us e = cc

over_rest : (k k' : Kept) (ts us : List Token) → ending k ts ≡ ending k' us → ts ≡ us
over_rest k k' ts us e = cc

-- a token and what stands behind it
behind_by : {t u : Token} {ts us : List Token} → t ≡ u → ts ≡ us → t ∷ ts ≡ u ∷ us
behind_by p q = λ i. p i ∷ q i

-- an empty list is no longer one
abbrev HasOne : List ℕ → Type 0
HasOne [] = ⊥
HasOne (x ∷ xs) = Unit {0}

none_is_some : {A : Type 0} {x : ℕ} {xs : List ℕ} → [] ≡ x ∷ xs → A
none_is_some e = absurd (subst HasOne (sym e) tt)

abbrev HasEdge : List EdgeTree → Type 0
HasEdge [] = ⊥
HasEdge (x ∷ xs) = Unit {0}

-- of two tests the second does not hold where the first does
not_both : (a b : Bool) → a && b ≡ false → a ≡ true → b ≡ false
not_both true b e q = e
not_both false b e q = absurd (false≢true q)

module _ (l : Limits) (final : Kept) (left : List Token) where
  is_over : RowWalk → Type 0
  is_over (going s) = ⊥
  is_over (over d ts) = Unit {0}
  is_over (faulty n ts) = ⊥

  abbrev failed : ℕ → List Token → RowWalk
  failed n ts = faulty n ts

  never : {A : Type 0} (n : ℕ) (ts : List Token) → failed n ts ≡ over final left → A
  unfolding is_over
  never n ts e = absurd (subst is_over (sym e) tt)

  -- a test that would have been faulty did not hold
  passed : (b : Bool) (n : ℕ) (x : RowStep) (ts : List Token) (more : RowState → RowWalk) → walk_by (cond b (wrong n) x) ts more ≡ over final left
      → (b ≡ false) × (walk_by x ts more ≡ over final left)
  passed true n x ts more e = never _ _ e
  passed false n x ts more e = (refl, e)

  abbrev onwards : List Token → RowState → RowWalk
  onwards ts u = walk (row_step l) ts u

  -- ---- what is left, by where the rows stand

  -- how many states there are, and the edges that are kept
  abbrev kept_by : Rows → Kept
  kept_by b = record { states = length b.seen; edges = b.edges }

  -- edges that fit behind b, where a row has begun, rows that fit behind them, `--END--`, the text's end, and what is left
  record Entries (b : Rows) (ts : List Token) : Type 0 where
    es : List EdgeTree
    mid : Rows
    edges_fit : TakesEdges l b es mid
    edges_few : EdgesLimit l edges_fit
    begun : b.seen ≡ [] → es ≡ []
    rs : List Row
    last : Rows
    rows_fit : TakesRows l mid rs last
    rows_few : RowsLimit l rows_fit
    text : ts ≡ edges_text es (rows_text rs (end ∷ finish ∷ left))
    ends_well : wrong_end l.states last ≡ false
    is : kept_by last ≡ final

  record MarksLeft (m : ℕ) (b : Rows) (ts : List Token) : Type 0 where
    is : List ℕ
    rest : List Token
    below : Each (λ i. i < l.marks) is
    text : ts ≡ ints_text is (sign sign_is.BraceRight ∷ rest)
    more : Entries (with_sig (marks_from m is) b) rest

  record SigLeft (b : Rows) (ts : List Token) : Type 0 where
    sig : Option (List ℕ)
    rest : List Token
    fits : SigFits l.marks sig
    text : ts ≡ perhaps_sig sig rest
    more : Entries (with_sig (sig_marks 0 sig) b) rest

  record NameLeft (b : Rows) (ts : List Token) : Type 0 where
    name : Option (List ℕ)
    rest : List Token
    text : ts ≡ perhaps_text name rest
    more : SigLeft b rest

  record NumberLeft (b : Rows) (ts : List Token) : Type 0 where
    q : ℕ
    rest : List Token
    text : ts ≡ int q ∷ rest
    below : not_below q l.states ≡ false
    new : came q b.seen ≡ false
    few : q < most_job_states
    more : NameLeft (with_row q b) rest

  record EdgeMarksLeft (m x to : ℕ) (b : Rows) (ts : List Token) : Type 0 where
    is : List ℕ
    rest : List Token
    below : Each (λ i. i < l.marks) is
    text : ts ≡ ints_text is (sign sign_is.BraceRight ∷ rest)
    more : Entries (with_edge x to (marks_from m is) b) rest

  record MoreLeft (x to : ℕ) (b : Rows) (ts : List Token) : Type 0 where
    sig : Option (List ℕ)
    rest : List Token
    fits : SigFits l.marks sig
    text : ts ≡ perhaps_sig sig rest
    more : Entries (with_edge x to (sig_marks b.sig sig) b) rest

  record TargetLeft (x : ℕ) (b : Rows) (ts : List Token) : Type 0 where
    to : ℕ
    rest : List Token
    text : ts ≡ int to ∷ rest
    below : not_below to l.states ≡ false
    few : to < most_job_states
    more : MoreLeft x to b rest

  record LabelLeft (s : LabelState) (b : Rows) (ts : List Token) : Type 0 where
    set : ℕ
    rest : List Token
    walked : walk_within most_levels l.props s ts ≡ closed set rest
    few : 0 < set → length b.edges < most_job_edges
    more : TargetLeft set b rest

  record ClosingLeft (b : Rows) (ts : List Token) : Type 0 where
    text : ts ≡ finish ∷ left
    is : kept_by b ≡ final

  Left : RowState → List Token → Type 0
  Left (entries b) ts = Entries b ts
  Left (row_number b) ts = NumberLeft b ts
  Left (row_name b) ts = b.sig ≡ 0 → NameLeft b ts
  Left (row_sig b) ts = b.sig ≡ 0 → SigLeft b ts
  Left (row_marks m b) ts = MarksLeft m b ts
  Left (in_label s b) ts = LabelLeft s b ts
  Left (target x b) ts = TargetLeft x b ts
  Left (target_more x to b) ts = MoreLeft x to b ts
  Left (edge_marks m x to b) ts = EdgeMarksLeft m x to b ts
  Left (closing b) ts = ClosingLeft b ts

  -- what is known of the tokens behind: wherever they lead to the end, so much is left
  Behind : List Token → Type 0
  Behind ts = (s : RowState) → onwards ts s ≡ over final left → Left s ts

  -- ---- a piece more in front

  front_row : (b : Rows) (t : Token) (ts : List Token) → t ≡ header header_is.State → full_rows l b ≡ false → NumberLeft b ts → Entries b (t ∷ ts)
  unfolding edges_text rows_text RowsLimit EdgesLimit
  front_row b t ts q room n =
      let m = n.more in
      let g = m.more in
      let r = g.more in
      let row : Row = record { label = none; number = n.q; name = m.name; sig = g.sig; edges = r.es } in
      let fit : TakesRow l b row r.mid =
      record { room = room; no_label = refl; below = n.below; new = n.new; sig_fits = g.fits; edges_fit = r.edges_fit } in
      record {
        es = [];
        mid = b;
        edges_fit = takes_no_edge refl;
        edges_few = tt;
        begun = λ _. refl;
        rs = row ∷ r.rs;
        last = r.last;
        rows_fit = takes_row_more fit r.rows_fit;
        rows_few = (record { few = n.few; edges_few = r.edges_few }, r.rows_few);
        text =
            behind_by q
            (n.text ∙ behind_by refl (m.text ∙ ap (perhaps_text m.name) (g.text ∙ ap (perhaps_sig g.sig) r.text)));
        ends_well = r.ends_well;
        is = r.is;
      }

  front_edge : (b : Rows) (r' : ℕ) (rs' : List ℕ) (t : Token) (ts : List Token) → b.seen ≡ r' ∷ rs' → t ≡ sign sign_is.BracketLeft
      → LabelLeft label_begin b ts → Entries b (t ∷ ts)
  unfolding edges_text EdgesLimit EdgeLimit conj_text
  front_edge b r' rs' t ts has-row q n =
      let s = label_sound.sound most_levels l.props n.set ts n.rest n.walked in
      let k = n.more in
      let m = k.more in
      let lab = s.label in
      let put : Entries (with_edge (label_set lab) k.to (sig_marks b.sig m.sig) b) m.rest =
      subst (λ (x : ℕ). Entries (with_edge x k.to (sig_marks b.sig m.sig) b) m.rest) s.set m.more in
      let fit : TakesEdge l b (edge_tree lab k.to m.sig) (with_edge (label_set lab) k.to (sig_marks b.sig m.sig) b) =
      takes_edge lab k.to m.sig s.within.fits k.below m.fits in
      record {
        es = edge_tree lab k.to m.sig ∷ put.es;
        mid = put.mid;
        edges_fit = takes_edge_more fit put.edges_fit;
        edges_few = ((s.within.deep, ((λ z. n.few (subst (λ (x : ℕ). 0 < x) (sym s.set) z)), k.few)), put.edges_few);
        begun = λ e. none_is_some (sym e ∙ has-row);
        rs = put.rs;
        last = put.last;
        rows_fit = put.rows_fit;
        rows_few = put.rows_few;
        text =
            behind_by q
            (s.text ∙ ap (λ (us : List Token). label_text lab (sign sign_is.BracketRight ∷ us)) (k.text ∙ behind_by refl (m.text ∙ ap (perhaps_sig m.sig) put.text)));
        ends_well = put.ends_well;
        is = put.is;
      }

  -- ---- each place of the rows

  wants_int_lem : (f : ℕ → RowStep) (t : Token) (ts : List Token) (more : RowState → RowWalk) → walk_by (wants_int f t) ts more ≡ over final left
      → (t ≡ int (int_in t)) × (walk_by (f (int_in t)) ts more ≡ over final left)
  unfolding wants_int
  wants_int_lem f (int i) ts more e = (refl, e)
  wants_int_lem f (word w) ts more e = never _ _ e
  wants_int_lem f (header k) ts more e = never _ _ e
  wants_int_lem f (str bs) ts more e = never _ _ e
  wants_int_lem f aname ts more e = never _ _ e
  wants_int_lem f (sign g) ts more e = never _ _ e
  wants_int_lem f body ts more e = never _ _ e
  wants_int_lem f end ts more e = never _ _ e
  wants_int_lem f abort ts more e = never _ _ e
  wants_int_lem f finish ts more e = never _ _ e
  wants_int_lem f bad ts more e = never _ _ e

  module _ (b : Rows) (t : Token) (ts : List Token) (behind : Behind ts) where
    -- an edge where a row has begun
    sound_edge : (seen : List ℕ) → b.seen ≡ seen → t ≡ sign sign_is.BracketLeft
        → walk_by (behind_row seen (go (in_label label_begin b))) ts (onwards ts) ≡ over final left → Entries b (t ∷ ts)
    unfolding Behind Left
    sound_edge [] q r e = never _ _ e
    sound_edge (x ∷ xs) q r e = front_edge b x xs t ts q r (behind (in_label label_begin b) e)

    -- an INT where an edge may begin
    sound_bare : (seen : List ℕ) → walk_by (behind_row seen (wrong 41)) ts (onwards ts) ≡ over final left → Entries b (t ∷ ts)
    sound_bare [] e = never _ _ e
    sound_bare (x ∷ xs) e = never _ _ e

    sound_close : t ≡ end → walk_by (cond (wrong_end l.states b) (wrong 41) (go (closing b))) ts (onwards ts) ≡ over final left → Entries b (t ∷ ts)
    unfolding Behind Left edges_text rows_text RowsLimit EdgesLimit
    sound_close q e =
        let p = passed (wrong_end l.states b) 41 (go (closing b)) ts (onwards ts) e in
        let c = behind (closing b) p.1 in
        record {
          es = [];
          mid = b;
          edges_fit = takes_no_edge refl;
          edges_few = tt;
          begun = λ _. refl;
          rs = [];
          last = b;
          rows_fit = takes_no_row refl;
          rows_few = tt;
          text = behind_by q c.text;
          ends_well = p.0;
          is = c.is;
        }

    sound_entry : (x : Entry) → entry_of t ≡ x → walk_by (on_entry l b x) ts (onwards ts) ≡ over final left → Entries b (t ∷ ts)
    unfolding Behind Left
    sound_entry entry_is.Row q e =
        let p = passed (full_rows l b) 41 (go (row_number b)) ts (onwards ts) e in
        front_row b t ts (entry_row t q) p.0 (behind (row_number b) p.1)
    sound_entry entry_is.Edge q e = sound_edge b.seen refl (entry_edge t q) e
    sound_entry entry_is.Bare q e = sound_bare b.seen e
    sound_entry entry_is.Close q e = sound_close (entry_close t q) e
    sound_entry entry_is.Sig q e = never _ _ e
    sound_entry entry_is.Text q e = never _ _ e
    sound_entry entry_is.Join q e = never _ _ e
    sound_entry (entry_is.Wrong n) q e = never _ _ e

    sound_number : (x : Entry) → walk_by (labelled x (wants_int (on_number l b) t)) ts (onwards ts) ≡ over final left → NumberLeft b (t ∷ ts)
    unfolding Behind Left
    sound_number x e = by_number (not_labelled x e)
      where
        not_labelled : (x : Entry) → walk_by (labelled x (wants_int (on_number l b) t)) ts (onwards ts) ≡ over final left
            → walk_by (wants_int (on_number l b) t) ts (onwards ts) ≡ over final left
        not_labelled entry_is.Edge e = never _ _ e
        not_labelled entry_is.Row e = e
        not_labelled entry_is.Bare e = e
        not_labelled entry_is.Close e = e
        not_labelled entry_is.Sig e = e
        not_labelled entry_is.Text e = e
        not_labelled entry_is.Join e = e
        not_labelled (entry_is.Wrong n) e = e

        by_number : walk_by (wants_int (on_number l b) t) ts (onwards ts) ≡ over final left → NumberLeft b (t ∷ ts)
        by_number e =
            let i = wants_int_lem (on_number l b) t ts (onwards ts) e in
            let p = passed (not_below (int_in t) l.states || came (int_in t) b.seen) 41 _ ts (onwards ts) i.1 in
            let n = either_false (not_below (int_in t) l.states) (came (int_in t) b.seen) p.0 in
            let r = passed (leb most_job_states (int_in t)) 42 (go (row_name (with_row (int_in t) b))) ts (onwards ts) p.1 in
            record {
              q = int_in t;
              rest = ts;
              text = behind_by i.0 refl;
              below = n.0;
              new = n.1;
              few = leb-false most_job_states (int_in t) r.0;
              more = behind (row_name (with_row (int_in t) b)) r.1 refl;
            }

    -- without a sig the row bears no marks
    no_sig : b.sig ≡ 0 → Entries b (t ∷ ts) → SigLeft b (t ∷ ts)
    no_sig z r =
        record {
          sig = none;
          rest = t ∷ ts;
          fits = tt;
          text = refl;
          more = subst (λ (m : ℕ). Entries (with_sig m b) (t ∷ ts)) z r;
        }

    sound_sig : (x : Entry) → entry_of t ≡ x → walk_by (on_sig l b x) ts (onwards ts) ≡ over final left → b.sig ≡ 0 → SigLeft b (t ∷ ts)
    unfolding Behind Left
    sound_sig entry_is.Sig q e z =
        let r = behind (row_marks 0 b) e in
        record { sig = some r.is; rest = r.rest; fits = r.below; text = behind_by (entry_sig t q) r.text; more = r.more }
    sound_sig entry_is.Row q e z = no_sig z (sound_entry entry_is.Row q e)
    sound_sig entry_is.Edge q e z = no_sig z (sound_entry entry_is.Edge q e)
    sound_sig entry_is.Bare q e z = no_sig z (sound_entry entry_is.Bare q e)
    sound_sig entry_is.Close q e z = no_sig z (sound_entry entry_is.Close q e)
    sound_sig entry_is.Text q e z = no_sig z (sound_entry entry_is.Text q e)
    sound_sig entry_is.Join q e z = no_sig z (sound_entry entry_is.Join q e)
    sound_sig (entry_is.Wrong n) q e z = no_sig z (sound_entry (entry_is.Wrong n) q e)

    no_name : SigLeft b (t ∷ ts) → NameLeft b (t ∷ ts)
    no_name r = record { name = none; rest = t ∷ ts; text = refl; more = r }

    sound_name : (x : Entry) → entry_of t ≡ x → walk_by (on_name l b x) ts (onwards ts) ≡ over final left → b.sig ≡ 0 → NameLeft b (t ∷ ts)
    unfolding Behind Left
    sound_name entry_is.Text q e z = record { name = some (text_in t); rest = ts; text = behind_by (entry_text t q) refl; more = behind (row_sig b) e z }
    sound_name entry_is.Row q e z = no_name (sound_sig entry_is.Row q e z)
    sound_name entry_is.Edge q e z = no_name (sound_sig entry_is.Edge q e z)
    sound_name entry_is.Bare q e z = no_name (sound_sig entry_is.Bare q e z)
    sound_name entry_is.Close q e z = no_name (sound_sig entry_is.Close q e z)
    sound_name entry_is.Sig q e z = no_name (sound_sig entry_is.Sig q e z)
    sound_name entry_is.Join q e z = no_name (sound_sig entry_is.Join q e z)
    sound_name (entry_is.Wrong n) q e z = no_name (sound_sig (entry_is.Wrong n) q e z)

    -- in a label
    sound_label : (s : LabelState) (x : LabelStep) → label_step l.props s t ≡ x → walk_by (on_label b x) ts (onwards ts) ≡ over final left → LabelLeft s b (t ∷ ts)
    unfolding Behind Left walk_within label_step
    sound_label s (label.go u) q e =
        let r = behind (in_label u b) e in
        record {
          set = r.set;
          rest = r.rest;
          walked = rw q r.walked;
          few = r.few;
          more = r.more;
        }
    sound_label s (label.shut x) q e =
        let p = passed (ltb 0 x && leb most_job_edges (length b.edges)) 42 (go (target x b)) ts (onwards ts) e in
        record {
          set = x;
          rest = ts;
          walked = rw q refl;
          few = λ z. leb-false most_job_edges (length b.edges) (not_both (ltb 0 x) (leb most_job_edges (length b.edges)) p.0 (lt-ltb 0 x z));
          more = behind (target x b) p.1;
        }
    sound_label s (label.wrong n) q e = never _ _ e

    sound_target : (x : ℕ) → walk_by (wants_int (on_target l x b) t) ts (onwards ts) ≡ over final left → TargetLeft x b (t ∷ ts)
    unfolding Behind Left
    sound_target x e =
        let i = wants_int_lem (on_target l x b) t ts (onwards ts) e in
        let p = passed (not_below (int_in t) l.states) 41 _ ts (onwards ts) i.1 in
        let r = passed (leb most_job_states (int_in t)) 42 (go (target_more x (int_in t) b)) ts (onwards ts) p.1 in
        record {
          to = int_in t;
          rest = ts;
          text = behind_by i.0 refl;
          below = p.0;
          few = leb-false most_job_states (int_in t) r.0;
          more = behind (target_more x (int_in t) b) r.1;
        }

  -- behind a target
  module _ (x to : ℕ) (b : Rows) (t : Token) (ts : List Token) (behind : Behind ts) where
    no_edge_sig : Entries (with_edge x to b.sig b) (t ∷ ts) → MoreLeft x to b (t ∷ ts)
    no_edge_sig r = record { sig = none; rest = t ∷ ts; fits = tt; text = refl; more = r }

    sound_more : (y : Entry) → entry_of t ≡ y → walk_by (on_more l x to b y) ts (onwards ts) ≡ over final left → MoreLeft x to b (t ∷ ts)
    unfolding Behind Left
    sound_more entry_is.Join q e = never _ _ e
    sound_more entry_is.Sig q e =
        let r = behind (edge_marks b.sig x to b) e in
        record { sig = some r.is; rest = r.rest; fits = r.below; text = behind_by (entry_sig t q) r.text; more = r.more }
    sound_more entry_is.Row q e = no_edge_sig (sound_entry (with_edge x to b.sig b) t ts behind entry_is.Row q e)
    sound_more entry_is.Edge q e = no_edge_sig (sound_entry (with_edge x to b.sig b) t ts behind entry_is.Edge q e)
    sound_more entry_is.Bare q e = no_edge_sig (sound_entry (with_edge x to b.sig b) t ts behind entry_is.Bare q e)
    sound_more entry_is.Close q e = no_edge_sig (sound_entry (with_edge x to b.sig b) t ts behind entry_is.Close q e)
    sound_more entry_is.Text q e = no_edge_sig (sound_entry (with_edge x to b.sig b) t ts behind entry_is.Text q e)
    sound_more (entry_is.Wrong n) q e = no_edge_sig (sound_entry (with_edge x to b.sig b) t ts behind (entry_is.Wrong n) q e)

  -- ---- sigs

  -- a sig's token: a mark, `}`, or a fault
  data SigToken (c m : ℕ) (t : Token) : SigStep → Type 0 where
    a_mark : (i : ℕ) → t ≡ int i → i < c → SigToken c m t (go (with_mark m i))
    shuts : t ≡ sign sign_is.BraceRight → SigToken c m t (done m)
    fault : (n : ℕ) → SigToken c m t (wrong n)

  mark_token : (c m i : ℕ) (below : Bool) → ltb i c ≡ below → SigToken c m (int i) (cond below (go (with_mark m i)) (wrong 41))
  mark_token c m i true q = a_mark i refl (ltb-true i c q)
  mark_token c m i false q = fault 41

  sig_token : (c m : ℕ) (t : Token) → SigToken c m t (sig_step c m t)
  unfolding sig_step
  sig_token c m (int i) = mark_token c m i (ltb i c) refl
  sig_token c m (sign sign_is.BraceRight) = shuts refl
  sig_token c m (sign sign_is.ParenLeft) = fault 40
  sig_token c m (sign sign_is.ParenRight) = fault 40
  sig_token c m (sign sign_is.BracketLeft) = fault 40
  sig_token c m (sign sign_is.BracketRight) = fault 40
  sig_token c m (sign sign_is.BraceLeft) = fault 40
  sig_token c m (sign sign_is.And) = fault 40
  sig_token c m (sign sign_is.Or) = fault 40
  sig_token c m (sign sign_is.Not) = fault 40
  sig_token c m abort = fault 41
  sig_token c m (word w) = fault 40
  sig_token c m (header k) = fault 40
  sig_token c m (str bs) = fault 40
  sig_token c m aname = fault 40
  sig_token c m body = fault 40
  sig_token c m end = fault 40
  sig_token c m finish = fault 40
  sig_token c m bad = fault 40

  sound_row_marks : (m : ℕ) (b : Rows) (t : Token) (ts : List Token) → Behind ts → (x : SigStep) → SigToken l.marks m t x
      → walk_by (on_row_marks b x) ts (onwards ts) ≡ over final left → MarksLeft m b (t ∷ ts)
  unfolding Behind Left ints_text marks_from
  sound_row_marks m b t ts behind _ (a_mark i q below) e =
      let r = behind (row_marks (with_mark m i) b) e in
      record { is = i ∷ r.is; rest = r.rest; below = each_more {x = i} below r.below; text = behind_by q r.text; more = r.more }
  sound_row_marks m b t ts behind _ (shuts q) e =
      record { is = []; rest = ts; below = each_none; text = behind_by q refl; more = behind (entries (with_sig m b)) e }
  sound_row_marks m b t ts behind _ (fault n) e = never _ _ e

  sound_edge_marks : (m x to : ℕ) (b : Rows) (t : Token) (ts : List Token) → Behind ts → (y : SigStep) → SigToken l.marks m t y
      → walk_by (on_edge_marks x to b y) ts (onwards ts) ≡ over final left → EdgeMarksLeft m x to b (t ∷ ts)
  unfolding Behind Left ints_text marks_from
  sound_edge_marks m x to b t ts behind _ (a_mark i q below) e =
      let r = behind (edge_marks (with_mark m i) x to b) e in
      record { is = i ∷ r.is; rest = r.rest; below = each_more {x = i} below r.below; text = behind_by q r.text; more = r.more }
  sound_edge_marks m x to b t ts behind _ (shuts q) e =
      record { is = []; rest = ts; below = each_none; text = behind_by q refl; more = behind (entries (with_edge x to m b)) e }
  sound_edge_marks m x to b t ts behind _ (fault n) e = never _ _ e

  -- ---- behind `--END--`

  sound_closing : (b : Rows) (t : Token) (ts : List Token) → walk_by (on_closing b t) ts (onwards ts) ≡ over final left → ClosingLeft b (t ∷ ts)
  unfolding on_closing
  sound_closing b finish ts e = record { text = behind_by refl (over_rest (kept_by b) final ts left e); is = over_kept (kept_by b) final ts left e }
  sound_closing b (header header_is.Hoa) ts e = never _ _ e
  sound_closing b (header header_is.States) ts e = never _ _ e
  sound_closing b (header header_is.Start) ts e = never _ _ e
  sound_closing b (header header_is.Ap) ts e = never _ _ e
  sound_closing b (header header_is.Alias) ts e = never _ _ e
  sound_closing b (header header_is.Acceptance) ts e = never _ _ e
  sound_closing b (header header_is.AccName) ts e = never _ _ e
  sound_closing b (header header_is.Tool) ts e = never _ _ e
  sound_closing b (header header_is.Name) ts e = never _ _ e
  sound_closing b (header header_is.Properties) ts e = never _ _ e
  sound_closing b (header header_is.State) ts e = never _ _ e
  sound_closing b (header header_is.Capital) ts e = never _ _ e
  sound_closing b (header header_is.Lower) ts e = never _ _ e
  sound_closing b (int i) ts e = never _ _ e
  sound_closing b (word w) ts e = never _ _ e
  sound_closing b (str bs) ts e = never _ _ e
  sound_closing b aname ts e = never _ _ e
  sound_closing b (sign g) ts e = never _ _ e
  sound_closing b body ts e = never _ _ e
  sound_closing b end ts e = never _ _ e
  sound_closing b abort ts e = never _ _ e
  sound_closing b bad ts e = never _ _ e

  -- ---- all of it

  sound_step : (s : RowState) (t : Token) (ts : List Token) → Behind ts → walk_by (row_step l s t) ts (onwards ts) ≡ over final left → Left s (t ∷ ts)
  unfolding row_step Left
  sound_step (entries b) t ts behind e = sound_entry b t ts behind (entry_of t) refl e
  sound_step (row_number b) t ts behind e = sound_number b t ts behind (entry_of t) e
  sound_step (row_name b) t ts behind e = sound_name b t ts behind (entry_of t) refl e
  sound_step (row_sig b) t ts behind e = sound_sig b t ts behind (entry_of t) refl e
  sound_step (row_marks m b) t ts behind e = sound_row_marks m b t ts behind (sig_step l.marks m t) (sig_token l.marks m t) e
  sound_step (in_label s b) t ts behind e = sound_label b t ts behind s (label_step l.props s t) refl e
  sound_step (target x b) t ts behind e = sound_target b t ts behind x e
  sound_step (target_more x to b) t ts behind e = sound_more x to b t ts behind (entry_of t) refl e
  sound_step (edge_marks m x to b) t ts behind e = sound_edge_marks m x to b t ts behind (sig_step l.marks m t) (sig_token l.marks m t) e
  sound_step (closing b) t ts behind e = sound_closing b t ts e

  sound_left : (ts : List Token) (s : RowState) → onwards ts s ≡ over final left → Left s ts
  unfolding walk is_over Behind
  sound_left [] s e = absurd (subst is_over (sym e) tt)
  sound_left (t ∷ ts) s e = sound_step s t ts (λ u q. sound_left ts u q) e

  -- the rows of the subset that the tokens are, behind b
  pub record Body (b : Rows) (ts : List Token) : Type 0 where
    pub rs : List Row
    pub last : Rows
    pub text : ts ≡ rows_text rs (end ∷ finish ∷ left)
    pub takes : TakesRows l b rs last
    pub limits : RowsLimit l takes
    pub ends_well : wrong_end l.states last ≡ false
    pub is : kept_by last ≡ final

  -- rows only, where no row has begun
  no_edges : (b : Rows) (es : List EdgeTree) (mid : Rows) → TakesEdges l b es mid → es ≡ [] → b ≡ mid
  no_edges b [] mid (takes_no_edge q) e = q
  no_edges b (x ∷ xs) mid (takes_edge_more f fs) e = absurd (subst HasEdge e tt)

  rows_only : (b : Rows) (ts : List Token) → b.seen ≡ [] → Entries b ts → Body b ts
  unfolding edges_text
  rows_only b ts z r =
      let e = r.begun z in
      let m : b ≡ r.mid = no_edges b r.es r.mid r.edges_fit e in
      let text : ts ≡ rows_text r.rs (end ∷ finish ∷ left) = r.text ∙ ap (λ (es : List EdgeTree). edges_text es (rows_text r.rs (end ∷ finish ∷ left))) e in
      from_mid b r.mid m ts (record { rs = r.rs; last = r.last; text = text; takes = r.rows_fit; limits = r.rows_few; ends_well = r.ends_well; is = r.is })
    where
      from_mid : (b mid : Rows) → b ≡ mid → (ts : List Token) → Body mid ts → Body b ts
      from_mid b mid q ts x = subst (λ (y : Rows). Body y ts) (sym q) x

  -- what is walked from behind `--BODY--` to the text's end is rows of the subset
  pub sound : (b : Rows) (ts : List Token) → b.seen ≡ [] → onwards ts (entries b) ≡ over final left → Body b ts
  unfolding Left
  sound b ts z e = rows_only b ts z (sound_left ts (entries b) e)
