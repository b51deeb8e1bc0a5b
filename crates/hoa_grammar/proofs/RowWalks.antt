-- Edges and rows are walked as they fit: each leads on to what is known behind it, or passes a limit. Assumes nothing.
use mathlib.Core.Bool.{Bool, true, false, false≢true, ◌&&◌}
use mathlib.Core.List.{List, [], ◌∷◌}
use mathlib.Core.Logic.{◌⊎◌, inl, inr}
use mathlib.Core.Option.{Option, some, none}
use mathlib.Core.Path.{◌≡◌, refl, sym, ap, ◌∙◌}
use Prim.Native.Nat.{ℕ, ◌+◌, ◌≤◌, ◌<◌}
use native.Mathlib.Omega.{arith}
use borrow.Author.Tests.{ltb-true, leb-true, lt-ltb}
use lib.Dec.{ltb, leb}
use lib.ListN.{length}
use Rattle.hoa_tokens.specs.declared.Header.TheVariants as header_is
use Rattle.hoa_tokens.specs.declared.Sign.TheVariants as sign_is
use Rattle.hoa_tokens.specs.Token.{Token, int, word, header, str, aname, sign, body, end, abort, finish, bad}
use Rattle.job_text.specs.Job.{most_job_states, most_job_edges}
use Rattle.hoa_label.specs.declared.Wanted.{Wanted}
use Rattle.hoa_label.specs.declared.Wanted.TheVariants as wanted_is
use Rattle.hoa_label.specs.declared.Behind.{Behind}
use Rattle.hoa_label.specs.declared.Behind.TheVariants as behind_is
use Rattle.hoa_label.specs.Label.{Label, label_fits, label_depth, label_text, most_levels}
use Rattle.hoa_label.specs.Labels as label
use Rattle.hoa_label.specs.Labels.{Frame, LabelState, wants, Has, label_begin, label_step, LabelStep, step_within, wanted, on_wanted, behind, on_behind, is_outermost, shut_level, closed, walk_within}
use Rattle.hoa_label.proofs.Sets.{label_set}
use Rattle.hoa_label.proofs.Walks.{closed_going, faulty_going, closed_faulty, faulty_inj, closed_set, closed_rest}
use Rattle.hoa_label.proofs.Complete as label_complete
use Rattle.hoa_step.specs.Machine.{go, wants_int}
use Rattle.hoa_step.specs.Given.{not_below}
use Rattle.hoa_entry.specs.declared.Limits.{Limits}
use Rattle.hoa_entry.specs.Sig.{sig_step, with_mark}
use Rattle.hoa_entry.specs.Rows.{
  Rows,
  with_row,
  with_sig,
  with_edge,
  RowState,
  entries,
  row_name,
  row_sig,
  row_marks,
  in_label,
  target,
  target_more,
  edge_marks,
  Kept,
  RowStep,
  entry_of,
  behind_row,
  shut_label,
  on_label,
  row_step,
}
use Rattle.hoa_grammar.specs.Doc.{EdgeTree, Row, conj_text, edge_text, edges_text, row_text, rows_text, ints_text, perhaps_text, perhaps_label, perhaps_sig}
use Rattle.hoa_grammar.specs.Subset.{Each, each_none, each_more, SigFits, sig_marks, marks_from}
use Rattle.hoa_grammar.specs.Walk.{Walk, faulty, walk_by, walk}
use Rattle.hoa_grammar.proofs.Onward.{Onward, same, limit, by_limit, onward_then, onward_more, onward_by, onward_from}
use Rattle.hoa_grammar.proofs.RowTakes.{
  TakesEdge,
  takes_edge,
  EdgeLimit,
  TakesEdges,
  takes_no_edge,
  takes_edge_more,
  EdgesLimit,
  TakesRow,
  RowLimit,
  TakesRows,
  takes_no_row,
  takes_row_more,
  RowsLimit,
}

abbrev RowWalk : Type 0
RowWalk = Walk RowState Kept

-- ---- labels: what shuts within some levels shuts within more

wanted_mono : (a : ℕ) (r r' : Bool) (t : Token) → (r ≡ true → r' ≡ true) → (wanted a r t ≡ wanted a r' t) ⊎ (wanted a r t ≡ wanted_is.Wrong 42)
unfolding wanted
wanted_mono a true r' (sign sign_is.ParenLeft) h = inl (rw (h refl) refl)
wanted_mono a false r' (sign sign_is.ParenLeft) h = inr refl
wanted_mono a r r' (sign sign_is.ParenRight) h = inl refl
wanted_mono a r r' (sign sign_is.BracketLeft) h = inl refl
wanted_mono a r r' (sign sign_is.BracketRight) h = inl refl
wanted_mono a r r' (sign sign_is.BraceLeft) h = inl refl
wanted_mono a r r' (sign sign_is.BraceRight) h = inl refl
wanted_mono a r r' (sign sign_is.And) h = inl refl
wanted_mono a r r' (sign sign_is.Or) h = inl refl
wanted_mono a r r' (sign sign_is.Not) h = inl refl
wanted_mono a r r' (int i) h = inl refl
wanted_mono a r r' (word w) h = inl refl
wanted_mono a r r' (header k) h = inl refl
wanted_mono a r r' (str bs) h = inl refl
wanted_mono a r r' aname h = inl refl
wanted_mono a r r' body h = inl refl
wanted_mono a r r' end h = inl refl
wanted_mono a r r' abort h = inl refl
wanted_mono a r r' finish h = inl refl
wanted_mono a r r' bad h = inl refl

room_mono : (n levels levels' : ℕ) → levels ≤ levels' → ltb n levels ≡ true → ltb n levels' ≡ true
room_mono n levels levels' l e = lt-ltb n levels' (omega (arith, ltb-true n levels e))

module _ (levels levels' a x : ℕ) (rest : List Token) (more : levels ≤ levels') where
  -- a walk behind one token, within fewer and within more levels
  abbrev Keeps : List Token → Type 0
  Keeps ts = (s : LabelState) → walk_within levels a s ts ≡ closed x rest → walk_within levels' a s ts ≡ closed x rest

  keeps_wanted : (f : Frame) (fs : List Frame) (ts : List Token) (w : Wanted) → Keeps ts
      → label.walk_by (on_wanted f fs w) ts (λ u. walk_within levels a u ts) ≡ closed x rest
      → label.walk_by (on_wanted f fs w) ts (λ u. walk_within levels' a u ts) ≡ closed x rest
  keeps_wanted f fs ts (wanted_is.Set y) k e = k _ e
  keeps_wanted f fs ts wanted_is.Not k e = k _ e
  keeps_wanted f fs ts wanted_is.Deeper k e = k _ e
  keeps_wanted f fs ts (wanted_is.Wrong n) k e = closed_faulty (sym e)

  keeps_shut : (y : ℕ) (fs : List Frame) (ts : List Token) → Keeps ts
      → label.walk_by (shut_level y fs) ts (λ u. walk_within levels a u ts) ≡ closed x rest
      → label.walk_by (shut_level y fs) ts (λ u. walk_within levels' a u ts) ≡ closed x rest
  keeps_shut y [] ts k e = e
  keeps_shut y (f ∷ fs) ts k e = k _ e

  keeps_behind : (o c : ℕ) (fs : List Frame) (ts : List Token) (b : Behind) → Keeps ts
      → label.walk_by (on_behind o c fs b) ts (λ u. walk_within levels a u ts) ≡ closed x rest
      → label.walk_by (on_behind o c fs b) ts (λ u. walk_within levels' a u ts) ≡ closed x rest
  keeps_behind o c fs ts behind_is.And k e = k _ e
  keeps_behind o c fs ts behind_is.Or k e = k _ e
  keeps_behind o c fs ts behind_is.Shut k e = keeps_shut _ fs ts k e
  keeps_behind o c fs ts (behind_is.Wrong n) k e = closed_faulty (sym e)

  -- with room or without
  keeps_room : (f : Frame) (fs : List Frame) (t : Token) (ts : List Token) → Keeps ts
      → (wanted a (ltb (length fs) levels) t ≡ wanted a (ltb (length fs) levels') t) ⊎ (wanted a (ltb (length fs) levels) t ≡ wanted_is.Wrong 42)
      → label.walk_by (on_wanted f fs (wanted a (ltb (length fs) levels) t)) ts (λ u. walk_within levels a u ts) ≡ closed x rest
      → label.walk_by (on_wanted f fs (wanted a (ltb (length fs) levels') t)) ts (λ u. walk_within levels' a u ts) ≡ closed x rest
  keeps_room f fs t ts k (inl q) e = rw⁻¹ q (keeps_wanted f fs ts (wanted a (ltb (length fs) levels) t) k e)
  keeps_room f fs t ts k (inr q) e = closed_faulty (sym e ∙ ap (λ (w : Wanted). label.walk_by (on_wanted f fs w) ts (λ u. walk_within levels a u ts)) q)

  keeps : (ts : List Token) → Keeps ts
  unfolding walk_within step_within
  keeps [] s e = closed_going (sym e)
  keeps (t ∷ ts) (wants f fs) e =
      keeps_room f fs t ts (keeps ts) (wanted_mono a (ltb (length fs) levels) (ltb (length fs) levels') t (room_mono (length fs) levels levels' more)) e
  keeps (t ∷ ts) (Has o c fs) e = keeps_behind o c fs ts (behind (is_outermost fs) t) (keeps ts) e

-- both tests hold, and that is too many
too_many : (p q : Bool) → p && q ≡ true → {n m : ℕ} → (p ≡ true → n < m) → (q ≡ true → m ≤ n) → ⊥
too_many true true e f g = omega (arith, f refl, g refl)
too_many true false e f g = absurd (false≢true e)
too_many false q e f g = absurd (false≢true e)

-- ---- a label among the rows

-- a token that begins a row, an edge, or `--END--`
pub data Enters : Token → Type 0 where
  enters_row : Enters (header header_is.State)
  enters_edge : Enters (sign sign_is.BracketLeft)
  enters_end : Enters end

module _ (l : Limits) where
  abbrev onwards : List Token → RowState → RowWalk
  onwards ts u = walk (row_step l) ts u

  module _ (b : Rows) where
    -- what shuts a label leads on behind it
    label_step_lem : (s : LabelState) (t : Token) (ts rest : List Token) (x : ℕ) (y : LabelStep)
        → ((u : LabelState) → walk_within most_levels l.props u ts ≡ closed x rest → onwards ts (in_label u b) ≡ walk_by (shut_label x b) rest (onwards rest))
        → label.walk_by y ts (λ u. walk_within most_levels l.props u ts) ≡ closed x rest
        → walk_by (on_label b y) ts (onwards ts) ≡ walk_by (shut_label x b) rest (onwards rest)
    label_step_lem s t ts rest x (label.go u) ih e = ih u e
    label_step_lem s t ts rest x (label.shut z) ih e = rw (closed_set e, closed_rest e) refl
    label_step_lem s t ts rest x (label.wrong n) ih e = closed_faulty (sym e)

    label_shut : (s : LabelState) (ts rest : List Token) (x : ℕ) → walk_within most_levels l.props s ts ≡ closed x rest
        → onwards ts (in_label s b) ≡ walk_by (shut_label x b) rest (onwards rest)
    unfolding walk row_step walk_within label_step
    label_shut s [] rest x e = closed_going (sym e)
    label_shut s (t ∷ ts) rest x e =
        label_step_lem s t ts rest x (step_within most_levels l.props s t) (λ u q. label_shut u ts rest x q) e

    -- a fault in a label is one among the rows
    record Halts (n : ℕ) (w : RowWalk) : Type 0 where
      left : List Token
      is : w ≡ faulty n left

    halt_step : (t : Token) (ts : List Token) (n : ℕ) (y : LabelStep)
        → ((u : LabelState) → walk_within most_levels l.props u ts ≡ label.faulty n → Halts n (onwards ts (in_label u b)))
        → label.walk_by y ts (λ u. walk_within most_levels l.props u ts) ≡ label.faulty n
        → Halts n (walk_by (on_label b y) ts (onwards ts))
    halt_step t ts n (label.go u) ih e = ih u e
    halt_step t ts n (label.shut z) ih e = closed_faulty e
    halt_step t ts n (label.wrong k) ih e = record { left = ts; is = ap (λ (m : ℕ). faulty m ts) (faulty_inj e) }

    label_halts : (s : LabelState) (ts : List Token) (n : ℕ) → walk_within most_levels l.props s ts ≡ label.faulty n → Halts n (onwards ts (in_label s b))
    unfolding walk row_step walk_within label_step
    label_halts s [] n e = faulty_going (sym e)
    label_halts s (t ∷ ts) n e = halt_step t ts n (step_within most_levels l.props s t) (λ u q. label_halts u ts n q) e

    -- the set of a label that is read, however deep it nests, is the label's
    set_read : (lab : Label) (rest : List Token) (x : ℕ) → label_fits lab l.props
        → walk_within most_levels l.props label_begin (label_text lab (sign sign_is.BracketRight ∷ rest)) ≡ closed x rest → x ≡ label_set lab
    set_read lab rest x f e =
        let m = most_levels + label_depth lab in
        closed_set
        (sym (keeps most_levels m l.props x rest (omega arith) (label_text lab (sign sign_is.BracketRight ∷ rest)) label_begin e)
        ∙ label_complete.complete m l.props lab rest (record { fits = f; deep = omega arith }))

    -- a label leads on behind it, or nests too deep
    label_walk : (lab : Label) (rest : List Token) → label_fits lab l.props
        → Onward (label_depth lab ≤ most_levels) (onwards (label_text lab (sign sign_is.BracketRight ∷ rest)) (in_label label_begin b))
        (walk_by (shut_label (label_set lab) b) rest (onwards rest))
    label_walk lab rest f = by_read (label_complete.any_label_read (Unit {0}) most_levels l.props lab rest (λ _. f))
      where
        by_read : label_complete.Read (Unit {0}) rest (walk_within most_levels l.props label_begin (label_text lab (sign sign_is.BracketRight ∷ rest)))
            → Onward (label_depth lab ≤ most_levels) (onwards (label_text lab (sign sign_is.BracketRight ∷ rest)) (in_label label_begin b))
            (walk_by (shut_label (label_set lab) b) rest (onwards rest))
        by_read (label_complete.whole x e) =
            same
            (label_shut label_begin (label_text lab (sign sign_is.BracketRight ∷ rest)) rest x e
            ∙ ap (λ (y : ℕ). walk_by (shut_label y b) rest (onwards rest)) (set_read lab rest x f e))
        by_read (label_complete.halted n _ is42 e) =
            let h = label_halts label_begin (label_text lab (sign sign_is.BracketRight ∷ rest)) n e in
            limit
            (λ d. closed_faulty (sym (label_complete.complete most_levels l.props lab rest (record { fits = f; deep = d })) ∙ e))
            h.left
            (h.is ∙ ap (λ (m : ℕ). faulty m h.left) (is42 tt))

    -- ---- sigs

    pass_row_marks : (m : ℕ) (is : List ℕ) (rest : List Token) → Each (λ i. i < l.marks) is
        → onwards (ints_text is (sign sign_is.BraceRight ∷ rest)) (row_marks m b) ≡ onwards rest (entries (with_sig (marks_from m is) b))
    unfolding walk row_step sig_step ints_text marks_from
    pass_row_marks m [] rest each_none = refl
    pass_row_marks m (i ∷ is) rest (each_more h hs) = rw (lt-ltb i l.marks h) (pass_row_marks (with_mark m i) is rest hs)

    pass_edge_marks : (x to m : ℕ) (is : List ℕ) (rest : List Token) → Each (λ i. i < l.marks) is
        → onwards (ints_text is (sign sign_is.BraceRight ∷ rest)) (edge_marks m x to b) ≡ onwards rest (entries (with_edge x to (marks_from m is) b))
    unfolding walk row_step sig_step ints_text marks_from
    pass_edge_marks x to m [] rest each_none = refl
    pass_edge_marks x to m (i ∷ is) rest (each_more h hs) = rw (lt-ltb i l.marks h) (pass_edge_marks x to (with_mark m i) is rest hs)

    -- ---- where the token behind is looked at

    behind_sig : (t : Token) → Enters t → row_step l (row_sig b) t ≡ row_step l (entries b) t
    unfolding row_step entry_of
    behind_sig _ enters_row = refl
    behind_sig _ enters_edge = refl
    behind_sig _ enters_end = refl

    behind_name : (t : Token) → Enters t → row_step l (row_name b) t ≡ row_step l (row_sig b) t
    unfolding row_step entry_of
    behind_name _ enters_row = refl
    behind_name _ enters_edge = refl
    behind_name _ enters_end = refl

    behind_target : (x to : ℕ) (t : Token) → Enters t → row_step l (target_more x to b) t ≡ row_step l (entries (with_edge x to b.sig b)) t
    unfolding row_step entry_of
    behind_target x to _ enters_row = refl
    behind_target x to _ enters_edge = refl
    behind_target x to _ enters_end = refl

  -- the same step, and so the same walk
  same_step : (s u : RowState) (t : Token) (rest : List Token) → row_step l s t ≡ row_step l u t → onwards (t ∷ rest) s ≡ onwards (t ∷ rest) u
  unfolding walk
  same_step s u t rest e = ap (λ (x : RowStep). walk_by x rest (onwards rest)) e

  module _ (b : Rows) (t : Token) (rest : List Token) (o : Enters t) where
    row_sig_walk : (sig : Option (List ℕ)) → SigFits l.marks sig → b.sig ≡ 0
        → onwards (perhaps_sig sig (t ∷ rest)) (row_sig b) ≡ onwards (t ∷ rest) (entries (with_sig (sig_marks 0 sig) b))
    unfolding walk row_step entry_of
    row_sig_walk none f z =
        same_step (row_sig b) (entries b) t rest (behind_sig b t o) ∙ ap (λ (m : ℕ). onwards (t ∷ rest) (entries (with_sig m b))) z
    row_sig_walk (some is) f z = pass_row_marks b 0 is (t ∷ rest) f

    row_name_walk : (name sig : Option (List ℕ)) → onwards (perhaps_text name (perhaps_sig sig (t ∷ rest))) (row_name b) ≡ onwards (perhaps_sig sig (t ∷ rest)) (row_sig b)
    unfolding walk row_step entry_of
    row_name_walk (some bs) sig = refl
    row_name_walk none none = same_step (row_name b) (row_sig b) t rest (behind_name b t o)
    row_name_walk none (some is) = refl

    edge_sig_walk : (x to : ℕ) (sig : Option (List ℕ)) → SigFits l.marks sig
        → onwards (perhaps_sig sig (t ∷ rest)) (target_more x to b) ≡ onwards (t ∷ rest) (entries (with_edge x to (sig_marks b.sig sig) b))
    unfolding walk row_step entry_of
    edge_sig_walk x to none f = same_step (target_more x to b) (entries (with_edge x to b.sig b)) t rest (behind_target b x to t o)
    edge_sig_walk x to (some is) f = pass_edge_marks b x to b.sig is (t ∷ rest) f

    -- ---- an edge

    -- behind the label: the set's limit, the target, its limit, the sig
    target_walk : (x to : ℕ) (sig : Option (List ℕ)) → not_below to l.states ≡ false → SigFits l.marks sig
        → Onward (to < most_job_states) (onwards (int to ∷ perhaps_sig sig (t ∷ rest)) (target x b)) (onwards (t ∷ rest) (entries (with_edge x to (sig_marks b.sig sig) b)))
    unfolding walk row_step wants_int
    target_walk x to sig below f =
        rw below
        (onward_then
        (by_limit (leb most_job_states to) (target_more x to b) (perhaps_sig sig (t ∷ rest)) (onwards (perhaps_sig sig (t ∷ rest)))
        (λ e h. omega (arith, leb-true most_job_states to e)))
        (edge_sig_walk x to sig f))

    -- where a row has begun an edge may
    edge_opens : (r : ℕ) (rs : List ℕ) (us : List Token) → b.seen ≡ r ∷ rs
        → onwards (sign sign_is.BracketLeft ∷ us) (entries b) ≡ onwards us (in_label label_begin b)
    unfolding walk row_step entry_of
    edge_opens r rs us q = ap (λ (seen : List ℕ). walk_by (behind_row seen (go (in_label label_begin b))) us (onwards us)) q

    pub edge_walk : (r : ℕ) (rs : List ℕ) (e : EdgeTree) (b' : Rows) → b.seen ≡ r ∷ rs → (f : TakesEdge l b e b')
        → Onward (EdgeLimit l f) (onwards (edge_text e (t ∷ rest)) (entries b)) (onwards (t ∷ rest) (entries b'))
    unfolding conj_text EdgeLimit
    edge_walk r rs _ _ q (takes_edge lab to sig fits below sig_fits) =
        onward_from
        (edge_opens r rs (label_text lab (sign sign_is.BracketRight ∷ int to ∷ perhaps_sig sig (t ∷ rest))) q)
        (onward_more
        (label_walk b lab (int to ∷ perhaps_sig sig (t ∷ rest)) fits)
        (onward_more
        (by_limit (ltb 0 (label_set lab) && leb most_job_edges (length b.edges)) (target (label_set lab) b) (int to ∷ perhaps_sig sig (t ∷ rest))
        (onwards (int to ∷ perhaps_sig sig (t ∷ rest)))
        (λ e h. too_many (ltb 0 (label_set lab)) (leb most_job_edges (length b.edges)) e (λ p. h (ltb-true 0 (label_set lab) p)) (leb-true most_job_edges (length b.edges))))
        (target_walk (label_set lab) to sig below sig_fits)))

  -- ---- all edges, all rows

  -- the tokens begin with one that begins a row, an edge, or `--END--`
  record Front (ts : List Token) : Type 0 where
    token : Token
    rest : List Token
    is : ts ≡ token ∷ rest
    enters : Enters token

  rows_front : (rs : List Row) (left : List Token) → Front (rows_text rs (end ∷ left))
  unfolding rows_text
  rows_front [] left = record { token = end; rest = left; is = refl; enters = enters_end }
  rows_front (r ∷ rs) left = record { token = header header_is.State; rest = _; is = refl; enters = enters_row }

  edges_front : (b b' : Rows) (es : List EdgeTree) (ts : List Token) → TakesEdges l b es b' → Front ts → Front (edges_text es ts)
  unfolding edges_text
  edges_front b b' [] ts (takes_no_edge e) f = f
  edges_front b b' _ ts (takes_edge_more (takes_edge lab to sig _ _ _) fs) f =
      record { token = sign sign_is.BracketLeft; rest = _; is = refl; enters = enters_edge }

  -- an edge leaves the row as it is
  edge_seen : (b b' : Rows) (e : EdgeTree) → TakesEdge l b e b' → b'.seen ≡ b.seen
  edge_seen b _ _ (takes_edge lab to sig _ _ _) = refl

  edges_walk : (r : ℕ) (rs : List ℕ) (b b' : Rows) (es : List EdgeTree) (ts : List Token) → b.seen ≡ r ∷ rs → Front ts → (fs : TakesEdges l b es b')
      → Onward (EdgesLimit l fs) (onwards (edges_text es ts) (entries b)) (onwards ts (entries b'))
  unfolding edges_text EdgesLimit
  edges_walk r rs b b' _ ts q front (takes_no_edge e) = same (ap (λ (x : Rows). onwards ts (entries x)) e)
  edges_walk r rs b b'' _ ts q front (takes_edge_more {b' = b'} {e = e} {es = es} f fs) =
      let here = edges_front b' b'' es ts fs front in
      onward_more
      (rw here.is (edge_walk b here.token here.rest here.enters r rs e b' q f))
      (edges_walk r rs b' b'' es ts (edge_seen b b' e f ∙ q) front fs)

  -- a row, up to its edges
  row_begins : (b : Rows) (r : Row) (t : Token) (rest : List Token) (b' : Rows) → Enters t → (f : TakesRow l b r b')
      → Onward (r.number < most_job_states)
      (onwards (header header_is.State ∷ perhaps_label r.label (int r.number ∷ perhaps_text r.name (perhaps_sig r.sig (t ∷ rest)))) (entries b))
      (onwards (t ∷ rest) (entries (with_sig (sig_marks 0 r.sig) (with_row r.number b))))
  unfolding walk row_step entry_of wants_int
  row_begins b r t rest b' o f =
      rw (f.room, f.no_label, f.below, f.new)
      (onward_then
      (by_limit (leb most_job_states r.number) (row_name (with_row r.number b)) (perhaps_text r.name (perhaps_sig r.sig (t ∷ rest)))
      (onwards (perhaps_text r.name (perhaps_sig r.sig (t ∷ rest)))) (λ e h. omega (arith, leb-true most_job_states r.number e)))
      (row_name_walk (with_row r.number b) t rest o r.name r.sig
      ∙ row_sig_walk (with_row r.number b) t rest o r.sig f.sig_fits refl))

  row_walk : (b b' : Rows) (r : Row) (ts : List Token) → Front ts → (f : TakesRow l b r b')
      → Onward (RowLimit l f) (onwards (row_text r ts) (entries b)) (onwards ts (entries b'))
  row_walk b b' r ts front f =
      let b0 = with_sig (sig_marks 0 r.sig) (with_row r.number b) in
      let here = edges_front b0 b' r.edges ts f.edges_fit front in
      let first : Onward (r.number < most_job_states) (onwards (row_text r ts) (entries b)) (onwards (edges_text r.edges ts) (entries b0)) =
      rw here.is (row_begins b r here.token here.rest b' here.enters f) in
      onward_by (λ m. (m.few, m.edges_few)) (onward_more first (edges_walk r.number b.seen b0 b' r.edges ts refl front f.edges_fit))

  -- the rows lead on as they fit
  pub rows_walk : (b b' : Rows) (rs : List Row) (left : List Token) (fs : TakesRows l b rs b')
      → Onward (RowsLimit l fs) (onwards (rows_text rs (end ∷ left)) (entries b)) (onwards (end ∷ left) (entries b'))
  unfolding rows_text RowsLimit
  rows_walk b b' _ left (takes_no_row e) = same (ap (λ (x : Rows). onwards (end ∷ left) (entries x)) e)
  rows_walk b b'' _ left (takes_row_more {b' = b'} {r = r} {rs = rs} f fs) =
      onward_more (row_walk b b' r (rows_text rs (end ∷ left)) (rows_front rs left) f) (rows_walk b' b'' rs left fs)
