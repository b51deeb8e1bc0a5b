-- Placed tokens and tokens: a run over the placed tokens of a text is a walk over its tokens; nothing follows the text's end. Assumes nothing.
use mathlib.Core.Bool.{Bool, true, false, cond, ◌||◌, ◌&&◌}
use mathlib.Core.List.{List, [], ◌∷◌}
use mathlib.Core.Logic.{◌⊎◌, inl, inr}
use mathlib.Core.Path.{◌≡◌, refl, sym, ap, subst, ◌∙◌}
use Prim.Native.Nat.{ℕ, zero, suc}
use lib.Dec.{ltb, leb}
use lib.ListN.{length, drop}
use Rattle.job_text.specs.Job.{most_job_states, most_job_edges}
use Rattle.hoa_step.specs.Given.{not_below}
use Rattle.hoa_tokens.specs.Token.{Token, int, word, header, str, aname, sign, body, end, abort, finish, bad}
use Rattle.hoa_tokens.specs.declared.Header.TheVariants as header_is
use Rattle.hoa_tokens.specs.Stream.{Placed, first, unless_finished, some}
use Rattle.hoa_step.specs.Machine.{Step, go, done, wrong, End, done_at, wrong_at, cut, end_by, run, wants_int}
use Rattle.hoa_label.specs.Labels as label
use Rattle.hoa_label.specs.Labels.{LabelStep, label_step, label_begin}
use Rattle.hoa_entry.specs.declared.Limits.{Limits}
use Rattle.hoa_entry.specs.declared.Entry.{Entry}
use Rattle.hoa_entry.specs.declared.Entry.TheVariants as entry_is
use Rattle.hoa_entry.specs.Sig.{SigStep, sig_step}
use Rattle.hoa_entry.specs.Rows.{
  Rows,
  Kept,
  RowState,
  entries,
  row_number,
  row_name,
  row_sig,
  row_marks,
  in_label,
  target,
  target_more,
  edge_marks,
  closing,
  RowStep,
  entry_of,
  full_rows,
  wrong_end,
  came,
  behind_row,
  on_entry,
  on_number,
  labelled,
  on_sig,
  on_name,
  on_row_marks,
  on_label,
  on_target,
  on_more,
  on_edge_marks,
  on_closing,
  row_step,
  with_row,
  with_edge,
}
use Rattle.hoa_grammar.specs.Walk.{Walk, going, over, faulty, walk_by, walk, tokens_of}

-- ---- runs and walks

module _ {S D : Type 0} (step : S → Token → Step S D) where
  is_done : End D → Type 0
  is_done (done_at d ps) = Unit {0}
  is_done (wrong_at n p) = ⊥
  is_done cut = ⊥

  wrong_done : {A : Type 0} {n p : ℕ} {d : D} {ps : List Placed} → wrong_at n p ≡ done_at d ps → A
  unfolding is_done
  wrong_done e = absurd (subst is_done (sym e) tt)

  cut_done : {A : Type 0} {d : D} {ps : List Placed} → cut ≡ done_at d ps → A
  unfolding is_done
  cut_done e = absurd (subst is_done (sym e) tt)

  -- what the end of a stretch has
  abbrev done_or : D → End D → D
  done_or x (done_at y rs) = y
  done_or x (wrong_at n p) = x
  done_or x cut = x

  abbrev rest_is : End D → List Placed
  rest_is (done_at y rs) = rs
  rest_is (wrong_at n p) = []
  rest_is cut = []

  abbrev ended : D → List Token → Walk S D
  ended d ts = over d ts

  same_end : (d d' : D) (ps qs : List Placed) → done_at d' ps ≡ done_at d qs → ended d' (tokens_of ps) ≡ ended d (tokens_of qs)
  same_end d d' ps qs e = λ i. over (ap (done_or d') e i) (tokens_of (ap rest_is e i))

  run_step : (x : Step S D) (place : ℕ) (ps qs : List Placed) (d : D)
      → ((u : S) → run step ps u ≡ done_at d qs → walk step (tokens_of ps) u ≡ over d (tokens_of qs))
      → end_by x place ps (λ u. run step ps u) ≡ done_at d qs → walk_by x (tokens_of ps) (λ u. walk step (tokens_of ps) u) ≡ over d (tokens_of qs)
  run_step (go u) place ps qs d ih e = ih u e
  run_step (done d') place ps qs d ih e = same_end d d' ps qs e
  run_step (wrong n) place ps qs d ih e = wrong_done e

  pub run_walk : (ps qs : List Placed) (s : S) (d : D) → run step ps s ≡ done_at d qs → walk step (tokens_of ps) s ≡ over d (tokens_of qs)
  unfolding run walk tokens_of
  run_walk [] qs s d e = cut_done e
  run_walk (p ∷ ps) qs s d e = run_step (step s p.token) p.place ps qs d (λ u. run_walk ps qs u d) e

  -- and back
  pub record Ran (ps : List Placed) (s : S) (d : D) (us : List Token) : Type 0 where
    pub left : List Placed
    pub is : run step ps s ≡ done_at d left
    pub tokens : tokens_of left ≡ us

  is_over : Walk S D → Type 0
  is_over (going s) = ⊥
  is_over (over d ts) = Unit {0}
  is_over (faulty n ts) = ⊥

  abbrev over_or : D → Walk S D → D
  over_or x (going u) = x
  over_or x (over y ts) = y
  over_or x (faulty n ts) = x

  abbrev left_of : Walk S D → List Token
  left_of (going u) = []
  left_of (over y ts) = ts
  left_of (faulty n ts) = []

  ran_step : (p : Placed) (ps : List Placed) (s : S) (d : D) (us : List Token) (x : Step S D) → step s p.token ≡ x
      → ((u : S) → walk step (tokens_of ps) u ≡ over d us → Ran ps u d us)
      → walk_by x (tokens_of ps) (λ u. walk step (tokens_of ps) u) ≡ over d us → Ran (p ∷ ps) s d us
  unfolding run is_over
  ran_step p ps s d us (go u) q ih e =
      let r = ih u e in
      record { left = r.left; is = rw q r.is; tokens = r.tokens }
  ran_step p ps s d us (done d') q ih e =
      record { left = ps; is = rw q (ap (λ x. done_at x ps) (ap (over_or d') e)); tokens = ap left_of e }
  ran_step p ps s d us (wrong n) q ih e = absurd (subst is_over (sym e) tt)

  pub walk_run : (ps : List Placed) (s : S) (d : D) (us : List Token) → walk step (tokens_of ps) s ≡ over d us → Ran ps s d us
  unfolding walk tokens_of is_over
  walk_run [] s d us e = absurd (subst is_over (sym e) tt)
  walk_run (p ∷ ps) s d us e = ran_step p ps s d us (step s p.token) refl (λ u. walk_run ps u d us) e

-- ---- nothing follows the text's end

-- the tokens behind one of a text are tokens of it, or there are none
pub data Behind (text : List ℕ) (ps : List Placed) : Type 0 where
  goes_on : (k at : ℕ) → ps ≡ some k text at → Behind text ps

finished_none : (t : Token) (ps : List Placed) → t ≡ finish → unless_finished t ps ≡ []
finished_none t ps e = rw e refl

not_finished : (t : Token) (ps : List Placed) → (t ≡ finish) ⊎ (unless_finished t ps ≡ ps)
not_finished finish ps = inl refl
not_finished (int i) ps = inr refl
not_finished (word w) ps = inr refl
not_finished (header k) ps = inr refl
not_finished (str bs) ps = inr refl
not_finished aname ps = inr refl
not_finished (sign g) ps = inr refl
not_finished body ps = inr refl
not_finished end ps = inr refl
not_finished abort ps = inr refl
not_finished bad ps = inr refl

-- what stands behind a token of a text
behind : (text : List ℕ) (k at : ℕ) (t : Token) → Behind text (unless_finished t (some k text at))
unfolding some
behind text k at t = by (not_finished t (some k text at))
  where
    by : (t ≡ finish) ⊎ (unless_finished t (some k text at) ≡ some k text at) → Behind text (unless_finished t (some k text at))
    by (inl e) = goes_on zero at (finished_none t (some k text at) e)
    by (inr e) = goes_on k at e

module _ {S D : Type 0} (step : S → Token → Step S D) (text : List ℕ) where
  left_step : (x : Step S D) (place : ℕ) (ps qs : List Placed) (d : D) → Behind text ps
      → ((u : S) → run step ps u ≡ done_at d qs → Behind text qs)
      → end_by x place ps (λ u. run step ps u) ≡ done_at d qs → Behind text qs
  left_step (go u) place ps qs d b ih e = ih u e
  left_step (done d') place ps qs d b ih e = subst (Behind text) (ap (rest_is step) e) b
  left_step (wrong n) place ps qs d b ih e = wrong_done step e

  by_rest : (t : Token) (k next : ℕ) (u : S) (d : D) (qs : List Placed) → (run step (some k text next) u ≡ done_at d qs → Behind text qs)
      → (t ≡ finish) ⊎ (unless_finished t (some k text next) ≡ some k text next)
      → run step (unless_finished t (some k text next)) u ≡ done_at d qs → Behind text qs
  unfolding run
  by_rest t k next u d qs ih (inl q) e = cut_done step (sym (ap (λ ps. run step ps u) (finished_none t (some k text next) q)) ∙ e)
  by_rest t k next u d qs ih (inr q) e = ih (sym (ap (λ ps. run step ps u) q) ∙ e)

  -- what a run leaves of a text's tokens are tokens of the text
  pub run_leaves : (k at : ℕ) (s : S) (d : D) (qs : List Placed) → run step (some k text at) s ≡ done_at d qs → Behind text qs
  unfolding some run
  run_leaves zero at s d qs e = cut_done step e
  run_leaves (suc k) at s d qs e =
      let p = first at (drop at text) in
      left_step (step s p.token) p.place (unless_finished p.token (some k text p.next)) qs d (behind text k p.next p.token)
      (λ u q. by_rest p.token k p.next u d qs (run_leaves k p.next u d qs) (not_finished p.token (some k text p.next)) q)
      e

-- ---- rows end at the text's end alone

-- the step does not end the rows
abbrev GoesOn : RowStep → Type 0
GoesOn (go s) = Unit {0}
GoesOn (done d) = ⊥
GoesOn (wrong n) = Unit {0}

on_cond : (b : Bool) (x y : RowStep) → GoesOn x → GoesOn y → GoesOn (cond b x y)
on_cond true x y h k = h
on_cond false x y h k = k

on_row : (qs : List ℕ) (x : RowStep) → GoesOn x → GoesOn (behind_row qs x)
on_row [] x h = tt
on_row (q ∷ qs) x h = h

on_int : (f : ℕ → RowStep) (t : Token) → ((i : ℕ) → GoesOn (f i)) → GoesOn (wants_int f t)
unfolding wants_int
on_int f (int i) h = h i
on_int f (word w) h = tt
on_int f (header k) h = tt
on_int f (str bs) h = tt
on_int f aname h = tt
on_int f (sign g) h = tt
on_int f body h = tt
on_int f end h = tt
on_int f abort h = tt
on_int f finish h = tt
on_int f bad h = tt

module _ (l : Limits) where
  on_entry_lem : (b : Rows) (x : Entry) → GoesOn (on_entry l b x)
  on_entry_lem b entry_is.Row = on_cond (full_rows l b) (wrong 41) (go (row_number b)) tt tt
  on_entry_lem b entry_is.Edge = on_row b.seen (go (in_label label_begin b)) tt
  on_entry_lem b entry_is.Bare = on_row b.seen (wrong 41) tt
  on_entry_lem b entry_is.Close = on_cond (wrong_end l.states b) (wrong 41) (go (closing b)) tt tt
  on_entry_lem b entry_is.Sig = tt
  on_entry_lem b entry_is.Text = tt
  on_entry_lem b entry_is.Join = tt
  on_entry_lem b (entry_is.Wrong n) = tt

  on_sig_lem : (b : Rows) (x : Entry) → GoesOn (on_sig l b x)
  on_sig_lem b entry_is.Sig = tt
  on_sig_lem b entry_is.Row = on_entry_lem b entry_is.Row
  on_sig_lem b entry_is.Edge = on_entry_lem b entry_is.Edge
  on_sig_lem b entry_is.Bare = on_entry_lem b entry_is.Bare
  on_sig_lem b entry_is.Close = on_entry_lem b entry_is.Close
  on_sig_lem b entry_is.Text = on_entry_lem b entry_is.Text
  on_sig_lem b entry_is.Join = on_entry_lem b entry_is.Join
  on_sig_lem b (entry_is.Wrong n) = on_entry_lem b (entry_is.Wrong n)

  on_name_lem : (b : Rows) (x : Entry) → GoesOn (on_name l b x)
  on_name_lem b entry_is.Text = tt
  on_name_lem b entry_is.Row = on_sig_lem b entry_is.Row
  on_name_lem b entry_is.Edge = on_sig_lem b entry_is.Edge
  on_name_lem b entry_is.Bare = on_sig_lem b entry_is.Bare
  on_name_lem b entry_is.Close = on_sig_lem b entry_is.Close
  on_name_lem b entry_is.Sig = on_sig_lem b entry_is.Sig
  on_name_lem b entry_is.Join = on_sig_lem b entry_is.Join
  on_name_lem b (entry_is.Wrong n) = on_sig_lem b (entry_is.Wrong n)

  on_more_lem : (x to : ℕ) (b : Rows) (e : Entry) → GoesOn (on_more l x to b e)
  on_more_lem x to b entry_is.Join = tt
  on_more_lem x to b entry_is.Sig = tt
  on_more_lem x to b entry_is.Row = on_entry_lem (with_edge x to b.sig b) entry_is.Row
  on_more_lem x to b entry_is.Edge = on_entry_lem (with_edge x to b.sig b) entry_is.Edge
  on_more_lem x to b entry_is.Bare = on_entry_lem (with_edge x to b.sig b) entry_is.Bare
  on_more_lem x to b entry_is.Close = on_entry_lem (with_edge x to b.sig b) entry_is.Close
  on_more_lem x to b entry_is.Text = on_entry_lem (with_edge x to b.sig b) entry_is.Text
  on_more_lem x to b (entry_is.Wrong n) = on_entry_lem (with_edge x to b.sig b) (entry_is.Wrong n)

  number : (b : Rows) (t : Token) → GoesOn (wants_int (on_number l b) t)
  number b t = on_int (on_number l b) t (λ q. on_cond (not_below q l.states || came q b.seen) (wrong 41) (cond (leb most_job_states q) (wrong 42) (go (row_name (with_row q b)))) tt
      (on_cond (leb most_job_states q) (wrong 42) (go (row_name (with_row q b))) tt tt))

  on_number_lem : (b : Rows) (t : Token) (x : Entry) → GoesOn (labelled x (wants_int (on_number l b) t))
  on_number_lem b t entry_is.Edge = tt
  on_number_lem b t entry_is.Row = number b t
  on_number_lem b t entry_is.Bare = number b t
  on_number_lem b t entry_is.Close = number b t
  on_number_lem b t entry_is.Sig = number b t
  on_number_lem b t entry_is.Text = number b t
  on_number_lem b t entry_is.Join = number b t
  on_number_lem b t (entry_is.Wrong n) = number b t

  on_row_marks_lem : (b : Rows) (x : SigStep) → GoesOn (on_row_marks b x)
  on_row_marks_lem b (go m) = tt
  on_row_marks_lem b (done m) = tt
  on_row_marks_lem b (wrong n) = tt

  on_edge_marks_lem : (x to : ℕ) (b : Rows) (y : SigStep) → GoesOn (on_edge_marks x to b y)
  on_edge_marks_lem x to b (go m) = tt
  on_edge_marks_lem x to b (done m) = tt
  on_edge_marks_lem x to b (wrong n) = tt

  on_label_lem : (b : Rows) (x : LabelStep) → GoesOn (on_label b x)
  on_label_lem b (label.go s) = tt
  on_label_lem b (label.shut x) = on_cond (ltb 0 x && leb most_job_edges (length b.edges)) (wrong 42) (go (target x b)) tt tt
  on_label_lem b (label.wrong n) = tt

  abbrev Ends : Token → RowStep → Type 0
  Ends t (go s) = Unit {0}
  Ends t (done d) = t ≡ finish
  Ends t (wrong n) = Unit {0}

  ends_not : (t : Token) (x : RowStep) → GoesOn x → Ends t x
  ends_not t (go s) h = tt
  ends_not t (done d) h = absurd h
  ends_not t (wrong n) h = tt

  closing_ends : (b : Rows) (t : Token) → Ends t (on_closing b t)
  unfolding on_closing
  closing_ends b finish = refl
  closing_ends b (header header_is.Hoa) = tt
  closing_ends b (header header_is.States) = tt
  closing_ends b (header header_is.Start) = tt
  closing_ends b (header header_is.Ap) = tt
  closing_ends b (header header_is.Alias) = tt
  closing_ends b (header header_is.Acceptance) = tt
  closing_ends b (header header_is.AccName) = tt
  closing_ends b (header header_is.Tool) = tt
  closing_ends b (header header_is.Name) = tt
  closing_ends b (header header_is.Properties) = tt
  closing_ends b (header header_is.State) = tt
  closing_ends b (header header_is.Capital) = tt
  closing_ends b (header header_is.Lower) = tt
  closing_ends b (int i) = tt
  closing_ends b (word w) = tt
  closing_ends b (str bs) = tt
  closing_ends b aname = tt
  closing_ends b (sign g) = tt
  closing_ends b body = tt
  closing_ends b end = tt
  closing_ends b abort = tt
  closing_ends b bad = tt

  -- the rows are done at the text's end alone
  row_ends : (s : RowState) (t : Token) → Ends t (row_step l s t)
  unfolding row_step
  row_ends (entries b) t = ends_not t (on_entry l b (entry_of t)) (on_entry_lem b (entry_of t))
  row_ends (row_number b) t = ends_not t (labelled (entry_of t) (wants_int (on_number l b) t)) (on_number_lem b t (entry_of t))
  row_ends (row_name b) t = ends_not t (on_name l b (entry_of t)) (on_name_lem b (entry_of t))
  row_ends (row_sig b) t = ends_not t (on_sig l b (entry_of t)) (on_sig_lem b (entry_of t))
  row_ends (row_marks m b) t = ends_not t (on_row_marks b (sig_step l.marks m t)) (on_row_marks_lem b (sig_step l.marks m t))
  row_ends (in_label s b) t = ends_not t (on_label b (label_step l.props s t)) (on_label_lem b (label_step l.props s t))
  row_ends (target x b) t =
      ends_not t (wants_int (on_target l x b) t) (on_int (on_target l x b) t (λ to. on_cond (not_below to l.states) (wrong 41) (cond (leb most_job_states to) (wrong 42) (go (target_more x to b))) tt
      (on_cond (leb most_job_states to) (wrong 42) (go (target_more x to b)) tt tt)))
  row_ends (target_more x to b) t = ends_not t (on_more l x to b (entry_of t)) (on_more_lem x to b (entry_of t))
  row_ends (edge_marks m x to b) t = ends_not t (on_edge_marks x to b (sig_step l.marks m t)) (on_edge_marks_lem x to b (sig_step l.marks m t))
  row_ends (closing b) t = closing_ends b t

  last_step : (x : RowStep) (t : Token) (place : ℕ) (ps qs : List Placed) (d : Kept) → Ends t x
      → ((u : RowState) → run (row_step l) (unless_finished t ps) u ≡ done_at d qs → qs ≡ [])
      → end_by x place (unless_finished t ps) (λ u. run (row_step l) (unless_finished t ps) u) ≡ done_at d qs → qs ≡ []
  last_step (go u) t place ps qs d h ih e = ih u e
  last_step (done d') t place ps qs d h ih e = sym (ap (rest_is (row_step l)) e) ∙ finished_none t ps h
  last_step (wrong n) t place ps qs d h ih e = wrong_done (row_step l) e

  none_left_by : (t : Token) (text : List ℕ) (k next : ℕ) (u : RowState) (d : Kept) (qs : List Placed)
      → (run (row_step l) (some k text next) u ≡ done_at d qs → qs ≡ []) → (t ≡ finish) ⊎ (unless_finished t (some k text next) ≡ some k text next)
      → run (row_step l) (unless_finished t (some k text next)) u ≡ done_at d qs → qs ≡ []
  unfolding run
  none_left_by t text k next u d qs ih (inl q) e = cut_done (row_step l) (sym (ap (λ ps. run (row_step l) ps u) (finished_none t (some k text next) q)) ∙ e)
  none_left_by t text k next u d qs ih (inr q) e = ih (sym (ap (λ ps. run (row_step l) ps u) q) ∙ e)

  -- nothing is left behind the rows of a text
  pub none_left : (text : List ℕ) (k at : ℕ) (s : RowState) (d : Kept) (qs : List Placed) → run (row_step l) (some k text at) s ≡ done_at d qs → qs ≡ []
  unfolding some run
  none_left text zero at s d qs e = cut_done (row_step l) e
  none_left text (suc k) at s d qs e =
      let p = first at (drop at text) in
      last_step (row_step l s p.token) p.token p.place (some k text p.next) qs d (row_ends s p.token)
      (λ u q. none_left_by p.token text k p.next u d qs (none_left text k p.next u d qs) (not_finished p.token (some k text p.next)) q)
      e
