-- Rows fit one behind the other exactly if they are rows of the subset: what they say is what is kept (`says-takes`, `takes-says`). Assumes nothing.
use mathlib.Core.Bool.{false}
use mathlib.Core.List.{List, [], ◌∷◌, ◌++◌}
use mathlib.Core.Logic.{◌⊎◌, inl, inr, ◌↔◌}
use mathlib.Core.Path.{◌≡◌, refl, sym, ap, subst, ◌∙◌}
use Prim.Native.Nat.{ℕ, zero, suc, ◌+◌, ◌≤◌, ◌<◌}
use native.Mathlib.Omega.{arith}
use borrow.Author.Tests.{ne_eqb, eqb-false}
use lib.Dec.{eqb}
use lib.ListN.{length, length-append}
use Rattle.marks.proofs.Cases.{either_false}
use Rattle.job_text.specs.Value.{Edge}
use Rattle.job_text.specs.Job.{most_job_states, most_job_edges}
use Rattle.hoa_label.specs.Label.{Satisfiable}
use Rattle.hoa_label.proofs.Sets.{label_set}
use Rattle.hoa_label.proofs.Meaning.{meaning, satisfiable}
use Rattle.hoa_step.specs.Given.{not_below}
use Rattle.hoa_entry.specs.declared.Limits.{Limits}
use Rattle.hoa_entry.specs.Rows.{Rows, with_row, with_sig, with_edge, kept, came, last_row}
use Rattle.hoa_grammar.specs.Doc.{EdgeTree, Row}
use Rattle.hoa_grammar.specs.Subset.{
  Each,
  each_none,
  each_more,
  Differ,
  differ_none,
  differ_more,
  sig_marks,
  EdgeSays,
  EdgesSay,
  no_edges,
  more_edges,
  RowsSay,
  no_rows,
  more_rows,
  numbers_of,
  LabelLimit,
}
use Rattle.hoa_grammar.proofs.RowTakes.{
  edge_tree,
  TakesEdge,
  takes_edge,
  EdgeLimit,
  TakesEdges,
  takes_no_edge,
  takes_edge_more,
  EdgesLimit,
  TakesRow,
  TakesRows,
  takes_no_row,
  takes_row_more,
  RowsLimit,
}

-- ---- parts of what holds of each

each_head : {A : Type 0} {P : A → Type 0} {x : A} {xs : List A} → Each P (x ∷ xs) → P x
each_head (each_more h hs) = h

each_tail : {A : Type 0} {P : A → Type 0} {x : A} {xs : List A} → Each P (x ∷ xs) → Each P xs
each_tail (each_more h hs) = hs

differ_head : {A : Type 0} {x : A} {xs : List A} → Differ (x ∷ xs) → Each (λ y. x ≡ y → ⊥) xs
differ_head (differ_more h hs) = h

differ_tail : {A : Type 0} {x : A} {xs : List A} → Differ (x ∷ xs) → Differ xs
differ_tail (differ_more h hs) = hs

-- ---- what is kept

abbrev edge : ℕ → ℕ → ℕ → Edge
edge q to m = record { from = q; to = to; marks = m }

kept_some : (x q to m : ℕ) → (x ≡ 0 → ⊥) → kept x q to m ≡ edge q to m ∷ []
kept_some zero q to m n = absurd (n refl)
kept_some (suc x) q to m n = refl

kept_none : (x q to m : ℕ) → x ≡ 0 → kept x q to m ≡ []
kept_none zero q to m e = refl
kept_none (suc x) q to m e = absurd (omega arith)

zero_or : (x : ℕ) → (x ≡ 0) ⊎ (x ≡ 0 → ⊥)
zero_or zero = inl refl
zero_or (suc x) = inr (λ (e : suc x ≡ 0). omega arith)

not_some : (x : ℕ) → ((x ≡ 0 → ⊥) → ⊥) → x ≡ 0
not_some zero n = refl
not_some (suc x) n = absurd (n (λ (e : suc x ≡ 0). omega arith))

append_nil : (xs : List Edge) → xs ++ [] ≡ xs
append_nil [] = refl
append_nil (x ∷ xs) = ap (λ ys. x ∷ ys) (append_nil xs)

append_assoc : (xs ys zs : List Edge) → (xs ++ ys) ++ zs ≡ xs ++ (ys ++ zs)
append_assoc [] ys zs = refl
append_assoc (x ∷ xs) ys zs = ap (λ us. x ∷ us) (append_assoc xs ys zs)

-- ---- from what is said to what fits

module _ (l : Limits) (n : ℕ) (six : l.props ≤ 6) (below : (q : ℕ) → q < n → not_below q l.states ≡ false) where
  -- where an edge leads: one that says xs
  record EdgeTaken (b : Rows) (e : EdgeTree) (xs : List Edge) : Type 0 where
    last : Rows
    takes : TakesEdge l b e last
    edges_are : last.edges ≡ b.edges ++ xs
    seen_are : last.seen ≡ b.seen
    sig_is : last.sig ≡ b.sig
    small : b.largest < n → last.largest < n
    few : n ≤ most_job_states → LabelLimit e.label → length b.edges + length xs ≤ most_job_edges → EdgeLimit l takes

  edge_takes : (b : Rows) (q m : ℕ) (e : EdgeTree) (xs : List Edge) → last_row b.seen ≡ q → b.sig ≡ m
      → EdgeSays n l.props l.marks q m e xs → EdgeTaken b e xs
  unfolding EdgeLimit
  edge_takes b q m _ _ row marks (EdgeSays.kept {l = lab} {to = to} {sig = sig} fits t s holds) =
      let some_set : label_set lab ≡ 0 → ⊥ = (satisfiable l.props lab (label_set lab) six fits (meaning l.props six lab fits)).1 holds in
      record {
        last = with_edge (label_set lab) to (sig_marks b.sig sig) b;
        takes = takes_edge lab to sig fits (below to t) s;
        edges_are =
            ap (λ ys. b.edges ++ ys)
            (kept_some (label_set lab) (last_row b.seen) to (sig_marks b.sig sig) some_set
            ∙ (λ i. edge (row i) to (sig_marks (marks i) sig) ∷ []));
        seen_are = refl;
        sig_is = refl;
        small = λ s. omega arith;
        few = λ few_states flat few_edges. (flat, ((λ z. omega arith), omega arith));
      }
  edge_takes b q m _ _ row marks (EdgeSays.dropped {l = lab} {to = to} {sig = sig} fits t s fails) =
      let none-set : label_set lab ≡ 0 = not_some (label_set lab) (λ h. fails ((satisfiable l.props lab (label_set lab) six fits (meaning l.props six lab fits)).0 h)) in
      record {
        last = with_edge (label_set lab) to (sig_marks b.sig sig) b;
        takes = takes_edge lab to sig fits (below to t) s;
        edges_are = ap (λ ys. b.edges ++ ys) (kept_none (label_set lab) (last_row b.seen) to (sig_marks b.sig sig) none-set);
        seen_are = refl;
        sig_is = refl;
        small = λ s. omega arith;
        few = λ few_states flat few_edges. (flat, ((λ (z : 0 < label_set lab). absurd (omega arith)), omega arith));
      }

  record EdgesTaken (b : Rows) (es : List EdgeTree) (xs : List Edge) : Type 0 where
    last : Rows
    takes : TakesEdges l b es last
    edges_are : last.edges ≡ b.edges ++ xs
    seen_are : last.seen ≡ b.seen
    small : b.largest < n → last.largest < n
    few : n ≤ most_job_states → Each (λ e. LabelLimit e.label) es → length b.edges + length xs ≤ most_job_edges → EdgesLimit l takes

  edges_take : (q m : ℕ) (b : Rows) (es : List EdgeTree) (xs : List Edge) → last_row b.seen ≡ q → b.sig ≡ m
      → EdgesSay n l.props l.marks q m es xs → EdgesTaken b es xs
  unfolding EdgesLimit
  edges_take q m b _ _ row marks no_edges =
      record {
        last = b;
        takes = takes_no_edge refl;
        edges_are = sym (append_nil b.edges);
        seen_are = refl;
        small = λ s. s;
        few = λ _ _ _. tt;
      }
  edges_take q m b _ _ row marks (more_edges {e = e} {es = es} {xs = xs} {ys = ys} s ss) =
      let f = edge_takes b q m e xs row marks s in
      let r = edges_take q m f.last es ys (ap last_row f.seen_are ∙ row) (f.sig_is ∙ marks) ss in
      let n1 : length f.last.edges ≡ length b.edges + length xs = ap length f.edges_are ∙ length-append b.edges xs in
      record {
        last = r.last;
        takes = takes_edge_more f.takes r.takes;
        edges_are = r.edges_are ∙ ap (λ zs. zs ++ ys) f.edges_are ∙ append_assoc b.edges xs ys;
        seen_are = r.seen_are ∙ f.seen_are;
        small = λ s. r.small (f.small s);
        few = λ few_states flat few_edges.
            (f.few few_states (each_head flat) (omega (arith, length-append xs ys)), r.few few_states (each_tail flat) (omega (arith, length-append xs ys)));
      }

  -- ---- rows that are said

  -- none of the numbers came so far
  abbrev pub New : List ℕ → List ℕ → Type 0
  New seen qs = Each (λ q. came q seen ≡ false) qs

  still_new : (q : ℕ) (seen qs : List ℕ) → Each (λ r. q ≡ r → ⊥) qs → New seen qs → New (q ∷ seen) qs
  still_new q seen [] each_none each_none = each_none
  still_new q seen (r ∷ qs) (each_more d ds) (each_more e es) = each_more {x = r} (rw (ne_eqb r q (λ (z : r ≡ q). d (sym z)), e) refl) (still_new q seen qs ds es)

  -- the labels of a row nest no deeper than they may
  abbrev pub Flat : Row → Type 0
  Flat r = Each (λ e. LabelLimit e.label) r.edges

  pub record RowsTaken (b : Rows) (rs : List Row) (xs : List Edge) : Type 0 where
    pub last : Rows
    pub takes : TakesRows l b rs last
    pub edges_are : last.edges ≡ b.edges ++ xs
    pub many : length last.seen ≡ length b.seen + length rs
    pub small : b.largest < n → last.largest < n
    pub few : n ≤ most_job_states → Each Flat rs → length b.edges + length xs ≤ most_job_edges → RowsLimit l takes

  pub rows_take : (b : Rows) (rs : List Row) (xs : List Edge)
      → ((k : ℕ) → k < length b.seen + length rs → not_below k l.states ≡ false)
      → New b.seen (numbers_of rs) → Differ (numbers_of rs) → RowsSay n l.props l.marks rs xs → RowsTaken b rs xs
  unfolding RowsLimit
  rows_take b _ _ room new differ no_rows =
      record {
        last = b;
        takes = takes_no_row refl;
        edges_are = sym (append_nil b.edges);
        many = omega arith;
        small = λ s. s;
        few = λ _ _ _. tt;
      }
  rows_take b _ _ room new differ (more_rows {r = r} {rs = rs} {xs = xs} {ys = ys} s ss) =
      let b0 = with_sig (sig_marks 0 r.sig) (with_row r.number b) in
      let f = edges_take r.number (sig_marks 0 r.sig) b0 r.edges xs refl refl s.edges_say in
      let fit : TakesRow l b r f.last =
      record {
        room = room (length b.seen) (omega arith);
        no_label = s.no_label;
        below = below r.number s.below;
        new = each_head new;
        sig_fits = s.sig_fits;
        edges_fit = f.takes;
      } in
      let seen : length f.last.seen ≡ suc (length b.seen) = ap length f.seen_are in
      let next =
      rows_take f.last rs ys (λ k h. room k (omega (arith, seen)))
      (subst (λ (qs : List ℕ). New qs (numbers_of rs)) (sym f.seen_are) (still_new r.number b.seen (numbers_of rs) (differ_head differ) (each_tail new))) (differ_tail differ) ss in
      let n1 : length f.last.edges ≡ length b.edges + length xs = ap length f.edges_are ∙ length-append b.edges xs in
      record {
        last = next.last;
        takes = takes_row_more fit next.takes;
        edges_are = next.edges_are ∙ ap (λ zs. zs ++ ys) f.edges_are ∙ append_assoc b.edges xs ys;
        many = omega (arith, next.many, seen);
        small = λ z. next.small (f.small (omega (arith, s.below)));
        few = λ few_states flat few_edges. (
          record { few = omega (arith, s.below); edges_few = f.few few_states (each_head flat) (omega (arith, length-append xs ys)) },
          next.few few_states (each_tail flat) (omega (arith, n1, length-append xs ys)),
        );
      }

-- ---- from what fits to what is said

-- labels that are held to the limit nest no deeper than they may
flat_edges : (l : Limits) (b last : Rows) (es : List EdgeTree) (fs : TakesEdges l b es last) → EdgesLimit l fs → Each (λ e. LabelLimit e.label) es
unfolding EdgesLimit EdgeLimit
flat_edges l b last _ (takes_no_edge e) h = each_none
flat_edges l b last _ (takes_edge_more (takes_edge lab to sig _ _ _) fs) h = each_more {x = edge_tree lab to sig} h.0.0 (flat_edges l _ last _ fs h.1)

pub flat_rows : (l : Limits) (b last : Rows) (rs : List Row) (fs : TakesRows l b rs last) → RowsLimit l fs
    → Each (λ r. Each (λ e. LabelLimit e.label) r.edges) rs
unfolding RowsLimit
flat_rows l b last _ (takes_no_row e) h = each_none
flat_rows l b last _ (takes_row_more {r = r} f fs) h = each_more {x = r} (flat_edges l _ _ r.edges f.edges_fit h.0.edges_few) (flat_rows l _ last _ fs h.1)

-- no more edges are kept than may be
module _ (l : Limits) where
  kept_few : (x q to m : ℕ) (es : List Edge) → (0 < x → length es < most_job_edges) → length es ≤ most_job_edges → length (es ++ kept x q to m) ≤ most_job_edges
  kept_few zero q to m es f h = subst (λ (ys : List Edge). length ys ≤ most_job_edges) (sym (append_nil es)) h
  kept_few (suc x) q to m es f h = omega (arith, length-append es (kept (suc x) q to m), f (omega arith))

  few_edges : (b last : Rows) (es : List EdgeTree) (fs : TakesEdges l b es last) → EdgesLimit l fs → length b.edges ≤ most_job_edges → length last.edges ≤ most_job_edges
  unfolding EdgesLimit EdgeLimit
  few_edges b last _ (takes_no_edge e) h k = subst (λ (x : Rows). length x.edges ≤ most_job_edges) e k
  few_edges b last _ (takes_edge_more (takes_edge lab to sig _ _ _) fs) h k =
      few_edges _ last _ fs h.1 (kept_few (label_set lab) (last_row b.seen) to (sig_marks b.sig sig) b.edges h.0.1.0 k)

  pub few_rows : (b last : Rows) (rs : List Row) (fs : TakesRows l b rs last) → RowsLimit l fs → length b.edges ≤ most_job_edges → length last.edges ≤ most_job_edges
  unfolding RowsLimit
  few_rows b last _ (takes_no_row e) h k = subst (λ (x : Rows). length x.edges ≤ most_job_edges) e k
  few_rows b last _ (takes_row_more {b' = b'} {r = r} f fs) h k = few_rows b' last _ fs h.1 (few_edges _ b' r.edges f.edges_fit h.0.edges_few k)

module _ (l : Limits) (n most : ℕ) (six : l.props ≤ 6) (within : (q : ℕ) → not_below q l.states ≡ false → q ≤ most → q < n) where
  record EdgeSaid (b : Rows) (e : EdgeTree) (last : Rows) : Type 0 where
    xs : List Edge
    says : last.largest ≤ most → EdgeSays n l.props l.marks (last_row b.seen) b.sig e xs
    edges_are : last.edges ≡ b.edges ++ xs
    seen_are : last.seen ≡ b.seen
    sig_is : last.sig ≡ b.sig
    grows : b.largest ≤ last.largest

  edge_says : (b last : Rows) (e : EdgeTree) → TakesEdge l b e last → EdgeSaid b e last
  edge_says b _ _ (takes_edge lab to sig fits under sigs) = by (zero_or (label_set lab))
    where
      both : (label_set lab ≡ 0 → ⊥) ↔ Satisfiable l.props lab
      both = satisfiable l.props lab (label_set lab) six fits (meaning l.props six lab fits)

      by : (label_set lab ≡ 0) ⊎ (label_set lab ≡ 0 → ⊥) → EdgeSaid b (edge_tree lab to sig) (with_edge (label_set lab) to (sig_marks b.sig sig) b)
      by (inl z) =
          record {
            xs = [];
            says = λ m. EdgeSays.dropped fits (within to under (omega arith)) sigs (λ h. both.1 h z);
            edges_are = ap (λ ys. b.edges ++ ys) (kept_none (label_set lab) (last_row b.seen) to (sig_marks b.sig sig) z);
            seen_are = refl;
            sig_is = refl;
            grows = omega arith;
          }
      by (inr z) =
          record {
            xs = edge (last_row b.seen) to (sig_marks b.sig sig) ∷ [];
            says = λ m. EdgeSays.kept fits (within to under (omega arith)) sigs (both.0 z);
            edges_are = ap (λ ys. b.edges ++ ys) (kept_some (label_set lab) (last_row b.seen) to (sig_marks b.sig sig) z);
            seen_are = refl;
            sig_is = refl;
            grows = omega arith;
          }

  record EdgesSaid (b : Rows) (es : List EdgeTree) (last : Rows) : Type 0 where
    xs : List Edge
    says : last.largest ≤ most → EdgesSay n l.props l.marks (last_row b.seen) b.sig es xs
    edges_are : last.edges ≡ b.edges ++ xs
    seen_are : last.seen ≡ b.seen
    grows : b.largest ≤ last.largest

  edges_say : (b last : Rows) (es : List EdgeTree) → TakesEdges l b es last → EdgesSaid b es last
  edges_say b last _ (takes_no_edge e) =
      record {
        xs = [];
        says = λ m. no_edges;
        edges_are = ap (λ (x : Rows). x.edges) (sym e) ∙ sym (append_nil b.edges);
        seen_are = ap (λ (x : Rows). x.seen) (sym e);
        grows = subst (λ (x : Rows). b.largest ≤ x.largest) e (omega arith);
      }
  edges_say b last _ (takes_edge_more {b' = b'} {e = e} {es = es} f fs) =
      let o = edge_says b b' e f in
      let r = edges_say b' last es fs in
      record {
        xs = o.xs ++ r.xs;
        says = λ m.
            more_edges (o.says (omega (arith, r.grows)))
            (subst (λ (q : ℕ). EdgesSay n l.props l.marks q b.sig es r.xs) (ap last_row o.seen_are)
            (subst (λ (s : ℕ). EdgesSay n l.props l.marks (last_row b'.seen) s es r.xs) o.sig_is (r.says m)));
        edges_are = r.edges_are ∙ ap (λ zs. zs ++ r.xs) o.edges_are ∙ append_assoc b.edges o.xs r.xs;
        seen_are = r.seen_are ∙ o.seen_are;
        grows = omega (arith, o.grows, r.grows);
      }

  pub record RowsSaid (b : Rows) (rs : List Row) (last : Rows) : Type 0 where
    pub xs : List Edge
    pub says : last.largest ≤ most → RowsSay n l.props l.marks rs xs
    pub edges_are : last.edges ≡ b.edges ++ xs
    pub many : length last.seen ≡ length b.seen + length rs
    pub grows : b.largest ≤ last.largest
    pub new : Each (λ q. came q b.seen ≡ false) (numbers_of rs)
    pub differ : Differ (numbers_of rs)

  fewer_seen : (q : ℕ) (seen qs : List ℕ) → Each (λ r. came r (q ∷ seen) ≡ false) qs → Each (λ r. came r seen ≡ false) qs
  fewer_seen q seen [] each_none = each_none
  fewer_seen q seen (r ∷ qs) (each_more e es) = each_more {x = r} (either_false (eqb r q) (came r seen) e).1 (fewer_seen q seen qs es)

  each_differs : (q : ℕ) (seen qs : List ℕ) → Each (λ r. came r (q ∷ seen) ≡ false) qs → Each (λ r. q ≡ r → ⊥) qs
  each_differs q seen [] each_none = each_none
  each_differs q seen (r ∷ qs) (each_more e es) =
      each_more {x = r} (λ z. eqb-false r q (either_false (eqb r q) (came r seen) e).0 (sym z)) (each_differs q seen qs es)

  pub rows_say_lem : (b last : Rows) (rs : List Row) → TakesRows l b rs last → RowsSaid b rs last
  rows_say_lem b last _ (takes_no_row e) =
      record {
        xs = [];
        says = λ m. no_rows;
        edges_are = ap (λ (x : Rows). x.edges) (sym e) ∙ sym (append_nil b.edges);
        many = subst (λ (x : Rows). length x.seen ≡ length b.seen + 0) e (omega arith);
        grows = subst (λ (x : Rows). b.largest ≤ x.largest) e (omega arith);
        new = each_none;
        differ = differ_none;
      }
  rows_say_lem b last _ (takes_row_more {b' = b'} {r = r} {rs = rs} f fs) =
      let b0 = with_sig (sig_marks 0 r.sig) (with_row r.number b) in
      let o = edges_say b0 b' r.edges f.edges_fit in
      let next = rows_say_lem b' last rs fs in
      let seen : b'.seen ≡ r.number ∷ b.seen = o.seen_are in
      let news : Each (λ q. came q (r.number ∷ b.seen) ≡ false) (numbers_of rs) =
      subst (λ (qs : List ℕ). Each (λ q. came q qs ≡ false) (numbers_of rs)) seen next.new in
      record {
        xs = o.xs ++ next.xs;
        says = λ m.
            more_rows
            (record {
              no_label = f.no_label;
              below = within r.number f.below (omega (arith, o.grows, next.grows));
              sig_fits = f.sig_fits;
              edges_say = o.says (omega (arith, next.grows));
            })
            (next.says m);
        edges_are = next.edges_are ∙ ap (λ zs. zs ++ next.xs) o.edges_are ∙ append_assoc b.edges o.xs next.xs;
        many = omega (arith, next.many, ap length seen);
        grows = omega (arith, o.grows, next.grows);
        new = each_more {x = r.number} f.new (fewer_seen r.number b.seen (numbers_of rs) news);
        differ = differ_more (each_differs r.number b.seen (numbers_of rs) news) next.differ;
      }
