-- What the tree of a written text says: row by row the edges of the table, each with its own marks. Assumes nothing.
use mathlib.Core.Bool.{Bool, true, false, cond}
use mathlib.Core.List.{List, [], ◌∷◌, ◌++◌, append-nil, append_assoc}
use mathlib.Core.Option.{some, none}
use mathlib.Core.Path.{◌≡◌, refl, sym, ap, subst, ◌∙◌}
use Prim.Native.Nat.{ℕ, zero, suc, ◌/◌, ◌%◌, ◌^◌, ◌≤◌, ◌<◌}
use native.Mathlib.Omega.{arith}
use lib.Dec.{eqb}
use lib.ListN.{length, get_or}
use borrow.Author.Tests.{eqb-true, lt-ltb}
use Rattle.marks.specs.Mark.{Has, union, width}
use Rattle.marks.proofs.Laws.{Has-fits}
use Rattle.job_text.specs.Value.{Edge}
use Rattle.hoa_label.specs.Label.{label_fits, label_holds, Satisfiable}
use Rattle.hoa_entry.specs.Sig.{alone, with_mark}
use Rattle.hoa_written.proofs.Back.{up_to, leaving_to, by_state, gathered, gathered_all}
use Rattle.hoa_grammar.specs.Doc.{EdgeTree, Row}
use Rattle.hoa_grammar.specs.Subset.{Each, each_none, each_more, Differ, marks_from, sig_marks, SigFits, EdgeSays, kept, EdgesSay, no_edges, more_edges}
use Rattle.hoa_grammar.specs.Subset.{RowSays, RowsSay, no_rows, more_rows, numbers_of}
use Rattle.hoa_round.specs.Back.{edge_of}
use Rattle.hoa_round.proofs.Docs.{marks_to, sig_of, truth, tree_of, row_of}
use Rattle.hoa_round.proofs.Lists.{each_append, differ_up}

-- ---- the marks of an edge

-- of two lists of numbers
marks_append : (m : ℕ) (is js : List ℕ) → marks_from m (is ++ js) ≡ marks_from (marks_from m is) js
unfolding marks_from
marks_append m [] js = refl
marks_append m (i ∷ is) js = marks_append (with_mark m i) is js

-- a mark or none
mark_if : (b : Bool) (m i : ℕ) → i < width → marks_from m (cond b (i ∷ []) []) ≡ cond b (union m (2 ^ i)) m
unfolding marks_from alone
mark_if true m i l = rw (lt-ltb i width l)
mark_if false m i l = refl

-- the marks of a set below k, one by one
marks_gather : (set k : ℕ) → k ≤ width → marks_from 0 (marks_to set k) ≡ gathered set k
unfolding marks_from gathered
marks_gather set zero l = refl
marks_gather set (suc k) l =
    let one = cond (eqb (set / 2 ^ k % 2) 1) (k ∷ []) [] in
    marks_append 0 (marks_to set k) one
    ∙ mark_if (eqb (set / 2 ^ k % 2) 1) (marks_from 0 (marks_to set k)) k (omega arith)
    ∙ ap (λ (m : ℕ). cond (eqb (set / 2 ^ k % 2) 1) (union m (2 ^ k)) m) (marks_gather set k (omega arith))

-- all of them are the set
pub sig_back : (set : ℕ) → set < 2 ^ width → sig_marks 0 (sig_of set) ≡ set
sig_back set l = by (eqb set 0) refl
  where
    by : (b : Bool) → eqb set 0 ≡ b → sig_marks 0 (cond b none (some (marks_to set width))) ≡ set
    by true e = sym (eqb-true set 0 e)
    by false e = marks_gather set width (omega arith) ∙ gathered_all set l

-- each is one of the c marks
marks_fit : (c set k : ℕ) → set < 2 ^ c → Each (λ i. i < c) (marks_to set k)
unfolding Has
marks_fit c set zero l = each_none
marks_fit c set (suc k) l = each_append (marks_fit c set k l) (by (eqb (set / 2 ^ k % 2) 1) refl)
  where
    by : (b : Bool) → eqb (set / 2 ^ k % 2) 1 ≡ b → Each (λ i. i < c) (cond b (k ∷ []) [])
    by true e = each_more (Has-fits c k set l (eqb-true (set / 2 ^ k % 2) 1 e)) each_none
    by false e = each_none

-- so that the sig fits
sig_fits : (c set : ℕ) → set < 2 ^ c → SigFits c (sig_of set)
sig_fits c set l = by (eqb set 0)
  where
    by : (b : Bool) → SigFits c (cond b none (some (marks_to set width)))
    by true = tt
    by false = marks_fit c set width l

-- ---- the label

-- `t` has no propositions
truth_fits : label_fits truth 0
unfolding label_fits
truth_fits = tt

-- it holds
truth_holds : Satisfiable 0 truth
unfolding label_holds
truth_holds = record { values = λ i. false; of_a = λ i l. refl; makes_true = refl }

-- ---- one after another

-- edges
edges_say : {n a c q m : ℕ} {es fs : List EdgeTree} {xs ys : List Edge} → EdgesSay n a c q m es xs → EdgesSay n a c q m fs ys → EdgesSay n a c q m (es ++ fs) (xs ++ ys)
edges_say no_edges t = t
edges_say {n = n} {a = a} {c = c} {q = q} {m = m} {fs = fs} {ys = ys} (more_edges {e = e} {es = es} {xs = xs} {ys = zs} s r) t =
    subst (λ (ws : List Edge). EdgesSay n a c q m (e ∷ (es ++ fs)) ws) (sym (append_assoc xs zs ys)) (more_edges s (edges_say r t))

-- rows
rows_say_lem : {n a c : ℕ} {rs ss : List Row} {xs ys : List Edge} → RowsSay n a c rs xs → RowsSay n a c ss ys → RowsSay n a c (rs ++ ss) (xs ++ ys)
rows_say_lem no_rows t = t
rows_say_lem {n = n} {a = a} {c = c} {ss = ss} {ys = ys} (more_rows {r = r} {rs = rs} {xs = xs} {ys = zs} s h) t =
    subst (λ (ws : List Edge). RowsSay n a c (r ∷ (rs ++ ss)) ws) (sym (append_assoc xs zs ys)) (more_rows s (rows_say_lem h t))

-- ---- the table

module _ (n c : ℕ) (from to marks : List ℕ) (under : (e : ℕ) → e < length from → get_or to e 0 < n)
    (fits : (e : ℕ) → e < length from → get_or marks e 0 < 2 ^ c) (small : (e : ℕ) → e < length from → get_or marks e 0 < 2 ^ width) where
  -- an edge that leaves q
  edge_says : (q e : ℕ) → e < length from → get_or from e 0 ≡ q → EdgeSays n 0 c q 0 (tree_of to marks e) (edge_of from to marks e ∷ [])
  edge_says q e l h =
      subst (λ (x : Edge). EdgeSays n 0 c q 0 (tree_of to marks e) (x ∷ [])) same
      (kept truth_fits (under e l) (sig_fits c (get_or marks e 0) (fits e l)) truth_holds)
    where
      same : ◌≡◌ {A = Edge} (record { from = q; to = get_or to e 0; marks = sig_marks 0 (sig_of (get_or marks e 0)) }) (edge_of from to marks e)
      same = λ i. record { from = sym h i; to = get_or to e 0; marks = sig_back (get_or marks e 0) (small e l) i }

  -- the edges below k that leave q
  leaving_say : (q k : ℕ) → k ≤ length from → EdgesSay n 0 c q 0 (leaving_to (tree_of to marks) from q k) (leaving_to (edge_of from to marks) from q k)
  leaving_say q zero l = no_edges
  leaving_say q (suc k) l = edges_say (leaving_say q k (omega arith)) (by (eqb (get_or from k 0) q) refl)
    where
      by : (b : Bool) → eqb (get_or from k 0) q ≡ b → EdgesSay n 0 c q 0 (cond b (tree_of to marks k ∷ []) []) (cond b (edge_of from to marks k ∷ []) [])
      by true e = more_edges (edge_says q k l (eqb-true (get_or from k 0) q e)) no_edges
      by false e = no_edges

  -- the row of a state
  row_says : (q : ℕ) → q < n → RowSays n 0 c (row_of from to marks q) (leaving_to (edge_of from to marks) from q (length from))
  row_says q l = record { no_label = refl; below = l; sig_fits = tt; edges_say = leaving_say q (length from) (omega arith) }

  -- the rows below k
  pub all_say : (k : ℕ) → k ≤ n → RowsSay n 0 c (up_to (row_of from to marks) k) (by_state (edge_of from to marks) from k)
  all_say zero l = no_rows
  all_say (suc k) l =
      rows_say_lem (all_say k (omega arith))
      (subst (λ (es : List Edge). RowsSay n 0 c (row_of from to marks k ∷ []) es) (append-nil (leaving_to (edge_of from to marks) from k (length from)))
      (more_rows (row_says k (omega arith)) no_rows))

-- ---- the rows' numbers

-- of two lists of rows
numbers_append : (rs ss : List Row) → numbers_of (rs ++ ss) ≡ numbers_of rs ++ numbers_of ss
numbers_append [] ss = refl
numbers_append (r ∷ rs) ss = ap (λ (qs : List ℕ). r.number ∷ qs) (numbers_append rs ss)

-- 0 up to k - 1
numbers_up : (from to marks : List ℕ) (k : ℕ) → numbers_of (up_to (row_of from to marks) k) ≡ up_to (λ (i : ℕ). i) k
numbers_up from to marks zero = refl
numbers_up from to marks (suc k) =
    numbers_append (up_to (row_of from to marks) k) (row_of from to marks k ∷ []) ∙ ap (λ (qs : List ℕ). qs ++ (k ∷ [])) (numbers_up from to marks k)

-- no state has two rows
pub numbers_differ : (from to marks : List ℕ) (k : ℕ) → Differ (numbers_of (up_to (row_of from to marks) k))
numbers_differ from to marks k = subst Differ (sym (numbers_up from to marks k)) (differ_up k)
