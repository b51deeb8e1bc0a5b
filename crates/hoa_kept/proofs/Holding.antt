-- What a row and an edge change keeps the rows held. Assumes nothing.
use mathlib.Core.Path.{◌≡◌, refl, sym, ap, ◌∙◌}
use mathlib.Core.Bool.{true, false≢true}
use mathlib.Core.List.{List, [], ◌∷◌, ◌++◌, append-nil}
use Prim.Native.Nat.{ℕ, zero, suc, ◌+◌, ◌-◌, ◌≤◌, ◌<◌, max}
use native.Mathlib.Omega.{arith}
use borrow.Author.Tests.{lt-ltb, eq-eqb, ne_eqb, eqb-true, ltb-true}
use lib.Dec.{eqb, ltb}
use lib.ListN.{length, get_or, set, take, drop, replicate, length-append, length-drop, length-replicate, length-set}
use lib.Seq.{take-append-le, drop-append-le, take_all, get_or-set_same, get_or-set_other}
use Rattle.marks.proofs.Cases.{same}
use Rattle.hoa_tokens.proofs.Sizes.{by_test}
use Rattle.job_text.specs.Value.{Edge}
use Rattle.job_text.specs.Job.{most_job_states, most_job_edges}
use Rattle.job_text.proofs.Bodies.{column_more}
use Rattle.hoa_kept.specs.declared.held.RowsSoFar.{RowsSoFar}
use Rattle.hoa_entry.specs.Rows.{Rows, no_rows, last_row, came, with_row, with_sig, with_edge}
use Rattle.hoa_entry.specs.inner.Reads.{Listed}
use Rattle.hoa_kept.specs.Sorted.{leaving}
use Rattle.hoa_kept.specs.inner.Copied.{first_of, end_of}
use Rattle.hoa_kept.specs.inner.Held.{Holds, none_yet, row_begun, rows_with}

-- ---- nothing yet

none_replicate : (n q : ℕ) → ◌≡◌ {A = ℕ} (get_or (replicate n 0) q 0) 0
none_replicate zero q = refl
none_replicate (suc n) zero = refl
none_replicate (suc n) (suc q) = none_replicate n q

pub holds_none : (start : ℕ) → Holds (no_rows start) (none_yet start)
holds_none start =
    let f : (q : ℕ) → get_or (replicate most_job_states 0) q 0 ≡ 0 = λ q. none_replicate most_job_states q in
    record {
      count = refl;
      row = refl;
      sig = refl;
      kept = refl;
      largest = refl;
      targets = refl;
      unions = refl;
      states_first = length-replicate {A = ℕ} most_job_states 0;
      states_end = length-replicate {A = ℕ} most_job_states 0;
      listed = record { small = λ q e. absurd (false≢true e); marked = λ q l. rw (f q) };
      parts = λ q. rw (f q);
      ordered = λ q. omega (arith, f q);
      within = λ q. omega (arith, f q);
      empty = λ q e. f q;
      last = λ q qs e. let z : ◌≡◌ {A = ℕ} 0 1 = cc in absurd (omega arith);
    }

-- ---- a row

came_small : (q : ℕ) (seen firsts : List ℕ) → q < most_job_states → Listed seen firsts → (x : ℕ) → came x (q ∷ seen) ≡ true → x < most_job_states
came_small q seen firsts l h x e =
    by_test (eqb x q) (λ t. rw (eqb-true x q t) l) (λ t. h.small x (rw t at e))

module _ (seen firsts : List ℕ) (q v : ℕ) (l : q < most_job_states) (size : length firsts ≡ most_job_states) (h : Listed seen firsts) where
  pub listed_more : 0 < v → Listed (q ∷ seen) (set firsts q v)
  listed_more p =
      record {
        small = came_small q seen firsts l h;
        marked =
            λ x m.
            same x q
            (λ e. rw (e, eq-eqb q q refl, get_or-set_same firsts q v 0 (omega arith), lt-ltb 0 v p))
            (λ n. rw (ne_eqb x q n, get_or-set_other firsts q x v 0 n, h.marked x m));
      }

module _ (b : Rows) (s : RowsSoFar) (h : Holds b s) where
  -- a row with this number begins
  pub holds_row : (q m : ℕ) → q < most_job_states → get_or s.firsts q 0 ≡ 0 → Holds (with_sig m (with_row q b)) (row_begun s q m)
  holds_row q m l z =
      let firsts = s.firsts in
      let ends = s.ends in
      let f : get_or (set firsts q (s.kept + 1)) q 0 ≡ s.kept + 1 = get_or-set_same firsts q (s.kept + 1) 0 (omega (arith, h.states_first)) in
      let g : get_or (set ends q s.kept) q 0 ≡ s.kept = get_or-set_same ends q s.kept 0 (omega (arith, h.states_end)) in
      let f' : (x : ℕ) → (x ≡ q → ⊥) → get_or (set firsts q (s.kept + 1)) x 0 ≡ get_or firsts x 0 = λ x n. get_or-set_other firsts q x (s.kept + 1) 0 n in
      let g' : (x : ℕ) → (x ≡ q → ⊥) → get_or (set ends q s.kept) x 0 ≡ get_or ends x 0 = λ x n. get_or-set_other ends q x s.kept 0 n in
      let none : leaving q b.edges ≡ [] = rw (h.parts q, h.empty q z, z) in
      let y : s.kept - (s.kept + 1 - 1) ≡ 0 = omega arith in
      record {
        count = omega (arith, h.count);
        row = refl;
        sig = refl;
        kept = h.kept;
        largest = ap (λ (x : ℕ). max x q) h.largest;
        targets = h.targets;
        unions = h.unions;
        states_first = length-set firsts q (s.kept + 1) ∙ h.states_first;
        states_end = length-set ends q s.kept ∙ h.states_end;
        listed = listed_more b.seen firsts q (s.kept + 1) l h.states_first h.listed (omega arith);
        parts = λ x. same x q (λ e. rw (e, f, g, y, none)) (λ n. rw (f' x n, g' x n) (h.parts x));
        ordered = λ x. same x q (λ e. rw (e, f, g) (omega arith)) (λ n. rw (f' x n, g' x n) (h.ordered x));
        within = λ x. same x q (λ e. rw (e, g) (omega (arith, h.kept))) (λ n. rw (g' x n) (h.within x));
        empty = λ x. same x q (λ e. rw (e, f) (λ t. absurd (omega arith))) (λ n. rw (f' x n, g' x n) (h.empty x));
        last = λ x xs e. let t : x ≡ q = cc in rw (t, g) h.kept;
      }

-- ---- an edge

pub leaving_append : (q : ℕ) (xs ys : List Edge) → leaving q (xs ++ ys) ≡ leaving q xs ++ leaving q ys
leaving_append q [] ys = refl
leaving_append q (x ∷ xs) ys =
    by_test (eqb x.from q) (λ t. rw t (ap (λ (es : List Edge). x ∷ es) (leaving_append q xs ys))) (λ t. rw t (leaving_append q xs ys))

-- what stands from f on grows at its end
grown : (es : List Edge) (e : Edge) (f : ℕ) → f ≤ length es
    → take (length es + 1 - f) (drop f (es ++ (e ∷ []))) ≡ take (length es - f) (drop f es) ++ (e ∷ [])
grown es e f l =
    rw (take_all (length es - f) (drop f es) (omega (arith, length-drop f es)), drop-append-le f es (e ∷ []) l)
    (take_all (length es + 1 - f) (drop f es ++ (e ∷ [])) (omega (arith, length-append (drop f es) (e ∷ []), length-drop f es)))

-- what stands before the end stays
stays : (es : List Edge) (e : Edge) (f g : ℕ) → f ≤ g → g ≤ length es → take (g - f) (drop f (es ++ (e ∷ []))) ≡ take (g - f) (drop f es)
stays es e f g l m =
    rw (drop-append-le f es (e ∷ []) (omega arith))
    (take-append-le (g - f) (drop f es) (e ∷ []) (omega (arith, length-drop f es)))

-- the last row is one of those so far
came_last : (seen : List ℕ) → (length seen ≡ 0 → ⊥) → (came (last_row seen) seen ≡ true) × (seen ≡ last_row seen ∷ drop 1 seen)
came_last [] n = absurd (n refl)
came_last (q ∷ qs) n = (rw (eq-eqb q q refl), refl)

module _ (b : Rows) (s : RowsSoFar) (h : Holds b s) where
  -- an edge that is kept
  kept_edge : (x to m : ℕ) → (s.count ≡ 0 → ⊥) → s.row < most_job_states → s.kept < most_job_edges
      → Holds (with_edge (suc x) to m b) (rows_with s (suc x) to m)
  kept_edge x to m some l room =
      let tos = s.tos in
      let sets = s.sets in
      let firsts = s.firsts in
      let ends = s.ends in
      let es = b.edges in
      let e : Edge = record { from = last_row b.seen; to = to; marks = m } in
      let i = s.row in
      let at : s.kept ≡ length es = h.kept in
      let there = came_last b.seen (λ z. some (h.count ∙ z)) in
      let old : end_of ends i ≡ length es = rw h.row (h.last (last_row b.seen) (drop 1 b.seen) there.1) in
      let g : get_or (set ends i (s.kept + 1)) i 0 ≡ s.kept + 1 = get_or-set_same ends i (s.kept + 1) 0 (omega (arith, h.states_end)) in
      let g' : (q : ℕ) → (q ≡ i → ⊥) → get_or (set ends i (s.kept + 1)) q 0 ≡ get_or ends q 0 = λ q n. get_or-set_other ends i q (s.kept + 1) 0 n in
      let mine : leaving i (es ++ (e ∷ [])) ≡ leaving i es ++ (e ∷ []) =
      leaving_append i es (e ∷ []) ∙ ap (λ (xs : List Edge). leaving i es ++ xs) (rw (eq-eqb (last_row b.seen) i (sym h.row)))
      in
      let others : (q : ℕ) → (q ≡ i → ⊥) → leaving q (es ++ (e ∷ [])) ≡ leaving q es =
      λ q n. leaving_append q es (e ∷ []) ∙ rw (ne_eqb (last_row b.seen) q (λ t. n (sym t ∙ sym h.row)), append-nil)
      in
      let marked : ltb 0 (get_or firsts i 0) ≡ true = sym (h.listed.marked i l) ∙ rw h.row there.0 in
      record {
        count = h.count;
        row = h.row;
        sig = h.sig;
        kept = omega (arith, at, length-append es (e ∷ []));
        largest = ap (λ (n : ℕ). max n to) h.largest;
        targets = rw at (column_more (λ (d : Edge). d.to) es e tos (omega (arith, at)) h.targets);
        unions = rw at (column_more (λ (d : Edge). d.marks) es e sets (omega (arith, at)) h.unions);
        states_first = h.states_first;
        states_end = length-set ends i (s.kept + 1) ∙ h.states_end;
        listed = h.listed;
        parts =
            λ q.
            same q i
            (λ t. rw (t, g, at, mine, h.parts i, old) (sym (grown es e (first_of firsts i) (omega (arith, h.ordered i, old)))))
            (λ n. rw (g' q n, others q n, h.parts q) (sym (stays es e (first_of firsts q) (end_of ends q) (h.ordered q) (h.within q))));
        ordered = λ q. same q i (λ t. rw (t, g) (omega (arith, h.ordered i, old, at))) (λ n. rw (g' q n) (h.ordered q));
        within =
            λ q.
            same q i (λ t. rw (t, g) (omega (arith, at, length-append es (e ∷ []))))
            (λ n. rw (g' q n) (omega (arith, h.within q, length-append es (e ∷ []))));
        empty =
            λ q.
            same q i (λ t. rw t (λ z. absurd (omega (arith, ltb-true 0 (get_or firsts i 0) marked)))) (λ n. rw (g' q n) (h.empty q));
        last =
            λ q qs t.
            let y : q ≡ i = ap last_row (sym t) ∙ sym h.row in
            rw (y, g) (omega (arith, at, length-append es (e ∷ [])));
      }

  -- an edge that no valuation satisfies
  dropped_edge : (to m : ℕ) → Holds (with_edge zero to m b) (rows_with s zero to m)
  dropped_edge to m =
      rw (append-nil b.edges)
      (record {
        count = h.count;
        row = h.row;
        sig = h.sig;
        kept = h.kept;
        largest = ap (λ (n : ℕ). max n to) h.largest;
        targets = h.targets;
        unions = h.unions;
        states_first = h.states_first;
        states_end = h.states_end;
        listed = h.listed;
        parts = h.parts;
        ordered = h.ordered;
        within = h.within;
        empty = h.empty;
        last = h.last;
      })

  pub holds_edge : (x to m : ℕ) → (s.count ≡ 0 → ⊥) → s.row < most_job_states → (0 < x → s.kept < most_job_edges)
      → Holds (with_edge x to m b) (rows_with s x to m)
  holds_edge zero to m some l room = dropped_edge to m
  holds_edge (suc x) to m some l room = kept_edge x to m some l (room (omega arith))
