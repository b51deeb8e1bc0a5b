-- What reading back rests on: the marks of an edge, put together again, are its set, and the edges state by state are the edges of the table. Assumes nothing.
use mathlib.Core.Path.{◌≡◌, refl, sym, ap, ◌∙◌}
use mathlib.Core.Bool.{cond}
use mathlib.Core.List.{List, [], ◌∷◌, ◌++◌, append-nil, append_assoc}
use mathlib.Core.Logic.{⊎_elim, inl, inr}
use Prim.Native.Nat.{ℕ, zero, suc, ◌+◌, ◌-◌, ◌/◌, ◌%◌, ◌^◌, ◌≤◌, ◌<◌}
use native.Mathlib.Nat.{add-zero, add-suc}
use native.Mathlib.Omega.{arith}
use lib.Dec.{eqb}
use lib.ListN.{length, get_or, drop}
use borrow.Author.Tests.{eq-eqb, ne_eqb}
use Rattle.marks.specs.Mark.{Has, union, width}
use Rattle.marks.proofs.Cases.{same, below}
use Rattle.marks.proofs.Laws.{Has-none, Has-or_not, Has-union, Has-power, Has-fits, same_marks}
use Rattle.table.specs.Row.{run, Row}
use Rattle.table.proofs.Rows.{Sorted, Begins, first_begins, row_is, next_begins}

-- ---- a machine that takes tokens

-- ---- the marks of an edge

-- the marks of a set below k, put together one by one
unfoldable pub gathered : ℕ → ℕ → ℕ
gathered set zero = 0
gathered set (suc k) = cond (eqb (set / 2 ^ k % 2) 1) (union (gathered set k) (2 ^ k)) (gathered set k)

-- a mark that the set has comes in
gathered_has : (set k : ℕ) → Has k set → gathered set (suc k) ≡ union (gathered set k) (2 ^ k)
unfolding gathered Has
gathered_has set k h = rw (eq-eqb (set / 2 ^ k % 2) 1 h)

-- another does not
gathered_not : (set k : ℕ) → (Has k set → ⊥) → gathered set (suc k) ≡ gathered set k
unfolding gathered Has
gathered_not set k h = rw (ne_eqb (set / 2 ^ k % 2) 1 h)

-- none below 0
gathered_zero : (set : ℕ) → gathered set 0 ≡ 0
unfolding gathered
gathered_zero set = refl

-- it has what the set has, and nothing else
gathered_in : (set k i : ℕ) → Has i (gathered set k) → Has i set
gathered_in set zero i h = absurd (Has-none i (rw (gathered_zero set) at h))
gathered_in set (suc k) i h =
    Has-or_not k set
    (λ there.
    ⊎_elim (λ w. gathered_in set k i w) (λ w. rw ((Has-power i k).0 w) there) ((Has-union i (gathered set k) (2 ^ k)).0 (rw (gathered_has set k there) at h)))
    (λ absent. gathered_in set k i (rw (gathered_not set k absent) at h))

-- it has each mark of the set that is below k
in_gathered : (set k i : ℕ) → i < k → Has i set → Has i (gathered set k)
in_gathered set zero i l h = absurd (omega arith)
in_gathered set (suc k) i l h =
    same i k
    (λ (e : i ≡ k). rw (gathered_has set k (rw e at h)) ((Has-union i (gathered set k) (2 ^ k)).1 (inr ((Has-power i k).1 e))))
    (λ (e : i ≡ k → ⊥).
    let below-k = in_gathered set k i (omega arith) h in
    Has-or_not k set
    (λ there. rw (gathered_has set k there) ((Has-union i (gathered set k) (2 ^ k)).1 (inl below-k)))
    (λ absent. rw (gathered_not set k absent) below-k))

-- all marks of a set put together are the set
pub gathered_all : (set : ℕ) → set < 2 ^ width → gathered set width ≡ set
gathered_all set l =
    same_marks (gathered set width) set (gathered_in set width) (λ i h. in_gathered set width i (Has-fits width i set l h) h)

-- ---- the edges, state by state

module _ {A : Type 0} (edge : ℕ → A) where
  -- the edges below k, in their order
  abbrev pub up_to : ℕ → List A
  up_to zero = []
  up_to (suc k) = up_to k ++ (edge k ∷ [])

  -- those that leave s
  abbrev pub leaving_to : List ℕ → ℕ → ℕ → List A
  leaving_to from s zero = []
  leaving_to from s (suc k) = leaving_to from s k ++ cond (eqb (get_or from k 0) s) (edge k ∷ []) []

  -- those of the states below n, state by state
  abbrev pub by_state : List ℕ → ℕ → List A
  by_state from zero = []
  by_state from (suc n) = by_state from n ++ leaving_to from n (length from)

  module _ (from : List ℕ) (s : ℕ) where
    -- an edge that leaves s comes in
    leaves : (k : ℕ) → get_or from k 0 ≡ s → leaving_to from s (suc k) ≡ leaving_to from s k ++ (edge k ∷ [])
    leaves k e = rw (eq-eqb (get_or from k 0) s e)

    -- another does not
    stays : (k : ℕ) → (get_or from k 0 ≡ s → ⊥) → leaving_to from s (suc k) ≡ leaving_to from s k
    stays k e = rw (ne_eqb (get_or from k 0) s e) (append-nil (leaving_to from s k))

    module _ (a b : ℕ) (R : Row from s a b) where
      -- none before the row
      none_before : (k : ℕ) → k ≤ a → leaving_to from s k ≡ []
      none_before zero l = refl
      none_before (suc k) l = stays k (λ (e : get_or from k 0 ≡ s). omega (arith, R.before k l)) ∙ none_before k (omega arith)

      -- each inside the row
      all_inside : (j : ℕ) → a + j ≤ b → up_to a ++ leaving_to from s (a + j) ≡ up_to (a + j)
      all_inside zero l = rw (add-zero a, none_before a (omega arith)) (append-nil (up_to a))
      all_inside (suc j) l =
          let here = leaves (a + j) (R.inside (a + j) (omega arith) (omega arith)) in
          rw (add-suc a j)
          (ap (λ (es : List A). up_to a ++ es) here ∙ sym (append_assoc (up_to a) (leaving_to from s (a + j)) (edge (a + j) ∷ []))
          ∙ ap (λ (es : List A). es ++ (edge (a + j) ∷ [])) (all_inside j (omega arith)))

      -- none after the row
      none_after : (j : ℕ) → b + j ≤ length from → leaving_to from s (b + j) ≡ leaving_to from s b
      none_after zero l = rw (add-zero b)
      none_after (suc j) l =
          rw (add-suc b j) (stays (b + j) (λ (e : get_or from (b + j) 0 ≡ s). omega (arith, R.after (b + j) (omega arith) (omega arith))) ∙ none_after j (omega arith))

      -- the edges of a row stand behind those of the rows before it
      row_next : up_to a ++ leaving_to from s (length from) ≡ up_to b
      row_next =
          let inside : a + (b - a) ≡ b = omega (arith, R.ordered) in
          let after : b + (length from - b) ≡ length from = omega (arith, R.ends) in
          ap (λ (es : List A). up_to a ++ es) (ap (leaving_to from s) (sym after) ∙ none_after (length from - b) (omega (arith, R.ends)))
          ∙ (rw inside at (all_inside (b - a) (omega (arith, R.ordered))))

  module _ (from : List ℕ) (up : Sorted from) where
    -- the rows of the states below s are the edges before its row
    record Upto (s : ℕ) : Type 0 where
      row : ℕ
      begins : Begins from s row
      edges : by_state from s ≡ up_to row

    -- state by state
    upto : (s : ℕ) → Upto s
    upto zero = record { row = 0; begins = first_begins from; edges = refl }
    upto (suc s) =
        let u = upto s in
        let R = row_is from up s u.row u.begins in
        let b = u.row + run s (drop u.row from) in
        record {
          row = b;
          begins = next_begins from s u.row b R;
          edges = ap (λ (es : List A). es ++ leaving_to from s (length from)) u.edges ∙ row_next from s u.row b R;
        }

    -- the edges of a sorted table state by state are its edges in their order
    pub edges_by_state : (n : ℕ) → ((e : ℕ) → e < length from → get_or from e 0 < n) → by_state from n ≡ up_to (length from)
    edges_by_state n under =
        let u = upto n in
        let all : u.row ≡ length from =
        below u.row (length from) (λ l. absurd (omega (arith, u.begins.larger u.row (omega arith) l, under u.row l))) (λ l. omega (arith, u.begins.within)) in
        rw all at u.edges
