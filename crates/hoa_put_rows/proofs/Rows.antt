-- The lines of a state are those of the run of edges where its row stands. Assumes nothing.
use mathlib.Core.Path.{◌≡◌, refl, sym, ap, ◌∙◌}
use mathlib.Core.Bool.{Bool, cond}
use mathlib.Core.List.{List, [], append-nil}
use Prim.Native.Nat.{ℕ, zero, suc, ◌+◌, ◌-◌, ◌*◌, ◌≤◌, ◌<◌}
use native.Mathlib.Nat.{add-zero, add-suc}
use native.Mathlib.Omega.{arith}
use lib.ListN.{length, get_or, drop, length-drop}
use lib.Seq.{take_all}
use borrow.Author.Tests.{eq-eqb, ne_eqb}
use Rattle.table.specs.Row.{part, run, Row}
use Rattle.table.proofs.Rows.{part_length, part_at, run_most, Sorted, Begins, row_is, next_begins}
use Rattle.puts.specs.Put.{joined, PutFew}
use Rattle.hoa_written.specs.Written.{edge_text, leaving, row_text}
use Rattle.hoa_put_rows.specs.inner.{edges_text, state_text}
use Rattle.puts.proofs.Few.{joined_more}

-- ---- joined texts

-- empty texts leave nothing
joined_empty : (f : ℕ → List ℕ) (k : ℕ) → ((i : ℕ) → i < k → f i ≡ []) → joined f k ≡ []
unfolding joined
joined_empty f zero h = refl
joined_empty f (suc k) h = rw (joined_empty f k (λ i l. h i (omega arith)), h k (omega arith))

-- behind empty texts, those of g
joined_behind : (f g : ℕ → List ℕ) (a k : ℕ) → joined f a ≡ [] → ((i : ℕ) → i < k → f (a + i) ≡ g i) → joined f (a + k) ≡ joined g k
unfolding joined
joined_behind f g a zero e h = ap (joined f) (add-zero a) ∙ e
joined_behind f g a (suc k) e h = ap (joined f) (add-suc a k) ∙ rw (joined_behind f g a k e (λ i l. h i (omega arith)), h k (omega arith))

-- empty texts behind others
joined_before : (f : ℕ → List ℕ) (b k : ℕ) → ((i : ℕ) → i < k → f (b + i) ≡ []) → joined f (b + k) ≡ joined f b
unfolding joined
joined_before f b zero h = ap (joined f) (add-zero b)
joined_before f b (suc k) h = ap (joined f) (add-suc b k) ∙ rw (h k (omega arith), append-nil) (joined_before f b k (λ i l. h i (omega arith)))

-- ---- the row of a state

module _ (from to marks : List ℕ) (s : ℕ) where
  -- an edge that leaves s is written
  leaves : (e : ℕ) → get_or from e 0 ≡ s → leaving from to marks s e ≡ edge_text (get_or to e 0) (get_or marks e 0)
  leaves e q = ap (λ (b : Bool). cond b (edge_text (get_or to e 0) (get_or marks e 0)) []) (eq-eqb (get_or from e 0) s q)

  -- another is not
  stays : (e : ℕ) → (get_or from e 0 ≡ s → ⊥) → leaving from to marks s e ≡ []
  stays e q = ap (λ (b : Bool). cond b (edge_text (get_or to e 0) (get_or marks e 0)) []) (ne_eqb (get_or from e 0) s q)

  module _ (to_length : length to ≡ length from) (marks_length : length marks ≡ length from) (a b : ℕ) (R : Row from s a b) where
    -- in the row: the edge at this place of its part
    inside : (i : ℕ) → i < b - a → leaving from to marks s (a + i) ≡ edge_text (get_or (part a b to) i 0) (get_or (part a b marks) i 0)
    inside i l = leaves (a + i) (R.inside (a + i) (omega arith) (omega arith)) ∙ rw (part_at a b to i l, part_at a b marks i l)

    -- those before and behind the row are not written, those inside it are
    edges_are : joined (leaving from to marks s) (length from) ≡ edges_text (part a b to) (part a b marks)
    edges_are =
        let before = joined_empty (leaving from to marks s) a (λ i l. stays i (λ (q : get_or from i 0 ≡ s). omega (arith, R.before i l))) in
        let within = joined_behind (leaving from to marks s) (λ i. edge_text (get_or (part a b to) i 0) (get_or (part a b marks) i 0)) a (b - a) before inside in
        let after =
        joined_before (leaving from to marks s) b (length from - b)
        (λ i l. stays (b + i) (λ (q : get_or from (b + i) 0 ≡ s). omega (arith, R.after (b + i) (omega arith) (omega (arith, R.ends))))) in
        let whole : b + (length from - b) ≡ length from = omega (arith, R.ends) in
        let upto : a + (b - a) ≡ b = omega (arith, R.ordered) in
        let long : length (part a b to) ≡ b - a = part_length a b to (omega (arith, R.ends)) in
        sym (ap (joined (leaving from to marks s)) whole) ∙ after ∙ sym (ap (joined (leaving from to marks s)) upto) ∙ within ∙ rw long

    -- the text of a state, by the part of the tables where its row stands
    pub row_text_lem : row_text from to marks s ≡ state_text s (part a b to) (part a b marks)
    unfolding row_text
    row_text_lem = rw edges_are

-- ---- the walk over the rows

module _ (from : List ℕ) (s a r : ℕ) (within : a ≤ length from) (found : r ≡ run s (part a (length from) from)) where
  -- the part up to the end is all that is left
  all_left : part a (length from) from ≡ drop a from
  all_left = take_all (length from - a) (drop a from) (omega (arith, length-drop a from))

  -- the row ends within the table
  pub row_ends : a + r ≤ length from
  row_ends = omega (arith, found, ap (run s) all_left, run_most s (drop a from), length-drop a from)

  -- the run that is found is the row
  pub row_at_lem : Sorted from → Begins from s a → Row from s a (a + r)
  row_at_lem up b =
      let e : a + r ≡ a + run s (drop a from) = ap (λ (k : ℕ). a + k) (found ∙ ap (run s) all_left) in
      rw e (row_is from up s a b)

-- one row more: the next one begins where it ends
module _ (from to marks : List ℕ) (s a b : ℕ) (to_length : length to ≡ length from) (marks_length : length marks ≡ length from) (R : Row from s a b) where
  -- one row more is written
  pub rows_more : {out mid out' : List ℕ} {at m r : ℕ} → PutFew out mid at (joined (row_text from to marks) s) m (20 * s + 400 * a)
      → PutFew mid out' m (state_text s (part a b to) (part a b marks)) r (20 + 400 * length (part a b to))
      → PutFew out out' at (joined (row_text from to marks) (s + 1)) r (20 * (s + 1) + 400 * b)
  rows_more p q =
      let long : length (part a b to) ≡ b - a = part_length a b to (omega (arith, R.ends)) in
      joined_more (row_text from to marks) _ p (rw (← row_text_lem from to marks s to_length marks_length a b R) at q) (omega (arith, R.ordered))

  -- and the next one begins behind it
  pub next_row : Begins from (s + 1) b
  next_row = let e : s + 1 ≡ suc s = omega arith in rw e (next_begins from s a b R)
