-- Lists that are made one by one: what holds of each, that none comes twice, how many there are, and their order. Assumes nothing.
use mathlib.Core.Bool.{Bool, true, false, cond}
use mathlib.Core.List.{List, [], ◌∷◌, ◌++◌}
use mathlib.Core.Path.{◌≡◌, refl, sym, ap, ◌∙◌}
use Prim.Native.Nat.{ℕ, zero, suc, ◌<◌}
use native.Mathlib.Omega.{arith}
use lib.Dec.{eqb}
use lib.ListN.{length, get_or, length-append}
use Rattle.table.proofs.Rows.{Sorted}
use Rattle.job_text.specs.Value.{Edge}
use Rattle.hoa_kept.proofs.Holding.{leaving_append}
use Rattle.hoa_kept.specs.Sorted.{leaving, sorted}
use Rattle.hoa_written.proofs.Back.{up_to, leaving_to, by_state, edges_by_state}
use Rattle.hoa_grammar.specs.Subset.{Each, each_none, each_more, Differ, differ_none, differ_more}
use Rattle.hoa_round.specs.Back.{edge_of, edges_to}

-- ---- each

module _ {A : Type 0} {P : A → Type 0} where
  -- of two lists
  pub each_append : {xs ys : List A} → Each P xs → Each P ys → Each P (xs ++ ys)
  each_append each_none b = b
  each_append (each_more h a) b = each_more h (each_append a b)

  -- of an element or none
  each_if : (b : Bool) (x : A) → P x → Each P (cond b (x ∷ []) [])
  each_if true x h = each_more h each_none
  each_if false x h = each_none

  -- of all below k
  pub each_up : (f : ℕ → A) (k : ℕ) → ((i : ℕ) → i < k → P (f i)) → Each P (up_to f k)
  each_up f zero h = each_none
  each_up f (suc k) h = each_append (each_up f k (λ i l. h i (omega arith))) (each_more (h k (omega arith)) each_none)

  -- of those below k that leave s
  pub each_leaving : (f : ℕ → A) (from : List ℕ) (s k : ℕ) → ((i : ℕ) → P (f i)) → Each P (leaving_to f from s k)
  each_leaving f from s zero h = each_none
  each_leaving f from s (suc k) h = each_append (each_leaving f from s k h) (each_if (eqb (get_or from k 0) s) (f k) (h k))

-- ---- none comes twice

-- one more that is not there
differ_last : {A : Type 0} {xs : List A} {x : A} → Differ xs → Each (λ y. y ≡ x → ⊥) xs → Differ (xs ++ (x ∷ []))
differ_last differ_none n = differ_more each_none differ_none
differ_last (differ_more h d) (each_more n ns) = differ_more (each_append h (each_more n each_none)) (differ_last d ns)

-- the numbers below k
pub differ_up : (k : ℕ) → Differ (up_to (λ (i : ℕ). i) k)
differ_up zero = differ_none
differ_up (suc k) = differ_last (differ_up k) (each_up (λ (i : ℕ). i) k (λ i l (e : i ≡ k). omega arith))

-- ---- how many

-- all below k are k
pub length_up : {A : Type 0} (f : ℕ → A) (k : ℕ) → length (up_to f k) ≡ k
length_up f zero = refl
length_up f (suc k) = length-append (up_to f k) (f k ∷ []) ∙ (omega (arith, length_up f k))

-- ---- the edges of a table

module _ (from to marks : List ℕ) where
  -- the edges below k
  pub edges_up : (k : ℕ) → edges_to from to marks k ≡ up_to (edge_of from to marks) k
  edges_up zero = refl
  edges_up (suc k) = ap (λ (es : List Edge). es ++ (edge_of from to marks k ∷ [])) (edges_up k)

  -- those of the edges below k
  leaving_up : (q k : ℕ) → leaving q (up_to (edge_of from to marks) k) ≡ leaving_to (edge_of from to marks) from q k
  leaving_up q zero = refl
  leaving_up q (suc k) =
      leaving_append q (up_to (edge_of from to marks) k) (edge_of from to marks k ∷ [])
      ∙ ap (λ (es : List Edge). es ++ cond (eqb (get_or from k 0) q) (edge_of from to marks k ∷ []) []) (leaving_up q k)

  -- state by state
  sorted_up : (n : ℕ) → sorted n (up_to (edge_of from to marks) (length from)) ≡ by_state (edge_of from to marks) from n
  sorted_up zero = refl
  sorted_up (suc n) =
      ap (λ (es : List Edge). es ++ leaving n (up_to (edge_of from to marks) (length from))) (sorted_up n)
      ∙ ap (λ (es : List Edge). by_state (edge_of from to marks) from n ++ es) (leaving_up n (length from))

  module _ (n : ℕ) (up : Sorted from) (under : (e : ℕ) → e < length from → get_or from e 0 < n) where
    -- the rows in order have the table's edges
    pub rows_have : by_state (edge_of from to marks) from n ≡ up_to (edge_of from to marks) (length from)
    rows_have = edges_by_state (edge_of from to marks) from up n under

    -- and are sorted
    pub rows_sorted : edges_to from to marks (length from) ≡ sorted n (by_state (edge_of from to marks) from n)
    rows_sorted = edges_up (length from) ∙ sym rows_have ∙ sym (sorted_up n) ∙ ap (sorted n) (sym rows_have)
