-- The formula that is written means the condition, with its needs; Streett 0 comes back as Büchi 0. Assumes nothing.
use mathlib.Core.Path.{◌≡◌, refl, sym, ap, ◌∙◌}
use mathlib.Core.Bool.{false}
use mathlib.Core.List.{List, [], ◌∷◌, ◌++◌, reverse, reverse-cons, append_assoc}
use Prim.Native.Nat.{ℕ, zero, suc, ◌+◌, ◌-◌, ◌*◌, ◌/◌, ◌≤◌}
use native.Mathlib.Nat.{add-zero}
use native.Mathlib.Omega.{arith}
use lib.Dec.{ltb}
use lib.ListN.{length, drop, replicate}
use borrow.Author.Tests.{ltb-false}
use Rattle.marks.proofs.Cases.{either_false}
use Rattle.table.specs.declared.Acceptance.{Acceptance}
use Rattle.table.specs.declared.Acceptance.TheVariants as acceptance
use Rattle.table.specs.Condition.{need}
use Rattle.table.specs.Refusal.{some_need, used, wrong_condition}
use Rattle.table.proofs.Sound.{rabin_few}
use Rattle.hoa_standard.specs.Standard.{standard, infs_count, pair_need, rabin_needs, eight_needs, truth_meaning, std_meaning}
use Rattle.hoa_round.specs.Trees.{infs_of, needing_of, rabin_of, std_of}
use Rattle.hoa_round.specs.Back.{comes_back, needs_for}

-- so many marks
infs_count_lem : (k n : ℕ) → infs_count (infs_of k) n ≡ n + suc k
unfolding infs_count
infs_count_lem zero n = omega arith
infs_count_lem (suc k) n = infs_count_lem k (suc n) ∙ omega arith

-- the need of a pair
pair_need_lem : (k : ℕ) → pair_need (needing_of k) ≡ k
unfolding pair_need
pair_need_lem zero = refl
pair_need_lem (suc k) = infs_count_lem k 0 ∙ omega arith

-- k needs from need i on
segment : List ℕ → ℕ → ℕ → List ℕ
segment needs i zero = []
segment needs i (suc k) = need needs i ∷ segment needs (suc i) k

-- the needs of the pairs, the last pair's first
needs_are : (needs : List ℕ) (k i : ℕ) (ns : List ℕ) → reverse (rabin_needs (rabin_of needs i k) ns) ≡ reverse ns ++ segment needs i (suc k)
unfolding rabin_needs segment pair_need
needs_are needs zero i ns = rw (pair_need_lem (need needs i)) (reverse-cons (need needs i) ns)
needs_are needs (suc k) i ns =
    rw (pair_need_lem (need needs i))
    (needs_are needs k (suc i) (need needs i ∷ ns) ∙ rw (reverse-cons (need needs i) ns) (append_assoc (reverse ns) (need needs i ∷ []) (segment needs (suc i) (suc k))))

-- one for each pair
needs_count : (needs : List ℕ) (k i : ℕ) (ns : List ℕ) → length (rabin_needs (rabin_of needs i k) ns) ≡ suc k + length ns
unfolding rabin_needs
needs_count needs zero i ns = omega arith
needs_count needs (suc k) i ns = needs_count needs k (suc i) _ ∙ omega arith

-- a segment of a longer list
segment_behind : (n : ℕ) (ns : List ℕ) (i k : ℕ) → segment (n ∷ ns) (suc i) k ≡ segment ns i k
unfolding segment
segment_behind n ns i zero = refl
segment_behind n ns i (suc k) = ap (λ (xs : List ℕ). need ns i ∷ xs) (segment_behind n ns (suc i) k)

-- no need that is not 0
all_zero : (ns : List ℕ) → some_need ns ≡ false → replicate (length ns) 0 ≡ ns
all_zero [] e = refl
all_zero (n ∷ ns) e =
    let both = either_false (ltb 0 n) (some_need ns) e in
    let z : 0 ≡ n = omega (arith, ltb-false 0 n both.0) in
    ap (λ (x : ℕ). x ∷ replicate (length ns) 0) z ∙ ap (λ (xs : List ℕ). n ∷ xs) (all_zero ns both.1)

-- the needs up to p and zeros are the needs
needs_whole : (needs : List ℕ) (k : ℕ) → k ≤ length needs → some_need (drop k needs) ≡ false → segment needs 0 k ++ replicate (length needs - k) 0 ≡ needs
unfolding segment
needs_whole needs zero l e = let none : length needs - 0 ≡ length needs = omega arith in rw none (all_zero needs e)
needs_whole [] (suc k) l e = absurd (omega arith)
needs_whole (n ∷ ns) (suc k) l e =
    let less : suc (length ns) - suc k ≡ length ns - k = omega arith in
    rw (segment_behind n ns 0 k, less) (ap (λ (xs : List ℕ). n ∷ xs) (needs_whole ns k (omega arith) e))

-- "the condition of the formula, with its eight needs": of a condition that row 4 lets pass
pub tree_means : (c : Acceptance) (needs : List ℕ) → length needs ≡ 8 → wrong_condition c needs ≡ false
    → std_meaning (used c needs) (std_of c needs) ≡ standard (comes_back c) (needs_for c needs)
unfolding std_meaning truth_meaning eight_needs
tree_means (acceptance.Buchi zero) needs l h = refl
tree_means (acceptance.Buchi (suc k)) needs l h = refl
tree_means (acceptance.Streett zero) needs l h = refl
tree_means (acceptance.Streett (suc p)) needs l h =
    let half : 2 * suc p / 2 ≡ suc p = omega arith in
    rw half
tree_means (acceptance.Rabin zero) needs l h =
    ap (standard (acceptance.Rabin 0)) (ap (λ (n : ℕ). replicate n 0) (sym l) ∙ all_zero needs (either_false (some_need (drop 0 needs)) _ (either_false (ltb 8 0) _ h).1).0)
tree_means (acceptance.Rabin (suc p)) needs l h =
    let few : suc p ≤ 8 = rabin_few (suc p) needs h in
    let none = (either_false (some_need (drop (suc p) needs)) _ (either_false (ltb 8 (suc p)) _ h).1).0 in
    let count : length (rabin_needs (rabin_of needs 0 p) []) ≡ suc p = needs_count needs p 0 [] ∙ add-zero (suc p) in
    let whole : segment needs 0 (suc p) ++ replicate (8 - suc p) 0 ≡ needs = rw l at (needs_whole needs (suc p) (omega arith) none) in
    rw (count, needs_are needs p 0 []) (ap (standard (acceptance.Rabin (suc p))) whole)
