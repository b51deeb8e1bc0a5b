-- The texts of formulas, from their first mark or pair on. Assumes nothing.
use mathlib.Core.Path.{◌≡◌, refl, ap}
use mathlib.Core.List.{List, ◌++◌}
use Prim.Native.Nat.{ℕ, zero, suc, ◌+◌, ◌-◌, ◌*◌, ◌≤◌}
use native.Mathlib.Nat.{le_refl}
use native.Mathlib.Numerals.{add-one}
use native.Mathlib.Omega.{arith}
use Rattle.marks.proofs.Cases.{same}
use Rattle.table.specs.Condition.{need, dealt}
use Rattle.hoa_tokens.specs.Bytes.{bytes}
use Rattle.puts.specs.Put.{held, PutFew}
use Rattle.hoa_written.specs.Written.{close, further_infs, buchi_text, streett_pair, further_streett, streett_text, rabin_pair, further_rabin, rabin_text}
use Rattle.puts.proofs.Few.{joined_more}

-- one less
less_one : (k : ℕ) → suc k - 1 ≡ k
less_one k = omega arith

-- ---- none, or the first and the others

-- no mark
pub buchi_none : (k : ℕ) → k ≡ 0 → buchi_text k ≡ bytes "t"
unfolding buchi_text
buchi_none zero e = refl
buchi_none (suc k) e = absurd (omega arith)

-- the first mark and the others
pub buchi_some : (k : ℕ) → (k ≡ 0 → ⊥) → buchi_text k ≡ held (bytes "Inf(") 0 close ++ further_infs 1 (k - 1)
unfolding buchi_text
buchi_some zero h = absurd (h refl)
buchi_some (suc k) h = rw (less_one k)

-- no Streett pair
pub streett_none : (p : ℕ) → p ≡ 0 → streett_text p ≡ bytes "t"
unfolding streett_text
streett_none zero e = refl
streett_none (suc p) e = absurd (omega arith)

-- the first Streett pair and the others
pub streett_some : (p : ℕ) → (p ≡ 0 → ⊥) → streett_text p ≡ streett_pair (bytes "(Fin(") 0 ++ further_streett (p - 1)
unfolding streett_text
streett_some zero h = absurd (h refl)
streett_some (suc p) h = rw (less_one p)

-- one pair more
pub streett_more : {out mid out' : List ℕ} {at m r : ℕ} (i : ℕ) → PutFew out mid at (further_streett i) m (34 * i) → PutFew mid out' m (streett_pair (bytes "&(Fin(") (i + 1)) r 34
    → PutFew out out' at (further_streett (i + 1)) r (34 * (i + 1))
streett_more i p q = joined_more (λ j. streett_pair (bytes "&(Fin(") (suc j)) _ p (rw (add-one i) at q) (omega arith)

module _ (needs : List ℕ) where
  -- no Rabin pair
  pub rabin_none : (p : ℕ) → p ≡ 0 → rabin_text needs p ≡ bytes "f"
  unfolding rabin_text
  rabin_none zero e = refl
  rabin_none (suc p) e = absurd (omega arith)

  -- the first Rabin pair and the others
  pub rabin_some : (p : ℕ) → (p ≡ 0 → ⊥) → rabin_text needs p ≡ rabin_pair (bytes "(Fin(") 0 (need needs 0) ++ further_rabin needs (p - 1)
  unfolding rabin_text
  rabin_some zero h = absurd (h refl)
  rabin_some (suc p) h = rw (less_one p)

  -- ---- the marks that the pairs deal out

  -- what pair 0 takes
  pub dealt_one : dealt needs (0 + 1) ≡ 1 + need needs 0
  dealt_one = omega arith

  -- what the next pair takes
  pub dealt_next : (i : ℕ) → dealt needs (i + 1 + 1) ≡ dealt needs (i + 1) + (1 + need needs (i + 1))
  dealt_next i = ap (dealt needs) (add-one (i + 1))

  -- more pairs take no fewer marks
  pub dealt_up : (i j : ℕ) → i ≤ j → dealt needs i ≤ dealt needs j
  dealt_up i zero l = let e : i ≡ 0 = omega arith in rw e (le_refl 0)
  dealt_up i (suc j) l =
      same i (suc j) (λ (e : i ≡ suc j). rw e (le_refl (dealt needs (suc j)))) (λ (h : i ≡ suc j → ⊥). omega (arith, dealt_up i j (omega arith)))

  -- a pair that is dealt out has its marks among those of all
  pub dealt_within : (i d p most : ℕ) → d ≡ dealt needs (i + 1) → i + 2 ≤ p → dealt needs p ≤ most → d + (1 + need needs (i + 1)) ≤ most
  dealt_within i d p most e l h = omega (arith, dealt_next i, dealt_up (i + 1 + 1) p (omega arith))

  -- one pair more, in at most 18 bytes for each of its marks
  pub rabin_more : {out mid out' : List ℕ} {at m r : ℕ} (i d : ℕ) → d ≡ dealt needs (i + 1) → PutFew out mid at (further_rabin needs i) m (18 * d)
      → PutFew mid out' m (rabin_pair (bytes "|(Fin(") d (need needs (i + 1))) r (18 * (1 + need needs (i + 1)))
      → PutFew out out' at (further_rabin needs (i + 1)) r (18 * (d + (1 + need needs (i + 1))))
  rabin_more i d e p q =
      joined_more (λ j. rabin_pair (bytes "|(Fin(") (dealt needs (suc j)) (need needs (suc j))) _ p (rw (e, add-one i) at q)
      (omega (arith, ap (λ (j : ℕ). need needs j) (add-one i)))
