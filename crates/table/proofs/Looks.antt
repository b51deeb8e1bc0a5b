-- A look over the edges, one edge after the other, and what it shows of all: where nothing falls, the last from state is the highest, and
-- rows 5 to 7 find no fault. Assumes nothing.
use Rattle.std.specs.Prelude.{Ok}
use mathlib.Core.Path.{◌≡◌, refl, sym, ap, subst}
use mathlib.Core.Logic.{inl, inr}
use mathlib.Core.List.{List}
use Prim.Native.Nat.{ℕ, zero, suc, ◌+◌, ◌≤◌, ◌<◌}
use native.Mathlib.Omega.{arith}
use lib.ListN.{length, get_or}
use borrow.Author.Tests.{le-ltb}
use Rattle.marks.specs.Mark.{Covers, union, first_marks, width}
use Rattle.marks.proofs.Cases.{same, below}
use Rattle.marks.proofs.Laws.{Has-union}
use Rattle.table.specs.Table.{lent}
use Rattle.table.specs.Refusal.{edge_refusal}
use Rattle.table.specs.inner.Looks.{before, Above, Shows}
use Rattle.table.proofs.Faults.{order_test, covered_small}
use Rattle.table.proofs.Sound.{EdgeFit, fit_edges}

-- ---- covering

covers_more : (a b x : ℕ) → Covers a x → Covers (union a b) x
unfolding Covers
covers_more a b x c i h = (Has-union i a b).1 (inl (c i h))

covers_joined : (a b : ℕ) → Covers (union a b) b
unfolding Covers
covers_joined a b i h = (Has-union i a b).1 (inr h)

covers_through : (a b c : ℕ) → Covers a b → Covers b c → Covers a c
unfolding Covers
covers_through a b c p q i h = p i (q i h)

-- ---- the look

-- what is not counted as above is not above
not_above_lem : {a b r : ℕ} → Above a b r → r ≡ 0 → a ≤ b
not_above_lem {a} {b} A z = below b a (λ l. absurd (omega (arith, A.over l))) (λ l. l)

module _ (top : ℕ) (from to marks : List ℕ) where
  pub shows_none : Shows top from to marks 0 0 0 0 0
  shows_none =
      record { arrives = λ z d l. absurd (omega arith); leaves = refl; bears = λ d l. absurd (omega arith); rises = λ z d l. absurd (omega arith) }

  -- one edge more
  pub shows_more : (e h l u f k g : ℕ) → Shows top from to marks e h l u f → Above (get_or to e 0) top k → Above l (get_or from e 0) g
      → Shows top from to marks (suc e) (h + k) (get_or from e 0) (union u (get_or marks e 0)) (f + g)
  shows_more e h l u f k g s past fell =
      record {
        arrives = λ z d b. same d e
            (λ q. subst (λ (x : ℕ). get_or to x 0 ≤ top) (sym q) (not_above_lem past (omega arith)))
            (λ q. s.arrives (omega arith) d (omega arith));
        leaves = refl;
        bears = λ d b. same d e
            (λ q. subst (λ (x : ℕ). Covers (union u (get_or marks e 0)) (get_or marks x 0)) (sym q) (covers_joined u (get_or marks e 0)))
            (λ q. covers_more u (get_or marks e 0) (get_or marks d 0) (s.bears d (omega arith)));
        rises = λ z d b. same d e
            (λ q. subst (λ (x : ℕ). before from x ≤ get_or from x 0) (sym q) (omega (arith, s.leaves, not_above_lem fell (omega arith))))
            (λ q. s.rises (omega arith) d (omega arith));
      }

-- ---- what it shows

-- where from states never fall, the last is the highest
last_highest : (from : List ℕ) (e : ℕ) → ((d : ℕ) → d < e → before from d ≤ get_or from d 0) → (d : ℕ) → d < e → get_or from d 0 ≤ before from e
last_highest from zero up d l = absurd (omega arith)
last_highest from (suc e) up d l =
    same d e (λ q. omega (arith, ap (λ (x : ℕ). get_or from x 0) q))
    (λ q. omega (arith, last_highest from e (λ x b. up x (omega arith)) d (omega arith), up e (omega arith)))

-- a look that shows no fault shows a sound table
pub shown_sound : (n top : ℕ) (from to marks : List ℕ) (used h l u f : ℕ) → Shows top from to marks (length from) h l u f
    → f ≡ 0 → h ≡ 0 → top < n → l < n → Covers (first_marks width used) u → edge_refusal (lent n 0 from to marks) used 0 (length from) ≡ Ok tt
shown_sound n top from to marks used h l u f s none not-astray low last few = fit_edges (lent n 0 from to marks) used 0 (length from) (λ d b₀ b. fit d (omega arith))
  where
    fit : (d : ℕ) → d < length from → EdgeFit (lent n 0 from to marks) used d
    fit d b =
        record {
          leaves = omega (arith, s.leaves, last_highest from (length from) (s.rises none) d b);
          arrives = omega (arith, s.arrives not-astray d b);
          order = rw order_test (le-ltb (get_or from d 0) (before from d) (s.rises none d b));
          marks = covered_small used (get_or marks d 0) (covers_through (first_marks width used) u (get_or marks d 0) few (s.bears d b));
        }
