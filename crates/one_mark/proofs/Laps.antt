-- Climbs along a walk: how often the top is passed, and which marks the walk then bears. Assumes nothing.
use mathlib.Core.Path.{◌≡◌, refl, sym, ◌∙◌, subst}
use mathlib.Core.Logic.{inl, inr, ⊎_elim}
use mathlib.Core.List.{List, [], ◌∷◌}
use Prim.Native.Nat.{ℕ, ◌+◌, ◌≤◌, ◌<◌}
use native.Mathlib.Omega.{arith}
use lib.ListN.{length}
use Rattle.marks.specs.Mark.{Has}
use Rattle.marks.proofs.Cases.{same, below}
use Rattle.marks.proofs.Laws.{Has-none, Has-union}
use Rattle.table.specs.Table.{Table, Walk, borne, marks_of}
use Rattle.climbing.specs.Climb.{levels, landing, bearing}
use Rattle.climbing.specs.Translated.{lifted}
use Rattle.climbing.proofs.Climbs.{lands, landing_below, reached_low, reached_passed, reached_moves}
use Rattle.one_mark.proofs.Correspond.{over_edge, level_after, over, Liftable, bears_over}

-- how often the edges es, from level j, pass the top
abbrev pub tops : Table → ℕ → ℕ → List ℕ → ℕ
tops t k j [] = 0
tops t k j (e ∷ es) = bearing k (borne t e) j + tops t k (landing k (borne t e) j) es

module _ (t : Table) (k : ℕ) where
  -- the marks of the first edge, and those of the others
  first_bears : (i e : ℕ) (es : List ℕ) → Has i (borne t e) → Has i (marks_of t (e ∷ es))
  first_bears i e es h = (Has-union i (borne t e) (marks_of t es)).1 (inl h)

  others_bear : (i e : ℕ) (es : List ℕ) → Has i (marks_of t es) → Has i (marks_of t (e ∷ es))
  others_bear i e es h = (Has-union i (borne t e) (marks_of t es)).1 (inr h)

  -- ---- a walk that never passes the top climbs, and bears every mark that it passed

  pub record Climbed (j : ℕ) (es : List ℕ) : Type 0 where
    pub low : j ≤ level_after t k j es
    pub passed : (i : ℕ) → j ≤ i → i < level_after t k j es → Has i (marks_of t es)

  climbed : (j : ℕ) (es : List ℕ) → tops t k j es ≡ 0 → Climbed j es
  climbed j [] none = record { low = omega arith; passed = λ i l h. absurd (omega arith) }
  climbed j (e ∷ es) none =
      lands k (borne t e) j
      (λ l lands-at b.
      let rest = climbed (landing k (borne t e) j) es (omega arith) in
      record {
        low = omega (arith, reached_low k (borne t e) j, rest.low);
        passed = λ i h m.
            below i (landing k (borne t e) j)
            (λ n. first_bears i e es (reached_passed k (borne t e) j i h (omega arith)))
            (λ n. others_bear i e es (rest.passed i n m));
      })
      (λ l lands-at b. absurd (omega arith))

  -- and one that bears its level's mark gets higher
  moves : (j : ℕ) (es : List ℕ) → tops t k j es ≡ 0 → j < k → Has j (marks_of t es) → j < level_after t k j es
  moves j [] none l h = absurd (Has-none j h)
  moves j (e ∷ es) none l h =
      lands k (borne t e) j
      (λ m lands-at b.
      let j' = landing k (borne t e) j in
      let rest = climbed j' es (omega arith) in
      ⊎_elim (λ n. omega (arith, reached_moves k (borne t e) j l n, rest.low))
      (λ (n : Has j (marks_of t es)).
      below j j' (λ up. omega (arith, rest.low))
      (λ stay.
      let same-level : j ≡ j' = omega (arith, reached_low k (borne t e) j) in
      omega (arith, moves j' es (omega arith) (omega arith) (subst (λ (i : ℕ). Has i (marks_of t es)) same-level n))))
      ((Has-union j (borne t e) (marks_of t es)).0 h))
      (λ m lands-at b. absurd (omega arith))

  -- ---- a walk that passes the top bears every mark from its first level up, and every mark below its last

  pub record Topped (j : ℕ) (es : List ℕ) : Type 0 where
    pub high : (i : ℕ) → j ≤ i → i < k → Has i (marks_of t es)
    pub low : (i : ℕ) → i < level_after t k j es → Has i (marks_of t es)

  pub topped : (j : ℕ) (es : List ℕ) → 0 < tops t k j es → Topped j es
  topped j [] some = absurd (omega arith)
  topped j (e ∷ es) some =
      lands k (borne t e) j
      (λ l lands-at b.
      let rest = topped (landing k (borne t e) j) es (omega arith) in
      record {
        high = λ i h m.
            below i (landing k (borne t e) j)
            (λ n. first_bears i e es (reached_passed k (borne t e) j i h (omega arith)))
            (λ n. others_bear i e es (rest.high i n m));
        low = λ i h. others_bear i e es (rest.low i h);
      })
      (λ l lands-at b.
      record {
        high = λ i h m. first_bears i e es (reached_passed k (borne t e) j i h (omega arith));
        low = λ i h.
            others_bear i e es
            (same (tops t k (landing k (borne t e) j) es) 0
            (λ none. (climbed (landing k (borne t e) j) es none).passed i (omega arith) h)
            (λ more. (topped (landing k (borne t e) j) es (omega arith)).low i h));
      })

  -- ---- a turn that bears every mark and comes back to its level has passed the top

  pub turn_tops : (j : ℕ) (es : List ℕ) → j < levels k → 0 < length es → ((i : ℕ) → i < k → Has i (marks_of t es)) → level_after t k j es ≡ j → 0 < tops t k j es
  turn_tops j [] l long all back = absurd (omega arith)
  turn_tops j (e ∷ es) l long all back =
      same (tops t k j (e ∷ es)) 0
      (λ none.
      lands k (borne t e) j
      (λ m lands-at b. absurd (omega (arith, moves j (e ∷ es) none (omega arith) (all j (omega arith)))))
      (λ m lands-at b. absurd (omega arith)))
      (λ some. omega arith)

-- ---- the marks of the lifted walk tell whether it passes the top

one_has : Has 0 1
unfolding Has
one_has = refl

module _ (t : Table) (k : ℕ) (lift : Liftable t k) where
  pub marked_tops : (s j : ℕ) (es : List ℕ) (z : ℕ) → j < levels k → Walk t s es z → Has 0 (marks_of (lifted t k) (over t k j es)) → 0 < tops t k j es
  marked_tops s j [] z l w h = absurd (Has-none 0 h)
  marked_tops s j (e ∷ es) z l w h =
      let j' = landing k (borne t e) j in
      ⊎_elim
      (λ (b : Has 0 (borne (lifted t k) (over_edge t k j e))).
      lands k (borne t e) j
      (λ m lands-at none. absurd (Has-none 0 (subst (Has 0) (bears_over t k lift e s w.0 j l w.1.0 ∙ none) b)))
      (λ m lands-at one. omega arith))
      (λ (r : Has 0 (marks_of (lifted t k) (over t k j' es))). omega (arith, marked_tops w.0 j' es z (landing_below k (borne t e) j) w.1.1 r))
      ((Has-union 0 (borne (lifted t k) (over_edge t k j e)) (marks_of (lifted t k) (over t k j' es))).0 h)

  pub tops_marked : (s j : ℕ) (es : List ℕ) (z : ℕ) → j < levels k → Walk t s es z → 0 < tops t k j es → Has 0 (marks_of (lifted t k) (over t k j es))
  tops_marked s j [] z l w some = absurd (omega arith)
  tops_marked s j (e ∷ es) z l w some =
      let j' = landing k (borne t e) j in
      (Has-union 0 (borne (lifted t k) (over_edge t k j e)) (marks_of (lifted t k) (over t k j' es))).1
      (lands k (borne t e) j
      (λ m lands-at none. inr (tops_marked w.0 j' es z (landing_below k (borne t e) j) w.1.1 (omega arith)))
      (λ m lands-at one. inl (subst (Has 0) (sym (bears_over t k lift e s w.0 j l w.1.0 ∙ one)) one_has)))
