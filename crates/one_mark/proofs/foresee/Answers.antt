-- `foresee` meets its contract: its tests are those of `answer` in their order, and each answer follows from the tests that lead to it
-- (proofs/Answers.antt). Assumes nothing.
use Rattle.std.specs.Prelude.{Ok}
use mathlib.Core.Path.{◌≡◌, sym, ◌∙◌}
use mathlib.Core.Bool.{Bool}
use mathlib.Core.List.{List, []}
use Prim.Native.Nat.{ℕ, ◌+◌, ◌*◌, ◌≤◌}
use native.Mathlib.Omega.{arith}
use Rattle.table.specs.declared.Acceptance.TheVariants.{Buchi}
use Rattle.table.specs.Table.{lent}
use Rattle.table.specs.Refusal.{refusal, most_states, most_edges}
use Rattle.marks.specs.Mark.{width}
use Rattle.climbing.specs.Climb.{levels}
use Rattle.climbing.specs.Source.{source}
use Rattle.climbing.specs.Translated.{translated}
use Rattle.one_mark.proofs.Answers.{Counts, counts, answer_faulty, answer_large, answer_short, answer_made, not_large, ladder, counts_fit, start_below, rising}
use Rattle.one_mark.specs.Outcome.{large, short}
use Rattle.std.proofs.lemmas.Result.{err_from_is_err_and}
use Rattle.one_mark.proofs.foresee.Goals as goal

-- what is known once the table that is lent was found sound
module _ (n start k : ℕ) (from to marks : List ℕ) (K m : ℕ) (all : K ≡ levels k) (many : m ≡ (source (lent n 0 from [] []) k).edges) where
  -- the counts were made
  made : Counts n start k K m from to marks
  made = counts n start k K m from to marks all many

  -- they fit a word
  edges_fit : refusal (lent n start from to marks) (Buchi k) [] ≡ Ok tt → m * K ≤ (most_edges + most_states) * width
  edges_fit sound = rw (← made.edges) (rw (← all) (counts_fit n start k from to marks sound K all).1)

  -- row 10 was tested
  large-told : {r : Bool} → r ≡ large (n * K) (m * K) → r ≡ large (translated (lent n start from to marks) k).states (translated (lent n start from to marks) k).edges
  large-told e = rw (made.states, made.edges) e

  -- row 11 was tested
  short-told : {r : Bool} (a b c : ℕ) → r ≡ short (m * K) a b c → r ≡ short (translated (lent n start from to marks) k).edges a b c
  short-told a b c e = rw made.edges e

pub returns-in_err-check : goal.returns-in_err-check
returns-in_err-check c =
    let a = c.args in
    let out = a.lengths in
    let p = err_from_is_err_and c.from_residual.result c.from_residual.ensures.1 in
    rw (p.1, p.2) (answer_faulty (lent a.n a.start a.from.now a.to.now a.marks.now) a.k out.leaves out.arrives out.bears _ _ (sym c.check.ensures ∙ c.in_err-check.was))

pub overflow_mul-states : goal.overflow_mul-states
overflow_mul-states c =
    let a = c.args in
    omega (arith, (counts_fit a.n a.start a.k a.from.now a.to.now a.marks.now (sym c.check.ensures ∙ c.in_ok-check.was) _ c.level_count-levels.ensures).0)

pub source_count-requires : goal.source_count-requires
source_count-requires c =
    let a = c.args in
    rising a.n a.start a.k a.from.now a.to.now a.marks.now (sym c.check.ensures ∙ c.in_ok-check.was)

pub overflow_mul-edges : goal.overflow_mul-edges
overflow_mul-edges c =
    let a = c.args in
    omega (arith, edges_fit a.n a.start a.k a.from.now a.to.now a.marks.now _ _ c.level_count-levels.ensures c.source_count.ensures (sym c.check.ensures ∙ c.in_ok-check.was))

pub returns-then-too_large : goal.returns-then-too_large
returns-then-too_large c =
    let a = c.args in
    let out = a.lengths in
    c.refused.ensures
    ∙ answer_large (lent a.n a.start a.from.now a.to.now a.marks.now) a.k out.leaves out.arrives out.bears (sym c.check.ensures ∙ c.in_ok-check.was)
    (sym (large-told a.n a.start a.k a.from.now a.to.now a.marks.now _ _ c.level_count-levels.ensures c.source_count.ensures c.too_large.ensures) ∙ c.if-too_large.true)

pub returns-then-too_short : goal.returns-then-too_short
returns-then-too_short c =
    let a = c.args in
    let out = a.lengths in
    c.refused-then-too_short.ensures
    ∙ answer_short (lent a.n a.start a.from.now a.to.now a.marks.now) a.k out.leaves out.arrives out.bears (sym c.check.ensures ∙ c.in_ok-check.was)
    (sym (large-told a.n a.start a.k a.from.now a.to.now a.marks.now _ _ c.level_count-levels.ensures c.source_count.ensures c.too_large.ensures) ∙ c.if-too_large.false)
    (sym (short-told a.n a.start a.k a.from.now a.to.now a.marks.now _ _ c.level_count-levels.ensures c.source_count.ensures _ _ _ c.too_short.ensures) ∙ c.if-too_short.true)

pub number_of-first-requires : goal.number_of-first-requires
number_of-first-requires c =
    let a = c.args in
    let s = sym c.check.ensures ∙ c.in_ok-check.was in
    let told = c.level_count-levels in
    let few = not_large (translated (lent a.n a.start a.from.now a.to.now a.marks.now) a.k).states (translated (lent a.n a.start a.from.now a.to.now a.marks.now) a.k).edges (sym (large-told a.n a.start a.k a.from.now a.to.now a.marks.now _ _ c.level_count-levels.ensures c.source_count.ensures c.too_large.ensures) ∙ c.if-too_large.false) in
    record {
      ladder = ladder a.n a.start a.k a.from.now a.to.now a.marks.now s told.result told.ensures (rw (← told.ensures, ← (made a.n a.start a.k a.from.now a.to.now a.marks.now _ _ c.level_count-levels.ensures c.source_count.ensures).states) few);
      state_lt_states = (start_below a.n a.start a.k a.from.now a.to.now a.marks.now s, omega arith);
    }

pub overflow_cast-count : goal.overflow_cast-count
overflow_cast-count c =
    let a = c.args in
    omega (arith, edges_fit a.n a.start a.k a.from.now a.to.now a.marks.now _ _ c.level_count-levels.ensures c.source_count.ensures (sym c.check.ensures ∙ c.in_ok-check.was))

pub returns : goal.returns
returns c =
    let a = c.args in
    let out = a.lengths in
    let m = made a.n a.start a.k a.from.now a.to.now a.marks.now _ _ c.level_count-levels.ensures c.source_count.ensures in
    let answered = answer_made (lent a.n a.start a.from.now a.to.now a.marks.now) a.k out.leaves out.arrives out.bears (sym c.check.ensures ∙ c.in_ok-check.was)
    (sym (large-told a.n a.start a.k a.from.now a.to.now a.marks.now _ _ c.level_count-levels.ensures c.source_count.ensures c.too_large.ensures) ∙ c.if-too_large.false)
    (sym (short-told a.n a.start a.k a.from.now a.to.now a.marks.now _ _ c.level_count-levels.ensures c.source_count.ensures _ _ _ c.too_short.ensures) ∙ c.if-too_short.false) in
    rw (c.number_of-first.ensures, ← m.states, ← m.edges, ← m.first) answered
