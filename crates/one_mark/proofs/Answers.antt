-- What each answer of the translation follows from, and what follows from it. Assumes nothing.
use Rattle.table.specs.declared.Refusal.{Refusal}
use Rattle.std.specs.Prelude.{Result, Ok, Err}
use mathlib.Core.Path.{◌≡◌, refl, sym, ap, ◌∙◌, subst}
use mathlib.Core.Bool.{Bool, true, false}
use mathlib.Core.List.{List, []}
use Prim.Native.Nat.{ℕ, ◌+◌, ◌*◌, ◌≤◌, ◌<◌}
use native.Mathlib.Nat.{mul-le-mul}
use native.Mathlib.Omega.{arith}
use lib.Dec.{ltb}
use borrow.Author.Tests.{ltb-false}
use Rattle.marks.proofs.Cases.{either_false}
use Rattle.marks.specs.Mark.{width}
use Rattle.table.specs.declared.Acceptance.TheVariants.{Buchi}
use Rattle.table.specs.Table.{Table, lent}
use Rattle.table.specs.Refusal.{refusal, most_states, most_edges, refused}
use Rattle.table.proofs.Door.{CauseAt, refused_row}
use Rattle.table.proofs.Sound.{Fit, sound_fit, used_few}
use Rattle.one_mark.specs.declared.Translation.{Translation}
use Rattle.climbing.specs.Climb.{levels, number}
use Rattle.climbing.specs.Source.{source}
use Rattle.climbing.specs.Translated.{translated}
use Rattle.one_mark.specs.Outcome.{large, short, answer, number_of, place_of, made_of}
use Rattle.climbing.specs.inner.{Ladder, Rising}
use Rattle.climbing.proofs.Looped.{source_states, source_start, source_edges, source_most}

pub not_large : (states edges : ℕ) → large states edges ≡ false → states ≤ most_states
not_large states edges e = ltb-false most_states states (either_false (ltb most_states states) (ltb most_edges edges) e).0

-- ---- the counts of the translated table, from K and the number of edges of the table that is lifted

pub record Counts (n start k K m : ℕ) (from to marks : List ℕ) : Type 0 where
  pub states : (translated (lent n start from to marks) k).states ≡ n * K
  pub edges : (translated (lent n start from to marks) k).edges ≡ m * K
  pub first : (translated (lent n start from to marks) k).start ≡ number k start 0

pub counts : (n start k K m : ℕ) (from to marks : List ℕ) → K ≡ levels k → m ≡ (source (lent n 0 from [] []) k).edges → Counts n start k K m from to marks
counts n start k K m from to marks all e =
    let t = lent n start from to marks in
    record {
      states = rw (source_states t k, all);
      edges = rw (e, all, source_edges n start 0 from to marks [] [] k);
      first = rw (source_start t k);
    }

-- ---- the counts of a sound table

module _ (n start k : ℕ) (from to marks : List ℕ) (sound : refusal (lent n start from to marks) (Buchi k) [] ≡ Ok tt) where
  pub fit : Fit (lent n start from to marks) (Buchi k) []
  fit = sound_fit n start from to marks (Buchi k) [] sound

  few_marks : k ≤ width
  few_marks = used_few (Buchi k) [] fit.condition

  -- the products fit a word before row 10 is read
  pub counts_fit : (K : ℕ) → K ≡ levels k → (n * K ≤ most_states * width) × ((source (lent n start from to marks) k).edges * K ≤ (most_edges + most_states) * width)
  counts_fit K e =
      let few : K ≤ width = omega (arith, few_marks) in
      (mul-le-mul fit.proper.few few, mul-le-mul (source_most (lent n start from to marks) fit.proper k) few)

  pub ladder : (K : ℕ) → K ≡ levels k → n * levels k ≤ most_states → Ladder n k K
  ladder K e small = record { few = few_marks; all = e; small = rw e small }

  pub start_below : start < n
  start_below = fit.proper.start_below

  pub rising : Rising from
  rising = fit.proper.sorted

-- ---- each answer, from the tests that lead to it

module _ (t : Table) (k a b c : ℕ) where
  pub answer_faulty : (number place : ℕ) → refusal t (Buchi k) [] ≡ refused number place → refused number place ≡ answer t k a b c
  answer_faulty number place e = rw e

  module _ (sound : refusal t (Buchi k) [] ≡ Ok tt) where
    pub answer_large : large (translated t k).states (translated t k).edges ≡ true → refused 10 0 ≡ answer t k a b c
    answer_large e = rw (sound, e)

    module _ (fits : large (translated t k).states (translated t k).edges ≡ false) where
      pub answer_short : short (translated t k).edges a b c ≡ true → refused 11 0 ≡ answer t k a b c
      answer_short e = rw (sound, fits, e)

      pub answer_made : short (translated t k).edges a b c ≡ false
          → made_of (translated t k).states (translated t k).edges (translated t k).start ≡ answer t k a b c
      answer_made e = rw (sound, fits, e)

  -- one of the four tests decides
  by_test : {C : Type 0} → ((number place : ℕ) → refusal t (Buchi k) [] ≡ refused number place → C)
      → (refusal t (Buchi k) [] ≡ Ok tt → large (translated t k).states (translated t k).edges ≡ true → C)
      → (refusal t (Buchi k) [] ≡ Ok tt → large (translated t k).states (translated t k).edges ≡ false → short (translated t k).edges a b c ≡ true → C)
      → (refusal t (Buchi k) [] ≡ Ok tt → large (translated t k).states (translated t k).edges ≡ false → short (translated t k).edges a b c ≡ false → C)
      → C
  by_test {C} faulty over few made = by_finding (refusal t (Buchi k) []) refl
    where
      by_room : refusal t (Buchi k) [] ≡ Ok tt → large (translated t k).states (translated t k).edges ≡ false
          → (s : Bool) → short (translated t k).edges a b c ≡ s → C
      by_room q e true s = few q e s
      by_room q e false s = made q e s

      by_size : refusal t (Buchi k) [] ≡ Ok tt → (l : Bool) → large (translated t k).states (translated t k).edges ≡ l → C
      by_size q true e = over q e
      by_size q false e = by_room q e (short (translated t k).edges a b c) refl

      by_finding : (f : Result Unit Refusal) → refusal t (Buchi k) [] ≡ f → C
      by_finding (Err cause) q = faulty cause.number cause.place q
      by_finding (Ok done) q = by_size q (large (translated t k).states (translated t k).edges) refl

-- ---- what the number 0 says of the input and of the answer

pub record Granted (t : Table) (k a b c : ℕ) (r : Result Translation Refusal) : Type 0 where
  pub sound : refusal t (Buchi k) [] ≡ Ok tt
  pub few : (translated t k).states ≤ most_states
  pub few_edges : (translated t k).edges ≤ most_edges
  pub first_room : (translated t k).edges ≤ a
  pub second_room : (translated t k).edges ≤ b
  pub third_room : (translated t k).edges ≤ c
  pub made : r ≡ made_of (translated t k).states (translated t k).edges (translated t k).start

module _ (t : Table) (k a b c : ℕ) (r : Result Translation Refusal) (answered : r ≡ answer t k a b c) (none : number_of r ≡ 0) where
  -- an answer with another number is none of these
  other : {C : Type 0} (q : Result Translation Refusal) → q ≡ answer t k a b c → 0 < number_of q → C
  other q e l = absurd (omega (arith, ap number_of (answered ∙ sym e)))

  all_granted : refusal t (Buchi k) [] ≡ Ok tt → large (translated t k).states (translated t k).edges ≡ false
      → short (translated t k).edges a b c ≡ false → Granted t k a b c r
  all_granted q e s =
      let counts = either_false (ltb most_states (translated t k).states) _ e in
      let one = either_false (ltb a (translated t k).edges) _ s in
      let two = either_false (ltb b (translated t k).edges) _ one.1 in
      record {
        sound = q;
        few = ltb-false most_states (translated t k).states counts.0;
        few_edges = ltb-false most_edges (translated t k).edges counts.1;
        first_room = ltb-false a (translated t k).edges one.0;
        second_room = ltb-false b (translated t k).edges two.0;
        third_room = ltb-false c (translated t k).edges two.1;
        made = answered ∙ sym (answer_made t k a b c q e s);
      }

  pub granted : Granted t k a b c r
  granted =
      by_test t k a b c
      (λ number place q. other (refused number place) (answer_faulty t k a b c number place q) (refused_row t (Buchi k) [] number place q).some)
      (λ q e. other (refused 10 0) (answer_large t k a b c q e) (omega arith))
      (λ q e s. other (refused 11 0) (answer_short t k a b c q e s) (omega arith))
      all_granted

-- ---- what another number says: rows 1 to 7 "in the same way", with the check's place; then 10 and 11, with place 0

pub record RefusedRow (t : Table) (number place : ℕ) : Type 0 where
  pub early : number ≤ 7 → CauseAt t.edges number place
  pub late : 7 < number → (10 ≤ number) × ((number ≤ 11) × (place ≡ 0))

module _ (t : Table) (k a b c : ℕ) (r : Result Translation Refusal) (answered : r ≡ answer t k a b c) (some : 0 < number_of r) where
  early_row : (number place : ℕ) → refusal t (Buchi k) [] ≡ refused number place → RefusedRow t number place
  early_row number place q =
      let row = refused_row t (Buchi k) [] number place q in
      record { early = λ l. row; late = λ l. absurd (omega (arith, row.most)) }

  late_row : (number : ℕ) → 10 ≤ number → number ≤ 11 → RefusedRow t number 0
  late_row number l m = record { early = λ n. absurd (omega arith); late = λ n. (l, (m, refl)) }

  as_answered : (q : Result Translation Refusal) → q ≡ answer t k a b c → RefusedRow t (number_of q) (place_of q) → RefusedRow t (number_of r) (place_of r)
  as_answered q e = subst (λ (x : Result Translation Refusal). RefusedRow t (number_of x) (place_of x)) (e ∙ sym answered)

  pub refused_at : RefusedRow t (number_of r) (place_of r)
  refused_at =
      by_test t k a b c
      (λ number place q. as_answered (refused number place) (answer_faulty t k a b c number place q) (early_row number place q))
      (λ q e. as_answered (refused 10 0) (answer_large t k a b c q e) (late_row 10 (omega arith) (omega arith)))
      (λ q e s. as_answered (refused 11 0) (answer_short t k a b c q e s) (late_row 11 (omega arith) (omega arith)))
      (λ q e s. absurd (omega (arith, some, ap number_of (answered ∙ sym (answer_made t k a b c q e s)))))
