-- What is left in the outputs, and how the writing of a table follows from its answer. Assumes nothing.
use Rattle.std.specs.Prelude.{Result}
use Rattle.table.specs.declared.Refusal.{Refusal}
use mathlib.Core.Path.{◌≡◌, refl, sym, ap, ◌∙◌}
use mathlib.Core.List.{List, ◌++◌}
use Prim.Native.Nat.{ℕ, zero, suc, ◌+◌, ◌-◌, ◌*◌, ◌≤◌}
use native.Mathlib.Nat.{mul-le-mul_left}
use native.Mathlib.Omega.{arith}
use lib.ListN.{length, take, drop, replicate}
use lib.Seq.{sets, sets-eq, length-sets, take-append_seam}
use Rattle.table.specs.Table.{Table, lent}
use Rattle.table.specs.Refusal.{most_states, most_edges, Proper, refused}
use Rattle.one_mark.specs.declared.Translation.{Translation}
use Rattle.climbing.specs.Climb.{levels}
use Rattle.climbing.specs.Source.{source}
use Rattle.climbing.specs.Translated.{lifted, translated, lifted_from, lifted_to, lifted_marks}
use Rattle.one_mark.specs.Outcome.{Outcome, answer, edges_of, made_of}
use Rattle.one_mark.specs.inner.{Ready, Filled}
use Rattle.lifting.specs.inner.{Room, StatesWritten}
use Rattle.one_mark.proofs.Answers.{granted, fit, ladder}
use Rattle.climbing.proofs.Looped.{source_states, source_edges}
use Rattle.climbing.proofs.Order.{whole_length}

-- ---- the lists, then zeros

-- a list that is written from the front and cleared behind that
cleared : (l l' l'' made : List ℕ) (edges : ℕ) → l' ≡ sets l 0 made → length made ≡ edges → edges ≤ length l
    → l'' ≡ take edges l' ++ replicate (length l' - edges) 0 → l'' ≡ made ++ replicate (length l - length made) 0
cleared l l' l'' made edges p e room q =
    let long : length l' ≡ length l = ap length p ∙ length-sets l 0 made in
    let kept : l' ≡ made ++ drop (0 + length made) l = p ∙ sets-eq made l 0 (omega arith) in
    q ∙ rw (long, kept, ← e, take-append_seam)

module _ (t : Table) (proper : Proper t) (k : ℕ) where
  pub filled : {l a b l' a' b' l'' a'' b'' : List ℕ} (edges : ℕ) → edges ≡ t.edges * levels k → Room 0 edges l a b
      → StatesWritten t k t.states l a b l' a' b'
      → l'' ≡ take edges l' ++ replicate (length l' - edges) 0 → a'' ≡ take edges a' ++ replicate (length a' - edges) 0
      → b'' ≡ take edges b' ++ replicate (length b' - edges) 0 → Filled (lifted t k) l a b l'' a'' b''
  filled {l} {a} {b} {l'} {a'} {b'} {l''} {a''} {b''} edges e room written p q r =
      record {
        from_filled = cleared l l' l'' (lifted t k).from edges written.from_cells (whole_length t proper k (lifted_from t k) ∙ sym e) (omega (arith, room.for_from)) p;
        to_filled = cleared a a' a'' (lifted t k).to edges written.to_cells (whole_length t proper k (lifted_to t k) ∙ sym e) (omega (arith, room.for_to)) q;
        marks_filled = cleared b b' b'' (lifted t k).marks edges written.marks_cells (whole_length t proper k (lifted_marks t k) ∙ sym e) (omega (arith, room.for_marks)) r;
      }

-- there are no more edges than lifted ones
pub fewer : (k m : ℕ) {edges : ℕ} → edges ≡ m * levels k → edges ≤ most_edges → m ≤ most_edges
fewer k m e few = let more : m * 1 ≤ m * levels k = mul-le-mul_left m (omega arith) in omega arith

-- the lent table's n rows are those of the table that is lifted
pub all_states : {l a b l' a' b' : List ℕ} (t : Table) (k : ℕ) → StatesWritten (source t k) k t.states l a b l' a' b'
    → StatesWritten (source t k) k (source t k).states l a b l' a' b'
all_states t zero written = written
all_states t (suc k) written = written

-- ---- the outcomes

pub outcome_refused : (t : Table) (k : ℕ) (l a b : List ℕ) (r : Result Translation Refusal) (number place : ℕ)
    → r ≡ answer t k (length l) (length a) (length b) → r ≡ refused number place → Outcome t k l a b r l a b
outcome_refused t k l a b r number place e q = record { answered = e; from_held = rw q; to_held = rw q; marks_held = rw q }

-- the start plays no part in the lists
pub outcome_made : (n start k : ℕ) (from to marks : List ℕ) {l a b l' a' b' : List ℕ} (states edges first : ℕ)
    → made_of states edges first ≡ answer (lent n start from to marks) k (length l) (length a) (length b)
    → Filled (translated (lent n 0 from to marks) k) l a b l' a' b' → Outcome (lent n start from to marks) k l a b (made_of states edges first) l' a' b'
outcome_made n start zero from to marks states edges first e f =
    record { answered = e; from_held = f.from_filled; to_held = f.to_filled; marks_held = f.marks_filled }
outcome_made n start (suc k) from to marks states edges first e f =
    record { answered = e; from_held = f.from_filled; to_held = f.to_filled; marks_held = f.marks_filled }

-- a table that is to be made is ready to be written
pub ready : (n start k K : ℕ) (from to marks l a b : List ℕ) (states edges first : ℕ)
    → made_of states edges first ≡ answer (lent n start from to marks) k (length l) (length a) (length b) → K ≡ levels k
    → Ready n k K edges from to marks l a b
ready n start k K from to marks l a b states edges first made all =
    let t = lent n start from to marks in
    let g = granted t k (length l) (length a) (length b) (made_of states edges first) made refl in
    let counted : edges ≡ (translated t k).edges = ap edges_of g.made in
    let same : (source t k).edges ≡ (source (lent n 0 from to marks) k).edges = source_edges n start 0 from to marks to marks k in
    let small : n * levels k ≤ most_states = rw (source_states t k) at g.few in
    let p = (fit n start k from to marks g.sound).proper in
    record {
      ladder = ladder n start k from to marks g.sound K all small;
      proper = record {
        some = p.some;
        few = p.few;
        from_length = refl;
        to_length = p.to_length;
        marks_length = p.marks_length;
        few_edges = p.few_edges;
        start_below = p.some;
        from_below = p.from_below;
        to_below = p.to_below;
        sorted = p.sorted;
      };
      count = counted ∙ rw (same, all);
      few_edges = omega (arith, g.few_edges);
      room = record { for_from = omega (arith, g.first_room); for_to = omega (arith, g.second_room); for_marks = omega (arith, g.third_room) };
    }
