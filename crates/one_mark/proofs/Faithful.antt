-- The theorems on the translation, for every input that is not refused; and two results allowed for one input are equal. Assumes nothing.
use Rattle.std.specs.Prelude.{Result, Ok, Err}
use Rattle.table.specs.declared.Refusal.{Refusal}
use mathlib.Core.Path.{◌≡◌, refl, sym, ap, ◌∙◌}
use mathlib.Core.List.{List, ◌++◌}
use Prim.Native.Nat.{ℕ, ◌-◌, ◌*◌, ◌≤◌, ◌<◌}
use native.Mathlib.Omega.{arith}
use lib.ListN.{length, take, replicate}
use lib.Seq.{take_at}
use Rattle.table.specs.Table.{Table, lent}
use Rattle.table.specs.Refusal.{most_edges, Proper}
use Rattle.one_mark.specs.declared.Translation.{Translation}
use Rattle.climbing.specs.Climb.{levels}
use Rattle.climbing.specs.Source.{source}
use Rattle.climbing.specs.Translated.{translated, lifted_from, lifted_to, lifted_marks}
use Rattle.one_mark.specs.Outcome.{Outcome, answer, number_of, place_of, states_of, edges_of, start_of}
use Rattle.one_mark.specs.Faithful.{Lifts, Positions, Stops, Faithful}
use Rattle.one_mark.proofs.Accepted.{lent_again, lifted_sound}
use Rattle.one_mark.proofs.Answers.{fit, granted, RefusedRow, refused_at}
use Rattle.one_mark.proofs.Lassos.{one_over, one_under, lasso_down, lasso_up}
use Rattle.climbing.proofs.Order.{whole_length}
use Rattle.one_mark.proofs.Position.{stands, cell_at, place_most, level_place, edge_place}
use Rattle.one_mark.proofs.Sources.{liftable, under_kept, under_stop, under_other, under_waiting, copies, stop_some}
use Rattle.climbing.proofs.StopStates.{stop_empty}

-- ---- two results that the contract allows for one input are equal

pub record Same (r r' : Result Translation Refusal) (l a b l' a' b' : List ℕ) : Type 0 where
  pub answers : r ≡ r'
  pub from_lists : l ≡ l'
  pub to_lists : a ≡ a'
  pub marks_lists : b ≡ b'

pub one_result : (t : Table) (k : ℕ) (l a b : List ℕ) (r r' : Result Translation Refusal) (l' a' b' l'' a'' b'' : List ℕ)
    → Outcome t k l a b r l' a' b' → Outcome t k l a b r' l'' a'' b'' → Same r r' l' a' b' l'' a'' b''
one_result t k l a b r r' l' a' b' l'' a'' b'' p q =
    let e : r ≡ r' = p.answered ∙ sym q.answered in
    record {
      answers = e;
      from_lists = p.from_held ∙ rw e (sym q.from_held);
      to_lists = p.to_held ∙ rw e (sym q.to_held);
      marks_lists = p.marks_held ∙ rw e (sym q.marks_held);
    }

-- ---- the position rule

lifts : (t : Table) → Proper t → (k : ℕ) → Lifts t k
lifts t proper k =
    record {
      edge = λ q l. (stands t proper k q l).edge;
      level = λ q l. (stands t proper k q l).level;
      from = λ q l. cell_at t proper k (lifted_from t k) q l;
      to = λ q l. cell_at t proper k (lifted_to t k) q l;
      marks = λ q l. cell_at t proper k (lifted_marks t k) q l;
      place_most = λ e j l h. place_most t proper k e j l h;
      edge_place = λ e j l h. edge_place t proper k e j l h;
      level_place = λ e j l h. level_place t proper k e j l h;
      place_edge = λ q l. (stands t proper k q l).here;
    }

pub positions : (t : Table) → Proper t → (k : ℕ) → (source t k).edges * levels k ≤ most_edges → Positions t k
positions t proper k few =
    record {
      lifts = lifts (source t k) (liftable t proper k few).proper k;
      under_edge_lem = λ q some l. under_kept t proper k few q some l;
      under_stop = λ g s none l e p. under_stop t proper k few g s none l e p;
      under_other = λ g s none l e p. under_other t proper k few g s none l e p;
      under_waiting = under_waiting t proper k;
    }

-- ---- the stop states

stop_states : (t : Table) → Proper t → (k : ℕ) → (source t k).edges * levels k ≤ most_edges → Stops t k
stop_states t proper k few =
    record {
      empty = stop_empty t proper;
      copies = λ s j some l. copies t proper k few s j some l;
      none = λ y none p. omega (arith, stop_some t proper k few y p);
    }

-- ---- a table that was made

pub faithful : (n start : ℕ) (from to marks : List ℕ) (k a b c : ℕ) → number_of (answer (lent n start from to marks) k a b c) ≡ 0
    → Faithful (lent n start from to marks) k
faithful n start from to marks k a b c none =
    let t = lent n start from to marks in
    let g = granted t k a b c (answer t k a b c) refl none in
    let proper = (fit n start k from to marks g.sound).proper in
    record {
      table = lifted_sound (source t k) (liftable t proper k g.few_edges).proper k g.few g.few_edges;
      positions = positions t proper k g.few_edges;
      stop_states = stop_states t proper k g.few_edges;
      one_over = one_over t proper k g.few_edges;
      one_under = one_under t proper k g.few_edges;
      lasso_down = lasso_down t proper k g.few_edges;
      lasso_up = lasso_up t proper k g.few_edges;
    }

-- ---- what the outputs hold

-- the front of an output
front : (made old l' : List ℕ) (edges : ℕ) → l' ≡ made ++ replicate (length old - length made) 0 → length made ≡ edges → take edges l' ≡ made
front made old l' edges e long = ap (take edges) e ∙ take_at made (replicate (length old - length made) 0) edges long

-- with the number 0, what they hold in front, lent again with the answered counts and start, is the translated table
pub outputs_hold : (n start : ℕ) (from to marks : List ℕ) (k : ℕ) (l a b : List ℕ) (r : Result Translation Refusal) (l' a' b' : List ℕ)
    → Outcome (lent n start from to marks) k l a b r l' a' b' → number_of r ≡ 0
    → lent (states_of r) (start_of r) (take (edges_of r) l') (take (edges_of r) a') (take (edges_of r) b') ≡ translated (lent n start from to marks) k
outputs_hold n start from to marks k l a b r l' a' b' o none =
    let t = lent n start from to marks in
    let g = granted t k (length l) (length a) (length b) r o.answered none in
    let proper = (fit n start k from to marks g.sound).proper in
    let u = source t k in
    let fits = (liftable t proper k g.few_edges).proper in
    let m = (translated t k).edges in
    rw (
      g.made,
      front (translated t k).from l l' m (o.from_held ∙ rw g.made) (whole_length u fits k (lifted_from u k)),
      front (translated t k).to a a' m (o.to_held ∙ rw g.made) (whole_length u fits k (lifted_to u k)),
      front (translated t k).marks b b' m (o.marks_held ∙ rw g.made) (whole_length u fits k (lifted_marks u k)),
    ) (lent_again u fits k)

-- with another number nothing was changed
pub refused_untouched : (t : Table) (k : ℕ) (l a b : List ℕ) (r : Result Translation Refusal) (l' a' b' : List ℕ)
    → Outcome t k l a b r l' a' b' → 0 < number_of r → (l' ≡ l) × ((a' ≡ a) × (b' ≡ b))
refused_untouched t k l a b (Ok counts) l' a' b' o some = absurd (omega arith)
refused_untouched t k l a b (Err cause) l' a' b' o some = (o.from_held, (o.to_held, o.marks_held))

-- .. and the number and place are those of a row
pub refused_told : (t : Table) (k : ℕ) (l a b : List ℕ) (r : Result Translation Refusal) (l' a' b' : List ℕ)
    → Outcome t k l a b r l' a' b' → 0 < number_of r → RefusedRow t (number_of r) (place_of r)
refused_told t k l a b r l' a' b' o some = refused_at t k (length l) (length a) (length b) r o.answered some
