-- The INTs of States: and Start:, and that no `&` stands behind the latter. Assumes nothing.
use mathlib.Core.Path.{◌≡◌, refl, ◌∙◌}
use mathlib.Core.Bool.{Bool, true, false, cond, ◌||◌}
use mathlib.Core.List.{List}
use Prim.Native.Nat.{ℕ, ◌≤◌}
use native.Mathlib.Omega.{arith}
use lib.Dec.{eqb, ltb, leb}
use lib.ListN.{length}
use Rattle.std.specs.Prelude.{Option, Some, None, Ok, Err}
use Rattle.hoa_tokens.specs.declared.BadToken.{BadToken}
use Rattle.hoa_tokens.specs.Token.{int}
use Rattle.hoa_tokens.specs.Stream.{tokens_at}
use Rattle.hoa_step.specs.Given.{not_below, not_above}
use Rattle.hoa_step.specs.Machine.{go, wrong, run, wants_int}
use Rattle.hoa_step.specs.declared.IntAt.{IntAt}
use Rattle.hoa_step.specs.Wanted.{Next, Faulty, int_fault}
use Rattle.hoa_step.proofs.Runs.{first_goes, first_wrong, first_same, int_wrong, faulty_within}
use Rattle.job_text.specs.Job.{most_job_states}
use Rattle.hoa_value.specs.declared.Head.{Head}
use Rattle.hoa_value.specs.declared.token.Spot.{Spot}
use Rattle.hoa_value.specs.Head.{with_states, with_start}
use Rattle.hoa_value.specs.Heading.{HeadState, HeadStep, items, states_int, start_int, start_more, head_step, on_states, on_start}
use Rattle.hoa_value.specs.inner.Pieces.{Spotted, is_join}
use Rattle.hoa_value.specs.inner.Values.{states_fault, start_fault, StatesRead, StartRead, Passes}
use Rattle.hoa_value.proofs.Pieces.{join_is, join_not}

-- ---- a value by its fault

-- the step that a fault makes
abbrev pub step_by : Option ℕ → HeadState → HeadStep
step_by None s = go s
step_by (Some n) s = wrong n

by_fault : (b c : Bool) (s : HeadState) → cond b (wrong 41) (cond c (wrong 42) (go s)) ≡ step_by (cond b (Some 41) (cond c (Some 42) None)) s
by_fault true c s = refl
by_fault false true s = refl
by_fault false false s = refl

pub on_states_lem : (h : Head) (n : ℕ) → on_states h n ≡ step_by (states_fault n h.start) (items (with_states n h))
on_states_lem h n = by_fault (eqb n 0 || not_above n h.start) (ltb most_job_states n) (items (with_states n h))

pub on_start_lem : (h : Head) (s : ℕ) → on_start h s ≡ step_by (start_fault s h.states) (start_more (with_start s h))
on_start_lem h s = by_fault (not_below s h.states) (leb most_job_states s) (start_more (with_start s h))

-- ---- States:

pub states_stops : (text : List ℕ) (at : ℕ) (start : Option ℕ) (e : BadToken) → Faulty text at int_fault e.number e.place → at ≤ length text
    → StatesRead text at start (Err e)
unfolding head_step
states_stops text at start e f l =
    record {
      says = λ h g. int_wrong head_step text at (states_int h) (on_states h) f (λ t. refl);
      stays = faulty_within f l;
    }

module _ (text : List ℕ) (at : ℕ) (start : Option ℕ) (i : IntAt) (n : Next text at i.place i.next (int i.value)) where
  pub states_wrong : (k : ℕ) → states_fault i.value start ≡ Some k → StatesRead text at start (Err (record { number = k; place = i.place }))
  unfolding head_step wants_int
  states_wrong k e =
      record {
        says = λ h g. first_wrong head_step text at n.is k (on_states_lem h i.value ∙ rw (g, e));
        stays = omega (arith, n.takes, n.within);
      }

  pub states_goes : states_fault i.value start ≡ None → StatesRead text at start (Ok (record { value = i.value; next = i.next }))
  unfolding head_step wants_int
  states_goes e =
      record {
        says = λ h g. first_goes head_step text at n.is (items (with_states i.value h)) (on_states_lem h i.value ∙ rw (g, e));
        stays = (omega (arith, n.behind_at, n.takes), n.within);
      }

-- ---- Start:

pub joined : (text : List ℕ) (at : ℕ) (r : Spot) → Spotted text at r → is_join r.piece ≡ true → at ≤ length text
    → Passes text at start_more items (Err (record { number = 41; place = r.first }))
unfolding head_step
joined text at r s j l =
    record {
      says = λ h. first_wrong head_step text at s.is 41 (rw s.piece (join_is h r.piece j));
      stays = s.within l;
    }

pub not_joined : (text : List ℕ) (at : ℕ) (r : Spot) → Spotted text at r → is_join r.piece ≡ false → at ≤ length text
    → Passes text at start_more items (Ok at)
unfolding head_step
not_joined text at r s j l =
    record {
      says = λ h. first_same head_step text at s.is (rw s.piece (join_not h r.piece j));
      stays = (omega arith, l);
    }

pub start_stops : (text : List ℕ) (at : ℕ) (states : Option ℕ) (e : BadToken) → Faulty text at int_fault e.number e.place → at ≤ length text
    → StartRead text at states (Err e)
unfolding head_step
start_stops text at states e f l =
    record {
      says = λ h g. int_wrong head_step text at (start_int h) (on_start h) f (λ t. refl);
      stays = faulty_within f l;
    }

module _ (text : List ℕ) (at : ℕ) (states : Option ℕ) (i : IntAt) (n : Next text at i.place i.next (int i.value)) where
  pub start_wrong : (k : ℕ) → start_fault i.value states ≡ Some k → StartRead text at states (Err (record { number = k; place = i.place }))
  unfolding head_step wants_int
  start_wrong k e =
      record {
        says = λ h g. first_wrong head_step text at n.is k (on_start_lem h i.value ∙ rw (g, e));
        stays = omega (arith, n.takes, n.within);
      }

  module _ (e : start_fault i.value states ≡ None) where
    start_goes : (h : Head) → h.states ≡ states
        → run head_step (tokens_at text at) (start_int h) ≡ run head_step (tokens_at text i.next) (start_more (with_start i.value h))
    unfolding head_step wants_int
    start_goes h g = first_goes head_step text at n.is (start_more (with_start i.value h)) (on_start_lem h i.value ∙ rw (g, e))

    pub start_joined : (b : BadToken) → Passes text i.next start_more items (Err b) → StartRead text at states (Err b)
    start_joined b s = record { says = λ h g. start_goes h g ∙ s.says (with_start i.value h); stays = s.stays }

    pub start_over : (q : ℕ) → Passes text i.next start_more items (Ok q) → StartRead text at states (Ok (record { value = i.value; next = q }))
    start_over q s =
        record {
          says = λ h g. start_goes h g ∙ s.says (with_start i.value h);
          stays = (omega (arith, n.behind_at, n.takes, s.stays.0), s.stays.1);
        }
