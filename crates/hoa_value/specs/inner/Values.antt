-- Where reading goes on behind a value, or the refusal: what the machine says from there on. Assumes nothing.
use Rattle.std.specs.Prelude.{◌≡◌, Bool, cond, ◌||◌, Option, Some, None, Result, Ok, Err, List, ℕ, ◌≤◌, eqb, ltb, leb, length}
use Rattle.hoa_tokens.specs.Stream.{tokens_at}
use Rattle.hoa_tokens.specs.declared.BadToken.{BadToken}
use Rattle.hoa_step.specs.Given.{not_below, not_above}
use Rattle.hoa_step.specs.Machine.{End, wrong_at, run}
use Rattle.job_text.specs.Job.{most_job_states}
use Rattle.hoa_value.specs.declared.Head.{Head}
use Rattle.hoa_value.specs.declared.value.Counted.{Counted}
use Rattle.hoa_value.specs.declared.formed.Formed.{Formed}
use Rattle.hoa_value.specs.Head.{with_states, with_start, with_props, with_marks}
use Rattle.hoa_value.specs.Heading.{HeadState, items, states_int, start_int, props_int, marks_int, hints, head_step}

-- ---- behind an INT

-- the value and the byte behind it, or the refusal
abbrev pub counted_end : List ℕ → (ℕ → HeadState) → Result Counted BadToken → End Head
counted_end text s (Ok c) = run head_step (tokens_at text c.next) (s c.value)
counted_end text s (Err bad) = wrong_at bad.number bad.place

-- all of it in the text, from here on
abbrev pub CountedIn : List ℕ → ℕ → Result Counted BadToken → Type 0
CountedIn text low (Ok c) = (low ≤ c.next) × (c.next ≤ length text)
CountedIn text low (Err bad) = bad.place ≤ length text

-- 41 and 42 of the INT of States:, where `Start:` gave this
abbrev pub states_fault : ℕ → Option ℕ → Option ℕ
states_fault n start = cond (eqb n 0 || not_above n start) (Some 41) (cond (ltb most_job_states n) (Some 42) None)

-- and of the INT of Start:, where `States:` gave this
abbrev pub start_fault : ℕ → Option ℕ → Option ℕ
start_fault s states = cond (not_below s states) (Some 41) (cond (leb most_job_states s) (Some 42) None)

-- the INT of States:
pub record StatesRead (text : List ℕ) (at : ℕ) (start : Option ℕ) (r : Result Counted BadToken) : Type 0 where
  pub says : (h : Head) → h.start ≡ start → run head_step (tokens_at text at) (states_int h) ≡ counted_end text (λ v. items (with_states v h)) r
  pub stays : CountedIn text at r

-- the INT of Start:, and no `&` behind it
pub record StartRead (text : List ℕ) (at : ℕ) (states : Option ℕ) (r : Result Counted BadToken) : Type 0 where
  pub says : (h : Head) → h.states ≡ states → run head_step (tokens_at text at) (start_int h) ≡ counted_end text (λ v. items (with_start v h)) r
  pub stays : CountedIn text at r

-- the INT of AP: and its names
pub record PropsRead (text : List ℕ) (at : ℕ) (r : Result Counted BadToken) : Type 0 where
  pub says : (h : Head) → run head_step (tokens_at text at) (props_int h) ≡ counted_end text (λ v. items (with_props v h)) r
  pub stays : CountedIn text at r

-- ---- behind a part without a value

-- the byte behind it, or the refusal
abbrev pub passed_end : List ℕ → HeadState → Result ℕ BadToken → End Head
passed_end text s (Ok next) = run head_step (tokens_at text next) s
passed_end text s (Err bad) = wrong_at bad.number bad.place

-- all of it in the text, from here on
abbrev pub PassedIn : List ℕ → ℕ → Result ℕ BadToken → Type 0
PassedIn text low (Ok next) = (low ≤ next) × (next ≤ length text)
PassedIn text low (Err bad) = bad.place ≤ length text

-- from one place of the header to another, whatever else the header says
pub record Passes (text : List ℕ) (at : ℕ) (from to : Head → HeadState) (r : Result ℕ BadToken) : Type 0 where
  pub says : (h : Head) → run head_step (tokens_at text at) (from h) ≡ passed_end text (to h) r
  pub stays : PassedIn text at r

-- the words that are passed over are never refused
pub record HintsPassed (text : List ℕ) (at : ℕ) (ints texts : Bool) (r : ℕ) : Type 0 where
  pub says : (h : Head) → run head_step (tokens_at text at) (hints ints texts h) ≡ run head_step (tokens_at text r) (items h)
  pub behind_at : at ≤ r
  pub within : r ≤ length text

-- ---- behind a formula

-- the condition and the byte behind the formula, or the refusal
abbrev pub formed_end : List ℕ → Head → Result Formed BadToken → End Head
formed_end text h (Ok f) = run head_step (tokens_at text f.next) (items (with_marks f.marks f.condition f.needs h))
formed_end text h (Err bad) = wrong_at bad.number bad.place

-- all of it in the text, from here on
abbrev pub FormedIn : List ℕ → ℕ → Result Formed BadToken → Type 0
FormedIn text low (Ok f) = (low ≤ f.next) × (f.next ≤ length text)
FormedIn text low (Err bad) = bad.place ≤ length text

-- the INT of Acceptance: and its formula
pub record MarksRead (text : List ℕ) (at : ℕ) (r : Result Formed BadToken) : Type 0 where
  pub says : (h : Head) → run head_step (tokens_at text at) (marks_int h) ≡ formed_end text h r
  pub stays : FormedIn text at r
