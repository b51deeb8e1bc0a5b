-- The law: what is read is never refused by rows 1 to 7, and keeps a job's limits. What the header says (`head_fits`) and what the rows keep (`worth_of`)
-- is what the rows 1 to 7 ask. Assumes nothing.
use Rattle.std.specs.Prelude.{Option, Some, None, Ok}
use mathlib.Core.Path.{◌≡◌, refl, sym, ◌∙◌, subst}
use mathlib.Core.Bool.{true, false, false≢true}
use mathlib.Core.List.{List, map}
use Prim.Native.Nat.{ℕ, ◌^◌, ◌≤◌, ◌<◌}
use native.Mathlib.Omega.{arith}
use lib.ListN.{length, length-map}
use Rattle.table.specs.Table.{lent}
use Rattle.table.specs.Refusal.{refusal, used, wrong_condition}
use Rattle.table.proofs.Sound.{Fit, fit_sound}
use Rattle.job_text.specs.Value.{Edge}
use Rattle.job_text.specs.Job.{most_job_states, most_job_edges, Job, Outcome, job, fault}
use Rattle.hoa_tokens.specs.Stream.{Placed}
use Rattle.hoa_step.specs.Given.{is_given, given_or}
use Rattle.hoa_step.specs.Machine.{End, done_at, wrong_at, cut, run}
use Rattle.hoa_value.specs.declared.Head.{Head}
use Rattle.hoa_head.specs.Headed.{head_end}
use Rattle.hoa_entry.specs.Rows.{Kept, no_rows, entries, row_step}
use Rattle.hoa_kept.specs.Sorted.{sorted}
use Rattle.hoa_rows.specs.Worth.{Agrees, Worth}
use Rattle.hoa_rows.proofs.Worth.{worth_of}
use Rattle.hoa_rows.proofs.Handing.{sorted_all}
use Rattle.hoa_rows.proofs.Promises.{fit_sorted, ascends_sorted}
use Rattle.hoa.specs.Reading.{limits_of, job_of, rows_say, head_says, read_hoa}
use Rattle.hoa.proofs.Heads.{States, Below, Condition, HeadDone, head_fits}
use Rattle.hoa.proofs.Sorting.{fits_at, never_falls}

-- what a job that is read keeps to
pub record Lawful (j : Job) : Type 0 where
  pub states_few : j.states ≤ most_job_states
  pub edges_few : length j.edges ≤ most_job_edges
  pub sound : refusal (lent j.states j.start (map (λ e. e.from) j.edges) (map (λ e. e.to) j.edges) (map (λ e. e.marks) j.edges)) j.condition j.needs ≡ Ok tt

-- the start is a state, and so there is one
start_state : (states start : Option ℕ) (k : ℕ) → is_given start ≡ true → States states → Below states start → Agrees states (given_or 0 start) k → given_or 0 start < k
start_state states None k g s b a = absurd (false≢true g)
start_state None (Some s) k g u b a = a
start_state (Some n) (Some s) k g u b a = omega (arith, a, b)

module _ (h : Head) (k : Kept) (D : HeadDone h) (W : Worth (limits_of h) k) where
  -- the marks that edges bear are those that the condition uses
  marks_used : (g : Option ℕ) → h.marks ≡ g → Condition g h.condition h.needs → is_given g ≡ true → used h.condition h.needs ≡ given_or 0 g
  marks_used None e c g = absurd (false≢true g)
  marks_used (Some n) e c g = c.1.1

  permitted : (g : Option ℕ) → Condition g h.condition h.needs → is_given g ≡ true → wrong_condition h.condition h.needs ≡ false
  permitted None c g = absurd (false≢true g)
  permitted (Some n) c g = c.1.0

  fit : Fit (lent k.states (given_or 0 h.start) (map (λ (e : Edge). e.from) (sorted k.states k.edges)) (map (λ (e : Edge). e.to) (sorted k.states k.edges))
      (map (λ (e : Edge). e.marks) (sorted k.states k.edges))) h.condition h.needs
  fit =
      let es = sorted k.states k.edges in
      let c = given_or 0 h.marks in
      let all = fit_sorted k.states c k.states k.edges W.fitting in
      let froms = length-map es (λ (e : Edge). e.from) in
      let tos = length-map es (λ (e : Edge). e.to) in
      let sets = length-map es (λ (e : Edge). e.marks) in
      let start = start_state h.states h.start k.states D.start_given D.fits.states D.fits.below W.agrees in
      let uses : used h.condition h.needs ≡ c = marks_used h.marks refl D.fits.condition D.marks_given in
      record {
        proper = record {
          some = omega (arith, start);
          few = omega (arith, W.few);
          from_length = refl;
          to_length = tos ∙ sym froms;
          marks_length = sets ∙ sym froms;
          few_edges = omega (arith, froms, sorted_all k.states c k.edges W.fitting, W.room);
          start_below = start;
          from_below = λ e l. fits_at k.states c (λ x. x < k.states) (λ (e : Edge). e.from) (λ e f. f.leaves) es all e l;
          to_below = λ e l. fits_at k.states c (λ x. x < k.states) (λ (e : Edge). e.to) (λ e f. f.arrives) es all e (omega (arith, l, froms, tos));
          sorted = λ e l. never_falls 0 es (ascends_sorted k.states k.edges) e l;
        };
        condition = permitted h.marks D.fits.condition D.marks_given;
        marks_below = λ e l. rw uses (fits_at k.states c (λ x. x < 2 ^ c) (λ (e : Edge). e.marks) (λ e f. f.bears) es all e (omega (arith, l, froms, sets)));
      }

  job_lawful : Lawful (job_of h k)
  job_lawful =
      record {
        states_few = W.few;
        edges_few = omega (arith, sorted_all k.states (given_or 0 h.marks) k.edges W.fitting, W.room);
        sound = fit_sound k.states (given_or 0 h.start) _ _ _ h.condition h.needs fit;
      }

-- by how the rows and the header end
abbrev OutcomeLawful : Outcome → Type 0
OutcomeLawful (job j) = Lawful j
OutcomeLawful (fault number place) = Unit {0}

rows_lawful : (h : Head) → HeadDone h → (ps : List Placed) (e : End Kept) → run (row_step (limits_of h)) ps (entries (no_rows (limits_of h).start)) ≡ e → OutcomeLawful (rows_say h e)
rows_lawful h D ps (done_at k qs) e = job_lawful h k D (worth_of (limits_of h) ps k qs e)
rows_lawful h D ps (wrong_at number place) e = tt
rows_lawful h D ps cut e = tt

head_lawful : (text : List ℕ) (e : End Head) → head_end text ≡ e → OutcomeLawful (head_says e)
head_lawful text (done_at h ps) e = rows_lawful h (head_fits text h ps e) ps _ refl
head_lawful text (wrong_at number place) e = tt
head_lawful text cut e = tt

outcome_lawful : (text : List ℕ) → OutcomeLawful (read_hoa text)
unfolding read_hoa
outcome_lawful text = head_lawful text (head_end text) refl

-- "what is read is never refused by rows 1 to 7"
pub lawful : (text : List ℕ) (j : Job) → read_hoa text ≡ job j → Lawful j
lawful text j e = subst OutcomeLawful e (outcome_lawful text)
