-- What the program lends the judge is enough for every table within a job's limits: rows 8 and 9 never come out. Assumes nothing.
use Rattle.table.specs.declared.Refusal.{Refusal}
use Rattle.std.specs.Prelude.{Result, Ok, Err}
use mathlib.Core.Path.{◌≡◌, refl, subst}
use mathlib.Core.Bool.{false, cond}
use mathlib.Core.List.{List}
use Prim.Native.Nat.{ℕ, ◌+◌, ◌≤◌}
use native.Mathlib.Nat.{mul-le-mul}
use native.Mathlib.Omega.{arith}
use lib.Dec.{ltb}
use lib.ListN.{length, replicate}
use borrow.Author.Tests.{le-ltb}
use Rattle.marks.specs.Mark.{width}
use Rattle.table.specs.declared.Acceptance.{Acceptance}
use Rattle.table.specs.declared.Verdict.{Verdict}
use Rattle.table.specs.declared.Answer.{Answer}
use Rattle.table.specs.Table.{Table, lent}
use Rattle.table.specs.Refusal.{wrong_condition, refusal, refused}
use Rattle.table.proofs.Sound.{sound_fit}
use Rattle.job_text.specs.Job.{most_job_states, most_job_edges, Job}
use Rattle.hunting.specs.Rank.{rank}
use Rattle.judging.specs.Answer.{room_needed, scratch_needed, further, judge_refusal, ByCause, Answers}
use Rattle.judging.proofs.Ranks.{rank_few}
use Rattle.job_text.specs.Asked.{job_table}
use Rattle.judge_text.specs.Replied.{lent_room, lent_scratch}

-- ---- what a table within a job's limits needs

module _ (n start : ℕ) (from to marks : List ℕ) (c : Acceptance) (needs : List ℕ) where
  -- the table
  abbrev t : Table
  t = lent n start from to marks

  -- a table that rows 1 to 7 let pass has a permitted condition
  pub permitted : refusal t c needs ≡ Ok tt → wrong_condition c needs ≡ false
  permitted e = (sound_fit n start from to marks c needs e).condition

  module _ (states_few : n ≤ most_job_states) (edges_few : length from ≤ most_job_edges) where
    scratch_enough : scratch_needed t ≤ lent_scratch
    scratch_enough = omega (arith, states_few, edges_few)

    room_enough : rank c needs ≤ width → room_needed t c needs ≤ lent_room
    room_enough r =
        let few : rank c needs + 2 ≤ 34 = omega arith in
        omega (arith, mul-le-mul few states_few)

    -- rows 8 and 9 add nothing
    passed : (f : Result Unit Refusal) → (f ≡ Ok tt → room_needed t c needs ≤ lent_room)
        → further f
        (cond (ltb lent_room (room_needed t c needs)) (refused 8 0)
        (cond (ltb lent_scratch (scratch_needed t)) (refused 9 0)
        (Ok tt)))
        ≡ f
    passed (Ok done) r = rw (le-ltb lent_room (room_needed t c needs) (r refl), le-ltb lent_scratch (scratch_needed t) scratch_enough)
    passed (Err cause) r = refl

    -- the first cause is one of rows 1 to 7
    pub enough : judge_refusal t c needs lent_room lent_scratch ≡ refusal t c needs
    enough = passed (refusal t c needs) (λ e. room_enough (rank_few c needs (permitted e)))

-- what the judge's contract says of a job by a first cause
abbrev pub By : Job → List ℕ → List ℕ → Verdict → Result Unit Refusal → Type 0
By j room scratch v f = ByCause f (job_table j) j.condition j.needs (replicate lent_room 0) room (replicate lent_scratch 0) scratch v

-- .. and so by rows 1 to 7
pub by_rows : (j : Job) (room scratch : List ℕ) (a : Answer) → Answers (job_table j) j.condition j.needs (replicate lent_room 0) room (replicate lent_scratch 0) scratch a
    → judge_refusal (job_table j) j.condition j.needs lent_room lent_scratch ≡ refusal (job_table j) j.condition j.needs
    → By j room scratch a.verdict (refusal (job_table j) j.condition j.needs)
by_rows j room scratch a A e = subst (By j room scratch a.verdict) e A.says
