-- What the checker says of our own answers: a run is accepted, empty is no run, a refusal is told again. Assumes nothing.
use Rattle.table.specs.Refusal.{refused}
use Rattle.table.specs.declared.Refusal.{Refusal}
use Rattle.std.specs.Prelude.{Result, Ok}
use mathlib.Core.Path.{◌≡◌, refl, sym, ap, ◌∙◌, subst}
use mathlib.Core.Logic.{◌↔◌, ◌⊎◌, inl, inr}
use mathlib.Core.List.{List, ◌++◌}
use Prim.Native.Nat.{ℕ, ◌-◌, ◌≤◌}
use native.Mathlib.Omega.{arith}
use lib.ListN.{get_or, take, replicate}
use lib.Seq.{take-append_seam, get_or-take}
use Rattle.table.specs.declared.Acceptance.{Acceptance}
use Rattle.table.specs.declared.Verdict.{Verdict}
use Rattle.table.specs.declared.Verdict.TheVariants as verdict
use Rattle.table.proofs.Door.{same_told}
use Rattle.table.proofs.Sound.{Fit, sound_fit}
use Rattle.job_text.specs.Value.{most_number}
use Rattle.job_text.specs.Job.{Job, Outcome, job, fault, read_job, Column}
use Rattle.job_text.specs.Asked.{job_table, edge_cells, first_cause}
use Rattle.job_text.proofs.Promises.{one_column}
use Rattle.answer_text.specs.Printed.{top_text, answer_text, refused_text, most_printed}
use Rattle.erasing.specs.Depth.{Deep}
use Rattle.judging.specs.Answer.{Decided, RunSays}
use Rattle.judge_text.specs.Replied.{Holds, Replied}
use Rattle.judge_text.specs.Reply.{RefusedFor, Answered}
use Rattle.judge_text.proofs.Replies.{job_column, answered_or_refused}
use Rattle.answer_check.specs.declared.Checked.{Checked}
use Rattle.answer_check.specs.declared.Checked.TheVariants as checked
use Rattle.answer_form.specs.Form.{run, empty, Says, NoRun}
use Rattle.answer_check.specs.Checking.{Told, no_run, ByCause, ByJob, Checks, NamesAccepted}
use Rattle.answer_check.proofs.Unique.{checks_once, accepted_exactly}
use Rattle.own_answers.specs.Own.{Begins, OwnSaid, OwnAnswers}
use Rattle.own_answers.specs.Own as own
use Rattle.own_answers.proofs.Runs.{depth_within, named_met, run_says}

-- ---- the first line

run_begins : (p q pair depth : ℕ) (c : Acceptance) (room : List ℕ) → Begins (verdict.Run 0 0 0) (answer_text (verdict.Run p q pair) 0 depth c room)
unfolding answer_text top_text
run_begins p q pair depth c room = refl

empty_begins : (depth : ℕ) (c : Acceptance) (room : List ℕ) → Begins verdict.Empty (answer_text verdict.Empty 0 depth c room)
unfolding answer_text top_text
empty_begins depth c room = refl

-- the tenth byte tells `run` from `empty` ..
empty_not_run : (text : List ℕ) → Begins verdict.Empty text → Begins (verdict.Run 0 0 0) text → ⊥
empty_not_run text e r =
    let m : get_or text 9 0 ≡ 109 = sym (get_or-take 14 text 9 0 (omega arith)) ∙ ap (λ (bs : List ℕ). get_or bs 9 0) e in
    let u : get_or text 9 0 ≡ 117 = sym (get_or-take 12 text 9 0 (omega arith)) ∙ ap (λ (bs : List ℕ). get_or bs 9 0) r in
    omega (arith, m, u)

-- .. and from `refused`
refused_not_run : (number place column : ℕ) → Begins (verdict.Run 0 0 0) (refused_text number place column) → ⊥
unfolding answer_text top_text
refused_not_run number place column r = let z : ◌≡◌ {A = ℕ} 101 117 = ap (λ (bs : List ℕ). get_or bs 9 0) r in absurd (omega arith)

-- ---- a refused job

told_again : (text : List ℕ) (o : Outcome) → read_job text ≡ o → (answer : List ℕ) (number place column : ℕ) (r : Checked) → first_cause o ≡ refused number place → Column text column
    → ByJob text o answer r → r ≡ checked.Refused number place column
told_again text (fault x y) q answer number place column r e k T =
    let same = same_told e in
    let d : T.column ≡ column = one_column text T.column column T.first k in
    T.told ∙ rw (same.0, same.1, d)
told_again text (job j) q answer number place column r e k T =
    let told : r ≡ checked.Refused number place 0 = subst (λ (f : Result Unit Refusal). ByCause f (job_table j) j.condition j.needs answer r) e T in
    told ∙ ap (checked.Refused number place) (one_column text 0 column (job_column text j q) k)

-- ---- an answered job

module _ (text printed : List ℕ) (j : Job) (read : read_job text ≡ job j) (sound : first_cause (job j) ≡ Ok tt) where
  -- no table is so long that its edges could not be printed, and the condition is a permitted one
  fit : Fit (job_table j) j.condition j.needs
  fit = sound_fit j.states j.start (edge_cells (λ e. e.from) j) (edge_cells (λ e. e.to) j) (edge_cells (λ e. e.marks) j) j.condition j.needs sound

  -- a run names an accepted lasso
  run_named : (p q pair : ℕ) (room : List ℕ) (R : RunSays (job_table j) j.condition j.needs p q pair room)
      → printed ≡ answer_text (verdict.Run p q pair) 0 0 j.condition room → NamesAccepted text printed
  run_named p q pair room R is =
      let says = run_says (job_table j) j.condition j.needs fit.proper.few_edges fit.condition R in
      record {
        asked = j;
        read = read;
        sound = sound;
        pair = pair;
        prefix = R.prefix;
        cycle = R.cycle;
        says = subst (λ (x : List ℕ). Says j.condition x (run pair R.prefix R.cycle)) (sym is) says;
        accepted = R.accepted;
        met = named_met (job_table j) j.condition j.needs R.cycle pair R.accepted.meets R.named;
      }

  -- empty is no run
  empty_said : (depth : ℕ) (room : List ℕ) → depth ≤ most_number → printed ≡ answer_text verdict.Empty 0 depth j.condition room → NoRun j.condition printed
  unfolding answer_text
  empty_said depth room l is = record { said = empty depth; says = record { ours = l; prints = is }; other = λ pair prefix cycle e. let z : ◌≡◌ {A = ℕ} 0 1 = cc in omega arith }

  empty_told : NoRun j.condition printed → Checks text printed (checked.Refused 51 0 0)
  empty_told N =
      let told : Told (job_table j) j.condition j.needs printed (checked.Refused 51 0 0) = no_run N refl in
      let caused : ByJob text (job j) printed (checked.Refused 51 0 0) =
      subst (λ (f : Result Unit Refusal). ByCause f (job_table j) j.condition j.needs printed (checked.Refused 51 0 0)) (sym sound) told in
      subst (λ (o : Outcome). ByJob text o printed (checked.Refused 51 0 0)) (sym read) caused

  by_verdict : (v : Verdict) (depth : ℕ) (room : List ℕ) → Decided (job_table j) j.condition j.needs v room → Deep (job_table j) j.condition v depth
      → printed ≡ answer_text v 0 depth j.condition room → (r : Checked) → Checks text printed r → OwnSaid text printed r
  by_verdict (verdict.Run p q pair) depth room R flat is r T =
      let printed-flat = is ∙ ap (λ (d : ℕ). answer_text (verdict.Run p q pair) 0 d j.condition room) flat in
      own.run (subst (Begins (verdict.Run 0 0 0)) (sym is) (run_begins p q pair depth j.condition room))
      ((accepted_exactly text printed r T).1 (run_named p q pair room R printed-flat))
  by_verdict verdict.Empty depth room D deep is r T =
      let within = depth_within (job_table j) j.condition j.needs depth fit.condition D.0 deep in
      own.empty (subst (Begins verdict.Empty) (sym is) (empty_begins depth j.condition room))
      (checks_once text printed r (checked.Refused 51 0 0) T (empty_told (empty_said depth room within is)))
  by_verdict (verdict.Refused number place) depth room D deep is r T = absurd D

-- ---- every job text

by_reply : (text printed : List ℕ) (r : Checked) → Checks text printed r → Answered text printed ⊎ RefusedFor text printed → OwnSaid text printed r
by_reply text printed r T (inl A) = by_verdict text printed A.asked A.read A.sound A.verdict A.depth A.room A.decided A.deep A.is r T
by_reply text printed r T (inr F) =
    own.refused F.number F.place F.column F.cause F.first F.is
    (told_again text (read_job text) refl printed F.number F.place F.column r F.cause F.first T)

-- the first `size` bytes are the answer
printed_is : {printed out : List ℕ} {size : ℕ} → Holds printed out size → take size out ≡ printed
printed_is {printed} {out} {size} H =
    ap (λ (bs : List ℕ). take size bs) H.cells ∙ ap (λ (k : ℕ). take k (printed ++ replicate (most_printed - size) 0)) H.all
    ∙ take-append_seam printed (replicate (most_printed - size) 0)

own_says : (text out : List ℕ) (size : ℕ) → Replied text out size → (r : Checked) → Checks text (take size out) r → OwnSaid text (take size out) r
own_says text out size R r T =
    let is : take size out ≡ R.printed = printed_is R.held in
    subst (λ (bs : List ℕ). OwnSaid text bs r) (sym is)
    (by_reply text R.printed r (subst (λ (bs : List ℕ). Checks text bs r) is T) (answered_or_refused text out size R))

not_accepted : {number place column : ℕ} → checked.Refused number place column ≡ checked.Accepted → ⊥
not_accepted e = let z : ◌≡◌ {A = ℕ} 0 1 = cc in omega arith

-- accepted exactly if it is a run
run_exactly : (text printed : List ℕ) (r : Checked) → OwnSaid text printed r → (r ≡ checked.Accepted) ↔ Begins (verdict.Run 0 0 0) printed
run_exactly text printed r (own.run b e) = (λ a. b, λ c. e)
run_exactly text printed r (own.empty b e) = (λ a. absurd (not_accepted (sym e ∙ a)), λ c. absurd (empty_not_run printed b c))
run_exactly text printed r (own.refused number place column f k is e) =
    (λ a. absurd (not_accepted (sym e ∙ a)), λ c. absurd (refused_not_run number place column (subst (Begins (verdict.Run 0 0 0)) is c)))

-- the whole statement
pub own_answers : OwnAnswers
own_answers = record { says = own_says; runs = λ text out size R r T. run_exactly text (take size out) r (own_says text out size R r T) }
