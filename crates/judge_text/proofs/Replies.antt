-- Every text gets an answer or one numbered refusal, that of the first cause. Assumes nothing.
use Rattle.table.specs.declared.Refusal.{Refusal}
use Rattle.std.specs.Prelude.{Result, Ok, Err}
use mathlib.Core.Path.{◌≡◌, refl, ap, ◌∙◌, subst}
use mathlib.Core.Bool.{Bool, true, false, cond}
use mathlib.Core.List.{List}
use mathlib.Core.Logic.{◌⊎◌, inl, inr}
use Prim.Native.Nat.{ℕ, ◌-◌, ◌≤◌, ◌<◌}
use native.Mathlib.Omega.{arith}
use lib.Dec.{ltb}
use lib.ListN.{length, replicate, length-append}
use Rattle.table.specs.declared.Verdict.{Verdict}
use Rattle.table.specs.declared.Verdict.TheVariants.{Refused as RefusedVerdict}
use Rattle.table.proofs.Door.{refused_row}
use Rattle.job_text.specs.Text.{Lines, lines}
use Rattle.job_text.specs.Job.{most_bytes, Found, found, refused, Job, job_lines, Outcome, job, fault, outcome, read_job, ColumnIn, ColumnIf, Column}
use Rattle.answer_text.specs.Printed.{top_text, answer_text, refused_text, most_printed}
use Rattle.job_text.proofs.Jobs.{too_long, long_column}
use Rattle.job_text.proofs.Promises.{one_column}
use Rattle.job_text.specs.Asked.{job_table, first_cause}
use Rattle.erasing.specs.Depth.{Deep}
use Rattle.judge_text.specs.Replied.{FaultReply, JobReply, ReplyTo, Replied}
use Rattle.judge_text.specs.Reply.{RefusedFor, Answered}
use Rattle.judge_text.proofs.Limits.{Bounded, read_bounded}
use Rattle.judge_text.proofs.Lent.{By, by_rows}

-- a text that says a job has column 0
no_fault_lem : {number place : ℕ} {j : Job} {C : Type 0} → fault number place ≡ job j → C
no_fault_lem e = let z : ◌≡◌ {A = ℕ} 0 1 = cc in absurd (omega arith)

found_column : (f : Found Job) (j : Job) → outcome f ≡ job j → ColumnIn f 0
found_column (found a place ls) j e = refl
found_column (refused why place) j e = no_fault_lem e

lines_column : (long : Bool) (ls : Lines) (j : Job) → cond long (fault 20 0) (outcome (job_lines 1 ls)) ≡ job j → ColumnIf long ls 0
lines_column true ls j e = no_fault_lem e
lines_column false ls j e = found_column (job_lines 1 ls) j e

pub job_column : (text : List ℕ) (j : Job) → read_job text ≡ job j → Column text 0
unfolding read_job
job_column text j e = lines_column (ltb most_bytes (length text)) (lines text) j e

-- a refusal's text is the same whatever the condition and the room
pub refused_same : (number place : ℕ) (j : Job) (room : List ℕ) → answer_text (RefusedVerdict number place) 0 0 j.condition room ≡ refused_text number place 0
unfolding answer_text top_text
refused_same number place j room = refl

module _ (text printed : List ℕ) where
  -- what is read
  by_cause : (j : Job) → read_job text ≡ job j → (f : Result Unit Refusal) → first_cause (job j) ≡ f → (J : JobReply j printed)
      → By j J.room J.scratch J.answer.verdict f
      → Answered text printed ⊎ RefusedFor text printed
  by_cause j o (Ok done) e J B =
      inl (record { asked = j; read = o; sound = e; verdict = J.answer.verdict; depth = J.answer.depth; room = J.room; decided = B.decided; deep = J.allowed.deep; is = J.is })
  by_cause j o (Err cause) e J B =
      let row = refused_row (job_table j) j.condition j.needs cause.number cause.place e in
      let level : J.answer.depth ≡ 0 = subst (λ (v : Verdict). Deep (job_table j) j.condition v J.answer.depth) B.says J.allowed.deep in
      inr (record {
        number = cause.number;
        place = cause.place;
        column = 0;
        cause = ap first_cause o ∙ e;
        row = inl (row.some, row.most);
        first = job_column text j o;
        is = J.is ∙ rw (B.says, level) (refused_same cause.number cause.place j J.room);
      })

  by_outcome : (o : Outcome) → read_job text ≡ o → Bounded o → ReplyTo (Column text) o printed → Answered text printed ⊎ RefusedFor text printed
  by_outcome (fault number place) o B s = inr (record { number = number; place = place; column = s.column; cause = ap first_cause o; row = inr B; first = s.first; is = s.is })
  by_outcome (job j) o B J = by_cause j o (first_cause (job j)) refl J (by_rows j J.room J.scratch J.answer J.allowed J.enough)

-- every text gets an answer or one numbered refusal
pub answered_or_refused : (text out : List ℕ) (size : ℕ) (T : Replied text out size) → Answered text T.printed ⊎ RefusedFor text T.printed
answered_or_refused text out size T = by_outcome text T.printed (read_job text) refl (read_bounded text) T.says

-- "20 comes first": of a text above 12,288 bytes nothing else is looked at
pub too_long_first : (text out : List ℕ) (size : ℕ) (T : Replied text out size) → most_bytes < length text → T.printed ≡ refused_text 20 0 0
too_long_first text out size T l =
    let F : FaultReply (Column text) 20 0 T.printed = subst (λ (o : Outcome). ReplyTo (Column text) o T.printed) (too_long text l) T.says in
    F.is ∙ ap (refused_text 20 0) (one_column text F.column 0 F.first (long_column text l))

-- what is printed lies within what was lent
pub replied_within : {text out : List ℕ} {size : ℕ} → Replied text out size → size ≤ length out
replied_within {size = size} T =
    let H = T.held in omega (arith, H.all, ap length H.cells, length-append T.printed (replicate (most_printed - size) 0))
