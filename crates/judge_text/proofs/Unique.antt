-- Two results that the contract allows for one text are the same, the lasso's own edges and lengths aside: then both are runs, with the same lines of
-- verdict, code, place, column, pair and depth (docs/DECISIONS.md, "Which lasso", gives the grounds). Assumes nothing.
use mathlib.Core.Path.{◌≡◌, refl, sym, ap, ◌∙◌}
use mathlib.Core.List.{List}
use mathlib.Core.Logic.{◌⊎◌, inl, inr}
use Prim.Native.Nat.{ℕ}
use native.Mathlib.Omega.{arith}
use lib.ListN.{length, take, drop, replicate}
use Rattle.table.specs.declared.Acceptance.{Acceptance}
use Rattle.table.specs.declared.Verdict.{Verdict}
use Rattle.table.specs.declared.Verdict.TheVariants.{Run, Empty, Refused}
use Rattle.job_text.specs.Job.{Outcome, job, fault, read_job, Column}
use Rattle.answer_text.specs.Printed.{top_text, answer_text, refused_text}
use Rattle.judging.proofs.Unique.{Alike, answers_alike}
use Rattle.job_text.specs.Asked.{job_table}
use Rattle.job_text.proofs.Promises.{one_column}
use Rattle.judge_text.specs.Replied.{lent_room, lent_scratch, ReplyTo, Holds, Replied}
use Rattle.judge_text.specs.HoaReplied.{hoa_outcome, NoColumn, HoaReplied}
use Rattle.judge_text.specs.Reply.{TwoRuns}

-- by the verdicts
module _ (c : Acceptance) {room room' scratch scratch' : List ℕ} where
  same_text : (v w : Verdict) {d e : ℕ} → Alike v w d e room room' scratch scratch'
      → (answer_text v 0 d c room ≡ answer_text w 0 e c room') ⊎ TwoRuns (answer_text v 0 d c room) (answer_text w 0 e c room')
  unfolding answer_text top_text
  same_text (Run p q i) (Run p' q' i') {d} A = inr (record {
    condition = c;
    pair = i;
    depth = d;
    prefix = take p room;
    cycle = take q (drop p room);
    prefix' = take p' room';
    cycle' = take q' (drop p' room');
    first = refl;
    second = rw (A.pair, A.depth);
  })
  same_text (Run p q i) Empty A = absurd (omega (arith, A.kind))
  same_text (Run p q i) (Refused x e) A = absurd (omega (arith, A.kind))
  same_text Empty (Run p q i) A = absurd (omega (arith, A.kind))
  same_text Empty Empty A = inl (rw A.depth)
  same_text Empty (Refused x e) A = absurd (omega (arith, A.kind))
  same_text (Refused x e) (Run p q i) A = absurd (omega (arith, A.kind))
  same_text (Refused x e) Empty A = absurd (omega (arith, A.kind))
  same_text (Refused x e) (Refused y f) A = inl (rw (A.number, A.place, A.depth))

-- by what the text says
same_printed : (IsColumn : ℕ → Type 0) → ((c d : ℕ) → IsColumn c → IsColumn d → c ≡ d) → (o : Outcome) (printed printed' : List ℕ) → ReplyTo IsColumn o printed
    → ReplyTo IsColumn o printed' → (printed ≡ printed') ⊎ TwoRuns printed printed'
same_printed IsColumn once (fault number place) printed printed' s s' =
    inl (s.is ∙ ap (refused_text number place) (once s.column s'.column s.first s'.first) ∙ sym s'.is)
same_printed IsColumn once (job j) printed printed' J K =
    rw (J.is, K.is)
    (same_text j.condition J.answer.verdict K.answer.verdict
    (answers_alike (job_table j) j.condition j.needs (replicate lent_room 0) (replicate lent_scratch 0) J.answer K.answer J.allowed K.allowed))

same_cells : {printed printed' out out' : List ℕ} {size size' : ℕ} → printed ≡ printed' → Holds printed out size → Holds printed' out' size' → (out ≡ out') × (size ≡ size')
same_cells {printed} {printed'} {out} {out'} {size} {size'} e H K =
    let n : size ≡ size' = H.all ∙ ap length e ∙ sym K.all in
    (H.cells ∙ rw (e, n) (sym K.cells), n)

-- one outcome, one reply
one_by : (IsColumn : ℕ → Type 0) → ((c d : ℕ) → IsColumn c → IsColumn d → c ≡ d) → (o : Outcome) {printed printed' out out' : List ℕ} {size size' : ℕ}
    → ReplyTo IsColumn o printed → ReplyTo IsColumn o printed' → Holds printed out size → Holds printed' out' size' → ((out ≡ out') × (size ≡ size')) ⊎ TwoRuns printed printed'
one_by IsColumn once o {printed} {printed'} {out} {out'} {size} {size'} s s' H K = by (same_printed IsColumn once o printed printed' s s')
  where
    by : (printed ≡ printed') ⊎ TwoRuns printed printed' → ((out ≡ out') × (size ≡ size')) ⊎ TwoRuns printed printed'
    by (inl e) = inl (same_cells e H K)
    by (inr r) = inr r

-- one text, one reply
pub one_reply : (text out out' : List ℕ) (size size' : ℕ) (T : Replied text out size) (U : Replied text out' size')
    → ((out ≡ out') × (size ≡ size')) ⊎ TwoRuns T.printed U.printed
one_reply text out out' size size' T U = one_by (Column text) (one_column text) (read_job text) T.says U.says T.held U.held

-- .. and so for a text of the Hanoi format
pub one_hoa_reply : (text out out' : List ℕ) (size size' : ℕ) (T : HoaReplied text out size) (U : HoaReplied text out' size')
    → ((out ≡ out') × (size ≡ size')) ⊎ TwoRuns T.printed U.printed
one_hoa_reply text out out' size size' T U = one_by NoColumn (λ c d p q. p ∙ sym q) (hoa_outcome text) T.says U.says T.held U.held
