-- From what the reader, the judge and the printer give to the whole promise. A text is read as its outcome says; so each lemma goes by the outcome,
-- and the reading names the case. Assumes nothing.
use Rattle.table.specs.Refusal.{refused}
use Rattle.table.specs.declared.Refusal.{Refusal}
use Rattle.std.specs.Prelude.{Result, Ok}
use mathlib.Core.Path.{◌≡◌, refl, sym, ap, ◌∙◌, subst}
use mathlib.Core.List.{List, map}
use Prim.Native.Nat.{ℕ, ◌-◌, ◌^◌, ◌≤◌, ◌<◌}
use native.Mathlib.Omega.{arith}
use lib.ListN.{length, take, drop, replicate, length-map, length-take}
use Rattle.table.specs.declared.Acceptance.{Acceptance}
use Rattle.table.specs.declared.Answer.{Answer}
use Rattle.table.specs.Table.{lent}
use Rattle.job_text.specs.declared.reader.Reading.{Reading}
use Rattle.job_text.specs.Value.{Edge, pad_to}
use Rattle.job_text.specs.Job.{most_job_states, most_job_edges, Job, Outcome, job, fault, read_job, Column}
use Rattle.job_text.specs.Reading.{reading_of, cells_of, Read}
use Rattle.answer_text.specs.Printed.{answer_text, refused_text, most_printed, Prints}
use Rattle.answer_text.proofs.Refusals.{same_text, printed_all, never_refused}
use Rattle.judging.specs.Answer.{ByCause, Answers}
use Rattle.job_text.specs.Asked.{edge_cells, job_table}
use Rattle.judge_text.specs.Replied.{lent_room, lent_scratch, JobReply, ReplyTo, Holds, Replied}
use Rattle.judge_text.specs.inner.{Judged}
use Rattle.job_text.proofs.Tables.{unlike, part_is}
use Rattle.judge_text.proofs.Limits.{Limited, Bounded, read_bounded}
use Rattle.judge_text.proofs.Lent.{enough}
use Rattle.judge_text.proofs.Fits.{answer_fits}

-- ---- what the reader refuses

refused_by : (text : List ℕ) (o : Outcome) (r : Reading) (number place : ℕ) → r ≡ reading_of o r.column → Column text r.column → r.finding ≡ refused number place
    → ReplyTo (Column text) o (refused_text number place r.column)
refused_by text (job j) r number place e k f = absurd (unlike (sym f ∙ ap (λ (x : Reading). x.finding) e))
refused_by text (fault x p) r number place e k f =
    record { column = r.column; first = k; is = same_text (sym f ∙ ap (λ (x : Reading). x.finding) e) refl }

-- ---- for any text that is read

module _ {text b b' b'' from to marks : List ℕ} {r : Reading} (R : Read text b b' b'' from to marks r) where
  pub refused_so : {number place : ℕ} → r.finding ≡ refused number place → ReplyTo (Column text) (read_job text) (refused_text number place r.column)
  refused_so {number} {place} f = refused_by text (read_job text) r number place R.reading R.column f

-- ---- what the judge answers

-- a table within a job's limits: what the judge answers fits
pub judged_fits : (n start : ℕ) (from to marks : List ℕ) (c : Acceptance) (needs room scratch : List ℕ) (a : Answer) → a.depth < 2 ^ 32 → n ≤ most_job_states → length from ≤ most_job_edges
    → Answers (lent n start from to marks) c needs (replicate lent_room 0) room (replicate lent_scratch 0) scratch a → length (answer_text a.verdict 0 a.depth c room) ≤ most_printed
judged_fits n start from to marks c needs room scratch a d few_states few_edges A =
    answer_fits n start from to marks c needs few_edges (replicate lent_room 0) room (replicate lent_scratch 0) scratch refl a.verdict a.depth d
    (subst (λ (f : Result Unit Refusal). ByCause f (lent n start from to marks) c needs (replicate lent_room 0) room (replicate lent_scratch 0) scratch a.verdict)
    (enough n start from to marks c needs few_states few_edges) A.says)

-- a job that was judged has its reply
pub job_reply : (j : Job) → Limited j → {out : List ℕ} {size : ℕ} (G : Judged (job_table j) j.condition j.needs out size)
    → JobReply j (answer_text G.answer.verdict 0 G.answer.depth j.condition G.room)
job_reply j L G =
    record {
      answer = G.answer;
      room = G.room;
      scratch = G.scratch;
      allowed = G.allowed;
      enough = enough j.states j.start (edge_cells (λ e. e.from) j) (edge_cells (λ e. e.to) j) (edge_cells (λ e. e.marks) j) j.condition j.needs L.states
          (omega (arith, L.edges, length-map j.edges (λ (e : Edge). e.from)));
      is = refl;
    }

-- what a reply is, and where it stands
pub record Reply (IsColumn : ℕ → Type 0) (o : Outcome) (out : List ℕ) (size : ℕ) : Type 0 where
  pub printed : List ℕ
  pub says : ReplyTo IsColumn o printed
  pub held : Holds printed out size

module _ (r : Reading) (from to marks out : List ℕ) (size : ℕ) where
  -- what was judged and printed: the parts of the tables that hold edges
  abbrev pub Lent : Type 0
  Lent =
      Judged (lent r.states r.start (take (r.edges - 0) (drop 0 from)) (take (r.edges - 0) (drop 0 to)) (take (r.edges - 0) (drop 0 marks)))
      r.condition r.needs out size

  module _ (j : Job) (column : ℕ) (e : r ≡ reading_of (job j) column) (f : from ≡ pad_to most_job_edges (map (λ (e : Edge). e.from) j.edges))
      (g : to ≡ pad_to most_job_edges (map (λ (e : Edge). e.to) j.edges)) (h : marks ≡ pad_to most_job_edges (map (λ (e : Edge). e.marks) j.edges)) where
    -- .. is the job's table
    on_job : Lent → Judged (job_table j) j.condition j.needs out size
    on_job G =
        rw (part_is (λ (e : Edge). e.from) j.edges, part_is (λ (e : Edge). e.to) j.edges, part_is (λ (e : Edge). e.marks) j.edges) at
        (rw (e, f, g, h) at G)

  judged_by : (IsColumn : ℕ → Type 0) (o : Outcome) (b b' b'' : List ℕ) (column : ℕ) → Bounded o → r ≡ reading_of o column → r.finding ≡ Ok tt → from ≡ cells_of (λ e. e.from) o b
      → to ≡ cells_of (λ e. e.to) o b' → marks ≡ cells_of (λ e. e.marks) o b'' → Lent → Reply IsColumn o out size
  judged_by IsColumn (fault number place) b b' b'' column B e s f g h G = absurd (unlike (sym (ap (λ (x : Reading). x.finding) e) ∙ s))
  judged_by IsColumn (job j) b b' b'' column B e s f g h G =
      let judged = on_job j column e f g h G in
      record { printed = _; says = job_reply j B judged; held = judged.held }

-- for any text that is read
module _ {text b b' b'' from to marks : List ℕ} {r : Reading} (R : Read text b b' b'' from to marks r) where
  pub states_few : r.states ≤ most_job_states
  states_few = by (read_job text) (read_bounded text) r.column R.reading
    where
      by : (o : Outcome) → Bounded o → (column : ℕ) → r ≡ reading_of o column → r.states ≤ most_job_states
      by (job j) B column e = omega (arith, B.states, ap (λ (x : Reading). x.states) e)
      by (fault number place) B column e = omega (arith, ap (λ (x : Reading). x.states) e)

  pub edges_few : length (take (r.edges - 0) (drop 0 from)) ≤ most_job_edges
  edges_few = omega (arith, length-take (r.edges - 0) from, by (read_job text) (read_bounded text) r.column R.reading)
    where
      by : (o : Outcome) → Bounded o → (column : ℕ) → r ≡ reading_of o column → r.edges ≤ most_job_edges
      by (job j) B column e = omega (arith, B.edges, ap (λ (x : Reading). x.edges) e)
      by (fault number place) B column e = omega (arith, ap (λ (x : Reading). x.edges) e)

  pub judged_so : {out : List ℕ} {size : ℕ} → r.finding ≡ Ok tt → Lent r from to marks out size → Replied text out size
  judged_so {out} {size} s G =
      let reply = judged_by r from to marks out size (Column text) (read_job text) b b' b'' r.column (read_bounded text) R.reading s R.froms R.tos R.sets G in
      record { printed = reply.printed; says = reply.says; held = reply.held }

-- ---- what is printed

-- in a buffer that is as long as every answer needs
module _ {text out out' : List ℕ} {r : Result ℕ Refusal} (wide : length out ≡ most_printed) (fits : length text ≤ most_printed) (P : Prints text out out' r) where
  within : length text ≤ length out
  within = omega arith

  pub shown_whole : {size : ℕ} → r ≡ Ok size → Holds text out' size
  shown_whole e = let all = printed_all within P e in record { all = all.0; cells = all.1 ∙ rw wide }

  pub never_short : {C : Type 0} {number place : ℕ} → r ≡ refused number place → C
  never_short e = never_refused within P e
