-- From what the reader, the writer and the printer give to the whole promise. A text is read as its outcome says; so each lemma goes by the outcome,
-- and the reading names the case. Rows 42 and 11 never come out: a job keeps the writer's limits, and the longest text fits. Assumes nothing.
use Rattle.table.specs.declared.Refusal.{Refusal}
use Rattle.std.specs.Prelude.{Result, Ok, Err}
use mathlib.Core.Path.{◌≡◌, refl, sym, ap, ◌∙◌, subst}
use mathlib.Core.List.{List, map}
use Prim.Native.Nat.{ℕ, ◌-◌, ◌≤◌}
use native.Mathlib.Omega.{arith}
use lib.ListN.{length, take, drop, replicate, length-append, length-map}
use borrow.Author.Tests.{le-ltb}
use Rattle.table.specs.Table.{lent}
use Rattle.table.specs.Refusal.{refusal, refused}
use Rattle.table.proofs.Sound.{sound_fit}
use Rattle.job_text.specs.declared.reader.Reading.{Reading}
use Rattle.job_text.specs.Value.{Edge, pad_to}
use Rattle.job_text.specs.Job.{most_job_edges, Job, Outcome, job, fault, read_job}
use Rattle.job_text.specs.Reading.{reading_of, cells_of, Read}
use Rattle.answer_text.specs.Printed.{refused_text, Prints}
use Rattle.writing.specs.Writing.{written_of, output_of}
use Rattle.hoa_written.specs.Written.{hoa_text}
use Rattle.hoa_written.specs.Writing.{most_bytes, write_refusal, Writes}
use Rattle.hoa_writer.proofs.Writings.{not_large}
use Rattle.hoa_writer.proofs.Size.{most_bytes_lem}
use Rattle.job_text.specs.Asked.{edge_cells, job_table}
use Rattle.judge_text.proofs.Limits.{Limited, Bounded, read_bounded}
use Rattle.job_text.proofs.Tables.{unlike, part_is}
use Rattle.answer_text.proofs.Refusals.{same_text, printed_all}
use Rattle.hoa_text.specs.Turned.{written_for, turned, Stands, Turned}

-- ---- what the writer gives for a job

-- the text stands in the output, or the refusal is the one to be told
abbrev Wrote : Outcome → ℕ → List ℕ → Result ℕ Refusal → Type 0
Wrote o column out (Ok size) = Stands (turned o column) out size
Wrote o column out (Err cause) = turned o column ≡ refused_text cause.number cause.place 0

module _ (j : Job) (column : ℕ) (L : Limited j) (out : List ℕ) (wide : length out ≡ most_bytes) where
  text : List ℕ
  text = hoa_text (job_table j) j.condition j.needs

  few : length (edge_cells (λ e. e.from) j) ≤ most_job_edges
  few = omega (arith, L.edges, length-map j.edges (λ (e : Edge). e.from))

  -- a text that is written fits
  text_fits : refusal (job_table j) j.condition j.needs ≡ Ok tt → length text ≤ length out
  unfolding text
  text_fits e =
      let from = edge_cells (λ e. e.from) j in
      let to = edge_cells (λ e. e.to) j in
      let marks = edge_cells (λ e. e.marks) j in
      let fit = sound_fit j.states j.start from to marks j.condition j.needs e in
      omega (arith, wide, most_bytes_lem j.states j.start from to marks j.condition j.needs fit L.states few)

  -- the writer refuses as rows 1 to 7 do
  only_rows : (f : Result Unit Refusal) → refusal (job_table j) j.condition j.needs ≡ f → write_refusal (job_table j) j.condition j.needs (length out) ≡ f
  unfolding text
  only_rows (Ok done) e = rw (e, not_large (job_table j) L.states few, le-ltb (length out) (length text) (text_fits e))
  only_rows (Err cause) e = rw e

  wrote_by : (f : Result Unit Refusal) {out' : List ℕ} {w : Result ℕ Refusal} → refusal (job_table j) j.condition j.needs ≡ f → w ≡ written_of text f → out' ≡ output_of text out f
      → Wrote (job j) column out' w
  unfolding text
  wrote_by (Ok done) e a o =
      let is : turned (job j) column ≡ text = ap (λ (f : Result Unit Refusal). written_for f text) e in
      rw a (record { all = ap length (sym is); cells = o ∙ rw (is, wide) })
  wrote_by (Err cause) e a o = rw a (ap (λ (f : Result Unit Refusal). written_for f text) e)

  wrote : {out' : List ℕ} {w : Result ℕ Refusal} → Writes (job_table j) j.condition j.needs out out' w → Wrote (job j) column out' w
  unfolding text
  wrote W =
      let f = refusal (job_table j) j.condition j.needs in
      let so = only_rows f refl in
      wrote_by f refl (W.answer ∙ ap (written_of text) so) (W.output ∙ ap (output_of text out) so)

-- ---- for any text that is read

-- what the reader refuses
refused_by : (o : Outcome) (r : Reading) (number place column : ℕ) → r ≡ reading_of o column → r.finding ≡ refused number place
    → turned o column ≡ refused_text number place column
refused_by (job j) r number place column e f = absurd (unlike (sym f ∙ ap (λ (x : Reading). x.finding) e))
refused_by (fault x p) r number place column e f = same_text (sym (ap (λ (x : Reading). x.finding) e) ∙ f) refl

module _ (r : Reading) (from to marks out out' : List ℕ) (w : Result ℕ Refusal) where
  -- the writer's contract at what was lent to it: the parts of the tables that hold edges
  abbrev Lent : Type 0
  Lent =
      Writes (lent r.states r.start (take (r.edges - 0) (drop 0 from)) (take (r.edges - 0) (drop 0 to)) (take (r.edges - 0) (drop 0 marks)))
      r.condition r.needs out out' w

  module _ (j : Job) (column : ℕ) (e : r ≡ reading_of (job j) column) (f : from ≡ pad_to most_job_edges (map (λ (e : Edge). e.from) j.edges))
      (g : to ≡ pad_to most_job_edges (map (λ (e : Edge). e.to) j.edges)) (h : marks ≡ pad_to most_job_edges (map (λ (e : Edge). e.marks) j.edges)) where
    -- .. is its contract at the job's table
    on_job : Lent → Writes (job_table j) j.condition j.needs out out' w
    on_job W =
        rw (part_is (λ (e : Edge). e.from) j.edges, part_is (λ (e : Edge). e.to) j.edges, part_is (λ (e : Edge). e.marks) j.edges) at
        (rw (e, f, g, h) at W)

  written_by : (o : Outcome) (b b' b'' : List ℕ) (column : ℕ) → Bounded o → r ≡ reading_of o column → r.finding ≡ Ok tt → from ≡ cells_of (λ e. e.from) o b
      → to ≡ cells_of (λ e. e.to) o b' → marks ≡ cells_of (λ e. e.marks) o b'' → length out ≡ most_bytes → Lent → Wrote o column out' w
  written_by (fault number place) b b' b'' column B e s f g h wide W = absurd (unlike (sym (ap (λ (x : Reading). x.finding) e) ∙ s))
  written_by (job j) b b' b'' column B e s f g h wide W = wrote j column B out wide (on_job j column e f g h W)

module _ {text b b' b'' from to marks : List ℕ} {r : Reading} (R : Read text b b' b'' from to marks r) where
  -- the reader refuses, and the refusal stands in the output
  pub refused_turned : {number place : ℕ} {out : List ℕ} {size : ℕ} → r.finding ≡ refused number place → Stands (refused_text number place r.column) out size
      → Turned text out size
  refused_turned {number} {place} f S =
      record { column = r.column; first = R.column; held = rw (refused_by (read_job text) r number place r.column R.reading f) S }

  module _ {out out' : List ℕ} {w : Result ℕ Refusal} (sound : r.finding ≡ Ok tt) (wide : length out ≡ most_bytes) (W : Lent r from to marks out out' w) where
    here : Wrote (read_job text) r.column out' w
    here = written_by r from to marks out out' w (read_job text) b b' b'' r.column (read_bounded text) R.reading sound R.froms R.tos R.sets wide W

    -- the text stands in the output
    pub text_turned : {size : ℕ} → w ≡ Ok size → Turned text out' size
    text_turned e = record { column = r.column; first = R.column; held = subst (Wrote (read_job text) r.column out') e here }

    -- one of rows 1 to 7 refuses, and the refusal stands in the output
    pub row_turned : {number place : ℕ} {out'' : List ℕ} {size : ℕ} → w ≡ refused number place → Stands (refused_text number place 0) out'' size → Turned text out'' size
    row_turned {number} {place} e S =
        let is : turned (read_job text) r.column ≡ refused_text number place 0 = subst (Wrote (read_job text) r.column out') e here in
        record { column = r.column; first = R.column; held = rw is S }

-- ---- what is printed

pub stands_whole : {text out out' : List ℕ} {r : Result ℕ Refusal} {size : ℕ} → length out ≡ most_bytes → length text ≤ length out → Prints text out out' r
    → r ≡ Ok size → Stands text out' size
stands_whole wide fits P e = let all = printed_all fits P e in record { all = all.0; cells = all.1 ∙ rw wide }

-- what is written lies within what was lent
pub turned_within : {text out : List ℕ} {size : ℕ} → Turned text out size → size ≤ length out
turned_within {text} {size = size} T =
    let H = T.held in omega (arith, H.all, ap length H.cells, length-append (turned (read_job text) T.column) (replicate (most_bytes - size) 0))
