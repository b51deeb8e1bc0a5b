-- From what the reader, the translation, the writer and the printer give to the whole promise. Row 11 never comes out: the translation is lent enough for
-- every table that row 10 lets pass, and the longest text fits; and rows 1 to 7 pass every translated table (`faithful`). Assumes nothing.
use Rattle.table.specs.declared.Refusal.{Refusal}
use Rattle.std.specs.Prelude.{Result, Ok, Err}
use mathlib.Core.Path.{◌≡◌, refl, sym, ap, ◌∙◌, subst}
use mathlib.Core.Bool.{Bool, true, false, cond}
use mathlib.Core.List.{List, []}
use Prim.Native.Nat.{ℕ, ◌-◌, ◌≤◌}
use native.Mathlib.Omega.{arith}
use lib.Dec.{ltb}
use lib.ListN.{length, take, drop, replicate, length-append}
use borrow.Author.Tests.{le-ltb, ltb-false}
use Rattle.marks.proofs.Cases.{either_false}
use Rattle.table.specs.declared.Acceptance.TheVariants.{Buchi, Streett, Rabin}
use Rattle.table.specs.Table.{Table, lent}
use Rattle.table.specs.Refusal.{refusal, most_states, most_edges, refused}
use Rattle.table.proofs.Door.{same_told}
use Rattle.one_mark.specs.declared.Translation.{Translation}
use Rattle.climbing.specs.Translated.{translated}
use Rattle.one_mark.specs.Outcome.{large, short, unless, answer, edges_of, number_of, Outcome, made_of}
use Rattle.one_mark.proofs.Answers.{granted}
use Rattle.one_mark.proofs.Faithful.{faithful, outputs_hold}
use Rattle.job_text.specs.declared.reader.Reading.{Reading}
use Rattle.job_text.specs.Value.{Edge}
use Rattle.job_text.specs.Job.{Outcome as Text, job, fault, read_job}
use Rattle.job_text.specs.Reading.{reading_of, cells_of, Read}
use Rattle.job_text.proofs.Tables.{unlike, part_is}
use Rattle.answer_text.specs.Printed.{refused_text, Prints}
use Rattle.answer_text.proofs.Refusals.{same_text, printed_all}
use Rattle.writing.specs.Writing.{or_else, written_of, output_of, Stands}
use Rattle.job_writer.specs.Written.{job_text}
use Rattle.job_writer.specs.Writing.{most_bytes, too_large, write_refusal, Writes}
use Rattle.job_writer.proofs.Size.{by_size}
use Rattle.translate_text.specs.Turned.{cause, told_or, turned_table, turned_by, turned, Turned}
use Rattle.translate_text.specs.inner.{written_table}

-- ---- what is printed

-- a refusal's lines stand in the output
pub told_stands : {text out out' : List ℕ} {r : Result ℕ Refusal} {size : ℕ} → length out ≡ most_bytes → length text ≤ length out → Prints text out out' r
    → r ≡ Ok size → Stands most_bytes text out' size
told_stands wide fits P e = let all = printed_all fits P e in record { all = all.0; cells = all.1 ∙ rw wide }

-- what is told lies within what was lent
pub turned_within : {text out : List ℕ} {size : ℕ} → Turned text out size → size ≤ length out
turned_within {text} {size = size} T = omega (arith, T.held.all, ap length T.held.cells, length-append (turned (read_job text) T.column) (replicate (most_bytes - size) 0))

-- ---- what the writer gives

module _ (t : Table) (out : List ℕ) (wide : length out ≡ most_bytes) where
  here : write_refusal t (length out) ≡ write_refusal t most_bytes
  here = ap (write_refusal t) wide

  -- the text stands in the output
  pub written_stands : {out' : List ℕ} {w : Result ℕ Refusal} {size : ℕ} → Writes t out out' w → w ≡ Ok size → Stands most_bytes (written_table t) out' size
  written_stands {out'} {w} {size} W q =
      by (write_refusal t most_bytes) refl (sym q ∙ W.answer ∙ ap (written_of (job_text t)) here) (W.output ∙ ap (output_of (job_text t) out) here)
    where
      by : (f : Result Unit Refusal) → write_refusal t most_bytes ≡ f → Ok size ≡ written_of (job_text t) f → out' ≡ output_of (job_text t) out f
          → Stands most_bytes (written_table t) out' size
      by (Ok done) e a o =
          let n : size ≡ length (job_text t) = cc in
          let is : written_table t ≡ job_text t = ap (λ (f : Result Unit Refusal). told_or f (job_text t)) e in
          rw is (record { all = n; cells = o ∙ rw (wide, n) })
      by (Err cause) e a o = let z : ◌≡◌ {A = ℕ} 0 1 = cc in absurd (omega arith)

  -- the refusal is the one to be told
  pub refusal_stands : {out' out'' : List ℕ} {w : Result ℕ Refusal} {number place size : ℕ} → Writes t out out' w → w ≡ refused number place
      → Stands most_bytes (refused_text number place 0) out'' size → Stands most_bytes (written_table t) out'' size
  refusal_stands {out'} {out''} {w} {number} {place} {size} W q S = by (write_refusal t most_bytes) refl (sym q ∙ W.answer ∙ ap (written_of (job_text t)) here)
    where
      by : (f : Result Unit Refusal) → write_refusal t most_bytes ≡ f → refused number place ≡ written_of (job_text t) f → Stands most_bytes (written_table t) out'' size
      by (Ok done) e a = let z : ◌≡◌ {A = ℕ} 0 1 = cc in absurd (omega arith)
      by (Err cause) e a =
          let same = same_told a in
          let is : written_table t ≡ refused_text number place 0 = ap (λ (f : Result Unit Refusal). told_or f (job_text t)) e ∙ rw (same.0, same.1) in
          rw is S

-- ---- what the translation gives

-- a table that row 10 lets pass is not too large for what is lent
lent_enough : (states edges : ℕ) → large states edges ≡ false → short edges most_edges most_edges most_edges ≡ false
lent_enough states edges e =
    let few = ltb-false most_edges edges (either_false (ltb most_states states) (ltb most_edges edges) e).1 in
    rw (le-ltb most_edges edges few)

-- the translation refuses as rows 1 to 7 and 10 do
cause_by : (f : Result Unit Refusal) (many few : Bool) (states edges start number place : ℕ) (next : Result Unit Refusal) → (many ≡ false → few ≡ false)
    → unless f (cond many (refused 10 0) (cond few (refused 11 0) (made_of states edges start))) ≡ refused number place
    → or_else f (cond many (refused 10 0) next) ≡ refused number place
cause_by (Err cause) many few states edges start number place next h q = let same = same_told q in rw (same.0, same.1)
cause_by (Ok done) true few states edges start number place next h q = let same = same_told q in rw (← same.0, ← same.1)
cause_by (Ok done) false few states edges start number place next h q =
    let r : made_of states edges start ≡ refused number place = rw (h refl) at q in
    let z : ◌≡◌ {A = ℕ} 0 1 = cc in
    absurd (omega arith)

-- what is made lies within what was lent
pub made_fits : {t : Table} {k : ℕ} {l a b l' a' b' : List ℕ} {r : Result Translation Refusal} {states edges first : ℕ} → Outcome t k l a b r l' a' b'
    → r ≡ made_of states edges first → (edges ≤ length l) × ((edges ≤ length a) × (edges ≤ length b))
made_fits {t} {k} {l} {a} {b} {r = r} {edges = edges} O e =
    let g = granted t k (length l) (length a) (length b) r O.answered (ap number_of e) in
    let same : edges ≡ (translated t k).edges = ap edges_of (sym e ∙ g.made) in
    (omega (arith, g.first_room), (omega (arith, g.second_room), omega (arith, g.third_room)))

module _ (n start : ℕ) (from to marks : List ℕ) (k : ℕ) (l a b : List ℕ) (l-long : length l ≡ most_edges) (a-long : length a ≡ most_edges) (b-long : length b ≡ most_edges)
    (r : Result Translation Refusal) (l' a' b' : List ℕ) (O : Outcome (lent n start from to marks) k l a b r l' a' b') where
  t : Table
  t = lent n start from to marks

  -- it is refused, and the refusal stands in the output
  pub refused_stands : {number place : ℕ} {out : List ℕ} {size : ℕ} → r ≡ refused number place → Stands most_bytes (refused_text number place 0) out size
      → Stands most_bytes (turned_table (lent n start from to marks) k) out size
  unfolding t
  refused_stands {number} {place} e S =
      let u = translated t k in
      let answered : answer t k most_edges most_edges most_edges ≡ refused number place = (rw (l-long, a-long, b-long) at (sym O.answered)) ∙ e in
      let is : cause t k ≡ refused number place =
      cause_by (refusal t (Buchi k) []) (large u.states u.edges) (short u.edges most_edges most_edges most_edges) u.states u.edges u.start number place _
      (lent_enough u.states u.edges) answered in
      let told : turned_table t k ≡ refused_text number place 0 = ap (λ (f : Result Unit Refusal). told_or f (job_text u)) is in
      rw told S

  module _ (states edges first : ℕ) (e : r ≡ made_of states edges first) where
    none : number_of r ≡ 0
    none = ap number_of e

    -- what is handed on to the writer
    made : Table
    made = lent states first (take (edges - 0) (drop 0 l')) (take (edges - 0) (drop 0 a')) (take (edges - 0) (drop 0 b'))

    made_is : made ≡ translated t k
    unfolding made t
    made_is =
        let holds = outputs_hold n start from to marks k l a b r l' a' b' O none in
        let z : edges - 0 ≡ edges = omega arith in
        rw z (rw e at holds)

    -- rows 1 to 7 and 10 let it pass: only the writer's limits are left
    cause_is : cause t k ≡ cond (too_large (translated t k)) (refused 23 0) (Ok tt)
    unfolding t
    cause_is =
        let g = granted t k (length l) (length a) (length b) r O.answered none in
        let u = translated t k in
        let small : large u.states u.edges ≡ false = rw (le-ltb most_states u.states g.few, le-ltb most_edges u.edges g.few_edges) in
        let next = cond (too_large u) (refused 23 0) (Ok tt) in
        ap (λ (f : Result Unit Refusal). or_else f (cond (large u.states u.edges) (refused 10 0) next)) g.sound ∙ ap (λ (m : Bool). cond m (refused 10 0) next) small

    text_is : written_table made ≡ turned_table t k
    unfolding made t
    text_is =
        let rows : refusal made (Buchi 1) [] ≡ Ok tt =
        subst (λ (x : Table). refusal x (Buchi 1) [] ≡ Ok tt) (sym made_is)
        (faithful n start from to marks k (length l) (length a) (length b) (ap number_of (sym O.answered) ∙ none)).table in
        let only = by_size states first (take (edges - 0) (drop 0 l')) (take (edges - 0) (drop 0 a')) (take (edges - 0) (drop 0 b')) rows in
        ap (λ (f : Result Unit Refusal). told_or f (job_text made)) only
        ∙ ap (λ (x : Table). told_or (cond (too_large x) (refused 23 0) (Ok tt)) (job_text x)) made_is
        ∙ ap (λ (f : Result Unit Refusal). told_or f (job_text (translated t k))) (sym cause_is)

    -- what the writer gives for it stands in the output
    pub made_stands : {out : List ℕ} {size : ℕ}
        → Stands most_bytes (written_table (lent states first (take (edges - 0) (drop 0 l')) (take (edges - 0) (drop 0 a')) (take (edges - 0) (drop 0 b')))) out size
        → Stands most_bytes (turned_table (lent n start from to marks) k) out size
    unfolding made t
    made_stands S = rw (← text_is) S

-- ---- for any text that is read

-- what the reader refuses
refused_by : (o : Text) (r : Reading) (number place column : ℕ) → r ≡ reading_of o column → r.finding ≡ refused number place
    → turned o column ≡ refused_text number place column
refused_by (job j) r number place column e f = absurd (unlike (sym f ∙ ap (λ (x : Reading). x.finding) e))
refused_by (fault x p) r number place column e f = same_text (sym (ap (λ (x : Reading). x.finding) e) ∙ f) refl

-- what it reads, by the parts of the tables that hold edges
read_by : (o : Text) (r : Reading) (b b' b'' from to marks : List ℕ) (column : ℕ) → r ≡ reading_of o column → r.finding ≡ Ok tt → from ≡ cells_of (λ e. e.from) o b
    → to ≡ cells_of (λ e. e.to) o b' → marks ≡ cells_of (λ e. e.marks) o b''
    → turned o column ≡ turned_by r.condition (lent r.states r.start (take (r.edges - 0) (drop 0 from)) (take (r.edges - 0) (drop 0 to)) (take (r.edges - 0) (drop 0 marks)))
read_by (fault number place) r b b' b'' from to marks column e s f g h = absurd (unlike (sym (ap (λ (x : Reading). x.finding) e) ∙ s))
read_by (job j) r b b' b'' from to marks column e s f g h =
    rw (e, f, g, h, part_is (λ (e : Edge). e.from) j.edges, part_is (λ (e : Edge). e.to) j.edges, part_is (λ (e : Edge). e.marks) j.edges)

module _ {text b b' b'' from to marks : List ℕ} {r : Reading} (R : Read text b b' b'' from to marks r) where
  -- the reader refuses, and the refusal stands in the output
  pub reader_refuses : {number place : ℕ} {out : List ℕ} {size : ℕ} → r.finding ≡ refused number place → Stands most_bytes (refused_text number place r.column) out size
      → Turned text out size
  reader_refuses {number} {place} f S = record { column = r.column; first = R.column; held = rw (refused_by (read_job text) r number place r.column R.reading f) S }

  -- the table in the parts of the tables that hold edges
  abbrev pub held : Table
  held = lent r.states r.start (take (r.edges - 0) (drop 0 from)) (take (r.edges - 0) (drop 0 to)) (take (r.edges - 0) (drop 0 marks))

  module _ (sound : r.finding ≡ Ok tt) where
    by_kind : turned (read_job text) r.column ≡ turned_by r.condition held
    by_kind = read_by (read_job text) r b b' b'' from to marks r.column R.reading sound R.froms R.tos R.sets

    -- a job of the kind buchi
    pub buchi_turned : {k : ℕ} {out : List ℕ} {size : ℕ} → r.condition ≡ Buchi k
        → Stands most_bytes (turned_table held k) out size
        → Turned text out size
    buchi_turned e S = record { column = r.column; first = R.column; held = rw (by_kind, e) S }

    -- of another kind
    pub streett_turned : {p : ℕ} {out : List ℕ} {size : ℕ} → r.condition ≡ Streett p → Stands most_bytes (refused_text 4 0 0) out size → Turned text out size
    streett_turned e S = record { column = r.column; first = R.column; held = rw (by_kind, e) S }

    pub rabin_turned : {p : ℕ} {out : List ℕ} {size : ℕ} → r.condition ≡ Rabin p → Stands most_bytes (refused_text 4 0 0) out size → Turned text out size
    rabin_turned e S = record { column = r.column; first = R.column; held = rw (by_kind, e) S }
