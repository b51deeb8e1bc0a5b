-- From what the reader of the Hanoi format, the judge and the printer give to the whole promise. A job that is read keeps a job's limits (`lawful`), so the
-- tables are long enough and 11 never comes out; a refusal's place lies within the text (`fault_within`). Assumes nothing.
use mathlib.Core.Path.{◌≡◌, refl, sym, ap, ◌∙◌}
use mathlib.Core.Bool.{true}
use mathlib.Core.List.{List, map}
use Prim.Native.Nat.{ℕ, ◌-◌, ◌≤◌, ◌<◌}
use native.Mathlib.Omega.{arith}
use lib.ListN.{length, take, drop, replicate, length-append, length-map, length-take}
use borrow.Author.Tests.{le-leb, lt-ltb, le-ltb}
use Rattle.table.specs.Table.{lent}
use Rattle.job_text.specs.Value.{Edge, pad_to}
use Rattle.job_text.specs.Job.{most_job_states, most_job_edges, Job, Outcome, job, fault}
use Rattle.answer_text.specs.Printed.{refused_text, most_printed}
use Rattle.hoa_rows.specs.Lent.{fits}
use Rattle.hoa.specs.declared.Hoa.{Hoa}
use Rattle.hoa.specs.declared.HoaFinding.TheVariants.{Read, Refused}
use Rattle.hoa.specs.Reading.{read_hoa}
use Rattle.hoa.specs.Returned.{refused_hoa, read_of, ReadInto}
use Rattle.hoa.proofs.Lawful.{Lawful, lawful}
use Rattle.hoa.proofs.Places.{fault_within}
use Rattle.job_text.specs.Asked.{job_table}
use Rattle.judge_text.specs.Replied.{ReplyTo, Holds}
use Rattle.judge_text.specs.HoaReplied.{most_hoa_bytes, hoa_outcome, NoColumn, HoaReplied}
use Rattle.judge_text.specs.inner.{Judged}
use Rattle.job_text.proofs.Tables.{part_is}
use Rattle.judge_text.proofs.Telling.{job_reply}

-- ---- the findings

unlike : {number place : ℕ} → Refused number place ≡ Read → ⊥
unlike e = let z : ◌≡◌ {A = ℕ} 0 1 = cc in omega arith

same_text : {number place x p : ℕ} → Refused number place ≡ Refused x p → refused_text number place 0 ≡ refused_text x p 0
same_text {number} {place} {x} {p} q = let a : number ≡ x = cc in let b : place ≡ p = cc in rw (a, b)

same_place : {number place x p : ℕ} → Refused number place ≡ Refused x p → place ≡ p
same_place {number} {place} {x} {p} q = cc

-- ---- a text that is too long

pub hoa_too_long : {text out : List ℕ} {size : ℕ} → most_hoa_bytes < length text → Holds (refused_text 42 most_hoa_bytes 0) out size → HoaReplied text out size
hoa_too_long {text} l H = record { printed = refused_text 42 most_hoa_bytes 0; says = rw (lt-ltb most_hoa_bytes (length text) l) (record { column = 0; first = refl; is = refl }); held = H }

-- ---- what was read, in tables of 512 cells

module _ {text b b' b'' from to marks : List ℕ} {r : Hoa} (wide : length b ≡ most_job_edges) (wide' : length b' ≡ most_job_edges) (wide'' : length b'' ≡ most_job_edges)
    (short : length text ≤ most_hoa_bytes) (R : ReadInto text b b' b'' from to marks r) where
  -- what is judged and printed: the parts of the tables that hold edges
  abbrev pub LentHoa : List ℕ → ℕ → Type 0
  LentHoa out size =
      Judged (lent r.states r.start (take (r.edges - 0) (drop 0 from)) (take (r.edges - 0) (drop 0 to)) (take (r.edges - 0) (drop 0 marks)))
      r.condition r.needs out size

  -- what came, by what the text says
  abbrev Came : Outcome → Type 0
  Came (job j) =
      (r ≡ read_of j)
      × (Lawful j
      × ((from ≡ pad_to most_job_edges (map (λ (e : Edge). e.from) j.edges))
      × ((to ≡ pad_to most_job_edges (map (λ (e : Edge). e.to) j.edges)) × (marks ≡ pad_to most_job_edges (map (λ (e : Edge). e.marks) j.edges)))))
  Came (fault number place) = (r ≡ refused_hoa number place) × (place ≤ length text)

  came : (o : Outcome) → read_hoa text ≡ o → Came o
  came (job j) e =
      let law = lawful text j e in
      let enough : fits (length j.edges) b b' b'' ≡ true =
      rw (
        le-leb (length j.edges) (length b) (omega (arith, law.edges_few)),
        le-leb (length j.edges) (length b') (omega (arith, law.edges_few)),
        le-leb (length j.edges) (length b'') (omega (arith, law.edges_few)),
      ) in
      let is : r ≡ read_of j = R.reading ∙ rw (e, enough) in
      let f : r.finding ≡ Read = ap (λ (x : Hoa). x.finding) is in
      (is, (law, (R.froms ∙ rw (f, e, wide), (R.tos ∙ rw (f, e, wide'), R.sets ∙ rw (f, e, wide'')))))
  came (fault number place) e = (R.reading ∙ rw e, fault_within text number place e)

  here : Came (read_hoa text)
  here = came (read_hoa text) refl

  outcome : hoa_outcome text ≡ read_hoa text
  outcome = rw (le-ltb most_hoa_bytes (length text) short)

  -- ---- what the reader refuses

  refused_by : (o : Outcome) → Came o → {number place : ℕ} → r.finding ≡ Refused number place → ReplyTo NoColumn o (refused_text number place 0) × (place ≤ length text)
  refused_by (job j) c f = absurd (unlike (sym f ∙ ap (λ (x : Hoa). x.finding) c.0))
  refused_by (fault x p) c f =
      let q = sym f ∙ ap (λ (h : Hoa). h.finding) c.0 in
      (record { column = 0; first = refl; is = same_text q }, omega (arith, c.1, same_place q))

  pub hoa_place : {number place : ℕ} → r.finding ≡ Refused number place → place ≤ most_hoa_bytes
  hoa_place f = omega (arith, short, (refused_by (read_hoa text) here f).1)

  pub hoa_refused : {number place : ℕ} {out : List ℕ} {size : ℕ} → r.finding ≡ Refused number place → Holds (refused_text number place 0) out size → HoaReplied text out size
  hoa_refused {number} {place} f H = record { printed = refused_text number place 0; says = rw outcome (refused_by (read_hoa text) here f).0; held = H }

  -- ---- what is judged

  -- the tables are as long as the edges are many, and so within a job's limits
  record Reach : Type 0 where
    froms : r.edges ≤ length from
    tos : r.edges ≤ length to
    sets : r.edges ≤ length marks
    states_few : r.states ≤ most_job_states
    edges_few : r.edges ≤ most_job_edges

  padded : (part : Edge → ℕ) (j : Job) (cells : List ℕ) → cells ≡ pad_to most_job_edges (map part j.edges) → length j.edges ≤ length cells
  padded part j cells e =
      omega (arith, ap length e, length-append (map part j.edges) (replicate (most_job_edges - length (map part j.edges)) 0), length-map j.edges part)

  reach_by : (o : Outcome) → Came o → Reach
  reach_by (job j) c =
      let edges = ap (λ (x : Hoa). x.edges) c.0 in
      let cells = c.1.1 in
      record {
        froms = omega (arith, edges, padded (λ (e : Edge). e.from) j from cells.0);
        tos = omega (arith, edges, padded (λ (e : Edge). e.to) j to cells.1.0);
        sets = omega (arith, edges, padded (λ (e : Edge). e.marks) j marks cells.1.1);
        states_few = omega (arith, ap (λ (x : Hoa). x.states) c.0, c.1.0.states_few);
        edges_few = omega (arith, edges, c.1.0.edges_few);
      }
  reach_by (fault number place) c =
      let edges = ap (λ (x : Hoa). x.edges) c.0 in
      record {
        froms = omega (arith, edges);
        tos = omega (arith, edges);
        sets = omega (arith, edges);
        states_few = omega (arith, ap (λ (x : Hoa). x.states) c.0);
        edges_few = omega (arith, edges);
      }

  reach : Reach
  reach = reach_by (read_hoa text) here

  pub hoa_froms_reach : r.edges ≤ length from
  hoa_froms_reach = reach.froms

  pub hoa_tos_reach : r.edges ≤ length to
  hoa_tos_reach = reach.tos

  pub hoa_sets_reach : r.edges ≤ length marks
  hoa_sets_reach = reach.sets

  pub hoa_states_few : r.states ≤ most_job_states
  hoa_states_few = reach.states_few

  pub hoa_edges_few : length (take (r.edges - 0) (drop 0 from)) ≤ most_job_edges
  hoa_edges_few = omega (arith, length-take (r.edges - 0) from, reach.edges_few)

  -- a reply, and where it stands
  record HoaReply (o : Outcome) (out : List ℕ) (size : ℕ) : Type 0 where
    printed : List ℕ
    says : ReplyTo NoColumn o printed
    held : Holds printed out size

  judged_by : (o : Outcome) → Came o → {out : List ℕ} {size : ℕ} → r.finding ≡ Read → LentHoa out size → HoaReply o out size
  judged_by (fault number place) c f G = absurd (unlike (sym (ap (λ (x : Hoa). x.finding) c.0) ∙ f))
  judged_by (job j) c {out} {size} f G =
      let cells = c.1.1 in
      let law = c.1.0 in
      let judged : Judged (job_table j) j.condition j.needs out size =
      rw (part_is (λ (e : Edge). e.from) j.edges, part_is (λ (e : Edge). e.to) j.edges, part_is (λ (e : Edge). e.marks) j.edges) at
      (rw (c.0, cells.0, cells.1.0, cells.1.1) at G) in
      record { printed = _; says = job_reply j (record { states = law.states_few; edges = law.edges_few }) judged; held = judged.held }

  pub hoa_judged : {out : List ℕ} {size : ℕ} → r.finding ≡ Read → LentHoa out size → HoaReplied text out size
  hoa_judged f G =
      let reply = judged_by (read_hoa text) here f G in
      record { printed = reply.printed; says = rw outcome reply.says; held = reply.held }

-- what is printed lies within what was lent
pub hoa_replied_within : {text out : List ℕ} {size : ℕ} → HoaReplied text out size → size ≤ length out
hoa_replied_within {size = size} T =
    let H = T.held in omega (arith, H.all, ap length H.cells, length-append T.printed (replicate (most_printed - size) 0))
