-- What comes back for a text of the Hanoi format, and what the lent tables hold (docs/RULES.md, "The Hanoi format", what comes back). Assumes nothing.
use Rattle.std.specs.Prelude.{◌≡◌, cond, List, map, ℕ, length, replicate}
use Rattle.table.specs.declared.Acceptance.TheVariants.{Buchi}
use Rattle.job_text.specs.Value.{Edge, pad_to}
use Rattle.job_text.specs.Job.{Job, Outcome, job, fault}
use Rattle.hoa_rows.specs.Lent.{fits}
use Rattle.hoa.specs.declared.Hoa.{Hoa}
use Rattle.hoa.specs.declared.HoaFinding.{HoaFinding}
use Rattle.hoa.specs.declared.HoaFinding.TheVariants.{Read, Refused}
use Rattle.hoa.specs.Reading.{read_hoa}

-- "every field of the answer but number and place is 0"
abbrev pub refused_hoa : ℕ → ℕ → Hoa
refused_hoa number place =
    record { finding = Refused number place; states = 0; start = 0; condition = Buchi 0; needs = replicate 8 0; edges = 0 }

abbrev pub read_of : Job → Hoa
read_of j =
    record { finding = Read; states = j.states; start = j.start; condition = j.condition; needs = j.needs; edges = length j.edges }

-- "Lent tables shorter than the kept edges: 11 at place 0, after 40 to 42"
abbrev pub returned : Outcome → List ℕ → List ℕ → List ℕ → Hoa
returned (job j) from to marks = cond (fits (length j.edges) from to marks) (read_of j) (refused_hoa 11 0)
returned (fault number place) from to marks = refused_hoa number place

-- a table's cells afterwards: "Cells behind the edges become 0. A refusal, 11 too, changes no cell"
abbrev pub cells_by : (Edge → ℕ) → HoaFinding → Outcome → List ℕ → List ℕ
cells_by part Read (job j) before = pad_to (length before) (map part j.edges)
cells_by part Read (fault number place) before = before
cells_by part (Refused number place) o before = before

-- the whole promise, for every text and every three tables
pub record ReadInto (text from to marks from' to' marks' : List ℕ) (r : Hoa) : Type 0 where
  pub reading : r ≡ returned (read_hoa text) from to marks
  pub froms : from' ≡ cells_by (λ e. e.from) r.finding (read_hoa text) from
  pub tos : to' ≡ cells_by (λ e. e.to) r.finding (read_hoa text) to
  pub sets : marks' ≡ cells_by (λ e. e.marks) r.finding (read_hoa text) marks
