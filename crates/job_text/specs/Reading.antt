-- What the reader gives for a text, and what its tables hold (docs/RULES.md, "What comes back": "A refusal gives its number and place, and changes no lent
-- cell"; "a lent output has zeros from the end of what is written to its own end"). Assumes nothing.
use Rattle.std.specs.Prelude.{◌≡◌, List, [], map, ℕ, ◌+◌, ◌≤◌, length, Result, Ok, Err}
use Rattle.table.specs.declared.Acceptance.TheVariants as acceptance
use Rattle.table.specs.Refusal.{refused}
use Rattle.job_text.specs.declared.line.Fault.{Fault}
use Rattle.job_text.specs.declared.line.LineStart.{LineStart}
use Rattle.job_text.specs.declared.reader.Reading.{Reading}
use Rattle.job_text.specs.declared.reader.Head.{Head as HeadRead}
use Rattle.job_text.specs.Text.{Lines, lines}
use Rattle.job_text.specs.Value.{Edge, pad_to, padded}
use Rattle.job_text.specs.Job.{Found, found, Reader, Head, most_job_edges, edge_lines, body_lines, Job, job_of, job_lines, Outcome, job, fault, read_job, Column}
use Rattle.job_text.specs.Given.{Blamed, from_line, SaysTo}

-- ---- the lines before the edges

abbrev pub head_of : HeadRead → Head
head_of h = record { states = h.states; start = h.start; kind = h.kind; count = h.count; needs = h.needs; edges = h.edges }

-- the lines say this head, and the edges begin there
pub record HeadTold (text : List ℕ) (said : Found Head) (h : HeadRead) (next : LineStart) : Type 0 where
  pub is : SaysTo text said (head_of h) next
  pub few : h.edges ≤ most_job_edges
  pub early : next.line ≤ 8

abbrev pub HeadAs : List ℕ → Found Head → Result (HeadRead × LineStart) Fault → Type 0
HeadAs text said (Ok r) = HeadTold text said r.0 r.1
HeadAs text said (Err f) = Blamed text said f

abbrev pub HeadAt : List ℕ → Reader Head → LineStart → Result (HeadRead × LineStart) Fault → Type 0
HeadAt text read start r = HeadAs text (from_line text start read) r

-- ---- the edge lines and what follows them

-- tables that nothing is written in yet
pub record Blank (from to marks : List ℕ) : Type 0 where
  pub from_blank : from ≡ pad_to most_job_edges []
  pub to_blank : to ≡ pad_to most_job_edges []
  pub marks_blank : marks ≡ pad_to most_job_edges []

-- tables that hold these edges, and zeros after them
pub record Held (es : List Edge) (from to marks : List ℕ) : Type 0 where
  pub froms : from ≡ pad_to most_job_edges (map (λ (e : Edge). e.from) es)
  pub tos : to ≡ pad_to most_job_edges (map (λ (e : Edge). e.to) es)
  pub sets : marks ≡ pad_to most_job_edges (map (λ (e : Edge). e.marks) es)

-- the lines say these edges
pub record Told (said : Found (List Edge)) (count : ℕ) (from to marks : List ℕ) : Type 0 where
  pub given : List Edge
  pub many : length given ≡ count
  pub place : ℕ
  pub rest : Lines
  pub read : said ≡ found given place rest
  pub held : Held given from to marks

-- and the next line begins there
pub record EdgesTold (text : List ℕ) (said : Found (List Edge)) (count : ℕ) (next : LineStart) (from to marks : List ℕ) : Type 0 where
  pub given : List Edge
  pub many : length given ≡ count
  pub read : SaysTo text said given next
  pub held : Held given from to marks
  pub early : next.line ≤ 8 + most_job_edges

abbrev pub EdgesAt : List ℕ → LineStart → ℕ → List ℕ → List ℕ → List ℕ → Result LineStart Fault → Type 0
EdgesAt text start count from to marks (Ok next) = EdgesTold text (from_line text start (edge_lines count)) count next from to marks
EdgesAt text start count from to marks (Err f) = Blamed text (from_line text start (edge_lines count)) f

-- some lines say something
pub record Heard {A : Type 0} (said : Found A) : Type 0 where
  pub what : A
  pub place : ℕ
  pub rest : Lines
  pub is : said ≡ found what place rest

abbrev pub EndedAt : {A : Type 0} → List ℕ → Found A → Result (Unit {0}) Fault → Type 0
EndedAt text said (Ok u) = Heard said
EndedAt text said (Err f) = Blamed text said f

abbrev pub BodyAt : List ℕ → LineStart → ℕ → List ℕ → List ℕ → List ℕ → Result (Unit {0}) Fault → Type 0
BodyAt text start count from to marks (Ok u) = Told (from_line text start (body_lines count)) count from to marks
BodyAt text start count from to marks (Err f) = Blamed text (from_line text start (body_lines count)) f

-- ---- the lines of a job

-- they say a job with this head, and the tables hold its edges
pub record LinesTold (said : Found Job) (h : HeadRead) (from to marks : List ℕ) : Type 0 where
  pub given : List Edge
  pub many : length given ≡ h.edges
  pub place : ℕ
  pub rest : Lines
  pub read : said ≡ found (job_of (head_of h) given) place rest
  pub held : Held given from to marks

abbrev pub LinesAt : List ℕ → List ℕ → List ℕ → List ℕ → Result HeadRead Fault → Type 0
LinesAt text from to marks (Ok h) = LinesTold (job_lines 1 (lines text)) h from to marks
LinesAt text from to marks (Err f) = Blamed text (job_lines 1 (lines text)) f

-- ---- the whole text

abbrev pub refused_reading : ℕ → ℕ → ℕ → Reading
refused_reading number place column =
    record { finding = refused number place; column = column; states = 0; start = 0; condition = acceptance.Buchi 0; needs = padded []; edges = 0 }

-- what is given for a text that says this, with a column
abbrev pub reading_of : Outcome → ℕ → Reading
reading_of (job j) column =
    record { finding = Ok tt; column = column; states = j.states; start = j.start; condition = j.condition; needs = j.needs; edges = length j.edges }
reading_of (fault number place) column = refused_reading number place column

-- a table's cells afterwards, by what they were: the edges' numbers and zeros after them; or as they were
abbrev pub cells_of : (Edge → ℕ) → Outcome → List ℕ → List ℕ
cells_of part (job j) before = pad_to most_job_edges (map part j.edges)
cells_of part (fault number place) before = before

pub record Read (text from to marks from' to' marks' : List ℕ) (r : Reading) : Type 0 where
  pub reading : r ≡ reading_of (read_job text) r.column
  pub column : Column text r.column
  pub froms : from' ≡ cells_of (λ e. e.from) (read_job text) from
  pub tos : to' ≡ cells_of (λ e. e.to) (read_job text) to
  pub sets : marks' ≡ cells_of (λ e. e.marks) (read_job text) marks
