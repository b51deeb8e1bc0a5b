-- The table that a job says, and the first cause to refuse a text (docs/RULES.md, "The job text and the printed answer" and "What comes back").
-- Assumes nothing.
use Rattle.table.specs.declared.Refusal.{Refusal}
use Rattle.std.specs.Prelude.{List, map, ℕ, Result}
use Rattle.table.specs.Table.{Table, lent}
use Rattle.table.specs.Refusal.{refusal, refused}
use Rattle.job_text.specs.Value.{Edge}
use Rattle.job_text.specs.Job.{Job, Outcome, job, fault}

-- the numbers of a job's edges, in their order
abbrev pub edge_cells : (Edge → ℕ) → Job → List ℕ
edge_cells part j = map part j.edges

-- the table that a job says
abbrev pub job_table : Job → Table
job_table j = lent j.states j.start (edge_cells (λ e. e.from) j) (edge_cells (λ e. e.to) j) (edge_cells (λ e. e.marks) j)

-- "20 comes first", then the first faulty line's 21, 22 or 23; then rows 1 to 7
abbrev pub first_cause : Outcome → Result Unit Refusal
first_cause (fault number place) = refused number place
first_cause (job j) = refusal (job_table j) j.condition j.needs
