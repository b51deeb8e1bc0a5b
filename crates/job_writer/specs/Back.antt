-- What reading a written text gives (docs/RULES.md, "The job text and the printed answer", the writer). Assumes nothing.
use Rattle.std.specs.Prelude.{◌≡◌, List, ℕ, replicate}
use Rattle.table.specs.declared.Acceptance.TheVariants.{Buchi}
use Rattle.table.specs.Table.{Table}
use Rattle.job_text.specs.Job.{Job, job, read_job}
use Rattle.job_text.specs.Asked.{job_table}

-- "reading the text gives that table, start and condition": Büchi 1, whose needs are zeros
pub record ReadsBack (t : Table) (text : List ℕ) : Type 0 where
  pub said : Job
  pub read : read_job text ≡ job said
  pub table : job_table said ≡ t
  pub condition : said.condition ≡ Buchi 1
  pub needs : said.needs ≡ replicate 8 0
