-- What a private contract goes by: a table that is written, or its refusal told. Assumes nothing.
use Rattle.std.specs.Prelude.{List, ℕ}
use Rattle.table.specs.Table.{Table}
use Rattle.job_writer.specs.Written.{job_text}
use Rattle.job_writer.specs.Writing.{most_bytes, write_refusal}
use Rattle.translate_text.specs.Turned.{told_or}

-- its text in a buffer that is long enough for every text, or what the writer refuses
abbrev pub written_table : Table → List ℕ
written_table t = told_or (write_refusal t most_bytes) (job_text t)
