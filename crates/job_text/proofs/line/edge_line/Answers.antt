-- `line::edge_line` meets its contract: 21 where the line is not found, then 22 by the edge's reader. Assumes nothing.
use Rattle.job_values.specs.inner.Told.{edge_in_words}
use Rattle.job_text.specs.Value.{edge}
use Rattle.job_text.specs.Job.{edge=}
use Rattle.job_text.proofs.Lines.{asked_line}
use Rattle.job_text.proofs.line.edge_line.Goals as goal

pub returns-clause-read : goal.returns-clause-read
returns-clause-read c =
    rw c.line_says.ensures (asked_line c.args.text.now c.args.start edge= c.in_ok-span.span c.in_ok-span.ensures edge_in_words edge c.read_edge.result c.read_edge.ensures)
