-- `line::end_line` meets its contract: 21 where the line is not found, then 22 where its value is not `job`. Assumes nothing.
use Rattle.job_text.specs.Value.{end}
use Rattle.job_text.specs.Job.{end=}
use Rattle.job_text.proofs.Lines.{asked_line}
use Rattle.job_text.proofs.line.end_line.Goals as goal

pub returns-clause-read : goal.returns-clause-read
returns-clause-read c =
    rw c.line_says.ensures (asked_line c.args.text.now c.args.start end= c.in_ok-span.span c.in_ok-span.ensures (λ u. u) end c.read_end.result c.read_end.ensures)
