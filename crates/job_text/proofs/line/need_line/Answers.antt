-- `line::need_line` meets its contract: 21 where the line is not found, then 22 by the needs' reader. Assumes nothing.
use Rattle.job_text.specs.Value.{needs}
use Rattle.job_text.specs.Job.{need=}
use Rattle.job_text.proofs.Lines.{asked_line}
use Rattle.job_text.proofs.line.need_line.Goals as goal

pub returns-clause-read : goal.returns-clause-read
returns-clause-read c =
    let a = c.args in
    rw c.line_says.ensures
    (asked_line a.text.now a.start need= c.in_ok-span.span c.in_ok-span.ensures (λ ns. ns) (needs a.kind a.count) c.read_needs.result c.read_needs.ensures)
