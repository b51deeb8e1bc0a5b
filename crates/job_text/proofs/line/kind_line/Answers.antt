-- `line::kind_line` meets its contract: where the key is not there the kind is the usual one and the line stays; else 22 by the kind's reader. Assumes nothing.
use Rattle.job_text.specs.Value.{kind, usual_kind}
use Rattle.job_text.specs.Job.{kind=}
use Rattle.job_text.proofs.Lines.{perhaps_line}
use Rattle.job_text.proofs.line.kind_line.Goals as goal

pub returns-clause-read : goal.returns-clause-read
returns-clause-read c =
    let a = c.args in
    rw c.line_says.ensures
    (perhaps_line a.text.now a.start kind= c.in-Some.span c.in-Some.ensures (λ k. k) kind (usual_kind a.form) c.read_kind.result c.read_kind.ensures)
