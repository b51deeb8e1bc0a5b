-- The job text that is written for a table read as Büchi 1 (docs/RULES.md, "The job text and the printed answer", the writer). Assumes nothing.
use Rattle.std.specs.Prelude.{List, ◌++◌, ℕ}
use Rattle.table.specs.Table.{Table}
use Rattle.job_text.specs.Value.{buchi, dash, job}
use Rattle.job_text.specs.Job.{form=, states=, start=, kind=, count=, need=, edges=, end=}
use Rattle.puts.specs.Put.{decimal}
use Rattle.job_put_edges.specs.Edges.{shown, edges_text}

-- "`form=2`, states, start, `kind=buchi`, `count=1`, `need=-`, edges"
unfoldable pub head_text : ℕ → ℕ → ℕ → List ℕ
head_text n start m =
    shown form= (decimal 2)
    ++ (shown states= (decimal n)
    ++ (shown start= (decimal start)
    ++ (shown kind= buchi
    ++ (shown count= (decimal 1)
    ++ (shown need= dash
    ++ shown edges= (decimal m))))))

-- ".. the edge lines with eight digits, `end=job`"
unfoldable pub job_text : Table → List ℕ
job_text t = head_text t.states t.start t.edges ++ (edges_text t.from t.to t.marks t.edges ++ shown end= job)
