-- What a text of the Hanoi format says: its tokens from the left, to the first faulty one or to the job (docs/RULES.md, "The Hanoi format"). Assumes nothing.
use Rattle.std.specs.Prelude.{List, ℕ}
use Rattle.job_text.specs.Job.{Job, Outcome, job, fault}
use Rattle.hoa_value.specs.declared.Head.{Head}
use Rattle.hoa_entry.specs.declared.Limits.{Limits}
use Rattle.hoa_step.specs.Given.{given_or}
use Rattle.hoa_step.specs.Machine.{End, done_at, wrong_at, cut, run}
use Rattle.hoa_head.specs.Headed.{head_end}
use Rattle.hoa_entry.specs.Rows.{Kept, no_rows, entries, row_step}
use Rattle.hoa_kept.specs.Sorted.{sorted}

-- "Without AP: a is 0"
abbrev pub limits_of : Head → Limits
limits_of h = record { states = h.states; start = given_or 0 h.start; props = given_or 0 h.props; marks = given_or 0 h.marks }

-- "n, s; for each state from 0 the edges of its row in the text's order; the condition of the formula, with its eight needs"
abbrev pub job_of : Head → Kept → Job
job_of h k =
    record {
      states = k.states;
      start = given_or 0 h.start;
      condition = h.condition;
      needs = h.needs;
      edges = sorted k.states k.edges;
    }

-- behind the rows; a text ends in a token, so that nothing is cut
abbrev pub rows_say : Head → End Kept → Outcome
rows_say h (done_at k ps) = job (job_of h k)
rows_say h (wrong_at number place) = fault number place
rows_say h cut = fault 40 0

-- behind the header
abbrev pub head_says : End Head → Outcome
head_says (done_at h ps) = rows_say h (run (row_step (limits_of h)) ps (entries (no_rows (limits_of h).start)))
head_says (wrong_at number place) = fault number place
head_says cut = fault 40 0

-- what the bytes say
unfoldable pub read_hoa : List ℕ → Outcome
read_hoa text = head_says (head_end text)
