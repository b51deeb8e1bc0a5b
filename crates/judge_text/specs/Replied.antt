-- From bytes to bytes: what is printed for a text, every text (docs/RULES.md, "The job text and the printed answer" and "What comes back"). Assumes nothing.
use Rattle.std.specs.Prelude.{◌≡◌, List, ◌++◌, ℕ, ◌+◌, ◌-◌, ◌*◌, length, replicate}
use Rattle.marks.specs.Mark.{width}
use Rattle.table.specs.declared.Answer.{Answer}
use Rattle.table.specs.Refusal.{refusal}
use Rattle.job_text.specs.Job.{most_job_states, most_job_edges, Job, Outcome, job, fault, read_job, Column}
use Rattle.job_text.specs.Asked.{job_table}
use Rattle.answer_text.specs.Printed.{answer_text, refused_text, most_printed}
use Rattle.judging.specs.Answer.{judge_refusal, Answers}

-- ---- what the judge is asked

-- "lasso room needed: (r+2)·n - 1 cells", for the most states of a job and the largest r that row 4 lets pass
abbrev pub lent_room : ℕ
lent_room = (width + 2) * most_job_states - 1

-- "scratch needed: 8n + 4m + 64 words", for the most states and edges of a job
abbrev pub lent_scratch : ℕ
lent_scratch = 8 * most_job_states + 4 * most_job_edges + 64

-- ---- what is printed

-- a job's printed answer, with column 0: there are an answer, a room and a scratch that the judge's contract allows for the job's table and condition, and the text is
-- theirs. What is lent is enough: the first cause is one of rows 1 to 7, and rows 8 and 9 never come out
pub record JobReply (j : Job) (printed : List ℕ) : Type 0 where
  pub answer : Answer
  pub room : List ℕ
  pub scratch : List ℕ
  pub allowed : Answers (job_table j) j.condition j.needs (replicate lent_room 0) room (replicate lent_scratch 0) scratch answer
  pub enough : judge_refusal (job_table j) j.condition j.needs lent_room lent_scratch ≡ refusal (job_table j) j.condition j.needs
  pub is : printed ≡ answer_text answer.verdict 0 answer.depth j.condition room

-- what the reader refuses: number and place are printed as they are, and the column that the text has
pub record FaultReply (IsColumn : ℕ → Type 0) (number place : ℕ) (printed : List ℕ) : Type 0 where
  pub column : ℕ
  pub first : IsColumn column
  pub is : printed ≡ refused_text number place column

-- "20 comes first", 21, 22 and 23 line by line: what the reader refuses is printed as it is; "then rows 1 to 9": what it reads is judged
abbrev pub ReplyTo : (ℕ → Type 0) → Outcome → List ℕ → Type 0
ReplyTo IsColumn (fault number place) printed = FaultReply IsColumn number place printed
ReplyTo IsColumn (job j) printed = JobReply j printed

-- "a lent output has zeros from the end of what is written to its own end"
pub record Holds (printed out : List ℕ) (size : ℕ) : Type 0 where
  pub all : size ≡ length printed
  pub cells : out ≡ printed ++ replicate (most_printed - size) 0

-- the whole promise, for every text: what the text is answered, and nothing else, stands in `out`, and `size` is how long it is
pub record Replied (text out : List ℕ) (size : ℕ) : Type 0 where
  pub printed : List ℕ
  pub says : ReplyTo (Column text) (read_job text) printed
  pub held : Holds printed out size
