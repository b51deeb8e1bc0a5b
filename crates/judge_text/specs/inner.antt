-- What a private contract goes by: a table within a job's limits, judged and printed. Assumes nothing.
use Rattle.std.specs.Prelude.{List, ℕ, replicate}
use Rattle.table.specs.declared.Acceptance.{Acceptance}
use Rattle.table.specs.declared.Answer.{Answer}
use Rattle.table.specs.Table.{Table}
use Rattle.answer_text.specs.Printed.{answer_text}
use Rattle.judging.specs.Answer.{Answers}
use Rattle.judge_text.specs.Replied.{lent_room, lent_scratch, Holds}

-- an answer, a room and a scratch that the judge's contract allows, and their text stands in `out`
pub record Judged (t : Table) (c : Acceptance) (needs out : List ℕ) (size : ℕ) : Type 0 where
  pub answer : Answer
  pub room : List ℕ
  pub scratch : List ℕ
  pub allowed : Answers t c needs (replicate lent_room 0) room (replicate lent_scratch 0) scratch answer
  pub held : Holds (answer_text answer.verdict 0 answer.depth c room) out size
