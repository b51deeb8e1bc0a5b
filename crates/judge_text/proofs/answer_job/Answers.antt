-- `answer_job` meets its contract: what the judge answers on a table within a job's limits fits (`judged_fits`), so all of it is printed. Assumes nothing.
use native.Mathlib.Omega.{arith}
use Rattle.judge_text.proofs.Telling.{judged_fits}
use Rattle.judge_text.proofs.answer_job.Goals as goal

pub show-requires : goal.show-requires
show-requires c =
    let a = c.args in
    let lent = c.judge-answer.new.room in
    judged_fits a.states a.start a.from.now a.to.now a.marks.now a.condition a.needs lent c.judge-answer.new.scratch c.judge-answer.result
    (omega arith) c.requires.states_le_most_job_states c.requires.from_len_bound c.judge-answer.ensures

pub returns : goal.returns
returns c =
    let judged = c.judge-answer in
    record { answer = judged.result; room = judged.new.room; scratch = judged.new.scratch; allowed = judged.ensures; held = c.show.ensures }
