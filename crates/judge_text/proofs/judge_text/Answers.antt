-- `judge_text` meets its contract: what the reader refuses is printed (`refused_so`); what it reads is judged, in parts of the tables that are as long as
-- the edges are many (`froms_reach`, ..), and the answer that is printed is the text's reply (`judged_so`). Assumes nothing.
use Rattle.job_text.proofs.Tables.{froms_reach, tos_reach, sets_reach}
use Rattle.judge_text.proofs.Telling.{refused_so, states_few, edges_few, judged_so}
use Rattle.judge_text.proofs.judge_text.Goals as goal

pub returns-in-Err : goal.returns-in-Err
returns-in-Err c =
    record { printed = _; says = refused_so c.read-job.ensures c.in-Err.is; held = c.show_refused.ensures }

pub slice_bounds-answer_job-end : goal.slice_bounds-answer_job-end
slice_bounds-answer_job-end c = froms_reach c.read-job.ensures

pub slice_bounds-answer_job-end-2 : goal.slice_bounds-answer_job-end-2
slice_bounds-answer_job-end-2 c = tos_reach c.read-job.ensures

pub slice_bounds-answer_job-end-3 : goal.slice_bounds-answer_job-end-3
slice_bounds-answer_job-end-3 c = sets_reach c.read-job.ensures

pub answer_job-requires : goal.answer_job-requires
answer_job-requires c =
    let read = c.read-job.ensures in
    record { states_le_most_job_states = states_few read; from_len_bound = edges_few read }

pub returns : goal.returns
returns c =
    judged_so c.read-job.ensures c.in_default.is c.answer_job.ensures
