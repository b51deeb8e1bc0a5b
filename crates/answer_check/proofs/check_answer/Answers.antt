-- `check_answer` meets its contract: what the job's reader refuses is told; what it reads is handed on as the parts of the tables that hold edges. Assumes nothing.
use Rattle.job_text.proofs.Tables.{froms_reach, tos_reach, sets_reach}
use Rattle.answer_check.proofs.Telling.{refused_so, checked_so}
use Rattle.answer_check.proofs.check_answer.Goals as goal

pub returns-in-Err : goal.returns-in-Err
returns-in-Err c = refused_so c.read-read.ensures c.args.answer.now c.in-Err.is

pub slice_bounds-check_table-end : goal.slice_bounds-check_table-end
slice_bounds-check_table-end c = froms_reach c.read-read.ensures

pub slice_bounds-check_table-end-2 : goal.slice_bounds-check_table-end-2
slice_bounds-check_table-end-2 c = tos_reach c.read-read.ensures

pub slice_bounds-check_table-end-3 : goal.slice_bounds-check_table-end-3
slice_bounds-check_table-end-3 c = sets_reach c.read-read.ensures

pub returns : goal.returns
returns c = checked_so c.read-read.ensures c.args.answer.now c.check_table.result c.in_default.is c.check_table.ensures
