-- `job_to_hoa` meets its contract: what the reader refuses is told (`refused_turned`); what it reads is written from parts of the tables that are as long as
-- the edges are many (`froms_reach`, ..), and stands in the output (`text_turned`) or is refused by one of rows 1 to 7, which is told (`row_turned`).
-- Assumes nothing.
use borrow.Author.Rules.{rules}
use Rattle.job_text.proofs.Tables.{froms_reach, tos_reach, sets_reach}
use Rattle.hoa_text.proofs.Turning.{refused_turned, text_turned, row_turned}
use Rattle.hoa_text.proofs.job_to_hoa.Goals as goal

pub returns-in-Err : goal.returns-in-Err
returns-in-Err c =
    refused_turned c.read-job.ensures c.in-Err.is c.tell_refused.ensures

pub slice_bounds-write_hoa-end : goal.slice_bounds-write_hoa-end
slice_bounds-write_hoa-end c = froms_reach c.read-job.ensures

pub slice_bounds-write_hoa-end-2 : goal.slice_bounds-write_hoa-end-2
slice_bounds-write_hoa-end-2 c = tos_reach c.read-job.ensures

pub slice_bounds-write_hoa-end-3 : goal.slice_bounds-write_hoa-end-3
slice_bounds-write_hoa-end-3 c = sets_reach c.read-job.ensures

pub returns-in-Ok : goal.returns-in-Ok
returns-in-Ok c =
    text_turned c.read-job.ensures c.in_default.is (search rules) c.write_hoa-written.ensures c.in-Ok.is

pub returns-in-Err-written : goal.returns-in-Err-written
returns-in-Err-written c =
    row_turned c.read-job.ensures c.in_default.is (search rules) c.write_hoa-written.ensures c.in-Err-written.is
    c.tell_refused-in-Err-written.ensures
