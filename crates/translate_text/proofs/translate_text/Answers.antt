-- `translate_text` meets its contract: what the reader refuses is told (`reader_refuses`); what it reads is translated from parts of the tables that are as
-- long as the edges are many (`froms_reach`, ..) if its kind is buchi (`buchi_turned`), and else refused by 4. Assumes nothing.
use Rattle.job_text.proofs.Tables.{froms_reach, tos_reach, sets_reach}
use Rattle.translate_text.proofs.Translating.{reader_refuses, buchi_turned, streett_turned, rabin_turned}
use Rattle.translate_text.proofs.translate_text.Goals as goal

pub returns-in-Err : goal.returns-in-Err
returns-in-Err c =
    reader_refuses c.read-job.ensures c.in-Err.is c.tell_refused.ensures

pub slice_bounds-translate_table-end : goal.slice_bounds-translate_table-end
slice_bounds-translate_table-end c = froms_reach c.read-job.ensures

pub slice_bounds-translate_table-end-in-Buchi : goal.slice_bounds-translate_table-end-in-Buchi
slice_bounds-translate_table-end-in-Buchi c = tos_reach c.read-job.ensures

pub slice_bounds-translate_table-end-in-Buchi-2 : goal.slice_bounds-translate_table-end-in-Buchi-2
slice_bounds-translate_table-end-in-Buchi-2 c = sets_reach c.read-job.ensures

pub returns-in-Buchi : goal.returns-in-Buchi
returns-in-Buchi c =
    buchi_turned c.read-job.ensures c.in_default.is c.in-Buchi.is c.translate_table.ensures

pub returns-in-Streett : goal.returns-in-Streett
returns-in-Streett c =
    streett_turned c.read-job.ensures c.in_default.is c.in-Streett.is c.tell_refused-in-Streett.ensures

pub returns-in-Rabin : goal.returns-in-Rabin
returns-in-Rabin c =
    rabin_turned c.read-job.ensures c.in_default.is c.in-Rabin.is c.tell_refused-in-Rabin.ensures
