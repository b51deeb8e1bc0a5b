-- `judge_hoa` meets its contract: a text that is too long is told (`hoa_too_long`), and so is what the reader refuses, at a place that fits (`hoa_refused`,
-- `hoa_place`); what it reads is judged, in parts of the tables that are as long as the edges are many, and the answer that is printed is the text's reply
-- (`hoa_judged`). Assumes nothing.
use mathlib.Core.Path.{refl}
use native.Mathlib.Omega.{arith}
use borrow.Author.Rules.{rules}
use Rattle.judge_text.proofs.HoaTelling.{hoa_too_long, hoa_place, hoa_refused, hoa_froms_reach, hoa_tos_reach, hoa_sets_reach, hoa_states_few, hoa_edges_few, hoa_judged}
use Rattle.judge_text.proofs.judge_hoa.Goals as goal

pub returns-then-text-gt-MOST_HOA : goal.returns-then-text-gt-MOST_HOA
returns-then-text-gt-MOST_HOA c = hoa_too_long (search rules) c.show_refused.ensures

pub overflow_cast-place : goal.overflow_cast-place
overflow_cast-place c =
    omega (arith, hoa_place refl refl refl (search rules) c.read_hoa-hoa.ensures c.in-Refused.is)

pub returns-in-Refused : goal.returns-in-Refused
returns-in-Refused c =
    hoa_refused refl refl refl (search rules) c.read_hoa-hoa.ensures c.in-Refused.is c.show_refused-in-Refused.ensures

pub slice_bounds-answer_job-end : goal.slice_bounds-answer_job-end
slice_bounds-answer_job-end c = hoa_froms_reach refl refl refl (search rules) c.read_hoa-hoa.ensures

pub slice_bounds-answer_job-end-2 : goal.slice_bounds-answer_job-end-2
slice_bounds-answer_job-end-2 c = hoa_tos_reach refl refl refl (search rules) c.read_hoa-hoa.ensures

pub slice_bounds-answer_job-end-3 : goal.slice_bounds-answer_job-end-3
slice_bounds-answer_job-end-3 c = hoa_sets_reach refl refl refl (search rules) c.read_hoa-hoa.ensures

pub answer_job-requires : goal.answer_job-requires
answer_job-requires c =
    let read = c.read_hoa-hoa.ensures in
    record { states_le_most_job_states = hoa_states_few refl refl refl (search rules) read; from_len_bound = hoa_edges_few refl refl refl (search rules) read }

pub returns : goal.returns
returns c =
    hoa_judged refl refl refl (search rules) c.read_hoa-hoa.ensures c.in_default.is c.answer_job.ensures
