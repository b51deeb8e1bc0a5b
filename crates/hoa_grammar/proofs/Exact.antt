-- "Accepted texts are exactly those of the stated subset's grammar": a text is read as a job exactly if it is one of the subset, within the limits, that says it;
-- and no text says two. Assumes nothing.
use mathlib.Core.List.{List}
use mathlib.Core.Logic.{◌↔◌}
use mathlib.Core.Path.{◌≡◌, sym, ap, ◌∙◌}
use Prim.Native.Nat.{ℕ}
use Rattle.job_text.specs.Job.{Job, Outcome, job, fault}
use Rattle.hoa.specs.Reading.{read_hoa}
use Rattle.hoa_grammar.specs.Exact.{ReadAs}
use Rattle.hoa_grammar.proofs.Accepted.{accepted}
use Rattle.hoa_grammar.proofs.Complete.{read_all}

pub read_exactly : (text : List ℕ) (j : Job) → (read_hoa text ≡ job j) ↔ ReadAs text j
read_exactly text j = (accepted text j, read_all text j)

abbrev job_or : Job → Outcome → Job
job_or d (job j) = j
job_or d (fault number place) = d

pub one_job : (text : List ℕ) (j k : Job) → ReadAs text j → ReadAs text k → j ≡ k
one_job text j k r s = ap (job_or j) (sym (read_all text j r) ∙ read_all text k s)
