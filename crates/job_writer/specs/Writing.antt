-- What the writer gives for every input (docs/RULES.md, "The job text and the printed answer", the writer). Assumes nothing.
use Rattle.table.specs.declared.Refusal.{Refusal}
use Rattle.std.specs.Prelude.{Bool, ◌||◌, List, [], ℕ, ltb, length, Result}
use Rattle.table.specs.declared.Acceptance.TheVariants.{Buchi}
use Rattle.table.specs.Table.{Table}
use Rattle.table.specs.Refusal.{refusal}
use Rattle.job_text.specs.Job.{most_job_states, most_job_edges}
use Rattle.writing.specs.Writing.{text_refusal, Gives}
use Rattle.job_writer.specs.Written.{job_text}

-- ---- the limits

-- "n is above 256 or m above 512"
abbrev pub large : ℕ → ℕ → Bool
large n m = ltb most_job_states n || ltb most_job_edges m

-- a table that is
abbrev pub too_large : Table → Bool
too_large t = large t.states t.edges

-- "at most 11,336 bytes": a buffer of so many is long enough for every text (`Size.most_bytes_lem` and `Size.room_enough`, in proofs/)
abbrev pub most_bytes : ℕ
most_bytes = 11336

-- ---- the refusals, in order

-- "rows 1 to 7 under Büchi 1, then 23 at place 0 if n is above 256 or m above 512, then 11 if the buffer is shorter than the text"
abbrev pub write_refusal : Table → ℕ → Result Unit Refusal
write_refusal t room = text_refusal (refusal t (Buchi 1) []) (too_large t) 23 (job_text t) room

-- ---- what comes back

-- the answer r, and out' where the output was out: the text's length and "bytes behind the text become 0", or the refusal and the output as it was
abbrev pub Writes : Table → List ℕ → List ℕ → Result ℕ Refusal → Type 0
Writes t out out' r = Gives (job_text t) (write_refusal t (length out)) out out' r
