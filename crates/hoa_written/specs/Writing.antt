-- What the writer gives for every input (docs/RULES.md, "The Hanoi format", the writer). Assumes nothing.
use Rattle.table.specs.declared.Refusal.{Refusal}
use Rattle.std.specs.Prelude.{Bool, ◌||◌, List, ℕ, ltb, length, Result}
use Rattle.table.specs.declared.Acceptance.{Acceptance}
use Rattle.table.specs.Table.{Table}
use Rattle.table.specs.Refusal.{refusal}
use Rattle.writing.specs.Writing.{text_refusal, Gives}
use Rattle.hoa_written.specs.Written.{hoa_text}

-- ---- the limits

-- "n above 256"
abbrev pub most_written : ℕ
most_written = 256

-- "m above 512"
abbrev pub most_written_edges : ℕ
most_written_edges = 512

-- a buffer of this many bytes is long enough for every text (`Size.most_bytes_lem` and `Size.room_enough`, in proofs/)
abbrev pub most_bytes : ℕ
most_bytes = 52205

-- ---- the refusals, in order

-- "n is above 256 or m above 512"
abbrev pub too_large : Table → Bool
too_large t = ltb most_written t.states || ltb most_written_edges t.edges

-- "rows 1 to 7 with their places; 42 at 0 if n is above 256 or m above 512; 11 at 0 if the output is shorter than the text"
abbrev pub write_refusal : Table → Acceptance → List ℕ → ℕ → Result Unit Refusal
write_refusal t c needs room = text_refusal (refusal t c needs) (too_large t) 42 (hoa_text t c needs) room

-- ---- what comes back

-- the answer r, and out' where the output was out: the text's length and "zeros behind the text", or the refusal and the output as it was
abbrev pub Writes : Table → Acceptance → List ℕ → List ℕ → List ℕ → Result ℕ Refusal → Type 0
Writes t c needs out out' r = Gives (hoa_text t c needs) (write_refusal t c needs (length out)) out out' r
