-- Any two results that the contract of `write_job` allows for one input are equal, and so is what the output holds then. The theorem is about the contract
-- itself, as src/ writes it: `Post` is what the check makes of the function's `ensures`. Assumes nothing.
use Rattle.table.specs.declared.Refusal.{Refusal}
use Rattle.std.specs.Prelude.{Result}
use mathlib.Core.Path.{◌≡◌}
use mathlib.Core.List.{List}
use Prim.Native.Nat.{ℕ}
use Rattle.marks.proofs.Unique.{OneResult}
use Rattle.table.specs.Table.{Table}
use Rattle.writing.proofs.Writings.{given_once}
use Rattle.job_writer.specs.Writing.{Writes}
use Rattle.job_writer.proofs.write_job.Reads as write_job

-- one answer
pub written_once : OneResult write_job.Post
written_once κ a r s e f p q = (given_once p q).0

-- a table and an output give one content of the output
pub output_once : (t : Table) (out o o' : List ℕ) (r s : Result ℕ Refusal) → Writes t out o r → Writes t out o' s → o ≡ o'
output_once t out o o' r s p q = (given_once p q).1
