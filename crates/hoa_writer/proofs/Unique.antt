-- Any two results that the contract of `write_hoa` allows for one input are equal, and so is what the output holds then. The theorem is about the contract
-- itself, as src/ writes it: `Post` is what the check makes of the function's `ensures`. Assumes nothing.
use Rattle.table.specs.declared.Refusal.{Refusal}
use Rattle.std.specs.Prelude.{Result}
use mathlib.Core.Path.{◌≡◌}
use mathlib.Core.List.{List}
use Prim.Native.Nat.{ℕ}
use Rattle.marks.proofs.Unique.{OneResult}
use Rattle.table.specs.declared.Acceptance.{Acceptance}
use Rattle.table.specs.Table.{Table}
use Rattle.writing.proofs.Writings.{given_once}
use Rattle.hoa_written.specs.Writing.{Writes}
use Rattle.hoa_writer.proofs.write_hoa.Reads as write_hoa

-- one answer
pub written_once : OneResult write_hoa.Post
written_once κ a r s e f p q = (given_once p q).0

-- a table, a condition and an output give one content of the output
pub output_once : (t : Table) (c : Acceptance) (needs out o o' : List ℕ) (r s : Result ℕ Refusal) → Writes t c needs out o r → Writes t c needs out o' s → o ≡ o'
output_once t c needs out o o' r s a b = (given_once a b).1
