-- The marks that needs deal out. Assumes nothing.
use Rattle.std.proofs.Common.{◌≡◌, ap, List, ℕ, ◌+◌, add-one}
use Rattle.table.specs.Condition.{dealt, need}

pub dealt_more : (needs : List ℕ) (i : ℕ) → dealt needs (i + 1) ≡ dealt needs i + (1 + need needs i)
dealt_more needs i = ap (dealt needs) (add-one i)
