-- The lists of a table that is not refused, and the writer's limits. Assumes nothing.
use Rattle.std.specs.Prelude.{Ok}
use mathlib.Core.Path.{◌≡◌, ap, ◌∙◌}
use mathlib.Core.Bool.{Bool, true, false, ◌||◌}
use mathlib.Core.List.{List}
use Prim.Native.Nat.{ℕ, ◌≤◌, ◌<◌}
use lib.Dec.{ltb}
use lib.ListN.{length}
use borrow.Author.Tests.{lt-ltb, le-ltb}
use Rattle.table.specs.declared.Acceptance.{Acceptance}
use Rattle.table.specs.Table.{Table, lent}
use Rattle.table.specs.Refusal.{refusal, wrong_condition}
use Rattle.table.proofs.Sound.{sound_fit}
use Rattle.hoa_written.specs.Writing.{most_written, most_written_edges, too_large}
use Rattle.hoa_put_rows.specs.inner.{Passed}

-- ---- the lists of a table that is not refused

module _ (n start : ℕ) (from to marks : List ℕ) (c : Acceptance) (needs : List ℕ) (sound : refusal (lent n start from to marks) c needs ≡ Ok tt) where
  -- its lists are as the writer asks
  pub lists_passed : length from ≤ most_written_edges → Passed from to marks
  lists_passed l =
      let fit = (sound_fit n start from to marks c needs sound).proper in
      record { to_length = fit.to_length; marks_length = fit.marks_length; few = l; sorted = fit.sorted }

  -- its condition is one that row 4 lets pass
  pub permitted : wrong_condition c needs ≡ false
  permitted = (sound_fit n start from to marks c needs sound).condition

-- ---- limits

-- too many states
pub many_states : (t : Table) → most_written < t.states → too_large t ≡ true
many_states t l = ap (λ (b : Bool). b || ltb most_written_edges t.edges) (lt-ltb most_written t.states l)

-- too many edges
pub many_edges : (t : Table) → t.states ≤ most_written → most_written_edges < t.edges → too_large t ≡ true
many_edges t l h =
    ap (λ (b : Bool). b || ltb most_written_edges t.edges) (le-ltb most_written t.states l) ∙ lt-ltb most_written_edges t.edges h

-- neither
pub not_large : (t : Table) → t.states ≤ most_written → t.edges ≤ most_written_edges → too_large t ≡ false
not_large t l h =
    ap (λ (b : Bool). b || ltb most_written_edges t.edges) (le-ltb most_written t.states l) ∙ le-ltb most_written_edges t.edges h
