-- Between the functions: what the writing of a table that was not refused goes by, and what it leaves. Assumes nothing.
use Rattle.std.specs.Prelude.{◌≡◌, List, ◌++◌, ℕ, ◌-◌, ◌*◌, ◌≤◌, length, replicate}
use Rattle.table.specs.Table.{Table, lent}
use Rattle.table.specs.Refusal.{most_edges, Proper}
use Rattle.climbing.specs.Source.{source}
use Rattle.climbing.specs.inner.{Ladder}
use Rattle.lifting.specs.inner.{Room}

pub record Ready (n k K edges : ℕ) (from to marks leaves arrives bears : List ℕ) : Type 0 where
  pub ladder : Ladder n k K
  pub proper : Proper (lent n 0 from to marks)
  pub count : edges ≡ (source (lent n 0 from to marks) k).edges * K
  pub few_edges : edges ≤ most_edges
  pub room : Room 0 edges leaves arrives bears

-- the lists of the table that was made, then zeros
pub record Filled (made : Table) (leaves arrives bears leaves' arrives' bears' : List ℕ) : Type 0 where
  pub from_filled : leaves' ≡ made.from ++ replicate (length leaves - length made.from) 0
  pub to_filled : arrives' ≡ made.to ++ replicate (length arrives - length made.to) 0
  pub marks_filled : bears' ≡ made.marks ++ replicate (length bears - length made.marks) 0
