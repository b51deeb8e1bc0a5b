-- The kept edges by states in the lent tables, with zeros after them; or the tables as they were. Assumes nothing.
use Rattle.std.specs.Prelude.{Result, Ok, ◌≡◌, Bool, cond, List, ℕ, ◌≤◌, length}
use Rattle.job_text.specs.Value.{pad_to}
use Rattle.hoa_kept.specs.declared.held.RowsSoFar.{RowsSoFar}
use Rattle.hoa_kept.specs.inner.Copied.{first_of, end_of, total, states_of, parts_of}
use Rattle.hoa_rows.specs.declared.RowsRead.{RowsRead}
use Rattle.hoa_tokens.specs.declared.BadToken.{BadToken}
use Rattle.hoa_tokens.specs.Stream.{bad_at}
use Rattle.hoa_rows.specs.Lent.{fits}

-- the rows that are read, and where their edges stand
pub record Handing (s : RowsSoFar) : Type 0 where
  pub few : s.count ≤ 256
  pub room : s.kept ≤ 512
  pub many : total s.firsts s.ends s.count ≡ s.kept
  pub ordered : (q : ℕ) → first_of s.firsts q ≤ end_of s.ends q
  pub within : (q : ℕ) → end_of s.ends q ≤ 512
  pub targets : length s.tos ≡ 512
  pub unions : length s.sets ≡ 512

-- what comes back, by whether the lent tables are long enough; and a table's cells
abbrev pub handed : RowsSoFar → Bool → Result RowsRead BadToken
handed s long = cond long (Ok (record { states = s.count; edges = s.kept })) (bad_at 11 0)

abbrev pub cells_where : Bool → List ℕ → List ℕ → List ℕ
cells_where long before xs = cond long (pad_to (length before) xs) before

pub record Handed (s : RowsSoFar) (from to marks from' to' marks' : List ℕ) (r : Result RowsRead BadToken) : Type 0 where
  pub reading : r ≡ handed s (fits s.kept from to marks)
  pub froms : from' ≡ cells_where (fits s.kept from to marks) from (states_of s.firsts s.ends s.count)
  pub targets : to' ≡ cells_where (fits s.kept from to marks) to (parts_of s.firsts s.ends s.tos s.count)
  pub unions : marks' ≡ cells_where (fits s.kept from to marks) marks (parts_of s.firsts s.ends s.sets s.count)
