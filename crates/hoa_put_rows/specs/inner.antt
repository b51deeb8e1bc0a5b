-- What private contracts go by: lists that have passed, and the lines of one state. Assumes nothing.
use Rattle.std.specs.Prelude.{◌≡◌, List, ◌++◌, ℕ, suc, ◌≤◌, ◌<◌, length, get_or}
use Rattle.hoa_tokens.specs.Bytes.{bytes}
use Rattle.puts.specs.Put.{decimal, joined}
use Rattle.hoa_written.specs.Written.{line, edge_text}
use Rattle.hoa_written.specs.Writing.{most_written_edges}

-- rows 1 to 7 and the limits have passed the edge lists: they are of equal length, not too long, and sorted
pub record Passed (from to marks : List ℕ) : Type 0 where
  pub to_length : length to ≡ length from
  pub marks_length : length marks ≡ length from
  pub few : length from ≤ most_written_edges
  pub sorted : (e : ℕ) → suc e < length from → get_or from e 0 ≤ get_or from (suc e) 0

-- the lines of a row's edges, handed on as a part of the tables
abbrev pub edges_text : List ℕ → List ℕ → List ℕ
edges_text to marks = joined (λ i. edge_text (get_or to i 0) (get_or marks i 0)) (length to)

-- a state's line and those of its edges
abbrev pub state_text : ℕ → List ℕ → List ℕ → List ℕ
state_text s to marks = line (bytes "State: " ++ decimal s) ++ edges_text to marks
