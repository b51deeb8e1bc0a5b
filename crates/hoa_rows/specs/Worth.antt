-- What rows that are read to their end keep is a table's worth (docs/RULES.md, "The Hanoi format": what is read is never refused by rows 1 to 7). Assumes nothing.
use Rattle.std.specs.Prelude.{Option, Some, None, ◌≡◌, List, [], ◌∷◌, ℕ, ◌^◌, ◌≤◌, ◌<◌, length}
use Rattle.job_text.specs.Value.{Edge}
use Rattle.job_text.specs.Job.{most_job_states, most_job_edges}
use Rattle.hoa_entry.specs.declared.Limits.{Limits}
use Rattle.hoa_entry.specs.Rows.{Kept}

-- an edge of a table with n states and c marks
pub record Fits (n c : ℕ) (e : Edge) : Type 0 where
  pub leaves : e.from < n
  pub arrives : e.to < n
  pub bears : e.marks < 2 ^ c

abbrev pub AllFit : ℕ → ℕ → List Edge → Type 0
AllFit n c [] = Unit
AllFit n c (e ∷ es) = Fits n c e × AllFit n c es

-- n as it was given; or, where it was not, the start is one of the states
abbrev pub Agrees : Option ℕ → ℕ → ℕ → Type 0
Agrees (Some n) start states = states ≡ n
Agrees None start states = start < states

pub record Worth (l : Limits) (k : Kept) : Type 0 where
  pub few : k.states ≤ most_job_states
  pub agrees : Agrees l.states l.start k.states
  pub fitting : AllFit k.states l.marks k.edges
  pub room : length k.edges ≤ most_job_edges
