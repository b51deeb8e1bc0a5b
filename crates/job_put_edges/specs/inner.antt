-- What private contracts go by: lists that rows 1 to 7 and the limits let pass. Assumes nothing.
use Rattle.std.specs.Prelude.{◌≡◌, List, ℕ, ◌≤◌, length}
use Rattle.job_text.specs.Job.{most_job_edges}

-- the edge lists are of equal length, and not too long
pub record Passed (from to marks : List ℕ) : Type 0 where
  pub to_length : length to ≡ length from
  pub marks_length : length marks ≡ length from
  pub few : length from ≤ most_job_edges
