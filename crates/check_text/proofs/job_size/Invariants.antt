-- No line before `at` is the job's last; the measure is what is left of the input. Assumes nothing.
use mathlib.Core.Path.{◌≡◌}
use Prim.Native.Nat.{◌-◌, ◌≤◌}
use lib.ListN.{length, drop}
use Rattle.job_text.specs.Text.{lines}
use Rattle.check_text.specs.Split.{size_from, job_size}
use Rattle.check_text.proofs.job_size.Given as goal

abbrev pub invariant-loop-at : goal.invariant-loop-at
invariant-loop-at l = record {
  within : l.at ≤ length l.input;
  so_far : job_size l.input ≡ size_from (length l.input) l.at (lines (drop l.at l.input));
}

abbrev pub decreases-loop-at : goal.decreases-loop-at
decreases-loop-at l = length l.input - l.at
