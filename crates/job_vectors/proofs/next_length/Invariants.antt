-- `next_length` is safe: the number stays below ten million. Assumes nothing.
use Rattle.std.proofs.Common.{◌<◌}
use Rattle.job_vectors.proofs.next_length.Given as goal

abbrev pub invariant-loop : goal.invariant-loop
invariant-loop g l = l.length < 10000000
