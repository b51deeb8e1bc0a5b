-- `reader::read_edges` meets its contract: after i edge lines their edges stand in the tables, and the lines that are left decide (`SoFar`).
-- Assumes nothing.
use Rattle.job_text.proofs.Bodies.{SoFar}
use Rattle.job_text.proofs.reader.read_edges.Given as goal

abbrev pub invariant-loop-i : goal.invariant-loop-i
invariant-loop-i l = SoFar l.text l.initial.next l.edges l.from l.to l.marks l.next l.i
