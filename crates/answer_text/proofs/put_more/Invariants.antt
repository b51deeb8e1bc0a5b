-- After i turns the first i edges are written, each with its comma, in at most eleven bytes each. Assumes nothing.
use Rattle.std.proofs.Common.{◌+◌, ◌*◌, ◌≤◌, take}
use Rattle.answer_text.specs.Printed.{further_text}
use Rattle.puts.specs.Put.{Put}
use Rattle.answer_text.proofs.put_more.Given as goal

abbrev pub invariant-loop-cell : goal.invariant-loop-cell
invariant-loop-cell l = record {
  written : Put l.initial.out l.out l.at (further_text (take l.cell-index l.cells)) l.next;
  few : l.next ≤ l.at + 11 * l.cell-index;
}
