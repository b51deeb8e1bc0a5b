-- `edges::first_fault` meets its contract: each of its tests is one of the rows (`Faults`). Assumes nothing.
use mathlib.Core.Path.{◌∙◌}
use native.Mathlib.Omega.{arith}
use Rattle.table.proofs.Faults.{none_passed, all_passed, five_leaves, five_arrives, six, seven, one_passed, uncovered, covered}
use Rattle.table.proofs.edges.first_fault.Goals as goal
use Rattle.table.proofs.edges.first_fault.Goals.{then-n-leaves-via-then-n-leaves, then-n-leaves-via-else-n-leaves+then-n-to}

pub loop-e-init : goal.loop-e-init
loop-e-init c = none_passed _ _

pub returns-then-n-leaves : goal.returns-then-n-leaves
returns-then-n-leaves c =
    c.refused_at.ensures
    ∙ elim c.then-n-leaves.branch [
      | then-n-leaves-via-then-n-leaves w ↦ five_leaves _ _ _ _ c.loop-e.invariant (omega arith) w.if-n-leaves.true
      | then-n-leaves-via-else-n-leaves+then-n-to w ↦ five_arrives _ _ _ _ c.loop-e.invariant (omega arith) w.if-n-leaves.false w.if-n-to.true
    ]

pub returns-then-leaves-before : goal.returns-then-leaves-before
returns-then-leaves-before c =
    c.refused_at-then-leaves-before.ensures ∙ six _ _ _ _ c.loop-e.invariant (omega arith) (omega arith) (omega arith) (omega arith)

pub returns-then-not-covers : goal.returns-then-not-covers
returns-then-not-covers c =
    let word = c.type_inv.marks c.loop-e.e in
    let outside = uncovered _ _ (omega (arith, word)) (rw c.first_marks-allowed.ensures at c.covers.ensures) c.if-not-covers.true-raw in
    c.refused_at-then-not-covers.ensures ∙ seven _ _ _ _ c.loop-e.invariant (omega arith) (omega arith) (omega arith) (omega arith) outside

pub loop-e-preserved : goal.loop-e-preserved
loop-e-preserved c =
    let inside = covered _ _ (rw c.first_marks-allowed.ensures at c.covers.ensures) c.if-not-covers.false-raw in
    one_passed _ _ _ _ c.loop-e.invariant (omega arith) (omega arith) (omega arith) (omega arith) inside

pub returns : goal.returns
returns c = all_passed _ _ _ _ c.loop-e.invariant c.loop-e-test.false
