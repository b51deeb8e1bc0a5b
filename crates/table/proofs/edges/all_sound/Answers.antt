-- `edges::all_sound` meets its contract: a look that shows no fall, no end above the last state and no mark outside shows a sound table (`shown_sound`).
-- Assumes nothing.
use native.Mathlib.Omega.{arith}
use Rattle.table.proofs.Looks.{shown_sound}
use Rattle.table.proofs.edges.all_sound.Goals as goal

pub returns-then-look-n : goal.returns-then-look-n
returns-then-look-n c h =
    let covered = rw c.first_marks.ensures at (c.covers.ensures.0 h) in
    let tests = c.if-look-n.true in
    shown_sound _ _ _ _ _ _ _ _ _ _ c.look_over-look.ensures tests.0 tests.1 (omega (arith, c.if-n-eq0.false)) tests.2 covered
