-- `read_formula` meets its contract: each turn of the loop takes one token of the run (`reading_goes`), and where the reader stops the run
-- says the same (`reading_over`, `reading_wrong`). The measure is what is left of the text. Assumes nothing.
use Rattle.hoa_formula.proofs.Readings.{reading_begins, reading_goes, reading_wrong, reading_over, goes_moves, left_room}
use mathlib.Core.Path.{sym, ◌∙◌}
use native.Mathlib.Omega.{arith}
use Rattle.hoa_formula.proofs.read_formula.Goals as goal

pub loop-f-init : goal.loop-f-init
loop-f-init c = reading_begins c.args.text.now c.args.at c.args.c

pub step-requires : goal.step-requires
step-requires c =
    let l = c.loop-f in
    (l.invariant.within, λ e. left_room _ _ _ _ _ _ l.invariant _ c.token_at-token.ensures (omega arith) (sym c.piece_of-p.ensures ∙ e))

pub loop-f-smaller : goal.loop-f-smaller
loop-f-smaller c =
    let l = c.loop-f in
    let m = goes_moves _ _ _ l.formula l.needs _ l.invariant _ c.token_at-token.ensures _ (rw c.piece_of-p.ensures at (sym c.in-Go.ensures)) in
    omega (arith, m.behind_at, m.takes, m.within)

pub loop-f-preserved : goal.loop-f-preserved
loop-f-preserved c =
    let l = c.loop-f in
    rw (c.counted-needs.ensures, c.piece_of-p.ensures)
    (reading_goes _ _ _ l.formula l.needs _ l.invariant _ c.token_at-token.ensures _ (rw c.piece_of-p.ensures at (sym c.in-Go.ensures)))

pub returns-in-Over : goal.returns-in-Over
returns-in-Over c =
    let l = c.loop-f in
    rw c.over.ensures (reading_over _ _ _ l.formula l.needs _ l.invariant _ c.token_at-token.ensures (rw c.piece_of-p.ensures at (sym c.in-Over.ensures)))

pub returns-in-Wrong : goal.returns-in-Wrong
returns-in-Wrong c =
    let l = c.loop-f in
    reading_wrong _ _ _ l.formula l.needs _ l.invariant _ c.token_at-token.ensures _ (rw c.piece_of-p.ensures at (sym c.in-Wrong.ensures))
