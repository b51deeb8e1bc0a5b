-- `reader::read_entries` meets its contract: before each entry the rows so far are held, and the tokens left decide (`Standing`). Assumes nothing.
use native.Mathlib.Omega.{arith}
use Rattle.hoa_rows.proofs.Turning.{standing_none, turn_goes}
use Rattle.hoa_rows.proofs.reader.read_entries.Goals as goal

pub loop-next-init : goal.loop-next-init
loop-next-init c =
    let a = c.args in
    rw c.requires (standing_none a.limits a.text.now a.at)

pub loop-next-smaller : goal.loop-next-smaller
loop-next-smaller c =
    let a = c.args in
    let l = c.loop-next in
    let turn = c.read_entry in
    let f = turn_goes a.limits a.text.now a.at l.place l.rows l.invariant _ turn.result turn.ensures _ (rw c.in-Some.is at c.in_ok-next.was) in
    omega (arith, f.onward.behind, f.onward.within)

pub loop-next-preserved : goal.loop-next-preserved
loop-next-preserved c =
    let a = c.args in
    let l = c.loop-next in
    let turn = c.read_entry in
    (turn_goes a.limits a.text.now a.at l.place l.rows l.invariant _ turn.result turn.ensures _ (rw c.in-Some.is at c.in_ok-next.was)).standing
