-- `climb` meets its contract: the marks in a row from the level on are the ones at the end of the shifted word (`climb_ones`). Assumes nothing.
use Rattle.std.proofs.Common.{◌-◌, arith}
use native.Mathlib.Nat.{lt_of_le_of_lt}
use lib.Pow.{shr_le}
use Rattle.marks.specs.Mark.{width}
use Rattle.climbing.specs.Climb.{reached}
use Rattle.climbing.proofs.Climbs.{reached_top, climb_ones}
use Rattle.climbing.proofs.levels.climb.Goals as goal

pub returns-then-k-level : goal.returns-then-k-level
returns-then-k-level c = reached_top _ _ _ c.if-k-level.true

pub returns : goal.returns
unfolding reached
returns c =
    let a = c.args in
    let ones = climb_ones (a.k - a.level) width a.marks a.level (omega arith) (lt_of_le_of_lt (shr_le a.marks a.level) c.ranges.marks.fits) in
    omega (arith, ones)
