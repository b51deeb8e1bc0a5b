-- `lift_level` meets its contract: each turn writes the three cells of one edge more (`wrote_cell`). Assumes nothing.
use native.Mathlib.Omega.{arith}
use lib.ListN.{get_or}
use Rattle.climbing.proofs.Climbs.{landing_below}
use Rattle.lifting.proofs.Wrote.{wrote_cell}
use Rattle.lifting.proofs.lift_level.Goals as goal

-- the edge arrives at a state, and at a level
pub number_of-arriving-requires : goal.number_of-arriving-requires
number_of-arriving-requires c =
    let i = c.loop-i.i in record {
      ladder = c.requires.ladder;
      state_lt_states = (
        c.requires.row_asked.ends i c.loop-i-test.true,
        omega (arith, c.land-landing.ensures.0, landing_below c.args.shape.k (get_or c.args.marks.now i 0) c.args.rung.level),
      );
    }

pub loop-i-preserved : goal.loop-i-preserved
loop-i-preserved c =
    let loop = c.loop-i in
    let leaving = c.number_of-leaving.ensures in
    let arriving = rw c.land-landing.ensures.0 at c.number_of-arriving.ensures in
    wrote_cell _ _ _ _ loop.i loop.invariant leaving arriving c.land-landing.ensures.1
