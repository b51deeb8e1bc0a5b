-- `edges::look_over` meets its contract: each turn takes one edge more into what the look shows (`shows_more`). Assumes nothing.
use native.Mathlib.Numerals.{add-one}
use native.Mathlib.Omega.{arith}
use Rattle.table.proofs.Looks.{shows_none, shows_more}
use Rattle.table.proofs.edges.look_over.Goals as goal

pub loop-e-init : goal.loop-e-init
loop-e-init c = record { falls = omega arith; astray = omega arith; shown = shows_none _ _ _ _ }

pub loop-e-preserved : goal.loop-e-preserved
loop-e-preserved c =
    let shows = shows_more _ _ _ _ c.loop-e.e _ _ _ _ _ _ c.loop-e.invariant.shown c.above-astray.ensures c.above-falls.ensures in
    record {
      falls = omega (arith, c.above-falls.ensures.most);
      astray = omega (arith, c.above-astray.ensures.most);
      shown = rw (c.join-union.ensures, add-one) shows;
    }
