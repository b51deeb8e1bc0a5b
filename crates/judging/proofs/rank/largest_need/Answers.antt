-- `rank::largest_need` meets its contract: each need is taken from those to come (`largest_more`), until none is left (`largest_done`). Assumes nothing.
use mathlib.Core.Path.{sym, ap, ◌∙◌}
use Prim.Native.Nat.{ℕ, ◌+◌, max}
use native.Mathlib.Omega.{arith}
use lib.ListN.{drop}
use Rattle.hunting.specs.Rank.{largest}
use Rattle.judging.proofs.rank.Largest.{largest_more, largest_done}
use Rattle.judging.proofs.rank.largest_need.Goals as goal

pub loop-need-init : goal.loop-need-init
loop-need-init c = omega arith

pub loop-need-preserved : goal.loop-need-preserved
loop-need-preserved c =
    let more = largest_more c.args.needs c.loop-need.need-index c.loop-need.most (omega arith) c.loop-need.invariant in
    more ∙ ap (λ (k : ℕ). max k (largest (drop (c.loop-need.need-index + 1) c.args.needs))) (sym c.larger-most.ensures)

pub returns : goal.returns
returns c = largest_done c.args.needs c.loop-need.need-index c.loop-need.most (omega arith) c.loop-need.invariant
