-- `rank::largest_need` meets its contract: the largest need is the larger of `most` and of the largest that is still to come. Assumes nothing.
use mathlib.Core.Path.{◌≡◌}
use Prim.Native.Nat.{max}
use lib.ListN.{drop}
use Rattle.hunting.specs.Rank.{largest}
use Rattle.judging.proofs.rank.largest_need.Given as goal

abbrev pub invariant-loop-need : goal.invariant-loop-need
invariant-loop-need l = largest l.fn.needs ≡ max l.most (largest (drop l.need-index l.fn.needs))
