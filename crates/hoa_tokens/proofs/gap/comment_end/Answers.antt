-- `gap::comment_end` meets its contract: the gap from `at` on is the gap from i on with `depth` comments open, and the comment ends where none is.
-- The measure is what is left of the text. Assumes nothing.
use mathlib.Core.Path.{◌≡◌, refl, ◌∙◌}
use Rattle.hoa_tokens.proofs.Gaps.{comment_lost}
use native.Mathlib.Omega.{arith}
use Rattle.hoa_tokens.proofs.gap.comment_end.Goals as goal

pub loop-depth-init : goal.loop-depth-init
loop-depth-init c = (omega arith, omega arith, refl)

pub returns-then-text-i : goal.returns-then-text-i
returns-then-text-i c =
    let l = c.loop-depth in
    record { is = l.invariant.2 ∙ comment_lost c.args.text.now l.i c.if-text-i.true l.depth c.loop-depth-test.true; low = tt }

pub inside-spot-requires : goal.inside-spot-requires
inside-spot-requires c = record { within = omega arith; some = omega arith; few = omega arith }

pub loop-depth-smaller : goal.loop-depth-smaller
loop-depth-smaller c = omega (arith, c.inside-spot.ensures.goes)

pub loop-depth-preserved : goal.loop-depth-preserved
loop-depth-preserved c =
    let l = c.loop-depth in
    (omega (arith, c.inside-spot.ensures.goes), c.inside-spot.ensures.few, l.invariant.2 ∙ c.inside-spot.ensures.same)

pub returns : goal.returns
returns c =
    let l = c.loop-depth in
    let z : l.depth ≡ 0 = omega arith in
    record { is = rw z at l.invariant.2; low = l.invariant.0 }
