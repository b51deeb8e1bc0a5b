-- `hint::pass_hints` meets its contract: each turn passes over one token (`hint_goes`), and the first that does not belong does what it does where
-- an item may begin (`hints_end`). The measure is what is left of the text. Assumes nothing.
use mathlib.Core.Path.{◌∙◌, sym}
use Rattle.hoa_value.proofs.Passing.{hint_goes, hint_less, hints_end, none_so_far}
use Rattle.hoa_value.proofs.hint.pass_hints.Goals as goal

pub loop-spot-init : goal.loop-spot-init
loop-spot-init c = none_so_far _ _ _ _ c.requires

pub returns-then-not-is_hint : goal.returns-then-not-is_hint
returns-then-not-is_hint c =
    hints_end _ _ _ _ _ _ c.loop-spot.invariant c.look-spot.ensures (sym c.is_hint.ensures ∙ c.if-not-is_hint.true)

pub loop-spot-smaller : goal.loop-spot-smaller
loop-spot-smaller c =
    hint_less _ _ _ _ _ _ c.loop-spot.invariant c.look-spot.ensures (sym c.is_hint.ensures ∙ c.if-not-is_hint.false)

pub loop-spot-preserved : goal.loop-spot-preserved
loop-spot-preserved c =
    hint_goes _ _ _ _ _ _ c.loop-spot.invariant c.look-spot.ensures (sym c.is_hint.ensures ∙ c.if-not-is_hint.false)
