-- `string::quote_from` meets its contract: what is passed over leaves the closing quote where it is. The measure is what is left of the text. Assumes nothing.
use mathlib.Core.Path.{refl, ◌∙◌}
use Rattle.hoa_tokens.proofs.Strings.{quote_here, quote_out}
use native.Mathlib.Omega.{arith}
use Rattle.hoa_tokens.proofs.string.quote_from.Goals as goal

pub loop-i-init : goal.loop-i-init
loop-i-init c = refl

pub returns-then-text-i-eq34 : goal.returns-then-text-i-eq34
returns-then-text-i-eq34 c =
    record { is = c.loop-i.invariant ∙ quote_here c.args.text.now c.loop-i.i (omega arith) c.if-text-i-eq34.true }

pub past-i-requires : goal.past-i-requires
past-i-requires c = record { within = omega arith; other = c.if-text-i-eq34.false }

pub loop-i-smaller : goal.loop-i-smaller
loop-i-smaller c = omega (arith, c.past-i.ensures.goes)

pub loop-i-preserved : goal.loop-i-preserved
loop-i-preserved c = c.loop-i.invariant ∙ c.past-i.ensures.same

pub returns : goal.returns
returns c = record { is = c.loop-i.invariant ∙ quote_out c.args.text.now c.loop-i.i (omega arith) }
