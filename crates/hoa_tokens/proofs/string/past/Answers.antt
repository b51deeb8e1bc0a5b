-- `string::past` meets its contract: a byte by itself, or `\` with the byte behind it, if there is one. Assumes nothing.
use Rattle.hoa_tokens.proofs.Strings.{quote_plain, quote_pair, quote_last}
use native.Mathlib.Omega.{arith}
use Rattle.hoa_tokens.proofs.string.past.Goals as goal

pub returns-then-text-at-ne92 : goal.returns-then-text-at-ne92
returns-then-text-at-ne92 c =
    let a = c.args in
    record { goes = omega arith; within = omega (arith, c.requires); same = quote_plain a.text.now a.at c.requires.within c.requires.other c.if-text-at-ne92.true }

pub returns-then-text-at-eq1 : goal.returns-then-text-at-eq1
returns-then-text-at-eq1 c =
    let a = c.args in
    let same = quote_last a.text.now a.at c.requires.within c.requires.other c.if-text-at-ne92.false (omega arith) in
    record { goes = omega arith; within = omega (arith, c.requires); same = same }

pub returns : goal.returns
returns c =
    let a = c.args in
    record { goes = omega arith; within = omega (arith, c.requires); same = quote_pair a.text.now a.at c.requires.within c.requires.other c.if-text-at-ne92.false }
