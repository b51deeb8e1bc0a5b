-- `string::string` meets its contract: the string ends with its closing quote, or is open to the text's end. Assumes nothing.
use Prim.Native.Nat.{◌+◌}
use Rattle.hoa_tokens.proofs.Founds.{quote_within, string_closed, string_open}
use native.Mathlib.Omega.{arith}
use Rattle.hoa_tokens.proofs.string.string.Goals as goal

pub overflow_add-result : goal.overflow_add-result
overflow_add-result c =
    let a = c.args in
    omega (arith, quote_within a.text.now (a.at + 1) c.in-Some.i (rw c.in-Some.is at c.quote_from.ensures.is))

pub returns-in-Some : goal.returns-in-Some
returns-in-Some c =
    let a = c.args in
    string_closed a.text.now a.at c.in-Some.i (rw c.in-Some.is at c.quote_from.ensures.is)

pub returns-in-None : goal.returns-in-None
returns-in-None c =
    string_open c.args.text.now c.args.at c.requires (rw c.in-None.is at c.quote_from.ensures.is)
