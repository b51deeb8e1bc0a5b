-- `number::number` meets its contract: the number is the whole run of digits (`number_found`). Assumes nothing.
use Prim.Native.Nat.{◌+◌}
use Rattle.hoa_tokens.specs.Bytes.{is_digit}
use Rattle.hoa_tokens.proofs.Runs.{run_from}
use Rattle.hoa_tokens.proofs.Founds.{number_found}
use native.Mathlib.Omega.{arith}
use Rattle.hoa_tokens.proofs.number.number.Goals as goal

pub overflow_add-next : goal.overflow_add-next
overflow_add-next c = let r = run_from is_digit c.args.text.now c.args.at c.digits_size.result c.requires c.digits_size.ensures in omega (arith, r.high c.requires)

pub slice_bounds-digits_kind-end : goal.slice_bounds-digits_kind-end
slice_bounds-digits_kind-end c = let r = run_from is_digit c.args.text.now c.args.at c.digits_size.result c.requires c.digits_size.ensures in omega (arith, r.high c.requires)

pub returns : goal.returns
returns c =
    let a = c.args in
    let r = run_from is_digit a.text.now a.at c.digits_size.result c.requires c.digits_size.ensures in
    number_found a.text.now a.at (a.at + c.digits_size.result) c.digits_kind.result r c.digits_kind.ensures
