-- `name::named` meets its contract: the byte behind the run decides between a header and a word. Assumes nothing.
use mathlib.Core.Path.{sym, ◌∙◌}
use Prim.Native.Nat.{◌+◌}
use Rattle.hoa_tokens.specs.Bytes.{is_name}
use Rattle.hoa_tokens.proofs.Runs.{run_from}
use Rattle.hoa_tokens.proofs.Founds.{header_found, word_found, colon_in}
use native.Mathlib.Omega.{arith}
use Rattle.hoa_tokens.proofs.name.named.Goals as goal

pub overflow_add-next : goal.overflow_add-next
overflow_add-next c = let r = run_from is_name c.args.text.now c.args.at c.name_size.result c.requires c.name_size.ensures in omega (arith, r.high c.requires)

pub slice_bounds-name-end : goal.slice_bounds-name-end
slice_bounds-name-end c = let r = run_from is_name c.args.text.now c.args.at c.name_size.result c.requires c.name_size.ensures in omega (arith, r.high c.requires)

pub overflow_add-result : goal.overflow_add-result
overflow_add-result c =
    let text = c.args.text.now in
    omega (arith, colon_in text (c.args.at + c.name_size.result) (sym c.has_colon.ensures ∙ c.if-has_colon.true))

pub returns-then-has_colon : goal.returns-then-has_colon
returns-then-has_colon c =
    let a = c.args in
    let r = run_from is_name a.text.now a.at c.name_size.result c.requires c.name_size.ensures in
    header_found a.text.now a.at (a.at + c.name_size.result) c.header_of.result r (sym c.has_colon.ensures ∙ c.if-has_colon.true) c.header_of.ensures

pub returns-else-has_colon : goal.returns-else-has_colon
returns-else-has_colon c =
    let a = c.args in
    let r = run_from is_name a.text.now a.at c.name_size.result c.requires c.name_size.ensures in
    word_found a.text.now a.at (a.at + c.name_size.result) c.word_of.result r (sym c.has_colon.ensures ∙ c.if-has_colon.false) c.word_of.ensures
