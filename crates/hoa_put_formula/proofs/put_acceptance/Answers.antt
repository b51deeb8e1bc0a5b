-- `formula::put_acceptance` meets its contract: the number of marks, the formula and the newline byte, one after another. Assumes nothing.
use mathlib.Core.Path.{◌≡◌, sym, ap, ◌∙◌}
use mathlib.Core.Bool.{Bool, cond}
use Rattle.hoa_tokens.specs.Bytes.{bytes}
use Rattle.table.specs.Refusal.{used}
use Rattle.hoa_written.specs.Written.{acceptance_text}
use Rattle.puts.proofs.Few.{few_word, few_both}
use native.Mathlib.Omega.{arith}
use Rattle.hoa_put_formula.proofs.put_acceptance.Goals as goal

pub returns : goal.returns
unfolding acceptance_text bytes
returns c =
    let a = c.args in
    let marks : used a.condition a.needs ≡ c.marks_used.result =
    sym (c.marks_used.ensures ∙ ap (λ (w : Bool). cond w 0 (used a.condition a.needs)) c.requires.needs_value) in
    let said = few_both 1330 c.put_held-begin.ensures c.put_formula-end.ensures (omega arith) in
    rw marks (few_both 1400 said (few_word 1 c.put.ensures (omega arith)) (omega arith))
