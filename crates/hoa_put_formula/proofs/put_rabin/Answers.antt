-- `formula::put_rabin` meets its contract: `f` for none, else the first pair and the others (`rabin_some`). Assumes nothing.
use mathlib.Core.Path.{◌≡◌}
use Prim.Native.Nat.{◌+◌, ◌-◌, ◌≤◌}
use Rattle.hoa_tokens.specs.Bytes.{bytes}
use Rattle.table.specs.Condition.{need}
use Rattle.puts.proofs.Few.{few_word, few_both}
use Rattle.hoa_written.proofs.Formulas.{dealt_one, dealt_up, rabin_none, rabin_some}
use native.Mathlib.Omega.{arith}
use Rattle.hoa_put_formula.proofs.put_rabin.Goals as goal

pub returns-then-p-eq0 : goal.returns-then-p-eq0
unfolding bytes
returns-then-p-eq0 c =
    rw (rabin_none c.args.needs c.args.p c.if-p-eq0.true) (few_word 1300 c.put.ensures (omega arith))

pub put_rabin_pair-next-requires : goal.put_rabin_pair-next-requires
put_rabin_pair-next-requires c =
    let a = c.args in
    let first : 0 + (1 + need a.needs 0) ≤ 32 = omega (arith, c.requires.p_bound_2, dealt_one a.needs, dealt_up a.needs (0 + 1) a.p (omega arith)) in
    record { at_bound = omega (arith, c.requires.at_bound); key_len_bound = omega arith; need_bound = first }

pub put_more_rabin-requires : goal.put_more_rabin-requires
put_more_rabin-requires c =
    let a = c.args in
    let first : 0 + (1 + need a.needs 0) ≤ 32 = omega (arith, c.requires.p_bound_2, dealt_one a.needs, dealt_up a.needs (0 + 1) a.p (omega arith)) in
    let all : a.p - 1 + 1 ≡ a.p = omega arith in
    record { at_bound = omega (arith, c.requires.at_bound, c.put_rabin_pair-next.ensures.few); count_bound = omega (arith, c.requires.p_bound); count_bound_2 = rw all c.requires.p_bound_2 }

pub returns : goal.returns
unfolding bytes
returns c =
    let a = c.args in
    let first : 0 + (1 + need a.needs 0) ≤ 32 = omega (arith, c.requires.p_bound_2, dealt_one a.needs, dealt_up a.needs (0 + 1) a.p (omega arith)) in
    rw (rabin_some a.needs a.p c.if-p-eq0.false) (few_both 1300 c.put_rabin_pair-next.ensures c.put_more_rabin.ensures (omega arith))
