-- `formula::put_more_rabin` meets its contract: each turn writes one pair more (`rabin_more`), whose forbidden mark is the number of marks dealt out
-- before it, and whose need stands behind the first pair's (`need_here`). Assumes nothing.
use Rattle.std.proofs.Common.{◌≡◌, ℕ, ◌+◌, ◌-◌, ◌<◌, List, length, get_or, take, drop, length-take, sym, ap, ◌∙◌, arith}
use Rattle.std.proofs.lemmas.List.Edits.{get_or-between}
use Rattle.hoa_tokens.specs.Bytes.{bytes}
use Rattle.table.specs.Condition.{need}
use Rattle.puts.proofs.Few.{joined_none}
use Rattle.hoa_written.proofs.Formulas.{dealt_one, dealt_next, dealt_within, rabin_more}
use Rattle.hoa_put_formula.proofs.put_more_rabin.Goals as goal

-- the needs behind the first one
need_here : (needs : List ℕ) (count i : ℕ) → i < length (take (count + 1 - 1) (drop 1 needs)) → get_or (take (count + 1 - 1) (drop 1 needs)) i 0 ≡ need needs (i + 1)
need_here needs count i l =
    let n : 1 + i ≡ i + 1 = omega arith in
    get_or-between needs 1 (count + 1) i 0 (omega (arith, length-take (count + 1 - 1) (drop 1 needs))) ∙ ap (λ (k : ℕ). need needs k) n

pub loop-need-init : goal.loop-need-init
loop-need-init c = (sym (dealt_one c.args.needs), joined_none _ _ _ _)

pub put_rabin_pair-next-requires-clause-need_bound : goal.put_rabin_pair-next-requires-clause-need_bound
put_rabin_pair-next-requires-clause-need_bound c =
    let a = c.args in
    let turn = c.loop-need in
    let few = length-take (a.count + 1 - 1) (drop 1 a.needs) in
    rw (need_here a.needs a.count turn.need-index c.loop-need-test.true)
    (dealt_within a.needs turn.need-index turn.forbidden (a.count + 1) 32 turn.invariant.0 (omega (arith, few, c.loop-need-test.true)) c.requires.count_bound_2)

pub overflow_add-forbidden-in-loop-need : goal.overflow_add-forbidden-in-loop-need
overflow_add-forbidden-in-loop-need c =
    let a = c.args in
    let turn = c.loop-need in
    let few = length-take (a.count + 1 - 1) (drop 1 a.needs) in
    rw (need_here a.needs a.count turn.need-index c.loop-need-test.true)
    (omega (arith, dealt_within a.needs turn.need-index turn.forbidden (a.count + 1) 32 turn.invariant.0 (omega (arith, few, c.loop-need-test.true)) c.requires.count_bound_2))

pub overflow_add-forbidden-in-loop-need-2 : goal.overflow_add-forbidden-in-loop-need-2
overflow_add-forbidden-in-loop-need-2 c =
    let a = c.args in
    let turn = c.loop-need in
    let few = length-take (a.count + 1 - 1) (drop 1 a.needs) in
    rw (need_here a.needs a.count turn.need-index c.loop-need-test.true)
    (omega (arith, dealt_within a.needs turn.need-index turn.forbidden (a.count + 1) 32 turn.invariant.0 (omega (arith, few, c.loop-need-test.true)) c.requires.count_bound_2))

pub loop-need-preserved : goal.loop-need-preserved
unfolding bytes
loop-need-preserved c =
    let needs = c.args.needs in
    let turn = c.loop-need in
    let i = turn.need-index in
    let here = need_here needs c.args.count i c.loop-need-test.true in
    let forbidden = ap (λ (d : ℕ). d + (1 + need needs (i + 1))) turn.invariant.0 ∙ sym (dealt_next needs i) in
    rw here (forbidden, rabin_more needs i turn.forbidden turn.invariant.0 turn.invariant.1 (rw here at c.put_rabin_pair-next.ensures))
