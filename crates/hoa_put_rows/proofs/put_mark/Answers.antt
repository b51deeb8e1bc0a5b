-- `body::put_mark` meets its contract: nothing for a mark that the set has not, and a blank before each but the lowest (`Sigs`). Assumes nothing.
use mathlib.Core.Path.{◌≡◌, sym, ap, ◌∙◌}
use mathlib.Core.Bool.{true≢false}
use Prim.Native.Nat.{ℕ, ◌%◌, ◌^◌}
use lib.Pow.{pow_pos}
use Rattle.hoa_written.proofs.Sigs.{shifted, mark_absent, mark_lowest, mark_further}
use Rattle.puts.proofs.Few.{few_none, few_word, few_both}
use native.Mathlib.Omega.{arith}
use Rattle.hoa_put_rows.proofs.put_mark.Goals as goal

pub returns-then-not-has_mark : goal.returns-then-not-has_mark
returns-then-not-has_mark c =
    let at_test = c.has_mark in
    let a = c.args in
    rw (mark_absent a.set a.mark (λ h. true≢false (sym (at_test.ensures.1 h) ∙ c.if-not-has_mark.true))) (few_none _ _ _)

pub nonzero_rem-set : goal.nonzero_rem-set
nonzero_rem-set c =
    let e = shifted c.args.mark c.requires.mark_bound in
    omega (arith, e, pow_pos c.args.mark)

pub returns-then-set-mark-eq0 : goal.returns-then-set-mark-eq0
returns-then-set-mark-eq0 c =
    let a = c.args in
    let there = c.has_mark.ensures.0 c.if-not-has_mark.false in
    let lowest = ap (λ (x : ℕ). a.set % x) (sym (shifted a.mark c.requires.mark_bound)) ∙ c.if-set-mark-eq0.true in
    rw (mark_lowest a.set a.mark there lowest) (few_both 11 (few_none _ _ 0) c.put_number.ensures (omega arith))

pub returns : goal.returns
returns c =
    let a = c.args in
    let there = c.has_mark.ensures.0 c.if-not-has_mark.false in
    let further : a.set % 2 ^ a.mark ≡ 0 → ⊥ = λ z. c.if-set-mark-eq0.false (ap (λ (x : ℕ). a.set % x) (shifted a.mark c.requires.mark_bound) ∙ z) in
    rw (mark_further a.set a.mark there further) (few_both 11 (few_word 1 c.put-digits.ensures (omega arith)) c.put_number-2.ensures (omega arith))
