-- `field::number_run` meets its contract: see its invariant. Assumes nothing.
use mathlib.Core.Path.{◌≡◌, sym, ap, subst, ◌∙◌}
use Prim.Native.Nat.{ℕ}
use lib.ListN.{get_or}
use native.Mathlib.Omega.{arith}
use Rattle.digits.specs.Digit.{digit}
use Rattle.digits.proofs.Digits.{digit_below}
use Rattle.job_values.specs.inner.Field.{RunAt}
use Rattle.job_values.proofs.Fields.{newline_there}
use Rattle.job_values.proofs.Runs.{zero_run, spells_none, spells_more, run_stops, run_full}
use Rattle.job_values.proofs.field.number_run.Goals as goal

pub returns-then-text-at-eq48 : goal.returns-then-text-at-eq48
returns-then-text-at-eq48 c = zero_run c.args.text.now c.args.at c.args.end c.requires c.if-text-at-eq48.true

pub loop-i-init : goal.loop-i-init
loop-i-init c = spells_none c.args.text.now c.args.at c.args.end c.requires

pub returns-in_default : goal.returns-in_default
returns-in_default c =
    let a = c.args in
    let l = c.loop-i in
    run_stops a.text.now a.at a.end c.requires l.value l.i l.invariant c.if-text-at-eq48.false (sym c.in_default.ensures)

pub overflow_mul-more : goal.overflow_mul-more
overflow_mul-more c = omega (arith, c.loop-i.invariant.small)

pub overflow_add-more : goal.overflow_add-more
overflow_add-more c = omega (arith, c.loop-i.invariant.small, digit_below _ _ (sym c.in-Some.ensures))

pub returns-then-more-gt-MOST_NUMBER : goal.returns-then-more-gt-MOST_NUMBER
returns-then-more-gt-MOST_NUMBER c =
    let a = c.args in
    let l = c.loop-i in
    run_full a.text.now a.at a.end c.requires l.value l.i l.invariant c.if-text-at-eq48.false c.in-Some.d (sym c.in-Some.ensures) c.if-more-gt-MOST_NUMBER.true

pub loop-i-preserved : goal.loop-i-preserved
loop-i-preserved c =
    let a = c.args in
    let l = c.loop-i in
    spells_more a.text.now a.at a.end c.requires l.value l.i l.invariant c.in-Some.d c.loop-i-test.true (sym c.in-Some.ensures) c.if-more-gt-MOST_NUMBER.false

pub returns : goal.returns
unfolding digit
returns c =
    let a = c.args in
    let l = c.loop-i in
    let e : l.i ≡ a.end = omega (arith, l.invariant.ends, c.loop-i-test.false) in
    subst (λ (n : ℕ). RunAt a.text.now a.at a.end (record { value = l.value; next = n })) e
    (run_stops a.text.now a.at a.end c.requires l.value l.i l.invariant c.if-text-at-eq48.false
    (ap (λ (n : ℕ). digit (get_or a.text.now n 0)) e ∙ rw (newline_there a.text.now a.at a.end c.requires)))
