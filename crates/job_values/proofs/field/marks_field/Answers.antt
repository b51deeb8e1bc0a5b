-- `field::marks_field` meets its contract: see its invariant. Assumes nothing.
use mathlib.Core.Path.{◌≡◌, sym, ap, ◌∙◌}
use mathlib.Core.Option.{some}
use lib.ListN.{get_or}
use Rattle.std.specs.Prelude.{Some, None}
use Rattle.digits.specs.Digit.{hex_digit}
use Rattle.digits.specs.Given.{digit_given}
use Prim.Native.Nat.{◌+◌, ◌*◌, ◌<◌}
use native.Mathlib.Omega.{arith}
use Rattle.std.proofs.lemmas.Result.{err_from_is_err_and}
use Rattle.job_values.proofs.Marks.{spells_none, spells_more, marks_fit, marks_cut, marks_long, marks_got}
use Rattle.job_values.proofs.field.marks_field.Goals as goal

pub loop-i-init : goal.loop-i-init
loop-i-init c = spells_none c.args.text.now c.args.at c.args.end c.requires

pub returns-in_err-d : goal.returns-in_err-d
returns-in_err-d c =
    let a = c.args in
    let l = c.loop-i in
    let none_there : c.hex_value.result ≡ None = grind arith in
    let e = err_from_is_err_and c.from_residual.result c.from_residual.ensures.1 in
    let place : e.0 ≡ l.i = grind arith in
    rw (e.1, place) (marks_cut a.text.now a.at a.end c.requires l.value l.i l.invariant (sym c.hex_value.ensures ∙ ap digit_given none_there) c.loop-i-test.true)

-- the byte that is read is a digit
reads : (c : goal.In_ok-d) → hex_digit (get_or c.args.text.now c.loop-i.i 0) ≡ some c.in_ok-d.d
reads c =
    let there : c.hex_value.result ≡ Some c.in_ok-d.d = grind arith in
    sym c.hex_value.ensures ∙ ap digit_given there

fits : (c : goal.In_ok-d) → c.loop-i.value * 16 + c.in_ok-d.d < 4294967296
fits c =
    let a = c.args in
    let l = c.loop-i in
    marks_fit a.text.now a.at a.end c.requires l.value l.i l.invariant c.in_ok-d.d (reads c) c.loop-i-test.true

pub overflow_mul-value : goal.overflow_mul-value
overflow_mul-value c = omega (arith, fits c)

pub overflow_add-value : goal.overflow_add-value
overflow_add-value c = omega (arith, fits c)

pub loop-i-preserved : goal.loop-i-preserved
loop-i-preserved c =
    let a = c.args in
    let l = c.loop-i in
    spells_more a.text.now a.at a.end c.requires l.value l.i l.invariant c.in_ok-d.d (reads c) c.loop-i-test.true

pub returns-then-last-end : goal.returns-then-last-end
returns-then-last-end c =
    let a = c.args in
    let l = c.loop-i in
    let q : l.i ≡ a.at + 8 = omega arith in
    rw (← q) (marks_long a.text.now a.at a.end c.requires l.value l.i l.invariant q (omega arith))

pub returns : goal.returns
returns c =
    let a = c.args in
    let l = c.loop-i in
    let q : l.i ≡ a.at + 8 = omega arith in
    rw (← q) (marks_got a.text.now a.at a.end c.requires l.value l.i l.invariant q (omega arith))
