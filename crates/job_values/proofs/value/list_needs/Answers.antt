-- `value::list_needs` meets its contract: see its invariant. Assumes nothing.
use Rattle.std.proofs.lemmas.Result.{err_from_is_err_and}
use Rattle.job_values.proofs.Edges.{comma_digit, newline_digit}
use Rattle.job_values.proofs.Needs.{so_far_none, field_lost, field_got, last_lost, last_got, eight_lost, eight_got}
use Prim.Native.Nat.{◌-◌}
use native.Mathlib.Omega.{arith}
use Rattle.job_values.proofs.value.list_needs.Goals as goal

pub loop-i-init : goal.loop-i-init
loop-i-init c =
    let a = c.args in
    so_far_none a.text.now a.at a.end (a.count - 1) c.requires.within

pub number_field-requires : goal.number_field-requires
number_field-requires c = record { within = c.loop-i.invariant.within; stop_value = comma_digit }

pub returns-in_err-need : goal.returns-in_err-need
returns-in_err-need c =
    let a = c.args in
    let l = c.loop-i in
    let p = c.requires in
    let e = err_from_is_err_and c.from_residual.result c.from_residual.ensures.1 in
    rw (e.1, e.2)
    (eight_lost a.text.now a.at a.end a.count p.count_nonzero.0 _
    (field_lost a.text.now a.at a.end (a.count - 1) l.needs l.next l.i p.within l.invariant c.loop-i-test.true _ c.in_err-need.ensures))

pub loop-i-preserved : goal.loop-i-preserved
loop-i-preserved c =
    let a = c.args in
    let l = c.loop-i in
    let p = c.requires in
    field_got a.text.now a.at a.end (a.count - 1) l.needs l.next l.i p.within l.invariant c.loop-i-test.true _ _ c.in_ok-need.ensures
    (omega (arith, p.count_nonzero.0, p.count_nonzero.1))

pub number_field-requires-2 : goal.number_field-requires-2
number_field-requires-2 c = record { within = c.loop-i.invariant.within; stop_value = newline_digit }

pub returns-in_err-need-2 : goal.returns-in_err-need-2
returns-in_err-need-2 c =
    let a = c.args in
    let l = c.loop-i in
    let p = c.requires in
    let r = c.from_residual-in_err-need-2 in
    let e = err_from_is_err_and r.result r.ensures.1 in
    rw (e.1, e.2)
    (eight_lost a.text.now a.at a.end a.count p.count_nonzero.0 _
    (last_lost a.text.now a.at a.end (a.count - 1) l.needs l.next l.i p.within l.invariant (omega arith) _ c.in_err-need-2.ensures))

pub returns : goal.returns
returns c =
    let a = c.args in
    let l = c.loop-i in
    let p = c.requires in
    eight_got a.text.now a.at a.end a.count p.count_nonzero.0 _
    (last_got a.text.now a.at a.end (a.count - 1) l.needs l.next l.i p.within l.invariant (omega arith) _ _ c.in_ok-need-2.ensures
    (omega (arith, p.count_nonzero.0, p.count_nonzero.1)))
