-- `walk::walk_edges` meets its contract: after each turn one edge more is walked, and the fields that are left are the edges that are left (`Underway`).
-- Assumes nothing.
use Rattle.std.proofs.Common.{◌≡◌, ◌∙◌, ap, sym, subst, arith, rules, None, Some, Result, Err, ℕ}
use Rattle.job_values.specs.Given.{number_given}
use Rattle.answer_check.specs.declared.walk.Walked.{Walked}
use Rattle.answer_check.specs.inner.{GoSays, WalkSays}
use Rattle.answer_form.specs.Given.{steps}
use Rattle.job_text.specs.Text.{fields}
use Rattle.answer_check.proofs.Going.{set_out, never_wrong, breaks_here, goes_on, arrived}
use Rattle.answer_check.proofs.walk.walk_edges.Goals as goal

pub loop-at-init : goal.loop-at-init
loop-at-init c =
    let a = c.args in
    (set_out a.list.now a.begin a.from.now a.to.now a.marks.now, omega arith)

pub returns-in_err-edge : goal.returns-in_err-edge
returns-in_err-edge c =
    let a = c.args in
    let l = c.loop-at in
    let none : c.read_step.result ≡ None = search rules in
    never_wrong a.list.now a.begin a.from.now a.to.now a.marks.now l.at l.position l.place l.invariant.0 c.loop-at-test.true c.find-end.result c.find-end.ensures
    (sym c.read_step.ensures ∙ ap number_given none) c.from_residual.result

pub returns-in_err-place : goal.returns-in_err-place
returns-in_err-place c =
    let a = c.args in
    let l = c.loop-at in
    let edge : c.read_step.result ≡ Some c.in_ok-edge.edge = search rules in
    let none : c.go.result ≡ None = search rules in
    let broken : c.from_residual-in_err-place.result ≡ Err l.position = search rules in
    subst (λ (r : Result Walked ℕ). WalkSays (steps (fields a.list.now)) a.begin a.from.now a.to.now a.marks.now r) (sym broken)
    (breaks_here a.list.now a.begin a.from.now a.to.now a.marks.now l.at l.position l.place l.invariant.0 c.loop-at-test.true c.find-end.result c.find-end.ensures c.in_ok-edge.edge
    (sym c.read_step.ensures ∙ ap number_given edge)
    (subst (GoSays a.from.now a.to.now a.marks.now l.place c.in_ok-edge.edge) none c.go.ensures))

pub loop-at-preserved : goal.loop-at-preserved
loop-at-preserved c =
    let a = c.args in
    let l = c.loop-at in
    let edge : c.read_step.result ≡ Some c.in_ok-edge.edge = search rules in
    let next : c.go.result ≡ Some c.in_ok-place.place = search rules in (
      goes_on a.list.now a.begin a.from.now a.to.now a.marks.now l.at l.position l.place l.invariant.0 c.loop-at-test.true c.find-end.result c.find-end.ensures c.in_ok-edge.edge
          (sym c.read_step.ensures ∙ ap number_given edge) _
          (subst (GoSays a.from.now a.to.now a.marks.now l.place c.in_ok-edge.edge) next c.go.ensures),
      omega (arith, l.invariant.1, c.find-end.ensures.low),
    )

pub returns : goal.returns
returns c =
    let a = c.args in
    let l = c.loop-at in
    arrived a.list.now a.begin a.from.now a.to.now a.marks.now l.at l.position l.place l.invariant.0 c.loop-at-test.false
