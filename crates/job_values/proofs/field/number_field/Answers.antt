-- `field::number_field` meets its contract: the run is a number and the byte behind it ends it, or that byte is the first that cannot go on. Assumes nothing.
use mathlib.Core.Path.{◌≡◌}
use mathlib.Core.Logic.{⊎_elim}
use Prim.Native.Nat.{suc, ◌+◌}
use Rattle.job_values.proofs.Fields.{number_empty, number_cut, number_got}
use native.Mathlib.Omega.{arith}
use Rattle.job_values.proofs.field.number_field.Goals as goal
use Rattle.job_values.proofs.field.number_field.Goals.{then-run-at-via-then-run-at, then-run-at-via-else-run-at+then-text-run}

pub returns-then-run-at : goal.returns-then-run-at
returns-then-run-at c =
    let a = c.args in
    let p = c.requires in
    let r = c.number_run-run in
    let empty = number_empty a.stop p.stop_value a.text.now a.at a.end r.result.next p.within r.ensures.ordered r.ensures.ends r.ensures.stops in
    let cut = number_cut a.stop p.stop_value a.text.now a.at a.end r.result.next p.within r.ensures.ordered r.ensures.ends r.ensures.stops r.result.value in
    record {
      ordered = r.ensures.ordered;
      ends = r.ensures.ends;
      stuck =
          elim c.then-run-at.branch [
            | then-run-at-via-then-run-at w ↦ empty w.if-run-at.true
            | then-run-at-via-else-run-at+then-text-run w ↦ ⊎_elim empty (λ n. cut n w.if-text-run.true) r.ensures.run
          ];
    }

pub returns : goal.returns
returns c =
    let a = c.args in
    let p = c.requires in
    let r = c.number_run-run in
    let n : r.result.next + 1 ≡ suc r.result.next = omega arith in
    rw n
    (number_got a.stop p.stop_value a.text.now a.at a.end r.result.next p.within r.ensures.ordered r.ensures.ends r.result.value
    (⊎_elim (λ e. absurd (c.if-run-at.false e)) (λ e. e) r.ensures.run) c.if-text-run.false)
