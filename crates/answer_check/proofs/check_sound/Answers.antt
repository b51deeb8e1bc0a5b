-- `check_sound` meets its contract: the form decides, and a run is walked and judged. Assumes nothing.
use Rattle.std.proofs.Common.{◌≡◌, subst, rules, Some}
use Rattle.answer_form.specs.declared.Form.TheVariants as form
use Rattle.answer_form.specs.Given.{FormOf}
use Rattle.answer_check.proofs.Telling.{told_malformed, told_no_run, told_run, named}
use Rattle.answer_check.proofs.check_sound.Goals as goal

pub returns-in-None : goal.returns-in-None
returns-in-None c =
    let a = c.args in
    λ t L s. told_malformed t a.condition a.needs a.answer.now c.is_rabin.result c.read_answer.result c.read_answer.ensures c.is_rabin.ensures c.in-None.is

pub returns-in-Some-NoRun : goal.returns-in-Some-NoRun
returns-in-Some-NoRun c =
    let a = c.args in
    λ t L s. told_no_run t a.condition a.needs a.answer.now c.is_rabin.result c.read_answer.result c.read_answer.ensures c.is_rabin.ensures (search rules)

pub returns-in-Some-Run : goal.returns-in-Some-Run
returns-in-Some-Run c =
    let a = c.args in
    let w = c.in-Some-Run in
    let is : c.read_answer.result ≡ Some (form.Run w.pair w.prefix w.middle w.cycle w.last) = search rules in
    let R = subst (FormOf c.is_rabin.result a.answer.now) is c.read_answer.ensures in
    λ t L s.
    let g = named t c.is_rabin.result a.answer.now _ _ _ _ _ R in
    told_run t a.condition a.needs a.answer.now c.is_rabin.result _ _ _ _ _ R c.is_rabin.ensures c.conclude.result
    (c.conclude.ensures g (c.check_lasso-turned.ensures g L s R.prefix_listed R.cycle_listed))
