-- `edge::read_target` meets its contract: the tests come in the order of the rule. Assumes nothing.
use mathlib.Core.Path.{sym, ◌∙◌}
use Rattle.std.proofs.lemmas.Result.{err_from_is_err_and}
use Rattle.hoa_entry.proofs.Reading.{target_refused, target_above, target_large, target_there}
use Rattle.hoa_entry.proofs.edge.read_target.Goals as goal

pub returns-then-not_below : goal.returns-then-not_below
returns-then-not_below c =
    let a = c.args in
    let i = c.read_int in
    target_above a.states a.text.now a.at c.in_ok-value.was i.ensures (sym c.not_below.ensures ∙ c.if-not_below.true)

pub returns-then-value-ge-MOST_STATES : goal.returns-then-value-ge-MOST_STATES
returns-then-value-ge-MOST_STATES c =
    let a = c.args in
    let i = c.read_int in
    target_large a.states a.text.now a.at c.in_ok-value.was i.ensures (sym c.not_below.ensures ∙ c.if-not_below.false) c.if-value-ge-MOST_STATES.true

pub returns-in_err-value : goal.returns-in_err-value
returns-in_err-value c =
    let a = c.args in
    let p = err_from_is_err_and c.from_residual.result c.from_residual.ensures.1 in
    rw (p.1, p.2)
    (target_refused a.states a.text.now a.at c.in_err-value.was c.read_int.ensures)

pub returns : goal.returns
returns c =
    let a = c.args in
    let i = c.read_int in
    target_there a.states a.text.now a.at c.in_ok-value.was i.ensures (sym c.not_below.ensures ∙ c.if-not_below.false) c.if-value-ge-MOST_STATES.false
