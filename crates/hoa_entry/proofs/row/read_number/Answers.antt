-- `row::read_number` meets its contract: the tests come in the order of the rule. Assumes nothing.
use mathlib.Core.Path.{sym, ◌∙◌}
use Rattle.hoa_entry.proofs.Reading.{number_refused, number_above, number_large, number_twice, number_new}
use Rattle.hoa_entry.proofs.row.read_number.Goals as goal

pub returns-then-not_below : goal.returns-then-not_below
returns-then-not_below c =
    let a = c.args in
    let i = c.read_int in
    number_above a.states a.text.now a.at a.firsts.now c.in-Ok.is i.ensures (sym c.not_below.ensures ∙ c.if-not_below.true)

pub returns-then-value-ge-MOST_STATES : goal.returns-then-value-ge-MOST_STATES
returns-then-value-ge-MOST_STATES c =
    let a = c.args in
    let i = c.read_int in
    number_large a.states a.text.now a.at a.firsts.now c.in-Ok.is i.ensures
    (sym c.not_below.ensures ∙ c.if-not_below.false) c.if-value-ge-MOST_STATES.true

pub returns-then-firsts-value-ne0 : goal.returns-then-firsts-value-ne0
returns-then-firsts-value-ne0 c =
    let a = c.args in
    let i = c.read_int in
    number_twice a.states a.text.now a.at a.firsts.now c.in-Ok.is i.ensures
    (sym c.not_below.ensures ∙ c.if-not_below.false) c.if-value-ge-MOST_STATES.false c.if-firsts-value-ne0.true

pub returns-in-Err : goal.returns-in-Err
returns-in-Err c =
    let a = c.args in
    let i = c.read_int in
    number_refused a.states a.text.now a.at a.firsts.now _ c.in-Err.is i.ensures c.number_fault.ensures

pub returns : goal.returns
returns c =
    let a = c.args in
    let i = c.read_int in
    number_new a.states a.text.now a.at a.firsts.now c.in-Ok.is i.ensures
    (sym c.not_below.ensures ∙ c.if-not_below.false) c.if-value-ge-MOST_STATES.false c.if-firsts-value-ne0.false
