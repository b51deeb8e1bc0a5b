-- `row::number_fault` meets its contract: `[` is a label, and every other token has the number that it had. Assumes nothing.
use Rattle.hoa_entry.proofs.Reading.{number_label, number_missing}
use Rattle.hoa_entry.proofs.row.number_fault.Goals as goal

pub returns-in-Edge : goal.returns-in-Edge
returns-in-Edge c =
    let a = c.args in
    let e = c.entry_at in
    number_label a.text.now a.at e.result e.ensures a.number c.in-Edge.is

pub returns-in_default : goal.returns-in_default
returns-in_default c =
    let a = c.args in
    let e = c.entry_at in
    number_missing a.text.now a.at e.result e.ensures a.number c.in_default.not-Edge
