-- `row::skip_name` meets its contract: a name leads on, and any other token does there what it does behind a name. Assumes nothing.
use Rattle.hoa_entry.proofs.Reading.{name_goes, name_stays}
use Rattle.hoa_entry.proofs.row.skip_name.Goals as goal

pub returns-in-Text : goal.returns-in-Text
returns-in-Text c =
    let a = c.args in
    let e = c.entry_at-here in
    name_goes a.text.now a.at e.result e.ensures c.in-Text.is

pub returns-in_default : goal.returns-in_default
returns-in_default c =
    let a = c.args in
    let e = c.entry_at-here in
    name_stays a.text.now a.at e.result e.ensures c.in_default.not-Text
