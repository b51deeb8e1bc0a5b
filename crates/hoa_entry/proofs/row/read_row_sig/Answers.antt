-- `row::read_row_sig` meets its contract: `{` opens a sig, and any other token does there what it does behind a row. Assumes nothing.
use Rattle.hoa_entry.proofs.Reading.{row_sig_goes, row_sig_stays}
use Rattle.hoa_entry.proofs.row.read_row_sig.Goals as goal

pub returns-in-Sig : goal.returns-in-Sig
returns-in-Sig c =
    let a = c.args in
    let e = c.entry_at-here in
    row_sig_goes a.text.now a.at e.result e.ensures a.c c.read_sig.result c.in-Sig.is c.read_sig.ensures

pub returns-in_default : goal.returns-in_default
returns-in_default c =
    let a = c.args in
    let e = c.entry_at-here in
    row_sig_stays a.text.now a.at e.result e.ensures a.c c.in_default.not-Sig
