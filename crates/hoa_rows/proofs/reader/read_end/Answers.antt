-- `reader::read_end` meets its contract: the text's end closes the rows, and any other token is a fault. Assumes nothing.
use Rattle.hoa_rows.proofs.Turning.{closes, closes_wrong}
use Rattle.hoa_rows.proofs.reader.read_end.Goals as goal

pub returns-in-None : goal.returns-in-None
returns-in-None c =
    let a = c.args in
    let f = c.token_at-found in
    closes a.text.now a.at f.result f.ensures _ (c.closing_fault.ensures a.text.now f.result.first f.result.next) c.in-None.is

pub returns-in-Some : goal.returns-in-Some
returns-in-Some c =
    let a = c.args in
    let f = c.token_at-found in
    closes_wrong a.text.now a.at f.result f.ensures _ (c.closing_fault.ensures a.text.now f.result.first f.result.next) _ c.in-Some.is
