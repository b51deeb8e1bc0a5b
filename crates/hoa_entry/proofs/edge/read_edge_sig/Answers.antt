-- `edge::read_edge_sig` meets its contract: `&` is refused, `{` opens a sig, and any other token does there what it does behind an edge. Assumes nothing.
use Rattle.hoa_entry.proofs.Reading.{more_joined, more_goes, more_stays}
use Rattle.hoa_entry.proofs.edge.read_edge_sig.Goals as goal

pub returns-in-Join : goal.returns-in-Join
returns-in-Join c =
    let a = c.args in
    let e = c.entry_at-here in
    more_joined a.text.now a.at e.result e.ensures a.c a.before c.in-Join.is

pub returns-in-Sig : goal.returns-in-Sig
returns-in-Sig c =
    let a = c.args in
    let e = c.entry_at-here in
    more_goes a.text.now a.at e.result e.ensures a.c a.before c.read_sig.result c.in-Sig.is c.read_sig.ensures

pub returns-in_default : goal.returns-in_default
returns-in_default c =
    let a = c.args in
    let e = c.entry_at-here in
    more_stays a.text.now a.at e.result e.ensures a.c a.before c.in_default.not-Sig c.in_default.not-Join
