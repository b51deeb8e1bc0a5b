-- `token::entry_at` meets its contract: what the token that is found is (`entry_here`). Assumes nothing.
use Rattle.hoa_entry.proofs.Steps.{entry_here}
use Rattle.hoa_entry.proofs.token.entry_at.Goals as goal

pub returns : goal.returns
returns c =
    let a = c.args in
    let f = c.token_at-found in
    entry_here a.text.now a.at f.result c.entry_of.result f.ensures (c.entry_of.ensures a.text.now f.result.first f.result.next)
