-- `token::look` meets its contract: the token that is found, by its kind (`spotted`). Assumes nothing.
use mathlib.Core.Path.{refl}
use Rattle.hoa_value.proofs.Spots.{spotted}
use Rattle.hoa_value.proofs.token.look.Goals as goal

pub returns : goal.returns
returns c =
    let text = c.args.text.now in
    spotted text c.args.at c.token_at-found.result _ c.token_at-found.ensures c.piece_of.ensures refl refl
