-- `item::read_item` meets its contract: the header of an item and what stands behind it (`item_turned`), `--BODY--` (`body_turned`), or a token that is
-- refused (`piece_wrong`). Assumes nothing.
use mathlib.Core.Path.{ap}
use Rattle.std.proofs.lemmas.Result.{err_from_is_err_and}
use Rattle.std.specs.Prelude.{Ok, Err}
use Rattle.hoa_value.specs.Heading.{on_piece}
use Rattle.hoa_head.proofs.Items.{no_item, body_turned, item_turned, piece_wrong}
use Rattle.hoa_head.proofs.item.read_item.Goals as goal

pub returns-in_err-open_item-in-Item : goal.returns-in_err-open_item-in-Item
returns-in_err-open_item-in-Item c =
    let p = err_from_is_err_and c.from_residual.result c.from_residual.ensures.1 in
    rw (p.1, p.2) (item_turned _ _ _ _ c.look-piece.ensures _ (Err _) c.in-Item.is c.in_err-open_item-in-Item.ensures)

pub returns-in_ok-open_item-in-Item : goal.returns-in_ok-open_item-in-Item
returns-in_ok-open_item-in-Item c = item_turned _ _ _ _ c.look-piece.ensures _ (Ok _) c.in-Item.is c.in_ok-open_item-in-Item.ensures

pub returns-in_err-end_head-in-Body : goal.returns-in_err-end_head-in-Body
returns-in_err-end_head-in-Body c =
    let p = err_from_is_err_and c.from_residual-in_err-end_head-in-Body.result c.from_residual-in_err-end_head-in-Body.ensures.1 in
    rw (p.1, p.2) (body_turned _ _ _ _ c.look-piece.ensures (Err _) c.in-Body.is c.in_err-end_head-in-Body.ensures)

pub returns-in_ok-end_head-in-Body : goal.returns-in_ok-end_head-in-Body
returns-in_ok-end_head-in-Body c = body_turned _ _ _ _ c.look-piece.ensures (Ok _) c.in-Body.is c.in_ok-end_head-in-Body.ensures

pub returns-in-Wrong : goal.returns-in-Wrong
returns-in-Wrong c = piece_wrong _ _ _ _ c.look-piece.ensures _ (ap (on_piece c.args.head) c.in-Wrong.is) c.requires

pub returns-in_default : goal.returns-in_default
returns-in_default c =
    let d = c.in_default in
    piece_wrong _ _ _ _ c.look-piece.ensures 40 (no_item c.args.head _ d.not-Item d.not-Body d.not-Wrong) c.requires
