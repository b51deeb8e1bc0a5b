-- `read_head` meets its contract: `HOA: v1` is refused (`head_stops`), or the items say how the header ends (`head_goes`). Assumes nothing.
use Rattle.std.proofs.lemmas.Result.{err_from_is_err_and}
use Rattle.hoa_head.proofs.Items.{head_goes, head_stops}
use Rattle.hoa_head.proofs.read_head.Goals as goal

pub returns-in_err-next : goal.returns-in_err-next
returns-in_err-next c =
    let p = err_from_is_err_and c.from_residual.result c.from_residual.ensures.1 in
    rw (p.1, p.2) (head_stops _ _ c.in_err-next.ensures)

pub returns : goal.returns
returns c = head_goes _ _ _ c.in_ok-next.ensures c.read_items.ensures
