-- `value::read_start` meets its contract: another token than an INT is refused (`start_stops`), an INT at fault (`start_wrong`), and an `&` behind it
-- (`start_joined`); else an item may begin (`start_over`). Assumes nothing.
use mathlib.Core.Path.{sym}
use Rattle.std.proofs.lemmas.Result.{err_from_is_err_and}
use Rattle.hoa_value.proofs.Values.{start_joined, start_over, start_stops, start_wrong}
use Rattle.hoa_value.proofs.value.read_start.Goals as goal

pub returns-in_err-value : goal.returns-in_err-value
returns-in_err-value c =
    let p = err_from_is_err_and c.from_residual.result c.from_residual.ensures.1 in
    rw (p.1, p.2) (start_stops _ _ _ _ c.in_err-value.ensures c.requires)

pub returns-in-Some : goal.returns-in-Some
returns-in-Some c = start_wrong _ _ _ _ c.in_ok-value.ensures _ (sym c.in-Some.ensures)

pub returns-in_err-next : goal.returns-in_err-next
returns-in_err-next c =
    let p = err_from_is_err_and c.from_residual-in_err-next.result c.from_residual-in_err-next.ensures.1 in
    rw (p.1, p.2) (start_joined _ _ _ _ c.in_ok-value.ensures (sym c.in_default.ensures) _ c.in_err-next.ensures)

pub returns : goal.returns
returns c = start_over _ _ _ _ c.in_ok-value.ensures (sym c.in_default.ensures) _ c.in_ok-next.ensures
