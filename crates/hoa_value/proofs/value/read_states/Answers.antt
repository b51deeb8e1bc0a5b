-- `value::read_states` meets its contract: another token than an INT is refused (`states_stops`), and so is an INT at fault (`states_wrong`); else an item
-- may begin (`states_goes`). Assumes nothing.
use mathlib.Core.Path.{sym}
use Rattle.std.proofs.lemmas.Result.{err_from_is_err_and}
use Rattle.hoa_value.proofs.Values.{states_stops, states_wrong, states_goes}
use Rattle.hoa_value.proofs.value.read_states.Goals as goal

pub returns-in_err-value : goal.returns-in_err-value
returns-in_err-value c =
    let p = err_from_is_err_and c.from_residual.result c.from_residual.ensures.1 in
    rw (p.1, p.2) (states_stops _ _ _ _ c.in_err-value.ensures c.requires)

pub returns-in-Some : goal.returns-in-Some
returns-in-Some c = states_wrong _ _ _ _ c.in_ok-value.ensures _ (sym c.in-Some.ensures)

pub returns : goal.returns
returns c = states_goes _ _ _ _ c.in_ok-value.ensures (sym c.in_default.ensures)
