-- `names::read_names` meets its contract: each turn reads one name and remembers it (`name_goes`), and behind the last no further one stands
-- (`names_end`). Assumes nothing.
use mathlib.Core.Path.{refl}
use Rattle.std.proofs.lemmas.Result.{err_from_is_err_and}
use Rattle.hoa_value.proofs.Naming.{name_goes, name_stops, names_end, names_none}
use native.Mathlib.Omega.{arith}
use Rattle.hoa_value.proofs.names.read_names.Goals as goal

pub loop-i-init : goal.loop-i-init
loop-i-init c = names_none _ _ _ _ refl c.requires.1

pub returns-in_err-read : goal.returns-in_err-read
returns-in_err-read c =
    let p = err_from_is_err_and c.from_residual.result c.from_residual.ensures.1 in
    rw (p.1, p.2) (name_stops _ _ _ _ _ _ c.loop-i.invariant (omega arith) _ c.loop-i-test.true c.in_err-read.ensures)

pub loop-i-preserved : goal.loop-i-preserved
loop-i-preserved c =
    name_goes _ _ _ _ _ _ c.loop-i.invariant (omega arith) _ c.loop-i-test.true (omega arith) c.in_ok-read.ensures

pub returns : goal.returns
returns c =
    names_end _ _ _ _ _ _ c.loop-i.invariant (omega arith) _ (omega arith) c.names_over.ensures
