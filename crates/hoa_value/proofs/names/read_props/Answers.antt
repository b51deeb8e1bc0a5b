-- `names::read_props` meets its contract: another token than an INT is refused (`props_stop`), one above the limit (`props_many`), and names that are
-- refused (`props_wrong`); else an item may begin (`props_end`). Assumes nothing.
use Rattle.std.proofs.lemmas.Result.{err_from_is_err_and}
use Rattle.hoa_value.proofs.Naming.{props_end, props_many, props_stop, props_wrong}
use Rattle.hoa_value.proofs.names.read_props.Goals as goal

pub returns-in_err-value : goal.returns-in_err-value
returns-in_err-value c =
    let p = err_from_is_err_and c.from_residual.result c.from_residual.ensures.1 in
    rw (p.1, p.2) (props_stop _ _ _ c.in_err-value.ensures c.requires)

pub returns-then-value-gt-MOST_PROPS : goal.returns-then-value-gt-MOST_PROPS
returns-then-value-gt-MOST_PROPS c = props_many _ _ _ c.in_ok-value.ensures c.if-value-gt-MOST_PROPS.true

pub returns-in_err-next : goal.returns-in_err-next
returns-in_err-next c =
    let p = err_from_is_err_and c.from_residual-in_err-next.result c.from_residual-in_err-next.ensures.1 in
    rw (p.1, p.2) (props_wrong _ _ _ c.in_ok-value.ensures c.if-value-gt-MOST_PROPS.false _ c.in_err-next.ensures)

pub returns : goal.returns
returns c = props_end _ _ _ c.in_ok-value.ensures c.if-value-gt-MOST_PROPS.false _ c.in_ok-next.ensures
