-- `value::read_needs` meets its contract: where the kind and the count have needs the list decides, and else the word `-`. Assumes nothing.
use Rattle.std.proofs.lemmas.Result.{err_from_is_err_and}
use mathlib.Core.Path.{sym}
use Rattle.table.specs.Row.{part}
use Rattle.job_values.proofs.Needs.{listed_told, dash_needs, dash_lost, needs_few}
use Rattle.job_values.proofs.value.read_needs.Goals as goal

pub list_needs-requires : goal.list_needs-requires
list_needs-requires c =
    let a = c.args in
    record { within = c.requires.within; count_nonzero = needs_few a.kind a.count (sym c.if-has_needs.ensures) c.requires.count_bound }

pub returns-then-has_needs : goal.returns-then-has_needs
returns-then-has_needs c =
    let a = c.args in
    listed_told a.kind a.count (sym c.if-has_needs.ensures) a.text.now a.at a.end c.list_needs.result c.list_needs.ensures

pub returns-in_err-read_word : goal.returns-in_err-read_word
returns-in_err-read_word c =
    let a = c.args in
    let e = err_from_is_err_and c.from_residual.result c.from_residual.ensures.1 in
    rw (e.1, e.2) (dash_lost a.kind a.count (sym c.if-has_needs.ensures) a.text.now a.at a.end c.requires.within _ c.in_err-read_word.ensures)

pub returns : goal.returns
returns c = dash_needs c.args.kind c.args.count (sym c.if-has_needs.ensures) (part c.args.at c.args.end c.args.text.now) c.in_ok-read_word.ensures
