-- `value::read_form` meets its contract: its word is the only one of the form. Assumes nothing.
use Rattle.std.proofs.lemmas.Result.{err_from_is_err_and}
use Rattle.table.specs.Row.{part}
use Rattle.job_values.proofs.Spoken.{form_some, form_lost}
use Rattle.job_values.proofs.value.read_form.Goals as goal

pub returns-in_err-read_word : goal.returns-in_err-read_word
returns-in_err-read_word c =
    let a = c.args in
    let e = err_from_is_err_and c.from_residual.result c.from_residual.ensures.1 in
    rw (e.1, e.2) (form_lost a.text.now a.at a.end c.requires _ c.in_err-read_word.ensures)

pub returns : goal.returns
returns c = form_some (part c.args.at c.args.end c.args.text.now) c.in_ok-read_word.ensures
