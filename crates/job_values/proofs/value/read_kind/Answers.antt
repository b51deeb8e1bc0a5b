-- `value::read_kind` meets its contract: its words are those of the form, in the rule's order; it is lost where the word that it agrees with furthest is. Assumes nothing.
use Rattle.table.specs.Row.{part}
use Rattle.job_values.proofs.Spoken.{kind_buchi, kind_streett, kind_rabin, kind_lost}
use Rattle.job_values.proofs.value.read_kind.Goals as goal

pub returns-in_default : goal.returns-in_default
returns-in_default c = kind_buchi (part c.args.at c.args.end c.args.text.now) c.in_default.ensures

pub returns-in_default-read_word : goal.returns-in_default-read_word
returns-in_default-read_word c = kind_streett (part c.args.at c.args.end c.args.text.now) c.in-Err.ensures.0 c.in_default-read_word.ensures

pub returns-in_default-read_word-2 : goal.returns-in_default-read_word-2
returns-in_default-read_word-2 c =
    kind_rabin (part c.args.at c.args.end c.args.text.now) c.in-Err.ensures.0 c.in-Err-read_word.ensures.0 c.in_default-read_word-2.ensures

pub returns : goal.returns
returns c =
    let a = c.args in
    rw (c.max-2.ensures, c.max.ensures)
    (kind_lost a.text.now a.at a.end c.requires _ _ _ c.in-Err.ensures c.in-Err-read_word.ensures c.in-Err-read_word-2.ensures)
