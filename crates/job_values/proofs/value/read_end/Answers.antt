-- `value::read_end` meets its contract: its word is the only one of the form. Assumes nothing.
use Rattle.job_values.proofs.Spoken.{end_told}
use Rattle.job_values.proofs.value.read_end.Goals as goal

pub returns : goal.returns
returns c = end_told c.args.text.now c.args.at c.args.end c.requires c.read_word.result c.read_word.ensures
