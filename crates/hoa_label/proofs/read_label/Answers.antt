-- `hoa_label::read_label` meets its contract: a label is a level with none outside. Assumes nothing.
use Rattle.hoa_label.proofs.Runs.{label_read}
use Rattle.hoa_label.proofs.read_label.Goals as goal

pub returns : goal.returns
returns c = label_read _ _ _ c.level.ensures
