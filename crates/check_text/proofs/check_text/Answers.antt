-- `check_text` meets its contract: the two parts are those of the definition (`job_is`, `answer_is`), a position fits its word (`checks_slight`), and what was put
-- is what is promised (`replied`). Assumes nothing.
use mathlib.Core.Path.{◌≡◌}
use lib.ListN.{length}
use Rattle.check_text.specs.Replied.{most_checked}
use Rattle.check_text.proofs.Splits.{answer_few}
use Rattle.check_text.proofs.Positions.{checks_slight}
use Rattle.check_text.proofs.Replies.{replied}
use borrow.Author.Rules.{rules}
use Rattle.check_text.proofs.check_text.Goals as goal

pub put_checked-length-requires : goal.put_checked-length-requires
put_checked-length-requires c =
    let input = c.args.input.now in
    let few = answer_few input c.job_size-size.result _ c.job_size-size.ensures c.heard_to-end.ensures in
    checks_slight _ few _ _ c.check_answer-checked.ensures

pub returns : goal.returns
returns c =
    let wide : length c.args.out.now ≡ most_checked = search rules in
    replied c.check_answer-checked.result wide c.job_size-size.ensures c.heard_to-end.ensures c.check_answer-checked.ensures c.put_checked-length.ensures c.clear.ensures
