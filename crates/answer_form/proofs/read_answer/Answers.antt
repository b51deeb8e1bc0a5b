-- `read_answer` meets its contract: the first words tell which answer it may be; what is left begins behind them (`starts_fits`). Assumes nothing.
use Rattle.std.proofs.Common.{sym, ◌∙◌}
use Prim.Native.Nat.{zero-le}
use Rattle.puts.specs.Put.{decimal_in}
use Rattle.answer_form.specs.Given.{empty_head, run_head, refused_head}
use Rattle.answer_form.proofs.Forms.{starts_fits}
use Rattle.answer_form.proofs.read_answer.Goals as goal

pub is_empty-requires : goal.is_empty-requires
unfolding decimal_in
is_empty-requires c = starts_fits c.args.text.now empty_head 0 (sym c.starts.ensures ∙ c.if-starts.true) zero-le

pub read_run-requires : goal.read_run-requires
unfolding decimal_in
read_run-requires c = starts_fits c.args.text.now run_head 0 (sym c.starts-2.ensures ∙ c.if-starts-2.true) zero-le

pub is_refusal-requires : goal.is_refusal-requires
unfolding decimal_in
is_refusal-requires c = starts_fits c.args.text.now refused_head 0 (sym c.starts-3.ensures ∙ c.if-starts-3.true) zero-le
