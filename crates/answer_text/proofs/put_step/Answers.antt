-- `put_step` meets its contract: a waiting edge is written as a word (`step_stop`), every other one as its number (`step_number`). Assumes nothing.
use Rattle.puts.proofs.Few.{few_word}
use Rattle.answer_text.proofs.Prints.{step_stop, step_number}
use native.Mathlib.Omega.{arith}
use Rattle.answer_text.proofs.put_step.Goals as goal

pub returns-then-edge-eq-WAITING : goal.returns-then-edge-eq-WAITING
returns-then-edge-eq-WAITING c =
    rw (step_stop c.args.edge c.if-edge-eq-WAITING.true) (few_word 10 c.put_word.ensures (omega arith))

pub returns : goal.returns
returns c =
    rw (step_number c.args.edge c.if-edge-eq-WAITING.false) c.put_number.ensures
