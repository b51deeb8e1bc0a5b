-- `body::put_sig` meets its contract: nothing for no marks, else the marks between their brackets. Assumes nothing.
use borrow.Author.Tests.{eq-eqb, ne_eqb}
use Rattle.hoa_tokens.specs.Bytes.{bytes}
use Rattle.hoa_written.specs.Written.{sig_text}
use Rattle.puts.proofs.Few.{few_none, few_word, few_both}
use native.Mathlib.Omega.{arith}
use Rattle.hoa_put_rows.proofs.put_sig.Goals as goal

pub returns-then-set-eq0 : goal.returns-then-set-eq0
unfolding sig_text
returns-then-set-eq0 c = rw (eq-eqb c.args.set 0 c.if-set-eq0.true) (few_none _ _ _)

pub returns : goal.returns
unfolding sig_text bytes
returns c =
    let set = c.args.set in
    let marks = few_both 353 c.put_marks-end.ensures (few_word 1 c.put.ensures (omega arith)) (omega arith) in
    rw (ne_eqb set 0 c.if-set-eq0.false) (few_both 355 (few_word 2 c.put_word-begin.ensures (omega arith)) marks (omega arith))
