-- `formula::put_infs` meets its contract: each turn writes one mark more (`joined_more`), in at most 16 bytes. Assumes nothing.
use Rattle.std.proofs.Common.{◌+◌, arith}
use Rattle.hoa_tokens.specs.Bytes.{bytes}
use Rattle.puts.specs.Put.{held}
use Rattle.hoa_written.specs.Written.{close}
use Rattle.puts.proofs.Few.{joined_none, joined_more}
use Rattle.hoa_put_formula.proofs.put_infs.Goals as goal

pub loop-i-init : goal.loop-i-init
loop-i-init c = joined_none _ _ _ _

pub loop-i-preserved : goal.loop-i-preserved
unfolding bytes
loop-i-preserved c =
    let turn = c.loop-i in
    let first = c.args.first in
    joined_more (λ j. held (bytes "&Inf(") (first + j) close) _ turn.invariant c.put_held-next.ensures (omega arith)
