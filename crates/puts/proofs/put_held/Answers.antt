-- `put_held` meets its contract: the key, the number and the byte, one after another. Assumes nothing.
use Rattle.puts.proofs.Puts.{put_both}
use native.Mathlib.Omega.{arith}
use Rattle.puts.proofs.put_held.Goals as goal

pub returns : goal.returns
returns c =
    let key = c.put_word-digits.ensures in
    let number = c.put_number-end.ensures in
    let last = c.put.ensures in
    record { put = put_both (put_both key number.put) last; few = omega (arith, key.next, number.few, last.next) }
