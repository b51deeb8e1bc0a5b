-- The run of a state is its row, and tells whether it is a stop state. Assumes nothing.
use mathlib.Core.Path.{◌≡◌}
use mathlib.Core.List.{List}
use Prim.Native.Nat.{ℕ, suc, ◌+◌, ◌-◌}
use native.Mathlib.Numerals.{add-one}
use native.Mathlib.Omega.{arith}
use lib.ListN.{length, drop, length-drop}
use lib.Seq.{take_all}
use Rattle.table.specs.Row.{part, run, Row}
use Rattle.table.proofs.Rows.{Sorted, Begins, row_is, next_begins}
use Rattle.climbing.specs.Place.{front}
use Rattle.climbing.specs.Source.{stops}
use Rattle.climbing.proofs.Order.{begins_front}

module _ (from : List ℕ) (up : Sorted from) (s a w : ℕ) (begins : Begins from s a) (long : w ≡ run s (part a (length from) from)) where
  pub run_row : Row from s a (a + w)
  run_row =
      let whole : part a (length from) from ≡ drop a from = take_all (length from - a) (drop a from) (omega (arith, length-drop a from)) in
      rw (long, whole) (row_is from up s a begins)

  pub run_next : Begins from (s + 1) (a + w)
  run_next = rw add-one (next_begins from s a (a + w) run_row)

  pub run_long : front (suc s) from - front s from ≡ w
  run_long =
      omega (arith, begins_front from s a up begins, begins_front from (suc s) (a + w) up (next_begins from s a (a + w) run_row))

  -- one stop state more if it is empty
  pub stops_next : (n r : ℕ) → n ≡ stops from s → r ≡ 1 - (0 + w) → n + r ≡ stops from (s + 1)
  stops_next n r e q = rw add-one (rw run_long (omega arith))
