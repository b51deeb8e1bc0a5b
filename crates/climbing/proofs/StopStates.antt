-- The stop states of a table are the states with an empty row. Assumes nothing.
use mathlib.Core.Path.{◌≡◌, refl}
use mathlib.Core.Logic.{◌↔◌}
use mathlib.Core.List.{List}
use Prim.Native.Nat.{ℕ, zero, suc, ◌+◌, ◌≤◌, ◌<◌}
use native.Mathlib.Omega.{arith}
use Rattle.marks.proofs.Cases.{same, below}
use Rattle.table.specs.Table.{Table, Edge, Stop}
use Rattle.table.specs.Refusal.{Proper}
use Rattle.climbing.specs.Place.{row_start, row_length, arrives}
use Rattle.climbing.specs.Source.{stops}
use Rattle.climbing.proofs.Order.{front_up, table_row}

-- ---- the stop states are those with an empty row

module _ (t : Table) (proper : Proper t) where
  row_next : (s : ℕ) → row_start t (suc s) ≡ row_start t s + row_length t s
  row_next s = omega (arith, front_up s t.from)

  -- edge i of a row
  pub row_edge : (s i : ℕ) → i < row_length t s → Edge t (row_start t s + i) s (arrives t (row_start t s + i))
  row_edge s i l =
      record {
        listed = omega (arith, row_next s, (table_row t proper s).ends, proper.from_length);
        leaves = (table_row t proper s).inside (row_start t s + i) (omega arith) (omega (arith, row_next s));
        arrives = refl;
      }

  -- an edge stands in the row of its state
  pub in_row : (e s s' : ℕ) → Edge t e s s' → (row_start t s ≤ e) × (e < row_start t s + row_length t s)
  in_row e s s' p =
      let row = table_row t proper s in (
        below e (row_start t s) (λ h. absurd (omega (arith, row.before e h, p.leaves))) (λ h. h),
        below e (row_start t s + row_length t s) (λ h. h)
            (λ h. absurd (omega (arith, row.after e (omega (arith, row_next s)) (omega (arith, proper.from_length, p.listed)), p.leaves))),
      )

  pub stop_none : (s : ℕ) → Stop t s → row_length t s ≡ 0
  stop_none s p = same (row_length t s) 0 (λ e. e) (λ some. absurd (p.halts (row_start t s + 0) _ (row_edge s 0 (omega arith))))

  pub none_stop : (s : ℕ) → s < t.states → row_length t s ≡ 0 → Stop t s
  none_stop s l none = record { state = l; halts = λ e s' p. omega (arith, (in_row e s s' p).0, (in_row e s s' p).1) }

  pub stop_empty : (s : ℕ) → s < t.states → Stop t s ↔ (row_length t s ≡ 0)
  stop_empty s l = (stop_none s, none_stop s l)

pub stops_most : (from : List ℕ) (n : ℕ) → stops from n ≤ n
stops_most from zero = omega arith
stops_most from (suc n) = omega (arith, stops_most from n)
