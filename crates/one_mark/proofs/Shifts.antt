-- The fourteen shift cases: cases 1 to 13 are proved with the crate table, and the translation of table A computes, as does that of a table with stop
-- states. Assumes nothing.
use mathlib.Core.Path.{refl}
use Rattle.table.proofs.Shifts.{shift_cases}
use Rattle.climbing.specs.Climb.{reached, landing, bearing}
use Rattle.one_mark.specs.Shifts.{FourteenCases, HaltingCases}

pub fourteen_cases : FourteenCases
unfolding reached landing bearing
fourteen_cases = record { cases_1_to_13 = shift_cases; case_14 = refl }

pub halting_cases : HaltingCases
unfolding reached landing bearing
halting_cases = record { no_marks = refl; one_mark = refl }
