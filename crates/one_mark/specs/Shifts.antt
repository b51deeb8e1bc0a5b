-- All fourteen shift cases (docs/RULES.md, "Shift cases"), under a single statement: cases 1 to 13 with the crate table, and the translation. Then a
-- table with stop states (docs/RULES.md, "One-mark translation"). proofs/Shifts.antt proves both. Assumes nothing.
use Rattle.std.specs.Prelude.{◌≡◌, [], ◌∷◌}
use Rattle.table.specs.Table.{Table, lent}
use Rattle.table.specs.Shifts.{ShiftCases, table_a}
use Rattle.climbing.specs.Translated.{translated}

-- 0>2{}, 1>3{}, 2>5{}, 3>5{}, 4>2{}, 5>2{0}
abbrev pub translated_a : Table
translated_a = lent 6 0 (0 ∷ 1 ∷ 2 ∷ 3 ∷ 4 ∷ 5 ∷ []) (2 ∷ 3 ∷ 5 ∷ 5 ∷ 2 ∷ 2 ∷ []) (0 ∷ 0 ∷ 0 ∷ 0 ∷ 0 ∷ 1 ∷ [])

-- 0>1{}, 2>2{} with states 0 to 3: states 1 and 3 are stop states, the latter out of reach
abbrev pub halting : Table
halting = lent 4 0 (0 ∷ 2 ∷ []) (1 ∷ 2 ∷ []) (0 ∷ 0 ∷ [])

-- 0>1{0}, 1>1{0}, 2>2{0}, 3>3{0}
abbrev pub translated_halting : Table
translated_halting = lent 4 0 (0 ∷ 1 ∷ 2 ∷ 3 ∷ []) (1 ∷ 1 ∷ 2 ∷ 3 ∷ []) (1 ∷ 1 ∷ 1 ∷ 1 ∷ [])

pub record FourteenCases : Type 0 where
  pub cases_1_to_13 : ShiftCases
  -- "A, k = 2, translated: 0>2{}, 1>3{}, 2>5{}, 3>5{}, 4>2{}, 5>2{0}"
  pub case_14 : translated table_a 2 ≡ translated_a

-- a table with stop states, translated with k = 0, and with k = 1, where nothing is added
pub record HaltingCases : Type 0 where
  pub no_marks : translated halting 0 ≡ translated_halting
  pub one_mark : translated halting 1 ≡ halting
