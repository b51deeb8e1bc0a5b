-- The numbered shift cases (docs/RULES.md, "Shift cases"), gathered under a single statement, `ShiftCases`; proofs/Shifts.antt proves it.
-- Edges are written from>to{marks}, numbered from 0; start 0; n is one above the largest state named, unless said.
-- The set {0} is the number 1, {1} is 2. Case 14, the translation, stands with it in the crate one_mark. Assumes nothing.
use Rattle.std.specs.Prelude.{List, [], ◌∷◌, ℕ}
use Rattle.table.specs.declared.Acceptance.TheVariants.{Buchi, Streett, Rabin}
use Rattle.table.specs.Table.{Table, lent, waiting}
use Rattle.table.specs.Condition.{Accepted, Runs, Empty}

-- ---- the tables

-- Table A: 0>1{}, 1>2{0}, 2>1{1}
abbrev pub table_a : Table
table_a = lent 3 0 (0 ∷ 1 ∷ 2 ∷ []) (1 ∷ 2 ∷ 1 ∷ []) (0 ∷ 1 ∷ 2 ∷ [])

-- 0>0{}
abbrev pub plain_loop : Table
plain_loop = lent 1 0 (0 ∷ []) (0 ∷ []) (0 ∷ [])

-- 0>0{0}
abbrev pub marked_loop : Table
marked_loop = lent 1 0 (0 ∷ []) (0 ∷ []) (1 ∷ [])

-- 0>0{}, 0>1{0}, 1>0{}
abbrev pub loop_and_way_round : Table
loop_and_way_round = lent 2 0 (0 ∷ 0 ∷ 1 ∷ []) (0 ∷ 1 ∷ 0 ∷ []) (0 ∷ 1 ∷ 0 ∷ [])

-- two states, no edges
abbrev pub no_edges : Table
no_edges = lent 2 0 [] [] []

-- 1>1{0}
abbrev pub loop_out_of_reach : Table
loop_out_of_reach = lent 2 0 (1 ∷ []) (1 ∷ []) (1 ∷ [])

-- 0>0{0}, 0>1{}, 1>1{1}
abbrev pub two_components : Table
two_components = lent 2 0 (0 ∷ 0 ∷ 1 ∷ []) (0 ∷ 1 ∷ 1 ∷ []) (1 ∷ 0 ∷ 2 ∷ [])

-- 0>1{0}, 1>1{1}
abbrev pub marked_prefix : Table
marked_prefix = lent 2 0 (0 ∷ 1 ∷ []) (1 ∷ 1 ∷ []) (1 ∷ 2 ∷ [])

-- ---- the eight needs

abbrev pub no_needs : List ℕ
no_needs = 0 ∷ 0 ∷ 0 ∷ 0 ∷ 0 ∷ 0 ∷ 0 ∷ 0 ∷ []

abbrev pub need_one : List ℕ
need_one = 1 ∷ 0 ∷ 0 ∷ 0 ∷ 0 ∷ 0 ∷ 0 ∷ 0 ∷ []

-- ---- the cases

pub record ShiftCases : Type 0 where
  -- "A, Büchi 2: run; prefix 0, cycle 1,2 is accepted"
  pub case_1 : Accepted table_a (Buchi 2) no_needs (0 ∷ []) (1 ∷ 2 ∷ [])
  -- "A, Büchi 3: empty"
  pub case_2 : Empty table_a (Buchi 3) no_needs
  -- "A, Streett 1: run"
  pub case_3 : Runs table_a (Streett 1) no_needs
  -- "A, Rabin need 1: empty"
  pub case_4 : Empty table_a (Rabin 1) need_one
  -- "0>0{0}, Streett 1: empty"
  pub case_5 : Empty marked_loop (Streett 1) no_needs
  -- "0>0{}, Streett 1: run"
  pub case_6 : Runs plain_loop (Streett 1) no_needs
  -- "0>0{}, 0>1{0}, 1>0{}, Streett 1: run; cycle 0"
  pub case_7 : Accepted loop_and_way_round (Streett 1) no_needs [] (0 ∷ [])
  -- "Two states, no edges, Streett 0: run; prefix none, cycle the waiting edge"
  pub case_8 : Accepted no_edges (Streett 0) no_needs [] (waiting ∷ [])
  -- "0>0{}, Büchi 0: run"
  pub case_9 : Runs plain_loop (Buchi 0) no_needs
  -- "0>0{}, Rabin 0: empty"
  pub case_10 : Empty plain_loop (Rabin 0) no_needs
  -- "1>1{0}, Büchi 1: empty"
  pub case_11 : Empty loop_out_of_reach (Buchi 1) no_needs
  -- "0>0{0}, 0>1{}, 1>1{1}, Büchi 2: empty"
  pub case_12 : Empty two_components (Buchi 2) no_needs
  -- "0>1{0}, 1>1{1}, Rabin need 1: run; prefix 0, cycle 1"
  pub case_13 : Accepted marked_prefix (Rabin 1) need_one (0 ∷ []) (1 ∷ [])
