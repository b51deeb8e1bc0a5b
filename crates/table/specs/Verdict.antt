-- The parts of a verdict (docs/RULES.md, "What comes back"; "Where an answer is an enum, the promises use a definition that gives this paper's number and
-- values for each of its cases"). Every crate cites them from here. Assumes nothing.
use Rattle.std.specs.Prelude.{ℕ}
use Rattle.table.specs.declared.Verdict.{Verdict}
use Rattle.table.specs.declared.Verdict.TheVariants.{Run, Empty, Refused}

-- which case it is: 2 a run, 1 empty, 0 refused. These numbers are our own: docs/RULES.md gives the cases names only
abbrev pub kind_of : Verdict → ℕ
kind_of (Run prefix cycle pair) = 2
kind_of Empty = 1
kind_of (Refused number place) = 0

-- "no.", the number of the cause: that of a refusal; 0, "answered", for run and empty
abbrev pub number_of : Verdict → ℕ
number_of (Run prefix cycle pair) = 0
number_of Empty = 0
number_of (Refused number place) = number

-- "place": that of a refusal; 0 for run and empty
abbrev pub place_of : Verdict → ℕ
place_of (Run prefix cycle pair) = 0
place_of Empty = 0
place_of (Refused number place) = place

-- "for Rabin, the pair": that of a run; 0 where there is no run
abbrev pub pair_of : Verdict → ℕ
pair_of (Run prefix cycle pair) = pair
pair_of Empty = 0
pair_of (Refused number place) = 0

-- "prefix length": that of a run; 0 where there is no run
abbrev pub prefix_of : Verdict → ℕ
prefix_of (Run prefix cycle pair) = prefix
prefix_of Empty = 0
prefix_of (Refused number place) = 0

-- "cycle length": that of a run; 0 where there is no run
abbrev pub cycle_of : Verdict → ℕ
cycle_of (Run prefix cycle pair) = cycle
cycle_of Empty = 0
cycle_of (Refused number place) = 0
