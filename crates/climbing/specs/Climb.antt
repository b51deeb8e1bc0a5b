-- Levels and climbs (docs/RULES.md, "One-mark translation"). Assumes nothing.
use Rattle.std.specs.Prelude.{Bool, true, false, ℕ, zero, suc, ◌+◌, ◌-◌, ◌*◌, ◌/◌, ◌%◌, ◌^◌, max, ltb, eqb}

-- K: k, or 1 if k is 0. Levels are 0..K-1
abbrev pub levels : ℕ → ℕ
levels k = max k 1

-- state s at level j has number s·K + j
abbrev pub number : ℕ → ℕ → ℕ → ℕ
number k s j = s * levels k + j

-- whether an edge with the marks x bears mark j
abbrev pub bears : ℕ → ℕ → Bool
bears x j = eqb (x / 2 ^ j % 2) 1

abbrev pub choose : Bool → ℕ → ℕ → ℕ
choose true a b = a
choose false a b = b

-- from level j, with so many levels left up to the top, an edge with the marks x climbs past j, j+1, .. while it bears that mark
abbrev pub climb : ℕ → ℕ → ℕ → ℕ
climb x j zero = j
climb x j (suc left) = choose (bears x j) (climb x (suc j) left) j

-- the level that it reaches, k at most (`Climbs.reached-high`, in proofs/)
unfoldable pub reached : ℕ → ℕ → ℕ → ℕ
reached k x j = climb x j (k - j)

-- if it reaches k, the translated edge arrives at level 0; else at the level reached
unfoldable pub landing : ℕ → ℕ → ℕ → ℕ
landing k x j = choose (ltb (reached k x j) k) (reached k x j) 0

-- if it reaches k, the translated edge bears mark 0, the set {0}; else it is unmarked. With k = 0 every edge is marked
unfoldable pub bearing : ℕ → ℕ → ℕ → ℕ
bearing k x j = choose (ltb (reached k x j) k) 0 1
