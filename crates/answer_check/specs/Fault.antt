-- What is wrong with a run that a text names: the first fault, and that there is none (docs/RULES.md, "An answer that is checked"). Assumes nothing.
use Rattle.std.specs.Prelude.{◌≡◌, ◌⊎◌, List, [], ℕ, ◌<◌, length, get_or, take}
use Rattle.table.specs.declared.Acceptance.{Acceptance}
use Rattle.table.specs.declared.Acceptance.TheVariants.{Buchi, Streett, Rabin}
use Rattle.table.specs.Table.{Table, Step, Walk, Lasso, marks_of}
use Rattle.table.specs.Condition.{MeetsPair, Accepts}
use Rattle.answer_check.specs.declared.Checked.{Checked}
use Rattle.answer_check.specs.declared.Checked.TheVariants.{Accepted, Rejected, Refused}
use Rattle.answer_check.specs.declared.Fault.TheVariants.{Prefix, Empty, Cycle, Condition}

-- the list es, walked from s, breaks at position i: up to there it is a walk, and the edge there leads nowhere from where it has come
pub record Breaks (t : Table) (s : ℕ) (es : List ℕ) (i : ℕ) : Type 0 where
  pub reached : ℕ
  pub walks : Walk t s (take i es) reached
  pub inside : i < length es
  pub stuck : (s' : ℕ) → Step t (get_or es i 0) reached s' → ⊥

-- the cycle, walked from the knot, does not come back to it: it arrives elsewhere, and the position is its length
pub record Open (t : Table) (knot : ℕ) (cycle : List ℕ) (i : ℕ) : Type 0 where
  pub arrives : ℕ
  pub walks : Walk t knot cycle arrives
  pub elsewhere : arrives ≡ knot → ⊥
  pub position : i ≡ length cycle

-- the prefix is a walk, and the cycle from its end breaks or does not close
pub record BadCycle (t : Table) (prefix cycle : List ℕ) (i : ℕ) : Type 0 where
  pub knot : ℕ
  pub leads : Walk t t.start prefix knot
  pub some : 0 < length cycle
  pub fault : Breaks t knot cycle i ⊎ Open t knot cycle i

-- the prefix is a walk, and the cycle empty
pub record NoCycle (t : Table) (prefix cycle : List ℕ) (i : ℕ) : Type 0 where
  pub knot : ℕ
  pub leads : Walk t t.start prefix knot
  pub none : cycle ≡ []
  pub position : i ≡ 0

-- the condition is met by the marks M; for Rabin the named pair is one of its pairs, and is met
abbrev pub Meets : Acceptance → List ℕ → ℕ → ℕ → Type 0
Meets (Buchi k) needs M pair = Accepts (Buchi k) needs M
Meets (Streett p) needs M pair = Accepts (Streett p) needs M
Meets (Rabin p) needs M pair = (pair < p) × MeetsPair needs M pair

-- a lasso, and the condition is not met
pub record Unmet (t : Table) (c : Acceptance) (needs : List ℕ) (pair : ℕ) (prefix cycle : List ℕ) (i : ℕ) : Type 0 where
  pub lasso : Lasso t prefix cycle
  pub unmet : Meets c needs (marks_of t cycle) pair → ⊥
  pub position : i ≡ 0

-- a lasso that the condition accepts, for Rabin with the named pair
pub record Holds (t : Table) (c : Acceptance) (needs : List ℕ) (pair : ℕ) (prefix cycle : List ℕ) : Type 0 where
  pub lasso : Lasso t prefix cycle
  pub met : Meets c needs (marks_of t cycle) pair

-- "the first fault: prefix from position 0; then cycle empty, 0; then cycle from position 0; then not closing: `cycle` at its length; then `condition`, 0"
abbrev pub Judged : Table → Acceptance → List ℕ → ℕ → List ℕ → List ℕ → Checked → Type 0
Judged t c needs pair prefix cycle Accepted = Holds t c needs pair prefix cycle
Judged t c needs pair prefix cycle (Rejected Prefix i) = Breaks t t.start prefix i
Judged t c needs pair prefix cycle (Rejected Empty i) = NoCycle t prefix cycle i
Judged t c needs pair prefix cycle (Rejected Cycle i) = BadCycle t prefix cycle i
Judged t c needs pair prefix cycle (Rejected Condition i) = Unmet t c needs pair prefix cycle i
Judged t c needs pair prefix cycle (Refused number place column) = ⊥
