-- When a lasso is accepted (docs/RULES.md, "Conditions": "Let M be the union of marks on the cycle"). Assumes nothing.
use Rattle.std.specs.Prelude.{List, ℕ, zero, suc, ◌+◌, ◌*◌, ◌<◌, get_or}
use Rattle.marks.specs.Mark.{Has}
use Rattle.table.specs.declared.Acceptance.{Acceptance}
use Rattle.table.specs.declared.Acceptance.TheVariants.{Buchi, Streett, Rabin}
use Rattle.table.specs.Table.{Table, Lasso, marks_of}

-- the need of pair i
abbrev pub need : List ℕ → ℕ → ℕ
need needs i = get_or needs i 0

-- how many marks are dealt out before pair i: each pair takes one forbidden mark, then its needed marks.
-- So this is pair i's forbidden mark, and its needed marks follow.
abbrev pub dealt : List ℕ → ℕ → ℕ
dealt needs zero = 0
dealt needs (suc i) = dealt needs i + (1 + need needs i)

-- M meets pair i: the forbidden mark is absent, all needed marks are there
pub record MeetsPair (needs : List ℕ) (M i : ℕ) : Type 0 where
  pub absent : Has (dealt needs i) M → ⊥
  pub present : (j : ℕ) → j < need needs i → Has (dealt needs i + 1 + j) M

-- M meets some pair below p
pub record SomePair (needs : List ℕ) (M p : ℕ) : Type 0 where
  pub pair : ℕ
  pub below : pair < p
  pub met : MeetsPair needs M pair

-- the condition accepts the marks M
abbrev pub Accepts : Acceptance → List ℕ → ℕ → Type 0
Accepts (Buchi k) needs M = (i : ℕ) → i < k → Has i M
Accepts (Streett p) needs M = (i : ℕ) → i < p → Has (2 * i) M → Has (2 * i + 1) M
Accepts (Rabin p) needs M = SomePair needs M p

-- a lasso whose cycle's marks the condition accepts
pub record Accepted (t : Table) (c : Acceptance) (needs prefix cycle : List ℕ) : Type 0 where
  pub lasso : Lasso t prefix cycle
  pub meets : Accepts c needs (marks_of t cycle)

-- "run": some lasso is accepted
pub record Runs (t : Table) (c : Acceptance) (needs : List ℕ) : Type 0 where
  pub prefix : List ℕ
  pub cycle : List ℕ
  pub accepted : Accepted t c needs prefix cycle

-- "empty": no lasso at all is accepted
abbrev pub Empty : Table → Acceptance → List ℕ → Type 0
Empty t c needs = (prefix cycle : List ℕ) → Accepted t c needs prefix cycle → ⊥
