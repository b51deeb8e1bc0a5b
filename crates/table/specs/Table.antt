-- Tables, walks and lassos (docs/RULES.md, "Tables, walks and lassos"). Assumes nothing.
use Rattle.std.specs.Prelude.{◌≡◌, ◌⊎◌, List, [], ◌∷◌, ℕ, ◌<◌, length, get_or}
use Rattle.marks.specs.Mark.{union}

-- n states 0..n-1, a start state, and m edges 0..m-1 in three lists: where an edge leaves, where it arrives, the marks that it bears
pub record Table : Type 0 where
  pub states : ℕ
  pub start : ℕ
  pub edges : ℕ
  pub from : List ℕ
  pub to : List ℕ
  pub marks : List ℕ

-- the table that is lent as n, start and three lists: every edge of the lists is an edge of it
abbrev pub lent : ℕ → ℕ → List ℕ → List ℕ → List ℕ → Table
lent n start from to marks = record { states = n; start = start; edges = length from; from = from; to = to; marks = marks }

-- the number of a waiting edge: no table is so long
abbrev pub waiting : ℕ
waiting = 65535

-- edge e of the tables leads from s to s'
pub record Edge (t : Table) (e s s' : ℕ) : Type 0 where
  pub listed : e < t.edges
  pub leaves : get_or t.from e 0 ≡ s
  pub arrives : get_or t.to e 0 ≡ s'

-- a stop state: no edge of the tables leaves it
pub record Stop (t : Table) (s : ℕ) : Type 0 where
  pub state : s < t.states
  pub halts : (e s' : ℕ) → Edge t e s s' → ⊥

-- the waiting edge of a stop state leads from it to itself
pub record Waits (t : Table) (e s s' : ℕ) : Type 0 where
  pub number : e ≡ waiting
  pub stop : Stop t s
  pub stays : s' ≡ s

-- edge e leads from s to s': everything about walks is said through this
abbrev pub Step : Table → ℕ → ℕ → ℕ → Type 0
Step t e s s' = Edge t e s s' ⊎ Waits t e s s'

-- the edges es, each leaving where the one before arrived, lead from s to z
abbrev pub Walk : Table → ℕ → List ℕ → ℕ → Type 0
Walk t s [] z = s ≡ z
Walk t s (e ∷ es) z = (s' : ℕ) × (Step t e s s' × Walk t s' es z)

-- a walk from the start, perhaps empty, and a non-empty walk from its end back to it
pub record Lasso (t : Table) (prefix cycle : List ℕ) : Type 0 where
  pub knot : ℕ
  pub leads : Walk t t.start prefix knot
  pub closes : Walk t knot cycle knot
  pub turns : 0 < length cycle

-- the marks that edge e bears; a waiting edge, which stands in no table, bears none
abbrev pub borne : Table → ℕ → ℕ
borne t e = get_or t.marks e 0

-- the union of the marks on the edges es
abbrev pub marks_of : Table → List ℕ → ℕ
marks_of t [] = 0
marks_of t (e ∷ es) = union (borne t e) (marks_of t es)
