-- What private contracts go by: the walk along a list of edges, and a lasso that a text names. Assumes nothing.
use Rattle.std.specs.Prelude.{◌≡◌, Bool, true, false, List, ℕ, ◌<◌, length, get_or, Option, Some, None, Result, Ok, Err}
use Rattle.std.proofs.Math.Option as math
use Rattle.table.specs.Table.{Table, waiting, Stop, Step, Walk, borne, marks_of}
use Rattle.table.specs.Refusal.{Proper}
use Rattle.marks.specs.Mark.{union}
use Rattle.answer_check.specs.declared.walk.Place.{Place}
use Rattle.answer_check.specs.declared.walk.Walked.{Walked}
use Rattle.answer_check.specs.declared.lasso.Flaw.{Flaw}
use Rattle.answer_check.specs.declared.Fault.{Fault}
use Rattle.answer_check.specs.declared.Fault.TheVariants as fault
use Rattle.answer_check.specs.Fault.{Breaks, BadCycle, NoCycle}

-- ---- the walk

-- the lent lists are those of a table that is not refused
pub record Lies (t : Table) (from to marks : List ℕ) : Type 0 where
  pub proper : Proper t
  pub from_is : t.from ≡ from
  pub to_is : t.to ≡ to
  pub marks_is : t.marks ≡ marks

-- a state of the table; if the walk waits there, it is a stop state
pub record Stands (t : Table) (p : Place) : Type 0 where
  pub state : p.state < t.states
  pub waits : p.waits ≡ true → Stop t p.state

-- some edge leaves the state; or none does
abbrev pub LeftBy : List ℕ → ℕ → Bool → Type 0
LeftBy from s true = (e : ℕ) × ((e < length from) × (get_or from e 0 ≡ s))
LeftBy from s false = (e : ℕ) → e < length from → get_or from e 0 ≡ s → ⊥

-- one edge further, with its marks; or there is no such step
pub record Goes (t : Table) (p : Place) (e : ℕ) (q : Place) : Type 0 where
  pub stands : Stands t q
  pub step : Step t e p.state q.state
  pub marks : q.union ≡ union p.union (borne t e)

abbrev pub WentSays : Table → Place → ℕ → Option Place → Type 0
WentSays t p e (Some q) = Goes t p e q
WentSays t p e None = (s' : ℕ) → Step t e p.state s' → ⊥

-- of every table with these lists
abbrev pub WaitSays : List ℕ → Place → Option Place → Type 0
WaitSays from p r = (t : Table) → Lies t from t.to t.marks → Stands t p → WentSays t p waiting r

abbrev pub GoSays : List ℕ → List ℕ → List ℕ → Place → ℕ → Option Place → Type 0
GoSays from to marks p e r = (t : Table) → Lies t from to marks → Stands t p → WentSays t p e r

-- where a walk from a state begins
abbrev pub outset : ℕ → Place
outset s = record { state = s; union = 0; waits = false }

-- the same place, and no marks counted so far
abbrev pub afresh : Place → Place
afresh p = record { state = p.state; union = 0; waits = p.waits }

-- the whole list walked from a place to another, its marks added; or where it breaks
pub record Through (t : Table) (p : Place) (es : List ℕ) (q : Place) (count : ℕ) : Type 0 where
  pub walk : Walk t p.state es q.state
  pub stands : Stands t q
  pub marks : q.union ≡ union p.union (marks_of t es)
  pub counted : count ≡ length es

abbrev pub WalkedSays : Table → Place → List ℕ → Result Walked ℕ → Type 0
WalkedSays t p es (Ok w) = Through t p es w.place w.count
WalkedSays t p es (Err i) = Breaks t p.state es i

-- of every table with these lists, if the bytes are a list of edges
abbrev pub WalkSays : math.Option (List ℕ) → Place → List ℕ → List ℕ → List ℕ → Result Walked ℕ → Type 0
WalkSays said p from to marks r = (t : Table) (es : List ℕ) → Lies t from to marks → Stands t p → said ≡ math.some es → WalkedSays t p es r

-- a run that a text names, on a table
pub record Named : Type 0 where
  pub table : Table
  pub prefix : List ℕ
  pub cycle : List ℕ

-- its prefix ends at the knot
pub record KnotSays (g : Named) (knot : Place) : Type 0 where
  pub leads : Walk g.table g.table.start g.prefix knot.state
  pub stands : Stands g.table knot

-- a lasso with the union of its cycle's marks; or its first fault
pub record Closes (t : Table) (prefix cycle : List ℕ) (union : ℕ) : Type 0 where
  pub knot : ℕ
  pub leads : Walk t t.start prefix knot
  pub closes : Walk t knot cycle knot
  pub turns : 0 < length cycle
  pub marks : union ≡ marks_of t cycle

abbrev pub FaultSays : Named → Fault → ℕ → Type 0
FaultSays g fault.Prefix i = Breaks g.table g.table.start g.prefix i
FaultSays g fault.Empty i = NoCycle g.table g.prefix g.cycle i
FaultSays g fault.Cycle i = BadCycle g.table g.prefix g.cycle i
FaultSays g fault.Condition i = ⊥

abbrev pub TurnedSays : Named → Result ℕ Flaw → Type 0
TurnedSays g (Ok union) = Closes g.table g.prefix g.cycle union
TurnedSays g (Err flaw) = FaultSays g flaw.fault flaw.position
