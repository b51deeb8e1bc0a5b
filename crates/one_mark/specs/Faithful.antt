-- What the translation is for (the demand on it, for every input that is not refused). Assumes nothing.
use Rattle.std.specs.Prelude.{◌≡◌, ◌↔◌, List, [], map, ℕ, ◌-◌, ◌*◌, ◌<◌, get_or, Ok}
use Rattle.table.specs.declared.Acceptance.TheVariants.{Buchi}
use Rattle.table.specs.Table.{Table, waiting, Stop, Walk, borne}
use Rattle.table.specs.Condition.{Accepted}
use Rattle.table.specs.Refusal.{refusal}
use Rattle.climbing.specs.Climb.{levels, number}
use Rattle.climbing.specs.Place.{row_length, place, level_at, edge_at}
use Rattle.climbing.specs.Source.{stops, source}
use Rattle.climbing.specs.Translated.{lifted, translated, lifted_from, lifted_to, lifted_marks, under}
use Rattle.one_mark.specs.Over.{OneOver, OneUnder, Closes}

-- the table t, lifted: the edge and the level follow from the position, and the position from them
pub record Lifts (t : Table) (k : ℕ) : Type 0 where
  -- the lifted edge at position q is the edge there, taken at the level there
  pub edge : (q : ℕ) → q < t.edges * levels k → edge_at t k q < t.edges
  pub level : (q : ℕ) → q < t.edges * levels k → level_at t k q < levels k
  pub from : (q : ℕ) → q < t.edges * levels k → get_or (lifted t k).from q 0 ≡ lifted_from t k (level_at t k q) (edge_at t k q)
  pub to : (q : ℕ) → q < t.edges * levels k → get_or (lifted t k).to q 0 ≡ lifted_to t k (level_at t k q) (edge_at t k q)
  pub marks : (q : ℕ) → q < t.edges * levels k → borne (lifted t k) q ≡ lifted_marks t k (level_at t k q) (edge_at t k q)
  -- and edge e, taken at level j, stands at its place
  pub place_most : (e j : ℕ) → e < t.edges → j < levels k → place t k j e < t.edges * levels k
  pub edge_place : (e j : ℕ) → e < t.edges → j < levels k → edge_at t k (place t k j e) ≡ e
  pub level_place : (e j : ℕ) → e < t.edges → j < levels k → level_at t k (place t k j e) ≡ j
  pub place_edge : (q : ℕ) → q < t.edges * levels k → place t k (level_at t k q) (edge_at t k q) ≡ q

-- the position rule
pub record Positions (t : Table) (k : ℕ) : Type 0 where
  pub lifts : Lifts (source t k) k
  -- k above 0: the source under position q is the edge there
  pub under_edge_lem : (q : ℕ) → 0 < k → q < (translated t k).edges → under t k q ≡ edge_at t k q
  -- k = 0: the source under position g with from state s is the waiting edge if s is a stop state, else edge g - (stop states below s)
  pub under_stop : (g s : ℕ) → k ≡ 0 → g < (translated t k).edges → get_or (translated t k).from g 0 ≡ s → Stop t s → under t k g ≡ waiting
  pub under_other : (g s : ℕ) → k ≡ 0 → g < (translated t k).edges → get_or (translated t k).from g 0 ≡ s → (Stop t s → ⊥)
      → under t k g ≡ g - stops t.from s
  -- a waiting edge lies over the waiting edge
  pub under_waiting : under t k waiting ≡ waiting

-- the stop states
pub record Stops (t : Table) (k : ℕ) : Type 0 where
  -- they are the states with an empty row
  pub empty : (s : ℕ) → s < t.states → Stop t s ↔ (row_length t s ≡ 0)
  -- k above 0: the copies of a stop state, and of no other, are stop states of the translated table
  pub copies : (s j : ℕ) → 0 < k → j < levels k → Stop t s ↔ Stop (translated t k) (number k s j)
  -- k = 0: it has none
  pub none : (y : ℕ) → k ≡ 0 → Stop (translated t k) y → ⊥

pub record Faithful (t : Table) (k : ℕ) : Type 0 where
  -- the output is itself a table that rows 1 to 7 accept as Büchi 1
  pub table : refusal (translated t k) (Buchi 1) [] ≡ Ok tt
  pub positions : Positions t k
  pub stop_states : Stops t k
  -- each walk from the start lies under exactly one translated walk of equal length from the new start, and each translated walk over exactly one
  pub one_over : (es : List ℕ) (z : ℕ) → Walk t t.start es z → OneOver t k es
  pub one_under : (qs : List ℕ) (z : ℕ) → Walk (translated t k) (translated t k).start qs z → OneUnder t k qs
  -- a translated accepted lasso lies over an accepted one
  pub lasso_down : (p c : List ℕ) → Accepted (translated t k) (Buchi 1) [] p c → Accepted t (Buchi k) [] (map (under t k) p) (map (under t k) c)
  -- over each accepted lasso some turns of the cycle close to an accepted translated one
  pub lasso_up : (a c : List ℕ) → Accepted t (Buchi k) [] a c → Closes t k a c
