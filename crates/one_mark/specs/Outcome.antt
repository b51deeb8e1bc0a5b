-- What the translation answers and leaves in the lent outputs (docs/RULES.md, "What comes back": "For the translation 1 to 7 in the same way, then
-- 10, 11"). Assumes nothing.
use Rattle.table.specs.declared.Refusal.{Refusal}
use Rattle.std.specs.Prelude.{◌≡◌, Bool, ◌||◌, cond, List, [], ◌++◌, ℕ, ◌-◌, ltb, length, replicate, Result, Ok, Err}
use Rattle.table.specs.declared.Acceptance.TheVariants.{Buchi}
use Rattle.table.specs.Table.{Table}
use Rattle.table.specs.Refusal.{refusal, most_states, most_edges, refused}
use Rattle.one_mark.specs.declared.Translation.{Translation}
use Rattle.climbing.specs.Translated.{translated}

-- row 10: a table to be made is above 4,096 states or 32,768 edges
abbrev pub large : ℕ → ℕ → Bool
large states edges = ltb most_states states || ltb most_edges edges

-- row 11: a lent output, of the lengths a, b and c, is shorter than the translated edge count
abbrev pub short : ℕ → ℕ → ℕ → ℕ → Bool
short edges a b c = ltb a edges || (ltb b edges || ltb c edges)

-- a refusal of rows 1 to 7 comes first
abbrev pub unless : Result Unit Refusal → Result Translation Refusal → Result Translation Refusal
unless (Ok done) r = r
unless (Err cause) r = Err cause

-- a table was made, with these counts and this start
abbrev pub made_of : ℕ → ℕ → ℕ → Result Translation Refusal
made_of states edges start = Ok (record { states = states; edges = edges; start = start })

-- the first cause of rows 1 to 7, with k read as a Büchi count; then 10; then 11; then both counts and the new start of the translated table
abbrev pub answer : Table → ℕ → ℕ → ℕ → ℕ → Result Translation Refusal
answer t k a b c =
    unless (refusal t (Buchi k) [])
    (cond (large (translated t k).states (translated t k).edges) (refused 10 0)
    (cond (short (translated t k).edges a b c) (refused 11 0)
    (made_of (translated t k).states (translated t k).edges (translated t k).start)))

-- what a lent output holds: after a table was made its list and then zeros; after a refusal what it held
abbrev pub held : Result Translation Refusal → List ℕ → List ℕ → List ℕ
held (Ok counts) made old = made ++ replicate (length old - length made) 0
held (Err cause) made old = old

-- the promise of the translation: its answer, and the three outputs
pub record Outcome (t : Table) (k : ℕ) (leaves arrives bears : List ℕ) (r : Result Translation Refusal) (leaves' arrives' bears' : List ℕ) : Type 0 where
  pub answered : r ≡ answer t k (length leaves) (length arrives) (length bears)
  pub from_held : leaves' ≡ held r (translated t k).from leaves
  pub to_held : arrives' ≡ held r (translated t k).to arrives
  pub marks_held : bears' ≡ held r (translated t k).marks bears

-- ---- the rules' number, place, counts and new start for each answer. The number is 0 exactly if a table was made (`Faithful.outputs_hold` and
-- `Faithful.refused_untouched`, in proofs/, go by it)

abbrev pub number_of : Result Translation Refusal → ℕ
number_of (Ok counts) = 0
number_of (Err cause) = cause.number

abbrev pub place_of : Result Translation Refusal → ℕ
place_of (Ok counts) = 0
place_of (Err cause) = cause.place

abbrev pub states_of : Result Translation Refusal → ℕ
states_of (Ok counts) = counts.states
states_of (Err cause) = 0

abbrev pub edges_of : Result Translation Refusal → ℕ
edges_of (Ok counts) = counts.edges
edges_of (Err cause) = 0

abbrev pub start_of : Result Translation Refusal → ℕ
start_of (Ok counts) = counts.start
start_of (Err cause) = 0
