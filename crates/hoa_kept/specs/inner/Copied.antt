-- The kept edges by states, in the lent tables. Assumes nothing.
use Rattle.std.specs.Prelude.{◌≡◌, List, [], ◌++◌, ℕ, zero, suc, ◌+◌, ◌-◌, ◌≤◌, length, get_or, take, drop, replicate}

-- part of a list, from an index up to another
abbrev pub between : ℕ → ℕ → List ℕ → List ℕ
between first end xs = take (end - first) (drop first xs)

-- the index of the first edge of state q
abbrev pub first_of : List ℕ → ℕ → ℕ
first_of firsts q = get_or firsts q 0 - 1

-- the index behind its last one
abbrev pub end_of : List ℕ → ℕ → ℕ
end_of ends q = get_or ends q 0

-- how many edges the states below n have
abbrev pub total : List ℕ → List ℕ → ℕ → ℕ
total firsts ends zero = 0
total firsts ends (suc n) = total firsts ends n + (end_of ends n - first_of firsts n)

-- the states below n, each as often as it has edges
abbrev pub states_of : List ℕ → List ℕ → ℕ → List ℕ
states_of firsts ends zero = []
states_of firsts ends (suc n) = states_of firsts ends n ++ replicate (end_of ends n - first_of firsts n) n

-- the cells of the states below n
abbrev pub parts_of : List ℕ → List ℕ → List ℕ → ℕ → List ℕ
parts_of firsts ends source zero = []
parts_of firsts ends source (suc n) = parts_of firsts ends source n ++ between (first_of firsts n) (end_of ends n) source

-- each state's edges are among those that are kept, and the lent tables are long enough
pub record Fitting (states : ℕ) (firsts ends tos sets from to marks : List ℕ) : Type 0 where
  pub few : states ≤ 256
  pub targets : length tos ≡ 512
  pub unions : length sets ≡ 512
  pub ordered : (q : ℕ) → first_of firsts q ≤ end_of ends q
  pub within : (q : ℕ) → end_of ends q ≤ 512
  pub from_room : total firsts ends states ≤ length from
  pub to_room : total firsts ends states ≤ length to
  pub marks_room : total firsts ends states ≤ length marks

pub record RowsCopied (states : ℕ) (firsts ends tos sets from' to' marks' : List ℕ) : Type 0 where
  pub froms : take (total firsts ends states) from' ≡ states_of firsts ends states
  pub targets : take (total firsts ends states) to' ≡ parts_of firsts ends tos states
  pub unions : take (total firsts ends states) marks' ≡ parts_of firsts ends sets states
