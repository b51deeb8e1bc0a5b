-- The table that is lifted (docs/RULES.md, "One-mark translation"): the lent one, and with k = 0 a loop at each of its stop states. Assumes nothing.
use Rattle.std.specs.Prelude.{cond, List, ◌++◌, ℕ, zero, suc, ◌+◌, ◌-◌, eqb, replicate}
use Rattle.table.specs.Table.{Table, waiting, borne}
use Rattle.climbing.specs.Place.{front, row_start, row_length, cells, each, leaves, arrives}

-- 1 if s is a stop state, 0 if an edge leaves it (`StopStates.stop_empty`, in proofs/: the stop states are those with an empty row)
abbrev pub halts : List ℕ → ℕ → ℕ
halts from s = 1 - (front (suc s) from - front s from)

-- how many stop states there are below s
abbrev pub stops : List ℕ → ℕ → ℕ
stops from zero = 0
stops from (suc s) = stops from s + halts from s

-- the row of s: what f gives for its edges in order, or for a stop state the one number x
abbrev pub row_or : Table → (ℕ → ℕ) → ℕ → ℕ → List ℕ
row_or t f x s = cells f (row_start t s) (row_length t s) ++ replicate (halts t.from s) x

-- m + z edges, z the number of all stop states: the edges of t, and a loop s>s{} at each stop state s, which is marked like every edge with k = 0
abbrev pub looped : Table → Table
looped t =
    record {
      states = t.states;
      start = t.start;
      edges = t.edges + stops t.from t.states;
      from = each (λ s. row_or t (leaves t) s s) 0 t.states;
      to = each (λ s. row_or t (arrives t) s s) 0 t.states;
      marks = each (λ s. row_or t (borne t) 0 s) 0 t.states;
    }

-- k above 0: nothing is added
abbrev pub source : Table → ℕ → Table
source t zero = looped t
source t (suc k) = t

-- the source of the edge g that leaves s, with a loop at each stop state: the waiting edge if s is one, else edge g - (stop states below s)
abbrev pub unlooped : Table → ℕ → ℕ → ℕ
unlooped t s g = cond (eqb (row_length t s) 0) waiting (g - stops t.from s)

-- the edge of t that edge e of the table that is lifted stands for
abbrev pub source_edge : Table → ℕ → ℕ → ℕ
source_edge t zero e = unlooped t (leaves (looped t) e) e
source_edge t (suc k) e = e
