-- The translated table (docs/RULES.md, "One-mark translation"). It is read as Büchi 1. Assumes nothing.
use Rattle.std.specs.Prelude.{cond, ℕ, ◌*◌, eqb}
use Rattle.table.specs.Table.{Table, waiting, borne}
use Rattle.climbing.specs.Climb.{levels, number, landing, bearing}
use Rattle.climbing.specs.Place.{leaves, arrives, in_order, edge_at}
use Rattle.climbing.specs.Source.{source, source_edge}

-- ---- edge e of t, taken at level j

-- where the translated edge leaves
abbrev pub lifted_from : Table → ℕ → ℕ → ℕ → ℕ
lifted_from t k j e = number k (leaves t e) j

-- where it arrives
abbrev pub lifted_to : Table → ℕ → ℕ → ℕ → ℕ
lifted_to t k j e = number k (arrives t e) (landing k (borne t e) j)

-- what it bears
abbrev pub lifted_marks : Table → ℕ → ℕ → ℕ → ℕ
lifted_marks t k j e = bearing k (borne t e) j

-- every edge, taken at every level: n·K states, the start at level 0, and m·K edges
abbrev pub lifted : Table → ℕ → Table
lifted t k =
    record {
      states = t.states * levels k;
      start = number k t.start 0;
      edges = t.edges * levels k;
      from = in_order t k (lifted_from t k);
      to = in_order t k (lifted_to t k);
      marks = in_order t k (lifted_marks t k);
    }

-- ---- the translated table: with k = 0 it has n states and m + z edges and no stop state, since every stop state first gets a loop
abbrev pub translated : Table → ℕ → Table
translated t k = lifted (source t k) k

-- the source edge under the translated edge q: at position q that of the edge that is taken there; and a waiting edge lies over the waiting edge
unfoldable pub under : Table → ℕ → ℕ → ℕ
under t k q = cond (eqb q waiting) waiting (source_edge t k (edge_at (source t k) k q))
