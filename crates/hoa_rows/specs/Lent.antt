-- What comes back for the rows of a text, and what the lent tables hold (docs/RULES.md, "The Hanoi format", what comes back). Assumes nothing.
use Rattle.std.specs.Prelude.{Result, Ok, Err, ◌≡◌, Bool, cond, ◌&&◌, List, map, ℕ, leb, length}
use Rattle.job_text.specs.Value.{Edge, pad_to}
use Rattle.hoa_tokens.specs.declared.BadToken.{BadToken}
use Rattle.hoa_tokens.specs.Stream.{tokens_at, bad_at}
use Rattle.hoa_step.specs.Machine.{End, done_at, wrong_at, cut, run}
use Rattle.hoa_entry.specs.declared.Limits.{Limits}
use Rattle.hoa_rows.specs.declared.RowsRead.{RowsRead}
use Rattle.hoa_entry.specs.Rows as spec
use Rattle.hoa_entry.specs.Rows.{no_rows, entries, row_step}
use Rattle.hoa_kept.specs.Sorted.{sorted}

-- how the rows of a text end, behind `--BODY--` at a place of it
unfoldable pub rows_end : Limits → List ℕ → ℕ → End spec.Kept
rows_end l text at = run (row_step l) (tokens_at text at) (entries (no_rows l.start))

-- the edges that are kept, sorted
abbrev pub edges_of : spec.Kept → List Edge
edges_of k = sorted k.states k.edges

-- the lent tables are long enough
abbrev pub fits : ℕ → List ℕ → List ℕ → List ℕ → Bool
fits m from to marks = leb m (length from) && (leb m (length to) && leb m (length marks))

-- "Lent tables shorter than the kept edges: 11 at place 0, after 40 to 42"; a text ends in a token, so that nothing is cut
abbrev pub told : End spec.Kept → List ℕ → List ℕ → List ℕ → Result RowsRead BadToken
told (done_at k ps) from to marks = cond (fits (length (edges_of k)) from to marks) (Ok (record { states = k.states; edges = length (edges_of k) })) (bad_at 11 0)
told (wrong_at number place) from to marks = bad_at number place
told cut from to marks = bad_at 40 0

-- a table's cells afterwards: the edges' numbers and zeros after them; or, where the text or the tables are refused, as they were
abbrev pub cells_of : (Edge → ℕ) → Result RowsRead BadToken → End spec.Kept → List ℕ → List ℕ
cells_of part (Ok r) (done_at k ps) before = pad_to (length before) (map part (edges_of k))
cells_of part (Ok r) (wrong_at number place) before = before
cells_of part (Ok r) cut before = before
cells_of part (Err e) end before = before

-- the whole promise
pub record RowsInto (l : Limits) (text : List ℕ) (at : ℕ) (from to marks from' to' marks' : List ℕ) (r : Result RowsRead BadToken) : Type 0 where
  pub reading : r ≡ told (rows_end l text at) from to marks
  pub froms : from' ≡ cells_of (λ e. e.from) r (rows_end l text at) from
  pub tos : to' ≡ cells_of (λ e. e.to) r (rows_end l text at) to
  pub sets : marks' ≡ cells_of (λ e. e.marks) r (rows_end l text at) marks
