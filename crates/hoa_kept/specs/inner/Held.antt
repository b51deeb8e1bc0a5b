-- How the rows so far are held in numbers and tables, and what a row and an edge change. Assumes nothing.
use Rattle.std.specs.Prelude.{◌≡◌, List, ◌∷◌, map, ℕ, zero, suc, ◌+◌, ◌-◌, ◌≤◌, ◌<◌, max, length, get_or, set, take, drop, replicate}
use Rattle.job_text.specs.Value.{Edge, pad_to}
use Rattle.job_text.specs.Job.{most_job_states, most_job_edges}
use Rattle.hoa_kept.specs.declared.held.RowsSoFar.{RowsSoFar}
use Rattle.hoa_entry.specs.Rows.{Rows, last_row}
use Rattle.hoa_entry.specs.inner.Reads.{Listed}
use Rattle.hoa_kept.specs.Sorted.{leaving}
use Rattle.hoa_kept.specs.inner.Copied.{first_of, end_of}

-- ---- the whole

pub record Holds (b : Rows) (s : RowsSoFar) : Type 0 where
  pub count : s.count ≡ length b.seen
  pub row : s.row ≡ last_row b.seen
  pub sig : s.sig ≡ b.sig
  pub kept : s.kept ≡ length b.edges
  pub largest : s.largest ≡ b.largest
  pub targets : s.tos ≡ pad_to most_job_edges (map (λ (e : Edge). e.to) b.edges)
  pub unions : s.sets ≡ pad_to most_job_edges (map (λ (e : Edge). e.marks) b.edges)
  pub states_first : length s.firsts ≡ most_job_states
  pub states_end : length s.ends ≡ most_job_states
  pub listed : Listed b.seen s.firsts
  -- the edges of a state stand together
  pub parts : (q : ℕ) → leaving q b.edges ≡ take (end_of s.ends q - first_of s.firsts q) (drop (first_of s.firsts q) b.edges)
  pub ordered : (q : ℕ) → first_of s.firsts q ≤ end_of s.ends q
  pub within : (q : ℕ) → end_of s.ends q ≤ length b.edges
  -- a state without a row has none
  pub empty : (q : ℕ) → get_or s.firsts q 0 ≡ 0 → end_of s.ends q ≡ 0
  -- those of the last row stand last
  pub last : (q : ℕ) (qs : List ℕ) → b.seen ≡ q ∷ qs → end_of s.ends q ≡ length b.edges

-- the numbers are small enough for the tables; there are no more rows than bytes
pub record Room (s : RowsSoFar) (at : ℕ) : Type 0 where
  pub rows : s.count ≤ at
  pub state : s.row < most_job_states
  pub edges : s.kept ≤ most_job_edges

-- nothing is held yet
abbrev pub none_yet : ℕ → RowsSoFar
none_yet start =
    record {
      count = 0;
      row = 0;
      sig = 0;
      kept = 0;
      largest = start;
      tos = replicate most_job_edges 0;
      sets = replicate most_job_edges 0;
      firsts = replicate most_job_states 0;
      ends = replicate most_job_states 0;
    }

-- ---- a row

pub record RowRoom (s : RowsSoFar) (number : ℕ) : Type 0 where
  pub some : s.count < 9223372036854775808
  pub edges : s.kept ≤ most_job_edges
  pub state : number < most_job_states

-- the rows with a row more
abbrev pub row_begun : RowsSoFar → ℕ → ℕ → RowsSoFar
row_begun s number sig =
    record s {
      count = s.count + 1;
      row = number;
      sig = sig;
      largest = max s.largest number;
      firsts = set s.firsts number (s.kept + 1);
      ends = set s.ends number s.kept;
    }

-- ---- an edge

pub record EdgeRoom (s : RowsSoFar) (x : ℕ) : Type 0 where
  pub state : s.row < most_job_states
  pub edges : s.kept ≤ most_job_edges
  pub one_more : 0 < x → s.kept < most_job_edges

-- the rows with an edge more, where it is kept
abbrev pub rows_with : RowsSoFar → ℕ → ℕ → ℕ → RowsSoFar
rows_with s zero to marks = record s { largest = max s.largest to }
rows_with s (suc x) to marks =
    record s {
      kept = s.kept + 1;
      largest = max s.largest to;
      tos = set s.tos s.kept to;
      sets = set s.sets s.kept marks;
      ends = set s.ends s.row (s.kept + 1);
    }
