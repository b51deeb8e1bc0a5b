-- What comes back when a text that was written is read (docs/RULES.md, "The Hanoi format", the writer): "Reading what was written gives the same n, start,
-- edges, condition and needs; Streett 0 comes back as Büchi 0". Assumes nothing.
use Rattle.std.specs.Prelude.{◌≡◌, List, [], ◌∷◌, ◌++◌, map, ℕ, zero, suc, ◌≤◌, length, get_or, Ok}
use Rattle.table.specs.declared.Acceptance.{Acceptance}
use Rattle.table.specs.declared.Acceptance.TheVariants as acceptance
use Rattle.table.specs.Table.{lent}
use Rattle.table.specs.Refusal.{refusal}
use Rattle.job_text.specs.Value.{Edge}
use Rattle.job_text.specs.Job.{Job, job}
use Rattle.hoa_standard.specs.Standard.{no_needs, most_pairs}
use Rattle.hoa_written.specs.Written.{hoa_text}
use Rattle.hoa_written.specs.Writing.{most_written, most_written_edges}
use Rattle.hoa.specs.Reading.{read_hoa}

-- the condition: "Streett 0 comes back as Büchi 0", both are written as `t`
abbrev pub comes_back : Acceptance → Acceptance
comes_back (acceptance.Buchi k) = acceptance.Buchi k
comes_back (acceptance.Streett zero) = acceptance.Buchi zero
comes_back (acceptance.Streett (suc p)) = acceptance.Streett (suc p)
comes_back (acceptance.Rabin p) = acceptance.Rabin p

-- the needs, of a Rabin condition; other kinds have none, so that zeros come back also where others stood beside them, which row 4 lets pass
abbrev pub needs_for : Acceptance → List ℕ → List ℕ
needs_for (acceptance.Buchi k) needs = no_needs
needs_for (acceptance.Streett p) needs = no_needs
needs_for (acceptance.Rabin p) needs = needs

-- edge e of the table
abbrev pub edge_of : List ℕ → List ℕ → List ℕ → ℕ → Edge
edge_of from to marks e = record { from = get_or from e 0; to = get_or to e 0; marks = get_or marks e 0 }

-- the edges below k, in their order
abbrev pub edges_to : List ℕ → List ℕ → List ℕ → ℕ → List Edge
edges_to from to marks zero = []
edges_to from to marks (suc k) = edges_to from to marks k ++ (edge_of from to marks k ∷ [])

-- these edges are the table's three lists (`Round.same_cells`, in proofs/)
pub record SameCells (from to marks : List ℕ) : Type 0 where
  pub froms : map (λ (e : Edge). e.from) (edges_to from to marks (length from)) ≡ from
  pub tos : map (λ (e : Edge). e.to) (edges_to from to marks (length from)) ≡ to
  pub sets : map (λ (e : Edge). e.marks) (edges_to from to marks (length from)) ≡ marks

-- "the same n, start, edges, condition and needs"
abbrev pub back_of : ℕ → ℕ → List ℕ → List ℕ → List ℕ → Acceptance → List ℕ → Job
back_of n start from to marks c needs =
    record { states = n; start = start; condition = comes_back c; needs = needs_for c needs; edges = edges_to from to marks (length from) }

-- the whole promise: what is written of a table and a condition that rows 1 to 7 and the writer's limits let pass is read as them (`Round.reads_back`, in
-- proofs/)
pub record ReadsBack : Type 0 where
  pub back : (n start : ℕ) (from to marks : List ℕ) (c : Acceptance) (needs : List ℕ) → length needs ≡ most_pairs
      → refusal (lent n start from to marks) c needs ≡ Ok tt → n ≤ most_written → length from ≤ most_written_edges
      → read_hoa (hoa_text (lent n start from to marks) c needs) ≡ job (back_of n start from to marks c needs)
