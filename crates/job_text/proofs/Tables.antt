-- What the tables hold once a text was read: the parts of them that are as long as the edges are many are the job's edges. Assumes nothing.
use Rattle.table.specs.Refusal.{refused}
use Rattle.std.specs.Prelude.{Ok}
use mathlib.Core.Path.{◌≡◌, ap, ◌∙◌}
use mathlib.Core.List.{List, map}
use Prim.Native.Nat.{ℕ, ◌-◌, ◌≤◌}
use native.Mathlib.Omega.{arith}
use lib.ListN.{length, take, drop, replicate, length-append, length-map}
use lib.Seq.{take-append_seam}
use Rattle.job_text.specs.declared.reader.Reading.{Reading}
use Rattle.job_text.specs.Value.{Edge, pad_to}
use Rattle.job_text.specs.Job.{most_job_edges, Outcome, job, fault, read_job}
use Rattle.job_text.specs.Reading.{reading_of, cells_of, Read}

-- a refusal is no finding that all is sound
pub unlike : {number place : ℕ} → refused {A = Unit {0}} number place ≡ Ok tt → ⊥
unlike e = let z : ◌≡◌ {A = ℕ} 0 1 = cc in omega arith

-- the part of a table that is handed on is the edges' numbers
pub part_is : (f : Edge → ℕ) (es : List Edge) → take (length es - 0) (drop 0 (pad_to most_job_edges (map f es))) ≡ map f es
part_is f es =
    let n : length es - 0 ≡ length (map f es) = omega (arith, length-map es f) in
    ap (λ (k : ℕ). take k (pad_to most_job_edges (map f es))) n ∙ take-append_seam (map f es) _

-- the tables are as long as the edges are many
edges_within : (f : Edge → ℕ) (o : Outcome) {r : Reading} {cells : List ℕ} (before : List ℕ) → r ≡ reading_of o r.column → cells ≡ cells_of f o before → r.edges ≤ length cells
edges_within f (job j) before e g =
    omega (arith, ap (λ (x : Reading). x.edges) e, ap length g, length-append (map f j.edges) (replicate (most_job_edges - length (map f j.edges)) 0), length-map j.edges f)
edges_within f (fault number place) before e g = omega (arith, ap (λ (x : Reading). x.edges) e)

-- for any text that is read: the tables are long enough
module _ {text b b' b'' from to marks : List ℕ} {r : Reading} (R : Read text b b' b'' from to marks r) where
  pub froms_reach : r.edges ≤ length from
  froms_reach = edges_within (λ e. e.from) (read_job text) b R.reading R.froms

  pub tos_reach : r.edges ≤ length to
  tos_reach = edges_within (λ e. e.to) (read_job text) b' R.reading R.tos

  pub sets_reach : r.edges ≤ length marks
  sets_reach = edges_within (λ e. e.marks) (read_job text) b'' R.reading R.sets
