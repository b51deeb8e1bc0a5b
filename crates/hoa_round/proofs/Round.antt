-- Reading what was written gives the same (`reads_back`); the edges that come back are the table's own cells (`same_cells`). Assumes nothing.
use Rattle.table.specs.Refusal.{refused}
use Rattle.table.specs.declared.Refusal.{Refusal}
use Rattle.std.specs.Prelude.{Result, Ok, Err}
use mathlib.Core.Bool.{Bool, true, false, cond}
use mathlib.Core.List.{List, [], ◌∷◌, ◌++◌, map, map-append}
use mathlib.Core.Path.{◌≡◌, refl, sym, ap, ◌∙◌}
use Prim.Native.Nat.{ℕ, zero, suc, ◌≤◌}
use native.Mathlib.Omega.{arith}
use lib.Dec.{ltb}
use lib.ListN.{length, get_or, take}
use lib.Seq.{take-suc, take-length}
use borrow.Author.Tests.{ltb-false}
use Rattle.marks.proofs.Cases.{either_false}
use Rattle.table.specs.declared.Acceptance.{Acceptance}
use Rattle.table.specs.Table.{lent}
use Rattle.table.proofs.Sound.{sound_fit}
use Rattle.job_text.specs.Value.{Edge}
use Rattle.job_text.specs.Job.{job}
use Rattle.hoa_standard.specs.Standard.{most_pairs}
use Rattle.hoa_written.specs.Written.{hoa_text}
use Rattle.hoa_written.specs.Writing.{most_written, most_written_edges, too_large, write_refusal}
use Rattle.writing.specs.Writing.{or_else}
use Rattle.hoa.specs.Reading.{read_hoa}
use Rattle.hoa_grammar.proofs.Complete.{read_all}
use Rattle.hoa_round.specs.Back.{edge_of, edges_to, SameCells, back_of, ReadsBack}
use Rattle.hoa_round.proofs.Back.{written_as}

-- what is written of a table and a condition that rows 1 to 7 and the writer's limits let pass is read as them
pub reads_back : ReadsBack
reads_back =
    record {
      back =
          λ n start from to marks c needs eight sound l m.
          read_all (hoa_text (lent n start from to marks) c needs) (back_of n start from to marks c needs)
          (written_as n start from to marks c needs eight (sound_fit n start from to marks c needs sound) l m);
    }

-- ---- every text that is written

-- no first finding, and no second
both_sound : (f g : Result Unit Refusal) → or_else f g ≡ Ok tt → (f ≡ Ok tt) × (g ≡ Ok tt)
both_sound (Ok done) g e = (refl, e)
both_sound (Err cause) g e = let z : ◌≡◌ {A = ℕ} 0 1 = cc in absurd (omega arith)

-- nothing was too large
not_large : (b : Bool) (f : Result Unit Refusal) → cond b (refused 42 0) f ≡ Ok tt → b ≡ false
not_large true f e = let z : ◌≡◌ {A = ℕ} 0 1 = cc in absurd (omega arith)
not_large false f e = refl

-- where the writer refuses nothing, with any room for the text, the text is read as the table and the condition
pub written_back : (n start : ℕ) (from to marks : List ℕ) (c : Acceptance) (needs : List ℕ) (room : ℕ) → length needs ≡ most_pairs
    → write_refusal (lent n start from to marks) c needs room ≡ Ok tt
    → read_hoa (hoa_text (lent n start from to marks) c needs) ≡ job (back_of n start from to marks c needs)
written_back n start from to marks c needs room eight e =
    let passed = both_sound _ _ e in
    let large = either_false (ltb most_written n) (ltb most_written_edges (length from)) (not_large (too_large (lent n start from to marks)) _ passed.1) in
    reads_back.back n start from to marks c needs eight passed.0 (ltb-false most_written n large.0) (ltb-false most_written_edges (length from) large.1)

-- ---- the edges as three lists

module _ (from to marks : List ℕ) (part : Edge → ℕ) (xs : List ℕ) (is : (e : ℕ) → part (edge_of from to marks e) ≡ get_or xs e 0) where
  -- one of the three, as far as place k
  cells_to : (k : ℕ) → k ≤ length xs → map part (edges_to from to marks k) ≡ take k xs
  cells_to zero l = refl
  cells_to (suc k) l =
      map-append part (edges_to from to marks k) (edge_of from to marks k ∷ [])
      ∙ ap (λ (ys : List ℕ). ys ++ (part (edge_of from to marks k) ∷ [])) (cells_to k (omega arith))
      ∙ ap (λ (x : ℕ). take k xs ++ (x ∷ [])) (is k)
      ∙ sym (take-suc xs k 0 l)

  -- all of it
  cells_all : length xs ≡ length from → map part (edges_to from to marks (length from)) ≡ xs
  cells_all e = ap (λ (k : ℕ). map part (edges_to from to marks k)) (sym e) ∙ cells_to (length xs) (omega arith) ∙ take-length xs

-- the edges that come back are the table's three lists
pub same_cells : (from to marks : List ℕ) → length to ≡ length from → length marks ≡ length from → SameCells from to marks
same_cells from to marks t m =
    record {
      froms = cells_all from to marks (λ (e : Edge). e.from) from (λ e. refl) refl;
      tos = cells_all from to marks (λ (e : Edge). e.to) to (λ e. refl) t;
      sets = cells_all from to marks (λ (e : Edge). e.marks) marks (λ e. refl) m;
    }
