-- A printed run is one of the form's runs: it says the lasso that the judge found, with the pair that it names. And what is printed is within the form's numbers.
-- Assumes nothing.
use mathlib.Core.Path.{◌≡◌, sym, ap, ◌∙◌}
use mathlib.Core.Bool.{false, false≢true}
use mathlib.Core.Logic.{inl, inr}
use mathlib.Core.List.{List, [], ◌∷◌, ◌++◌}
use Prim.Native.Nat.{ℕ, zero, suc, ◌+◌, ◌-◌, ◌≤◌}
use native.Mathlib.Omega.{arith}
use lib.ListN.{length, replicate}
use lib.Seq.{take-append_seam, drop-append_seam, take-length}
use Rattle.table.specs.declared.Acceptance.{Acceptance}
use Rattle.table.specs.declared.Acceptance.TheVariants.{Buchi, Streett, Rabin}
use Rattle.table.specs.declared.Verdict.TheVariants.{Run, Empty}
use Rattle.table.specs.Table.{Table, Step, Walk, marks_of}
use Rattle.table.specs.Condition.{Accepts, Empty as NoLasso}
use Rattle.table.specs.Refusal.{most_edges, wrong_condition}
use Rattle.table.proofs.Sound.{used_few, rabin_few}
use Rattle.job_text.specs.Value.{most_number}
use Rattle.answer_text.specs.Printed.{is_rabin, answer_text}
use Rattle.erasing.specs.Depth.{Deep}
use Rattle.judging.specs.Answer.{Named, RunSays}
use Rattle.judging.proofs.Depths.{depth_few}
use Rattle.answer_form.specs.Form.{Within, OurRun, run, Says}
use Rattle.answer_check.specs.Fault.{Meets}

-- ---- numbers at most 65,535

step_within_lem : (t : Table) → t.edges ≤ most_edges → (e s z : ℕ) → Step t e s z → e ≤ most_number
step_within_lem t few e s z (inl edge) = omega (arith, edge.listed)
step_within_lem t few e s z (inr waits) = omega (arith, waits.number)

-- the edges of a walk are
walk_within_lem : (t : Table) → t.edges ≤ most_edges → (s : ℕ) (es : List ℕ) (z : ℕ) → Walk t s es z → Within es
walk_within_lem t few s [] z w i = omega arith
walk_within_lem t few s (e ∷ es) z w zero = step_within_lem t few e s w.0 w.1.0
walk_within_lem t few s (e ∷ es) z w (suc i) = walk_within_lem t few w.0 es z w.1.1 i

-- .. and so is the named pair
pair_within : (t : Table) (c : Acceptance) (needs cycle : List ℕ) (pair : ℕ) → wrong_condition c needs ≡ false → Named t c needs cycle pair → pair ≤ most_number
pair_within t (Buchi k) needs cycle pair w e = omega (arith, e)
pair_within t (Streett p) needs cycle pair w e = omega (arith, e)
pair_within t (Rabin p) needs cycle pair w l = omega (arith, l.below, rabin_few p needs w)

-- .. and the depth
pub depth_within : (t : Table) (c : Acceptance) (needs : List ℕ) (depth : ℕ) → wrong_condition c needs ≡ false → NoLasso t c needs → Deep t c Empty depth
    → depth ≤ most_number
depth_within t (Buchi k) needs depth w none e = omega (arith, e)
depth_within t (Streett p) needs depth w none D = omega (arith, depth_few needs none D, used_few (Streett p) needs w)
depth_within t (Rabin p) needs depth w none e = omega (arith, e)

-- 0 unless the kind is Rabin
no_pair : (t : Table) (c : Acceptance) (needs cycle : List ℕ) (pair : ℕ) → Named t c needs cycle pair → is_rabin c ≡ false → pair ≡ 0
no_pair t (Buchi k) needs cycle pair e f = e
no_pair t (Streett p) needs cycle pair e f = e
no_pair t (Rabin p) needs cycle pair l f = absurd (false≢true (sym f))

-- the named pair is met
pub named_met : (t : Table) (c : Acceptance) (needs cycle : List ℕ) (pair : ℕ) → Accepts c needs (marks_of t cycle) → Named t c needs cycle pair
    → Meets c needs (marks_of t cycle) pair
named_met t (Buchi k) needs cycle pair a e = a
named_met t (Streett p) needs cycle pair a e = a
named_met t (Rabin p) needs cycle pair a l = (l.below, l.met)

-- ---- the printed text

-- of the room only prefix and cycle are printed
lists_printed : (c : Acceptance) (pair : ℕ) (p q rest : List ℕ)
    → answer_text (Run (length p) (length q) pair) 0 0 c (p ++ (q ++ rest)) ≡ answer_text (Run (length p) (length q) pair) 0 0 c (p ++ q)
unfolding answer_text
lists_printed c pair p q rest =
    rw (take-append_seam p (q ++ rest), drop-append_seam p (q ++ rest), take-append_seam q rest, take-append_seam p q, drop-append_seam p q, take-length q)

module _ (t : Table) (c : Acceptance) (needs : List ℕ) (few : t.edges ≤ most_edges) (permitted : wrong_condition c needs ≡ false) where
  -- a run of ours
  our_run : {p q pair : ℕ} {room : List ℕ} (R : RunSays t c needs p q pair room) → OurRun c pair R.prefix R.cycle
  our_run {p} {q} {pair} R =
      let lasso = R.accepted.lasso in
      record {
        prefix_within = walk_within_lem t few t.start R.prefix lasso.knot lasso.leads;
        cycle_within = walk_within_lem t few lasso.knot R.cycle lasso.knot lasso.closes;
        pair_within = pair_within t c needs R.cycle pair permitted R.named;
        no_pair = no_pair t c needs R.cycle pair R.named;
      }

  -- its text says the lasso that the judge found
  pub run_says : {p q pair : ℕ} {room : List ℕ} (R : RunSays t c needs p q pair room)
      → Says c (answer_text (Run p q pair) 0 0 c room) (run pair R.prefix R.cycle)
  run_says {p} {q} {pair} {room} R =
      record {
        ours = our_run R;
        prints = rw (sym R.prefix_is, sym R.cycle_is) (ap (answer_text (Run (length R.prefix) (length R.cycle) pair) 0 0 c) R.cells
            ∙ lists_printed c pair R.prefix R.cycle (replicate (length room - (p + q)) 0));
      }
