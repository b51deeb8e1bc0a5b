-- What the answer of `check` says in the rules' numbers: 0 exactly if rows 1 to 7 find nothing; rows 1 to 4 with place 0, rows 5 to 7 with an
-- edge's place. Assumes nothing.
use Rattle.table.specs.declared.Refusal.{Refusal}
use Rattle.std.specs.Prelude.{Result, Ok, Err}
use mathlib.Core.Path.{◌≡◌, refl, sym, ap, ◌∙◌, subst}
use mathlib.Core.Bool.{Bool, true, false, cond}
use mathlib.Core.Logic.{◌↔◌}
use mathlib.Core.List.{List}
use Prim.Native.Nat.{ℕ, zero, suc, ◌+◌, ◌≤◌, ◌<◌}
use native.Mathlib.Omega.{arith}
use Rattle.table.specs.declared.Acceptance.{Acceptance}
use Rattle.table.specs.Table.{Table, lent}
use Rattle.table.specs.Refusal.{wrong_states, wrong_edges, wrong_start, wrong_condition, wrong_end, wrong_order, wrong_mark, used, edge_refusal, refusal, number_of, place_of, refused}
use Rattle.table.proofs.Sound.{Fit, sound_fit, fit_sound}

-- a refusal's number and place, on a table of m edges: rows 1 to 4 are of the whole table, rows 5 to 7 of an edge
pub record CauseAt (m number place : ℕ) : Type 0 where
  pub some : 0 < number
  pub most : number ≤ 7
  pub whole : number ≤ 4 → place ≡ 0
  pub edge : 5 ≤ number → place < m

-- what `check` tells
pub record Told (t : Table) (c : Acceptance) (needs : List ℕ) (number place : ℕ) : Type 0 where
  pub answered : (number ≡ 0) ↔ Fit t c needs
  pub no_place : number ≡ 0 → place ≡ 0
  pub refused : 0 < number → CauseAt t.edges number place

-- ---- a refusal tells its number and its place

abbrev number_told : {A : Type 0} → Result A Refusal → ℕ
number_told (Ok done) = 0
number_told (Err cause) = cause.number

abbrev place_told : {A : Type 0} → Result A Refusal → ℕ
place_told (Ok done) = 0
place_told (Err cause) = cause.place

pub same_told : {A : Type 0} {number place x p : ℕ} → refused {A = A} number place ≡ refused x p → (number ≡ x) × (place ≡ p)
same_told e = (ap number_told e, ap place_told e)

-- ---- every refusal has its row

abbrev Placed : ℕ → Result Unit Refusal → Type 0
Placed m (Ok done) = Unit {0}
Placed m (Err cause) = CauseAt m cause.number cause.place

first_placed : (m : ℕ) (b : Bool) (f g : Result Unit Refusal) → Placed m f → Placed m g → Placed m (cond b f g)
first_placed m true f g p q = p
first_placed m false f g p q = q

whole_row : (m number : ℕ) → 0 < number → number ≤ 4 → CauseAt m number 0
whole_row m number l h = record { some = l; most = omega arith; whole = λ k. refl; edge = λ k. absurd (omega arith) }

edge_row : (m number e : ℕ) → 5 ≤ number → number ≤ 7 → e < m → CauseAt m number e
edge_row m number e l h b = record { some = omega arith; most = h; whole = λ k. absurd (omega arith); edge = λ k. b }

edges_placed : (t : Table) (u e k : ℕ) → e + k ≤ t.edges → Placed t.edges (edge_refusal t u e k)
edges_placed t u e zero h = tt
edges_placed t u e (suc k) h =
    let m = t.edges in
    first_placed m (wrong_end t e) (refused 5 e) _ (edge_row m 5 e (omega arith) (omega arith) (omega arith))
    (first_placed m (wrong_order t e) (refused 6 e) _ (edge_row m 6 e (omega arith) (omega arith) (omega arith))
    (first_placed m (wrong_mark t u e) (refused 7 e) _ (edge_row m 7 e (omega arith) (omega arith) (omega arith)) (edges_placed t u (suc e) k (omega arith))))

all_placed : (t : Table) (c : Acceptance) (needs : List ℕ) → Placed t.edges (refusal t c needs)
all_placed t c needs =
    let m = t.edges in
    first_placed m (wrong_states t) (refused 1 0) _ (whole_row m 1 (omega arith) (omega arith))
    (first_placed m (wrong_edges t) (refused 2 0) _ (whole_row m 2 (omega arith) (omega arith))
    (first_placed m (wrong_start t) (refused 3 0) _ (whole_row m 3 (omega arith) (omega arith))
    (first_placed m (wrong_condition c needs) (refused 4 0) _ (whole_row m 4 (omega arith) (omega arith)) (edges_placed t (used c needs) 0 m (omega arith)))))

pub refused_row : (t : Table) (c : Acceptance) (needs : List ℕ) (number place : ℕ) → refusal t c needs ≡ refused number place
    → CauseAt t.edges number place
refused_row t c needs number place e = subst (Placed t.edges) e (all_placed t c needs)

-- ---- the door

pub check_told : (n start : ℕ) (from to marks : List ℕ) (c : Acceptance) (needs : List ℕ) (r : Result Unit Refusal)
    → r ≡ refusal (lent n start from to marks) c needs → Told (lent n start from to marks) c needs (number_of r) (place_of r)
check_told n start from to marks c needs (Ok done) e =
    record {
      answered = (λ z. sound_fit n start from to marks c needs (sym e), λ f. refl);
      no_place = λ z. refl;
      refused = λ l. absurd (omega arith);
    }
check_told n start from to marks c needs (Err cause) e =
    let row = refused_row (lent n start from to marks) c needs cause.number cause.place (sym e) in
    record {
      answered = (λ z. absurd (omega (arith, row.some)), λ f. absurd (unlike (e ∙ fit_sound n start from to marks c needs f)));
      no_place = λ z. absurd (omega (arith, row.some));
      refused = λ l. row;
    }
  where
    unlike : refused {A = Unit {0}} cause.number cause.place ≡ Ok tt → ⊥
    unlike q = let z : ◌≡◌ {A = ℕ} 0 1 = cc in omega arith
