-- Edges at their places in the tables: each is one that fits, and the states that they leave never fall. Assumes nothing.
use mathlib.Core.List.{List, [], ◌∷◌, map}
use Prim.Native.Nat.{ℕ, zero, suc, ◌≤◌, ◌<◌}
use native.Mathlib.Omega.{arith}
use lib.ListN.{length, get_or}
use Rattle.job_text.specs.Value.{Edge}
use Rattle.hoa_rows.specs.Worth.{Fits, AllFit}
use Rattle.hoa_rows.proofs.Promises.{Ascends}

-- what holds of an edge that fits holds at its place
pub fits_at : (n c : ℕ) (P : ℕ → Type 0) (part : Edge → ℕ) → ((e : Edge) → Fits n c e → P (part e)) → (es : List Edge) → AllFit n c es → (i : ℕ)
    → i < length (map part es) → P (get_or (map part es) i 0)
fits_at n c P part g [] f i l = absurd (omega arith)
fits_at n c P part g (e ∷ es) f zero l = g e f.0
fits_at n c P part g (e ∷ es) f (suc i) l = fits_at n c P part g es f.1 i (omega arith)

-- edges in ascending order
pub never_falls : (q : ℕ) (es : List Edge) → Ascends q es → (i : ℕ) → suc i < length (map (λ (e : Edge). e.from) es)
    → get_or (map (λ (e : Edge). e.from) es) i 0 ≤ get_or (map (λ (e : Edge). e.from) es) (suc i) 0
never_falls q [] a i l = absurd (omega arith)
never_falls q (e ∷ []) a i l = absurd (omega arith)
never_falls q (e ∷ (f ∷ es)) a zero l = a.1.0
never_falls q (e ∷ (f ∷ es)) a (suc i) l = never_falls e.from (f ∷ es) a.1 i (omega arith)
