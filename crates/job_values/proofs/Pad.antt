-- Zeros after what is written: one cell more. Assumes nothing.
use mathlib.Core.Path.{◌≡◌}
use mathlib.Core.List.{List, [], ◌∷◌, ◌++◌, append_assoc}
use Prim.Native.Nat.{ℕ, suc, ◌-◌, ◌<◌}
use native.Mathlib.Omega.{arith}
use lib.ListN.{length, set, replicate, length-append}
use lib.Seq.{set-append_seam}
use Rattle.job_values.specs.Value.{pad_to}

pub pad_more : (n : ℕ) (xs : List ℕ) (v : ℕ) → length xs < n → set (pad_to n xs) (length xs) v ≡ pad_to n (xs ++ (v ∷ []))
pad_more n xs v l =
    let a : n - length xs ≡ suc (n - suc (length xs)) = omega arith in
    let b : n - length (xs ++ (v ∷ [])) ≡ n - suc (length xs) = omega (arith, length-append xs (v ∷ [])) in
    rw (a, b, append_assoc) (set-append_seam xs 0 (replicate (n - suc (length xs)) 0) v)
