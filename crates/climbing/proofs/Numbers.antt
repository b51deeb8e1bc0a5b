-- State numbers and positions, as products. Assumes nothing.
use mathlib.Core.Path.{◌≡◌, sym, ap, ◌∙◌}
use Prim.Native.Nat.{ℕ, suc, ◌+◌, ◌-◌, ◌*◌, ◌/◌, ◌%◌, ◌≤◌, ◌<◌}
use native.Mathlib.Nat.{mul-le-mul_right, le-div_iff_mul-le, div-mul-le_self, le_trans}
use native.Mathlib.Omega.{arith}
use lib.Arith.{digits_lt, digits_div, digits_mod}
use Rattle.marks.proofs.Cases.{below}

-- state s at level j has a number below n·K
pub number_below : (n K s j : ℕ) → s < n → j < K → s * K + j < n * K
number_below n K s j l h = digits_lt l h

-- w cells behind j times w are within K times w
pub level_fits : (j K w : ℕ) → j < K → j * w + w ≤ K * w
level_fits j K w l = let h : suc j * w ≤ K * w = mul-le-mul_right w l in omega arith

pub rows_fit : (b m K : ℕ) → b ≤ m → b * K ≤ m * K
rows_fit b m K l = mul-le-mul_right K l

-- a quotient grows with its number
pub div_up : (K x y : ℕ) → 0 < K → x ≤ y → x / K ≤ y / K
div_up K x y some l = (le-div_iff_mul-le some).1 (le_trans (div-mul-le_self x K) l)

-- numbers in the order of state, then level
pub number_up : (K s j s' j' : ℕ) → j < K → s ≤ s' → (s ≡ s' → j ≤ j') → s * K + j ≤ s' * K + j'
number_up K s j s' j' l up level =
    below s s'
    (λ h. let more : suc s * K ≤ s' * K = mul-le-mul_right K h in omega arith)
    (λ h. let e : s ≡ s' = omega arith in rw e (omega (arith, level e)))

-- a number has one state and one level
pub number_same : (K s j s' j' : ℕ) → j < K → j' < K → s * K + j ≡ s' * K + j' → (s ≡ s') × (j ≡ j')
number_same K s j s' j' l l' e =
    (sym (digits_div s l) ∙ ap (λ (x : ℕ). x / K) e ∙ digits_div s' l', sym (digits_mod s l) ∙ ap (λ (x : ℕ). x % K) e ∙ digits_mod s' l')

-- with one level, an edge behind the first of its row stands at its own number
pub one_level : (a K j w e q : ℕ) → K ≡ 1 → j < K → a ≤ e → a * K + j * w + (e - a) ≡ q → e ≡ q
one_level a K j w e q one l low whole =
    let first : j ≡ 0 = omega arith in
    let plain : a * 1 + 0 * w + (e - a) ≡ q = rw (one, first) at whole in
    omega arith
