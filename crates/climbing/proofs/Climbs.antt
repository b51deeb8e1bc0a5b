-- The laws of climbs, over the level and the number of marks: no number of bits is named but by a variable. Assumes nothing.
use mathlib.Core.Path.{◌≡◌, ap, ◌∙◌, subst}
use Prim.Native.Nat.{ℕ, zero, suc, ◌+◌, ◌-◌, ◌/◌, ◌%◌, ◌^◌, ◌≤◌, ◌<◌, min}
use native.Mathlib.Nat.{pow-suc}
use native.Mathlib.Numerals.{add-one}
use native.Mathlib.Omega.{arith}
use lib.Count.{count_trailing_zeros, under}
use lib.Pow.{shr-shr}
use borrow.Author.Tests.{lt-ltb, le-ltb, eq-eqb, ne_eqb}
use Rattle.marks.specs.Mark.{Has}
use Rattle.marks.proofs.Cases.{same, below}
use Rattle.marks.proofs.Laws.{Has-none}
use Rattle.climbing.specs.Climb.{levels, climb, reached, landing, bearing}

-- ---- one step of a climb

past : (x j left : ℕ) → Has j x → climb x j (suc left) ≡ climb x (suc j) left
unfolding Has
past x j left h = rw (eq-eqb (x / 2 ^ j % 2) 1 h)

stays : (x j left : ℕ) → (Has j x → ⊥) → climb x j (suc left) ≡ j
unfolding Has
stays x j left h = rw (ne_eqb (x / 2 ^ j % 2) 1 h)

-- by whether the mark is borne
step : {C : Type 0} (x j left : ℕ) → (Has j x → climb x j (suc left) ≡ climb x (suc j) left → C)
    → ((Has j x → ⊥) → climb x j (suc left) ≡ j → C) → C
unfolding Has
step x j left f g = same (x / 2 ^ j % 2) 1 (λ h. f h (past x j left h)) (λ h. g h (stays x j left h))

-- ---- how far a climb goes

climb_low : (x j left : ℕ) → j ≤ climb x j left
climb_low x j zero = omega arith
climb_low x j (suc left) = step x j left (λ h e. omega (arith, climb_low x (suc j) left)) (λ h e. omega arith)

-- every mark that was passed is borne
climb_passed : (x j left i : ℕ) → j ≤ i → i < climb x j left → Has i x
climb_passed x j zero i l h = absurd (omega arith)
climb_passed x j (suc left) i l h =
    step x j left
    (λ b e. same j i (λ q. subst (λ (y : ℕ). Has y x) q b) (λ q. climb_passed x (suc j) left i (omega arith) (omega arith)))
    (λ b e. absurd (omega arith))

pub reached_low : (k x j : ℕ) → j ≤ reached k x j
unfolding reached
reached_low k x j = climb_low x j (k - j)

pub reached_passed : (k x j i : ℕ) → j ≤ i → i < reached k x j → Has i x
unfolding reached
reached_passed k x j i l h = climb_passed x j (k - j) i l h

-- at the top there is nothing to climb
pub reached_top : (k x j : ℕ) → k ≤ j → j ≡ reached k x j
unfolding reached
reached_top k x j l = let e : k - j ≡ 0 = omega arith in rw e

-- an edge that bears its level's mark climbs
pub reached_moves : (k x j : ℕ) → j < k → Has j x → j < reached k x j
unfolding reached
reached_moves k x j l h =
    let e : k - j ≡ suc (k - suc j) = omega arith in
    rw e (rw (past x j (k - suc j) h) (climb_low x (suc j) (k - suc j)))

-- ---- where an edge lands

-- by whether it reaches the top
pub lands : {C : Type 0} (k x j : ℕ)
    → (reached k x j < k → landing k x j ≡ reached k x j → bearing k x j ≡ 0 → C)
    → (k ≤ reached k x j → landing k x j ≡ 0 → bearing k x j ≡ 1 → C) → C
unfolding landing bearing
lands k x j f g =
    below (reached k x j) k
    (λ l. f l (rw (lt-ltb (reached k x j) k l)) (rw (lt-ltb (reached k x j) k l)))
    (λ l. g l (rw (le-ltb (reached k x j) k l)) (rw (le-ltb (reached k x j) k l)))

pub landing_below : (k x j : ℕ) → landing k x j < levels k
landing_below k x j = lands k x j (λ l e b. omega arith) (λ l e b. omega arith)

pub bearing_below : (k x j : ℕ) → bearing k x j < 2
bearing_below k x j = lands k x j (λ l e b. omega arith) (λ l e b. omega arith)

-- an unmarked edge stays at its level, unmarked
pub unmarked_stays : (k j : ℕ) → j < k → (landing k 0 j ≡ j) × (bearing k 0 j ≡ 0)
unmarked_stays k j l =
    let stay : reached k 0 j ≤ j = below j (reached k 0 j) (λ h. absurd (Has-none j (reached_passed k 0 j j (omega arith) h))) (λ h. h) in
    lands k 0 j (λ m f b. (omega (arith, reached_low k 0 j), b)) (λ m f b. absurd (omega arith))

-- ---- a climb counts the marks in a row: as many as the word has ones at its end, with the word w marks wide

flip_half : (w y : ℕ) → y < 2 ^ suc w → (2 ^ suc w - 1 - y) / 2 ≡ 2 ^ w - 1 - y / 2
flip_half w y l = omega (arith, pow-suc 2 w)

flip_digit : (w y : ℕ) → y < 2 ^ suc w → (2 ^ suc w - 1 - y) % 2 ≡ 1 - y % 2
flip_digit w y l = omega (arith, pow-suc 2 w)

half_shift : (x j : ℕ) → x / 2 ^ j / 2 ≡ x / 2 ^ suc j
half_shift x j = shr-shr x j 1 ∙ ap (λ (i : ℕ). x / 2 ^ i) (add-one j)

digit_step : (w y : ℕ) → y < 2 ^ suc w → count_trailing_zeros (suc w) (2 ^ suc w - 1 - y) ≡ under (1 - y % 2) (count_trailing_zeros w (2 ^ w - 1 - y / 2))
unfolding count_trailing_zeros
digit_step w y l = rw (flip_half w y l, flip_digit w y l)

one_more : (w x j : ℕ) → x / 2 ^ j < 2 ^ suc w → Has j x
    → count_trailing_zeros (suc w) (2 ^ suc w - 1 - x / 2 ^ j) ≡ suc (count_trailing_zeros w (2 ^ w - 1 - x / 2 ^ suc j))
unfolding Has
one_more w x j l h = digit_step w (x / 2 ^ j) l ∙ rw (h, half_shift x j)

none_more : (w x j : ℕ) → x / 2 ^ j < 2 ^ suc w → (Has j x → ⊥) → count_trailing_zeros (suc w) (2 ^ suc w - 1 - x / 2 ^ j) ≡ 0
unfolding Has
none_more w x j l h = let z : x / 2 ^ j % 2 ≡ 0 = omega arith in digit_step w (x / 2 ^ j) l ∙ rw z

pub climb_ones : (left w x j : ℕ) → left ≤ w → x / 2 ^ j < 2 ^ w
    → climb x j left ≡ j + min left (count_trailing_zeros w (2 ^ w - 1 - x / 2 ^ j))
climb_ones zero w x j l h = omega arith
climb_ones (suc left) zero x j l h = absurd (omega arith)
climb_ones (suc left) (suc w) x j l h =
    step x j left
    (λ b e. omega (arith, one_more w x j h b, climb_ones left w x (suc j) (omega arith) (omega (arith, half_shift x j, pow-suc 2 w))))
    (λ b e. omega (arith, none_more w x j h b))
