-- Laws of lists made of runs of cells, and of runs of cells written into a list. Assumes nothing.
use mathlib.Core.Path.{◌≡◌, refl, sym, ap, ◌∙◌}
use mathlib.Core.List.{List, [], ◌∷◌, ◌++◌, append_assoc, append-nil}
use Prim.Native.Nat.{ℕ, zero, suc, ◌+◌, ◌-◌, ◌*◌, ◌≤◌, ◌<◌}
use native.Mathlib.Nat.{add-zero, zero-add}
use native.Mathlib.Numerals.{add-one}
use native.Mathlib.Omega.{arith}
use lib.ListN.{length, get_or, set, length-append, get_or-append}
use lib.Seq.{sets, get_or-append-add}
use Rattle.marks.proofs.Cases.{same}
use Rattle.climbing.specs.Place.{cells, each}

-- ---- cells

pub length_cells : (f : ℕ → ℕ) (a n : ℕ) → length (cells f a n) ≡ n
length_cells f a zero = refl
length_cells f a (suc n) = ap suc (length_cells f (suc a) n)

pub cells_at : (f : ℕ → ℕ) (a n i : ℕ) → i < n → get_or (cells f a n) i 0 ≡ f (a + i)
cells_at f a zero i l = absurd (omega arith)
cells_at f a (suc n) zero l = ap f (sym (add-zero a))
cells_at f a (suc n) (suc i) l = cells_at f (suc a) n i (omega arith) ∙ ap f (omega arith)

pub cells_more : (f : ℕ → ℕ) (a n : ℕ) → cells f a (suc n) ≡ cells f a n ++ (f (a + n) ∷ [])
cells_more f a zero = ap {B = List ℕ} (λ x. f x ∷ []) (sym (add-zero a))
cells_more f a (suc n) =
    ap {B = List ℕ} (λ xs. f a ∷ xs) (cells_more f (suc a) n ∙ ap {B = List ℕ} (λ x. cells f (suc a) n ++ (f x ∷ [])) (omega arith))

pub cells_same : (f g : ℕ → ℕ) (a b n : ℕ) → ((i : ℕ) → i < n → f (a + i) ≡ g (b + i)) → cells f a n ≡ cells g b n
cells_same f g a b zero h = refl
cells_same f g a b (suc n) h =
    let first : f a ≡ g b = ap f (sym (add-zero a)) ∙ h 0 (omega arith) ∙ ap g (add-zero b) in
    let rest : cells f (suc a) n ≡ cells g (suc b) n = cells_same f g (suc a) (suc b) n (λ i l. ap f (omega arith) ∙ h (suc i) (omega arith) ∙ ap g (omega arith)) in
    rw (first, rest)

-- ---- lists one behind the other

pub each_more : (f : ℕ → List ℕ) (a n : ℕ) → each f a (suc n) ≡ each f a n ++ f (a + n)
each_more f a zero = append-nil (f a) ∙ ap f (sym (add-zero a))
each_more f a (suc n) =
    let e : suc a + n ≡ a + suc n = omega arith in
    rw append_assoc (ap (λ xs. f a ++ xs) (rw e at (each_more f (suc a) n)))

pub each_same : (f g : ℕ → List ℕ) (a n : ℕ) → ((i : ℕ) → a ≤ i → i < a + n → f i ≡ g i) → each f a n ≡ each g a n
each_same f g a zero h = refl
each_same f g a (suc n) h = rw (h a (omega arith) (omega arith), each_same f g (suc a) n (λ i l m. h i (omega arith) (omega arith)))

-- where each list begins is known: `at i` for the list of i
module _ (f : ℕ → List ℕ) (at : ℕ → ℕ) (next : (i : ℕ) → at (suc i) ≡ at i + length (f i)) where
  pub each_length : (a n : ℕ) → at a + length (each f a n) ≡ at (a + n)
  each_length a zero = add-zero (at a) ∙ ap at (sym (add-zero a))
  each_length a (suc n) =
      let e : suc a + n ≡ a + suc n = omega arith in
      omega (arith, length-append (f a) (each f (suc a) n), each_length (suc a) n, next a, ap at e)

  begins : (a n s : ℕ) → a ≤ s → s < a + n → at a ≤ at s
  begins a n s l h =
      let e : a + (s - a) ≡ s = omega arith in
      omega (arith, each_length a (s - a), ap at e)

  pub each_at : (a n s i p : ℕ) → a ≤ s → s < a + n → i < length (f s) → at a + p ≡ at s + i → get_or (each f a n) p 0 ≡ get_or (f s) i 0
  each_at a zero s i p l h m q = absurd (omega arith)
  each_at a (suc n) s i p l h m q =
      same a s
      (λ (e : a ≡ s).
      let same_place : p ≡ i = omega (arith, ap at e) in
      rw (same_place, e) (get_or-append (f s) (each f (suc s) n) 0 i m))
      (λ e.
      let k = p - length (f a) in
      let later : at (suc a) ≤ at s = begins (suc a) n s (omega arith) (omega arith) in
      let split : p ≡ length (f a) + k = omega (arith, next a) in
      rw split (get_or-append-add (f a) (each f (suc a) n) k 0 ∙ each_at (suc a) n s i k (omega arith) (omega arith) m (omega (arith, next a))))

-- lists of one length
pub each_even : (f : ℕ → List ℕ) (w : ℕ) → ((i : ℕ) → length (f i) ≡ w) → (n : ℕ) → length (each f 0 n) ≡ n * w
each_even f w long n = omega (arith, each_length f (λ i. i * w) (λ i. omega (arith, long i)) 0 n)

-- ---- runs of stores

pub sets_append : (l : List ℕ) (at : ℕ) (xs ys : List ℕ) → sets l at (xs ++ ys) ≡ sets (sets l at xs) (at + length xs) ys
sets_append l at [] ys = rw (add-zero at)
sets_append l at (x ∷ xs) ys =
    let e : suc at + length xs ≡ at + suc (length xs) = omega arith in
    rw e at (sets_append (set l at x) (suc at) xs ys)

pub sets_more : (l : List ℕ) (at : ℕ) (f : ℕ → ℕ) (n : ℕ) → set (sets l at (cells f 0 n)) (at + n) (f n) ≡ sets l at (cells f 0 (n + 1))
sets_more l at f n =
    rw (add-one n, cells_more f 0 n, zero-add n, sets_append l at (cells f 0 n) (f n ∷ []), length_cells f 0 n)

pub no_cells : (xs : List ℕ) → length xs ≡ 0 → xs ≡ []
no_cells [] e = refl
no_cells (x ∷ xs) e = absurd (omega arith)
