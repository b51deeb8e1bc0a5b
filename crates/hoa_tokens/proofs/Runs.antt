-- Runs, the same bytes and keys, at a place of a text. Assumes nothing.
use mathlib.Core.Path.{◌≡◌, refl, sym, ap, ◌∙◌}
use mathlib.Core.Bool.{Bool, true, false, cond, ◌&&◌}
use mathlib.Core.List.{List, [], ◌∷◌}
use Prim.Native.Nat.{ℕ, suc, ◌+◌, ◌-◌, ◌≤◌, ◌<◌}
use native.Mathlib.Numerals.{add-one}
use native.Mathlib.Omega.{arith}
use lib.Dec.{eqb}
use lib.ListN.{length, get_or, take, drop, length-drop}
use lib.Seq.{take_all, drop-cons, drop-drop, get_or-drop}
use borrow.Author.Tests.{eq-eqb, ne_eqb, eqb-true, eqb-false}
use Rattle.std.specs.Prelude.{nat_eq, map}
use Rattle.std.specs.List.{prefix_len, starts_with}
use Rattle.std.specs.Cmp.Lexicographic.{pointwise}
use Rattle.hoa_tokens.specs.Bytes.{same, run}
use Rattle.hoa_tokens.specs.Token.{among, begins}
use Rattle.hoa_tokens.specs.inner.Reads.{RunTo}
use Rattle.hoa_tokens.proofs.Sizes.{by_test, run_le}

-- where both are turned
eqb_turned : (x y : ℕ) → eqb x y ≡ eqb y x
eqb_turned x y = by_test (eqb y x) (λ e. rw e (eq-eqb x y (sym (eqb-true y x e)))) (λ e. rw e (ne_eqb x y (λ q. eqb-false y x e (sym q))))

-- ---- a place of a text

module _ (text : List ℕ) (i : ℕ) (l : i < length text) where
  -- the byte there, and those behind it
  pub here : drop i text ≡ get_or text i 0 ∷ drop (i + 1) text
  here = rw (add-one i) (drop-cons text i 0 l)

-- the second byte from i on, and those behind it
pub second : (text : List ℕ) (i : ℕ) → get_or (drop (i + 1) text) 0 0 ≡ get_or text (i + 1) 0
second text i = get_or-drop (i + 1) text 0 0 ∙ ap (λ (k : ℕ). get_or text k 0) (omega arith)

-- the bytes behind the second
pub behind_second : (text : List ℕ) (i : ℕ) → drop 1 (drop (i + 1) text) ≡ drop (i + 2) text
behind_second text i =
    let e : i + 1 + 1 ≡ i + 2 = omega arith in
    drop-drop 1 (i + 1) text ∙ ap (λ (k : ℕ). drop k text) e

-- ---- runs

module _ (class : ℕ → Bool) where
  -- as the library counts it
  pub run_prefix : (bs : List ℕ) → prefix_len class bs ≡ run class bs
  unfolding run
  run_prefix [] = refl
  run_prefix (b ∷ bs) = by_test (class b) (λ e. rw (e, run_prefix bs) (omega arith)) (λ e. rw e)

  -- the run from a place of a text on
  pub run_from : (text : List ℕ) (at size : ℕ) → at ≤ length text → size ≡ prefix_len class (take (length text - at) (drop at text)) → RunTo class text at (at + size)
  run_from text at size l e =
      let whole : take (length text - at) (drop at text) ≡ drop at text = take_all (length text - at) (drop at text) (omega (arith, length-drop at text)) in
      let s : size ≡ run class (drop at text) = rw whole at e ∙ run_prefix (drop at text) in
      record { place = omega arith; low = omega arith; high = λ h. omega (arith, run_le class (drop at text), length-drop at text) }

-- ---- the same bytes

-- as `==` compares them
pub same_pointwise : (xs ys : List ℕ) → same xs ys ≡ pointwise nat_eq xs ys
unfolding same
same_pointwise [] [] = refl
same_pointwise [] (y ∷ ys) = refl
same_pointwise (x ∷ xs) [] = refl
same_pointwise (x ∷ xs) (y ∷ ys) = ap (λ (t : Bool). eqb x y && t) (same_pointwise xs ys)

-- where both are turned
pointwise_turned : (xs ys : List ℕ) → pointwise nat_eq xs ys ≡ pointwise nat_eq ys xs
pointwise_turned [] [] = refl
pointwise_turned [] (y ∷ ys) = refl
pointwise_turned (x ∷ xs) [] = refl
pointwise_turned (x ∷ xs) (y ∷ ys) = rw (eqb_turned x y, pointwise_turned xs ys)

-- a key stands at a place, as the library tells
pub starts_begins : (text : List ℕ) (at : ℕ) (key : List ℕ) {r : Bool} → r ≡ starts_with nat_eq (take (length text - at) (drop at text)) key → begins key (drop at text) ≡ r
starts_begins text at key e =
    let whole : take (length text - at) (drop at text) ≡ drop at text = take_all (length text - at) (drop at text) (omega (arith, length-drop at text)) in
    same_pointwise (take (length key) (drop at text)) key ∙ pointwise_turned (take (length key) (drop at text)) key ∙ sym (rw whole at e)

-- one that begins with the other and is no longer is the other
pub begins_whole : {r : Bool} (bs word : List ℕ) → r ≡ starts_with nat_eq word bs → length word ≤ length bs → r ≡ pointwise nat_eq bs word
begins_whole bs word e n =
    let whole : take (length bs) word ≡ word = take_all (length bs) word n in
    e ∙ ap (λ (ys : List ℕ). pointwise nat_eq bs ys) whole

-- from the first byte on is all
pub from_first : (j : ℕ) (bs : List ℕ) → j ≡ 0 → take (length bs - j) (drop j bs) ≡ bs
from_first j bs q = let here : take (length bs - 0) bs ≡ bs = take_all (length bs - 0) bs (omega arith) in rw q here

-- both from the first byte on
pub from_whole : {r : Bool} (j k : ℕ) (bs word : List ℕ) → r ≡ pointwise nat_eq (take (length bs - j) (drop j bs)) (take (length word - k) (drop k word)) → j ≡ 0 → k ≡ 0
    → r ≡ pointwise nat_eq bs word
from_whole j k bs word e p q = e ∙ rw (from_first j bs p, from_first k word q)

-- ---- the first key that is the name

module _ {X A : Type 0} (f : X → List ℕ × A) (bs : List ℕ) (xs : List X) (i : ℕ) (x : X) (other : A) (l : i < length xs) (is : x ≡ get_or xs i x) where
  -- the key at i, and those behind it
  among_here : among bs (map f (drop i xs)) other ≡ cond (same bs (f x).0) (f x).1 (among bs (map f (drop (i + 1) xs)) other)
  among_here =
      ap (λ (ys : List X). among bs (map f ys) other) (drop-cons xs i x l)
      ∙ ap (λ (y : X). cond (same bs (f y).0) (f y).1 (among bs (map f (drop (suc i) xs)) other)) (sym is)
      ∙ ap (λ (k : ℕ). cond (same bs (f x).0) (f x).1 (among bs (map f (drop k xs)) other)) (sym (add-one i))

  module _ {r : Bool} (e : r ≡ pointwise nat_eq bs (f x).0) where
    tested : same bs (f x).0 ≡ r
    tested = same_pointwise bs (f x).0 ∙ sym e

    -- it is the name
    pub among_found : r ≡ true → among bs (map f (drop i xs)) other ≡ (f x).1
    among_found q = among_here ∙ rw (tested, q)

    -- it is not
    pub among_other : r ≡ false → among bs (map f (drop i xs)) other ≡ among bs (map f (drop (i + 1) xs)) other
    among_other q = among_here ∙ rw (tested, q)
