-- What the set of a label means: it has exactly the valuations in which the label holds (`meaning`), and it is empty exactly if no valuation makes the label true
-- (`satisfiable`). Each set is followed digit by digit. Assumes nothing.
use mathlib.Core.Bool.{Bool, true, false, not, cond, ◌&&◌, ◌||◌, false≢true}
use mathlib.Core.Logic.{◌↔◌, ◌≢◌}
use mathlib.Core.Path.{◌≡◌, refl, sym, ap, subst, ◌∙◌}
use Prim.Native.Nat.{ℕ, zero, suc, ◌+◌, ◌*◌, ◌/◌, ◌%◌, ◌^◌, ◌≤◌, ◌<◌, min, max}
use native.Mathlib.Nat.{div-eq_of_lt, pow-suc}
use native.Mathlib.Omega.{arith}
use borrow.Author.Tests.{lt-ltb, le-ltb}
use lib.Bits.{bit_and, bit_or, and_lt, or_lt, xor_lt}
use lib.Dec.{eqb, ltb, T, eqb→eq, ltb→lt}
use lib.Pow.{pow_pos}
use Rattle.marks.specs.Mark.{Has}
use Rattle.marks.proofs.Cases.{below}
use Rattle.marks.proofs.Laws.{or_digit, and_digit, xor_digit, half_digit, Has-ones, Has-none, some_mark, Has-fits}
use Rattle.hoa_label.specs.Label.{
  Label,
  conj,
  or,
  Lconj,
  factor,
  and,
  Lfactor,
  truth,
  falsity,
  prop,
  alias,
  negated,
  nested,
  label_fits,
  conj_fits,
  factor_fits,
  label_holds,
  conj_holds,
  factor_holds,
  Satisfiable,
  valuation,
  SetOf,
}
use Rattle.hoa_label.specs.Labels.{full, prop_set, turned}
use Rattle.hoa_label.proofs.Sets.{ors_of, last_of, ands_of, set_of, label_set}

-- a truth value as a digit
abbrev digit : Bool → ℕ
digit true = 1
digit false = 0

-- `||` is the larger digit
digit_or : (p q : Bool) → digit (p || q) ≡ max (digit p) (digit q)
digit_or true true = refl
digit_or true false = refl
digit_or false true = refl
digit_or false false = refl

-- `&&` is the smaller one
digit_and : (p q : Bool) → digit (p && q) ≡ min (digit p) (digit q)
digit_and true true = refl
digit_and true false = refl
digit_and false true = refl
digit_and false false = refl

-- a digit is 0 or 1
digit_small : (p : Bool) → digit p ≤ 1
digit_small true = omega arith
digit_small false = omega arith

-- ---- the sets of the propositions, by one test over all of them

-- the test passes at each number below n
abbrev all : ℕ → (ℕ → Bool) → Bool
all zero f = true
all (suc n) f = f n && all n f

-- of two tests that pass the first does
both_left : (p q : Bool) → T (p && q) → T p
both_left true q t = tt
both_left false q t = absurd t

-- and the second
both_right : (p q : Bool) → T (p && q) → T q
both_right true q t = t
both_right false q t = absurd t

-- the test passes at each number
all_at : (n : ℕ) (f : ℕ → Bool) → T (all n f) → (k : ℕ) → k < n → T (f k)
all_at zero f t k h = absurd (omega arith)
all_at (suc n) f t k h =
    below k n (λ l. all_at n f (both_right (f n) (all n f) t) k l)
    (λ l. let e : n ≡ k = omega arith in subst (λ (m : ℕ). T (f m)) e (both_left (f n) (all n f) t))

-- digit v of the set of proposition i is right
abbrev right : ℕ → ℕ → Bool
right i v = eqb (prop_set i / 2 ^ v % 2) (digit (valuation v i))

-- all of them are, as computed
all_right : T (all 6 (λ i. all 64 (right i)))
unfolding prop_set valuation
all_right = tt

-- so each is
prop_digit : (i v : ℕ) → i < 6 → v < 64 → prop_set i / 2 ^ v % 2 ≡ digit (valuation v i)
prop_digit i v hi hv = eqb→eq _ _ (all_at 64 (right i) (all_at 6 (λ j. all 64 (right j)) all_right i hi) v hv)

-- ---- digit by digit

-- negated or not
abbrev flipped : Bool → Bool → Bool
flipped true p = not p
flipped false p = p

module _ (a v : ℕ) (six : a ≤ 6) (h : v < 64) where
  -- every valuation is in the full set
  full_digit : full / 2 ^ v % 2 ≡ 1
  unfolding Has full
  full_digit = (Has-ones v 64).1 h

  -- none is in the empty one
  none_digit : 0 / 2 ^ v % 2 ≡ 0
  none_digit = omega (arith, div-eq_of_lt (pow_pos v))

  -- what is turned has the other digit
  turned_digit : (n p : Bool) (x : ℕ) → x / 2 ^ v % 2 ≡ digit p → turned n x / 2 ^ v % 2 ≡ digit (flipped n p)
  turned_digit false p x e = e
  turned_digit true true x e = omega (arith, xor_digit full x v, full_digit)
  turned_digit true false x e = omega (arith, xor_digit full x v, full_digit)

  -- `!` may be taken before or after
  twice : (n p : Bool) → digit (flipped (not n) p) ≡ digit (flipped n (not p))
  twice true true = refl
  twice true false = refl
  twice false true = refl
  twice false false = refl

  mutual
    unfolding ors_of label_fits label_holds

    -- a label, behind conjunctions with the set o
    label_digit : (l : Label) (o : ℕ) → label_fits l a
        → max (ors_of l o / 2 ^ v % 2) (last_of l / 2 ^ v % 2) ≡ max (o / 2 ^ v % 2) (digit (label_holds l (valuation v)))
    label_digit (conj c) o f = omega (arith, conj_digit c full f, full_digit, digit_small (conj_holds c (valuation v)))
    label_digit (or c l) o f =
        omega (
          arith,
          label_digit l (bit_or o (ands_of c full)) f.1,
          or_digit o (ands_of c full) v,
          conj_digit c full f.0,
          full_digit,
          digit_small (conj_holds c (valuation v)),
          digit_or (conj_holds c (valuation v)) (label_holds l (valuation v)),
        )

    -- a conjunction, behind factors with the set k
    conj_digit : (c : Lconj) (k : ℕ) → conj_fits c a → ands_of c k / 2 ^ v % 2 ≡ min (k / 2 ^ v % 2) (digit (conj_holds c (valuation v)))
    conj_digit (factor x) k f = and_digit k (set_of x false) v ∙ ap (min (k / 2 ^ v % 2)) (factor_digit x false f)
    conj_digit (and x c) k f =
        omega (
          arith,
          conj_digit c (bit_and k (set_of x false)) f.1,
          and_digit k (set_of x false) v,
          factor_digit x false f.0,
          digit_and (factor_holds x (valuation v)) (conj_holds c (valuation v)),
        )

    -- a factor, negated or not
    factor_digit : (x : Lfactor) (n : Bool) → factor_fits x a → set_of x n / 2 ^ v % 2 ≡ digit (flipped n (factor_holds x (valuation v)))
    factor_digit truth n f = turned_digit n true full full_digit
    factor_digit falsity n f = turned_digit n false 0 none_digit
    factor_digit (prop i) n f = turned_digit n (valuation v i) (prop_set i) (prop_digit i v (omega arith) h)
    factor_digit alias n f = absurd f
    factor_digit (negated x) n f = factor_digit x (not n) f ∙ twice n (factor_holds x (valuation v))
    factor_digit (nested l) n f =
        turned_digit n (label_holds l (valuation v)) (label_set l)
        (or_digit (ors_of l 0) (last_of l) v ∙ label_digit l 0 f ∙ omega (arith, none_digit))

-- ---- a set fits its word

-- the full set fits
full_small : full < 2 ^ 64
unfolding full
full_small = omega arith

-- the sets of the propositions do, as computed
all_small : T (all 6 (λ i. ltb (prop_set i) (2 ^ 64)))
unfolding prop_set
all_small = tt

-- so each does
prop_small : (i : ℕ) → i < 6 → prop_set i < 2 ^ 64
prop_small i h = ltb→lt _ _ (all_at 6 (λ j. ltb (prop_set j) (2 ^ 64)) all_small i h)

-- what is turned does
turned_small : (n : Bool) (x : ℕ) → x < 2 ^ 64 → turned n x < 2 ^ 64
turned_small false x h = h
turned_small true x h = xor_lt 64 full x full_small h

module _ (a : ℕ) (six : a ≤ 6) where
  mutual
    unfolding ors_of label_fits

    -- the conjunctions before the last
    ors_small : (l : Label) (o : ℕ) → label_fits l a → o < 2 ^ 64 → ors_of l o < 2 ^ 64
    ors_small (conj c) o f h = h
    ors_small (or c l) o f h = ors_small l (bit_or o (ands_of c full)) f.1 (or_lt 64 o (ands_of c full) h (ands_small c full f.0 full_small))

    -- the last one
    last_small : (l : Label) → label_fits l a → last_of l < 2 ^ 64
    last_small (conj c) f = ands_small c full f full_small
    last_small (or c l) f = last_small l f.1

    -- the factors
    ands_small : (c : Lconj) (k : ℕ) → conj_fits c a → k < 2 ^ 64 → ands_of c k < 2 ^ 64
    ands_small (factor x) k f h = and_lt 64 k (set_of x false) h (set_small x false f)
    ands_small (and x c) k f h = ands_small c (bit_and k (set_of x false)) f.1 (and_lt 64 k (set_of x false) h (set_small x false f.0))

    -- a factor
    set_small : (x : Lfactor) (n : Bool) → factor_fits x a → set_of x n < 2 ^ 64
    set_small truth n f = turned_small n full full_small
    set_small falsity n f = turned_small n 0 (omega arith)
    set_small (prop i) n f = turned_small n (prop_set i) (prop_small i (omega arith))
    set_small alias n f = absurd f
    set_small (negated x) n f = set_small x (not n) f
    set_small (nested l) n f = turned_small n (label_set l) (or_lt 64 (ors_of l 0) (last_of l) (ors_small l 0 f (omega arith)) (last_small l f))

  -- ---- the theorems

  -- a digit is 1 exactly if the truth value is true
  holds_digit : (p : Bool) (x : ℕ) → x ≡ digit p → (x ≡ 1) ↔ (p ≡ true)
  holds_digit true x e = (λ q. refl, λ q. e)
  holds_digit false x e = (λ (q : x ≡ 1). absurd (omega arith), λ q. absurd (false≢true q))

  -- the set of a label with a propositions, at most 6, has exactly the valuations in which it holds
  pub meaning : (l : Label) → label_fits l a → SetOf l (label_set l)
  unfolding Has
  meaning l f =
      record {
        small = or_lt 64 (ors_of l 0) (last_of l) (ors_small l 0 f (omega arith)) (last_small l f);
        each = λ v h.
            holds_digit (label_holds l (valuation v)) (label_set l / 2 ^ v % 2)
            (or_digit (ors_of l 0) (last_of l) v ∙ label_digit a v six h l 0 f ∙ omega (arith, none_digit a v six h));
      }

-- ---- whether it is empty

module _ (a : ℕ) (f g : ℕ → Bool) (alike : (i : ℕ) → i < a → f i ≡ g i) where
  mutual
    unfolding label_fits label_holds

    -- a label looks at the first a propositions alone
    label_alike : (l : Label) → label_fits l a → label_holds l f ≡ label_holds l g
    label_alike (conj c) h = conj_alike c h
    label_alike (or c l) h = cc (conj_alike c h.0, label_alike l h.1)

    -- so does a conjunction
    conj_alike : (c : Lconj) → conj_fits c a → conj_holds c f ≡ conj_holds c g
    conj_alike (factor x) h = factor_alike x h
    conj_alike (and x c) h = cc (factor_alike x h.0, conj_alike c h.1)

    -- so does a factor
    factor_alike : (x : Lfactor) → factor_fits x a → factor_holds x f ≡ factor_holds x g
    factor_alike truth h = refl
    factor_alike falsity h = refl
    factor_alike (prop i) h = alike i h
    factor_alike alias h = refl
    factor_alike (negated x) h = ap not (factor_alike x h)
    factor_alike (nested l) h = label_alike l h

-- the number of a valuation of n propositions
number : ℕ → (ℕ → Bool) → ℕ
number zero f = 0
number (suc n) f = digit (f 0) + number n (λ i. f (suc i)) * 2

-- it has at most n digits
number_small : (n : ℕ) (f : ℕ → Bool) → number n f < 2 ^ n
unfolding number
number_small zero f = omega arith
number_small (suc n) f = omega (arith, number_small n (λ i. f (suc i)), digit_small (f 0), pow-suc 2 n)

-- its digits are the truth values
number_digit : (n : ℕ) (f : ℕ → Bool) (i : ℕ) → i < n → number n f / 2 ^ i % 2 ≡ digit (f i)
unfolding number
number_digit zero f i h = absurd (omega arith)
number_digit (suc n) f zero h = omega (arith, digit_small (f 0))
number_digit (suc n) f (suc i) h =
    let e : number (suc n) f / 2 ≡ number n (λ j. f (suc j)) = omega (arith, digit_small (f 0)) in
    sym (half_digit (number (suc n) f) i) ∙ ap (λ (y : ℕ). y / 2 ^ i % 2) e ∙ number_digit n (λ j. f (suc j)) i (omega arith)

-- a digit tells the truth value
digit_is : (p : Bool) → eqb (digit p) 1 ≡ p
digit_is true = refl
digit_is false = refl

-- so the number is that valuation
number_is : (n : ℕ) (f : ℕ → Bool) (i : ℕ) → i < n → valuation (number n f) i ≡ f i
unfolding valuation
number_is n f i h = ap (λ (d : ℕ). eqb d 1) (number_digit n f i h) ∙ digit_is (f i)

-- the valuation, false from a on
cut_off : ℕ → (ℕ → Bool) → ℕ → Bool
cut_off a f i = cond (ltb i a) (f i) false

-- the set has a valuation exactly if some valuation of the a propositions makes the label true
pub satisfiable : (a : ℕ) (l : Label) (x : ℕ) → a ≤ 6 → label_fits l a → SetOf l x → (x ≢ 0) ↔ Satisfiable a l
unfolding cut_off
satisfiable a l x six f s = (to, from)
  where
    -- the valuation of a mark
    to : x ≢ 0 → Satisfiable a l
    to n =
        let m = some_mark x n in
        record {
          values = cut_off a (valuation m.0);
          of_a = λ i h. rw (le-ltb i a h);
          makes_true =
              label_alike a (cut_off a (valuation m.0)) (valuation m.0) (λ i h. rw (lt-ltb i a h)) l f
              ∙ (s.each m.0 (Has-fits 64 m.0 x s.small m.1)).0 m.1;
        }

    -- the mark of a valuation
    from : Satisfiable a l → x ≢ 0
    from y e =
        let v = number 6 y.values in
        let holds : label_holds l (valuation v) ≡ true = label_alike a (valuation v) y.values (λ i h. number_is 6 y.values i (omega arith)) l f ∙ y.makes_true in
        Has-none v (subst (Has v) e ((s.each v (number_small 6 y.values)).1 holds))
