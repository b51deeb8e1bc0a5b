-- Laws of a walk over tokens: a walk over tokens in two parts, and what a faulty or a shut label leaves. Assumes nothing.
use mathlib.Core.List.{List, [], ◌∷◌, ◌++◌}
use mathlib.Core.Path.{◌≡◌, ap}
use Prim.Native.Nat.{ℕ}
use native.Mathlib.Omega.{arith}
use Rattle.hoa_tokens.specs.Token.{Token}
use Rattle.hoa_label.specs.Labels.{LabelState, LabelStep, go, shut, wrong, step_within, going, closed, faulty, walk_by, walk_within}

-- ---- the ends of a walk differ

-- shut is not going on
pub closed_going : {C : Type 0} {x : ℕ} {ts : List Token} {s : LabelState} → closed x ts ≡ going s → C
closed_going e = let z : ◌≡◌ {A = ℕ} 0 1 = cc in absurd (omega arith)

-- a fault is not going on
pub faulty_going : {C : Type 0} {n : ℕ} {s : LabelState} → faulty n ≡ going s → C
faulty_going e = let z : ◌≡◌ {A = ℕ} 0 1 = cc in absurd (omega arith)

-- shut is not a fault
pub closed_faulty : {C : Type 0} {x n : ℕ} {ts : List Token} → closed x ts ≡ faulty n → C
closed_faulty e = let z : ◌≡◌ {A = ℕ} 0 1 = cc in absurd (omega arith)

-- the state is one
pub going_inj : {s t : LabelState} → going s ≡ going t → s ≡ t
going_inj e = cc

-- the set is one
pub closed_set : {x y : ℕ} {ts us : List Token} → closed x ts ≡ closed y us → x ≡ y
closed_set e = cc

-- what follows is one
pub closed_rest : {x y : ℕ} {ts us : List Token} → closed x ts ≡ closed y us → ts ≡ us
closed_rest e = cc

-- the number is one
pub faulty_inj : {n m : ℕ} → faulty n ≡ faulty m → n ≡ m
faulty_inj e = cc

-- ---- a walk in two parts

module _ (levels a : ℕ) where
  -- the first step of a walk that goes on
  on_step : (d : LabelStep) (t : LabelState) (ts us : List Token)
      → ((u : LabelState) → walk_within levels a u ts ≡ going t → walk_within levels a u (ts ++ us) ≡ walk_within levels a t us)
      → walk_by d ts (λ u. walk_within levels a u ts) ≡ going t
      → walk_by d (ts ++ us) (λ u. walk_within levels a u (ts ++ us)) ≡ walk_within levels a t us
  on_step (go u) t ts us more e = more u e
  on_step (shut x) t ts us more e = closed_going e
  on_step (wrong n) t ts us more e = faulty_going e

  -- what goes on is walked on from where it stands
  pub walk_on : (s t : LabelState) (ts us : List Token) → walk_within levels a s ts ≡ going t → walk_within levels a s (ts ++ us) ≡ walk_within levels a t us
  unfolding walk_within
  walk_on s t [] us e = ap (λ (u : LabelState). walk_within levels a u us) (going_inj e)
  walk_on s t (x ∷ ts) us e = on_step (step_within levels a s x) t ts us (λ u. walk_on u t ts us) e

  -- the first step of a walk that stops
  stop_step : (d : LabelStep) (n : ℕ) (ts us : List Token)
      → ((u : LabelState) → walk_within levels a u ts ≡ faulty n → walk_within levels a u (ts ++ us) ≡ faulty n)
      → walk_by d ts (λ u. walk_within levels a u ts) ≡ faulty n
      → walk_by d (ts ++ us) (λ u. walk_within levels a u (ts ++ us)) ≡ faulty n
  stop_step (go u) n ts us more e = more u e
  stop_step (shut x) n ts us more e = closed_faulty e
  stop_step (wrong m) n ts us more e = e

  -- nothing that follows mends a fault
  pub walk_stops : (s : LabelState) (n : ℕ) (ts us : List Token) → walk_within levels a s ts ≡ faulty n → walk_within levels a s (ts ++ us) ≡ faulty n
  unfolding walk_within
  walk_stops s n [] us e = cc
  walk_stops s n (x ∷ ts) us e = stop_step (step_within levels a s x) n ts us (λ u. walk_stops u n ts us) e

  -- behind tokens that go on, one token more
  pub walk_one : (s t : LabelState) (ts : List Token) (x : Token) → walk_within levels a s ts ≡ going t
      → walk_within levels a s (ts ++ x ∷ []) ≡ walk_by (step_within levels a t x) [] going
  unfolding walk_within
  walk_one s t ts x e = walk_on s t ts (x ∷ []) e
