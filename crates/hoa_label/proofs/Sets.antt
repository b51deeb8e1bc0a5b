-- The set of valuations that the tokens of a label add up to, from the left. What it means is in Meaning.antt. Assumes nothing.
use mathlib.Core.Bool.{Bool, false, not}
use Prim.Native.Nat.{ℕ}
use lib.Bits.{bit_and, bit_or}
use Rattle.hoa_label.specs.Label.{Label, conj, or, Lconj, factor, and, Lfactor, truth, falsity, prop, alias, negated, nested}
use Rattle.hoa_label.specs.Labels.{full, prop_set, turned}

unfoldable mutual
  -- the conjunctions before the last one, behind those with the valuations o
  pub ors_of : Label → ℕ → ℕ
  ors_of (conj c) o = o
  ors_of (or c l) o = ors_of l (bit_or o (ands_of c full))

  -- the last conjunction
  pub last_of : Label → ℕ
  last_of (conj c) = ands_of c full
  last_of (or c l) = last_of l

  -- the factors, behind those with the valuations k
  pub ands_of : Lconj → ℕ → ℕ
  ands_of (factor x) k = bit_and k (set_of x false)
  ands_of (and x c) k = ands_of c (bit_and k (set_of x false))

  -- a factor, negated or not
  pub set_of : Lfactor → Bool → ℕ
  set_of truth n = turned n full
  set_of falsity n = turned n 0
  set_of (prop i) n = turned n (prop_set i)
  set_of alias n = 0
  set_of (negated x) n = set_of x (not n)
  set_of (nested l) n = turned n (bit_or (ors_of l 0) (last_of l))

-- the label
abbrev pub label_set : Label → ℕ
label_set l = bit_or (ors_of l 0) (last_of l)
