-- The longest run of bytes that can begin a number: one digit after the other. Assumes nothing.
use mathlib.Core.Path.{◌≡◌, sym, ap, ◌∙◌}
use mathlib.Core.Logic.{◌⊎◌, inl, inr}
use mathlib.Core.List.{List, [], ◌∷◌, ◌++◌}
use mathlib.Core.Option.{some, none}
use Prim.Native.Nat.{ℕ, suc, ◌+◌, ◌-◌, ◌*◌, ◌≤◌, ◌<◌, zero-le}
use native.Mathlib.Omega.{arith}
use lib.ListN.{length, get_or, drop, length-drop}
use lib.Seq.{get_or-take, get_or-drop, length-take-le}
use borrow.Author.Tests.{lt-leb}
use Rattle.marks.proofs.Cases.{same}
use Rattle.table.specs.Row.{part}
use Rattle.digits.specs.Digit.{digit}
use Rattle.job_values.specs.Number.{spelt, most_number, number}
use Rattle.job_values.specs.inner.Field.{Within, RunAt}
use Rattle.job_values.proofs.Numbers.{part_more, part_none, spelt_snoc, spelt_stop, none_spelt, zero_number, none_zero, number_spelt}
use Rattle.job_values.proofs.Fields.{newline_there}

-- the bytes up to i are digits that spell the value so far
pub record Spells (text : List ℕ) (at end value i : ℕ) : Type 0 where
  pub ordered : at ≤ i
  pub ends : i ≤ end
  pub small : value ≤ most_number
  pub spells : spelt digit 10 0 (part at i text) ≡ some value

module _ (text : List ℕ) (at end : ℕ) (w : Within text at end) where
  -- a zero stands alone
  pub zero_run : get_or text at 0 ≡ 48 → RunAt text at end (record { value = 0; next = at + 1 })
  zero_run e =
      let h : at < end = same at end (λ (q : at ≡ end). absurd (let z : 48 ≡ 10 = sym e ∙ rw q (newline_there text at end w) in omega (arith, z))) (λ (q : at ≡ end → ⊥). omega (arith, w.ordered)) in
      let n : at + 1 ≡ suc at = omega arith in
      let one : part at (suc at) text ≡ 48 ∷ [] = part_more text at at (omega arith) (omega (arith, w.ends)) ∙ rw (part_none text at, e) in
      rw n
      (record {
        ordered = omega arith;
        ends = h;
        run = inr (rw one zero_number);
        stops = ap number (part_more text at (suc at) (omega arith) (omega (arith, w.ends)) ∙ rw one) ∙ none_zero (get_or text (suc at) 0);
      })

  pub spells_none : Spells text at end 0 at
  unfolding spelt
  spells_none = record { ordered = omega arith; ends = w.ordered; small = zero-le; spells = rw (part_none text at) }

  module _ (value i : ℕ) (s : Spells text at end value i) where
    snoc : part at (suc i) text ≡ part at i text ++ (get_or text i 0 ∷ [])
    snoc = part_more text at i s.ordered (omega (arith, s.ends, w.ends))

    pub spells_more : (d : ℕ) → i < end → digit (get_or text i 0) ≡ some d → value * 10 + d ≤ most_number → Spells text at end (value * 10 + d) (i + 1)
    spells_more d h e l =
        let n : i + 1 ≡ suc i = omega arith in
        record {
          ordered = omega (arith, s.ordered);
          ends = omega arith;
          small = l;
          spells = rw (n, snoc) (spelt_snoc digit 10 0 value d (get_or text i 0) (part at i text) s.spells e);
        }

    module _ (other : get_or text at 0 ≡ 48 → ⊥) where
      found : (i ≡ at) ⊎ (number (part at i text) ≡ some value)
      found =
          same i at (λ (q : i ≡ at). inl q)
          (λ (q : i ≡ at → ⊥).
          let long : length (part at i text) ≡ i - at = length-take-le (i - at) (drop at text) (omega (arith, length-drop at text, s.ordered, s.ends, w.ends)) in
          let first : get_or (part at i text) 0 0 ≡ get_or text at 0 =
          let z : at + 0 ≡ at = omega arith in
          get_or-take (i - at) (drop at text) 0 0 (omega (arith, s.ordered)) ∙ get_or-drop at text 0 0 ∙ rw z in
          inr (number_spelt (part at i text) value (omega (arith, long, s.ordered)) (λ (z : get_or (part at i text) 0 0 ≡ 48). other (sym first ∙ z)) s.spells s.small))

      -- no digit
      pub run_stops : digit (get_or text i 0) ≡ none → RunAt text at end (record { value = value; next = i })
      run_stops e =
          record { ordered = s.ordered; ends = s.ends; run = found; stops = none_spelt (part at (suc i) text) (rw (snoc, spelt_stop digit 10 0 (get_or text i 0) (part at i text) [] e)) }

      -- a digit that makes the number too large
      pub run_full : (d : ℕ) → digit (get_or text i 0) ≡ some d → most_number < value * 10 + d → RunAt text at end (record { value = value; next = i })
      run_full d e l =
          record {
            ordered = s.ordered;
            ends = s.ends;
            run = found;
            stops =
                none_spelt (part at (suc i) text)
                (rw (snoc, spelt_snoc digit 10 0 value d (get_or text i 0) (part at i text) s.spells e, lt-leb (value * 10 + d) most_number l));
          }
