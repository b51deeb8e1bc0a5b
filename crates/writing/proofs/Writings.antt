-- What a writer gives, refusal by refusal and for a text that is written. Assumes nothing.
use Rattle.table.specs.Refusal.{refused}
use Rattle.table.specs.declared.Refusal.{Refusal}
use Rattle.std.specs.Prelude.{Result, Ok, Err}
use mathlib.Core.Path.{◌≡◌, refl, sym, ap, ◌∙◌}
use mathlib.Core.Bool.{Bool, true, false, cond}
use mathlib.Core.List.{List, ◌++◌}
use Prim.Native.Nat.{ℕ, ◌+◌, ◌-◌, ◌≤◌, ◌<◌}
use native.Mathlib.Omega.{arith}
use lib.Dec.{ltb}
use lib.ListN.{length, take, replicate, length-append}
use lib.Seq.{sets, take_at}
use borrow.Author.Tests.{lt-ltb, le-ltb}
use Rattle.puts.proofs.Puts.{as_it_was, then_zeros}
use Rattle.writing.specs.Writing.{or_else, text_refusal, written_of, output_of, Gives}

-- a refusal is not sound
not_sound : {number place : ℕ} → refused {A = Unit {0}} number place ≡ Ok tt → ⊥
not_sound e = let z : ◌≡◌ {A = ℕ} 0 1 = cc in omega arith

module _ (rows : Result Unit Refusal) (large : Bool) (limit : ℕ) (text : List ℕ) where
  -- what is asked behind rows 1 to 7
  asked : Bool → Bool → Result Unit Refusal
  asked many short = cond many (refused limit 0) (cond short (refused 11 0) (Ok tt))

  -- by the two tests behind rows 1 to 7
  decided : (room : ℕ) (many short : Bool) → rows ≡ Ok tt → large ≡ many → ltb room (length text) ≡ short → text_refusal rows large limit text room ≡ asked many short
  unfolding asked
  decided room many short s l h =
      ap (λ (f : Result Unit Refusal). or_else f (cond large (refused limit 0) (cond (ltb room (length text)) (refused 11 0) (Ok tt)))) s
      ∙ ap (λ (b : Bool). cond b (refused limit 0) (cond (ltb room (length text)) (refused 11 0) (Ok tt))) l
      ∙ ap (λ (b : Bool). cond many (refused limit 0) (cond b (refused 11 0) (Ok tt))) h

  -- rows 1 to 7 refuse
  pub rows_refuse : (room number place : ℕ) → rows ≡ refused number place → text_refusal rows large limit text room ≡ refused number place
  rows_refuse room number place e = ap (λ (f : Result Unit Refusal). or_else f (cond large (refused limit 0) (cond (ltb room (length text)) (refused 11 0) (Ok tt)))) e

  -- the table is too large
  pub too_large : (room : ℕ) → rows ≡ Ok tt → large ≡ true → text_refusal rows large limit text room ≡ refused limit 0
  unfolding asked
  too_large room s l = decided room true (ltb room (length text)) s l refl

  -- nothing is refused
  pub room_enough : (room : ℕ) → rows ≡ Ok tt → large ≡ false → length text ≤ room → text_refusal rows large limit text room ≡ Ok tt
  unfolding asked
  room_enough room s l h = decided room false false s l (le-ltb room (length text) h)

  -- where nothing is refused, no test refuses
  pub nothing_refused : (room : ℕ) → text_refusal rows large limit text room ≡ Ok tt → (rows ≡ Ok tt) × (large ≡ false)
  nothing_refused room e = by rows large (ltb room (length text)) e
    where
      by : (r : Result Unit Refusal) (many short : Bool) → or_else r (cond many (refused limit 0) (cond short (refused 11 0) (Ok tt))) ≡ Ok tt → (r ≡ Ok tt) × (many ≡ false)
      by (Ok done) true short q = absurd (not_sound q)
      by (Ok done) false short q = (refl, refl)
      by (Err cause) many short q = absurd (not_sound q)

  module _ (out : List ℕ) where
    -- the refusal decides what is given
    given_by : (f : Result Unit Refusal) → text_refusal rows large limit text (length out) ≡ f
        → Gives text (text_refusal rows large limit text (length out)) out (output_of text out f) (written_of text f)
    given_by f e = record { answer = ap (written_of text) (sym e); output = ap (output_of text out) (sym e) }

    -- rows 1 to 7
    pub refused_row : (number place : ℕ) → rows ≡ refused number place
        → Gives text (text_refusal rows large limit text (length out)) out out (refused number place)
    refused_row number place e = given_by (refused number place) (rows_refuse (length out) number place e)

    -- the limits
    pub refused_large : rows ≡ Ok tt → large ≡ true → Gives text (text_refusal rows large limit text (length out)) out out (refused limit 0)
    refused_large s l = given_by (refused limit 0) (too_large (length out) s l)

    module _ (sound : rows ≡ Ok tt) (fits : large ≡ false) (ys : List ℕ) (n : ℕ) (none : length ys ≡ 0) (counted : n ≡ 0 + length text) where
      -- row 11
      pub refused_short : length (ys ++ out) < n → Gives text (text_refusal rows large limit text (length out)) out (ys ++ out) (refused 11 0)
      unfolding asked
      refused_short l =
          let short : length out < length text = omega (arith, length-append ys out) in
          rw (as_it_was ys out none) (given_by (refused 11 0) (decided (length out) false true sound fits (lt-ltb (length out) (length text) short)))

      -- the text, and zeros behind it
      pub given_text : (out' out'' : List ℕ) → n ≤ length (ys ++ out) → out' ≡ sets (ys ++ out) 0 text
          → out'' ≡ take n out' ++ replicate (length out' - n) 0 → Gives text (text_refusal rows large limit text (length out)) out out'' (Ok n)
      given_text out' out'' l p z =
          let long : length text ≤ length out = omega (arith, length-append ys out) in
          let e : n ≡ length text = omega arith in
          rw (e, then_zeros text out ys out' out'' n none counted l p z) (given_by (Ok tt) (room_enough (length out) sound fits long))

-- where a text is given, nothing was refused, and the text stands in the output
pub text_given : {text : List ℕ} {cause : Result Unit Refusal} {out out' : List ℕ} {size : ℕ} → Gives text cause out out' (Ok size) → (cause ≡ Ok tt) × (take size out' ≡ text)
text_given {text} {cause} {out} {out'} {size} G = by cause G.answer G.output
  where
    by : (f : Result Unit Refusal) → Ok size ≡ written_of text f → out' ≡ output_of text out f → (f ≡ Ok tt) × (take size out' ≡ text)
    by (Ok done) e o = let n : size ≡ length text = cc in (refl, rw (o, n) (take_at text _ (length text) refl))
    by (Err cause) e o = let z : ◌≡◌ {A = ℕ} 0 1 = cc in absurd (omega arith)

-- any two results that are given for one text, one cause and one output are equal, and so is what the output holds then
pub given_once : {text : List ℕ} {cause : Result Unit Refusal} {out o o' : List ℕ} {r s : Result ℕ Refusal} → Gives text cause out o r → Gives text cause out o' s → (r ≡ s) × (o ≡ o')
given_once p q = (p.answer ∙ sym q.answer, p.output ∙ sym q.output)
