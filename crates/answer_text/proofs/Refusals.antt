-- A printed text that fits, and how long a refusal's eight lines are at most. Assumes nothing.
use Rattle.table.specs.Refusal.{refused}
use Rattle.table.proofs.Door.{same_told}
use Rattle.table.specs.declared.Refusal.{Refusal}
use Rattle.std.specs.Prelude.{Result, Ok}
use mathlib.Core.Path.{◌≡◌, sym, ◌∙◌}
use mathlib.Core.Bool.{true}
use mathlib.Core.List.{List, [], ◌++◌}
use Prim.Native.Nat.{ℕ, ◌-◌, ◌^◌, ◌≤◌, ◌<◌}
use native.Mathlib.Omega.{arith}
use lib.Dec.{leb}
use lib.ListN.{length, replicate, length-append}
use borrow.Author.Tests.{le-leb}
use Rattle.table.specs.declared.Acceptance.TheVariants.{Buchi}
use Rattle.table.specs.declared.Verdict.TheVariants.{Refused}
use Rattle.puts.specs.Put.{decimal}
use Rattle.puts.proofs.Puts.{digits_few, decimal_few}
use Rattle.job_text.specs.Value.{dash}
use Rattle.answer_text.specs.Printed.{shown, verdict=, code=, place=, column=, pair=, depth=, verdict_word, top_text, bottom_text, answer_text, refused_text, Prints}
use Rattle.job_values.proofs.Cut.{shown_length}

-- ---- eight lines

-- the first six lines
top_most : (number place column : ℕ) → number < 2 ^ 32 → place < 2 ^ 32 → column < 2 ^ 32 → length (top_text (Refused number place) column 0 (Buchi 0)) ≤ 82
unfolding top_text
top_most number place column l h k =
    let one = shown verdict= (verdict_word (Refused number place)) in
    let two = shown code= (decimal number) in
    let three = shown place= (decimal place) in
    let four = shown column= (decimal column) in
    omega (
      arith,
      length-append ((((one ++ two) ++ three) ++ four) ++ shown pair= dash) (shown depth= (decimal 0)),
      length-append (((one ++ two) ++ three) ++ four) (shown pair= dash),
      length-append ((one ++ two) ++ three) four,
      shown_length depth= (decimal 0),
      digits_few 0 0 0 (omega arith),
      length-append (one ++ two) three,
      length-append one two,
      shown_length code= (decimal number),
      shown_length place= (decimal place),
      decimal_few number l,
      decimal_few place h,
      shown_length column= (decimal column),
      decimal_few column k,
    )

-- the last two
bottom_most : length (bottom_text [] []) ≤ 17
unfolding bottom_text
bottom_most = omega arith

-- 99 bytes
pub refused_few : (number place column : ℕ) → number < 2 ^ 32 → place < 2 ^ 32 → column < 2 ^ 32 → length (refused_text number place column) ≤ 99
unfolding answer_text
refused_few number place column l h k =
    omega (arith, length-append (top_text (Refused number place) column 0 (Buchi 0)) (bottom_text [] []), top_most number place column l h k, bottom_most)

-- one refusal and one column, one text
pub same_text : {number place x p column k : ℕ} → refused {A = Unit {0}} number place ≡ refused x p → column ≡ k → refused_text number place column ≡ refused_text x p k
same_text {number} {place} {x} {p} q e = let same = same_told q in rw (same.0, same.1, e)

-- ---- a text that fits

module _ {text out out' : List ℕ} {r : Result ℕ Refusal} (fits : length text ≤ length out) (P : Prints text out out' r) where
  there : leb (length text) (length out) ≡ true
  there = le-leb (length text) (length out) fits

  whole : r ≡ Ok (length text)
  whole = P.answer ∙ rw there

  -- it stands in the buffer, with zeros after it
  pub printed_all : {size : ℕ} → r ≡ Ok size → (size ≡ length text) × (out' ≡ text ++ replicate (length out - size) 0)
  printed_all {size} e =
      let q : Ok size ≡ Ok (length text) = sym e ∙ whole in
      let n : size ≡ length text = cc in
      (n, P.buffer ∙ rw (there, n))

  -- .. and is not refused
  pub never_refused : {C : Type 0} {number place : ℕ} → r ≡ refused number place → C
  never_refused {C} {number} {place} e =
      let q : refused number place ≡ Ok (length text) = sym e ∙ whole in
      let z : ◌≡◌ {A = ℕ} 0 1 = cc in
      absurd (omega arith)
