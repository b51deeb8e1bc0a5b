-- What a writer of a text gives (docs/RULES.md, "What comes back"): the refusals in their order, the answer, and the lent output. Assumes nothing.
use Rattle.table.specs.Refusal.{refused}
use Rattle.table.specs.declared.Refusal.{Refusal}
use Rattle.std.specs.Prelude.{◌≡◌, Bool, cond, List, ◌++◌, ℕ, ◌-◌, ltb, length, replicate, Result, Ok, Err}

-- the first finding, or the second where the first is sound
abbrev pub or_else : Result Unit Refusal → Result Unit Refusal → Result Unit Refusal
or_else (Ok done) next = next
or_else (Err cause) next = Err cause

-- what rows 1 to 7 find, with its place; then the limits' number at 0 if the table is too large; then 11 at 0 if the output is shorter than the text
abbrev pub text_refusal : Result Unit Refusal → Bool → ℕ → List ℕ → ℕ → Result Unit Refusal
text_refusal rows large number text room =
    or_else rows
    (cond large (refused number 0)
    (cond (ltb room (length text)) (refused 11 0) (Ok tt)))

-- ---- what comes back

-- the text's length, or the refusal
abbrev pub written_of : List ℕ → Result Unit Refusal → Result ℕ Refusal
written_of text (Ok done) = Ok (length text)
written_of text (Err cause) = Err cause

-- the text and "zeros from the end of what is written to its own end"; after a refusal the output as it was
abbrev pub output_of : List ℕ → List ℕ → Result Unit Refusal → List ℕ
output_of text out (Ok done) = text ++ replicate (length out - length text) 0
output_of text out (Err cause) = out

-- the answer r, and out' where the output was out
pub record Gives (text : List ℕ) (cause : Result Unit Refusal) (out out' : List ℕ) (r : Result ℕ Refusal) : Type 0 where
  pub answer : r ≡ written_of text cause
  pub output : out' ≡ output_of text out cause

-- ---- a text in a buffer of a known length

-- the text stands in out, which has so many bytes, with zeros behind it, and size is how long it is
pub record Stands (room : ℕ) (text out : List ℕ) (size : ℕ) : Type 0 where
  pub all : size ≡ length text
  pub cells : out ≡ text ++ replicate (room - size) 0
