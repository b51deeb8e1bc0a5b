-- What private contracts go by. Assumes nothing.
use Rattle.std.specs.Prelude.{◌≡◌, List, ℕ, ◌+◌, ◌^◌, ◌≤◌, ◌<◌, length}
use Rattle.answer_check.specs.declared.Checked.{Checked}
use Rattle.answer_check.specs.declared.Checked.TheVariants.{Accepted, Rejected, Refused}
use Rattle.check_text.specs.Split.{job_size, most_answer}

-- the job ends here, within the input
pub record JobEnds (input : List ℕ) (r : ℕ) : Type 0 where
  pub is : r ≡ job_size input
  pub within : r ≤ length input

-- an answer text from `size` on is heard to its end, or, where it is too long, not at all
pub record HeardTo (size all r : ℕ) : Type 0 where
  pub long : size + most_answer < all → r ≡ size
  pub short : all ≤ size + most_answer → r ≡ all
  pub low : size ≤ r
  pub high : r ≤ all

-- a position that a word of 32 bits holds
abbrev pub Slight : Checked → Type 0
Slight Accepted = Unit {0}
Slight (Rejected fault position) = position < 2 ^ 32
Slight (Refused number place column) = Unit {0}
