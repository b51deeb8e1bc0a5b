-- From bytes to bytes: what is printed for a job and an answer on one input (docs/RULES.md, "An answer that is checked"). Assumes nothing.
use Rattle.std.specs.Prelude.{List, [], ◌∷◌, ◌++◌, ℕ}
use Rattle.puts.specs.Put.{decimal}
use Rattle.writing.specs.Writing.{Stands}
use Rattle.job_text.specs.Value.{dash}
use Rattle.answer_text.specs.Printed.{shown, verdict=, code=, place=, column=}
use Rattle.answer_check.specs.declared.Checked.{Checked}
use Rattle.answer_check.specs.declared.Checked.TheVariants.{Accepted, Rejected, Refused}
use Rattle.answer_check.specs.declared.Fault.{Fault}
use Rattle.answer_check.specs.declared.Fault.TheVariants.{Prefix, Empty, Cycle, Condition}
use Rattle.answer_check.specs.Checking.{Checks}
use Rattle.check_text.specs.Split.{job_part, answer_part, heard}

abbrev pub fault= : List ℕ
fault= = 102 ∷ 97 ∷ 117 ∷ 108 ∷ 116 ∷ 61 ∷ []

abbrev pub position= : List ℕ
position= = 112 ∷ 111 ∷ 115 ∷ 105 ∷ 116 ∷ 105 ∷ 111 ∷ 110 ∷ 61 ∷ []

-- "`verdict=` accepted, rejected or refused"
abbrev pub verdict_word : Checked → List ℕ
verdict_word Accepted = 97 ∷ 99 ∷ 99 ∷ 101 ∷ 112 ∷ 116 ∷ 101 ∷ 100 ∷ []
verdict_word (Rejected fault position) = 114 ∷ 101 ∷ 106 ∷ 101 ∷ 99 ∷ 116 ∷ 101 ∷ 100 ∷ []
verdict_word (Refused number place column) = 114 ∷ 101 ∷ 102 ∷ 117 ∷ 115 ∷ 101 ∷ 100 ∷ []

-- "`code=`, `place=`, `column=` as for the judge, 0 unless refused"
abbrev pub number_of : Checked → ℕ
number_of Accepted = 0
number_of (Rejected fault position) = 0
number_of (Refused number place column) = number

abbrev pub place_of : Checked → ℕ
place_of Accepted = 0
place_of (Rejected fault position) = 0
place_of (Refused number place column) = place

abbrev pub column_of : Checked → ℕ
column_of Accepted = 0
column_of (Rejected fault position) = 0
column_of (Refused number place column) = column

-- "`fault=` prefix, empty, cycle, condition, else `-`"
abbrev pub fault_word : Fault → List ℕ
fault_word Prefix = 112 ∷ 114 ∷ 101 ∷ 102 ∷ 105 ∷ 120 ∷ []
fault_word Empty = 101 ∷ 109 ∷ 112 ∷ 116 ∷ 121 ∷ []
fault_word Cycle = 99 ∷ 121 ∷ 99 ∷ 108 ∷ 101 ∷ []
fault_word Condition = 99 ∷ 111 ∷ 110 ∷ 100 ∷ 105 ∷ 116 ∷ 105 ∷ 111 ∷ 110 ∷ []

abbrev pub fault_text : Checked → List ℕ
fault_text Accepted = dash
fault_text (Rejected fault position) = fault_word fault
fault_text (Refused number place column) = dash

-- "`position=` a number if there is a fault, else `-`"
abbrev pub position_text : Checked → List ℕ
position_text Accepted = dash
position_text (Rejected fault position) = decimal position
position_text (Refused number place column) = dash

-- the lines before the fault's ..
unfoldable pub top_text : Checked → List ℕ
top_text r =
    ((shown verdict= (verdict_word r)
    ++ shown code= (decimal (number_of r)))
    ++ shown place= (decimal (place_of r)))
    ++ shown column= (decimal (column_of r))

-- .. and the last two
unfoldable pub fault_lines : Checked → List ℕ
fault_lines r = shown fault= (fault_text r) ++ shown position= (position_text r)

-- the six lines
unfoldable pub checked_text : Checked → List ℕ
checked_text r = top_text r ++ fault_lines r

-- no printed result is longer
abbrev pub most_checked : ℕ
most_checked = 128

-- the whole promise, for every input: what checking gives for its two parts, and nothing else, stands in `out`, and `size` is how long it is
pub record CheckReplied (input out : List ℕ) (size : ℕ) : Type 0 where
  pub result : Checked
  pub checks : Checks (job_part input) (heard (answer_part input)) result
  pub held : Stands most_checked (checked_text result) out size
