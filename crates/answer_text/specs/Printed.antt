-- The printed answer (docs/RULES.md, "The job text and the printed answer"). Assumes nothing.
use Rattle.table.specs.Refusal.{refused}
use Rattle.table.specs.declared.Refusal.{Refusal}
use Rattle.std.specs.Prelude.{◌≡◌, Bool, true, false, cond, List, [], ◌∷◌, ◌++◌, ℕ, ◌+◌, ◌-◌, ◌*◌, eqb, leb, length, take, drop, replicate, Result, Ok}
use Rattle.table.specs.declared.Acceptance.{Acceptance}
use Rattle.table.specs.declared.Acceptance.TheVariants.{Buchi, Streett, Rabin}
use Rattle.table.specs.declared.Verdict.{Verdict}
use Rattle.table.specs.declared.Verdict.TheVariants.{Run, Empty, Refused}
use Rattle.table.specs.Table.{waiting}
use Rattle.table.specs.Verdict.{number_of, place_of, prefix_of, cycle_of}
use Rattle.puts.specs.Put.{decimal}
use Rattle.job_text.specs.Text.{comma}
pub use Rattle.job_values.specs.Bytes.{shown}
use Rattle.job_text.specs.Value.{dash}

-- ---- edges: "65535 is printed as `stop`", other numbers in decimal digits

abbrev pub stop : List ℕ
stop = 115 ∷ 116 ∷ 111 ∷ 112 ∷ []

unfoldable pub step_text : ℕ → List ℕ
step_text e = cond (eqb e waiting) stop (decimal e)

-- ---- lists: "comma between (`-` if none)"

unfoldable pub further_text : List ℕ → List ℕ
further_text [] = []
further_text (e ∷ es) = (comma ∷ step_text e) ++ further_text es

abbrev pub list_text : List ℕ → List ℕ
list_text [] = dash
list_text (e ∷ es) = step_text e ++ further_text es

-- ---- the eight lines

abbrev pub verdict= : List ℕ
verdict= = 118 ∷ 101 ∷ 114 ∷ 100 ∷ 105 ∷ 99 ∷ 116 ∷ 61 ∷ []

abbrev pub code= : List ℕ
code= = 99 ∷ 111 ∷ 100 ∷ 101 ∷ 61 ∷ []

abbrev pub place= : List ℕ
place= = 112 ∷ 108 ∷ 97 ∷ 99 ∷ 101 ∷ 61 ∷ []

abbrev pub column= : List ℕ
column= = 99 ∷ 111 ∷ 108 ∷ 117 ∷ 109 ∷ 110 ∷ 61 ∷ []

abbrev pub pair= : List ℕ
pair= = 112 ∷ 97 ∷ 105 ∷ 114 ∷ 61 ∷ []

abbrev pub depth= : List ℕ
depth= = 100 ∷ 101 ∷ 112 ∷ 116 ∷ 104 ∷ 61 ∷ []

abbrev pub prefix= : List ℕ
prefix= = 112 ∷ 114 ∷ 101 ∷ 102 ∷ 105 ∷ 120 ∷ 61 ∷ []

abbrev pub cycle= : List ℕ
cycle= = 99 ∷ 121 ∷ 99 ∷ 108 ∷ 101 ∷ 61 ∷ []

-- "verdict (run, empty, refused)"
abbrev pub verdict_word : Verdict → List ℕ
verdict_word (Run prefix cycle pair) = 114 ∷ 117 ∷ 110 ∷ []
verdict_word Empty = 101 ∷ 109 ∷ 112 ∷ 116 ∷ 121 ∷ []
verdict_word (Refused number place) = 114 ∷ 101 ∷ 102 ∷ 117 ∷ 115 ∷ 101 ∷ 100 ∷ []

-- "pair (a number for a Rabin run, else `-`)"
abbrev pub is_rabin : Acceptance → Bool
is_rabin (Buchi k) = false
is_rabin (Streett p) = false
is_rabin (Rabin p) = true

abbrev pub pair_text : Verdict → Acceptance → List ℕ
pair_text (Run prefix cycle pair) c = cond (is_rabin c) (decimal pair) dash
pair_text Empty c = dash
pair_text (Refused number place) c = dash

-- "verdict (run, empty, refused), number and place from the table, column" ..
abbrev pub head_text : Verdict → ℕ → List ℕ
head_text v column =
    ((shown verdict= (verdict_word v)
    ++ shown code= (decimal (number_of v)))
    ++ shown place= (decimal (place_of v)))
    ++ shown column= (decimal column)

-- .. "pair, depth" ..
unfoldable pub top_text : Verdict → ℕ → ℕ → Acceptance → List ℕ
top_text v column depth c = (head_text v column ++ shown pair= (pair_text v c)) ++ shown depth= (decimal depth)

-- .. "edge numbers of prefix and of cycle"
unfoldable pub bottom_text : List ℕ → List ℕ → List ℕ
bottom_text prefix cycle = shown prefix= (list_text prefix) ++ shown cycle= (list_text cycle)

-- the room holds the prefix, then the cycle; of a length past the room, the cells that are there
unfoldable pub answer_text : Verdict → ℕ → ℕ → Acceptance → List ℕ → List ℕ
answer_text v column depth c room = top_text v column depth c ++ bottom_text (take (prefix_of v) room) (take (cycle_of v) (drop (prefix_of v) room))

-- a refusal: number, place and column, no pair, depth 0, no edges
abbrev pub refused_text : ℕ → ℕ → ℕ → List ℕ
refused_text number place column = answer_text (Refused number place) column 0 (Buchi 0) []

-- a buffer of this many bytes is long enough for every answer of the program: at most (32 + 2) * 256 - 1 edges, each a number below 512 or `stop`,
-- with their commas, and what stands around them (`Room.enough`, in proofs/)
abbrev pub most_printed : ℕ
most_printed = 5 * 8703 + 120

-- ---- what printing does

-- the text and zeros to the end, if there is room for it; else row 11, and the buffer as it was
abbrev pub printed_of : List ℕ → ℕ → Result ℕ Refusal
printed_of text room = cond (leb (length text) room) (Ok (length text)) (refused 11 0)

abbrev pub buffer_of : List ℕ → List ℕ → List ℕ
buffer_of text out = cond (leb (length text) (length out)) (text ++ replicate (length out - length text) 0) out

pub record Prints (text out out' : List ℕ) (r : Result ℕ Refusal) : Type 0 where
  pub answer : r ≡ printed_of text (length out)
  pub buffer : out' ≡ buffer_of text out
