-- Which answer texts are well formed, and what each says (docs/RULES.md, "An answer that is checked"). Assumes nothing.
use Rattle.std.specs.Prelude.{◌≡◌, false, List, [], ◌++◌, ℕ, ◌≤◌, length, get_or}
use Rattle.table.specs.declared.Acceptance.{Acceptance}
use Rattle.table.specs.declared.Verdict.{Verdict}
use Rattle.table.specs.declared.Verdict.TheVariants.{Run, Empty, Refused}
use Rattle.job_text.specs.Value.{most_number}
use Rattle.answer_text.specs.Printed.{is_rabin, answer_text}

-- one of our answers: a run with its pair, prefix and cycle; empty with its depth; or refused with number, place and column
pub data Said : Type 0 where
  run : ℕ → List ℕ → List ℕ → Said
  empty : ℕ → Said
  refused : ℕ → ℕ → ℕ → Said

-- as it is given to the printer: the verdict ..
abbrev pub verdict_of : Said → Verdict
verdict_of (run pair prefix cycle) = Run (length prefix) (length cycle) pair
verdict_of (empty depth) = Empty
verdict_of (refused number place column) = Refused number place

-- .. the column, 0 for a run and for empty ..
abbrev pub column_of : Said → ℕ
column_of (run pair prefix cycle) = 0
column_of (empty depth) = 0
column_of (refused number place column) = column

-- .. the depth, 0 for a run and a refusal ..
abbrev pub depth_of : Said → ℕ
depth_of (run pair prefix cycle) = 0
depth_of (empty depth) = depth
depth_of (refused number place column) = 0

-- .. and the room
abbrev pub room_of : Said → List ℕ
room_of (run pair prefix cycle) = prefix ++ cycle
room_of (empty depth) = []
room_of (refused number place column) = []

-- "numbers at most 65,535"
abbrev pub Within : List ℕ → Type 0
Within es = (i : ℕ) → get_or es i 0 ≤ most_number

-- "two lists of any length, pair a number exactly for Rabin"; for the other kinds it is 0 and not printed
pub record OurRun (c : Acceptance) (pair : ℕ) (prefix cycle : List ℕ) : Type 0 where
  pub prefix_within : Within prefix
  pub cycle_within : Within cycle
  pub pair_within : pair ≤ most_number
  pub no_pair : is_rabin c ≡ false → pair ≡ 0

-- "refused with any code, place and column"
pub record OurRefusal (number place column : ℕ) : Type 0 where
  pub number_within : number ≤ most_number
  pub place_within : place ≤ most_number
  pub column_within : column ≤ most_number

-- an answer of ours to a job of this kind; "empty with any depth"
abbrev pub Ours : Acceptance → Said → Type 0
Ours c (run pair prefix cycle) = OurRun c pair prefix cycle
Ours c (empty depth) = depth ≤ most_number
Ours c (refused number place column) = OurRefusal number place column

-- the text is well formed and says this: this answer of ours prints as this text, byte for byte
pub record Says (c : Acceptance) (text : List ℕ) (said : Said) : Type 0 where
  pub ours : Ours c said
  pub prints : text ≡ answer_text (verdict_of said) (column_of said) (depth_of said) c (room_of said)

-- 50: "no answer of ours to a job of this kind prints as this text"
abbrev pub Malformed : Acceptance → List ℕ → Type 0
Malformed c text = (said : Said) → Says c text said → ⊥

-- 51: "well formed, but verdict empty or refused"
pub record NoRun (c : Acceptance) (text : List ℕ) : Type 0 where
  pub said : Said
  pub says : Says c text said
  pub other : (pair : ℕ) (prefix cycle : List ℕ) → said ≡ run pair prefix cycle → ⊥
