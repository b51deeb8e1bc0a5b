-- The form of each value of the job text, and what it says (docs/RULES.md, "The job text and the printed answer"):
-- `none` where the bytes are not of the form. Assumes nothing.
use Rattle.std.specs.Prelude.{Bool, false, cond, List, [], ◌∷◌, ◌++◌, ℕ, zero, suc, ◌-◌, ltb, length, replicate}
use Rattle.std.proofs.Math.Option.{Option, some, none}
use Rattle.marks.specs.Mark.{width}
use Rattle.job_values.specs.Number.{and_then, number, hex_word}
use Rattle.table.specs.declared.Acceptance.{Acceptance}
use Rattle.table.specs.declared.Acceptance.TheVariants as acceptance
use Rattle.table.specs.Refusal.{most_streett, most_rabin}
use Rattle.job_values.specs.declared.value.Form.{Form}
use Rattle.job_values.specs.declared.value.Form.TheVariants.{One, Two}
use Rattle.job_values.specs.declared.value.Kind.{Kind}
use Rattle.job_values.specs.declared.value.Kind.TheVariants.{Buchi, Streett, Rabin}
use Rattle.job_values.specs.Bytes.{fields, same}

-- the numbers, and zeros up to n cells
abbrev pub pad_to : ℕ → List ℕ → List ℕ
pad_to n xs = xs ++ replicate (n - length xs) 0

-- ---- "An edge line is from, to, and marks"

pub record Edge : Type 0 where
  pub from : ℕ
  pub to : ℕ
  pub marks : ℕ

abbrev pub edge_of : List (List ℕ) → Option Edge
edge_of [] = none
edge_of (f ∷ []) = none
edge_of (f ∷ (t ∷ [])) = none
edge_of (f ∷ (t ∷ (m ∷ []))) =
    and_then (number f) (λ from. and_then (number t) (λ to. and_then (hex_word m) (λ marks. some (record { from = from; to = to; marks = marks }))))
edge_of (f ∷ (t ∷ (m ∷ (x ∷ xs)))) = none

unfoldable pub edge : List ℕ → Option Edge
edge bs = edge_of (fields bs)

-- ---- "The first line may be exactly `form=2`."

unfoldable pub text_form : List ℕ → Option Form
text_form bs = cond (same bs (50 ∷ [])) (some Two) none

-- ---- "Kinds: buchi, streett, rabin."

abbrev pub buchi : List ℕ
buchi = 98 ∷ 117 ∷ 99 ∷ 104 ∷ 105 ∷ []

abbrev pub streett : List ℕ
streett = 115 ∷ 116 ∷ 114 ∷ 101 ∷ 101 ∷ 116 ∷ 116 ∷ []

abbrev pub rabin : List ℕ
rabin = 114 ∷ 97 ∷ 98 ∷ 105 ∷ 110 ∷ []

unfoldable pub kind : List ℕ → Option Kind
kind bs = cond (same bs buchi) (some Buchi) (cond (same bs streett) (some Streett) (cond (same bs rabin) (some Rabin) none))

-- what a missing kind line means
abbrev pub usual_kind : Form → Kind
usual_kind One = Buchi
usual_kind Two = Streett

abbrev pub condition : Kind → ℕ → Acceptance
condition Buchi k = acceptance.Buchi k
condition Streett p = acceptance.Streett p
condition Rabin p = acceptance.Rabin p

-- ---- "need is `-` unless kind is rabin with count above 0; then exactly count numbers with commas."

abbrev pub dash : List ℕ
dash = 45 ∷ []

-- how large a count may be: "count above what row 4 allows" is 23
abbrev pub most_count : Kind → ℕ
most_count Buchi = width
most_count Streett = most_streett
most_count Rabin = most_rabin

-- "Rabin's eight needs stand beside it, those from p on 0"
abbrev pub padded : List ℕ → List ℕ
padded ds = pad_to most_rabin ds

abbrev pub eight : Option (List ℕ) → Option (List ℕ)
eight none = none
eight (some ds) = some (padded ds)

-- exactly k fields, each a number
unfoldable pub listed : ℕ → List (List ℕ) → Option (List ℕ)
listed zero [] = some []
listed zero (f ∷ fs) = none
listed (suc k) [] = none
listed (suc k) (f ∷ fs) = and_then (number f) (λ d. and_then (listed k fs) (λ ds. some (d ∷ ds)))

abbrev pub has_needs : Kind → ℕ → Bool
has_needs Buchi k = false
has_needs Streett p = false
has_needs Rabin p = ltb 0 p

unfoldable pub needs : Kind → ℕ → List ℕ → Option (List ℕ)
needs k count bs = cond (has_needs k count) (eight (listed count (fields bs))) (cond (same bs dash) (some (padded [])) none)

-- ---- "The end line is `end=job`."

abbrev pub job : List ℕ
job = 106 ∷ 111 ∷ 98 ∷ []

unfoldable pub end : List ℕ → Option (Unit {0})
end bs = cond (same bs job) (some tt) none
