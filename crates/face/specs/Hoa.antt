-- The numbers by which the C face tells what the reader of the Hanoi format and the writers give (docs/RULES.md, "The Hanoi format" and "The job text and the
-- printed answer"). Assumes nothing.
use Rattle.table.specs.declared.Refusal.{Refusal}
use Rattle.std.specs.Prelude.{ℕ, Result, Ok, Err}
use Rattle.table.specs.declared.Acceptance.{Acceptance}
use Rattle.table.specs.declared.Acceptance.TheVariants.{Buchi, Streett, Rabin}
use Rattle.hoa.specs.declared.Hoa.{Hoa}
use Rattle.hoa.specs.declared.HoaFinding.{HoaFinding}
use Rattle.hoa.specs.declared.HoaFinding.TheVariants.{Read, Refused}
use Rattle.face.specs.declared.hanoi.HoaNumbers.{HoaNumbers}
use Rattle.face.specs.declared.hanoi.TextNumbers.{TextNumbers}

-- ---- the reader

-- "kind: 0 buchi, 1 streett, 2 rabin"
abbrev pub acceptance_kind : Acceptance → ℕ
acceptance_kind (Buchi k) = 0
acceptance_kind (Streett p) = 1
acceptance_kind (Rabin p) = 2

-- the marks of a Büchi condition, the pairs of the others
abbrev pub acceptance_count : Acceptance → ℕ
acceptance_count (Buchi k) = k
acceptance_count (Streett p) = p
acceptance_count (Rabin p) = p

-- 0 and 0 where the text is read
abbrev pub finding_number : HoaFinding → ℕ
finding_number Read = 0
finding_number (Refused number place) = number

abbrev pub finding_place : HoaFinding → ℕ
finding_place Read = 0
finding_place (Refused number place) = place

-- its answer in plain numbers
abbrev pub hoa_numbers : Hoa → HoaNumbers
hoa_numbers h =
    record {
      number = finding_number h.finding;
      kind = acceptance_kind h.condition;
      place = finding_place h.finding;
      states = h.states;
      start = h.start;
      edges = h.edges;
      count = acceptance_count h.condition;
      needs = h.needs;
    }

-- ---- the writers

-- its answer in plain numbers
abbrev pub text_numbers : Result ℕ Refusal → TextNumbers
text_numbers (Ok length) = record { number = 0; place = 0; length = length }
text_numbers (Err cause) = record { number = cause.number; place = cause.place; length = 0 }
