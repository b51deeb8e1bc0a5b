-- Examples of rows, from the bytes of a text to what comes back, computed from the definitions (docs/RULES.md, "The Hanoi format", the faulty token).
-- Assumes nothing.
use Rattle.std.specs.Prelude.{Option, Some, None, Result, Ok}
use mathlib.Core.List.{List, [], ◌∷◌}
use mathlib.Core.Path.{◌≡◌, refl}
use Prim.Native.Nat.{ℕ}
use Rattle.marks.specs.Mark.{union}
use Rattle.job_text.specs.Value.{Edge}
use Rattle.hoa_tokens.specs.Bytes.{bytes, same, is_digit, is_capital, is_letter, is_name, is_blank, run as bytes_run}
use Rattle.hoa_tokens.specs.Token.{word_of, further_header, header_of, spelt, is_int, number, named, quoted, at, fixed, sign_of, front}
use Rattle.hoa_tokens.specs.Stream.{gap_of, first, some, tokens_at, bad_at}
use Rattle.hoa_label.specs.Labels.{full, prop_set, wanted, behind, step_within, label_step}
use Rattle.hoa_step.specs.Machine.{run, wants_int}
use Rattle.hoa_tokens.specs.declared.BadToken.{BadToken}
use Rattle.hoa_entry.specs.declared.Limits.{Limits}
use Rattle.hoa_rows.specs.declared.RowsRead.{RowsRead}
use Rattle.hoa_entry.specs.Sig.{alone, sig_step}
use Rattle.hoa_entry.specs.Rows.{entry_of, on_closing, row_step}
use Rattle.hoa_rows.specs.Lent.{rows_end, told, cells_of}

-- start 0, one proposition and two marks
abbrev held : Option ℕ → Limits
held n = record { states = n; start = 0; props = 1; marks = 2 }

-- two states and two edges are read
abbrev two_each : Result RowsRead BadToken
two_each = Ok (record { states = 2; edges = 2 })

-- three cells
abbrev three : List ℕ
three = 7 ∷ 7 ∷ 7 ∷ []

-- what comes back for the rows, with tables of three cells
abbrev Gives : Option ℕ → List ℕ → Result RowsRead BadToken → Type 0
Gives n text r = told (rows_end (held n) text 0) three three three ≡ r

-- rows in another order than their numbers', marks on a state, an edge that no valuation satisfies
abbrev turned : List ℕ
turned = bytes "State: 1 [t] 0 State: 0 {0} [0] 1 {1} [f] 0 --END--"

-- a table's cells afterwards
abbrev cells : (Edge → ℕ) → List ℕ
cells part = cells_of part two_each (rows_end (held None) turned 0) three

pub record Examples : Type 0 where
  pub kept : Gives None turned two_each
  pub sorted_from : cells (λ e. e.from) ≡ 0 ∷ 1 ∷ 0 ∷ []
  pub sorted_to : cells (λ e. e.to) ≡ 1 ∷ 0 ∷ 0 ∷ []
  pub both_marks : cells (λ e. e.marks) ≡ 3 ∷ 0 ∷ 0 ∷ []
  pub too_short : told (rows_end (held None) turned 0) [] three three ≡ bad_at 11 0
  -- a row twice, a row above n, too many rows, too few
  pub twice : Gives None (bytes "State: 0 State: 0") (bad_at 41 16)
  pub above : Gives (Some 1) (bytes "State: 1") (bad_at 41 7)
  pub too_many : Gives (Some 1) (bytes "State: 0 State: 1") (bad_at 41 9)
  pub too_few : Gives (Some 2) (bytes "State: 0 --END--") (bad_at 41 9)
  pub no_row : Gives None (bytes "State: 0 [t] 1 --END--") (bad_at 41 15)
  -- labels on states, edges without one, several targets
  pub state_label : Gives None (bytes "State: [t] 0") (bad_at 41 7)
  pub bare : Gives None (bytes "State: 0 0") (bad_at 41 9)
  pub joined : Gives None (bytes "State: 0 [t] 0&0") (bad_at 41 14)
  pub large : Gives None (bytes "State: 256") (bad_at 42 7)
  -- what no text begins with
  pub early_edge : Gives None (bytes "[t] 0") (bad_at 40 0)
  pub comma : Gives None (bytes "State: 0 {0,1}") (bad_at 40 11)
  -- behind the end
  pub another : Gives None (bytes "State: 0 --END-- HOA:") (bad_at 41 17)
  pub late_abort : Gives None (bytes "State: 0 --END-- --ABORT--") (bad_at 40 17)

pub examples : Examples
unfolding bytes same is_digit is_capital is_letter is_name is_blank bytes_run word_of further_header header_of spelt is_int number named quoted at fixed sign_of front gap_of
    first some tokens_at full prop_set wanted behind step_within label_step run wants_int union alone sig_step entry_of on_closing row_step rows_end
examples =
    record {
      kept = refl;
      sorted_from = refl;
      sorted_to = refl;
      both_marks = refl;
      too_short = refl;
      twice = refl;
      above = refl;
      too_many = refl;
      too_few = refl;
      no_row = refl;
      state_label = refl;
      bare = refl;
      joined = refl;
      large = refl;
      early_edge = refl;
      comma = refl;
      another = refl;
      late_abort = refl;
    }
