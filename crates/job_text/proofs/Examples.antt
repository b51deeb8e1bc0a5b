-- The rules' own examples (docs/RULES.md) of the job text, computed from the definitions. Assumes nothing.
use mathlib.Core.Path.{◌≡◌, refl}
use mathlib.Core.List.{List, [], ◌∷◌}
use Prim.Native.Nat.{ℕ}
use Rattle.table.specs.declared.Acceptance.TheVariants.{Streett, Rabin}
use Rattle.digits.specs.Digit.{digit, hex_digit}
use Rattle.job_text.specs.Text.{lines, fields, same}
use Rattle.job_text.specs.Value.{spelt, number, hex_word, edge, text_form, kind, listed, needs, end, padded}
use Rattle.job_text.specs.Job.{job, fault, read_job}

-- "Whole input"
whole : List ℕ
whole =
    115 ∷ 116 ∷ 97 ∷ 116 ∷ 101 ∷ 115 ∷ 61 ∷ 49 ∷ 10 ∷ 115 ∷ 116 ∷ 97 ∷ 114 ∷ 116 ∷ 61 ∷ 48 ∷ 10 ∷ 107 ∷ 105 ∷ 110 ∷ 100 ∷ 61 ∷ 114 ∷ 97 ∷ 98 ∷ 105 ∷ 110 ∷ 10 ∷ 99 ∷ 111 ∷ 117 ∷ 110 ∷ 116 ∷ 61 ∷ 50 ∷ 10 ∷ 110 ∷ 101 ∷ 101 ∷ 100 ∷ 61 ∷ 48 ∷ 44 ∷ 48 ∷ 10 ∷ 101 ∷ 100 ∷ 103 ∷ 101 ∷ 115 ∷ 61 ∷ 49 ∷ 10 ∷ 101 ∷ 100 ∷ 103 ∷ 101 ∷ 61 ∷ 48 ∷ 44 ∷ 48 ∷ 44 ∷ 48 ∷ 48 ∷ 48 ∷ 48 ∷ 48 ∷ 48 ∷ 48 ∷ 49 ∷ 10 ∷ 101 ∷ 110 ∷ 100 ∷ 61 ∷ 106 ∷ 111 ∷ 98 ∷ 10 ∷ []

whole_read : read_job whole
    ≡ job (record { states = 1; start = 0; condition = Rabin 2; needs = padded (0 ∷ 0 ∷ []); edges = record { from = 0; to = 0; marks = 1 } ∷ [] })
unfolding whole read_job lines fields same digit hex_digit spelt number hex_word edge text_form kind listed needs end
whole_read = refl

-- no kind line, and the last newline byte forgotten: 21 at line 6
cut_off : List ℕ
cut_off =
    115 ∷ 116 ∷ 97 ∷ 116 ∷ 101 ∷ 115 ∷ 61 ∷ 49 ∷ 10 ∷ 115 ∷ 116 ∷ 97 ∷ 114 ∷ 116 ∷ 61 ∷ 48 ∷ 10 ∷ 99 ∷ 111 ∷ 117 ∷ 110 ∷ 116 ∷ 61 ∷ 48 ∷ 10 ∷ 110 ∷ 101 ∷ 101 ∷ 100 ∷ 61 ∷ 45 ∷ 10 ∷ 101 ∷ 100 ∷ 103 ∷ 101 ∷ 115 ∷ 61 ∷ 48 ∷ 10 ∷ 101 ∷ 110 ∷ 100 ∷ 61 ∷ 106 ∷ 111 ∷ 98 ∷ []

cut_off_refused : read_job cut_off ≡ fault 21 6
unfolding cut_off read_job lines fields same digit hex_digit spelt number hex_word edge text_form kind listed needs end
cut_off_refused = refl

-- form 2 and no kind line: streett
second : List ℕ
second =
    102 ∷ 111 ∷ 114 ∷ 109 ∷ 61 ∷ 50 ∷ 10 ∷ 115 ∷ 116 ∷ 97 ∷ 116 ∷ 101 ∷ 115 ∷ 61 ∷ 49 ∷ 10 ∷ 115 ∷ 116 ∷ 97 ∷ 114 ∷ 116 ∷ 61 ∷ 48 ∷ 10 ∷ 99 ∷ 111 ∷ 117 ∷ 110 ∷ 116 ∷ 61 ∷ 49 ∷ 10 ∷ 110 ∷ 101 ∷ 101 ∷ 100 ∷ 61 ∷ 45 ∷ 10 ∷ 101 ∷ 100 ∷ 103 ∷ 101 ∷ 115 ∷ 61 ∷ 48 ∷ 10 ∷ 101 ∷ 110 ∷ 100 ∷ 61 ∷ 106 ∷ 111 ∷ 98 ∷ 10 ∷ []

second_read : read_job second ≡ job (record { states = 1; start = 0; condition = Streett 1; needs = padded []; edges = [] })
unfolding second read_job lines fields same digit hex_digit spelt number hex_word edge text_form kind listed needs end
second_read = refl

-- the form's line in second place: 21 at line 2
second_late : List ℕ
second_late = 115 ∷ 116 ∷ 97 ∷ 116 ∷ 101 ∷ 115 ∷ 61 ∷ 49 ∷ 10 ∷ 102 ∷ 111 ∷ 114 ∷ 109 ∷ 61 ∷ 50 ∷ 10 ∷ 115 ∷ 116 ∷ 97 ∷ 114 ∷ 116 ∷ 61 ∷ 48 ∷ 10 ∷ []

late_refused : read_job second_late ≡ fault 21 2
unfolding second_late read_job lines fields same digit hex_digit spelt number hex_word edge text_form kind listed needs end
late_refused = refl
