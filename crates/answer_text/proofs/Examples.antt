-- The rules' own examples (docs/RULES.md) of the printed answer, computed from the definitions. Assumes nothing.
use mathlib.Core.Path.{◌≡◌, refl}
use mathlib.Core.List.{[], ◌∷◌}
use Rattle.table.specs.declared.Acceptance.TheVariants.{Rabin}
use Rattle.table.specs.declared.Verdict.TheVariants.{Run}
use Rattle.puts.specs.Put.{decimal_in}
use Rattle.answer_text.specs.Printed.{stop, step_text, further_text, list_text, top_text, bottom_text, answer_text}

-- "Whole output"
whole_printed : answer_text (Run 0 1 1) 0 0 (Rabin 2) (0 ∷ [])
    ≡ 118 ∷ 101 ∷ 114 ∷ 100 ∷ 105 ∷ 99 ∷ 116 ∷ 61 ∷ 114 ∷ 117 ∷ 110 ∷ 10 ∷ 99 ∷ 111 ∷ 100 ∷ 101 ∷ 61 ∷ 48 ∷ 10 ∷ 112 ∷ 108 ∷ 97 ∷ 99 ∷ 101 ∷ 61 ∷ 48 ∷ 10 ∷ 99 ∷ 111 ∷ 108 ∷ 117 ∷ 109 ∷ 110 ∷ 61 ∷ 48 ∷ 10 ∷ 112 ∷ 97 ∷ 105 ∷ 114 ∷ 61 ∷ 49 ∷ 10 ∷ 100 ∷ 101 ∷ 112 ∷ 116 ∷ 104 ∷ 61 ∷ 48 ∷ 10 ∷ 112 ∷ 114 ∷ 101 ∷ 102 ∷ 105 ∷ 120 ∷ 61 ∷ 45 ∷ 10 ∷ 99 ∷ 121 ∷ 99 ∷ 108 ∷ 101 ∷ 61 ∷ 48 ∷ 10 ∷ []
unfolding decimal_in step_text further_text top_text bottom_text answer_text
whole_printed = refl

-- edge 3, then a wait for ever
stop_printed : list_text (3 ∷ 65535 ∷ []) ≡ 51 ∷ 44 ∷ stop
unfolding decimal_in step_text further_text
stop_printed = refl
