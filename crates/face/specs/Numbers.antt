-- The numbers by which the C face tells what the judge, or the translation, answers (docs/RULES.md, "What comes back"). Assumes nothing.
use Rattle.std.specs.Prelude.{Result}
use Rattle.table.specs.declared.Refusal.{Refusal}
use Rattle.table.specs.declared.Answer.{Answer}
use Rattle.table.specs.Verdict.{kind_of, number_of, place_of, pair_of, prefix_of, cycle_of}
use Rattle.one_mark.specs.declared.Translation.{Translation}
use Rattle.one_mark.specs.Outcome.{states_of, edges_of, start_of, number_of as table_number_of, place_of as table_place_of}
use Rattle.face.specs.declared.AnswerNumbers.{AnswerNumbers}
use Rattle.face.specs.declared.TableNumbers.{TableNumbers}

-- an answer in plain numbers
abbrev pub answer_numbers : Answer → AnswerNumbers
answer_numbers a =
    record {
      verdict = kind_of a.verdict;
      number = number_of a.verdict;
      place = place_of a.verdict;
      pair = pair_of a.verdict;
      prefix = prefix_of a.verdict;
      cycle = cycle_of a.verdict;
      depth = a.depth;
    }

-- the answer of the translation in plain numbers
abbrev pub table_numbers : Result Translation Refusal → TableNumbers
table_numbers a =
    record { number = table_number_of a; place = table_place_of a; states = states_of a; edges = edges_of a; start = start_of a }
