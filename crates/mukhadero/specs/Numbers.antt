-- What the C face tells (docs/RULES.md, "What comes back"): the numbers of an answer that the judge, or the translation, promises. Assumes nothing.
use Rattle.table.specs.declared.Refusal.{Refusal}
use Rattle.std.specs.Prelude.{◌≡◌, List, ℕ, replicate, Result}
use Rattle.table.specs.declared.Acceptance.{Acceptance}
use Rattle.table.specs.declared.Answer.{Answer}
use Rattle.table.specs.Table.{Table}
use Rattle.judging.specs.Answer.{Answers}
use Rattle.one_mark.specs.declared.Translation.{Translation}
use Rattle.one_mark.specs.Outcome.{Outcome}
use Rattle.face.specs.declared.AnswerNumbers.{AnswerNumbers}
use Rattle.face.specs.declared.TableNumbers.{TableNumbers}
use Rattle.face.specs.Numbers.{answer_numbers, table_numbers}

-- ---- the judge

-- kinds other than Rabin do not read the needs
abbrev pub no_needs : List ℕ
no_needs = replicate 8 0

-- the numbers are those of an answer that the judge promises for this input, and the lent cells are as promised with it
pub record JudgeTells (t : Table) (c : Acceptance) (needs room room' scratch scratch' : List ℕ) (r : AnswerNumbers) : Type 0 where
  pub answer : Answer
  pub promised : Answers t c needs room room' scratch scratch' answer
  pub told : r ≡ answer_numbers answer

-- ---- the translation

-- the numbers are those of the answer that the translation promises, and the outputs hold what it promises
pub record TranslationTells (t : Table) (k : ℕ) (from to marks : List ℕ) (r : TableNumbers) (from' to' marks' : List ℕ) : Type 0 where
  pub answer : Result Translation Refusal
  pub promised : Outcome t k from to marks answer from' to' marks'
  pub told : r ≡ table_numbers answer
