-- Two results that a contract of this crate allows for one input are equal; of a judge's run, the lasso's own edges and lengths aside (docs/DECISIONS.md gives
-- the grounds). Assumes nothing.
use Rattle.table.specs.declared.Refusal.{Refusal}
use Rattle.std.specs.Prelude.{Result}
use mathlib.Core.Path.{◌≡◌, refl, sym, ap, ◌∙◌}
use mathlib.Core.List.{List}
use Prim.Native.Nat.{ℕ, ◌<◌}
use native.Mathlib.Omega.{arith}
use lib.ListN.{length}
use Rattle.table.specs.declared.Acceptance.{Acceptance}
use Rattle.table.specs.declared.Verdict.{Verdict}
use Rattle.table.specs.declared.Verdict.TheVariants.{Run, Empty, Refused}
use Rattle.table.specs.Table.{Table}
use Rattle.table.specs.Verdict.{kind_of, number_of, place_of}
use Rattle.judging.proofs.Unique.{Alike, answers_alike}
use Rattle.one_mark.proofs.Faithful.{one_result}
use Rattle.face.specs.declared.AnswerNumbers.{AnswerNumbers}
use Rattle.face.specs.declared.TableNumbers.{TableNumbers}
use Rattle.writing.proofs.Writings.{given_once}
use Rattle.hoa.proofs.Returning.{read_once as once}
use Rattle.face.specs.declared.hanoi.HoaNumbers.{HoaNumbers}
use Rattle.face.specs.declared.hanoi.TextNumbers.{TextNumbers}
use Rattle.face.specs.Hoa.{hoa_numbers, text_numbers}
use Rattle.face.specs.Numbers.{answer_numbers, table_numbers}
use Rattle.mukhadero.specs.Hoa.{ReadTells, TextTells}
use Rattle.mukhadero.specs.Numbers.{JudgeTells, TranslationTells}

-- ---- the judge

-- what two results share: everything if they are no run; for a run all but the lengths and the cells of the lasso
pub record SameButLasso (r s : AnswerNumbers) (room₁ room₂ scratch₁ scratch₂ : List ℕ) : Type 0 where
  pub verdict : r.verdict ≡ s.verdict
  pub number : r.number ≡ s.number
  pub place : r.place ≡ s.place
  pub pair : r.pair ≡ s.pair
  pub depth : r.depth ≡ s.depth
  pub no_run : r.verdict < 2 → (r ≡ s) × (room₁ ≡ room₂)
  pub room_length : length room₁ ≡ length room₂
  pub scratch : scratch₁ ≡ scratch₂

-- the numbers of a verdict and a depth
abbrev told : Verdict → ℕ → AnswerNumbers
told v d = answer_numbers (record { verdict = v; depth = d })

-- kind, number, place and depth are all there is to an answer that is no run
no_more : (v w : Verdict) (d : ℕ) → kind_of v ≡ kind_of w → number_of v ≡ number_of w → place_of v ≡ place_of w → kind_of v < 2 → told v d ≡ told w d
no_more (Run p q i) w d k n l b = absurd (omega (arith, b))
no_more Empty (Run p q i) d k n l b = absurd (omega (arith, k))
no_more Empty Empty d k n l b = refl
no_more Empty (Refused n' l') d k n l b = absurd (omega (arith, k))
no_more (Refused n₁ l₁) (Run p q i) d k n l b = absurd (omega (arith, k))
no_more (Refused n₁ l₁) Empty d k n l b = absurd (omega (arith, k))
no_more (Refused n₁ l₁) (Refused n₂ l₂) d k n l b = rw (n, l)

alike_same : (v w : Verdict) (d e : ℕ) {room₁ room₂ scratch₁ scratch₂ : List ℕ} → Alike v w d e room₁ room₂ scratch₁ scratch₂
    → SameButLasso (told v d) (told w e) room₁ room₂ scratch₁ scratch₂
alike_same v w d e A =
    record {
      verdict = A.kind;
      number = A.number;
      place = A.place;
      pair = A.pair;
      depth = A.depth;
      no_run = λ b. (no_more v w d A.kind A.number A.place b ∙ ap (told w) A.depth, A.room b);
      room_length = A.room_length;
      scratch = A.scratch;
    }

pub judge_once : (t : Table) (c : Acceptance) (needs room scratch : List ℕ) (r s : AnswerNumbers) {room₁ room₂ scratch₁ scratch₂ : List ℕ}
    → JudgeTells t c needs room room₁ scratch scratch₁ r → JudgeTells t c needs room room₂ scratch scratch₂ s
    → SameButLasso r s room₁ room₂ scratch₁ scratch₂
judge_once t c needs room scratch r s R S =
    rw (R.told, S.told)
    (alike_same R.answer.verdict S.answer.verdict R.answer.depth S.answer.depth (answers_alike t c needs room scratch R.answer S.answer R.promised S.promised))

-- ---- the translation

pub record Same (r s : TableNumbers) (from₁ to₁ marks₁ from₂ to₂ marks₂ : List ℕ) : Type 0 where
  pub numbers : r ≡ s
  pub from_lists : from₁ ≡ from₂
  pub to_lists : to₁ ≡ to₂
  pub marks_lists : marks₁ ≡ marks₂

pub translation_once : (t : Table) (k : ℕ) (from to marks : List ℕ) (r s : TableNumbers) {from₁ to₁ marks₁ from₂ to₂ marks₂ : List ℕ}
    → TranslationTells t k from to marks r from₁ to₁ marks₁ → TranslationTells t k from to marks s from₂ to₂ marks₂
    → Same r s from₁ to₁ marks₁ from₂ to₂ marks₂
translation_once t k from to marks r s {from₁} {to₁} {marks₁} {from₂} {to₂} {marks₂} R S =
    let one = one_result t k from to marks R.answer S.answer from₁ to₁ marks₁ from₂ to₂ marks₂ R.promised S.promised in
    record {
      numbers = R.told ∙ ap table_numbers one.answers ∙ sym S.told;
      from_lists = one.from_lists;
      to_lists = one.to_lists;
      marks_lists = one.marks_lists;
    }

-- ---- the reader of the Hanoi format

pub read_once : (text from to marks : List ℕ) (r s : HoaNumbers) {from₁ to₁ marks₁ from₂ to₂ marks₂ : List ℕ}
    → ReadTells text from to marks r from₁ to₁ marks₁ → ReadTells text from to marks s from₂ to₂ marks₂
    → (r ≡ s) × ((from₁ ≡ from₂) × ((to₁ ≡ to₂) × (marks₁ ≡ marks₂)))
read_once text from to marks r s R S =
    let one = once R.promised S.promised in
    (R.told ∙ ap hoa_numbers one.0 ∙ sym S.told, one.1)

-- ---- the writers

pub written_once : (text : List ℕ) (cause : Result Unit Refusal) (out : List ℕ) (r s : TextNumbers) {out₁ out₂ : List ℕ}
    → TextTells text cause out out₁ r → TextTells text cause out out₂ s → (r ≡ s) × (out₁ ≡ out₂)
written_once text cause out r s R S =
    let one = given_once R.promised S.promised in
    (R.told ∙ ap text_numbers one.0 ∙ sym S.told, one.1)
