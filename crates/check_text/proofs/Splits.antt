-- Where the job ends, line by line, and what is heard of the answer text. Assumes nothing.
use mathlib.Core.Path.{◌≡◌, refl, ◌∙◌}
use mathlib.Core.Bool.{true, false}
use mathlib.Core.List.{List, [], ◌∷◌}
use Prim.Native.Nat.{ℕ, suc, ◌+◌, ◌-◌, ◌≤◌, ◌<◌}
use native.Mathlib.Omega.{arith}
use lib.ListN.{length, drop, length-take, length-drop, drop_of_length-le}
use lib.Seq.{drop-drop, take_all}
use borrow.Author.Tests.{lt-ltb, le-ltb}
use Rattle.marks.proofs.Cases.{below}
use Rattle.table.specs.Row.{part}
use Rattle.job_text.specs.Text.{newline, line, lines, same, ahead, FirstAt}
use Rattle.job_text.proofs.Text.{lines_cut, lines_uncut, unended}
use Rattle.check_text.specs.Split.{end_line, size_from, job_size, job_part, answer_part, most_answer, heard}
use Rattle.check_text.specs.inner.{JobEnds, HeardTo}

-- ---- the job's end

-- before the first line
pub no_line_yet : (input : List ℕ) → job_size input ≡ size_from (length input) 0 (lines (drop 0 input))
unfolding job_size
no_line_yet input = refl

pub unended_size : (all at : ℕ) (xs : List ℕ) → size_from all at (unended xs) ≡ all
unfolding size_from
unended_size all at [] = refl
unended_size all at (x ∷ xs) = refl

-- behind the last line
pub no_more_lines : (input : List ℕ) (at : ℕ) → length input ≤ at → size_from (length input) at (lines (drop at input)) ≡ length input
unfolding size_from lines
no_more_lines input at l = rw (drop_of_length-le input l)

module _ (input : List ℕ) (at e : ℕ) (f : FirstAt input at newline e) where
  -- no newline byte from here on
  pub broken_line : length input ≤ e → size_from (length input) at (lines (drop at input)) ≡ length input
  broken_line l =
      rw (lines_uncut (drop at input) (omega (arith, f.place, length-drop at input))) (unended_size (length input) at (drop at input))

  module _ (l : e < length input) where
    line_here : lines (drop at input) ≡ line (part at e input) (lines (drop (e + 1) input))
    line_here =
        let a : e - at ≡ ahead newline (drop at input) = omega (arith, f.place) in
        let b : at + suc (ahead newline (drop at input)) ≡ e + 1 = omega (arith, f.place) in
        lines_cut (drop at input) (omega (arith, f.place, length-drop at input))
        ∙ rw (drop-drop (suc (ahead newline (drop at input))) at input, b, a)

    behind : at + (length (part at e input) + 1) ≡ e + 1
    behind = omega (arith, f.low, length-take (e - at) (drop at input), length-drop at input)

    -- the line is `end=job`
    pub end_here : same (part at e input) end_line ≡ true → size_from (length input) at (lines (drop at input)) ≡ e + 1
    unfolding size_from
    end_here s = rw (line_here, s) behind

    -- another line
    pub other_line : same (part at e input) end_line ≡ false
        → size_from (length input) at (lines (drop at input)) ≡ size_from (length input) (e + 1) (lines (drop (e + 1) input))
    unfolding size_from
    other_line s = rw (line_here, s, behind)

-- ---- the two parts

module _ (input : List ℕ) (size end : ℕ) (J : JobEnds input size) (H : HeardTo size (length input) end) where
  -- what is handed on as the job
  pub job_is : part 0 size input ≡ job_part input
  job_is = let e : size - 0 ≡ job_size input = omega (arith, J.is) in rw e

  rest : drop size input ≡ answer_part input
  rest = rw J.is

  -- .. and as the answer text
  pub answer_is : part size end input ≡ heard (answer_part input)
  answer_is =
      below most_answer (length (drop size input))
      (λ l.
      let e : end - size ≡ 0 = omega (arith, H.long (omega (arith, l, length-drop size input))) in
      rw (e, ← rest, lt-ltb most_answer (length (drop size input)) l))
      (λ l.
      let e : end ≡ length input = H.short (omega (arith, l, length-drop size input, J.within)) in
      rw (← rest, le-ltb most_answer (length (drop size input)) l) (take_all (end - size) (drop size input) (omega (arith, e, length-drop size input))))

  -- it is not long
  pub answer_few : length (part size end input) ≤ most_answer
  answer_few =
      below (size + most_answer) (length input) (λ l. omega (arith, H.long l, length-take (end - size) (drop size input)))
      (λ l. omega (arith, l, H.short l, length-take (end - size) (drop size input)))
