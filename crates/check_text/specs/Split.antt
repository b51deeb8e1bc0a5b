-- Two texts on one input: where the job ends and the answer text begins (docs/RULES.md, "An answer that is checked"). Assumes nothing.
use Rattle.std.specs.Prelude.{cond, List, [], ◌++◌, ℕ, ◌+◌, ltb, length, take, drop}
use Rattle.job_text.specs.Text.{Lines, done, broken, line, lines, same}
use Rattle.job_text.specs.Value.{job}
use Rattle.job_text.specs.Job.{end=}

-- the line that is exactly `end=job`
abbrev pub end_line : List ℕ
end_line = end= ++ job

-- where `at` bytes stand before these lines, of `all`: how many there are "up to and including the newline of its first line that is exactly `end=job`";
-- "no such line: all is job text"
unfoldable pub size_from : ℕ → ℕ → Lines → ℕ
size_from all at done = all
size_from all at broken = all
size_from all at (line l ls) = cond (same l end_line) (at + (length l + 1)) (size_from all (at + (length l + 1)) ls)

-- how many bytes of an input are the job's
unfoldable pub job_size : List ℕ → ℕ
job_size input = size_from (length input) 0 (lines input)

-- the job text ..
abbrev pub job_part : List ℕ → List ℕ
job_part input = take (job_size input) input

-- .. and "the rest", the answer text
abbrev pub answer_part : List ℕ → List ℕ
answer_part input = drop (job_size input) input

-- "an answer text above 65,536 bytes: 50": it is taken for an empty one, which is malformed (`Long.too_long`, in proofs/)
abbrev pub most_answer : ℕ
most_answer = 65536

abbrev pub heard : List ℕ → List ℕ
heard answer = cond (ltb most_answer (length answer)) [] answer
