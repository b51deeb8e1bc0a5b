-- From bytes to bytes: what is printed for a text of the Hanoi format, every text (docs/RULES.md, "The Hanoi format"). Assumes nothing.
use Rattle.std.specs.Prelude.{◌≡◌, cond, List, ℕ, ltb, length}
use Rattle.job_text.specs.Job.{Outcome, fault}
use Rattle.hoa.specs.Reading.{read_hoa}
use Rattle.judge_text.specs.Replied.{ReplyTo, Holds}

-- the longest text that is judged
abbrev pub most_hoa_bytes : ℕ
most_hoa_bytes = 1048576

-- "a longer one gives 42 at place 1,048,576 before all else"
abbrev pub hoa_outcome : List ℕ → Outcome
hoa_outcome text = cond (ltb most_hoa_bytes (length text)) (fault 42 most_hoa_bytes) (read_hoa text)

-- "column 0": the place is a byte already
abbrev pub NoColumn : ℕ → Type 0
NoColumn column = column ≡ 0

-- the whole promise, for every text: what the reader refuses is printed as it is, what it reads is judged; what the text is answered, and nothing else,
-- stands in `out`, and `size` is how long it is
pub record HoaReplied (text out : List ℕ) (size : ℕ) : Type 0 where
  pub printed : List ℕ
  pub says : ReplyTo NoColumn (hoa_outcome text) printed
  pub held : Holds printed out size
