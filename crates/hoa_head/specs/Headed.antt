-- What comes back for the header of a text. Assumes nothing.
use Rattle.std.specs.Prelude.{◌≡◌, Result, Ok, Err, List, ℕ, ◌≤◌, length}
use Rattle.hoa_tokens.specs.declared.BadToken.{BadToken}
use Rattle.hoa_tokens.specs.Stream.{tokens_at}
use Rattle.hoa_step.specs.Machine.{End, done_at, wrong_at, run}
use Rattle.hoa_value.specs.declared.Head.{Head}
use Rattle.hoa_head.specs.declared.HeadRead.{HeadRead}
use Rattle.hoa_value.specs.Heading.{opening, head_step}

-- how the header of a text ends
unfoldable pub head_end : List ℕ → End Head
head_end text = run head_step (tokens_at text 0) opening

-- the header and the tokens behind `--BODY--`, or the refusal
abbrev pub Ends : List ℕ → End Head → Result HeadRead BadToken → Type 0
Ends text e (Ok r) = (e ≡ done_at r.head (tokens_at text r.next)) × (r.next ≤ length text)
Ends text e (Err bad) = (e ≡ wrong_at bad.number bad.place) × (bad.place ≤ length text)

-- the whole promise
pub record Headed (text : List ℕ) (r : Result HeadRead BadToken) : Type 0 where
  pub says : Ends text (head_end text) r
