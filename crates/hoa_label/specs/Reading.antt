-- What reading a label gives (docs/RULES.md, "The Hanoi format"). What it means is proved in proofs/Promises.antt. Assumes nothing.
use Rattle.std.specs.Prelude.{Result, Ok, Err, List, [], ◌∷◌, ◌++◌, ◌≡◌, ℕ, ◌<◌, ◌≤◌, length}
use Rattle.hoa_tokens.specs.declared.Sign.TheVariants as sign_is
use Rattle.hoa_tokens.specs.Token.{Token, sign}
use Rattle.hoa_tokens.specs.declared.BadToken.{BadToken}
use Rattle.hoa_tokens.specs.Stream.{Placed, tokens_at, bad_at}
use Rattle.hoa_label.specs.declared.LabelRead.{LabelRead}
use Rattle.hoa_label.specs.Label.{Label, label_text, most_levels, Within, Begins, Fault, SetOf}
use Rattle.hoa_label.specs.Labels.{label_begin, LabelEnd, shut_at, wrong_at, label_run, label_next}

-- a label that is read, with its set and the byte behind it
abbrev pub shut_to : ℕ → ℕ → Result LabelRead BadToken
shut_to set next = Ok (record { set = set; next = next })

-- what a reading says of the run over the tokens
abbrev pub label_end : List ℕ → Result LabelRead BadToken → LabelEnd
label_end text (Ok r) = shut_at r.set (tokens_at text r.next)
label_end text (Err e) = wrong_at e.number e.place

-- the byte behind the label
abbrev pub next_of : Result LabelRead BadToken → ℕ
next_of (Ok r) = r.next
next_of (Err e) = 0

-- a label that is read ends behind where it began, within the text
abbrev pub Onward : List ℕ → ℕ → Result LabelRead BadToken → Type 0
Onward text at (Ok r) = (at < r.next) × (r.next ≤ length text)
Onward text at (Err e) = Unit

-- r is what the tokens of the text from `at` on, behind a label's `[`, give with a propositions
pub record LabelAt (text : List ℕ) (at a : ℕ) (r : Result LabelRead BadToken) : Type 0 where
  pub is : label_run a label_begin (tokens_at text at) ≡ label_end text r
  pub behind : label_next a label_begin (tokens_at text at) ≡ next_of r
  pub onward : Onward text at r

-- ---- what that comes to

-- tokens without their places
abbrev pub tokens_of : List Placed → List Token
tokens_of [] = []
tokens_of (p ∷ ps) = p.token ∷ tokens_of ps

-- a label that is read is a label of the grammar, with a propositions, whose brackets nest no deeper than is allowed; with at most 6 propositions its set is that of
-- the valuations in which it holds. A refusal is at the place of the first token that is faulty, with its number.
pub data Promised (text : List ℕ) (at a : ℕ) : Result LabelRead BadToken → Type 0 where
  read : {set next : ℕ} (l : Label) → Within most_levels a l
      → tokens_of (tokens_at text at) ≡ label_text l (sign sign_is.BracketRight ∷ tokens_of (tokens_at text next))
      → (a ≤ 6 → SetOf l set) → Promised text at a (shut_to set next)
  refused : {number : ℕ} (before : List Placed) (t : Placed) (after : List Placed)
      → tokens_at text at ≡ before ++ t ∷ after
      → Begins (Within most_levels a) (tokens_of before)
      → Fault most_levels a (tokens_of before) t.token number → Promised text at a (bad_at number t.place)
