-- Where reading goes on behind an item of the header, or the refusal: what the machine says from there on. Assumes nothing.
use Rattle.std.specs.Prelude.{◌≡◌, Bool, false, cond, not, ◌||◌, Result, Ok, Err, List, ℕ, ◌+◌, ◌≤◌, length}
use Rattle.hoa_tokens.specs.declared.BadToken.{BadToken}
use Rattle.hoa_tokens.specs.declared.Header.{Header}
use Rattle.hoa_tokens.specs.declared.Header.TheVariants as header_is
use Rattle.hoa_tokens.specs.Stream.{tokens_at}
use Rattle.hoa_step.specs.Given.{is_given}
use Rattle.hoa_step.specs.Machine.{End, done_at, wrong_at, end_by, run}
use Rattle.hoa_value.specs.declared.Head.{Head}
use Rattle.hoa_head.specs.declared.HeadRead.{HeadRead}
use Rattle.hoa_head.specs.declared.item.HeadTurn.{HeadTurn}
use Rattle.hoa_head.specs.declared.item.HeadTurn.TheVariants as turn
use Rattle.hoa_value.specs.Head.{blank}
use Rattle.hoa_value.specs.Heading.{HeadState, items, head_step, on_item}
use Rattle.hoa_head.specs.Headed.{Ends}

-- ---- behind an item

-- the next item, or the refusal
abbrev pub item_end : List ℕ → Result HeadRead BadToken → End Head
item_end text (Ok r) = run head_step (tokens_at text r.next) (items r.head)
item_end text (Err bad) = wrong_at bad.number bad.place

-- all of it in the text, from here on
abbrev pub ItemIn : List ℕ → ℕ → Result HeadRead BadToken → Type 0
ItemIn text low (Ok r) = (low ≤ r.next) × (r.next ≤ length text)
ItemIn text low (Err bad) = bad.place ≤ length text

-- what the machine says of the tokens from `at` on
pub record Turned (text : List ℕ) (at : ℕ) (s : HeadState) (r : Result HeadRead BadToken) : Type 0 where
  pub says : run head_step (tokens_at text at) s ≡ item_end text r
  pub stays : ItemIn text at r

-- what it says behind the header of an item, which stands at p
pub record Opened (text : List ℕ) (p q : ℕ) (h : Head) (k : Header) (r : Result HeadRead BadToken) : Type 0 where
  pub says : end_by (on_item h k) p (tokens_at text q) (λ s. run head_step (tokens_at text q) s) ≡ item_end text r
  pub stays : ItemIn text q r

-- ---- behind an item or `--BODY--`

-- behind `--BODY--`, which stands at p
abbrev pub body_turn : ℕ → ℕ → Head → Result HeadRead BadToken
body_turn p q h = cond (not (is_given h.start) || not (is_given h.marks)) (Err (record { number = 41; place = p })) (Ok (record { head = h; next = q }))

-- the next item, the text behind `--BODY--`, or the refusal
abbrev pub turn_end : List ℕ → Result HeadTurn BadToken → End Head
turn_end text (Ok (turn.Go r)) = run head_step (tokens_at text r.next) (items r.head)
turn_end text (Ok (turn.Done r)) = done_at r.head (tokens_at text r.next)
turn_end text (Err bad) = wrong_at bad.number bad.place

-- all of it in the text, from here on
abbrev pub TurnIn : List ℕ → ℕ → Result HeadTurn BadToken → Type 0
TurnIn text low (Ok (turn.Go r)) = (low ≤ r.next) × (r.next ≤ length text)
TurnIn text low (Ok (turn.Done r)) = r.next ≤ length text
TurnIn text low (Err bad) = bad.place ≤ length text

-- an item takes a byte at least
pub record ItemTurned (text : List ℕ) (at : ℕ) (h : Head) (r : Result HeadTurn BadToken) : Type 0 where
  pub says : run head_step (tokens_at text at) (items h) ≡ turn_end text r
  pub stays : TurnIn text (at + 1) r

-- how the header ends, from an item on
pub record ItemsRead (text : List ℕ) (at : ℕ) (r : Result HeadRead BadToken) : Type 0 where
  pub says : Ends text (run head_step (tokens_at text at) (items blank)) r

-- "one of States:, Start:, AP:, Acceptance:, acc-name:, tool:, name: that came before"
abbrev pub second : Head → Header → Bool
second h header_is.States = is_given h.states
second h header_is.Start = is_given h.start
second h header_is.Ap = is_given h.props
second h header_is.Acceptance = is_given h.marks
second h header_is.AccName = h.hint
second h header_is.Tool = h.tool
second h header_is.Name = h.name
second h header_is.Properties = false
second h header_is.Lower = false
second h header_is.Alias = false
second h header_is.Capital = false
second h header_is.Hoa = false
second h header_is.State = false
