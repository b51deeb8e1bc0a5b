-- An item or `--BODY--`, and the items one after the other. Assumes nothing.
use mathlib.Core.Path.{◌≡◌, refl, ◌∙◌}
use mathlib.Core.Bool.{not, ◌||◌}
use mathlib.Core.List.{List}
use Prim.Native.Nat.{ℕ, ◌+◌, ◌≤◌}
use native.Mathlib.Omega.{arith}
use lib.ListN.{length}
use Rattle.std.specs.Prelude.{Result, Ok, Err}
use Rattle.hoa_tokens.specs.declared.BadToken.{BadToken}
use Rattle.hoa_tokens.specs.declared.Header.{Header}
use Rattle.hoa_tokens.specs.Stream.{tokens_at}
use Rattle.hoa_tokens.proofs.Sizes.{by_test}
use Rattle.hoa_step.specs.Given.{is_given}
use Rattle.hoa_step.specs.Machine.{wrong, end_by, run}
use Rattle.hoa_step.proofs.Runs.{first_is, first_wrong}
use Rattle.hoa_value.specs.declared.Head.{Head}
use Rattle.hoa_value.specs.declared.Piece.{Piece}
use Rattle.hoa_value.specs.declared.Piece.TheVariants as piece_is
use Rattle.hoa_value.specs.declared.token.Spot.{Spot}
use Rattle.hoa_head.specs.declared.HeadRead.{HeadRead}
use Rattle.hoa_head.specs.declared.item.HeadTurn.{HeadTurn}
use Rattle.hoa_head.specs.declared.item.HeadTurn.TheVariants as turn
use Rattle.hoa_value.specs.Head.{blank}
use Rattle.hoa_value.specs.Heading.{items, head_step, on_body, on_piece}
use Rattle.hoa_head.specs.Headed.{Headed, head_end}
use Rattle.hoa_value.specs.inner.Pieces.{Spotted}
use Rattle.hoa_head.specs.inner.Openings.{OpeningRead}
use Rattle.hoa_head.specs.inner.Turns.{item_end, ItemIn, turn_end, TurnIn, body_turn, Opened, ItemTurned, ItemsRead}

-- ---- an item, or `--BODY--`

-- behind an item the next one may begin
abbrev pub go_turn : Result HeadRead BadToken → Result HeadTurn BadToken
go_turn (Ok r) = Ok (turn.Go r)
go_turn (Err bad) = Err bad

-- behind `--BODY--` the header is over
abbrev pub done_turn : Result HeadRead BadToken → Result HeadTurn BadToken
done_turn (Ok r) = Ok (turn.Done r)
done_turn (Err bad) = Err bad

turn_lower : (text : List ℕ) (low low' : ℕ) (r : Result HeadRead BadToken) → low' ≤ low → ItemIn text low r → TurnIn text low' (go_turn r)
turn_lower text low low' (Ok r) l s = (omega (arith, s.0), s.1)
turn_lower text low low' (Err bad) l s = s

body_given : (text : List ℕ) (p q : ℕ) (h : Head)
    → end_by (on_body h) p (tokens_at text q) (λ s. run head_step (tokens_at text q) s) ≡ turn_end text (done_turn (body_turn p q h))
body_given text p q h = by_test (not (is_given h.start) || not (is_given h.marks)) (λ e. rw e) (λ e. rw e)

body_in : (text : List ℕ) (low p q : ℕ) (h : Head) → p ≤ length text → q ≤ length text → TurnIn text low (done_turn (body_turn p q h))
body_in text low p q h a b = by_test (not (is_given h.start) || not (is_given h.marks)) (λ e. rw e a) (λ e. rw e b)

-- what begins neither an item nor `--BODY--`
pub no_item : (h : Head) (p : Piece) → ((k : Header) → p ≡ piece_is.Item k → ⊥) → (p ≡ piece_is.Body → ⊥) → ((n : ℕ) → p ≡ piece_is.Wrong n → ⊥)
    → on_piece h p ≡ wrong 40
no_item h (piece_is.Item k) i b w = absurd (i k refl)
no_item h piece_is.Body i b w = absurd (b refl)
no_item h piece_is.Word i b w = refl
no_item h piece_is.Int i b w = refl
no_item h piece_is.Text i b w = refl
no_item h piece_is.Join i b w = refl
no_item h (piece_is.Wrong n) i b w = absurd (w n refl)

module _ (text : List ℕ) (at : ℕ) (h : Head) (x : Spot) (s : Spotted text at x) where
  pub item_turned : (k : Header) (r : Result HeadRead BadToken) → x.piece ≡ piece_is.Item k → Opened text x.first x.next h k r
      → ItemTurned text at h (go_turn r)
  unfolding head_step
  item_turned k r e o =
      let n = s.goes_on (rw e) in
      record {
        says = first_is head_step text at n.is (items h) ∙ rw (s.piece, e) (o.says ∙ same r);
        stays = turn_lower text x.next (at + 1) r (omega (arith, n.behind_at, n.takes)) o.stays;
      }
    where
      same : (r : Result HeadRead BadToken) → item_end text r ≡ turn_end text (go_turn r)
      same (Ok r) = refl
      same (Err bad) = refl

  pub body_turned : (r : Result HeadRead BadToken) → x.piece ≡ piece_is.Body → r ≡ body_turn x.first x.next h → ItemTurned text at h (done_turn r)
  unfolding head_step
  body_turned r e b =
      let n = s.goes_on (rw e) in
      rw b
      record {
        says = first_is head_step text at n.is (items h) ∙ rw (s.piece, e) (body_given text x.first x.next h);
        stays = body_in text (at + 1) x.first x.next h (omega (arith, n.takes, n.within)) n.within;
      }

  pub piece_wrong : (n : ℕ) → on_piece h x.piece ≡ wrong n → at ≤ length text → ItemTurned text at h (Err (record { number = n; place = x.first }))
  unfolding head_step
  piece_wrong n w l = record { says = first_wrong head_step text at s.is n (rw s.piece w); stays = s.within l }

-- ---- one item after the other

-- the items from `at` up to the next one say this
pub record Reading (text : List ℕ) (at : ℕ) (r : HeadRead) : Type 0 where
  pub says : run head_step (tokens_at text at) (items blank) ≡ run head_step (tokens_at text r.next) (items r.head)
  pub within : r.next ≤ length text

-- ---- the whole header

pub head_stops : (text : List ℕ) (e : BadToken) → OpeningRead text (Err e) → Headed text (Err e)
unfolding head_end
head_stops text e o = record { says = (o.says, o.stays) }

pub head_goes : (text : List ℕ) (next : ℕ) (r : Result HeadRead BadToken) → OpeningRead text (Ok next) → ItemsRead text next r → Headed text r
unfolding head_end
head_goes text next r o i = record { says = rw o.says i.says }
