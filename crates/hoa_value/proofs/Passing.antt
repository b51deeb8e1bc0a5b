-- What is passed over: words, INTs and STRINGs, and where it ends. Assumes nothing.
use mathlib.Core.Path.{◌≡◌, refl, ◌∙◌}
use mathlib.Core.Bool.{Bool, true, false}
use mathlib.Core.List.{List}
use Prim.Native.Nat.{ℕ, ◌-◌, ◌≤◌, ◌<◌}
use native.Mathlib.Omega.{arith}
use lib.ListN.{length}
use Rattle.std.specs.Prelude.{Result, Ok, Err}
use Rattle.hoa_tokens.specs.declared.BadToken.{BadToken}
use Rattle.hoa_tokens.specs.Token.{Token}
use Rattle.hoa_tokens.specs.Stream.{tokens_at}
use Rattle.hoa_step.specs.Machine.{run, wants_text}
use Rattle.hoa_step.specs.Wanted.{Next, Faulty, Quoted, text_fault, TextReads}
use Rattle.hoa_step.proofs.Runs.{first_goes, first_wrong, first_same, text_wrong, faulty_within}
use Rattle.hoa_value.specs.declared.Head.{Head}
use Rattle.hoa_value.specs.declared.token.Spot.{Spot}
use Rattle.hoa_value.specs.Heading.{HeadState, items, hints, acc_name, tool_text, tool_more, name_text, head_step}
use Rattle.hoa_value.specs.inner.Pieces.{Spotted, is_hint, is_word, is_text, misplaced_token}
use Rattle.hoa_value.specs.inner.Values.{Passes, HintsPassed}
use Rattle.hoa_value.proofs.Pieces.{hint_known, word_known, text_piece, hint_is, hint_not, word_is, word_not, tool_is, tool_not}

-- ---- words, and INTs and STRINGs if so said

-- the words from `at` up to `next` are passed over
pub record SoFar (text : List ℕ) (at : ℕ) (ints texts : Bool) (next : ℕ) : Type 0 where
  pub says : (h : Head) → run head_step (tokens_at text at) (hints ints texts h) ≡ run head_step (tokens_at text next) (hints ints texts h)
  pub behind_at : at ≤ next
  pub within : next ≤ length text

pub none_so_far : (text : List ℕ) (at : ℕ) (ints texts : Bool) → at ≤ length text → SoFar text at ints texts at
none_so_far text at ints texts l = record { says = λ h. refl; behind_at = omega arith; within = l }

module _ (text : List ℕ) (at : ℕ) (ints texts : Bool) (next : ℕ) (r : Spot) (f : SoFar text at ints texts next) (s : Spotted text next r) where
  pub hint_next : is_hint ints texts r.piece ≡ true → Next text next r.first r.next s.token
  hint_next e = s.goes_on (hint_known ints texts r.piece e)

  pub hint_less : is_hint ints texts r.piece ≡ true → length text - r.next < length text - next
  hint_less e = let n = hint_next e in omega (arith, n.behind_at, n.takes, n.within)

  pub hint_goes : is_hint ints texts r.piece ≡ true → SoFar text at ints texts r.next
  unfolding head_step
  hint_goes e =
      let n = hint_next e in
      record {
        says = λ h. f.says h ∙ first_goes head_step text next n.is (hints ints texts h) (rw s.piece (hint_is ints texts h r.piece e));
        behind_at = omega (arith, f.behind_at, n.behind_at, n.takes);
        within = n.within;
      }

  pub hints_end : is_hint ints texts r.piece ≡ false → HintsPassed text at ints texts next
  unfolding head_step
  hints_end e =
      record {
        says = λ h. f.says h ∙ first_same head_step text next s.is (rw s.piece (hint_not ints texts h r.piece e));
        behind_at = f.behind_at;
        within = f.within;
      }

-- ---- acc-name:

module _ (text : List ℕ) (at : ℕ) (r : Spot) (s : Spotted text at r) where
  pub word_next : is_word r.piece ≡ true → Next text at r.first r.next s.token
  word_next e = s.goes_on (word_known r.piece e)

  pub acc_goes : (next : ℕ) → is_word r.piece ≡ true → HintsPassed text r.next true false next → Passes text at acc_name items (Ok next)
  unfolding head_step
  acc_goes next e p =
      let n = word_next e in
      record {
        says = λ h. first_goes head_step text at n.is (hints true false h) (rw s.piece (word_is h r.piece e)) ∙ p.says h;
        stays = (omega (arith, n.behind_at, n.takes, p.behind_at), p.within);
      }

  pub acc_stops : is_word r.piece ≡ false → at ≤ length text → Passes text at acc_name items (Err (misplaced_token 40 r))
  unfolding head_step
  acc_stops e l =
      record {
        says = λ h. first_wrong head_step text at s.is _ (rw s.piece (word_not h r.piece e));
        stays = s.within l;
      }

-- ---- a STRING that is passed over

pub text_stops : (text : List ℕ) (at : ℕ) (from to after : Head → HeadState) (e : BadToken) → ((h : Head) (t : Token) → head_step (from h) t ≡ wants_text (after h) t)
    → Faulty text at text_fault e.number e.place → at ≤ length text → Passes text at from to (Err e)
text_stops text at from to after e w f l =
    record {
      says = λ h. text_wrong head_step text at (from h) (after h) f (w h);
      stays = faulty_within f l;
    }

pub name_text_lem : (h : Head) (t : Token) → head_step (name_text h) t ≡ wants_text (items h) t
unfolding head_step
name_text_lem h t = refl

pub tool_text_lem : (h : Head) (t : Token) → head_step (tool_text h) t ≡ wants_text (tool_more h) t
unfolding head_step
tool_text_lem h t = refl

-- name:
pub name_passed : (text : List ℕ) (at : ℕ) (r : Result ℕ BadToken) → TextReads text at r → at ≤ length text → Passes text at name_text items r
unfolding head_step wants_text
name_passed text at (Err e) f l = text_stops text at name_text items items e name_text_lem f l
name_passed text at (Ok next) q l =
    let n = q.there in
    record {
      says = λ h. first_goes head_step text at n.is (items h) refl;
      stays = (omega (arith, n.behind_at, n.takes), n.within);
    }

-- tool:
module _ (text : List ℕ) (at next : ℕ) (q : Quoted text at next) (r : Spot) (s : Spotted text next r) where
  tool_goes : (h : Head) → run head_step (tokens_at text at) (tool_text h) ≡ run head_step (tokens_at text next) (tool_more h)
  unfolding head_step wants_text
  tool_goes h = first_goes head_step text at q.there.is (tool_more h) refl

  pub tool_second : is_text r.piece ≡ true → Passes text at tool_text items (Ok r.next)
  unfolding head_step
  tool_second e =
      let n = s.goes_on (rw (text_piece r.piece e)) in
      let m = q.there in
      record {
        says = λ h. tool_goes h ∙ first_goes head_step text next n.is (items h) (rw s.piece (tool_is h r.piece e));
        stays = (omega (arith, m.behind_at, m.takes, n.behind_at, n.takes), n.within);
      }

  pub tool_alone : is_text r.piece ≡ false → Passes text at tool_text items (Ok next)
  unfolding head_step
  tool_alone e =
      let m = q.there in
      record {
        says = λ h. tool_goes h ∙ first_same head_step text next s.is (rw s.piece (tool_not h r.piece e));
        stays = (omega (arith, m.behind_at, m.takes), m.within);
      }
