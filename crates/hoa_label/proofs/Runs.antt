-- The run over a text's tokens, one token at a time, as `factor` and `level` make it: what each token does to the invariants of their loops, and to what
-- they give. Every statement is for all levels outside (`fs`). Assumes nothing.
use mathlib.Core.Bool.{Bool, true, false, not, cond, false≢true}
use mathlib.Core.List.{List, [], ◌∷◌}
use mathlib.Core.Path.{◌≡◌, refl, sym, ap, subst, ◌∙◌}
use Prim.Native.Nat.{ℕ, ◌+◌, ◌≤◌, ◌<◌}
use native.Mathlib.Omega.{arith}
use borrow.Author.Tests.{ltb-true}
use lib.Bits.{bit_and, bit_or}
use lib.Dec.{eqb, ltb, eqb-suc-zero}
use lib.ListN.{length}
use Rattle.std.specs.Prelude.{Result, Ok, Err}
use Rattle.hoa_tokens.specs.declared.Word.{Word}
use Rattle.hoa_tokens.specs.declared.Word.TheVariants as word_is
use Rattle.hoa_tokens.specs.declared.Sign.{Sign}
use Rattle.hoa_tokens.specs.declared.Sign.TheVariants as sign_is
use Rattle.hoa_tokens.specs.declared.Kind.{Kind}
use Rattle.hoa_tokens.specs.declared.Kind.TheVariants as kind_is
use Rattle.hoa_tokens.specs.declared.Found.{Found}
use Rattle.hoa_tokens.specs.Token.{Token, int, word, header, str, aname, sign, body, end, abort, finish, bad}
use Rattle.hoa_tokens.specs.Stream.{Placed, unless_finished, tokens_at, token_of, TokenAt, bad_at}
use Rattle.hoa_tokens.proofs.Next.{tokens_next, Moves, token_takes}
use Rattle.hoa_label.specs.declared.Wanted.{Wanted}
use Rattle.hoa_label.specs.declared.Wanted.TheVariants as wanted_is
use Rattle.hoa_label.specs.declared.Behind.{Behind}
use Rattle.hoa_label.specs.declared.Behind.TheVariants as behind_is
use Rattle.hoa_tokens.specs.declared.BadToken.{BadToken}
use Rattle.hoa_label.specs.declared.LabelRead.{LabelRead}
use Rattle.hoa_label.specs.Label.{most_levels}
use Rattle.hoa_label.specs.Labels.{
  turned,
  full,
  prop_set,
  wanted_word,
  wanted_sign,
  Frame,
  frame,
  fresh,
  LabelState,
  wants,
  Has,
  wanted,
  behind,
  on_wanted,
  on_behind,
  is_outermost,
  shut_level,
  step_within,
  LabelStep,
  go,
  shut,
  wrong,
  label_step,
  LabelEnd,
  end_by,
  label_run,
  next_by,
  label_next,
}
use Rattle.hoa_label.specs.Reading.{shut_to, Onward, LabelAt}
use Rattle.hoa_label.specs.inner.Levels.{Stop, stop_from, stop_by, factor_stop, FactorAt, flipped_read, LevelAt}

-- ---- one token

-- a run and the byte behind it step together
paired : (d : LabelStep) (p q : ℕ) (ps : List Placed) (run : LabelState → LabelEnd) (next : LabelState → ℕ)
    → (end_by d p ps run, next_by d q next) ≡ stop_by d p q ps (λ u. (run u, next u))
paired (go s) p q ps run next = refl
paired (shut x) p q ps run next = refl
paired (wrong n) p q ps run next = refl

-- what follows the end of the text does not matter
finish_wrong : (a : ℕ) (s : LabelState) (p q : ℕ) (ps qs : List Placed)
    → stop_by (label_step a s finish) p q ps (λ u. (label_run a u ps, label_next a u ps)) ≡ stop_by (label_step a s finish) p q qs (λ u. (label_run a u qs, label_next a u qs))
unfolding label_step step_within wanted behind
finish_wrong a (wants f fs) p q ps qs = refl
finish_wrong a (Has o c fs) p q ps qs = refl

-- so the tokens behind a token may be taken for all that follow
ended : (a : ℕ) (s : LabelState) (t : Token) (p q : ℕ) (ps : List Placed)
    → stop_by (label_step a s t) p q (unless_finished t ps) (λ u. (label_run a u (unless_finished t ps), label_next a u (unless_finished t ps)))
    ≡ stop_by (label_step a s t) p q ps (λ u. (label_run a u ps, label_next a u ps))
ended a s finish p q ps = finish_wrong a s p q [] ps
ended a s (int n) p q ps = refl
ended a s (word w) p q ps = refl
ended a s (header h) p q ps = refl
ended a s (str bs) p q ps = refl
ended a s aname p q ps = refl
ended a s (sign m) p q ps = refl
ended a s body p q ps = refl
ended a s end p q ps = refl
ended a s abort p q ps = refl
ended a s bad p q ps = refl

module _ (text : List ℕ) (a : ℕ) where
  -- the run from a state on
  abbrev on_from : ℕ → LabelState → Stop
  on_from at s = stop_from text a at s

  -- the run by the token that is found
  run_step : {at : ℕ} {f : Found} (s : LabelState) → TokenAt text at f
      → on_from at s ≡ stop_by (label_step a s (token_of text f.first f.next f.kind)) f.first f.next (tokens_at text f.next) (on_from f.next)
  unfolding label_run label_next
  run_step {at} {f} s h =
      rw (tokens_next text at f h)
      (paired (label_step a s (token_of text f.first f.next f.kind)) f.first f.next _ _ _
      ∙ ended a s (token_of text f.first f.next f.kind) f.first f.next (tokens_at text f.next))

  -- what the token is where a factor is wanted
  abbrev Wants : ℕ → Kind → Wanted → Type 0
  Wants depth k w = (bs : List ℕ) (p q : ℕ) → w ≡ wanted a (ltb depth most_levels) (token_of bs p q k)

  -- the run where a factor is wanted
  wants_run : {at depth : ℕ} {f : Found} {w v : Wanted} (r : Frame) (fs : List Frame) → length fs ≡ depth → TokenAt text at f → Wants depth f.kind w → w ≡ v
      → on_from at (wants r fs) ≡ stop_by (on_wanted r fs v) f.first f.next (tokens_at text f.next) (on_from f.next)
  unfolding label_step step_within
  wants_run {f = f} r fs l h e q =
      run_step (wants r fs) h ∙ ap (λ (v : Wanted). stop_by (on_wanted r fs v) f.first f.next (tokens_at text f.next) (on_from f.next))
      (ap (λ (d : ℕ). wanted a (ltb d most_levels) (token_of text f.first f.next f.kind)) l ∙ sym (e text f.first f.next) ∙ q)

  -- what the token is behind a factor
  abbrev Stands : ℕ → Kind → Behind → Type 0
  Stands depth k b = (bs : List ℕ) (p q : ℕ) → b ≡ behind (eqb depth 0) (token_of bs p q k)

  -- no level is outside if their number is 0
  outermost : (fs : List Frame) → is_outermost fs ≡ eqb (length fs) 0
  outermost [] = refl
  outermost (f ∷ fs) = sym (eqb-suc-zero (length fs))

  -- the run behind a factor
  behind_run_lem : {at depth : ℕ} {f : Found} {b v : Behind} (o c : ℕ) (fs : List Frame) → length fs ≡ depth → TokenAt text at f → Stands depth f.kind b → b ≡ v
      → on_from at (Has o c fs) ≡ stop_by (on_behind o c fs v) f.first f.next (tokens_at text f.next) (on_from f.next)
  unfolding label_step step_within
  behind_run_lem {f = f} o c fs l h e q =
      run_step (Has o c fs) h ∙ ap (λ (v : Behind). stop_by (on_behind o c fs v) f.first f.next (tokens_at text f.next) (on_from f.next))
      (ap (λ (d : Bool). behind d (token_of text f.first f.next f.kind)) (outermost fs ∙ ap (λ (d : ℕ). eqb d 0) l)
      ∙ sym (e text f.first f.next) ∙ q)

  -- ---- a token that is admitted takes a byte

  -- whether the token is admitted
  is_fine : Wanted → Bool
  is_fine (wanted_is.Wrong n) = false
  is_fine (wanted_is.Set x) = true
  is_fine wanted_is.Not = true
  is_fine wanted_is.Deeper = true

  -- the end of the text is not
  fine_moves : {at : ℕ} (depth : ℕ) {f : Found} {w : Wanted} → TokenAt text at f → Wants depth f.kind w → is_fine w ≡ true → Moves text at f
  unfolding wanted is_fine
  fine_moves depth {f = f} h e q =
      token_takes text _ f h
      (λ (k : f.kind ≡ kind_is.Finish). false≢true (sym (ap is_fine (e text 0 0 ∙ ap (λ (x : Kind). wanted a (ltb depth most_levels) (token_of text 0 0 x)) k)) ∙ q))

  -- ---- a factor

  -- behind so many `!`
  pub record Flips (at depth : ℕ) (flipped : Bool) (from : ℕ) : Type 0 where
    pub is : (o c : ℕ) (fs : List Frame) → length fs ≡ depth → on_from at (wants (frame o c false) fs) ≡ on_from from (wants (frame o c flipped) fs)
    pub onward : at ≤ from

  module _ {at depth from : ℕ} {flipped : Bool} {f : Found} {w : Wanted} (i : Flips at depth flipped from) (h : TokenAt text from f) (e : Wants depth f.kind w) where
    -- one `!` more
    pub not_again : w ≡ wanted_is.Not → Flips at depth (not flipped) f.next
    unfolding is_fine
    not_again q =
        let m = fine_moves depth h e (ap is_fine q) in
        record {
          is = λ o c fs l. i.is o c fs l ∙ wants_run (frame o c flipped) fs l h e q;
          onward = omega (arith, i.onward, m.behind_at, m.takes);
        }

    -- which takes a byte
    pub not_less : w ≡ wanted_is.Not → (from < f.next) × (from < length text)
    unfolding is_fine
    not_less q = let m = fine_moves depth h e (ap is_fine q) in (omega (arith, m.behind_at, m.takes), omega (arith, m.behind_at, m.takes, m.within))

    -- a factor of one token
    pub set_read : {x y : ℕ} → w ≡ wanted_is.Set x → y ≡ turned flipped x → FactorAt text at a depth (shut_to y f.next)
    unfolding is_fine
    set_read q d =
        let m = fine_moves depth h e (ap is_fine q) in
        rw d
        (record {
          is = λ o c fs l. i.is o c fs l ∙ wants_run (frame o c flipped) fs l h e q;
          onward = (omega (arith, i.onward, m.behind_at, m.takes), m.within);
        })

    -- a token that is no factor
    pub wrong_read : {n : ℕ} → w ≡ wanted_is.Wrong n → FactorAt text at a depth (bad_at n f.first)
    wrong_read q = record { is = λ o c fs l. i.is o c fs l ∙ wants_run (frame o c flipped) fs l h e q; onward = tt }

    -- a level in brackets, by what reading it gives
    deeper : (r : Result LabelRead BadToken) → w ≡ wanted_is.Deeper → LevelAt text f.next a (depth + 1) r → FactorAt text at a depth (flipped_read flipped r)
    unfolding is_fine
    deeper (Ok x) q v =
        let m = fine_moves depth h e (ap is_fine q) in
        record {
          is = λ o c fs l. i.is o c fs l ∙ wants_run (frame o c flipped) fs l h e q ∙ v.is (frame o c flipped ∷ fs) (omega arith);
          onward = (omega (arith, i.onward, m.behind_at, m.takes, v.onward.0), v.onward.1);
        }
    deeper (Err x) q v =
        record { is = λ o c fs l. i.is o c fs l ∙ wants_run (frame o c flipped) fs l h e q ∙ v.is (frame o c flipped ∷ fs) (omega arith); onward = tt }

    -- a level in brackets is a factor
    pub level_read : {r : Result LabelRead BadToken} {v : LabelRead} {y : ℕ} → w ≡ wanted_is.Deeper → LevelAt text f.next a (depth + 1) r → r ≡ Ok v
        → y ≡ turned flipped v.set → FactorAt text at a depth (shut_to y v.next)
    level_read {v = v} q l is d = rw d (deeper (Ok v) q (subst (LevelAt text f.next a (depth + 1)) is l))

    -- unless it is refused
    pub level_wrong : {r : Result LabelRead BadToken} {b : BadToken} → w ≡ wanted_is.Deeper → LevelAt text f.next a (depth + 1) r → r ≡ Err b → FactorAt text at a depth (Err b)
    level_wrong {b = b} q l is = deeper (Err b) q (subst (LevelAt text f.next a (depth + 1)) is l)

  -- ---- a level

  -- what shuts a level is never faulty
  no_place : (x : ℕ) (fs : List Frame) (p q : ℕ) (ps : List Placed) (more : LabelState → Stop)
      → stop_by (shut_level x fs) p q ps more ≡ stop_by (shut_level x fs) 0 q ps more
  no_place x [] p q ps more = refl
  no_place x (f ∷ fs) p q ps more = refl

  -- behind an `&`, a `|` or nothing, with these sets
  pub record Joins (at depth ors ands from : ℕ) : Type 0 where
    pub is : (fs : List Frame) → length fs ≡ depth → on_from at (wants fresh fs) ≡ on_from from (wants (frame ors ands false) fs)
    pub onward : at ≤ from

  module _ {at depth ors ands from : ℕ} {r : Result LabelRead BadToken} (i : Joins at depth ors ands from) (v : FactorAt text from a depth r) where
    module _ {w : LabelRead} {f : Found} {b : Behind} (q : r ≡ Ok w) (h : TokenAt text w.next f) (e : Stands depth f.kind b) where
      -- the run over a factor and the token behind it
      onto : {u : Behind} (fs : List Frame) → length fs ≡ depth → b ≡ u
          → on_from at (wants fresh fs) ≡ stop_by (on_behind ors (bit_and ands w.set) fs u) f.first f.next (tokens_at text f.next) (on_from f.next)
      onto fs l k = i.is fs l ∙ v.is ors ands fs l ∙ ap (factor_stop text a ors ands fs) q ∙ behind_run_lem ors (bit_and ands w.set) fs l h e k

      -- a factor takes a byte
      further : (from < w.next) × (w.next ≤ length text)
      further = subst (Onward text from) q v.onward

      -- so does a turn
      pub level_less : (from < f.next) × (from < length text)
      level_less = (omega (arith, further, h.behind_at, h.behind_first), omega (arith, further))

      -- an `&`
      pub and_again : b ≡ behind_is.And → Joins at depth ors (bit_and ands w.set) f.next
      and_again k = record { is = λ fs l. onto fs l k; onward = omega (arith, i.onward, level_less) }

      -- a `|`
      pub or_again : {y z : ℕ} → b ≡ behind_is.Or → y ≡ bit_or ors (bit_and ands w.set) → z ≡ full → Joins at depth y z f.next
      or_again k d g = rw (d, g) (record { is = λ fs l. onto fs l k; onward = omega (arith, i.onward, level_less) })

      -- what shuts the level
      pub shut_read : b ≡ behind_is.Shut → LevelAt text at a depth (shut_to (bit_or ors (bit_and ands w.set)) f.next)
      shut_read k =
          record {
            is = λ fs l. onto fs l k ∙ no_place (bit_or ors (bit_and ands w.set)) fs f.first f.next (tokens_at text f.next) (on_from f.next);
            onward = (omega (arith, i.onward, level_less), h.within further.1);
          }

      -- a token that does not go on
      pub behind_wrong : {n : ℕ} → b ≡ behind_is.Wrong n → LevelAt text at a depth (bad_at n f.first)
      behind_wrong k = record { is = λ fs l. onto fs l k; onward = tt }

-- ---- a level opens only where there is room for one more

-- whether a level opens
is_deeper : Wanted → Bool
is_deeper (wanted_is.Wrong n) = false
is_deeper (wanted_is.Set x) = false
is_deeper wanted_is.Not = false
is_deeper wanted_is.Deeper = true

-- not at an INT
flat_int : (below : Bool) (x : ℕ) → is_deeper (cond below (wanted_is.Set x) (wanted_is.Wrong 41)) ≡ false
unfolding is_deeper
flat_int true x = refl
flat_int false x = refl

-- nor at a word
flat_word : (w : Word) → is_deeper (wanted_word w) ≡ false
unfolding is_deeper
flat_word word_is.True = refl
flat_word word_is.False = refl
flat_word word_is.V1 = refl
flat_word word_is.Inf = refl
flat_word word_is.Fin = refl
flat_word word_is.Other = refl

-- nor at a mark, without room
flat_sign : (s : Sign) → is_deeper (wanted_sign false s) ≡ false
unfolding is_deeper
flat_sign sign_is.ParenLeft = refl
flat_sign sign_is.ParenRight = refl
flat_sign sign_is.BracketLeft = refl
flat_sign sign_is.BracketRight = refl
flat_sign sign_is.BraceLeft = refl
flat_sign sign_is.BraceRight = refl
flat_sign sign_is.And = refl
flat_sign sign_is.Or = refl
flat_sign sign_is.Not = refl

-- at no token, without room
flat : (a : ℕ) (t : Token) → is_deeper (wanted a false t) ≡ false
unfolding is_deeper wanted
flat a (int i) = flat_int (ltb i a) (prop_set i)
flat a (word w) = flat_word w
flat a (sign s) = flat_sign s
flat a (header h) = refl
flat a (str bs) = refl
flat a aname = refl
flat a body = refl
flat a end = refl
flat a abort = refl
flat a finish = refl
flat a bad = refl

-- so where one opens there is room
by_room : (room : Bool) (a : ℕ) (t : Token) → wanted a room t ≡ wanted_is.Deeper → room ≡ true
unfolding is_deeper
by_room true a t e = refl
by_room false a t e = absurd (false≢true (sym (flat a t) ∙ ap is_deeper e))

-- which is a level that is allowed
pub room_left : (text : List ℕ) (a depth : ℕ) (k : Kind) {w : Wanted} → Wants text a depth k w → w ≡ wanted_is.Deeper → depth < most_levels
room_left text a depth k e q = ltb-true depth most_levels (by_room (ltb depth most_levels) a (token_of text 0 0 k) (sym (e text 0 0) ∙ q))

-- ---- a label

-- a level with none outside is a label
pub label_read : (text : List ℕ) (at a : ℕ) {r : Result LabelRead BadToken} → LevelAt text at a 0 r → LabelAt text at a r
label_read text at a {r = Ok x} v = let e = v.is [] refl in record { is = ap (λ (d : Stop). d.0) e; behind = ap (λ (d : Stop). d.1) e; onward = v.onward }
label_read text at a {r = Err x} v = let e = v.is [] refl in record { is = ap (λ (d : Stop). d.0) e; behind = ap (λ (d : Stop). d.1) e; onward = v.onward }
