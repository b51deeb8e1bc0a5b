-- Where a line stops being of its form, by where its value does; there is one such place, within the line. Assumes nothing.
use mathlib.Core.Path.{◌≡◌, refl, sym, ap, subst, ◌∙◌}
use mathlib.Core.List.{List, [], ◌∷◌, ◌++◌}
use mathlib.Core.Option.{Option, some}
use Prim.Native.Nat.{ℕ, suc, ◌+◌, ◌-◌, ◌≤◌}
use native.Mathlib.Omega.{arith}
use lib.ListN.{length, drop, length-append}
use lib.Seq.{take_all}
use Rattle.marks.proofs.Cases.{below}
use Rattle.table.specs.Row.{part}
use Rattle.job_values.specs.Bytes.{newline}
use Rattle.job_values.specs.Number.{number}
use Rattle.job_values.specs.Column.{given, RightLine, Begins, FirstWrong}
use Rattle.job_values.specs.inner.Field.{Within, Ended, Then, Stuck, Got, Lost}
use Rattle.job_values.specs.inner.Told.{Unformed}
use Rattle.job_values.proofs.Sets.{Apart, empty, then_back, stuck_also, stuck_cut, stuck_first}
use Rattle.job_values.proofs.Fields.{given_some}
use Rattle.job_values.proofs.Words.{value_long}
use Rattle.job_values.proofs.Losses.{part_is, line_is, lost_unformed}
use Rattle.job_values.proofs.Edges.{newline_digit, number_free, numbers_apart}

-- ---- there is one such place

module _ (R : List ℕ → Type 0) (l : List ℕ) where
  pub first_wrong_once : (c d : ℕ) → FirstWrong R l c → FirstWrong R l d → c ≡ d
  first_wrong_once c d f g =
      below c d (λ h. absurd (f.none_begins (g.smallest c h)))
      (λ h. below d c (λ k. absurd (g.none_begins (f.smallest d k))) (λ k. omega arith))

  -- at the newline byte at the latest
  pub first_wrong_within : (c : ℕ) → FirstWrong R l c → c ≤ length l
  first_wrong_within c f =
      below (length l) c
      (λ h. absurd (f.none_begins (subst (Begins R) (take_all (length l) l (omega arith) ∙ sym (take_all c l (omega arith))) (f.smallest (length l) h))))
      (λ h. h)

-- ---- a value in its line

module _ (key : List ℕ) {A : Type 0} (form : List ℕ → Option A) where
  abbrev Key : List ℕ → Type 0
  Key l = l ≡ key

  keys_apart : Apart Key
  keys_apart x rest e f = empty rest (omega (arith, ap length e, ap length f, length-append x rest))

  right_in : (l : List ℕ) → Then Key (Ended newline form) l → RightLine key (λ u. given (form u)) l
  right_in l t =
      let b = t.is_back in
      record { value = b.value; is_right = b.right; is = t.is ∙ ap (λ (z : List ℕ). z ++ t.back) t.is_front ∙ ap (λ (z : List ℕ). key ++ z) b.is }

  right_out : (l : List ℕ) → RightLine key (λ u. given (form u)) l → Then Key (Ended newline form) l
  right_out l r =
      record { front = key; back = r.value ++ (newline ∷ []); is_front = refl; is_back = record { value = r.value; right = r.is_right; is = refl }; is = r.is }

  -- a value that is not of its form: the line goes wrong at the same byte
  pub unformed_wrong : (text : List ℕ) (from end e : ℕ) → Within text from end → Unformed form text from end e
      → FirstWrong (RightLine key (λ u. given (form u))) (key ++ (part from end text ++ (newline ∷ []))) (suc (length key + (e - from)))
  unformed_wrong text from end e w u =
      let v = part from end text ++ (newline ∷ []) in
      let n : length v ≡ suc (end - from) = omega (arith, length-append (part from end text) (newline ∷ []), value_long text from end w []) in
      let s : Stuck (Ended newline form) v (e - from) =
      stuck_cut (Ended newline form) v (drop (suc end) text) (e - from) (omega (arith, u.lost.ordered, u.lost.ends, n))
      (subst (λ (z : List ℕ). Stuck (Ended newline form) z (e - from)) (line_is text from end w) u.lost.stuck) in
      stuck_first (RightLine key (λ u. given (form u))) (key ++ v) (length key + (e - from))
      (stuck_also (Then Key (Ended newline form)) (RightLine key (λ u. given (form u))) right_in right_out (key ++ v) (length key + (e - from))
      (then_back Key (Ended newline form) key v (e - from) keys_apart refl s))

-- ---- a number in its line

module _ (text : List ℕ) (at end : ℕ) (w : Within text at end) where
  pub number_said : (v next : ℕ) → Got newline number text at end v next → number (part at end text) ≡ some v
  number_said v next g =
      ap number (part_is text at end w g.value (number_free newline newline_digit g.value (given_some (number g.value) v g.says)) (drop next text) g.is) ∙ g.says

  pub number_unformed : (e : ℕ) → Lost (Ended newline number) text at end e → Unformed number text at end e
  number_unformed = lost_unformed text at end w number (Ended newline number) (numbers_apart newline newline_digit) (λ l r. r) (λ l r. r)
