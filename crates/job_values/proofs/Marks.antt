-- Eight hex digits and the newline byte behind them: one digit after the other. Assumes nothing.
use mathlib.Core.Path.{◌≡◌, refl, sym, ap, ◌∙◌}
use mathlib.Core.Bool.{true, false≢true}
use mathlib.Core.List.{List, [], ◌∷◌, ◌++◌, append_assoc}
use mathlib.Core.Option.{some, none}
use Prim.Native.Nat.{ℕ, zero, suc, ◌+◌, ◌-◌, ◌*◌, ◌^◌, ◌≤◌, ◌<◌}
use native.Mathlib.Nat.{lt_of_lt_of_le}
use native.Mathlib.Omega.{arith}
use lib.Dec.{eqb, lit<}
use lib.ListN.{length, get_or, take, drop, replicate, length-append, length-drop, length-replicate, take-append-drop}
use lib.Pow.{pow-add, pow_mono}
use lib.Seq.{length-take-le, drop-cons, drop-drop}
use borrow.Author.Tests.{eq-eqb, eqb-true}
use Rattle.marks.proofs.Cases.{same}
use Rattle.table.specs.Row.{part}
use Rattle.digits.specs.Digit.{hex_digit}
use Rattle.digits.proofs.Digits.{hex_below}
use Rattle.job_values.specs.Bytes.{newline}
use Rattle.job_values.specs.Number.{spelt, hex_word}
use Rattle.job_values.specs.Column.{given, Begins}
use Rattle.job_values.specs.inner.Field.{Within, Ended, Got, Lost}
use Rattle.job_values.proofs.Cut.{by_test}
use Rattle.job_values.proofs.Sets.{longer, same_cut}
use Rattle.job_values.proofs.Numbers.{part_more, part_none, spelt_append, spelt_snoc, spelt_stop}
use Rattle.job_values.proofs.Fields.{newline_there, no_newline, given_some}

-- ---- how large hex digits can be: four bits each

hex_more : (i n d : ℕ) → n < 2 ^ (4 * i) → d < 16 → n * 16 + d < 2 ^ (4 * (i + 1))
hex_more i n d l h =
    let e : 4 * (i + 1) ≡ 4 * i + 4 = omega arith in
    omega (arith, ap (λ (k : ℕ). 2 ^ k) e ∙ pow-add 2 (4 * i) 4)

-- a digit more among eight fits 32 bits
hex_fits : (i n d : ℕ) → i < 8 → n < 2 ^ (4 * i) → d < 16 → n * 16 + d < 2 ^ 32
hex_fits i n d s l h = lt_of_lt_of_le (hex_more i n d l h) (pow_mono {i = 4 * (i + 1)} {j = 32} (omega arith))

-- ---- mark sets have eight digits

hex_eight : (v : List ℕ) → given (hex_word v) ≡ true → length v ≡ 8
unfolding hex_word
hex_eight v g = by_test (eqb (length v) 8) (λ t. eqb-true (length v) 8 t) (λ t. absurd (false≢true (rw t at g)))

hex_spelt : (v : List ℕ) → given (hex_word v) ≡ true → spelt hex_digit 16 0 v ≡ none → ⊥
unfolding hex_word
hex_spelt v g e = false≢true (rw (eq-eqb (length v) 8 (hex_eight v g), e) at g)

word_spelt : (v : List ℕ) (n : ℕ) → length v ≡ 8 → spelt hex_digit 16 0 v ≡ some n → hex_word v ≡ some n
unfolding hex_word
word_spelt v n l e = rw (eq-eqb (length v) 8 l, e)

-- zeros may follow
zeros : (j m : ℕ) → given (spelt hex_digit 16 m (replicate j 48)) ≡ true
unfolding spelt hex_digit
zeros zero m = refl
zeros (suc j) m = zeros j (m * 16 + 0)

word_given : (v : List ℕ) → length v ≡ 8 → given (spelt hex_digit 16 0 v) ≡ true → given (hex_word v) ≡ true
unfolding hex_word
word_given v l g = rw (eq-eqb (length v) 8 l) g

-- the newline byte is no hex digit
no_hex : {d : ℕ} → hex_digit newline ≡ some d → ⊥
unfolding hex_digit
no_hex e = let y : ◌≡◌ {A = ℕ} 0 1 = cc in omega arith

-- ---- the bytes up to i are hex digits that spell the value so far

pub record Spells (text : List ℕ) (at end value i : ℕ) : Type 0 where
  pub ordered : at ≤ i
  pub ends : i ≤ end
  pub few : i - at ≤ 8
  pub small : value < 2 ^ (4 * (i - at))
  pub spells : spelt hex_digit 16 0 (part at i text) ≡ some value

module _ (text : List ℕ) (at end : ℕ) (w : Within text at end) where
  pub spells_none : Spells text at end 0 at
  unfolding spelt
  spells_none =
      let z : at - at ≡ 0 = omega arith in
      record { ordered = omega arith; ends = w.ordered; few = omega arith; small = rw z (lit< tt); spells = rw (part_none text at) }

  module _ (value i : ℕ) (s : Spells text at end value i) where
    long : length (part at i text) ≡ i - at
    long = length-take-le (i - at) (drop at text) (omega (arith, length-drop at text, s.ordered, s.ends, w.ends))

    grown : take (suc (i - at)) (drop at text) ≡ part at i text ++ (get_or text i 0 ∷ [])
    grown =
        let e : suc i - at ≡ suc (i - at) = omega (arith, s.ordered) in
        rw e at (part_more text at i s.ordered (omega (arith, s.ends, w.ends)))

    -- a digit
    module _ (d : ℕ) (e : hex_digit (get_or text i 0) ≡ some d) (h : i < at + 8) where
      pub marks_fit : value * 16 + d < 2 ^ 32
      marks_fit = hex_fits (i - at) value d (omega (arith, s.ordered)) s.small (hex_below (get_or text i 0) d e)

      -- it is not the newline byte
      inside : i < end
      inside =
          same i end (λ (q : i ≡ end). absurd (no_hex (sym (ap hex_digit (ap (λ (n : ℕ). get_or text n 0) q ∙ newline_there text at end w)) ∙ e)))
          (λ (q : i ≡ end → ⊥). omega (arith, s.ends))

      pub spells_more : Spells text at end (value * 16 + d) (i + 1)
      spells_more =
          let n : i + 1 ≡ suc i = omega arith in
          let k : i + 1 - at ≡ i - at + 1 = omega (arith, s.ordered) in
          record {
            ordered = omega (arith, s.ordered);
            ends = omega (arith, inside);
            few = omega (arith, s.ordered);
            small = rw k (hex_more (i - at) value d s.small (hex_below (get_or text i 0) d e));
            spells = rw (n, part_more text at i s.ordered (omega (arith, s.ends, w.ends))) (spelt_snoc hex_digit 16 0 value d (get_or text i 0) (part at i text) s.spells e);
          }

    -- no digit where one should stand
    pub marks_cut : hex_digit (get_or text i 0) ≡ none → i < at + 8 → Lost (Ended newline hex_word) text at end i
    marks_cut e h = record { ordered = s.ordered; ends = s.ends; stuck = record { begins = begins; no_more = no_more; short = short } }
      where
        begins : Begins (Ended newline hex_word) (part at i text)
        begins =
            record {
              rest = replicate (8 - (i - at)) 48 ++ (newline ∷ []);
              whole =
                  record {
                    value = part at i text ++ replicate (8 - (i - at)) 48;
                    right =
                        word_given (part at i text ++ replicate (8 - (i - at)) 48) (omega (arith, length-append (part at i text) (replicate (8 - (i - at)) 48), long, length-replicate {A = ℕ} (8 - (i - at)) 48, s.few))
                        (rw (spelt_append hex_digit 16 0 (part at i text) (replicate (8 - (i - at)) 48), s.spells) (zeros (8 - (i - at)) value));
                    is = sym (append_assoc (part at i text) (replicate (8 - (i - at)) 48) (newline ∷ []));
                  };
            }

        no_more : Begins (Ended newline hex_word) (take (suc (i - at)) (drop at text)) → ⊥
        no_more b =
            let v = b.whole.value in
            let n : length (take (suc (i - at)) (drop at text)) ≡ suc (i - at) = length-take-le (suc (i - at)) (drop at text) (omega (arith, length-drop at text, s.ordered, s.ends, w.ends)) in
            let g = longer (take (suc (i - at)) (drop at text)) b.rest v (newline ∷ []) b.whole.is (omega (arith, n, hex_eight v b.whole.right, s.ordered)) in
            let f : v ≡ part at i text ++ (get_or text i 0 ∷ g.more) = g.is ∙ ap (λ (z : List ℕ). z ++ g.more) grown ∙ append_assoc (part at i text) (get_or text i 0 ∷ []) g.more in
            hex_spelt v b.whole.right (rw f (spelt_stop hex_digit 16 0 (get_or text i 0) (part at i text) g.more e))

        short : Ended newline hex_word (part at i text) → ⊥
        short t = omega (arith, long, hex_eight t.value t.right, ap length t.is, length-append t.value (newline ∷ []), s.few)

    module _ (q : i ≡ at + 8) where
      eight : length (part at i text) ≡ 8
      eight = omega (arith, long)

      -- a ninth byte
      pub marks_long : i < end → Lost (Ended newline hex_word) text at end i
      marks_long h = record { ordered = s.ordered; ends = s.ends; stuck = record { begins = begins; no_more = no_more; short = short } }
        where
          begins : Begins (Ended newline hex_word) (part at i text)
          begins = record { rest = newline ∷ []; whole = record { value = part at i text; right = given_some (hex_word (part at i text)) value (word_spelt (part at i text) value eight s.spells); is = refl } }

          no_more : Begins (Ended newline hex_word) (take (suc (i - at)) (drop at text)) → ⊥
          no_more b =
              let v = b.whole.value in
              let f : part at i text ++ (get_or text i 0 ∷ b.rest) ≡ v ++ (newline ∷ []) =
              sym (append_assoc (part at i text) (get_or text i 0 ∷ []) b.rest) ∙ ap (λ (z : List ℕ). z ++ b.rest) (sym grown) ∙ b.whole.is in
              let g = same_cut (part at i text) (get_or text i 0 ∷ b.rest) v (newline ∷ []) f (omega (arith, eight, hex_eight v b.whole.right)) in
              no_newline text at end w i s.ordered h (head_is g.1)
            where
              head_is : {x y : ℕ} {xs ys : List ℕ} → x ∷ xs ≡ y ∷ ys → x ≡ y
              head_is e = cc

          short : Ended newline hex_word (part at i text) → ⊥
          short t = omega (arith, eight, hex_eight t.value t.right, ap length t.is, length-append t.value (newline ∷ []))

      pub marks_got : end ≤ i → Got newline hex_word text at end value (i + 1)
      marks_got h =
          let e : i ≡ end = omega (arith, s.ends) in
          let f : at + (i - at) ≡ i = omega (arith, s.ordered) in
          let n : i + 1 ≡ suc i = omega arith in
          record {
            value = part at i text;
            says = word_spelt (part at i text) value eight s.spells;
            is =
                sym (take-append-drop (i - at) (drop at text))
                ∙ ap (λ (z : List ℕ). part at i text ++ z) (drop-drop (i - at) at text ∙ rw (f, drop-cons text i 0 (omega (arith, w.ends)), ap (λ (m : ℕ). get_or text m 0) e ∙ newline_there text at end w, n));
            behind = omega (arith, s.ordered);
            ends = omega arith;
          }
