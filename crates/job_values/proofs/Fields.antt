-- A number with the byte that ends it: where its reader stops, no longer run of bytes begins one. Assumes nothing.
use mathlib.Core.Path.{◌≡◌, refl, sym, ap, ◌∙◌}
use mathlib.Core.Bool.{true, false≢true}
use mathlib.Core.List.{List, [], ◌∷◌, ◌++◌, append_assoc}
use mathlib.Core.Option.{Option, some, none}
use Prim.Native.Nat.{ℕ, zero, suc, ◌+◌, ◌-◌, ◌≤◌, ◌<◌}
use native.Mathlib.Nat.{le_of_suc-le-suc}
use native.Mathlib.Omega.{arith}
use lib.Dec.{eqb}
use lib.ListN.{length, get_or, take, drop, length-append, length-drop, take-append-drop}
use lib.Seq.{take-suc, get_or-drop, drop-cons, drop-drop, length-take-le}
use borrow.Author.Tests.{eqb-true, eqb-false, eq-eqb}
use Rattle.marks.proofs.Cases.{below}
use Rattle.table.specs.Row.{part}
use Rattle.digits.specs.Digit.{digit}
use Rattle.job_values.specs.Bytes.{newline, ahead}
use Rattle.job_values.specs.Number.{number}
use Rattle.job_values.specs.Column.{given, Begins}
use Rattle.job_values.specs.inner.Field.{Within, Ended, Stuck, Got}
use Rattle.job_values.proofs.Cut.{by_test}
use Rattle.job_values.proofs.Sets.{longer, same_cut}
use Rattle.job_values.proofs.Numbers.{none_on, none_stop, none_empty, zero_number}

-- ---- the first of a byte

pub ahead_here : (b : ℕ) (l : List ℕ) → ahead b l < length l → get_or l (ahead b l) 0 ≡ b
unfolding ahead
ahead_here b [] h = absurd (omega arith)
ahead_here b (x ∷ l) h = by_test (eqb x b) (λ t. rw t (eqb-true x b t)) (λ t. rw t (ahead_here b l (le_of_suc-le-suc (rw t at h))))

pub ahead_before : (b : ℕ) (l : List ℕ) (i : ℕ) → i < ahead b l → get_or l i 0 ≡ b → ⊥
unfolding ahead
ahead_before b [] i h e = absurd (omega arith)
ahead_before b (x ∷ l) zero h e = by_test (eqb x b) (λ t. let z : suc 0 ≤ 0 = rw t at h in omega (arith, z)) (λ t. eqb-false x b t e)
ahead_before b (x ∷ l) (suc i) h e =
    by_test (eqb x b) (λ t. let z : suc (suc i) ≤ 0 = rw t at h in omega (arith, z)) (λ t. ahead_before b l i (le_of_suc-le-suc (rw t at h)) e)

ahead_drop : (b : ℕ) (l : List ℕ) (j : ℕ) → j ≤ ahead b l → ahead b (drop j l) ≡ ahead b l - j
unfolding ahead
ahead_drop b l zero h = omega arith
ahead_drop b [] (suc j) h = absurd (omega arith)
ahead_drop b (x ∷ l) (suc j) h =
    by_test (eqb x b) (λ t. let z : suc j ≤ 0 = rw t at h in absurd (omega (arith, z)))
    (λ t. rw t (ahead_drop b l j (le_of_suc-le-suc (rw t at h)) ∙ omega arith))

-- a list without the byte, and then the byte
pub ahead_append : (b : ℕ) (v q : List ℕ) → ahead b v ≡ length v → ahead b (v ++ (b ∷ q)) ≡ length v
unfolding ahead
ahead_append b [] q e = rw (eq-eqb b b refl)
ahead_append b (x ∷ v) q e =
    by_test (eqb x b) (λ t. absurd (let z : 0 ≡ suc (length v) = rw t at e in omega (arith, z)))
    (λ t. let z : suc (ahead b v) ≡ suc (length v) = rw t at e in rw t (ap suc (ahead_append b v q (omega arith))))

-- ---- a line, from a place on

module _ (text : List ℕ) (at end : ℕ) (w : Within text at end) where
  pub newline_there : get_or text end 0 ≡ newline
  newline_there =
      let e : at + (end - at) ≡ end = omega (arith, w.ordered) in
      let f : ahead newline (drop at text) < length (drop at text) = omega (arith, w.first, w.ends, w.ordered, length-drop at text) in
      rw (w.first, get_or-drop at text (end - at) 0, e) at (ahead_here newline (drop at text) f)

  pub no_newline : (i : ℕ) → at ≤ i → i < end → get_or text i 0 ≡ newline → ⊥
  no_newline i l h e =
      let f : at + (i - at) ≡ i = omega arith in
      ahead_before newline (drop at text) (i - at) (omega (arith, w.first)) (get_or-drop at text (i - at) 0 ∙ rw (f, e))

  pub within_on : (i : ℕ) → at ≤ i → i ≤ end → Within text i end
  within_on i l h =
      let f : at + (i - at) ≡ i = omega arith in
      record {
        ordered = h;
        ends = w.ends;
        first =
            let g : ahead newline (drop i text) ≡ ahead newline (drop at text) - (i - at) =
            ap (ahead newline) (ap (λ (n : ℕ). drop n text) (sym f) ∙ sym (drop-drop (i - at) at text)) ∙ ahead_drop newline (drop at text) (i - at) (omega (arith, w.first)) in
            omega (arith, g, w.first);
      }

-- ---- what is given is something

pub given_some : {A : Type 0} (o : Option A) (a : A) → o ≡ some a → given o ≡ true
given_some o a e = rw e

pub given_none : {A : Type 0} (o : Option A) → o ≡ none → given o ≡ true → ⊥
given_none o e g = false≢true (rw e at g)

-- ---- a number, and the byte that ends it

module _ (stop : ℕ) (other : digit stop ≡ none) (text : List ℕ) (at end next : ℕ) (w : Within text at end) (lo : at ≤ next) (hi : next ≤ end) where
  here : get_or (drop at text) (next - at) 0 ≡ get_or text next 0
  here = let e : at + (next - at) ≡ next = omega arith in get_or-drop at text (next - at) 0 ∙ rw e

  deep : next - at < length (drop at text)
  deep = omega (arith, length-drop at text, w.ends)

  long : length (take (suc (next - at)) (drop at text)) ≡ suc (next - at)
  long = length-take-le (suc (next - at)) (drop at text) deep

  grown : take (suc (next - at)) (drop at text) ≡ part at next text ++ (get_or text next 0 ∷ [])
  grown = take-suc (drop at text) (next - at) 0 deep ∙ rw here

  module _ (stops : number (part at (suc next) text) ≡ none) where
    none_here : number (take (suc (next - at)) (drop at text)) ≡ none
    none_here = let e : suc next - at ≡ suc (next - at) = omega arith in rw e at stops

    -- if neither the run is a number nor the byte behind it ends one
    no_more : (given (number (part at next text)) ≡ true → get_or text next 0 ≡ stop → ⊥) → Begins (Ended stop number) (take (suc (next - at)) (drop at text)) → ⊥
    no_more h b =
        let v = b.whole.value in
        let e : take (suc (next - at)) (drop at text) ++ b.rest ≡ v ++ (stop ∷ []) = b.whole.is in
        let n : suc (next - at) + length b.rest ≡ length v + 1 =
        omega (arith, long, length-append (take (suc (next - at)) (drop at text)) b.rest, length-append v (stop ∷ []), ap length e) in
        below (length v) (suc (next - at))
        (λ s.
        let f : part at next text ++ (get_or text next 0 ∷ b.rest) ≡ v ++ (stop ∷ []) =
        sym (append_assoc (part at next text) (get_or text next 0 ∷ []) b.rest)
        ∙ ap (λ (z : List ℕ). z ++ b.rest) (sym grown)
        ∙ e in
        let g = same_cut (part at next text) (get_or text next 0 ∷ b.rest) v (stop ∷ []) f (omega (arith, n, length-take-le (next - at) (drop at text) (omega (arith, deep)))) in
        h (rw g.0 b.whole.right) (head_is g.1))
        (λ s.
        let g = longer (take (suc (next - at)) (drop at text)) b.rest v (stop ∷ []) e (omega (arith, long)) in
        given_none (number v) (rw g.is (none_on (take (suc (next - at)) (drop at text)) g.more (omega (arith, long)) none_here)) b.whole.right)
      where
        head_is : {x y : ℕ} {xs ys : List ℕ} → x ∷ xs ≡ y ∷ ys → x ≡ y
        head_is e = cc

    pub number_empty : next ≡ at → Stuck (Ended stop number) (drop at text) (next - at)
    number_empty q =
        let z : next - at ≡ 0 = omega arith in
        record {
          begins = rw z (record { rest = 48 ∷ (stop ∷ []); whole = record { value = 48 ∷ []; right = given_some (number (48 ∷ [])) 0 zero_number; is = refl } });
          no_more = no_more (λ g e. given_none (number (part at next text)) (rw z none_empty) g);
          short = λ t. let n : 0 ≡ length t.value + 1 = rw z at (ap length t.is ∙ length-append t.value (stop ∷ [])) in omega (arith, n);
        }

    module _ (v : ℕ) (is : number (part at next text) ≡ some v) where
      pub number_cut : (get_or text next 0 ≡ stop → ⊥) → Stuck (Ended stop number) (drop at text) (next - at)
      number_cut h =
          record {
            begins = record { rest = stop ∷ []; whole = record { value = part at next text; right = given_some (number (part at next text)) v is; is = refl } };
            no_more = no_more (λ g e. h e);
            short = λ t. given_none (number (part at next text)) (ap number t.is ∙ none_stop stop t.value [] other) (given_some (number (part at next text)) v is);
          }

  pub number_got : (v : ℕ) → number (part at next text) ≡ some v → get_or text next 0 ≡ stop → Got stop number text at end v (suc next)
  number_got v is e =
      let f : at + (next - at) ≡ next = omega arith in
      record {
        value = part at next text;
        says = is;
        is =
            sym (take-append-drop (next - at) (drop at text))
            ∙ ap (λ (z : List ℕ). part at next text ++ z) (drop-drop (next - at) at text ∙ rw (f, drop-cons text next 0 (omega (arith, w.ends)), e));
        behind = omega arith;
        ends = omega arith;
      }
