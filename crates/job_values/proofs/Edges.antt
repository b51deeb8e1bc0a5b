-- An edge is three fields, each with the byte that ends it; where one of them stops, the edge does. Assumes nothing.
use mathlib.Core.Path.{◌≡◌, refl, sym, ap, ◌∙◌}
use mathlib.Core.Bool.{Bool, true, false, false≢true, cond}
use mathlib.Core.List.{List, [], ◌∷◌, ◌++◌, append_assoc}
use mathlib.Core.Option.{Option, some, none}
use Prim.Native.Nat.{ℕ, suc, ◌+◌, ◌*◌}
use native.Mathlib.Omega.{arith}
use lib.Dec.{eqb}
use lib.ListN.{length, drop, length-append}
use lib.Seq.{take-append_seam, drop_at}
use borrow.Author.Tests.{eqb-true}
use Rattle.table.specs.Row.{part}
use Rattle.digits.specs.Digit.{digit, hex_digit}
use Rattle.job_values.specs.Bytes.{newline, comma, fields, longer_field, ahead}
use Rattle.job_values.specs.Number.{and_then, spelt, leading_zero, at_most, most_number, number, hex_word}
use Rattle.job_values.specs.Value.{Edge, edge, edge_of}
use Rattle.job_values.specs.Column.{given}
use Rattle.job_values.specs.inner.Field.{Within, Ended, Then, Got, Lost}
use Rattle.job_values.specs.inner.Told.{Unformed}
use Rattle.job_values.proofs.Cut.{by_test, fields_cut, fields_uncut, fields_some}
use Rattle.job_values.proofs.Sets.{Apart, same_cut, then_apart}
use Rattle.job_values.proofs.Numbers.{zero_number}
use Rattle.job_values.proofs.Fields.{ahead_append, given_some}
use Rattle.job_values.proofs.Losses.{free_join, free_other, part_is, got_within, lost_front, lost_back, lost_unformed}

-- ---- bytes that digits are free of

spelt_free : (value : ℕ → Option ℕ) (base b : ℕ) → value b ≡ none → (v : List ℕ) (n : ℕ) → given (spelt value base n v) ≡ true → ahead b v ≡ length v
unfolding spelt ahead
spelt_free value base b e [] n g = refl
spelt_free value base b e (x ∷ v) n g =
    by_test (eqb x b)
    (λ t. absurd (let q : value x ≡ none = ap value (eqb-true x b t) ∙ e in false≢true (rw q at g)))
    (λ t. rw t (ap suc (go (value x) (λ d h. spelt_free value base b e v (n * base + d) h) g)))
  where
    go : (o : Option ℕ) → ((d : ℕ) → given (spelt value base (n * base + d) v) ≡ true → ahead b v ≡ length v)
        → given (and_then o (λ d. spelt value base (n * base + d) v)) ≡ true → ahead b v ≡ length v
    go none f h = absurd (false≢true h)
    go (some d) f h = f d h

at_most_given : (s t : Bool) (most : ℕ) (o : Option ℕ) → given (cond s none (cond t none (at_most most o))) ≡ true → given o ≡ true
at_most_given true t most o g = absurd (false≢true g)
at_most_given false true most o g = absurd (false≢true g)
at_most_given false false most none g = g
at_most_given false false most (some n) g = refl

pub number_free : (b : ℕ) → digit b ≡ none → (v : List ℕ) → given (number v) ≡ true → ahead b v ≡ length v
unfolding number
number_free b e v g = spelt_free digit 10 b e v 0 (at_most_given (eqb (length v) 0) (leading_zero v) most_number (spelt digit 10 0 v) g)

eight_given : (s : Bool) (o : Option ℕ) → given (cond s o none) ≡ true → given o ≡ true
eight_given true o g = g
eight_given false o g = absurd (false≢true g)

pub hex_free : (b : ℕ) → hex_digit b ≡ none → (v : List ℕ) → given (hex_word v) ≡ true → ahead b v ≡ length v
unfolding hex_word
hex_free b e v g = spelt_free hex_digit 16 b e v 0 (eight_given (eqb (length v) 8) (spelt hex_digit 16 0 v) g)

pub comma_digit : digit comma ≡ none
unfolding digit
comma_digit = refl

pub newline_digit : digit newline ≡ none
unfolding digit
newline_digit = refl

pub comma_hex : hex_digit comma ≡ none
unfolding hex_digit
comma_hex = refl

pub newline_hex : hex_digit newline ≡ none
unfolding hex_digit
newline_hex = refl

-- ---- values that are free of the byte that ends them

pub ended_apart : {A : Type 0} (stop : ℕ) (form : List ℕ → Option A) → ((v : List ℕ) → given (form v) ≡ true → ahead stop v ≡ length v) → Apart (Ended stop form)
ended_apart stop form free x rest r s =
    let e : r.value ++ (stop ∷ rest) ≡ s.value ++ (stop ∷ []) = sym (append_assoc r.value (stop ∷ []) rest) ∙ ap (λ (z : List ℕ). z ++ rest) (sym r.is) ∙ s.is in
    let n : length r.value ≡ length s.value =
    sym (ahead_append stop r.value rest (free r.value r.right)) ∙ ap (ahead stop) e ∙ ahead_append stop s.value [] (free s.value s.right) in
    tail_is (same_cut r.value (stop ∷ rest) s.value (stop ∷ []) e n).1
  where
    tail_is : {x y : ℕ} {xs ys : List ℕ} → x ∷ xs ≡ y ∷ ys → xs ≡ ys
    tail_is e = cc

pub numbers_apart : (stop : ℕ) → digit stop ≡ none → Apart (Ended stop number)
numbers_apart stop e = ended_apart stop number (number_free stop e)

pub marks_apart : Apart (Ended newline hex_word)
marks_apart = ended_apart newline hex_word (hex_free newline newline_hex)

-- ---- fields, joined by commas

abbrev pub joined : List (List ℕ) → List ℕ
joined [] = []
joined (f ∷ []) = f
joined (f ∷ (g ∷ gs)) = f ++ (comma ∷ joined (g ∷ gs))

joined_longer : (b : ℕ) (fs : List (List ℕ)) → joined (longer_field b fs) ≡ b ∷ joined fs
joined_longer b [] = refl
joined_longer b (f ∷ []) = refl
joined_longer b (f ∷ (g ∷ gs)) = refl

joined_next : (fs : List (List ℕ)) → (fs ≡ [] → ⊥) → joined ([] ∷ fs) ≡ comma ∷ joined fs
joined_next [] h = absurd (h refl)
joined_next (f ∷ fs) h = refl

pub joined_fields : (v : List ℕ) → joined (fields v) ≡ v
unfolding fields
joined_fields [] = refl
joined_fields (b ∷ v) =
    by_test (eqb b comma)
    (λ t. rw (t, joined_next (fields v) (fields_some v)) (rw (← eqb-true b comma t) (ap (λ (z : List ℕ). b ∷ z) (joined_fields v))))
    (λ t. rw (t, joined_longer b (fields v)) (ap (λ (z : List ℕ). b ∷ z) (joined_fields v)))

pub fields_front : (f q : List ℕ) → ahead comma f ≡ length f → fields (f ++ (comma ∷ q)) ≡ f ∷ fields q
fields_front f q e =
    let n : ahead comma (f ++ (comma ∷ q)) ≡ length f = ahead_append comma f q e in
    let c : f ++ (comma ∷ []) ++ q ≡ f ++ (comma ∷ q) = append_assoc f (comma ∷ []) q in
    fields_cut (f ++ (comma ∷ q)) (omega (arith, n, length-append f (comma ∷ q)))
    ∙ rw (n, take-append_seam f (comma ∷ q), ← c) (ap (λ (z : List ℕ). f ∷ fields z) (drop_at (f ++ (comma ∷ [])) q (suc (length f)) (omega (arith, length-append f (comma ∷ [])))))

pub fields_last : (f : List ℕ) → ahead comma f ≡ length f → fields f ≡ f ∷ []
fields_last f e = fields_uncut f (omega (arith, e))

-- ---- the set of edges

abbrev Marks : List ℕ → Type 0
Marks = Ended newline hex_word

abbrev ToMarks : List ℕ → Type 0
ToMarks = Then (Ended comma number) Marks

abbrev FromTo : List ℕ → Type 0
FromTo = Then (Ended comma number) ToMarks

-- the text of an edge, cut behind its commas
abbrev pub edge_text : List ℕ → List ℕ → List ℕ → List ℕ
edge_text f t m = f ++ (comma ∷ (t ++ (comma ∷ m)))

joins : (f t m : List ℕ) → edge_text f t m ++ (newline ∷ []) ≡ (f ++ (comma ∷ [])) ++ ((t ++ (comma ∷ [])) ++ (m ++ (newline ∷ [])))
joins f t m =
    append_assoc f (comma ∷ (t ++ (comma ∷ m))) (newline ∷ [])
    ∙ ap (λ (z : List ℕ). f ++ (comma ∷ z)) (append_assoc t (comma ∷ m) (newline ∷ []) ∙ sym (append_assoc t (comma ∷ []) (m ++ (newline ∷ []))))
    ∙ sym (append_assoc f (comma ∷ []) ((t ++ (comma ∷ [])) ++ (m ++ (newline ∷ []))))

abbrev edge_with : ℕ → ℕ → ℕ → Edge
edge_with x y z = record { from = x; to = y; marks = z }

-- three fields that are given
record Three (fs : List (List ℕ)) : Type 0 where
  f : List ℕ
  t : List ℕ
  m : List ℕ
  are : fs ≡ f ∷ (t ∷ (m ∷ []))
  is_f : given (number f) ≡ true
  is_t : given (number t) ≡ true
  is_m : given (hex_word m) ≡ true

three : (fs : List (List ℕ)) → given (edge_of fs) ≡ true → Three fs
three [] g = absurd (false≢true g)
three (f ∷ []) g = absurd (false≢true g)
three (f ∷ (t ∷ [])) g = absurd (false≢true g)
three (f ∷ (t ∷ (m ∷ (x ∷ xs)))) g = absurd (false≢true g)
three (f ∷ (t ∷ (m ∷ []))) g = go (number f) (number t) (hex_word m) refl refl refl g
  where
    go : (a b c : Option ℕ) → number f ≡ a → number t ≡ b → hex_word m ≡ c
        → given (and_then a (λ from. and_then b (λ to. and_then c (λ marks. some (edge_with from to marks))))) ≡ true → Three (f ∷ (t ∷ (m ∷ [])))
    go none b c p q r h = absurd (false≢true h)
    go (some x) none c p q r h = absurd (false≢true h)
    go (some x) (some y) none p q r h = absurd (false≢true h)
    go (some x) (some y) (some z) p q r h =
        record { f = f; t = t; m = m; are = refl; is_f = given_some (number f) x p; is_t = given_some (number t) y q; is_m = given_some (hex_word m) z r }

edge_in : (l : List ℕ) → Ended newline edge l → FromTo l
unfolding edge
edge_in l r =
    let k = three (fields r.value) r.right in
    let v : r.value ≡ k.f ++ (comma ∷ (k.t ++ (comma ∷ k.m))) = sym (joined_fields r.value) ∙ ap joined k.are in
    record {
      front = k.f ++ (comma ∷ []);
      back = (k.t ++ (comma ∷ [])) ++ (k.m ++ (newline ∷ []));
      is_front = record { value = k.f; right = k.is_f; is = refl };
      is_back =
          record {
            front = k.t ++ (comma ∷ []);
            back = k.m ++ (newline ∷ []);
            is_front = record { value = k.t; right = k.is_t; is = refl };
            is_back = record { value = k.m; right = k.is_m; is = refl };
            is = refl;
          };
      is = r.is ∙ ap (λ (z : List ℕ). z ++ (newline ∷ [])) v ∙ joins k.f k.t k.m;
    }

-- ---- an edge that is read

pub edge_said : (f t m : List ℕ) (x y z : ℕ) → number f ≡ some x → number t ≡ some y → hex_word m ≡ some z
    → edge (edge_text f t m) ≡ some (record { from = x; to = y; marks = z })
unfolding edge
edge_said f t m x y z p q r =
    rw (
      fields_front f (t ++ (comma ∷ m)) (number_free comma comma_digit f (given_some (number f) x p)),
      fields_front t m (number_free comma comma_digit t (given_some (number t) y q)),
      fields_last m (hex_free comma comma_hex m (given_some (hex_word m) z r)),
      p,
      q,
      r,
    )

pub given_is : (o : Option ℕ) → given o ≡ true → (a : ℕ) × (o ≡ some a)
given_is none g = absurd (false≢true g)
given_is (some a) g = (a, refl)

edge_out : (l : List ℕ) → FromTo l → Ended newline edge l
edge_out l r =
    let f = r.is_front in
    let t = r.is_back.is_front in
    let m = r.is_back.is_back in
    let x = given_is (number f.value) f.right in
    let y = given_is (number t.value) t.right in
    let z = given_is (hex_word m.value) m.right in
    record {
      value = edge_text f.value t.value m.value;
      right = given_some (edge (edge_text f.value t.value m.value)) (edge_with x.0 y.0 z.0) (edge_said f.value t.value m.value x.0 y.0 z.0 x.1 y.1 z.1);
      is = r.is ∙ rw (f.is, r.is_back.is, t.is, m.is) (sym (joins f.value t.value m.value));
    }

from_apart : Apart FromTo
from_apart =
    then_apart (Ended comma number) ToMarks (numbers_apart comma comma_digit)
    (then_apart (Ended comma number) Marks (numbers_apart comma comma_digit) marks_apart)

-- some marks, and an end of an edge with some marks
marks_some : Marks (48 ∷ 48 ∷ 48 ∷ 48 ∷ 48 ∷ 48 ∷ 48 ∷ 48 ∷ 10 ∷ [])
unfolding hex_word spelt hex_digit
marks_some = record { value = 48 ∷ 48 ∷ 48 ∷ 48 ∷ 48 ∷ 48 ∷ 48 ∷ 48 ∷ []; right = refl; is = refl }

to_some : ToMarks (48 ∷ 44 ∷ 48 ∷ 48 ∷ 48 ∷ 48 ∷ 48 ∷ 48 ∷ 48 ∷ 48 ∷ 10 ∷ [])
to_some =
    record {
      front = 48 ∷ 44 ∷ [];
      back = 48 ∷ 48 ∷ 48 ∷ 48 ∷ 48 ∷ 48 ∷ 48 ∷ 48 ∷ 10 ∷ [];
      is_front = record { value = 48 ∷ []; right = given_some (number (48 ∷ [])) 0 zero_number; is = refl };
      is_back = marks_some;
      is = refl;
    }

-- ---- an edge in a line

module _ (text : List ℕ) (at end : ℕ) (w : Within text at end) where
  pub from_lost : (e : ℕ) → Lost (Ended comma number) text at end e → Unformed edge text at end e
  from_lost e l =
      lost_unformed text at end w edge FromTo from_apart edge_in edge_out e
      (lost_front text at end (Ended comma number) ToMarks e (numbers_apart comma comma_digit) l _ to_some)

  module _ (x next : ℕ) (f : Got comma number text at end x next) where
    pub to_within : Within text next end
    to_within = got_within text at end w number x next f

    pub to_lost : (e : ℕ) → Lost (Ended comma number) text next end e → Unformed edge text at end e
    to_lost e l =
        lost_unformed text at end w edge FromTo from_apart edge_in edge_out e
        (lost_back text at end comma number ToMarks x next f e (numbers_apart comma comma_digit)
        (lost_front text next end (Ended comma number) Marks e (numbers_apart comma comma_digit) l _ marks_some))

    module _ (y after : ℕ) (t : Got comma number text next end y after) where
      pub marks_within : Within text after end
      marks_within = got_within text next end to_within number y after t

      pub marks_lost : (e : ℕ) → Lost (Ended newline hex_word) text after end e → Unformed edge text at end e
      marks_lost e l =
          lost_unformed text at end w edge FromTo from_apart edge_in edge_out e
          (lost_back text at end comma number ToMarks x next f e (numbers_apart comma comma_digit)
          (lost_back text next end comma number Marks y after t e (numbers_apart comma comma_digit) l))

      pub edge_got : (z last : ℕ) → Got newline hex_word text after end z last → edge (part at end text) ≡ some (record { from = x; to = y; marks = z })
      edge_got z last m =
          let v = edge_text f.value t.value m.value in
          let e : drop at text ≡ v ++ (newline ∷ drop last text) =
          f.is ∙ ap (λ (q : List ℕ). f.value ++ (comma ∷ q)) (t.is ∙ ap (λ (q : List ℕ). t.value ++ (comma ∷ q)) m.is)
          ∙ sym (append_assoc f.value (comma ∷ (t.value ++ (comma ∷ m.value))) (newline ∷ drop last text)
          ∙ ap (λ (q : List ℕ). f.value ++ (comma ∷ q)) (append_assoc t.value (comma ∷ m.value) (newline ∷ drop last text))) in
          let free : ahead newline v ≡ length v =
          free_join newline f.value (comma ∷ (t.value ++ (comma ∷ m.value))) (number_free newline newline_digit f.value (given_some (number f.value) x f.says))
          (free_other newline comma (t.value ++ (comma ∷ m.value)) (λ (q : comma ≡ newline). omega (arith, q))
          (free_join newline t.value (comma ∷ m.value) (number_free newline newline_digit t.value (given_some (number t.value) y t.says))
          (free_other newline comma m.value (λ (q : comma ≡ newline). omega (arith, q)) (hex_free newline newline_hex m.value (given_some (hex_word m.value) z m.says))))) in
          rw (part_is text at end w v free (drop last text) e) (edge_said f.value t.value m.value x y z f.says t.says m.says)
