-- A text read from a place on: a value with the word behind it, a run's values, and the list of edges field by field. Assumes nothing.
use mathlib.Core.Path.{◌≡◌, refl, sym, ap, ◌∙◌}
use mathlib.Core.Bool.{true, false, false≢true}
use mathlib.Core.List.{List, [], ◌∷◌}
use mathlib.Core.Option.{Option, some, none}
use Prim.Native.Nat.{ℕ, ◌+◌, ◌-◌, ◌≤◌, ◌<◌, zero-le}
use native.Mathlib.Omega.{arith}
use lib.Dec.{eqb}
use lib.ListN.{length, take, drop, length-take, length-drop}
use lib.Seq.{take_all, drop-drop}
use borrow.Author.Tests.{le-leb, lt-leb, ne_eqb}
use Rattle.table.specs.Row.{part}
use Rattle.job_text.specs.Text.{newline, comma, fields, same, ahead, FirstAt}
use Rattle.job_text.specs.Value.{and_then, dash, number}
use Rattle.std.proofs.Common as code
use Rattle.std.proofs.Common.{nat_eq}
use Rattle.std.specs.List as library
use Rattle.std.proofs.lemmas.Bool.Decides.{nat_tests}
use Rattle.job_values.proofs.Cut.{same_pointwise}
use Rattle.job_values.proofs.Cut.{left, left_cut}
use Rattle.answer_form.specs.declared.Value.{Value}
use Rattle.answer_form.specs.Form.{refused, empty}
use Rattle.answer_form.specs.Given.{starts_with, value_then, ValueAt, step, steps, list_given, is_some, then_prefix, then_cycle, then_place, then_column, refused_tail, empty_tail, run_text, ValuesAt, where_given, refused_given, empty_given}
use Rattle.answer_form.proofs.Digits.{some_same}
use Rattle.job_values.proofs.Spoken.{same_is}

-- ---- a word

eqb_sym : (x y : ℕ) → eqb x y ≡ eqb y x
eqb_sym x y = grind (arith, nat_tests)

same_sym : (xs ys : List ℕ) → same xs ys ≡ same ys xs
unfolding same
same_sym [] [] = refl
same_sym [] (y ∷ ys) = refl
same_sym (x ∷ xs) [] = refl
same_sym (x ∷ xs) (y ∷ ys) = let e : eqb x y ≡ eqb y x = eqb_sym x y in rw (e, same_sym xs ys)

-- the library's word for it, which compares the bytes the other way round
pub starts_same : (word text : List ℕ) (at : ℕ) → library.starts_with nat_eq (take (length text - at) (drop at text)) word ≡ starts_with word (drop at text)
starts_same word text at =
    rw (take_all (length text - at) (drop at text) (omega (arith, length-drop at text)))
    (same_pointwise word (take (length word) (drop at text)) ∙ same_sym word (take (length word) (drop at text)))

pub starts_fits : (text word : List ℕ) (at : ℕ) → starts_with word (drop at text) ≡ true → at ≤ length text → at + length word ≤ length text
starts_fits text word at t l =
    omega (arith, ap length (same_is (take (length word) (drop at text)) word t), length-take (length word) (drop at text), length-drop at text)

-- ---- a value

module _ (text word : List ℕ) (at end : ℕ) (f : FirstAt text at newline end) (l : at ≤ length text) where
  -- the newline byte stands there
  stands : drop (ahead newline (drop at text)) (drop at text) ≡ drop end text
  stands = drop-drop (ahead newline (drop at text)) at text ∙ ap (λ (k : ℕ). drop k text) (sym f.place)

  long : end - at ≡ ahead newline (drop at text)
  long = omega (arith, f.place)

  pub value_missing : starts_with word (drop end text) ≡ false → ValueAt text at word code.None
  unfolding value_then
  value_missing t = record { is = rw (stands, t); there = tt; next_there = tt }

  pub value_found : starts_with word (drop end text) ≡ true → ValueAt text at word (code.Some (record { end = end; next = end + length word }))
  unfolding value_then
  value_found t =
      record {
        is = rw (stands, t, long, drop-drop (length word) end text);
        there = record { low = f.low; high = f.high l };
        next_there = starts_fits text word end t (f.high l);
      }

-- ---- by whether there is something

none_then : {A B : Type 0} (o : Option A) (f : A → Option B) → is_some o ≡ false → is_some (and_then o f) ≡ false
none_then none f e = refl
none_then (some a) f e = absurd (false≢true (sym e))

then_some : {A B : Type 0} (o : Option A) (g : A → B) → is_some (and_then o (λ a. some (g a))) ≡ is_some o
then_some none g = refl
then_some (some a) g = refl

some_then : {A B : Type 0} (o : Option ℕ) (p : Option A) (g : ℕ → A → B) → is_some o ≡ true → is_some (and_then o (λ n. and_then p (λ m. some (g n m)))) ≡ is_some p
some_then none p g e = absurd (false≢true e)
some_then (some n) p g e = then_some p (g n)

-- what is not found is not there
pub no_value : (text word : List ℕ) (at : ℕ) → ValueAt text at word code.None → value_then word (drop at text) ≡ none
no_value text word at W = sym W.is

pub some_value : (text word : List ℕ) (at : ℕ) (v : Value) → ValueAt text at word (code.Some v)
    → value_then word (drop at text) ≡ some (record { value = part at v.end text; rest = drop v.next text })
some_value text word at v W = sym W.is

-- what is left behind the end of a text
ended : (text : List ℕ) (at : ℕ) → at ≡ length text → eqb (length (drop at text)) 0 ≡ true
ended text at e = let z : length (drop at text) ≡ 0 = omega (arith, length-drop at text) in rw z

unended : (text : List ℕ) (at : ℕ) → at ≤ length text → (at ≡ length text → ⊥) → eqb (length (drop at text)) 0 ≡ false
unended text at l h = ne_eqb (length (drop at text)) 0 (λ (e : length (drop at text) ≡ 0). h (omega (arith, length-drop at text)))

-- ---- a run's values

no_run_values : (text : List ℕ) (at : ℕ) → run_text (drop at text) ≡ none → ValuesAt text at code.None
no_run_values text at n = record { is = sym n; pair = tt; prefix = tt; cycle = tt }

pub no_pair_value : (text : List ℕ) (at : ℕ) → ValueAt text at then_prefix code.None → ValuesAt text at code.None
unfolding run_text
no_pair_value text at A = no_run_values text at (rw (no_value text then_prefix at A))

module _ (text : List ℕ) (at : ℕ) (a : Value) (A : ValueAt text at then_prefix (code.Some a)) where
  pub no_prefix_value : ValueAt text a.next then_cycle code.None → ValuesAt text at code.None
  unfolding run_text
  no_prefix_value B = no_run_values text at (rw (some_value text then_prefix at a A, no_value text then_cycle a.next B))

  module _ (b : Value) (B : ValueAt text a.next then_cycle (code.Some b)) where
    pub no_cycle_value : ValueAt text b.next (newline ∷ []) code.None → ValuesAt text at code.None
    unfolding run_text
    no_cycle_value D =
        no_run_values text at (rw (some_value text then_prefix at a A, some_value text then_cycle a.next b B, no_value text (newline ∷ []) b.next D))

    module _ (d : Value) (D : ValueAt text b.next (newline ∷ []) (code.Some d)) where
      pub more_behind : (d.next ≡ length text → ⊥) → ValuesAt text at code.None
      unfolding run_text
      more_behind h =
          no_run_values text at
          (rw (some_value text then_prefix at a A, some_value text then_cycle a.next b B, some_value text (newline ∷ []) b.next d D, unended text d.next D.next_there h))

      pub all_values : d.next ≡ length text
          → ValuesAt text at (code.Some (record { pair = a.end; prefix = a.next; middle = b.end; cycle = b.next; last = d.end }))
      unfolding run_text
      all_values h =
          record {
            is = rw (some_value text then_prefix at a A, some_value text then_cycle a.next b B, some_value text (newline ∷ []) b.next d D, ended text d.next h);
            pair = A.there;
            prefix = B.there;
            cycle = D.there;
          }

-- ---- a refusal's place and column

pub no_place : (text : List ℕ) (at : ℕ) → ValueAt text at then_column code.None → is_some (where_given (drop at text)) ≡ false
unfolding where_given
no_place text at A = rw (no_value text then_column at A)

module _ (text : List ℕ) (at : ℕ) (a : Value) (A : ValueAt text at then_column (code.Some a)) where
  pub no_column : ValueAt text a.next refused_tail code.None → is_some (where_given (drop at text)) ≡ false
  unfolding where_given
  no_column B = rw (some_value text then_column at a A, no_value text refused_tail a.next B)

  module _ (b : Value) (B : ValueAt text a.next refused_tail (code.Some b)) where
    pub where_behind : (b.next ≡ length text → ⊥) → is_some (where_given (drop at text)) ≡ false
    unfolding where_given
    where_behind h = rw (some_value text then_column at a A, some_value text refused_tail a.next b B, unended text b.next B.next_there h)

    module _ (h : b.next ≡ length text) where
      pub wrong_place_lem : is_some (number (part at a.end text)) ≡ false → is_some (where_given (drop at text)) ≡ false
      unfolding where_given
      wrong_place_lem n =
          rw (some_value text then_column at a A, some_value text refused_tail a.next b B, ended text b.next h) (none_then (number (part at a.end text)) _ n)

      pub right_place : is_some (number (part at a.end text)) ≡ true → is_some (where_given (drop at text)) ≡ is_some (number (part a.next b.end text))
      unfolding where_given
      right_place n =
          rw (some_value text then_column at a A, some_value text refused_tail a.next b B, ended text b.next h)
          (some_then (number (part at a.end text)) (number (part a.next b.end text)) (λ place column. record { place = place; column = column }) n)

-- ---- a refusal's number

pub no_number : (text : List ℕ) (at : ℕ) → ValueAt text at then_place code.None → is_some (refused_given (drop at text)) ≡ false
unfolding refused_given
no_number text at A = rw (no_value text then_place at A)

module _ (text : List ℕ) (at : ℕ) (a : Value) (A : ValueAt text at then_place (code.Some a)) where
  pub wrong_number : is_some (number (part at a.end text)) ≡ false → is_some (refused_given (drop at text)) ≡ false
  unfolding refused_given
  wrong_number n = rw (some_value text then_place at a A) (none_then (number (part at a.end text)) _ n)

  pub right_number : is_some (number (part at a.end text)) ≡ true → is_some (refused_given (drop at text)) ≡ is_some (where_given (drop a.next text))
  unfolding refused_given
  right_number n =
      rw (some_value text then_place at a A)
      (some_then (number (part at a.end text)) (where_given (drop a.next text)) (λ n w. refused n w.place w.column) n)

-- ---- an empty verdict's depth

pub no_depth_lem : (text : List ℕ) (at : ℕ) → ValueAt text at empty_tail code.None → is_some (empty_given (drop at text)) ≡ false
unfolding empty_given
no_depth_lem text at A = rw (no_value text empty_tail at A)

module _ (text : List ℕ) (at : ℕ) (a : Value) (A : ValueAt text at empty_tail (code.Some a)) where
  pub depth_behind : (a.next ≡ length text → ⊥) → is_some (empty_given (drop at text)) ≡ false
  unfolding empty_given
  depth_behind h = rw (some_value text empty_tail at a A, unended text a.next A.next_there h)

  pub right_depth : a.next ≡ length text → is_some (empty_given (drop at text)) ≡ is_some (number (part at a.end text))
  unfolding empty_given
  right_depth h = rw (some_value text empty_tail at a A, ended text a.next h) (then_some (number (part at a.end text)) empty)

-- ---- a list, field by field

pub left_all : (bs : List ℕ) → left bs 0 ≡ fields bs
left_all bs = rw (le-leb 0 (length bs) zero-le)

pub left_none : (bs : List ℕ) (at : ℕ) → length bs < at → left bs at ≡ []
left_none bs at l = rw (lt-leb at (length bs) l)

some_step : (f : List ℕ) (fs : List (List ℕ)) → is_some (step f) ≡ true → is_some (steps (f ∷ fs)) ≡ is_some (steps fs)
unfolding steps
some_step f fs e = by (step f) e
  where
    by : (o : Option ℕ) → is_some o ≡ true → is_some (and_then o (λ x. and_then (steps fs) (λ es. some (x ∷ es)))) ≡ is_some (steps fs)
    by none q = absurd (false≢true q)
    by (some x) q = then_some (steps fs) (λ es. x ∷ es)

no_step : (f : List ℕ) (fs : List (List ℕ)) → is_some (step f) ≡ false → is_some (steps (f ∷ fs)) ≡ false
unfolding steps
no_step f fs e = none_then (step f) _ e

-- what the fields from a place on decide
abbrev pub Decides : List ℕ → ℕ → Type 0
Decides bs at = is_some (steps (fields bs)) ≡ is_some (steps (left bs at))

pub decides_all : (bs : List ℕ) → Decides bs 0
decides_all bs = rw (left_all bs)

module _ (bs : List ℕ) (at e : ℕ) (D : Decides bs at) (l : at ≤ length bs) (f : FirstAt bs at comma e) where
  pub decides_next : is_some (step (part at e bs)) ≡ true → Decides bs (e + 1)
  decides_next s = D ∙ ap (λ (fs : List (List ℕ)). is_some (steps fs)) (left_cut bs at e l f) ∙ some_step (part at e bs) (left bs (e + 1)) s

  pub decides_no : is_some (step (part at e bs)) ≡ false → is_some (steps (fields bs)) ≡ false
  decides_no s = D ∙ ap (λ (fs : List (List ℕ)). is_some (steps fs)) (left_cut bs at e l f) ∙ no_step (part at e bs) (left bs (e + 1)) s

none_left : is_some (steps []) ≡ true
unfolding steps
none_left = refl

pub decides_yes : (bs : List ℕ) (at : ℕ) → Decides bs at → length bs < at → is_some (steps (fields bs)) ≡ true
decides_yes bs at D l = D ∙ ap (λ (fs : List (List ℕ)). is_some (steps fs)) (left_none bs at l) ∙ none_left

pub list_steps : (bs : List ℕ) → same bs dash ≡ false → list_given bs ≡ steps (fields bs)
unfolding list_given
list_steps bs t = rw t

pub list_none : (bs es : List ℕ) → same bs dash ≡ true → list_given bs ≡ some es → es ≡ []
unfolding list_given
list_none bs es t e = sym (some_same (rw t at e))
