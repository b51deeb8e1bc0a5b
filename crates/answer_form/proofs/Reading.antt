-- What an answer text is, from its values: a run with its lists, another answer of ours, or none. Assumes nothing.
use mathlib.Core.Path.{◌≡◌, refl, sym, ap, ◌∙◌}
use mathlib.Core.Bool.{Bool, true, false, false≢true}
use mathlib.Core.List.{List}
use mathlib.Core.Option.{Option, some, none}
use Rattle.std.proofs.Common as code
use Prim.Native.Nat.{ℕ}
use native.Mathlib.Omega.{arith}
use lib.ListN.{length, drop}
use Rattle.table.specs.Row.{part}
use Rattle.job_text.specs.Value.{and_then, number}
use Rattle.answer_form.specs.declared.RunValues.{RunValues}
use Rattle.answer_form.specs.declared.Form.{Form}
use Rattle.answer_form.specs.Form.{Said, run, empty, refused}
use Rattle.answer_form.specs.Given.{starts_with, value_then, list_given, is_some, pair_given, run_head, then_place, refused_head, empty_head, empty_tail, RunText, run_text, run_of, run_given, where_given, refused_given, empty_given, given, ValuesAt, RunAt, FormSays, no_run}
use Rattle.answer_form.proofs.Digits.{some_same, after}
use Rattle.answer_form.proofs.Inverse.{over_back}

-- ---- by whether there is something

pub some_of : {A : Type 0} (o : Option A) → is_some o ≡ true → (a : A) × (o ≡ some a)
some_of none e = absurd (false≢true e)
some_of (some a) e = (a, refl)

pub none_of : {A : Type 0} (o : Option A) → is_some o ≡ false → o ≡ none
none_of none e = refl
none_of (some a) e = absurd (false≢true (sym e))

-- ---- a run

run_of_lem : (rabin : Bool) (v : RunText) (pair : ℕ) (p q : List ℕ) → pair_given rabin v.pair ≡ some pair → list_given v.prefix ≡ some p → list_given v.cycle ≡ some q
    → run_of rabin v ≡ some (run pair p q)
run_of_lem rabin v pair p q e f g = rw (e, f, g)

pub run_missing : (rabin : Bool) (text : List ℕ) (at : ℕ) → ValuesAt text at code.None → run_given rabin (drop at text) ≡ none
run_missing rabin text at W =
    let none_there : run_text (drop at text) ≡ none = sym W.is in
    ap (λ (o : Option RunText). and_then o (run_of rabin)) none_there

module _ (rabin : Bool) (text : List ℕ) (at : ℕ) (r : RunValues) (W : ValuesAt text at (code.Some r)) where
  run_is : run_given rabin (drop at text)
      ≡ run_of rabin (record { pair = part at r.pair text; prefix = part r.prefix r.middle text; cycle = part r.cycle r.last text })
  run_is =
      let there : run_text (drop at text)
      ≡ some (record { pair = part at r.pair text; prefix = part r.prefix r.middle text; cycle = part r.cycle r.last text }) = sym W.is in
      ap (λ (o : Option RunText). and_then o (run_of rabin)) there

  pub pair_wrong : pair_given rabin (part at r.pair text) ≡ none → run_given rabin (drop at text) ≡ none
  pair_wrong e = run_is ∙ rw e

  module _ (pair : ℕ) (p : pair_given rabin (part at r.pair text) ≡ some pair) where
    pub prefix_wrong : is_some (list_given (part r.prefix r.middle text)) ≡ false → run_given rabin (drop at text) ≡ none
    prefix_wrong e = run_is ∙ rw (p, none_of (list_given (part r.prefix r.middle text)) e)

    module _ (q : is_some (list_given (part r.prefix r.middle text)) ≡ true) where
      pub cycle_wrong : is_some (list_given (part r.cycle r.last text)) ≡ false → run_given rabin (drop at text) ≡ none
      cycle_wrong e =
          run_is ∙ rw (p, (some_of (list_given (part r.prefix r.middle text)) q).1, none_of (list_given (part r.cycle r.last text)) e)

      pub run_whole : is_some (list_given (part r.cycle r.last text)) ≡ true
          → RunAt (run_given rabin (drop at text)) text pair r.prefix r.middle r.cycle r.last
      run_whole e =
          let a = some_of (list_given (part r.prefix r.middle text)) q in
          let b = some_of (list_given (part r.cycle r.last text)) e in
          record {
            prefix = a.0;
            cycle = b.0;
            says = run_is ∙ run_of_lem rabin _ pair a.0 b.0 p a.1 b.1;
            prefix_listed = a.1;
            cycle_listed = b.1;
            prefix_there = W.prefix;
            cycle_there = W.cycle;
          }

-- ---- a refusal is no run

refused_other : (xs : List ℕ) (s : Said) → refused_given xs ≡ some s → (pair : ℕ) (p q : List ℕ) → s ≡ run pair p q → ⊥
unfolding refused_given
refused_other xs s r pair p q e =
    let a = after (value_then then_place xs) _ s r in
    let n = after (number a.first.value) _ s a.then in
    let w = after (where_given a.first.rest) _ s n.then in
    let said : refused n.first w.first.place w.first.column ≡ run pair p q = some_same w.then ∙ e in
    let z : ◌≡◌ {A = ℕ} 0 1 = cc in
    omega arith

-- ---- and an empty verdict is none

empty_other : (xs : List ℕ) (s : Said) → empty_given xs ≡ some s → (pair : ℕ) (p q : List ℕ) → s ≡ run pair p q → ⊥
unfolding empty_given
empty_other xs s r pair p q e =
    let a = after (value_then empty_tail xs) _ s r in
    let o = over_back a.first.rest _ s a.then in
    let d = after (number a.first.value) _ s o.1 in
    let said : empty d.first ≡ run pair p q = some_same d.then ∙ e in
    let z : ◌≡◌ {A = ℕ} 0 1 = cc in
    omega arith

no_run_says : (text : List ℕ) (o : Option Said) → ((s : Said) → o ≡ some s → (pair : ℕ) (p q : List ℕ) → s ≡ run pair p q → ⊥) → FormSays o text (no_run (is_some o))
no_run_says text none other = refl
no_run_says text (some s) other = record { answer = s; says = refl; other = other s refl }

-- ---- the whole text

module _ (rabin : Bool) (text : List ℕ) where
  pub answer_empty : starts_with empty_head text ≡ true → (f : code.Option Form) (b : Bool) → f ≡ no_run b → b ≡ is_some (empty_given (drop (length empty_head) text)) → FormSays (given rabin text) text f
  unfolding given
  answer_empty t f b e q = rw (e, q, t) (no_run_says text (empty_given (drop (length empty_head) text)) (empty_other (drop (length empty_head) text)))

  module _ (t : starts_with empty_head text ≡ false) where
    pub answer_run : starts_with run_head text ≡ true → (f : code.Option Form) → FormSays (run_given rabin (drop (length run_head) text)) text f → FormSays (given rabin text) text f
    unfolding given
    answer_run u f S = rw (t, u) S

    module _ (u : starts_with run_head text ≡ false) where
      pub answer_none : starts_with refused_head text ≡ false → given rabin text ≡ none
      unfolding given
      answer_none w = rw (t, u, w)

      pub answer_refused : starts_with refused_head text ≡ true → (f : code.Option Form) (b : Bool) → f ≡ no_run b → b ≡ is_some (refused_given (drop (length refused_head) text)) → FormSays (given rabin text) text f
      unfolding given
      answer_refused w f b e q = rw (e, q, t, u, w) (no_run_says text (refused_given (drop (length refused_head) text)) (refused_other (drop (length refused_head) text)))
