-- What the items ahead must give, behind what was read: the subset's conditions on all items, at any place of the header. Items fit one behind the other
-- exactly if this holds (`ahead_takes`, `takes_ahead`). Assumes nothing.
use Rattle.std.specs.Prelude.{Option, Some, None}
use mathlib.Core.Bool.{Bool, true, false, false≢true}
use mathlib.Core.List.{List, [], ◌∷◌}
use mathlib.Core.Path.{◌≡◌, refl, sym, ap, subst, ◌∙◌}
use Prim.Native.Nat.{ℕ, suc, ◌+◌, ◌≤◌, ◌<◌}
use native.Mathlib.Omega.{arith}
use borrow.Author.Tests.{lt-leb, leb-false}
use lib.ListN.{length}
use Rattle.std.specs.Prelude.{Option, Some, None}
use Rattle.table.specs.declared.Acceptance.{Acceptance}
use Rattle.hoa_tokens.specs.declared.Word.{Word}
use Rattle.hoa_formula.specs.Cond.{Cond}
use Rattle.hoa_step.specs.Given.{is_given, given_or, not_below, not_above}
use Rattle.job_text.specs.Job.{most_job_states}
use Rattle.hoa_standard.specs.Standard.{most_pairs}
use Rattle.hoa_value.specs.declared.Head.{Head}
use Rattle.hoa_value.specs.Head.{most_props, most_marks, with_states, with_start, with_props, with_marks, with_acc_name, with_tool, with_name}
use Rattle.hoa_grammar.specs.Doc.{Conj, one, more, Extra, Item, states, start, props, alias, acceptance, acc_name, tool, name, properties, capital, lower}
use Rattle.hoa_grammar.specs.Subset.{Each, each_none, each_more, given, of_states, of_start, of_props, of_acceptance, of_acc_name, of_tool, of_name, ItemFits, StandardAs, pairs_in}
use Rattle.hoa_grammar.proofs.Takes.{
  formula,
  Takes,
  takes_states,
  takes_start,
  takes_props,
  takes_acceptance,
  takes_acc_name,
  takes_tool,
  takes_name,
  takes_properties,
  takes_lower,
  ItemLimit,
  TakesAll,
  takes_none,
  takes_more,
}
use Rattle.hoa_grammar.proofs.Heads.{AllLimits}

-- what the header gives in the end
pub record Goal : Type 0 where
  pub states : Option ℕ
  pub start : Option ℕ
  pub props : Option ℕ
  pub marks : Option ℕ
  pub condition : Acceptance
  pub needs : List ℕ

abbrev pub goal_of : Head → Goal
goal_of h = record { states = h.states; start = h.start; props = h.props; marks = h.marks; condition = h.condition; needs = h.needs }

-- what was given so far, and what the items ahead give, come to f: nothing, once ahead, or once before
pub data Settles {A : Type 0} (gives : A → Type 0) (g : Option ℕ) (xs : List A) (f : Option ℕ) : Type 0 where
  nowhere : g ≡ None → xs ≡ [] → f ≡ None → Settles gives g xs f
  ahead : (x : A) → g ≡ None → xs ≡ x ∷ [] → gives x → Settles gives g xs f
  before : g ≡ f → is_given g ≡ true → xs ≡ [] → Settles gives g xs f

-- at most once, before or ahead
abbrev count : Bool → ℕ
count true = 1
count false = 0

-- the start is the one INT
abbrev pub StartIs : Option ℕ → Conj → Type 0
StartIs f (one s) = f ≡ Some s
StartIs f (more s c) = ⊥

-- where a formula came, it is the one that the header has in the end
abbrev MarksKept : Option ℕ → Acceptance → List ℕ → Goal → Type 0
MarksKept None condition needs f = Unit {0}
MarksKept (Some c) condition needs f = (condition ≡ f.condition) × (needs ≡ f.needs)

pub record Ahead (h : Head) (is : List Item) (f : Goal) : Type 0 where
  pub fit : Each ItemFits is
  pub states_settle : Settles (λ n. f.states ≡ Some n) h.states (given of_states is) f.states
  pub start_settles : Settles (StartIs f.start) h.start (given of_start is) f.start
  pub props_settle : Settles (λ ns. f.props ≡ Some (length ns)) h.props (given of_props is) f.props
  pub marks_settle : Settles (λ x. (f.marks ≡ Some x.marks) × StandardAs x f.condition f.needs) h.marks (given of_acceptance is) f.marks
  pub marks_kept : MarksKept h.marks h.condition h.needs f
  pub acc_name_once : count h.hint + length (given of_acc_name is) ≤ 1
  pub tool_once : count h.tool + length (given of_tool is) ≤ 1
  pub name_once : count h.name + length (given of_name is) ≤ 1

-- the numbers agree where both are given: "n at least 1; s below n"
abbrev pub Agree : Option ℕ → Option ℕ → Type 0
Agree None s = Unit {0}
Agree (Some n) None = 0 < n
Agree (Some n) (Some s) = s < n

-- ---- lists and truth values

abbrev IsNil : {A : Type 0} → List A → Type 0
IsNil [] = Unit {0}
IsNil (x ∷ xs) = ⊥

cons_nil : {A C : Type 0} {x : A} {xs : List A} → x ∷ xs ≡ [] → C
cons_nil e = absurd (subst IsNil (sym e) tt)

abbrev head_or : {A : Type 0} → A → List A → A
head_or d [] = d
head_or d (x ∷ xs) = x

abbrev tail_of : {A : Type 0} → List A → List A
tail_of [] = []
tail_of (x ∷ xs) = xs

cons_head : {A : Type 0} {x y : A} {xs ys : List A} → x ∷ xs ≡ y ∷ ys → x ≡ y
cons_head {x = x} e = ap (head_or x) e

cons_tail : {A : Type 0} {x y : A} {xs ys : List A} → x ∷ xs ≡ y ∷ ys → xs ≡ ys
cons_tail e = ap tail_of e

not_given : (g : Option ℕ) → g ≡ None → is_given g ≡ false
not_given g e = rw e refl

none_given : (g : Option ℕ) → is_given g ≡ false → g ≡ None
none_given None e = refl
none_given (Some n) e = absurd (false≢true (sym e))

-- a sort that is met ahead was not met before, is met once, and gives what is asked
pub record Met {A : Type 0} (gives : A → Type 0) (g : Option ℕ) (x : A) (xs : List A) : Type 0 where
  pub new : g ≡ None
  pub last : xs ≡ []
  pub gives_it : gives x

met : {A : Type 0} {gives : A → Type 0} {g f : Option ℕ} (x : A) (xs : List A) → Settles gives g (x ∷ xs) f → Met gives g x xs
met x xs (nowhere _ e _) = cons_nil e
met {gives = gives} x xs (ahead y n e h) = record { new = n; last = cons_tail e; gives_it = subst gives (sym (cons_head e)) h }
met x xs (before _ _ e) = cons_nil e

-- a flag that is met ahead was not met before
flag_new : (b : Bool) (n : ℕ) → count b + suc n ≤ 1 → b ≡ false
flag_new true n l = absurd (omega arith)
flag_new false n l = refl

flag_set : (b : Bool) (n : ℕ) → count b + suc n ≤ 1 → count true + n ≤ 1
flag_set true n l = absurd (omega arith)
flag_set false n l = omega arith

-- ---- from all to one behind the other

-- the numbers that are given agree with those that are given in the end
above_start : (g f fs : Option ℕ) (n : ℕ) → fs ≡ Some n → (is_given g ≡ true → g ≡ f) → Agree fs f → not_above n g ≡ false
above_start None f fs n q k a = refl
above_start (Some s) f fs n q k a = lt-leb n s (agreed fs f n s q (k refl) a)
  where
    agreed : (fs f : Option ℕ) (n s : ℕ) → fs ≡ Some n → Some s ≡ f → Agree fs f → s < n
    agreed fs f n s q k a = subst (λ (x : Option ℕ). Agree (Some n) x) (sym k) (subst (λ (x : Option ℕ). Agree x f) q a)

below_states : (g f fs : Option ℕ) (s : ℕ) → f ≡ Some s → (is_given g ≡ true → g ≡ fs) → Agree fs f → not_below s g ≡ false
below_states None f fs s q k a = refl
below_states (Some n) f fs s q k a = lt-leb n s (agreed fs f n s q (k refl) a)
  where
    agreed : (fs f : Option ℕ) (n s : ℕ) → f ≡ Some s → Some n ≡ fs → Agree fs f → s < n
    agreed fs f n s q k a = subst (λ (x : Option ℕ). Agree (Some n) x) q (subst (λ (x : Option ℕ). Agree x f) (sym k) a)

some_states : (fs f : Option ℕ) (n : ℕ) → fs ≡ Some n → Agree fs f → 0 < n
some_states fs f n q a = positive f (subst (λ (x : Option ℕ). Agree x f) q a)
  where
    positive : (f : Option ℕ) → Agree (Some n) f → 0 < n
    positive None a = a
    positive (Some s) a = omega arith

-- what was given before stays
kept_given : {A : Type 0} {gives : A → Type 0} {g f : Option ℕ} {xs : List A} → Settles gives g xs f → is_given g ≡ true → g ≡ f
kept_given (nowhere n _ _) e = absurd (false≢true (sym (not_given _ n) ∙ e))
kept_given (ahead x n _ _) e = absurd (false≢true (sym (not_given _ n) ∙ e))
kept_given (before q _ _) e = q

-- the limits of what the header gives
pub record GoalLimited (f : Goal) : Type 0 where
  pub few_states : given_or 0 f.states ≤ most_job_states
  pub few_start : given_or 0 f.start < most_job_states
  pub few_props : given_or 0 f.props ≤ most_props
  pub few_marks : given_or 0 f.marks ≤ most_marks
  pub few_pairs : pairs_in f.condition ≤ most_pairs

-- where the items lead
pub record Taken (h : Head) (is : List Item) (f : Goal) : Type 0 where
  pub last : Head
  pub takes : TakesAll h is last
  pub reached : goal_of last ≡ f
  pub limits : GoalLimited f → AllLimits takes

taken_more : {h h' : Head} {i : Item} {is : List Item} {f : Goal} (t : Takes h i h') → (GoalLimited f → ItemLimit t) → Taken h' is f → Taken h (i ∷ is) f
unfolding AllLimits
taken_more t l r = record { last = r.last; takes = takes_more t r.takes; reached = r.reached; limits = λ g. (l g, r.limits g) }

-- a number that is given in the end
given_is : (g : Option ℕ) (n : ℕ) → g ≡ Some n → n ≡ given_or 0 g
given_is g n e = sym (ap (given_or 0) e)

-- nothing is ahead any more
settled : {A : Type 0} {gives : A → Type 0} {g f : Option ℕ} → Settles gives g [] f → g ≡ f
settled (nowhere a _ b) = a ∙ sym b
settled (ahead x _ e _) = cons_nil (sym e)
settled (before q _ _) = q

settled_marks : (m : Option ℕ) (condition : Acceptance) (needs : List ℕ) (f : Goal) → is_given m ≡ true → MarksKept m condition needs f
    → (condition ≡ f.condition) × (needs ≡ f.needs)
settled_marks None condition needs f g k = absurd (false≢true g)
settled_marks (Some c) condition needs f g k = k

none_ahead : (h : Head) (f : Goal) → Ahead h [] f → is_given f.marks ≡ true → goal_of h ≡ f
unfolding given
none_ahead h f a g =
    let s = settled a.states_settle in
    let t = settled a.start_settles in
    let p = settled a.props_settle in
    let m = settled a.marks_settle in
    let k = settled_marks h.marks h.condition h.needs f (ap is_given m ∙ g) a.marks_kept in
    λ i. record { states = s i; start = t i; props = p i; marks = m i; condition = k.0 i; needs = k.1 i }

tail_fit : {i : Item} {is : List Item} → Each ItemFits (i ∷ is) → Each ItemFits is
tail_fit (each_more f fs) = fs

head_fit : {i : Item} {is : List Item} → Each ItemFits (i ∷ is) → ItemFits i
head_fit (each_more f fs) = f

-- items that give nothing
pass : {h : Head} {ws : List Word} {is : List Item} {f : Goal} → Ahead h (properties ws ∷ is) f → Ahead h is f
unfolding given
pass a =
    record {
      fit = tail_fit a.fit;
      states_settle = a.states_settle;
      start_settles = a.start_settles;
      props_settle = a.props_settle;
      marks_settle = a.marks_settle;
      marks_kept = a.marks_kept;
      acc_name_once = a.acc_name_once;
      tool_once = a.tool_once;
      name_once = a.name_once;
    }

pass_lower : {h : Head} {es : List Extra} {is : List Item} {f : Goal} → Ahead h (lower es ∷ is) f → Ahead h is f
unfolding given
pass_lower a =
    record {
      fit = tail_fit a.fit;
      states_settle = a.states_settle;
      start_settles = a.start_settles;
      props_settle = a.props_settle;
      marks_settle = a.marks_settle;
      marks_kept = a.marks_kept;
      acc_name_once = a.acc_name_once;
      tool_once = a.tool_once;
      name_once = a.name_once;
    }

-- what all items ahead must give makes them fit one behind the other
pub ahead_takes : (is : List Item) (h : Head) (f : Goal) → Agree f.states f.start → is_given f.marks ≡ true → Ahead h is f → Taken h is f
unfolding given ItemLimit AllLimits
ahead_takes [] h f agree g a = record { last = h; takes = takes_none refl; reached = none_ahead h f a g; limits = λ _. tt }
ahead_takes (states n ∷ is) h f agree g a =
    let m = met n (given of_states is) a.states_settle in
    taken_more
    (takes_states n (not_given _ m.new) (some_states f.states f.start n m.gives_it agree)
    (above_start h.start f.start f.states n m.gives_it (kept_given a.start_settles) agree))
    (λ x. omega (arith, x.few_states, given_is f.states n m.gives_it))
    (ahead_takes is (with_states n h) f agree g
    (record {
      fit = tail_fit a.fit;
      states_settle = before (sym m.gives_it) refl m.last;
      start_settles = a.start_settles;
      props_settle = a.props_settle;
      marks_settle = a.marks_settle;
      marks_kept = a.marks_kept;
      acc_name_once = a.acc_name_once;
      tool_once = a.tool_once;
      name_once = a.name_once;
    }))
ahead_takes (start (one s) ∷ is) h f agree g a =
    let m = met (one s) (given of_start is) a.start_settles in
    taken_more
    (takes_start s (not_given _ m.new) (below_states h.states f.start f.states s m.gives_it (kept_given a.states_settle) agree))
    (λ x. omega (arith, x.few_start, given_is f.start s m.gives_it))
    (ahead_takes is (with_start s h) f agree g
    (record {
      fit = tail_fit a.fit;
      states_settle = a.states_settle;
      start_settles = before (sym m.gives_it) refl m.last;
      props_settle = a.props_settle;
      marks_settle = a.marks_settle;
      marks_kept = a.marks_kept;
      acc_name_once = a.acc_name_once;
      tool_once = a.tool_once;
      name_once = a.name_once;
    }))
ahead_takes (start (more s c) ∷ is) h f agree g a = absurd (met (more s c) (given of_start is) a.start_settles).gives_it
ahead_takes (props k ns ∷ is) h f agree g a =
    let m = met ns (given of_props is) a.props_settle in
    let x = head_fit a.fit in
    taken_more
    (takes_props k ns (not_given _ m.new) x.0 x.1)
    (λ y. omega (arith, y.few_props, given_is f.props (length ns) m.gives_it, x.0))
    (ahead_takes is (with_props k h) f agree g
    (record {
      fit = tail_fit a.fit;
      states_settle = a.states_settle;
      start_settles = a.start_settles;
      props_settle = before (sym (m.gives_it ∙ ap Some x.0)) refl m.last;
      marks_settle = a.marks_settle;
      marks_kept = a.marks_kept;
      acc_name_once = a.acc_name_once;
      tool_once = a.tool_once;
      name_once = a.name_once;
    }))
ahead_takes (alias l ∷ is) h f agree g a = absurd (head_fit a.fit)
ahead_takes (acceptance c x ∷ is) h f agree g a =
    let m = met (formula c x) (given of_acceptance is) a.marks_settle in
    taken_more
    (takes_acceptance c x f.condition f.needs (not_given _ m.new) m.gives_it.1)
    (λ y. (omega (arith, y.few_marks, given_is f.marks c m.gives_it.0), y.few_pairs))
    (ahead_takes is (with_marks c f.condition f.needs h) f agree g
    (record {
      fit = tail_fit a.fit;
      states_settle = a.states_settle;
      start_settles = a.start_settles;
      props_settle = a.props_settle;
      marks_settle = before (sym m.gives_it.0) refl m.last;
      marks_kept = (refl, refl);
      acc_name_once = a.acc_name_once;
      tool_once = a.tool_once;
      name_once = a.name_once;
    }))
ahead_takes (acc_name w hs ∷ is) h f agree g a =
    taken_more
    (takes_acc_name w hs (flag_new h.hint (length (given of_acc_name is)) a.acc_name_once))
    (λ _. tt)
    (ahead_takes is (with_acc_name h) f agree g
    (record {
      fit = tail_fit a.fit;
      states_settle = a.states_settle;
      start_settles = a.start_settles;
      props_settle = a.props_settle;
      marks_settle = a.marks_settle;
      marks_kept = a.marks_kept;
      acc_name_once = flag_set h.hint (length (given of_acc_name is)) a.acc_name_once;
      tool_once = a.tool_once;
      name_once = a.name_once;
    }))
ahead_takes (tool bs second ∷ is) h f agree g a =
    taken_more
    (takes_tool bs second (flag_new h.tool (length (given of_tool is)) a.tool_once))
    (λ _. tt)
    (ahead_takes is (with_tool h) f agree g
    (record {
      fit = tail_fit a.fit;
      states_settle = a.states_settle;
      start_settles = a.start_settles;
      props_settle = a.props_settle;
      marks_settle = a.marks_settle;
      marks_kept = a.marks_kept;
      acc_name_once = a.acc_name_once;
      tool_once = flag_set h.tool (length (given of_tool is)) a.tool_once;
      name_once = a.name_once;
    }))
ahead_takes (name bs ∷ is) h f agree g a =
    taken_more
    (takes_name bs (flag_new h.name (length (given of_name is)) a.name_once))
    (λ _. tt)
    (ahead_takes is (with_name h) f agree g
    (record {
      fit = tail_fit a.fit;
      states_settle = a.states_settle;
      start_settles = a.start_settles;
      props_settle = a.props_settle;
      marks_settle = a.marks_settle;
      marks_kept = a.marks_kept;
      acc_name_once = a.acc_name_once;
      tool_once = a.tool_once;
      name_once = flag_set h.name (length (given of_name is)) a.name_once;
    }))
ahead_takes (properties ws ∷ is) h f agree g a = taken_more (takes_properties ws) (λ _. tt) (ahead_takes is h f agree g (pass a))
ahead_takes (capital es ∷ is) h f agree g a = absurd (head_fit a.fit)
ahead_takes (lower es ∷ is) h f agree g a = taken_more (takes_lower es) (λ _. tt) (ahead_takes is h f agree g (pass_lower a))

-- ---- from one behind the other to all

no_value : {C : Type 0} {n : ℕ} → Some n ≡ None → C
no_value e = absurd (false≢true (sym (ap is_given e)))

-- what is given is settled, and nothing more is ahead
unsettle : {A : Type 0} {gives : A → Type 0} {n : ℕ} {f : Option ℕ} {xs : List A} → Settles gives (Some n) xs f → (Some n ≡ f) × (xs ≡ [])
unsettle (nowhere e _ _) = no_value e
unsettle (ahead x e _ _) = no_value e
unsettle (before q _ e) = (q, e)

-- one that is met, and nothing more ahead
meet : {A : Type 0} {gives : A → Type 0} {g f : Option ℕ} (x : A) (xs : List A) → is_given g ≡ false → xs ≡ [] → gives x → Settles gives g (x ∷ xs) f
meet x xs g e h = ahead x (none_given _ g) (ap (λ ys. x ∷ ys) e) h

settle_end : {A : Type 0} {gives : A → Type 0} (g : Option ℕ) → Settles gives g [] g
settle_end None = nowhere refl refl refl
settle_end (Some n) = before refl refl refl

kept_end : (h : Head) (m : Option ℕ) → MarksKept m h.condition h.needs (goal_of h)
kept_end h None = tt
kept_end h (Some c) = (refl, refl)

flag_end : (b : Bool) → count b + 0 ≤ 1
flag_end true = omega arith
flag_end false = omega arith

flag_met : (b : Bool) (n : ℕ) → b ≡ false → count true + n ≤ 1 → count b + suc n ≤ 1
flag_met true n e l = absurd (false≢true (sym e))
flag_met false n e l = omega arith

-- the formula is kept to the end
kept_formula : (c : ℕ) (x : Cond) (condition : Acceptance) (needs : List ℕ) (f : Goal) → StandardAs (formula c x) condition needs
    → (condition ≡ f.condition) × (needs ≡ f.needs) → StandardAs (formula c x) f.condition f.needs
kept_formula c x condition needs f m k =
    subst (λ (n : List ℕ). StandardAs (formula c x) f.condition n) k.1 (subst (λ (a : Acceptance). StandardAs (formula c x) a needs) k.0 m)

ahead_end : (h : Head) → Ahead h [] (goal_of h)
unfolding given
ahead_end h =
    record {
      fit = each_none;
      states_settle = settle_end h.states;
      start_settles = settle_end h.start;
      props_settle = settle_end h.props;
      marks_settle = settle_end h.marks;
      marks_kept = kept_end h h.marks;
      acc_name_once = flag_end h.hint;
      tool_once = flag_end h.tool;
      name_once = flag_end h.name;
    }

-- nothing was known of the formula where none was given
no_marks : (m : Option ℕ) (condition : Acceptance) (needs : List ℕ) (f : Goal) → is_given m ≡ false → MarksKept m condition needs f
no_marks None condition needs f e = tt
no_marks (Some c) condition needs f e = absurd (false≢true (sym e))

-- one item in front
ahead_more : {h h' : Head} {i : Item} {is : List Item} (f : Goal) → Takes h i h' → Ahead h' is f → Ahead h (i ∷ is) f
unfolding given
ahead_more {h = h} {is = is} f (takes_states n g p a) r =
    let u = unsettle r.states_settle in
    record {
      fit = each_more tt r.fit;
      states_settle = meet n (given of_states is) g u.1 (sym u.0);
      start_settles = r.start_settles;
      props_settle = r.props_settle;
      marks_settle = r.marks_settle;
      marks_kept = r.marks_kept;
      acc_name_once = r.acc_name_once;
      tool_once = r.tool_once;
      name_once = r.name_once;
    }
ahead_more {h = h} {is = is} f (takes_start s g a) r =
    let u = unsettle r.start_settles in
    record {
      fit = each_more tt r.fit;
      states_settle = r.states_settle;
      start_settles = meet (one s) (given of_start is) g u.1 (sym u.0);
      props_settle = r.props_settle;
      marks_settle = r.marks_settle;
      marks_kept = r.marks_kept;
      acc_name_once = r.acc_name_once;
      tool_once = r.tool_once;
      name_once = r.name_once;
    }
ahead_more {h = h} {is = is} f (takes_props k ns g l d) r =
    let u = unsettle r.props_settle in
    record {
      fit = each_more {x = props k ns} (l, d) r.fit;
      states_settle = r.states_settle;
      start_settles = r.start_settles;
      props_settle = meet ns (given of_props is) g u.1 (sym u.0 ∙ ap Some (sym l));
      marks_settle = r.marks_settle;
      marks_kept = r.marks_kept;
      acc_name_once = r.acc_name_once;
      tool_once = r.tool_once;
      name_once = r.name_once;
    }
ahead_more {h = h} {is = is} f (takes_acceptance c x condition needs g m) r =
    let u = unsettle r.marks_settle in
    record {
      fit = each_more tt r.fit;
      states_settle = r.states_settle;
      start_settles = r.start_settles;
      props_settle = r.props_settle;
      marks_settle = meet (formula c x) (given of_acceptance is) g u.1 (sym u.0, kept_formula c x condition needs f m r.marks_kept);
      marks_kept = no_marks h.marks h.condition h.needs f g;
      acc_name_once = r.acc_name_once;
      tool_once = r.tool_once;
      name_once = r.name_once;
    }
ahead_more {h = h} {is = is} f (takes_acc_name w hs g) r =
    record {
      fit = each_more tt r.fit;
      states_settle = r.states_settle;
      start_settles = r.start_settles;
      props_settle = r.props_settle;
      marks_settle = r.marks_settle;
      marks_kept = r.marks_kept;
      acc_name_once = flag_met h.hint (length (given of_acc_name is)) g r.acc_name_once;
      tool_once = r.tool_once;
      name_once = r.name_once;
    }
ahead_more {h = h} {is = is} f (takes_tool bs second g) r =
    record {
      fit = each_more tt r.fit;
      states_settle = r.states_settle;
      start_settles = r.start_settles;
      props_settle = r.props_settle;
      marks_settle = r.marks_settle;
      marks_kept = r.marks_kept;
      acc_name_once = r.acc_name_once;
      tool_once = flag_met h.tool (length (given of_tool is)) g r.tool_once;
      name_once = r.name_once;
    }
ahead_more {h = h} {is = is} f (takes_name bs g) r =
    record {
      fit = each_more tt r.fit;
      states_settle = r.states_settle;
      start_settles = r.start_settles;
      props_settle = r.props_settle;
      marks_settle = r.marks_settle;
      marks_kept = r.marks_kept;
      acc_name_once = r.acc_name_once;
      tool_once = r.tool_once;
      name_once = flag_met h.name (length (given of_name is)) g r.name_once;
    }
ahead_more f (takes_properties ws) r =
    record {
      fit = each_more tt r.fit;
      states_settle = r.states_settle;
      start_settles = r.start_settles;
      props_settle = r.props_settle;
      marks_settle = r.marks_settle;
      marks_kept = r.marks_kept;
      acc_name_once = r.acc_name_once;
      tool_once = r.tool_once;
      name_once = r.name_once;
    }
ahead_more f (takes_lower es) r =
    record {
      fit = each_more tt r.fit;
      states_settle = r.states_settle;
      start_settles = r.start_settles;
      props_settle = r.props_settle;
      marks_settle = r.marks_settle;
      marks_kept = r.marks_kept;
      acc_name_once = r.acc_name_once;
      tool_once = r.tool_once;
      name_once = r.name_once;
    }

-- items that fit one behind the other give all that is asked of them
pub takes_ahead : (h h' : Head) (is : List Item) → TakesAll h is h' → Ahead h is (goal_of h')
takes_ahead h h' _ (takes_none e) = subst (λ (x : Head). Ahead h [] (goal_of x)) e (ahead_end h)
takes_ahead h h' _ (takes_more t ts) = ahead_more (goal_of h') t (takes_ahead _ h' _ ts)

-- and the numbers agree
agree_states : (g f : Option ℕ) (n : ℕ) → 0 < n → not_above n f ≡ false → Agree (Some n) f
agree_states g None n p a = p
agree_states g (Some s) n p a = leb-false n s a

agree_start : (g : Option ℕ) (s : ℕ) → not_below s g ≡ false → Agree g (Some s)
agree_start None s a = tt
agree_start (Some n) s a = leb-false n s a

agree_one : {h h' : Head} {i : Item} → Takes h i h' → Agree h.states h.start → Agree h'.states h'.start
agree_one {h = h} (takes_states n g p a) r = agree_states h.states h.start n p a
agree_one {h = h} (takes_start s g a) r = agree_start h.states s a
agree_one (takes_props k ns g l d) r = r
agree_one (takes_acceptance c x condition needs g m) r = r
agree_one (takes_acc_name w hs g) r = r
agree_one (takes_tool bs second g) r = r
agree_one (takes_name bs g) r = r
agree_one (takes_properties ws) r = r
agree_one (takes_lower es) r = r

pub takes_agree : (h h' : Head) (is : List Item) → TakesAll h is h' → Agree h.states h.start → Agree h'.states h'.start
takes_agree h h' _ (takes_none e) r = subst (λ (x : Head). Agree x.states x.start) e r
takes_agree h h' _ (takes_more t ts) r = takes_agree _ h' _ ts (agree_one t r)

-- ---- the limits of the end

limited_one : {h h' : Head} {i : Item} (t : Takes h i h') → ItemLimit t → GoalLimited (goal_of h) → GoalLimited (goal_of h')
unfolding ItemLimit
limited_one (takes_states n g p a) l r =
    record { few_states = l; few_start = r.few_start; few_props = r.few_props; few_marks = r.few_marks; few_pairs = r.few_pairs }
limited_one (takes_start s g a) l r =
    record { few_states = r.few_states; few_start = l; few_props = r.few_props; few_marks = r.few_marks; few_pairs = r.few_pairs }
limited_one (takes_props k ns g e d) l r =
    record { few_states = r.few_states; few_start = r.few_start; few_props = l; few_marks = r.few_marks; few_pairs = r.few_pairs }
limited_one (takes_acceptance c x condition needs g m) l r =
    record { few_states = r.few_states; few_start = r.few_start; few_props = r.few_props; few_marks = l.0; few_pairs = l.1 }
limited_one (takes_acc_name w hs g) l r = record { few_states = r.few_states; few_start = r.few_start; few_props = r.few_props; few_marks = r.few_marks; few_pairs = r.few_pairs }
limited_one (takes_tool bs second g) l r = record { few_states = r.few_states; few_start = r.few_start; few_props = r.few_props; few_marks = r.few_marks; few_pairs = r.few_pairs }
limited_one (takes_name bs g) l r = record { few_states = r.few_states; few_start = r.few_start; few_props = r.few_props; few_marks = r.few_marks; few_pairs = r.few_pairs }
limited_one (takes_properties ws) l r = r
limited_one (takes_lower es) l r = r

-- items that are held to the limits give a header within them
pub takes_limited : (h h' : Head) (is : List Item) (fs : TakesAll h is h') → AllLimits fs → GoalLimited (goal_of h) → GoalLimited (goal_of h')
unfolding AllLimits
takes_limited h h' _ (takes_none e) l r = subst (λ (x : Head). GoalLimited (goal_of x)) e r
takes_limited h h' _ (takes_more t ts) l r = takes_limited _ h' _ ts l.1 (limited_one t l.0 r)
