-- What is read is a text of the subset, within the limits, that says the job (`accepted`). Assumes nothing.
use Rattle.std.specs.Prelude.{Option, Some, None}
use mathlib.Core.Bool.{true, false, false≢true}
use mathlib.Core.List.{List, [], ◌∷◌}
use mathlib.Core.Path.{◌≡◌, refl, sym, ap, subst, ◌∙◌}
use Prim.Native.Nat.{ℕ, suc, ◌≤◌, ◌<◌, zero-le}
use native.Mathlib.Omega.{arith}
use borrow.Author.Tests.{ltb-false, leb-false}
use lib.Dec.{leb}
use lib.ListN.{length}
use Rattle.std.specs.Prelude.{Option, Some, None}
use Rattle.table.specs.declared.Acceptance.{Acceptance}
use Rattle.job_text.specs.Value.{Edge}
use Rattle.job_text.specs.Job.{Job, Outcome, job, fault, most_job_states, most_job_edges}
use Rattle.hoa_tokens.specs.declared.Word.TheVariants as word_is
use Rattle.hoa_tokens.specs.declared.Header.TheVariants as header_is
use Rattle.hoa_tokens.specs.Token.{Token, word, header, body}
use Rattle.hoa_tokens.specs.Stream.{Placed, tokens_at}
use Rattle.hoa_step.specs.Given.{is_given, given_or, not_below}
use Rattle.hoa_step.specs.Machine.{End, done_at, wrong_at, cut, run}
use Rattle.hoa_value.specs.declared.Head.{Head}
use Rattle.hoa_value.specs.Head.{most_props, most_marks, blank}
use Rattle.hoa_value.specs.Heading.{opening, head_step}
use Rattle.hoa_head.specs.Headed.{head_end}
use Rattle.hoa_entry.specs.declared.Limits.{Limits}
use Rattle.hoa_entry.specs.Rows.{Rows, Kept, no_rows, entries, wrong_end, row_step}
use Rattle.hoa_kept.specs.Sorted.{sorted}
use Rattle.hoa.specs.Reading.{limits_of, job_of, rows_say, head_says, read_hoa}
use Rattle.hoa_grammar.specs.Doc.{Conj, one, more, Item, Row, Doc, items_text, doc_text}
use Rattle.hoa_grammar.specs.Subset.{Each, each_none, each_more, given, of_states, of_start, of_props, of_acceptance, Formula, StandardAs, props_of, states_of, RowsSay, numbers_of, Says, Limited}
use Rattle.hoa_grammar.specs.Walk.{over, tokens_of}
use Rattle.hoa_grammar.specs.Exact.{ReadAs}
use Rattle.hoa_grammar.proofs.RowTakes.{TakesRows, takes_no_row, takes_row_more, RowsLimit, edges_seen}
use Rattle.hoa_grammar.proofs.Takes.{TakesAll}
use Rattle.hoa_grammar.proofs.Heads.{AllLimits}
use Rattle.hoa_grammar.proofs.HeadSound as heads
use Rattle.hoa_grammar.proofs.FormulaTexts.{formula_sound}
use Rattle.hoa_grammar.proofs.RowSound as bodies
use Rattle.hoa_grammar.proofs.Ahead.{goal_of, Settles, nowhere, ahead, before, StartIs, Agree, GoalLimited, takes_ahead, takes_agree, takes_limited}
use Rattle.hoa_grammar.proofs.RowsAhead.{RowsSaid, rows_say_lem, flat_rows, few_rows}
use Rattle.hoa_grammar.proofs.Runs.{run_walk, run_leaves, Behind, goes_on, none_left}
use Rattle.hoa_grammar.proofs.Crowd.{crowd}

-- ---- what was read

abbrev IsJob : Outcome → Type 0
IsJob (job j) = Unit {0}
IsJob (fault n p) = ⊥

fault_job : {A : Type 0} {n p : ℕ} {j : Job} → fault n p ≡ job j → A
fault_job e = absurd (subst IsJob (sym e) tt)

abbrev job_or : Job → Outcome → Job
job_or d (job j) = j
job_or d (fault n p) = d

-- the parts of what was read: the header, the rows, and the job
pub record Parts (text : List ℕ) (j : Job) : Type 0 where
  pub head : Head
  pub left : List Placed
  pub head_is : head_end text ≡ done_at head left
  pub kept : Kept
  pub rest : List Placed
  pub rows_are : run (row_step (limits_of head)) left (entries (no_rows (limits_of head).start)) ≡ done_at kept rest
  pub job_is : job_of head kept ≡ j

pub parts : (text : List ℕ) (j : Job) → read_hoa text ≡ job j → Parts text j
unfolding read_hoa
parts text j e = by_head (head_end text) refl e
  where
    by_rows : (h : Head) (ps : List Placed) → head_end text ≡ done_at h ps → (x : End Kept)
        → run (row_step (limits_of h)) ps (entries (no_rows (limits_of h).start)) ≡ x → rows_say h x ≡ job j → Parts text j
    by_rows h ps q (done_at k qs) r e =
        record { head = h; left = ps; head_is = q; kept = k; rest = qs; rows_are = r; job_is = ap (job_or (job_of h k)) e }
    by_rows h ps q (wrong_at n p) r e = fault_job e
    by_rows h ps q cut r e = fault_job e

    by_head : (x : End Head) → head_end text ≡ x → head_says x ≡ job j → Parts text j
    by_head (done_at h ps) q e = by_rows h ps q (run (row_step (limits_of h)) ps (entries (no_rows (limits_of h).start))) refl e
    by_head (wrong_at n p) q e = fault_job e
    by_head cut q e = fault_job e

-- ---- what the items gave

no_given : {A : Type 0} → is_given None ≡ true → A
no_given e = absurd (false≢true e)

once_of : {A : Type 0} {gives : A → Type 0} {f : Option ℕ} {xs : List A} → Settles gives None xs f → length xs ≤ 1
once_of (nowhere _ e _) = omega (arith, ap length e)
once_of (ahead x _ e _) = omega (arith, ap length e)
once_of (before _ g _) = no_given g

start_of : (f : Option ℕ) (xs : List Conj) → is_given f ≡ true → Settles (StartIs f) None xs f → xs ≡ one (given_or 0 f) ∷ []
start_of f xs g (nowhere _ _ n) = absurd (false≢true (sym (ap is_given n) ∙ g))
start_of f xs g (ahead (one s) _ e h) = e ∙ ap (λ n. one n ∷ []) (sym (ap (given_or 0) h))
start_of f xs g (ahead (more s c) _ e h) = absurd h
start_of f xs g (before _ q _) = no_given q

-- the formula that was given
record FormulaOf (xs : List Formula) (f : Option ℕ) (condition : Acceptance) (needs : List ℕ) : Type 0 where
  formula : Formula
  only : xs ≡ formula ∷ []
  marks : formula.marks ≡ given_or 0 f
  means : StandardAs formula condition needs

formula_of_lem : (f : Option ℕ) (condition : Acceptance) (needs : List ℕ) (xs : List Formula) → is_given f ≡ true
    → Settles (λ x. (f ≡ Some x.marks) × StandardAs x condition needs) None xs f → FormulaOf xs f condition needs
formula_of_lem f condition needs xs g (nowhere _ _ n) = absurd (false≢true (sym (ap is_given n) ∙ g))
formula_of_lem f condition needs xs g (ahead x _ e h) = record { formula = x; only = e; marks = sym (ap (given_or 0) h.0); means = h.1 }
formula_of_lem f condition needs xs g (before _ q _) = no_given q

props_of_lem : (f : Option ℕ) (xs : List (List (List ℕ))) → Settles (λ ns. f ≡ Some (length ns)) None xs f → given_or 0 f ≡ props_of xs
props_of_lem f xs (nowhere _ e n) = ap (given_or 0) n ∙ sym (ap props_of e)
props_of_lem f xs (ahead ns _ e h) = ap (given_or 0) h ∙ sym (ap props_of e)
props_of_lem f xs (before _ q _) = no_given q

states_of_lem : (f : Option ℕ) (xs : List ℕ) (rs : List Row) (n : ℕ) → Settles (λ m. f ≡ Some m) None xs f → (f ≡ None → n ≡ length rs) → ((m : ℕ) → f ≡ Some m → n ≡ m)
    → n ≡ states_of xs rs
states_of_lem f xs rs n (nowhere _ e q) a b = a q ∙ sym (ap (λ ys. states_of ys rs) e)
states_of_lem f xs rs n (ahead m _ e h) a b = b m h ∙ sym (ap (λ ys. states_of ys rs) e)
states_of_lem f xs rs n (before _ q _) a b = no_given q

-- ---- how many rows

-- where n is given, no more rows than that
rows_room : (l : Limits) (n : ℕ) (b last : Rows) (rs : List Row) → l.states ≡ Some n → TakesRows l b rs last → length b.seen ≤ n → length last.seen ≤ n
rows_room l n b last _ q (takes_no_row e) h = subst (λ (x : Rows). length x.seen ≤ n) e h
rows_room l n b last _ q (takes_row_more {b' = b'} {r = r} f fs) h =
    let seen : length b'.seen ≡ suc (length b.seen) = ap length (edges_seen l _ b' r.edges f.edges_fit) in
    let room : leb n (length b.seen) ≡ false = sym (ap (not_below (length b.seen)) q) ∙ f.room in
    rows_room l n b' last _ q fs (omega (arith, seen, leb-false n (length b.seen) room))

-- the rows' numbers are within the limits
few_numbers : (l : Limits) (b last : Rows) (rs : List Row) (fs : TakesRows l b rs last) → RowsLimit l fs → Each (λ q. q < most_job_states) (numbers_of rs)
unfolding RowsLimit
few_numbers l b last _ (takes_no_row e) h = each_none
few_numbers l b last _ (takes_row_more {r = r} f fs) h = each_more {x = r.number} h.0.few (few_numbers l _ last _ fs h.1)

numbers_many : (rs : List Row) → length (numbers_of rs) ≡ length rs
numbers_many [] = refl
numbers_many (r ∷ rs) = ap suc (numbers_many rs)

-- the number of states, by whether it was given
data Counts (g f : Option ℕ) (last : Rows) : Type 0 where
  counted : g ≡ None → last.largest < length last.seen → Counts g f last
  said : (n : ℕ) → g ≡ Some n → length last.seen ≡ n → given_or 0 f < n → Counts g f last

agree_below : (n : ℕ) (f : Option ℕ) → is_given f ≡ true → Agree (Some n) f → given_or 0 f < n
agree_below n None g a = absurd (false≢true g)
agree_below n (Some s) g a = a

counts : (l : Limits) (g f : Option ℕ) (b last : Rows) (rs : List Row) → l.states ≡ g → is_given f ≡ true → Agree g f → b.seen ≡ [] → TakesRows l b rs last → wrong_end g last ≡ false
    → Counts g f last
counts l None f b last rs q g a z t w = counted refl (leb-false (length last.seen) last.largest w)
counts l (Some n) f b last rs q g a z t w =
    said n refl
    (omega (arith, rows_room l n b last rs q t (omega (arith, ap length z)), ltb-false (length last.seen) n w))
    (agree_below n f g a)

-- ---- the header and the rows together

-- how many rows there are at least
below_count : (g f : Option ℕ) (last : Rows) → Counts g f last → (q : ℕ) → not_below q g ≡ false → q ≤ last.largest → q < length last.seen
below_count g f last (counted _ c) q n m = omega arith
below_count g f last (said n e c _) q u m = omega (arith, leb-false n q (sym (ap (not_below q) e) ∙ u))

some_count : (g f : Option ℕ) (last : Rows) → Counts g f last → 1 ≤ length last.seen
some_count g f last (counted _ c) = omega arith
some_count g f last (said n e c s) = omega arith

start_count : (g f : Option ℕ) (last : Rows) → Counts g f last → given_or 0 f ≤ last.largest → given_or 0 f < length last.seen
start_count g f last (counted _ c) h = omega arith
start_count g f last (said n e c s) h = omega arith

value_is : {n m : ℕ} → Some n ≡ Some m → n ≡ m
value_is e = ap (given_or 0) e

no_both : {A : Type 0} (g : Option ℕ) (n : ℕ) → g ≡ None → g ≡ Some n → A
no_both g n a b = no_given (ap is_given (sym a ∙ b))

count_value : (g f : Option ℕ) (last : Rows) → Counts g f last → (m : ℕ) → g ≡ Some m → length last.seen ≡ m
count_value g f last (counted q _) m e = no_both g m q e
count_value g f last (said n q c _) m e = c ∙ value_is (sym q ∙ e)

module _ (h : Head) (is : List Item) (rs : List Row) (last : Rows) (fit : TakesAll blank is h) (few : AllLimits fit)
    (started : is_given h.start ≡ true) (accepting : is_given h.marks ≡ true)
    (rows_fit : TakesRows (limits_of h) (no_rows (limits_of h).start) rs last) (rows_few : RowsLimit (limits_of h) rows_fit)
    (ends_well : wrong_end h.states last ≡ false) where
  abbrev kept_by : Kept
  kept_by = record { states = length last.seen; edges = last.edges }

  abbrev the-doc : Doc
  the-doc = record { version = word_is.V1; items = is; rows = rs }

  limits_held : GoalLimited (goal_of h)
  limits_held =
      takes_limited blank h is fit few
      (record { few_states = zero-le; few_start = omega arith; few_props = zero-le; few_marks = zero-le; few_pairs = zero-le })

  counted_is : Counts h.states h.start last
  counted_is = counts (limits_of h) h.states h.start (no_rows (limits_of h).start) last rs refl started (takes_agree blank h is fit tt) refl rows_fit ends_well

  what_rows_say :
      RowsSaid (limits_of h) (length last.seen) last.largest limits_held.few_props (below_count h.states h.start last counted_is) (no_rows (limits_of h).start) rs last
  what_rows_say =
      rows_say_lem (limits_of h) (length last.seen) last.largest limits_held.few_props (below_count h.states h.start last counted_is)
      (no_rows (limits_of h).start) last rs rows_fit

  many : length rs ≡ length last.seen
  many = omega (arith, what_rows_say.many)

  given_formula : FormulaOf (given of_acceptance is) h.marks h.condition h.needs
  given_formula = formula_of_lem h.marks h.condition h.needs (given of_acceptance is) accepting (takes_ahead blank h is fit).marks_settle

  rows_said : RowsSay (length last.seen) (props_of (given of_props is)) given_formula.formula.marks rs what_rows_say.xs
  rows_said =
      subst (λ (c : ℕ). RowsSay (length last.seen) (props_of (given of_props is)) c rs what_rows_say.xs) (sym given_formula.marks)
      (subst (λ (a : ℕ). RowsSay (length last.seen) a (limits_of h).marks rs what_rows_say.xs) (props_of_lem h.props (given of_props is) (takes_ahead blank h is fit).props_settle)
      (what_rows_say.says (omega arith)))

  said_it : Says the-doc (job_of h kept_by)
  said_it =
      let a = takes_ahead blank h is fit in
      record {
        version = refl;
        items_fit = a.fit;
        once =
            record {
              states_once = once_of a.states_settle;
              props_once = once_of a.props_settle;
              acc_name_once = omega (arith, a.acc_name_once);
              tool_once = omega (arith, a.tool_once);
              name_once = omega (arith, a.name_once);
            };
        starts = start_of h.start (given of_start is) started a.start_settles;
        formula = given_formula.formula;
        accepts = given_formula.only;
        means = given_formula.means;
        states =
            states_of_lem h.states (given of_states is) rs (length last.seen) a.states_settle (λ q. sym many)
            (count_value h.states h.start last counted_is);
        some_state = some_count h.states h.start last counted_is;
        start_below = start_count h.states h.start last counted_is what_rows_say.grows;
        row_each = many;
        rows_differ = what_rows_say.differ;
        all = what_rows_say.xs;
        rows_say_lem = rows_said;
        edges = ap (sorted (length last.seen)) what_rows_say.edges_are;
      }

  held_to : Limited the-doc (job_of h kept_by) said_it
  unfolding said_it
  held_to =
      record {
        few_states =
            omega (
              arith,
              crowd most_job_states (numbers_of rs) (few_numbers (limits_of h) (no_rows (limits_of h).start) last rs rows_fit rows_few) what_rows_say.differ,
              numbers_many rs,
              many,
            );
        few_props = subst (λ (a : ℕ). a ≤ most_props) (props_of_lem h.props (given of_props is) (takes_ahead blank h is fit).props_settle) limits_held.few_props;
        few_marks = subst (λ (c : ℕ). c ≤ most_marks) (sym given_formula.marks) limits_held.few_marks;
        few_pairs = limits_held.few_pairs;
        few_edges =
            subst (λ (es : List Edge). length es ≤ most_job_edges) what_rows_say.edges_are
            (few_rows (limits_of h) (no_rows (limits_of h).start) last rs rows_fit rows_few zero-le);
        flat = flat_rows (limits_of h) (no_rows (limits_of h).start) last rs rows_fit rows_few;
      }

-- ---- what is read is a text of the subset

-- nothing is left behind the rows
left_none : (text : List ℕ) (l : Limits) (ps : List Placed) (k : Kept) (qs : List Placed) → Behind text ps
    → run (row_step l) ps (entries (no_rows l.start)) ≡ done_at k qs → qs ≡ []
left_none text l ps k qs (goes_on m at q) e =
    none_left l text m at (entries (no_rows l.start)) k qs (sym (ap (λ (xs : List Placed). run (row_step l) xs (entries (no_rows l.start))) q) ∙ e)

pub accepted : (text : List ℕ) (j : Job) → read_hoa text ≡ job j → ReadAs text j
unfolding head_end tokens_at doc_text tokens_of
accepted text j e = from_parts (parts text j e)
  where
    from_parts : Parts text j → ReadAs text j
    from_parts p =
        let h = p.head in
        let l = limits_of h in
        let ps = p.left in
        let nothing : p.rest ≡ [] = left_none text l ps p.kept p.rest (run_leaves head_step text (suc (length text)) 0 opening h ps p.head_is) p.rows_are in
        let heading = heads.sound h (tokens_of ps) formula_sound (tokens_of (tokens_at text 0)) (run_walk head_step (tokens_at text 0) ps opening h p.head_is) in
        let b = bodies.sound l p.kept [] (no_rows l.start) (tokens_of ps) refl
        (run_walk (row_step l) ps p.rest (entries (no_rows l.start)) p.kept p.rows_are ∙ ap (λ (qs : List Placed). over p.kept (tokens_of qs)) nothing) in
        subst (ReadAs text) (ap (job_of h) b.is ∙ p.job_is)
        (record {
          doc = the-doc h heading.is b.rs b.last heading.takes heading.limits heading.started heading.accepting b.takes b.limits b.ends_well;
          tokens = heading.text ∙ ap (λ (us : List Token). header header_is.Hoa ∷ word word_is.V1 ∷ items_text heading.is (body ∷ us)) b.text;
          says = said_it h heading.is b.rs b.last heading.takes heading.limits heading.started heading.accepting b.takes b.limits b.ends_well;
          limited = held_to h heading.is b.rs b.last heading.takes heading.limits heading.started heading.accepting b.takes b.limits b.ends_well;
        })
