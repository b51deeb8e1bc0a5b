-- Every text of the subset within the limits is read, as what it says (`read_all`). Assumes nothing.
use Rattle.std.specs.Prelude.{Option, Some, None}
use mathlib.Core.Bool.{false}
use mathlib.Core.List.{List, [], ◌∷◌}
use mathlib.Core.Path.{◌≡◌, refl, sym, ap, subst, ◌∙◌}
use Prim.Native.Nat.{ℕ, ◌≤◌, ◌<◌, zero-le}
use native.Mathlib.Omega.{arith}
use borrow.Author.Tests.{le-ltb, lt-leb}
use lib.ListN.{length}
use Rattle.std.specs.Prelude.{Option, Some, None}
use Rattle.job_text.specs.Job.{Job, job, most_job_states}
use Rattle.hoa_tokens.specs.declared.Word.{Word}
use Rattle.hoa_tokens.specs.declared.Word.TheVariants as word_is
use Rattle.hoa_tokens.specs.declared.Header.TheVariants as header_is
use Rattle.hoa_tokens.specs.Token.{Token, word, header, body, end, finish}
use Rattle.hoa_tokens.specs.Stream.{Placed, tokens_at}
use Rattle.hoa_step.specs.Given.{is_given, given_or, not_below}
use Rattle.hoa_step.specs.Machine.{done_at, run}
use Rattle.hoa_value.specs.declared.Head.{Head}
use Rattle.hoa_value.specs.Head.{most_props, blank}
use Rattle.hoa_value.specs.Heading.{opening, items, head_step, on_opening, on_version, piece_of}
use Rattle.hoa_head.specs.Headed.{head_end}
use Rattle.hoa_entry.specs.declared.Limits.{Limits}
use Rattle.hoa_entry.specs.Rows.{Rows, Kept, no_rows, entries, wrong_end, row_step, entry_of, on_closing}
use Rattle.hoa_kept.specs.Sorted.{sorted}
use Rattle.hoa.specs.Reading.{rows_say, head_says, read_hoa}
use Rattle.hoa_grammar.specs.Doc.{one, Doc, items_text, rows_text, doc_text}
use Rattle.hoa_grammar.specs.Subset.{Each, each_none, each_more, given, of_states, of_props, props_of, states_of, RowsSay, numbers_of, Says, Limited}
use Rattle.hoa_grammar.specs.Walk.{over, walk}
use Rattle.hoa_grammar.specs.Exact.{ReadAs}
use Rattle.hoa_grammar.proofs.Onward.{Onward, same, limit}
use Rattle.hoa_grammar.proofs.Heads.{items_walk}
use Rattle.hoa_grammar.proofs.RowWalks.{rows_walk}
use Rattle.hoa_grammar.proofs.Ahead.{Goal, goal_of, Settles, nowhere, ahead, Agree, Ahead, GoalLimited, Taken, ahead_takes}
use Rattle.hoa_grammar.proofs.RowsAhead.{RowsTaken, rows_take}
use Rattle.hoa_grammar.proofs.Runs.{walk_run}

-- a stretch within its limits leads on
within : {S D L : Type 0} {w w' : _} → L → Onward {S = S} {D = D} L w w' → w ≡ w'
within l (same e) = e
within l (limit n ts e) = absurd (n l)

-- ---- what the items come to

abbrev states_given : List ℕ → Option ℕ
states_given [] = None
states_given (n ∷ ns) = Some n

abbrev props_given : List (List (List ℕ)) → Option ℕ
props_given [] = None
props_given (ns ∷ nss) = Some (length ns)

-- a list of at most one
one_states : (xs : List ℕ) → length xs ≤ 1 → Settles (λ n. states_given xs ≡ Some n) None xs (states_given xs)
one_states [] l = nowhere refl refl refl
one_states (n ∷ []) l = ahead n refl refl refl
one_states (n ∷ (m ∷ xs)) l = absurd (omega arith)

one_props : (xs : List (List (List ℕ))) → length xs ≤ 1 → Settles (λ ns. props_given xs ≡ Some (length ns)) None xs (props_given xs)
one_props [] l = nowhere refl refl refl
one_props (ns ∷ []) l = ahead ns refl refl refl
one_props (n ∷ (m ∷ xs)) l = absurd (omega arith)

props_are : (xs : List (List (List ℕ))) → props_of xs ≡ given_or 0 (props_given xs)
props_are [] = refl
props_are (ns ∷ xs) = refl

-- the limits of the rows, by what the header gives
abbrev limits_by : Goal → Limits
limits_by f = record { states = f.states; start = given_or 0 f.start; props = given_or 0 f.props; marks = given_or 0 f.marks }

abbrev job_by : Goal → Kept → Job
job_by f k =
    record { states = k.states; start = given_or 0 f.start; condition = f.condition; needs = f.needs; edges = sorted k.states k.edges }

-- the first two tokens
version_walk : (v : Word) (us : List Token) → v ≡ word_is.V1 → walk head_step (header header_is.Hoa ∷ word v ∷ us) opening ≡ walk head_step us (items blank)
unfolding walk head_step on_opening on_version
version_walk v us e = rw e refl

-- what the rows say, by what the header gives
says_by : (h : Head) (f : Goal) → goal_of h ≡ f → (ps : List Placed) (k : Kept) (qs : List Placed)
    → run (row_step (limits_by f)) ps (entries (no_rows (limits_by f).start)) ≡ done_at k qs → head_says (done_at h ps) ≡ job (job_by f k)
says_by h f e ps k qs r =
    subst (λ (g : Goal). run (row_step (limits_by g)) ps (entries (no_rows (limits_by g).start)) ≡ done_at k qs → head_says (done_at h ps) ≡ job (job_by g k)) e (λ q. ap (rows_say h) q) r

module _ (d : Doc) (j : Job) (s : Says d j) (m : Limited d j s) where
  abbrev goal : Goal
  goal =
      record {
        states = states_given (given of_states d.items);
        start = Some j.start;
        props = props_given (given of_props d.items);
        marks = Some s.formula.marks;
        condition = j.condition;
        needs = j.needs;
      }

  -- n is the number of states, where it is given
  states_are : (xs : List ℕ) (q : ℕ) → j.states ≡ states_of xs d.rows → q < j.states → not_below q (states_given xs) ≡ false
  states_are [] q e l = refl
  states_are (n ∷ xs) q e l = lt-leb n q (omega arith)

  agree_by : (xs : List ℕ) → j.states ≡ states_of xs d.rows → Agree (states_given xs) (Some j.start)
  agree_by [] e = tt
  agree_by (n ∷ xs) e = omega (arith, s.start_below)

  few_by : (xs : List ℕ) → j.states ≡ states_of xs d.rows → given_or 0 (states_given xs) ≤ most_job_states
  few_by [] e = zero-le
  few_by (n ∷ xs) e = omega (arith, m.few_states)

  asked : Ahead blank d.items goal
  asked =
      record {
        fit = s.items_fit;
        states_settle = one_states (given of_states d.items) s.once.states_once;
        start_settles = ahead (one j.start) refl s.starts refl;
        props_settle = one_props (given of_props d.items) s.once.props_once;
        marks_settle = ahead s.formula refl s.accepts (refl, s.means);
        marks_kept = tt;
        acc_name_once = omega (arith, s.once.acc_name_once);
        tool_once = omega (arith, s.once.tool_once);
        name_once = omega (arith, s.once.name_once);
      }

  taken : Taken blank d.items goal
  taken = ahead_takes d.items blank goal (agree_by (given of_states d.items) s.states) refl asked

  goal_few : GoalLimited goal
  goal_few =
      record {
        few_states = few_by (given of_states d.items) s.states;
        few_start = omega (arith, s.start_below, m.few_states);
        few_props = subst (λ (a : ℕ). a ≤ most_props) (props_are (given of_props d.items)) m.few_props;
        few_marks = m.few_marks;
        few_pairs = m.few_pairs;
      }

  abbrev the-rows : List Token
  the-rows = rows_text d.rows (end ∷ finish ∷ [])

  -- behind the items `--BODY--` is admitted
  body_done : (h : Head) (ts : List Token) → goal_of h ≡ goal → walk head_step (body ∷ ts) (items h) ≡ over h ts
  unfolding walk head_step piece_of
  body_done h ts e = rw (ap (λ (f : Goal). is_given f.start) e, ap (λ (f : Goal). is_given f.marks) e) refl

  -- the header is walked
  head_walk : walk head_step (doc_text d) opening ≡ over taken.last the-rows
  unfolding doc_text
  head_walk =
      version_walk d.version (items_text d.items (body ∷ the-rows)) s.version
      ∙ within (taken.limits goal_few) (items_walk blank taken.last d.items the-rows taken.takes)
      ∙ body_done taken.last the-rows taken.reached

  -- ---- the rows

  abbrev l : Limits
  l = limits_by goal

  below : (q : ℕ) → q < j.states → not_below q l.states ≡ false
  below q h = states_are (given of_states d.items) q s.states h

  six : l.props ≤ 6
  six = goal_few.few_props

  none_came : (qs : List ℕ) → Each (λ q. false ≡ false) qs
  none_came [] = each_none
  none_came (q ∷ qs) = each_more refl (none_came qs)

  rows_taken : RowsTaken l j.states six below (no_rows j.start) d.rows s.all
  rows_taken =
      rows_take l j.states six below (no_rows j.start) d.rows s.all (λ k h. below k (omega (arith, s.row_each))) (none_came (numbers_of d.rows)) s.rows_differ
      (subst (λ (a : ℕ). RowsSay j.states a s.formula.marks d.rows s.all) (props_are (given of_props d.items)) s.rows_say_lem)

  abbrev last : Rows
  last = rows_taken.last

  abbrev kept_by : Kept
  kept_by = record { states = length last.seen; edges = last.edges }

  many : length last.seen ≡ j.states
  many = omega (arith, rows_taken.many, s.row_each)

  ends_by : (xs : List ℕ) → j.states ≡ states_of xs d.rows → wrong_end (states_given xs) last ≡ false
  ends_by [] e = lt-leb (length last.seen) last.largest (omega (arith, many, rows_taken.small s.start_below))
  ends_by (n ∷ xs) e = le-ltb (length last.seen) n (omega (arith, many))

  end_done : walk (row_step l) (end ∷ finish ∷ []) (entries last) ≡ over kept_by []
  unfolding walk row_step entry_of on_closing
  end_done = rw (ends_by (given of_states d.items) s.states) refl

  rows_walked : walk (row_step l) the-rows (entries (no_rows j.start)) ≡ over kept_by []
  rows_walked =
      within
      (rows_taken.few m.few_states m.flat (omega (arith, m.few_edges)))
      (rows_walk l (no_rows j.start) last d.rows (finish ∷ []) rows_taken.takes)
      ∙ end_done

  edges_are : sorted (length last.seen) last.edges ≡ j.edges
  edges_are = (λ i. sorted (many i) (rows_taken.edges_are i)) ∙ sym s.edges

  job_is : job_by goal kept_by ≡ j
  job_is = λ i. record { states = many i; start = j.start; condition = j.condition; needs = j.needs; edges = edges_are i }

-- every text of the subset within the limits is read, as what it says
pub read_all : (text : List ℕ) (j : Job) → ReadAs text j → read_hoa text ≡ job j
unfolding read_hoa head_end
read_all text j r =
    let d = r.doc in
    let s = r.says in
    let m = r.limited in
    let t = taken d j s m in
    let f = goal d j s m in
    let first = walk_run head_step (tokens_at text 0) opening t.last (the-rows d j s m) (ap (λ (ts : List Token). walk head_step ts opening) r.tokens ∙ head_walk d j s m) in
    let second = walk_run (row_step (l d j s m)) first.left (entries (no_rows j.start)) (kept_by d j s m) []
    (ap (λ (ts : List Token). walk (row_step (l d j s m)) ts (entries (no_rows j.start))) first.tokens ∙ rows_walked d j s m) in
    ap head_says first.is
    ∙ says_by t.last f t.reached first.left (kept_by d j s m) second.left second.is
    ∙ ap job (job_is d j s m)
