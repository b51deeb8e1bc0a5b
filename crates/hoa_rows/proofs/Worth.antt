-- What rows that are read to their end keep is a table's worth: the machine's states all keep this promise (`worth`). Assumes nothing.
use Rattle.std.specs.Prelude.{Option, Some, None}
use mathlib.Core.Path.{◌≡◌, refl, ap}
use mathlib.Core.Bool.{true, false, false≢true, cond, ◌||◌}
use mathlib.Core.List.{List, [], ◌∷◌, ◌++◌}
use Prim.Native.Nat.{ℕ, zero, suc, ◌+◌, ◌^◌, ◌≤◌, ◌<◌, max}
use native.Mathlib.Omega.{arith}
use borrow.Author.Tests.{lt-ltb, eq-eqb, ne_eqb, eqb-true, eqb-false, ltb-true, ltb-false, leb-false}
use lib.Bits.{or_lt}
use lib.Dec.{eqb, ltb, leb}
use lib.ListN.{length, length-append}
use lib.Pow.{pow-lt, pow_pos}
use Rattle.marks.proofs.Cases.{either_false}
use Rattle.hoa_tokens.proofs.Sizes.{by_test}
use Rattle.job_text.specs.Value.{Edge}
use Rattle.job_text.specs.Job.{most_job_states, most_job_edges}
use Rattle.marks.specs.Mark.{union, width}
use Rattle.hoa_tokens.specs.declared.Header.{Header}
use Rattle.hoa_tokens.specs.declared.Header.TheVariants as header_is
use Rattle.hoa_tokens.specs.declared.Sign.{Sign}
use Rattle.hoa_tokens.specs.declared.Sign.TheVariants as sign_is
use Rattle.hoa_tokens.specs.Token.{Token, int, word, header, str, aname, sign, body, end, abort, finish, bad}
use Rattle.hoa_tokens.specs.Stream.{Placed, tokens_at}
use Rattle.hoa_step.specs.Given.{not_below}
use Rattle.hoa_step.specs.Machine.{End, go, done, wrong, done_at, wrong_at, cut, end_by, run, wants_int}
use Rattle.hoa_label.specs.Labels as label
use Rattle.hoa_label.specs.Labels.{label_begin, label_step, LabelStep}
use Rattle.hoa_entry.specs.declared.Limits.{Limits}
use Rattle.hoa_entry.specs.declared.Entry.{Entry}
use Rattle.hoa_entry.specs.declared.Entry.TheVariants as entry_is
use Rattle.hoa_entry.specs.Sig.{SigStep, alone, with_mark, sig_sign, sig_step}
use Rattle.hoa_entry.specs.Rows.{Rows, Kept, RowState, RowStep, no_rows, last_row, with_row, with_sig, kept, with_edge}
use Rattle.hoa_entry.specs.Rows.{came, entries, row_number, row_name, row_sig, row_marks, in_label, target, target_more, edge_marks, closing}
use Rattle.hoa_entry.specs.Rows.{full_rows, wrong_end, behind_row, on_entry, on_number, labelled, on_sig, on_name, on_row_marks}
use Rattle.hoa_entry.specs.Rows.{shut_label, on_label, on_target, on_more, on_edge_marks, closing_header, on_closing, entry_of, row_step}
use Rattle.hoa_rows.specs.Lent.{rows_end}
use Rattle.hoa_rows.specs.Worth.{AllFit, Agrees, Worth}

-- ---- how many rows there can be

-- how many of the numbers below n a row has
unfoldable pub tally : ℕ → List ℕ → ℕ
tally zero seen = 0
tally (suc n) seen = tally n seen + cond (came n seen) 1 0

tally_le : (n : ℕ) (seen : List ℕ) → tally n seen ≤ n
unfolding tally
tally_le zero seen = omega arith
tally_le (suc n) seen = by_test (came n seen) (λ t. rw t (omega (arith, tally_le n seen))) (λ t. rw t (omega (arith, tally_le n seen)))

tally_same : (n q : ℕ) (seen : List ℕ) → n ≤ q → tally n (q ∷ seen) ≡ tally n seen
unfolding tally
tally_same zero q seen l = refl
tally_same (suc n) q seen l =
    rw (ne_eqb n q (λ (e : n ≡ q). omega arith)) (ap (λ (k : ℕ). k + cond (came n seen) 1 0) (tally_same n q seen (omega arith)))

tally_more : (n q : ℕ) (seen : List ℕ) → came q seen ≡ false → q < n → tally n (q ∷ seen) ≡ suc (tally n seen)
unfolding tally
tally_more zero q seen c l = absurd (omega arith)
tally_more (suc n) q seen c l =
    by_test (eqb n q)
    (λ t. let e : n ≡ q = eqb-true n q t in rw (e, eq-eqb q q refl, c) (omega (arith, tally_same q q seen (omega arith))))
    (λ t. rw t (omega (arith, tally_more n q seen c (omega (arith, eqb-false n q t)))))

tally_none : (n : ℕ) → 0 ≡ tally n []
unfolding tally
tally_none zero = refl
tally_none (suc n) = omega (arith, tally_none n)

-- ---- what holds of the rows so far

pub record EdgeGood (l : Limits) (seen : List ℕ) (largest : ℕ) (e : Edge) : Type 0 where
  pub from_seen : came e.from seen ≡ true
  pub to_below : not_below e.to l.states ≡ false
  pub to_least : e.to ≤ largest
  pub few_marks : e.marks < 2 ^ l.marks

abbrev AllGood : Limits → List ℕ → ℕ → List Edge → Type 0
AllGood l seen largest [] = Unit
AllGood l seen largest (e ∷ es) = EdgeGood l seen largest e × AllGood l seen largest es

abbrev Few : Option ℕ → ℕ → Type 0
Few None k = Unit
Few (Some n) k = k ≤ n

pub record Good (l : Limits) (b : Rows) : Type 0 where
  pub small : (q : ℕ) → came q b.seen ≡ true → q < most_job_states
  pub below : (q : ℕ) → came q b.seen ≡ true → not_below q l.states ≡ false
  pub least : (q : ℕ) → came q b.seen ≡ true → q ≤ b.largest
  pub start : l.start ≤ b.largest
  pub counted : length b.seen ≡ tally most_job_states b.seen
  pub few : Few l.states (length b.seen)
  pub sig : b.sig < 2 ^ l.marks
  pub edges : AllGood l b.seen b.largest b.edges
  pub room : length b.edges ≤ most_job_edges

abbrev GoodState : Limits → RowState → Type 0
GoodState l (entries b) = Good l b
GoodState l (row_number b) = Good l b × (not_below (length b.seen) l.states ≡ false)
GoodState l (row_name b) = Good l b
GoodState l (row_sig b) = Good l b
GoodState l (row_marks m b) = Good l b × (m < 2 ^ l.marks)
GoodState l (in_label s b) = Good l b × (came (last_row b.seen) b.seen ≡ true)
GoodState l (target x b) = Good l b × (came (last_row b.seen) b.seen ≡ true) × (0 < x → length b.edges < most_job_edges)
GoodState l (target_more x to b) =
    Good l b × (came (last_row b.seen) b.seen ≡ true) × (0 < x → length b.edges < most_job_edges) × (not_below to l.states ≡ false)
GoodState l (edge_marks m x to b) =
    Good l b × (came (last_row b.seen) b.seen ≡ true) × (0 < x → length b.edges < most_job_edges) × (not_below to l.states ≡ false) × (m < 2 ^ l.marks)
GoodState l (closing b) = Good l b × (wrong_end l.states b ≡ false)

abbrev StepGood : Limits → RowStep → Type 0
StepGood l (go s) = GoodState l s
StepGood l (done k) = Worth l k
StepGood l (wrong n) = Unit

-- ---- a row more

came_more : (x q : ℕ) (seen : List ℕ) → came x seen ≡ true → came x (q ∷ seen) ≡ true
came_more x q seen e = by_test (eqb x q) (λ t. rw t) (λ t. rw (t, e))

-- a property of the new row and of those before
came_each : (P : ℕ → Type 0) (q : ℕ) (seen : List ℕ) → P q → ((x : ℕ) → came x seen ≡ true → P x) → (x : ℕ) → came x (q ∷ seen) ≡ true → P x
came_each P q seen p h x e = by_test (eqb x q) (λ t. rw (eqb-true x q t) p) (λ t. h x (rw t at e))

all_more : (l : Limits) (q : ℕ) (seen : List ℕ) (m n : ℕ) (es : List Edge) → m ≤ n → AllGood l seen m es → AllGood l (q ∷ seen) n es
all_more l q seen m n [] o h = tt
all_more l q seen m n (e ∷ es) o h = (
  record {
    from_seen = came_more e.from q seen h.0.from_seen;
    to_below = h.0.to_below;
    to_least = omega (arith, h.0.to_least);
    few_marks = h.0.few_marks;
  },
  all_more l q seen m n es o h.1,
)

all_larger : (l : Limits) (seen : List ℕ) (m n : ℕ) (es : List Edge) → m ≤ n → AllGood l seen m es → AllGood l seen n es
all_larger l seen m n [] o h = tt
all_larger l seen m n (e ∷ es) o h = (
  record {
    from_seen = h.0.from_seen;
    to_below = h.0.to_below;
    to_least = omega (arith, h.0.to_least);
    few_marks = h.0.few_marks;
  },
  all_larger l seen m n es o h.1,
)

all_append : (l : Limits) (seen : List ℕ) (m : ℕ) (es fs : List Edge) → AllGood l seen m es → AllGood l seen m fs → AllGood l seen m (es ++ fs)
all_append l seen m [] fs h k = k
all_append l seen m (e ∷ es) fs h k = (h.0, all_append l seen m es fs h.1 k)

few_more : (g : Option ℕ) (k : ℕ) → not_below k g ≡ false → Few g (suc k)
few_more None k h = tt
few_more (Some n) k h = omega (arith, leb-false n k h)

power_some : (k : ℕ) → 0 < 2 ^ k
power_some k = pow_pos k

module _ (l : Limits) (b : Rows) (g : Good l b) where
  good_row : (q : ℕ) → not_below (length b.seen) l.states ≡ false → not_below q l.states ≡ false → came q b.seen ≡ false → q < most_job_states
      → Good l (with_row q b)
  good_row q f n c s =
      record {
        small = came_each (λ x. x < most_job_states) q b.seen s g.small;
        below = came_each (λ x. not_below x l.states ≡ false) q b.seen n g.below;
        least = came_each (λ x. x ≤ max b.largest q) q b.seen (omega arith) (λ x e. omega (arith, g.least x e));
        start = omega (arith, g.start);
        counted = omega (arith, g.counted, tally_more most_job_states q b.seen c s);
        few = few_more l.states (length b.seen) f;
        sig = power_some l.marks;
        edges = all_more l q b.seen b.largest (max b.largest q) b.edges (omega arith) g.edges;
        room = g.room;
      }

  good_sig : (m : ℕ) → m < 2 ^ l.marks → Good l (with_sig m b)
  good_sig m s =
      record {
        small = g.small;
        below = g.below;
        least = g.least;
        start = g.start;
        counted = g.counted;
        few = g.few;
        sig = s;
        edges = g.edges;
        room = g.room;
      }

  good_edge : (x to m : ℕ) → came (last_row b.seen) b.seen ≡ true → (0 < x → length b.edges < most_job_edges) → not_below to l.states ≡ false
      → m < 2 ^ l.marks → Good l (with_edge x to m b)
  good_edge x to m some room n s =
      record {
        small = g.small;
        below = g.below;
        least = λ q e. omega (arith, g.least q e);
        start = omega (arith, g.start);
        counted = g.counted;
        few = g.few;
        sig = g.sig;
        edges = all_append l b.seen (max b.largest to) b.edges _ (all_larger l b.seen b.largest (max b.largest to) b.edges (omega arith) g.edges) (new x);
        room = rw length-append (fits x room);
      }
    where
      new : (y : ℕ) → AllGood l b.seen (max b.largest to) (kept y (last_row b.seen) to m)
      new zero = tt
      new (suc y) = (record { from_seen = some; to_below = n; to_least = omega arith; few_marks = s }, tt)

      fits : (y : ℕ) → (0 < y → length b.edges < most_job_edges) → length b.edges + length (kept y (last_row b.seen) to m) ≤ most_job_edges
      fits zero r = omega (arith, g.room)
      fits (suc y) r = omega (arith, r (omega arith))

  -- ---- where an entry may begin

  behind_good : (qs : List ℕ) → b.seen ≡ qs → StepGood l (behind_row qs (go (in_label label_begin b)))
  behind_good [] e = tt
  behind_good (q ∷ qs) e = (g, rw (e, eq-eqb q q refl))

  bare_good : (qs : List ℕ) → StepGood l (behind_row qs (wrong 41))
  bare_good [] = tt
  bare_good (q ∷ qs) = tt

  entry_good : (e : Entry) → StepGood l (on_entry l b e)
  entry_good entry_is.Row = by_test (full_rows l b) (λ t. rw t tt) (λ t. rw t (g, t))
  entry_good entry_is.Edge = behind_good b.seen refl
  entry_good entry_is.Bare = bare_good b.seen
  entry_good entry_is.Close = by_test (wrong_end l.states b) (λ t. rw t tt) (λ t. rw t (g, t))
  entry_good entry_is.Sig = tt
  entry_good entry_is.Text = tt
  entry_good entry_is.Join = tt
  entry_good (entry_is.Wrong n) = tt

  number_good : not_below (length b.seen) l.states ≡ false → (q : ℕ) → StepGood l (on_number l b q)
  number_good f q =
      by_test (not_below q l.states || came q b.seen) (λ t. rw t tt)
      (λ t.
      by_test (leb most_job_states q) (λ u. rw (t, u) tt)
      (λ u. let w = either_false (not_below q l.states) (came q b.seen) t in rw (t, u) (good_row q f w.0 w.1 (leb-false most_job_states q u))))

  sig_good : (e : Entry) → StepGood l (on_sig l b e)
  sig_good entry_is.Sig = (g, power_some l.marks)
  sig_good entry_is.Row = entry_good entry_is.Row
  sig_good entry_is.Edge = entry_good entry_is.Edge
  sig_good entry_is.Bare = entry_good entry_is.Bare
  sig_good entry_is.Close = entry_good entry_is.Close
  sig_good entry_is.Text = tt
  sig_good entry_is.Join = tt
  sig_good (entry_is.Wrong n) = tt

  name_good : (e : Entry) → StepGood l (on_name l b e)
  name_good entry_is.Text = g
  name_good entry_is.Row = entry_good entry_is.Row
  name_good entry_is.Edge = entry_good entry_is.Edge
  name_good entry_is.Bare = entry_good entry_is.Bare
  name_good entry_is.Close = entry_good entry_is.Close
  name_good entry_is.Sig = sig_good entry_is.Sig
  name_good entry_is.Join = tt
  name_good (entry_is.Wrong n) = tt

labelled_good : (l : Limits) (e : Entry) (s : RowStep) → StepGood l s → StepGood l (labelled e s)
labelled_good l entry_is.Edge s h = tt
labelled_good l entry_is.Row s h = h
labelled_good l entry_is.Bare s h = h
labelled_good l entry_is.Close s h = h
labelled_good l entry_is.Sig s h = h
labelled_good l entry_is.Text s h = h
labelled_good l entry_is.Join s h = h
labelled_good l (entry_is.Wrong n) s h = h

wants_good : (l : Limits) (f : ℕ → RowStep) → ((i : ℕ) → StepGood l (f i)) → (t : Token) → StepGood l (wants_int f t)
unfolding wants_int
wants_good l f h (int i) = h i
wants_good l f h (word w) = tt
wants_good l f h (header x) = tt
wants_good l f h (str bs) = tt
wants_good l f h aname = tt
wants_good l f h (sign s) = tt
wants_good l f h body = tt
wants_good l f h end = tt
wants_good l f h abort = tt
wants_good l f h finish = tt
wants_good l f h bad = tt

-- ---- sigs

abbrev SigGood : ℕ → SigStep → Type 0
SigGood c (go m) = m < 2 ^ c
SigGood c (done m) = m < 2 ^ c
SigGood c (wrong n) = Unit

with_mark_few : (c m i : ℕ) → m < 2 ^ c → i < c → with_mark m i < 2 ^ c
unfolding union alone
with_mark_few c m i s l =
    or_lt c m (cond (ltb i width) (2 ^ i) 0) s (by_test (ltb i width) (λ t. rw t (pow-lt l)) (λ t. rw t (power_some c)))

sign_few : (c m : ℕ) → m < 2 ^ c → (s : Sign) → SigGood c (sig_sign m s)
sign_few c m h sign_is.BraceRight = h
sign_few c m h sign_is.ParenLeft = tt
sign_few c m h sign_is.ParenRight = tt
sign_few c m h sign_is.BracketLeft = tt
sign_few c m h sign_is.BracketRight = tt
sign_few c m h sign_is.BraceLeft = tt
sign_few c m h sign_is.And = tt
sign_few c m h sign_is.Or = tt
sign_few c m h sign_is.Not = tt

sig_few : (c m : ℕ) → m < 2 ^ c → (t : Token) → SigGood c (sig_step c m t)
unfolding sig_step
sig_few c m h (int i) = by_test (ltb i c) (λ t. rw t (with_mark_few c m i h (ltb-true i c t))) (λ t. rw t tt)
sig_few c m h (sign s) = sign_few c m h s
sig_few c m h (word w) = tt
sig_few c m h (header x) = tt
sig_few c m h (str bs) = tt
sig_few c m h aname = tt
sig_few c m h body = tt
sig_few c m h end = tt
sig_few c m h abort = tt
sig_few c m h finish = tt
sig_few c m h bad = tt

-- ---- each state

more_good : (l : Limits) (x to : ℕ) (b : Rows) → GoodState l (target_more x to b) → (e : Entry) → StepGood l (on_more l x to b e)
more_good l x to b h entry_is.Join = tt
more_good l x to b h entry_is.Sig = (h.0, h.1, h.2, h.3, h.0.sig)
more_good l x to b h entry_is.Row = entry_good l (with_edge x to b.sig b) (good_edge l b h.0 x to b.sig h.1 h.2 h.3 h.0.sig) entry_is.Row
more_good l x to b h entry_is.Edge = entry_good l (with_edge x to b.sig b) (good_edge l b h.0 x to b.sig h.1 h.2 h.3 h.0.sig) entry_is.Edge
more_good l x to b h entry_is.Bare = entry_good l (with_edge x to b.sig b) (good_edge l b h.0 x to b.sig h.1 h.2 h.3 h.0.sig) entry_is.Bare
more_good l x to b h entry_is.Close = entry_good l (with_edge x to b.sig b) (good_edge l b h.0 x to b.sig h.1 h.2 h.3 h.0.sig) entry_is.Close
more_good l x to b h entry_is.Text = tt
more_good l x to b h (entry_is.Wrong n) = tt

row_marks_good : (l : Limits) (b : Rows) → Good l b → (s : SigStep) → SigGood l.marks s → StepGood l (on_row_marks b s)
row_marks_good l b g (go m) h = (g, h)
row_marks_good l b g (done m) h = good_sig l b g m h
row_marks_good l b g (wrong n) h = tt

edge_marks_good : (l : Limits) (x to : ℕ) (b : Rows) → GoodState l (target_more x to b) → (s : SigStep) → SigGood l.marks s → StepGood l (on_edge_marks x to b s)
edge_marks_good l x to b g (go m) h = (g.0, g.1, g.2, g.3, h)
edge_marks_good l x to b g (done m) h = good_edge l b g.0 x to m g.1 g.2 g.3 h
edge_marks_good l x to b g (wrong n) h = tt

shut_good : (l : Limits) (b : Rows) → Good l b → came (last_row b.seen) b.seen ≡ true → (x : ℕ) → StepGood l (shut_label x b)
shut_good l b g s zero = (g, s, λ o. absurd (omega arith))
shut_good l b g s (suc x) =
    by_test (leb most_job_edges (length b.edges)) (λ t. rw (lt-ltb 0 (suc x) (omega arith), t) tt)
    (λ t. rw (lt-ltb 0 (suc x) (omega arith), t) (g, s, λ o. leb-false most_job_edges (length b.edges) t))

label_good : (l : Limits) (b : Rows) → Good l b → came (last_row b.seen) b.seen ≡ true → (s : LabelStep) → StepGood l (on_label b s)
label_good l b g s (label.go t) = (g, s)
label_good l b g s (label.shut x) = shut_good l b g s x
label_good l b g s (label.wrong n) = tt

target_good : (l : Limits) (x : ℕ) (b : Rows) → GoodState l (target x b) → (to : ℕ) → StepGood l (on_target l x b to)
target_good l x b h to =
    by_test (not_below to l.states) (λ t. rw t tt)
    (λ t. by_test (leb most_job_states to) (λ u. rw (t, u) tt) (λ u. rw (t, u) (h.0, h.1, h.2, t)))

-- ---- the end

-- a number that is no larger than the largest, and below n if it was given, is below the number of rows
below_states : (g : Option ℕ) (b : Rows) (n : ℕ) → wrong_end g b ≡ false → Few g (length b.seen) → not_below n g ≡ false → n ≤ b.largest → n < length b.seen
below_states None b n w f x o = omega (arith, leb-false (length b.seen) b.largest w)
below_states (Some k) b n w f x o = omega (arith, leb-false k n x, ltb-false (length b.seen) k w)

agrees_good : (g : Option ℕ) (start : ℕ) (b : Rows) → wrong_end g b ≡ false → Few g (length b.seen) → start ≤ b.largest → Agrees g start (length b.seen)
agrees_good None start b w f o = omega (arith, leb-false (length b.seen) b.largest w)
agrees_good (Some n) start b w f o = omega (arith, ltb-false (length b.seen) n w)

module _ (l : Limits) (b : Rows) (g : Good l b) (w : wrong_end l.states b ≡ false) where
  edges_fit : (es : List Edge) → AllGood l b.seen b.largest es → AllFit (length b.seen) l.marks es
  edges_fit [] h = tt
  edges_fit (e ∷ es) h = (
    record {
      leaves = below_states l.states b e.from w g.few (g.below e.from h.0.from_seen) (g.least e.from h.0.from_seen);
      arrives = below_states l.states b e.to w g.few h.0.to_below h.0.to_least;
      bears = h.0.few_marks;
    },
    edges_fit es h.1,
  )

  closed_worth : Worth l (record { states = length b.seen; edges = b.edges })
  closed_worth =
      record {
        few = omega (arith, g.counted, tally_le most_job_states b.seen);
        agrees = agrees_good l.states l.start b w g.few g.start;
        fitting = edges_fit b.edges g.edges;
        room = g.room;
      }

header_good : (l : Limits) (h : Header) → StepGood l (closing_header h)
header_good l header_is.Hoa = tt
header_good l header_is.States = tt
header_good l header_is.Start = tt
header_good l header_is.Ap = tt
header_good l header_is.Alias = tt
header_good l header_is.Acceptance = tt
header_good l header_is.AccName = tt
header_good l header_is.Tool = tt
header_good l header_is.Name = tt
header_good l header_is.Properties = tt
header_good l header_is.State = tt
header_good l header_is.Capital = tt
header_good l header_is.Lower = tt

closing_good : (l : Limits) (b : Rows) → GoodState l (closing b) → (t : Token) → StepGood l (on_closing b t)
unfolding on_closing
closing_good l b h finish = closed_worth l b h.0 h.1
closing_good l b h (header x) = header_good l x
closing_good l b h (int i) = tt
closing_good l b h (word w) = tt
closing_good l b h (str bs) = tt
closing_good l b h aname = tt
closing_good l b h (sign s) = tt
closing_good l b h body = tt
closing_good l b h end = tt
closing_good l b h abort = tt
closing_good l b h bad = tt

step_good : (l : Limits) (s : RowState) → GoodState l s → (t : Token) → StepGood l (row_step l s t)
unfolding row_step
step_good l (entries b) g t = entry_good l b g (entry_of t)
step_good l (row_number b) g t = labelled_good l (entry_of t) (wants_int (on_number l b) t) (wants_good l (on_number l b) (number_good l b g.0 g.1) t)
step_good l (row_name b) g t = name_good l b g (entry_of t)
step_good l (row_sig b) g t = sig_good l b g (entry_of t)
step_good l (row_marks m b) g t = row_marks_good l b g.0 (sig_step l.marks m t) (sig_few l.marks m g.1 t)
step_good l (in_label s b) g t = label_good l b g.0 g.1 (label_step l.props s t)
step_good l (target x b) g t = wants_good l (on_target l x b) (target_good l x b g) t
step_good l (target_more x to b) g t = more_good l x to b g (entry_of t)
step_good l (edge_marks m x to b) g t = edge_marks_good l x to b (g.0, g.1, g.2, g.3) (sig_step l.marks m t) (sig_few l.marks m g.4 t)
step_good l (closing b) g t = closing_good l b g t

abbrev EndGood : Limits → End Kept → Type 0
EndGood l (done_at k ps) = Worth l k
EndGood l (wrong_at n p) = Unit
EndGood l cut = Unit

run_good : (l : Limits) (ps : List Placed) (s : RowState) → GoodState l s → EndGood l (run (row_step l) ps s)
unfolding run
run_good l [] s g = tt
run_good l (p ∷ ps) s g = by (row_step l s p.token) (step_good l s g p.token) (run_good l ps)
  where
    by : (d : RowStep) → StepGood l d → ((u : RowState) → GoodState l u → EndGood l (run (row_step l) ps u))
        → EndGood l (end_by d p.place ps (λ u. run (row_step l) ps u))
    by (go u) h later = later u h
    by (done k) h later = h
    by (wrong n) h later = tt

none_good : (l : Limits) → Good l (no_rows l.start)
none_good l =
    record {
      small = λ q e. absurd (false≢true e);
      below = λ q e. absurd (false≢true e);
      least = λ q e. absurd (false≢true e);
      start = omega arith;
      counted = tally_none most_job_states;
      few = few_none l.states;
      sig = power_some l.marks;
      edges = tt;
      room = omega arith;
    }
  where
    few_none : (g : Option ℕ) → Few g 0
    few_none None = tt
    few_none (Some n) = omega arith

-- what is read is a table's worth, whatever tokens it is read from
pub worth_of : (l : Limits) (ps : List Placed) (k : Kept) (qs : List Placed) → run (row_step l) ps (entries (no_rows l.start)) ≡ done_at k qs → Worth l k
worth_of l ps k qs e = rw e at (run_good l ps (entries (no_rows l.start)) (none_good l))

-- .. behind `--BODY--` at a place of a text
pub worth : (l : Limits) (text : List ℕ) (at : ℕ) (k : Kept) (ps : List Placed) → rows_end l text at ≡ done_at k ps → Worth l k
unfolding rows_end
worth l text at k ps e = worth_of l (tokens_at text at) k ps e
