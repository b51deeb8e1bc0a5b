-- What the functions that read a sig, a row and an edge find makes a stretch of the machine. Assumes nothing.
use mathlib.Core.Path.{◌≡◌, refl, sym, ap, ◌∙◌}
use mathlib.Core.Bool.{Bool, true, false, false≢true}
use mathlib.Core.List.{List, [], ◌∷◌}
use mathlib.Core.Option.{some}
use Prim.Native.Nat.{ℕ, zero, suc, ◌-◌, ◌≤◌, ◌<◌}
use native.Mathlib.Omega.{arith}
use borrow.Author.Tests.{lt-ltb, le-leb, lt-leb}
use lib.ListN.{length, get_or}
use Rattle.hoa_step.proofs.Runs.{wants_int_lem}
use Rattle.std.specs.Prelude.{Option, Result, Ok, Err}
use Rattle.job_text.specs.Job.{most_job_states, most_job_edges}
use Rattle.hoa_tokens.specs.declared.Kind.{Kind}
use Rattle.hoa_tokens.specs.declared.Kind.TheVariants as kind_is
use Rattle.hoa_tokens.specs.declared.Found.{Found}
use Rattle.hoa_tokens.specs.declared.BadToken.{BadToken}
use Rattle.hoa_tokens.specs.Token.{Token, int, finish}
use Rattle.hoa_tokens.specs.Stream.{Placed, tokens_at, token_of, TokenAt, bad_at}
use Rattle.hoa_tokens.proofs.Next.{tokens_next}
use Rattle.hoa_step.specs.declared.IntAt.{IntAt}
use Rattle.hoa_step.specs.Given.{not_below}
use Rattle.hoa_step.specs.Machine.{Step, go, done, wrong, run, wants_int}
use Rattle.hoa_step.specs.Wanted.{Next, int_fault, Faulty, IntReads}
use Rattle.hoa_label.specs.declared.LabelRead.{LabelRead}
use Rattle.hoa_label.specs.Labels as label
use Rattle.hoa_label.specs.Labels.{label_begin, label_run, label_next}
use Rattle.hoa_label.specs.Reading.{LabelAt}
use Rattle.hoa_entry.specs.declared.Limits.{Limits}
use Rattle.hoa_entry.specs.declared.Entry.{Entry}
use Rattle.hoa_entry.specs.declared.Entry.TheVariants as entry_is
use Rattle.hoa_entry.specs.declared.token.EntryAt.{EntryAt}
use Rattle.hoa_entry.specs.declared.sig.SigTurn.{SigTurn}
use Rattle.hoa_entry.specs.declared.sig.SigTurn.TheVariants as sig_turn
use Rattle.hoa_entry.specs.declared.sig.SigRead.{SigRead}
use Rattle.hoa_entry.specs.declared.row.NumberRead.{NumberRead}
use Rattle.hoa_entry.specs.declared.edge.TargetRead.{TargetRead}
use Rattle.hoa_entry.specs.declared.edge.EdgeRead.{EdgeRead}
use Rattle.hoa_entry.specs.Sig.{sig_step}
use Rattle.hoa_entry.specs.Rows as spec
use Rattle.hoa_entry.specs.Rows.{Rows, RowStep, entries, row_number, row_name, row_sig, row_marks, in_label, target, target_more, edge_marks, with_row, with_sig, with_edge}
use Rattle.hoa_entry.specs.Rows.{came, labelled, on_name, on_sig, on_more, on_entry, entry_of, row_step}
use Rattle.hoa_entry.specs.inner.Reads.{Listed, from, Onward, Behind, EntryHere, sig_step_of, sig_end, SigOnward, SigAt, SigStays, LabelledAt, NumberAt, NameAt}
use Rattle.hoa_entry.specs.inner.Reads.{row_sig_end, RowSigAt, RowAt, TargetAt, edge_sig_end, EdgeSigAt, ToOnward, ToAt, EdgeOnward, EdgeAt}
use Rattle.hoa_entry.proofs.Signs.{signs_take}
use Rattle.hoa_entry.proofs.Steps.{moved, step_goes, step_ends, step_faults, step_same, after_sig, row_sig_lem, edge_sig, after_label, in_label_lem}

-- ---- a sig, token by token

-- the tokens from `at` on, behind the marks `before`, lead to those from `place` on, behind `marks`
pub record SigSoFar (text : List ℕ) (at c before place marks : ℕ) : Type 0 where
  pub is : run (sig_step c) (tokens_at text at) before ≡ run (sig_step c) (tokens_at text place) marks
  pub behind : at ≤ place

abbrev pub SigTells : ℕ → ℕ → Kind → SigTurn → Type 0
SigTells c m k r = (text : List ℕ) (p q : ℕ) → sig_step_of r ≡ sig_step c m (token_of text p q k)

abbrev is_wrong : Step ℕ ℕ → Bool
is_wrong (go m) = false
is_wrong (done m) = false
is_wrong (wrong n) = true

not_finish : (c m : ℕ) (text : List ℕ) (p q : ℕ) (k : Kind) → is_wrong (sig_step c m (token_of text p q k)) ≡ false → k ≡ kind_is.Finish → ⊥
unfolding sig_step
not_finish c m text p q k n e = false≢true (sym (rw e at n))

-- a step further
pub record SigGoes (text : List ℕ) (at c before place next marks : ℕ) : Type 0 where
  pub so_far : SigSoFar text at c before next marks
  pub onward : Onward text place next

module _ (text : List ℕ) (at c before place marks : ℕ) (h : SigSoFar text at c before place marks)
    (f : Found) (t : TokenAt text place f) (r : SigTurn) (d : SigTells c marks f.kind r) where
  pub sig_goes : (m : ℕ) → r ≡ sig_turn.Go m → SigGoes text at c before place f.next m
  sig_goes m e =
      let s : sig_step c marks (token_of text f.first f.next f.kind) ≡ go m = sym (d text f.first f.next) ∙ rw e in
      let n = moved text place f t (not_finish c marks text f.first f.next f.kind (rw s)) in
      record {
        so_far = record { is = h.is ∙ step_goes (sig_step c) marks n.is m s; behind = omega (arith, h.behind, n.behind_at, n.takes) };
        onward = record { behind = omega (arith, n.behind_at, n.takes); within = n.within };
      }

  pub sig_shuts : (m : ℕ) → r ≡ sig_turn.Shut m → SigAt text at c before (Ok (record { marks = m; next = f.next }))
  sig_shuts m e =
      let s : sig_step c marks (token_of text f.first f.next f.kind) ≡ done m = sym (d text f.first f.next) ∙ rw e in
      let n = moved text place f t (not_finish c marks text f.first f.next f.kind (rw s)) in
      record {
        is = h.is ∙ step_ends (sig_step c) marks n.is m s;
        onward = record { behind = omega (arith, h.behind, n.behind_at, n.takes); within = n.within };
      }

  pub sig_faults : (x : ℕ) → r ≡ sig_turn.Wrong x → SigAt text at c before (bad_at x f.first)
  sig_faults x e =
      let s : sig_step c marks (token_of text f.first f.next f.kind) ≡ wrong x = sym (d text f.first f.next) ∙ rw e in
      record { is = h.is ∙ step_faults (sig_step c) marks (tokens_next text place f t) x s; onward = tt }

-- ---- an INT

pub int_there : {text : List ℕ} {at : ℕ} {r : Result IntAt BadToken} {i : IntAt} → r ≡ Ok i → IntReads text at r → Next text at i.place i.next (int i.value)
int_there e h = rw e at h

pub int_missing : {text : List ℕ} {at : ℕ} {r : Result IntAt BadToken} {e : BadToken} → r ≡ Err e → IntReads text at r → Faulty text at int_fault e.number e.place
int_missing e h = rw e at h

-- ---- the entries that a `match` leaves

labelled_other : (e : Entry) (s : RowStep) → (e ≡ entry_is.Edge → ⊥) → labelled e s ≡ s
labelled_other entry_is.Edge s o = absurd (o refl)
labelled_other entry_is.Row s o = refl
labelled_other entry_is.Bare s o = refl
labelled_other entry_is.Close s o = refl
labelled_other entry_is.Sig s o = refl
labelled_other entry_is.Text s o = refl
labelled_other entry_is.Join s o = refl
labelled_other (entry_is.Wrong n) s o = refl

name_other : (l : Limits) (b : Rows) (e : Entry) → (e ≡ entry_is.Text → ⊥) → on_name l b e ≡ on_sig l b e
name_other l b entry_is.Text o = absurd (o refl)
name_other l b entry_is.Edge o = refl
name_other l b entry_is.Row o = refl
name_other l b entry_is.Bare o = refl
name_other l b entry_is.Close o = refl
name_other l b entry_is.Sig o = refl
name_other l b entry_is.Join o = refl
name_other l b (entry_is.Wrong n) o = refl

sig_other : (l : Limits) (b : Rows) (e : Entry) → (e ≡ entry_is.Sig → ⊥) → on_sig l b e ≡ on_entry l b e
sig_other l b entry_is.Sig o = absurd (o refl)
sig_other l b entry_is.Text o = refl
sig_other l b entry_is.Edge o = refl
sig_other l b entry_is.Row o = refl
sig_other l b entry_is.Bare o = refl
sig_other l b entry_is.Close o = refl
sig_other l b entry_is.Join o = refl
sig_other l b (entry_is.Wrong n) o = refl

more_other : (l : Limits) (x to : ℕ) (b : Rows) (e : Entry) → (e ≡ entry_is.Sig → ⊥) → (e ≡ entry_is.Join → ⊥)
    → on_more l x to b e ≡ on_entry l (with_edge x to b.sig b) e
more_other l x to b entry_is.Sig o j = absurd (o refl)
more_other l x to b entry_is.Join o j = absurd (j refl)
more_other l x to b entry_is.Text o j = refl
more_other l x to b entry_is.Edge o j = refl
more_other l x to b entry_is.Row o j = refl
more_other l x to b entry_is.Bare o j = refl
more_other l x to b entry_is.Close o j = refl
more_other l x to b (entry_is.Wrong n) o j = refl

-- ---- the machine's step at an entry

module _ (l : Limits) (b : Rows) (t : Token) where
  number_on_label : entry_of t ≡ entry_is.Edge → row_step l (row_number b) t ≡ wrong 41
  unfolding row_step
  number_on_label q = rw q

  number_on_other : (e : Entry) (n : ℕ) → (e ≡ entry_is.Edge → ⊥) → entry_of t ≡ e → int_fault t ≡ some n
      → row_step l (row_number b) t ≡ wrong n
  unfolding row_step
  number_on_other e n o q w = rw q (labelled_other e (wants_int (spec.on_number l b) t) o ∙ wants_int_lem (spec.on_number l b) t n w)

  name_on_text : entry_of t ≡ entry_is.Text → row_step l (row_name b) t ≡ go (row_sig b)
  unfolding row_step
  name_on_text q = rw q

  name_on_other : (e : Entry) → (e ≡ entry_is.Text → ⊥) → entry_of t ≡ e → row_step l (row_name b) t ≡ row_step l (row_sig b) t
  unfolding row_step
  name_on_other e o q = rw q (name_other l b e o)

  sig_on_sig : entry_of t ≡ entry_is.Sig → row_step l (row_sig b) t ≡ go (row_marks 0 b)
  unfolding row_step
  sig_on_sig q = rw q

  sig_on_other : (e : Entry) → (e ≡ entry_is.Sig → ⊥) → entry_of t ≡ e → row_step l (row_sig b) t ≡ row_step l (entries b) t
  unfolding row_step
  sig_on_other e o q = rw q (sig_other l b e o)

  more_on_join : (x to : ℕ) → entry_of t ≡ entry_is.Join → row_step l (target_more x to b) t ≡ wrong 41
  unfolding row_step
  more_on_join x to q = rw q

  more_on_sig : (x to : ℕ) → entry_of t ≡ entry_is.Sig → row_step l (target_more x to b) t ≡ go (edge_marks b.sig x to b)
  unfolding row_step
  more_on_sig x to q = rw q

  more_on_other : (x to : ℕ) (e : Entry) → (e ≡ entry_is.Sig → ⊥) → (e ≡ entry_is.Join → ⊥) → entry_of t ≡ e
      → row_step l (target_more x to b) t ≡ row_step l (entries (with_edge x to b.sig b)) t
  unfolding row_step
  more_on_other x to e o j q = rw q (more_other l x to b e o j)

  target_on_other : (x n : ℕ) → int_fault t ≡ some n → row_step l (target x b) t ≡ wrong n
  unfolding row_step
  target_on_other x n w = wants_int_lem (spec.on_target l x b) t n w

-- ---- a row's number

abbrev head_token : List Placed → Token
head_token [] = finish
head_token (p ∷ ps) = p.token

module _ (text : List ℕ) (at : ℕ) (here : EntryAt) (h : EntryHere text at here) where
  faulty_entry : {n p : ℕ} (f : Faulty text at int_fault n p) → entry_of f.token ≡ here.entry
  faulty_entry f = ap (λ (ps : List Placed). entry_of (head_token ps)) (sym f.is ∙ h.is) ∙ h.entry

  pub number_label : (n : ℕ) → here.entry ≡ entry_is.Edge → LabelledAt text at n 41
  number_label n e = record { is = λ l b place f. step_faults (row_step l) (row_number b) f.is 41 (number_on_label l b f.token (faulty_entry f ∙ e)) }

  pub number_missing : (n : ℕ) → (here.entry ≡ entry_is.Edge → ⊥) → LabelledAt text at n n
  number_missing n o =
      record { is = λ l b place f. step_faults (row_step l) (row_number b) f.is n (number_on_other l b f.token here.entry n o (faulty_entry f) f.faulty) }

module _ (states : Option ℕ) (text : List ℕ) (at : ℕ) (firsts : List ℕ) where
  pub number_refused : {r : Result IntAt BadToken} {e : BadToken} (x : ℕ) → r ≡ Err e → IntReads text at r → LabelledAt text at e.number x
      → NumberAt states text at firsts (bad_at x e.place)
  number_refused x e h d = record { is = λ l b s k. d.is l b _ (int_missing e h); onward = tt }

  module _ {r : Result IntAt BadToken} {i : IntAt} (e : r ≡ Ok i) (h : IntReads text at r) where
    onward : Onward text at i.next
    onward = let n = int_there e h in record { behind = omega (arith, n.behind_at, n.takes); within = n.within }

    on : (l : Limits) (b : Rows) → row_step l (row_number b) (int i.value) ≡ spec.on_number l b i.value
    unfolding row_step entry_of wants_int
    on l b = refl

    refuses : (n : ℕ) → ((l : Limits) (b : Rows) → l.states ≡ states → Listed b.seen firsts → spec.on_number l b i.value ≡ wrong n)
        → NumberAt states text at firsts (bad_at n i.place)
    refuses n w =
        record { is = λ l b s k. step_faults (row_step l) (row_number b) (int_there e h).is n (on l b ∙ w l b s k); onward = tt }

    pub number_above : not_below i.value states ≡ true → NumberAt states text at firsts (bad_at 41 i.place)
    number_above t = refuses 41 (λ l b s k. rw (s, t))

    not_came : (seen : List ℕ) → Listed seen firsts → most_job_states ≤ i.value → came i.value seen ≡ false
    not_came seen k m = by (came i.value seen) refl
      where
        by : (t : Bool) → came i.value seen ≡ t → t ≡ false
        by true u = absurd (omega (arith, k.small i.value u))
        by false u = refl

    pub number_large : not_below i.value states ≡ false → most_job_states ≤ i.value → NumberAt states text at firsts (bad_at 42 i.place)
    number_large t m = refuses 42 (λ l b s k. rw (s, t, not_came b.seen k m, le-leb most_job_states i.value m))

    pub number_twice : not_below i.value states ≡ false → i.value < most_job_states → (get_or firsts i.value 0 ≡ 0 → ⊥) → NumberAt states text at firsts (bad_at 41 i.place)
    number_twice t m z =
        refuses 41 (λ l b s k. let u : came i.value b.seen ≡ true = k.marked i.value m ∙ lt-ltb 0 (get_or firsts i.value 0) (some_cell (get_or firsts i.value 0) z) in rw (s, t, u))
      where
        some_cell : (n : ℕ) → (n ≡ 0 → ⊥) → 0 < n
        some_cell zero y = absurd (y refl)
        some_cell (suc n) y = omega arith

    pub number_new : not_below i.value states ≡ false → i.value < most_job_states → get_or firsts i.value 0 ≡ 0 → NumberAt states text at firsts (Ok (record { number = i.value; next = i.next }))
    number_new t m z =
        record {
          is =
              λ l b s k.
              let u : came i.value b.seen ≡ false = k.marked i.value m ∙ rw z in
              step_goes (row_step l) (row_number b) (int_there e h).is (row_name (with_row i.value b)) (on l b ∙ rw (s, t, u, lt-leb most_job_states i.value m));
          onward = (onward, m, z);
        }

-- ---- a row's name and sig

module _ (text : List ℕ) (at : ℕ) (here : EntryAt) (h : EntryHere text at here) where
  pub name_goes : here.entry ≡ entry_is.Text → NameAt text at here.next
  name_goes e =
      let k = h.behind (rw e) in
      record {
        is =
            λ l b.
            step_goes (row_step l) (row_name b) h.is (row_sig b) (name_on_text l b h.token (h.entry ∙ e))
            ∙ ap (λ (ps : List Placed). run (row_step l) ps (row_sig b)) k.is;
        behind = omega (arith, k.onward.behind);
        within = λ m. k.onward.within;
      }

  pub name_stays : (here.entry ≡ entry_is.Text → ⊥) → NameAt text at at
  name_stays o =
      record {
        is = λ l b. step_same (row_step l) (row_name b) h.is (row_sig b) (name_on_other l b h.token here.entry o h.entry);
        behind = omega arith;
        within = λ m. m;
      }

  pub row_sig_stays : (c : ℕ) → (here.entry ≡ entry_is.Sig → ⊥) → RowSigAt text at c (Ok (record { marks = 0; next = at }))
  row_sig_stays c o =
      record {
        is =
            λ l b m z.
            step_same (row_step l) (row_sig b) h.is (entries b) (sig_on_other l b h.token here.entry o h.entry)
            ∙ ap (λ (n : ℕ). from l text at (entries (with_sig n b))) z;
        onward = (omega arith, λ m. m);
      }

  pub row_sig_goes : (c : ℕ) (r : Result SigRead BadToken) → here.entry ≡ entry_is.Sig → SigAt text here.next c 0 r → RowSigAt text at c r
  row_sig_goes c r e d = record { is = λ l b m z. begun l b ∙ ended l b m r d; onward = stays r d.onward }
    where
      k : Behind text at here.next h.rest
      k = h.behind (rw e)

      begun : (l : Limits) (b : Rows)
          → from l text at (row_sig b) ≡ after_sig l (λ n. with_sig n b) (run (sig_step l.marks) (tokens_at text here.next) 0)
      begun l b =
          step_goes (row_step l) (row_sig b) h.is (row_marks 0 b) (sig_on_sig l b h.token (h.entry ∙ e))
          ∙ ap (λ (ps : List Placed). run (row_step l) ps (row_marks 0 b)) k.is
          ∙ row_sig_lem l b (tokens_at text here.next) 0

      ended : (l : Limits) (b : Rows) → l.marks ≡ c → (s : Result SigRead BadToken) → SigAt text here.next c 0 s
          → after_sig l (λ n. with_sig n b) (run (sig_step l.marks) (tokens_at text here.next) 0) ≡ row_sig_end l text b s
      ended l b m (Ok x) g = rw (m, g.is)
      ended l b m (Err x) g = rw (m, g.is)

      stays : (s : Result SigRead BadToken) → SigOnward text here.next s → SigStays text at s
      stays (Ok x) g = (omega (arith, g.behind, k.onward.behind), λ m. g.within)
      stays (Err x) g = tt

-- ---- an edge

module _ (text : List ℕ) (at : ℕ) (here : EntryAt) (h : EntryHere text at here) where
  pub more_joined : (c before : ℕ) → here.entry ≡ entry_is.Join → EdgeSigAt text at c before (bad_at 41 here.place)
  more_joined c before e =
      record { is = λ l x to b m z. step_faults (row_step l) (target_more x to b) h.is 41 (more_on_join l b h.token x to (h.entry ∙ e)); onward = tt }

  pub more_stays : (c before : ℕ) → (here.entry ≡ entry_is.Sig → ⊥) → (here.entry ≡ entry_is.Join → ⊥) → EdgeSigAt text at c before (Ok (record { marks = before; next = at }))
  more_stays c before o j =
      record {
        is =
            λ l x to b m z.
            step_same (row_step l) (target_more x to b) h.is (entries (with_edge x to b.sig b)) (more_on_other l b h.token x to here.entry o j h.entry)
            ∙ ap (λ (n : ℕ). from l text at (entries (with_edge x to n b))) z;
        onward = (omega arith, λ m. m);
      }

  pub more_goes : (c before : ℕ) (r : Result SigRead BadToken) → here.entry ≡ entry_is.Sig → SigAt text here.next c before r → EdgeSigAt text at c before r
  more_goes c before r e d = record { is = λ l x to b m z. begun l x to b ∙ ended l x to b m z r d; onward = stays r d.onward }
    where
      k : Behind text at here.next h.rest
      k = h.behind (rw e)

      begun : (l : Limits) (x to : ℕ) (b : Rows)
          → from l text at (target_more x to b) ≡ after_sig l (λ n. with_edge x to n b) (run (sig_step l.marks) (tokens_at text here.next) b.sig)
      begun l x to b =
          step_goes (row_step l) (target_more x to b) h.is (edge_marks b.sig x to b) (more_on_sig l b h.token x to (h.entry ∙ e))
          ∙ ap (λ (ps : List Placed). run (row_step l) ps (edge_marks b.sig x to b)) k.is
          ∙ edge_sig l b x to (tokens_at text here.next) b.sig

      ended : (l : Limits) (x to : ℕ) (b : Rows) → l.marks ≡ c → b.sig ≡ before → (s : Result SigRead BadToken) → SigAt text here.next c before s
          → after_sig l (λ n. with_edge x to n b) (run (sig_step l.marks) (tokens_at text here.next) b.sig) ≡ edge_sig_end l text x to b s
      ended l x to b m z (Ok y) g =
          let i : run (sig_step l.marks) (tokens_at text here.next) b.sig ≡ sig_end text (Ok y) = rw (m, z) g.is in
          ap (after_sig l (λ n. with_edge x to n b)) i
      ended l x to b m z (Err y) g =
          let i : run (sig_step l.marks) (tokens_at text here.next) b.sig ≡ sig_end text (Err y) = rw (m, z) g.is in
          ap (after_sig l (λ n. with_edge x to n b)) i

      stays : (s : Result SigRead BadToken) → SigOnward text here.next s → SigStays text at s
      stays (Ok x) g = (omega (arith, g.behind, k.onward.behind), λ m. g.within)
      stays (Err x) g = tt

module _ (states : Option ℕ) (text : List ℕ) (at : ℕ) where
  pub target_refused : {r : Result IntAt BadToken} {b : BadToken} → r ≡ Err b → IntReads text at r → TargetAt states text at (Err b)
  target_refused {b = b} e h =
      let f = int_missing e h in
      record { is = λ l x o s. step_faults (row_step l) (target x o) f.is b.number (target_on_other l o f.token x b.number f.faulty); onward = tt }

  module _ {r : Result IntAt BadToken} {i : IntAt} (e : r ≡ Ok i) (h : IntReads text at r) where
    hits : (l : Limits) (x : ℕ) (b : Rows) → row_step l (target x b) (int i.value) ≡ spec.on_target l x b i.value
    unfolding row_step wants_int
    hits l x b = refl

    pub target_above : not_below i.value states ≡ true → TargetAt states text at (bad_at 41 i.place)
    target_above t =
        record { is = λ l x b s. step_faults (row_step l) (target x b) (int_there e h).is 41 (hits l x b ∙ rw (s, t)); onward = tt }

    pub target_large : not_below i.value states ≡ false → most_job_states ≤ i.value → TargetAt states text at (bad_at 42 i.place)
    target_large t m =
        record {
          is = λ l x b s. step_faults (row_step l) (target x b) (int_there e h).is 42 (hits l x b ∙ rw (s, t, le-leb most_job_states i.value m));
          onward = tt;
        }

    pub target_there : not_below i.value states ≡ false → i.value < most_job_states → TargetAt states text at (Ok (record { to = i.value; next = i.next }))
    target_there t m =
        let n = int_there e h in
        record {
          is =
              λ l x b s.
              step_goes (row_step l) (target x b) n.is (target_more x i.value b) (hits l x b ∙ rw (s, t, lt-leb most_job_states i.value m));
          onward = record { behind = omega (arith, n.behind_at, n.takes); within = n.within };
        }

-- ---- the whole row, the whole edge

module _ (l : Limits) (text : List ℕ) (at : ℕ) (firsts : List ℕ) where
  pub row_refused : {r : Result NumberRead BadToken} {b : BadToken} → r ≡ Err b → NumberAt l.states text at firsts r → RowAt l text at firsts (Err b)
  row_refused e h = let k = rw e at h in record { is = λ b d. k.is l b refl d; onward = tt }

  module _ {r : Result NumberRead BadToken} {q : NumberRead} {named : ℕ} (e : r ≡ Ok q) (h : NumberAt l.states text at firsts r) (d : NameAt text q.next named) where
    up_to_sig : (b : Rows) → Listed b.seen firsts → from l text at (row_number b) ≡ from l text named (row_sig (with_row q.number b))
    up_to_sig b k = let i = rw e at h in i.is l b refl k ∙ d.is l (with_row q.number b)

    pub row_sig_refused : {s : Result SigRead BadToken} {b : BadToken} → s ≡ Err b → RowSigAt text named l.marks s → RowAt l text at firsts (Err b)
    row_sig_refused f g = let k = rw f at g in record { is = λ b i. up_to_sig b i ∙ k.is l (with_row q.number b) refl refl; onward = tt }

    pub row_there : {s : Result SigRead BadToken} {m : SigRead} → s ≡ Ok m → RowSigAt text named l.marks s
        → RowAt l text at firsts (Ok (record { number = q.number; sig = m.marks; next = m.next }))
    row_there f g =
        let k = rw f at g in
        let i = rw e at h in
        let o = i.onward in
        record {
          is = λ b j. up_to_sig b j ∙ k.is l (with_row q.number b) refl refl;
          onward = (
            record {
              behind = omega (arith, o.0.behind, d.behind, k.onward.0);
              within = k.onward.1 (d.within o.0.within);
            },
            o.1,
            o.2,
          );
        }

module _ (l : Limits) (text : List ℕ) (at before x : ℕ) where
  pub to_refused : {r : Result TargetRead BadToken} {b : BadToken} → r ≡ Err b → TargetAt l.states text at r → ToAt l text at before x (Err b)
  to_refused e h = let k = rw e at h in record { is = λ b z. k.is l x b refl; onward = tt }

  module _ {r : Result TargetRead BadToken} {t : TargetRead} (e : r ≡ Ok t) (h : TargetAt l.states text at r) where
    pub to_sig_refused : {s : Result SigRead BadToken} {b : BadToken} → s ≡ Err b → EdgeSigAt text t.next l.marks before s → ToAt l text at before x (Err b)
    to_sig_refused f g =
        let k = rw f at g in
        let i = rw e at h in
        record { is = λ b z. i.is l x b refl ∙ k.is l x t.to b refl z; onward = tt }

    pub to_there : {s : Result SigRead BadToken} {m : SigRead} → s ≡ Ok m → EdgeSigAt text t.next l.marks before s
        → ToAt l text at before x (Ok (record { set = x; to = t.to; marks = m.marks; next = m.next }))
    to_there f g =
        let k = rw f at g in
        let i = rw e at h in
        let o = i.onward in
        record {
          is = λ b z. i.is l x b refl ∙ k.is l x t.to b refl z;
          onward = (record { behind = omega (arith, o.behind, k.onward.0); within = k.onward.1 o.within }, refl);
        }

pub label_onward : {text : List ℕ} {at a : ℕ} {r : Result LabelRead BadToken} {v : LabelRead} → r ≡ Ok v → LabelAt text at a r → at < v.next
label_onward e h = let k = rw e at h in k.onward.0

module _ (l : Limits) (text : List ℕ) (at before kept : ℕ) where
  labels : (b : Rows) → from l text at (in_label label_begin b)
      ≡ after_label l b (label_run l.props label_begin (tokens_at text at)) (label_next l.props label_begin (tokens_at text at) - 1)
  labels b = in_label_lem l b (tokens_at text at) (signs_take text at) label_begin

  pub edge_refused : {r : Result LabelRead BadToken} {b : BadToken} → r ≡ Err b → LabelAt text at l.props r → EdgeAt l text at before kept (Err b)
  edge_refused e h =
      let k = rw e at h in
      record { is = λ b z m. labels b ∙ rw k.is; onward = tt }

  module _ {r : Result LabelRead BadToken} {v : LabelRead} (e : r ≡ Ok v) (h : LabelAt text at l.props r) where
    shut : (b : Rows) → from l text at (in_label label_begin b) ≡ after_label l b (label.shut_at v.set (tokens_at text v.next)) (v.next - 1)
    shut b = let k = rw e at h in labels b ∙ rw (k.is, k.behind)

    pub edge_full : 0 < v.set → most_job_edges ≤ kept → EdgeAt l text at before kept (bad_at 42 (v.next - 1))
    edge_full o m =
        record { is = λ b z i. shut b ∙ rw (lt-ltb 0 v.set o, le-leb most_job_edges (length b.edges) (omega (arith, i))); onward = tt }

    -- the label is not satisfiable, or the edge finds room
    goes : (b : Rows) → length b.edges ≡ kept → (0 < v.set → kept < most_job_edges)
        → from l text at (in_label label_begin b) ≡ from l text v.next (target v.set b)
    goes b i room = shut b ∙ by v.set room
      where
        by : (y : ℕ) → (0 < y → kept < most_job_edges) → after_label l b (label.shut_at y (tokens_at text v.next)) (v.next - 1) ≡ from l text v.next (target y b)
        by zero w = refl
        by (suc y) w = rw (lt-ltb 0 (suc y) (omega arith), lt-leb most_job_edges (length b.edges) (omega (arith, i, w (omega arith))))

    pub edge_there : (s : Result EdgeRead BadToken) → (0 < v.set → kept < most_job_edges) → ToAt l text v.next before v.set s → EdgeAt l text at before kept s
    edge_there s room g =
        record { is = λ b z i. goes b i room ∙ g.is b z; onward = onwards s g.onward }
      where
        onwards : (u : Result EdgeRead BadToken) → ToOnward text v.next v.set u → EdgeOnward text at kept u
        onwards (Ok y) w =
            let k = rw e at h in
            (record { behind = omega (arith, k.onward.0, w.0.behind); within = w.0.within }, λ o. room (rw w.1 at o))
        onwards (Err y) w = tt
