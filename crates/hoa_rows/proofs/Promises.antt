-- What the promise comes to: two results that it allows are equal (`unique`), the rows of a text are never cut (`never_cut`), and what is handed over is
-- sorted and a table's worth (`table`). Assumes nothing.
use Rattle.std.specs.Prelude.{Result}
use mathlib.Core.Path.{◌≡◌, refl, sym, ap, subst, ◌∙◌}
use mathlib.Core.Bool.{Bool, true, false, false≢true}
use mathlib.Core.List.{List, [], ◌∷◌, ◌++◌}
use Prim.Native.Nat.{ℕ, zero, suc, ◌-◌, ◌≤◌, ◌<◌}
use native.Mathlib.Omega.{arith}
use borrow.Author.Tests.{eqb-true}
use lib.Dec.{eqb}
use lib.ListN.{length, drop, length-drop}
use Rattle.hoa_tokens.specs.declared.BadToken.{BadToken}
use Rattle.hoa_tokens.specs.Token.{Token, int, word, header, str, aname, sign, body, end, abort, finish, bad}
use Rattle.hoa_tokens.specs.Stream.{Placed, first, unless_finished, tokens_at, some as up_to}
use Rattle.hoa_tokens.proofs.Sizes.{by_test}
use Rattle.hoa_tokens.proofs.Next.{Stands, over, there, stands}
use Rattle.job_text.specs.Value.{Edge}
use Rattle.job_text.specs.Job.{most_job_edges}
use Rattle.hoa_step.specs.Machine.{End, go, done, wrong, done_at, wrong_at, cut, end_by, run}
use Rattle.hoa_entry.specs.declared.Limits.{Limits}
use Rattle.hoa_rows.specs.declared.RowsRead.{RowsRead}
use Rattle.hoa_entry.specs.Sig.{sig_step}
use Rattle.hoa_label.specs.Labels.{wants, Has, label_step, step_within, wanted, behind}
use Rattle.hoa_entry.specs.Rows.{Kept, RowState, RowStep, no_rows, entries, row_number, row_name, row_sig, row_marks, in_label, target, target_more, edge_marks, closing}
use Rattle.hoa_entry.specs.Rows.{on_closing, entry_of, row_step}
use Rattle.hoa_step.specs.Machine.{wants_int}
use Rattle.hoa_kept.specs.Sorted.{leaving, sorted}
use Rattle.hoa_rows.specs.Lent.{rows_end, edges_of, RowsInto}
use Rattle.hoa_rows.specs.Worth.{AllFit}
use Rattle.hoa_rows.proofs.Worth.{worth}
use Rattle.hoa_rows.proofs.Handing.{sorted_all}

-- ---- one result

module _ (l : Limits) (text : List ℕ) (at : ℕ) (from to marks from₁ to₁ marks₁ from₂ to₂ marks₂ : List ℕ) (r₁ r₂ : Result RowsRead BadToken)
    (h : RowsInto l text at from to marks from₁ to₁ marks₁ r₁) (k : RowsInto l text at from to marks from₂ to₂ marks₂ r₂) where
  pub unique : r₁ ≡ r₂
  unique = h.reading ∙ sym k.reading

  pub unique_from : from₁ ≡ from₂
  unique_from = h.froms ∙ rw unique (sym k.froms)

  pub unique_to : to₁ ≡ to₂
  unique_to = h.tos ∙ rw unique (sym k.tos)

  pub unique_marks : marks₁ ≡ marks₂
  unique_marks = h.sets ∙ rw unique (sym k.sets)

-- ---- never cut

-- the text's end decides
abbrev is_go : RowStep → Bool
is_go (go s) = true
is_go (done k) = false
is_go (wrong n) = false

finish_stops : (l : Limits) (s : RowState) → is_go (row_step l s finish) ≡ false
unfolding row_step entry_of wants_int sig_step on_closing label_step step_within wanted behind
finish_stops l (entries b) = refl
finish_stops l (row_number b) = refl
finish_stops l (row_name b) = refl
finish_stops l (row_sig b) = refl
finish_stops l (row_marks m b) = refl
finish_stops l (in_label (wants f fs) b) = refl
finish_stops l (in_label (Has o c fs) b) = refl
finish_stops l (target x b) = refl
finish_stops l (target_more x to b) = refl
finish_stops l (edge_marks m x to b) = refl
finish_stops l (closing b) = refl

abbrev is_cut : End Kept → Bool
is_cut (done_at k ps) = false
is_cut (wrong_at n p) = false
is_cut cut = true

-- a list of tokens that ends in the text's end
data Ends : List Placed → Type 0 where
  last : {p : Placed} → p.token ≡ finish → Ends (p ∷ [])
  more : {p : Placed} {ps : List Placed} → Ends ps → Ends (p ∷ ps)

stopped : (l : Limits) (p : Placed) (ps : List Placed) (d : RowStep) → is_go d ≡ false → is_cut (end_by d p.place ps (λ u. run (row_step l) ps u)) ≡ false
stopped l p ps (go s) h = absurd (false≢true (sym h))
stopped l p ps (done k) h = refl
stopped l p ps (wrong n) h = refl

run_ends : (l : Limits) {ps : List Placed} → Ends ps → (s : RowState) → is_cut (run (row_step l) ps s) ≡ false
unfolding run
run_ends l (last {p} e) s = stopped l p [] (row_step l s p.token) (rw e (finish_stops l s))
run_ends l (more {p} {ps} h) s = by (row_step l s p.token) (run_ends l h)
  where
    by : (d : RowStep) → ((u : RowState) → is_cut (run (row_step l) ps u) ≡ false) → is_cut (end_by d p.place ps (λ u. run (row_step l) ps u)) ≡ false
    by (go u) later = later u
    by (done k) later = refl
    by (wrong n) later = refl

unless_ends : (p : Placed) (ps : List Placed) → Ends ps → Ends (p ∷ unless_finished p.token ps)
unless_ends p ps h = by p.token refl
  where
    by : (t : Token) → p.token ≡ t → Ends (p ∷ unless_finished t ps)
    by finish e = last e
    by (int n) e = more h
    by (word w) e = more h
    by (header x) e = more h
    by (str bs) e = more h
    by aname e = more h
    by (sign s) e = more h
    by body e = more h
    by end e = more h
    by abort e = more h
    by bad e = more h

some_ends : (k : ℕ) (text : List ℕ) (at : ℕ) → length text - at < k → Ends (up_to k text at)
unfolding up_to
some_ends zero text at l = absurd (omega arith)
some_ends (suc k) text at l = by (first at (drop at text)) (stands at (drop at text)) (some_ends k text)
  where
    by : (p : Placed) → Stands at (length (drop at text)) p → ((next : ℕ) → length text - next < k → Ends (up_to k text next))
        → Ends (p ∷ unless_finished p.token (up_to k text p.next))
    by p (over e a b) later = subst (λ (t : Token). Ends (p ∷ unless_finished t (up_to k text p.next))) (sym e) (last e)
    by p (there e a b c) later = unless_ends p (up_to k text p.next) (later p.next (omega (arith, length-drop at text)))

-- the rows of a text are never cut
pub never_cut : (l : Limits) (text : List ℕ) (at : ℕ) → rows_end l text at ≡ cut → ⊥
unfolding rows_end tokens_at
never_cut l text at e =
    false≢true
    (sym (run_ends l (some_ends (suc (length text)) text at (omega arith)) (entries (no_rows l.start))) ∙ ap is_cut e)

-- ---- what is handed over

-- the edges leave states in ascending order, from q on
abbrev pub Ascends : ℕ → List Edge → Type 0
Ascends q [] = Unit
Ascends q (e ∷ es) = (q ≤ e.from) × Ascends e.from es

fit_append : (n c : ℕ) (xs ys : List Edge) → AllFit n c xs → AllFit n c ys → AllFit n c (xs ++ ys)
fit_append n c [] ys h k = k
fit_append n c (x ∷ xs) ys h k = (h.0, fit_append n c xs ys h.1 k)

fit_leaving : (n c q : ℕ) (es : List Edge) → AllFit n c es → AllFit n c (leaving q es)
fit_leaving n c q [] h = tt
fit_leaving n c q (e ∷ es) h =
    by_test (eqb e.from q) (λ t. rw t (h.0, fit_leaving n c q es h.1)) (λ t. rw t (fit_leaving n c q es h.1))

pub fit_sorted : (n c q : ℕ) (es : List Edge) → AllFit n c es → AllFit n c (sorted q es)
fit_sorted n c zero es h = tt
fit_sorted n c (suc q) es h = fit_append n c (sorted q es) (leaving q es) (fit_sorted n c q es h) (fit_leaving n c q es h)

-- all of a list leave one state, or states below another
abbrev Below : ℕ → List Edge → Type 0
Below n [] = Unit
Below n (e ∷ es) = (e.from < n) × Below n es

ascends_leaving : (q p : ℕ) (es : List Edge) → p ≤ q → Ascends p (leaving q es)
ascends_leaving q p [] l = tt
ascends_leaving q p (e ∷ es) l =
    by_test (eqb e.from q)
    (λ t. let i = eqb-true e.from q t in rw t (omega arith, rw i (ascends_leaving q q es (omega arith))))
    (λ t. rw t (ascends_leaving q p es l))

ascends_append : (n p : ℕ) (xs ys : List Edge) → p ≤ n → Below n xs → Ascends p xs → ((q : ℕ) → q ≤ n → Ascends q ys) → Ascends p (xs ++ ys)
ascends_append n p [] ys l b a f = f p l
ascends_append n p (x ∷ xs) ys l b a f = (a.0, ascends_append n x.from xs ys (omega (arith, b.0)) b.1 a.1 f)

below_more : (n : ℕ) (xs : List Edge) → Below n xs → Below (suc n) xs
below_more n [] h = tt
below_more n (x ∷ xs) h = (omega (arith, h.0), below_more n xs h.1)

below_append : (n : ℕ) (xs ys : List Edge) → Below n xs → Below n ys → Below n (xs ++ ys)
below_append n [] ys h k = k
below_append n (x ∷ xs) ys h k = (h.0, below_append n xs ys h.1 k)

below_leaving : (q : ℕ) (es : List Edge) → Below (suc q) (leaving q es)
below_leaving q [] = tt
below_leaving q (e ∷ es) =
    by_test (eqb e.from q) (λ t. rw t (omega (arith, eqb-true e.from q t), below_leaving q es)) (λ t. rw t (below_leaving q es))

below_sorted : (n : ℕ) (es : List Edge) → Below n (sorted n es)
below_sorted zero es = tt
below_sorted (suc n) es = below_append (suc n) (sorted n es) (leaving n es) (below_more n (sorted n es) (below_sorted n es)) (below_leaving n es)

pub ascends_sorted : (n : ℕ) (es : List Edge) → Ascends 0 (sorted n es)
ascends_sorted zero es = tt
ascends_sorted (suc n) es =
    ascends_append n 0 (sorted n es) (leaving n es) (omega arith) (below_sorted n es) (ascends_sorted n es) (λ q l. ascends_leaving n q es l)

-- the edges that are handed over
pub record Tabled (l : Limits) (k : Kept) : Type 0 where
  pub ascending : Ascends 0 (edges_of k)
  pub fitting : AllFit k.states l.marks (edges_of k)
  pub room : length (edges_of k) ≤ most_job_edges
  pub all : length (edges_of k) ≡ length k.edges

pub table : (l : Limits) (text : List ℕ) (at : ℕ) (k : Kept) (ps : List Placed) → rows_end l text at ≡ done_at k ps → Tabled l k
table l text at k ps e =
    let w = worth l text at k ps e in
    let a = sorted_all k.states l.marks k.edges w.fitting in
    record {
      ascending = ascends_sorted k.states k.edges;
      fitting = fit_sorted k.states l.marks k.states k.edges w.fitting;
      room = omega (arith, a, w.room);
      all = a;
    }
