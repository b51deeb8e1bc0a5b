-- Walking a list of edges, edge by edge. Assumes nothing.
use mathlib.Core.Path.{◌≡◌, refl, sym, ap, ◌∙◌, subst}
use mathlib.Core.Bool.{true, false}
use mathlib.Core.Logic.{◌⊎◌, inl, inr}
use mathlib.Core.List.{List, [], ◌∷◌, ◌++◌}
use mathlib.Core.Option.{some, none}
use Prim.Native.Nat.{ℕ, suc, ◌+◌, ◌≤◌, ◌<◌, zero-le}
use native.Mathlib.Numerals.{add-one}
use native.Mathlib.Omega.{arith}
use lib.ListN.{length, get_or, take, drop, length-drop}
use lib.Seq.{take-suc, take_all, drop-cons}
use Rattle.marks.specs.Mark.{union, Has}
use Rattle.marks.proofs.Laws.{Has-none, Has-union, same_marks}
use Rattle.table.specs.Table.{Table, waiting, Stop, Step, Walk, borne, marks_of}
use Rattle.table.specs.Row.{part}
use Rattle.table.proofs.Walks.{walk_snoc, marks_append, proper_apart}
use Rattle.job_text.specs.Text.{comma, fields, FirstAt}
use Rattle.job_values.proofs.Cut.{left, left_cut}
use Rattle.answer_check.specs.declared.walk.Place.{Place}
use Rattle.answer_check.specs.declared.walk.Walked.{Walked}
use Rattle.std.proofs.Common as code
use Rattle.answer_form.specs.Given.{step, steps}
use Rattle.answer_check.specs.inner.{LeftBy, Lies, Stands, Goes, WaitSays, GoSays, Through, WalkSays}
use Rattle.answer_form.proofs.Digits.{none_some, some_same}
use Rattle.answer_form.proofs.Lists.{Stepped, stepped, no_steps}
use Rattle.answer_form.proofs.Forms.{left_all, left_none}

-- ---- the union of marks

pub union_none : (a : ℕ) → union a 0 ≡ a
union_none a =
    same_marks (union a 0) a (λ i h. go i ((Has-union i a 0).0 h)) (λ i h. (Has-union i a 0).1 (inl h))
  where
    go : (i : ℕ) → Has i a ⊎ Has i 0 → Has i a
    go i (inl h) = h
    go i (inr h) = absurd (Has-none i h)

pub none_union : (a : ℕ) → union 0 a ≡ a
none_union a =
    same_marks (union 0 a) a (λ i h. go i ((Has-union i 0 a).0 h)) (λ i h. (Has-union i 0 a).1 (inr h))
  where
    go : (i : ℕ) → Has i 0 ⊎ Has i a → Has i a
    go i (inl h) = absurd (Has-none i h)
    go i (inr h) = h

union_assoc : (a b c : ℕ) → union (union a b) c ≡ union a (union b c)
union_assoc a b c =
    same_marks (union (union a b) c) (union a (union b c)) (λ i h. there i ((Has-union i (union a b) c).0 h)) (λ i h. back i ((Has-union i a (union b c)).0 h))
  where
    inner : (i : ℕ) → Has i a ⊎ Has i b → Has i (union a (union b c))
    inner i (inl h) = (Has-union i a (union b c)).1 (inl h)
    inner i (inr h) = (Has-union i a (union b c)).1 (inr ((Has-union i b c).1 (inl h)))

    there : (i : ℕ) → Has i (union a b) ⊎ Has i c → Has i (union a (union b c))
    there i (inl h) = inner i ((Has-union i a b).0 h)
    there i (inr h) = (Has-union i a (union b c)).1 (inr ((Has-union i b c).1 (inr h)))

    outer : (i : ℕ) → Has i b ⊎ Has i c → Has i (union (union a b) c)
    outer i (inl h) = (Has-union i (union a b) c).1 (inl ((Has-union i a b).1 (inr h)))
    outer i (inr h) = (Has-union i (union a b) c).1 (inr h)

    back : (i : ℕ) → Has i a ⊎ Has i (union b c) → Has i (union (union a b) c)
    back i (inl h) = (Has-union i (union a b) c).1 (inl ((Has-union i a b).1 (inl h)))
    back i (inr h) = outer i ((Has-union i b c).0 h)

-- ---- one edge

-- a state that no edge leaves is a stop state
no_leave : (t : Table) (from : List ℕ) (s : ℕ) → Lies t from t.to t.marks → s < t.states → LeftBy from s false → Stop t s
no_leave t from s L l h =
    record {
      state = l;
      halts = λ e s' E. h e (omega (arith, E.listed, L.proper.from_length, ap length L.from_is)) (ap (λ (x : List ℕ). get_or x e 0) (sym L.from_is) ∙ E.leaves);
    }

-- at a stop state the walk waits
waits_on : (t : Table) (from : List ℕ) (p : Place) → Lies t from t.to t.marks → Stop t p.state
    → Goes t p waiting (record { state = p.state; union = p.union; waits = true })
waits_on t from p L S =
    record {
      stands = record { state = S.state; waits = λ e. S };
      step = inr (record { number = refl; stop = S; stays = refl });
      marks = sym (ap (union p.union) (proper_apart t L.proper).unmarked ∙ union_none p.union);
    }

pub wait_again : (from : List ℕ) (p : Place) → p.waits ≡ true → WaitSays from p (code.Some (record { state = p.state; union = p.union; waits = true }))
wait_again from p w t L S = waits_on t from p L (S.waits w)

pub wait_first : (from : List ℕ) (p : Place) → LeftBy from p.state false → WaitSays from p (code.Some (record { state = p.state; union = p.union; waits = true }))
wait_first from p h t L S = waits_on t from p L (no_leave t from p.state L S.state h)

-- ---- a list

-- after i edges of es: a walk to the place, its marks added, and the fields from `at` on are the edges that are left
pub record OnWay (t : Table) (s : Place) (bs es : List ℕ) (at i : ℕ) (p : Place) : Type 0 where
  pub walk : Walk t s.state (take i es) p.state
  pub stands : Stands t p
  pub marks : p.union ≡ union s.union (marks_of t (take i es))
  pub within : i ≤ length es
  pub rest : steps (left bs at) ≡ some (drop i es)

-- .. of every table and list
abbrev pub Underway : List ℕ → Place → List ℕ → List ℕ → List ℕ → ℕ → ℕ → Place → Type 0
Underway bs s from to marks at i p =
    (t : Table) (es : List ℕ) → Lies t from to marks → Stands t s → steps (fields bs) ≡ some es → OnWay t s bs es at i p

pub set_out : (bs : List ℕ) (s : Place) (from to marks : List ℕ) → Underway bs s from to marks 0 0 s
set_out bs s from to marks t es L S e =
    record {
      walk = refl;
      stands = S;
      marks = sym (union_none s.union);
      within = zero-le;
      rest = ap steps (left_all bs) ∙ e;
    }

drop_next : (es : List ℕ) (i x : ℕ) (rest : List ℕ) → drop i es ≡ x ∷ rest → (i < length es) × ((get_or es i 0 ≡ x) × (drop (i + 1) es ≡ rest))
drop_next es i x rest e =
    let l : i < length es = omega (arith, ap length e, length-drop i es) in
    let f : get_or es i 0 ∷ drop (suc i) es ≡ x ∷ rest = sym (drop-cons es i 0 l) ∙ e in
    (l, (cc, ap (λ (k : ℕ). drop k es) (add-one i) ∙ (let g : drop (suc i) es ≡ rest = cc in g)))

module _ (bs : List ℕ) (s : Place) (from to marks : List ℕ) (at i : ℕ) (p : Place) (U : Underway bs s from to marks at i p) (l : at ≤ length bs) (end : ℕ)
    (f : FirstAt bs at comma end) where
  -- the field there is the next edge
  module _ (t : Table) (es : List ℕ) (L : Lies t from to marks) (b : Stands t s) (e : steps (fields bs) ≡ some es) where
    here : Stepped (part at end bs) (left bs (end + 1)) (drop i es)
    here = stepped (part at end bs) (left bs (end + 1)) (drop i es) (sym (ap steps (left_cut bs at end l f)) ∙ (U t es L b e).rest)

    next : (i < length es) × ((get_or es i 0 ≡ here.edge) × (drop (i + 1) es ≡ here.others))
    next = drop_next es i here.edge here.others here.is

  -- it is an edge
  pub never_wrong : step (part at end bs) ≡ none → (r : code.Result Walked ℕ) → WalkSays (steps (fields bs)) s from to marks r
  never_wrong w r t es L b e = absurd (none_some (sym w ∙ (here t es L b e).read))

  module _ (x : ℕ) (read : step (part at end bs) ≡ some x) where
    -- it leads nowhere: the list breaks here
    pub breaks_here : GoSays from to marks p x code.None → WalkSays (steps (fields bs)) s from to marks (code.Err i)
    breaks_here G t es L b e =
        let O = U t es L b e in
        let n = next t es L b e in
        let same : get_or es i 0 ≡ x = n.1.0 ∙ some_same (sym (here t es L b e).read ∙ read) in
        record {
          reached = p.state;
          walks = O.walk;
          inside = n.0;
          stuck = λ s' S. G t L O.stands s' (subst (λ (d : ℕ). Step t d p.state s') same S);
        }

    -- one edge further
    pub goes_on : (q : Place) → GoSays from to marks p x (code.Some q) → Underway bs s from to marks (end + 1) (i + 1) q
    goes_on q G t es L b e =
        let O = U t es L b e in
        let n = next t es L b e in
        let same : get_or es i 0 ≡ x = n.1.0 ∙ some_same (sym (here t es L b e).read ∙ read) in
        let g = G t L O.stands in
        let longer : take (i + 1) es ≡ take i es ++ (x ∷ []) = ap (λ (k : ℕ). take k es) (add-one i) ∙ take-suc es i 0 n.0 ∙ ap (λ (d : ℕ). take i es ++ (d ∷ [])) same in
        record {
          walk = rw longer (walk_snoc t s.state (take i es) p.state x q.state O.walk g.step);
          stands = g.stands;
          marks =
              g.marks ∙ ap (λ (m : ℕ). union m (borne t x)) O.marks ∙ union_assoc s.union (marks_of t (take i es)) (borne t x)
              ∙ sym (ap (λ (l : List ℕ). union s.union (marks_of t l)) longer
              ∙ ap (union s.union) (marks_append t (take i es) (x ∷ []) ∙ ap (union (marks_of t (take i es))) (union_none (borne t x))));
          within = omega (arith, n.0);
          rest = (here t es L b e).rest ∙ ap some (sym n.1.1);
        }

pub arrived : (bs : List ℕ) (s : Place) (from to marks : List ℕ) (at i : ℕ) (p : Place) → Underway bs s from to marks at i p → length bs < at
    → WalkSays (steps (fields bs)) s from to marks (code.Ok (record { place = p; count = i }))
arrived bs s from to marks at i p U l t es L b e =
    let O = U t es L b e in
    let none : drop i es ≡ [] = no_steps (drop i es) (sym (ap steps (left_none bs at l)) ∙ O.rest) in
    let all : i ≡ length es = omega (arith, ap length none, length-drop i es, O.within) in
    let whole : take i es ≡ es = take_all i es (omega arith) in
    record {
      walk = subst (λ (k : List ℕ). Walk t s.state k p.state) whole O.walk;
      stands = O.stands;
      marks = O.marks ∙ ap (λ (k : List ℕ). union s.union (marks_of t k)) whole;
      counted = all;
    }

-- a list without edges
pub no_edges : (s : Place) (es : List ℕ) → es ≡ [] → (t : Table) → Stands t s → Through t s es s 0
no_edges s es e t S = rw e (record { walk = refl; stands = S; marks = sym (union_none s.union); counted = refl })
