-- Walks and lassos of the lent table and of the translated one: those of the table that is lifted lie between them. Assumes nothing.
use mathlib.Core.Path.{◌≡◌, refl, sym, ap, ◌∙◌, subst}
use mathlib.Core.List.{List, [], ◌∷◌, ◌++◌, map}
use Prim.Native.Nat.{ℕ, zero, suc, ◌-◌, ◌*◌, ◌≤◌, ◌<◌}
use native.Mathlib.Omega.{arith}
use lib.ListN.{length, length-map}
use Rattle.marks.specs.Mark.{Has}
use Rattle.table.specs.declared.Acceptance.TheVariants.{Buchi}
use Rattle.table.specs.Table.{Table, Walk, marks_of}
use Rattle.table.specs.Condition.{Accepted}
use Rattle.table.specs.Refusal.{most_edges, Proper}
use Rattle.climbing.specs.Climb.{levels, number}
use Rattle.climbing.specs.Source.{source, source_edge}
use Rattle.climbing.specs.Translated.{translated, under}
use Rattle.one_mark.specs.Over.{OneOver, OneUnder, turns, Closes}
use Rattle.one_mark.proofs.Correspond.{under_edge, level_after, over, Liftable, walk_up, unders_over, over_length, walk_down}
use Rattle.one_mark.proofs.Turns as lifting
use Rattle.climbing.proofs.Looped.{source_start}
use Rattle.one_mark.proofs.Sources.{liftable, forth, next, step_next, step_forth, back_forth, step_back, forth_back, under_source}

-- ---- lists

map_join : (f : ℕ → ℕ) (xs ys : List ℕ) → map f (xs ++ ys) ≡ map f xs ++ map f ys
map_join f [] ys = refl
map_join f (x ∷ xs) ys = ap {B = List ℕ} (λ zs. f x ∷ zs) (map_join f xs ys)

map_turns : (f : ℕ → ℕ) (n : ℕ) (c : List ℕ) → map f (turns n c) ≡ turns n (map f c)
map_turns f zero c = refl
map_turns f (suc n) c = map_join f c (turns n c) ∙ ap (λ xs. map f c ++ xs) (map_turns f n c)

map_same : (xs : List ℕ) → map (λ (x : ℕ). x) xs ≡ xs
map_same [] = refl
map_same (x ∷ xs) = ap {B = List ℕ} (λ ys. x ∷ ys) (map_same xs)

-- ---- walks

abbrev forths : Table → ℕ → ℕ → List ℕ → List ℕ
forths t k s [] = []
forths t k s (e ∷ es) = forth t k s e ∷ forths t k (next t s e) es

forths_length : (t : Table) (k s : ℕ) (es : List ℕ) → length (forths t k s es) ≡ length es
forths_length t k s [] = refl
forths_length t k s (e ∷ es) = ap suc (forths_length t k (next t s e) es)

forths_same : (t : Table) (k s : ℕ) (es : List ℕ) → forths t (suc k) s es ≡ es
forths_same t k s [] = refl
forths_same t k s (e ∷ es) = ap {B = List ℕ} (λ xs. e ∷ xs) (forths_same t k (next t s e) es)

-- a table and its looped one

module _ (t : Table) (proper : Proper t) (k : ℕ) (few : (source t k).edges * levels k ≤ most_edges) where
  walk_forth : (s : ℕ) (es : List ℕ) (z : ℕ) → Walk t s es z → Walk (source t k) s (forths t k s es) z
  walk_forth s [] z w = w
  walk_forth s (e ∷ es) z w = (
    w.0,
    (
      step_forth t proper k e s w.0 w.1.0,
      subst (λ (r : ℕ). Walk (source t k) w.0 (forths t k r es) z) (sym (step_next t proper e s w.0 w.1.0)) (walk_forth w.0 es z w.1.1),
    ),
  )

  walk_back : (s : ℕ) (gs : List ℕ) (z : ℕ) → Walk (source t k) s gs z → Walk t s (map (source_edge t k) gs) z
  walk_back s [] z w = w
  walk_back s (g ∷ gs) z w = (w.0, (step_back t proper k few g s w.0 w.1.0, walk_back w.0 gs z w.1.1))

  backs_forth : (s : ℕ) (es : List ℕ) (z : ℕ) → Walk t s es z → map (source_edge t k) (forths t k s es) ≡ es
  backs_forth s [] z w = refl
  backs_forth s (e ∷ es) z w =
      rw (back_forth t proper k e s w.0 w.1.0, step_next t proper e s w.0 w.1.0, backs_forth w.0 es z w.1.1)

  forths_back : (s : ℕ) (gs : List ℕ) (z : ℕ) → Walk (source t k) s gs z → forths t k s (map (source_edge t k) gs) ≡ gs
  forths_back s [] z w = refl
  forths_back s (g ∷ gs) z w =
      rw (
        forth_back t proper k few g s w.0 w.1.0,
        step_next t proper (source_edge t k g) s w.0 (step_back t proper k few g s w.0 w.1.0),
        forths_back w.0 gs z w.1.1,
      )

  unders : (y : ℕ) (qs : List ℕ) (z : ℕ) → Walk (translated t k) y qs z → map (under t k) qs ≡ map (source_edge t k) (map (under_edge (source t k) k) qs)
  unders y [] z w = refl
  unders y (q ∷ qs) z w = rw (under_source t proper k few q y w.0 w.1.0, unders w.0 qs z w.1.1)

  -- ---- from the start

  abbrev lift : Liftable (source t k) k
  lift = liftable t proper k few

  from_start : (es : List ℕ) (z : ℕ) → Walk t t.start es z → Walk t (source t k).start es z
  from_start es z w = subst (λ (s : ℕ). Walk t s es z) (sym (source_start t k)) w

  to_start : (es : List ℕ) (z : ℕ) → Walk t (source t k).start es z → Walk t t.start es z
  to_start es z w = subst (λ (s : ℕ). Walk t s es z) (source_start t k) w

  pub one_over : (es : List ℕ) (z : ℕ) → Walk t t.start es z → OneOver t k es
  one_over es z w =
      let u = source t k in
      let s = u.start in
      let gs = forths t k s es in
      let v = walk_forth s es z (from_start es z w) in
      let up = walk_up u k lift s 0 gs z (omega arith) v in
      record {
        walk = over u k 0 gs;
        end = number k z (level_after u k 0 gs);
        walks = up;
        over = unders (number k s 0) (over u k 0 gs) (number k z (level_after u k 0 gs)) up
            ∙ ap (map (source_edge t k)) (unders_over u k lift s 0 gs z (omega arith) v) ∙ backs_forth s es z (from_start es z w);
        equal = over_length u k lift 0 gs ∙ forths_length t k s es;
        only = λ qs y x o.
            let d = walk_down u k lift s 0 qs y (omega arith) x in
            d.same
            ∙ ap (over u k 0) (sym (forths_back s (map (under_edge u k) qs) d.end d.walk) ∙ ap (forths t k s) (sym (unders (number k s 0) qs y x) ∙ o));
      }

  pub one_under : (qs : List ℕ) (y : ℕ) → Walk (translated t k) (translated t k).start qs y → OneUnder t k qs
  one_under qs y w =
      let u = source t k in
      let s = u.start in
      let d = walk_down u k lift s 0 qs y (omega arith) w in
      record {
        walk = map (under t k) qs;
        end = d.end;
        walks = to_start (map (under t k) qs) d.end
            (subst (λ (es : List ℕ). Walk t s es d.end) (sym (unders (number k s 0) qs y w)) (walk_back s (map (under_edge u k) qs) d.end d.walk));
        over = refl;
        equal = length-map qs (under t k);
        only = λ es o. sym o;
      }

-- ---- lassos: with k = 0 every lasso is accepted, else nothing was added

meets_back : (t : Table) (k : ℕ) (gs : List ℕ) → ((i : ℕ) → i < k → Has i (marks_of (source t k) gs)) → (i : ℕ) → i < k → Has i (marks_of t (map (source_edge t k) gs))
meets_back t zero gs h i l = absurd (omega arith)
meets_back t (suc k) gs h i l = subst (λ (es : List ℕ). Has i (marks_of t es)) (sym (map_same gs)) (h i l)

meets_forth : (t : Table) (k s : ℕ) (es : List ℕ) → ((i : ℕ) → i < k → Has i (marks_of t es)) → (i : ℕ) → i < k → Has i (marks_of (source t k) (forths t k s es))
meets_forth t zero s es h i l = absurd (omega arith)
meets_forth t (suc k) s es h i l = subst (λ (gs : List ℕ). Has i (marks_of t gs)) (sym (forths_same t k s es)) (h i l)

module _ (t : Table) (proper : Proper t) (k : ℕ) (few : (source t k).edges * levels k ≤ most_edges) where
  accepted_back : (p c : List ℕ) → Accepted (source t k) (Buchi k) [] p c → Accepted t (Buchi k) [] (map (source_edge t k) p) (map (source_edge t k) c)
  accepted_back p c acc =
      let l = acc.lasso in
      record {
        lasso = record {
          knot = l.knot;
          leads = to_start t proper k few (map (source_edge t k) p) l.knot (walk_back t proper k few (source t k).start p l.knot l.leads);
          closes = walk_back t proper k few l.knot c l.knot l.closes;
          turns = omega (arith, l.turns, length-map c (source_edge t k));
        };
        meets = meets_back t k c acc.meets;
      }

  accepted_forth : (a c : List ℕ) (acc : Accepted t (Buchi k) [] a c)
      → Accepted (source t k) (Buchi k) [] (forths t k (source t k).start a) (forths t k acc.lasso.knot c)
  accepted_forth a c acc =
      let l = acc.lasso in
      record {
        lasso = record {
          knot = l.knot;
          leads = walk_forth t proper k few (source t k).start a l.knot (from_start t proper k few a l.knot l.leads);
          closes = walk_forth t proper k few l.knot c l.knot l.closes;
          turns = omega (arith, l.turns, forths_length t k l.knot c);
        };
        meets = meets_forth t k l.knot c acc.meets;
      }

  pub lasso_down : (p c : List ℕ) → Accepted (translated t k) (Buchi 1) [] p c → Accepted t (Buchi k) [] (map (under t k) p) (map (under t k) c)
  lasso_down p c acc =
      let l = acc.lasso in
      let u = source t k in
      let down = accepted_back (map (under_edge u k) p) (map (under_edge u k) c) (lifting.lasso_down u k (liftable t proper k few) p c acc) in
      subst (λ (es : List ℕ). Accepted t (Buchi k) [] es (map (under t k) c)) (sym (unders t proper k few (translated t k).start p l.knot l.leads))
      (subst (λ (es : List ℕ). Accepted t (Buchi k) [] (map (source_edge t k) (map (under_edge u k) p)) es)
      (sym (unders t proper k few l.knot c l.knot l.closes)) down)

  pub lasso_up : (a c : List ℕ) → Accepted t (Buchi k) [] a c → Closes t k a c
  lasso_up a c acc =
      let s = (source t k).start in
      let z = acc.lasso.knot in
      let b = source_edge t k in
      let fa = forths t k s a in
      let fc = forths t k z c in
      let r = lifting.lasso_up (source t k) k (liftable t proper k few) fa fc (accepted_forth a c acc) in
      let l = r.accepted.lasso in
      let cycles : map b fc ≡ c = backs_forth t proper k few z c z acc.lasso.closes in
      let prefix : map b fa ≡ a = backs_forth t proper k few s a z (from_start t proper k few a z acc.lasso.leads) in
      record {
        u = r.u;
        v = r.v;
        less = r.less;
        most = r.most;
        prefix = r.prefix;
        cycle = r.cycle;
        prefix_over = unders t proper k few (translated t k).start r.prefix l.knot l.leads ∙ ap (map b) r.prefix_under ∙ map_join b fa (turns r.u fc)
            ∙ rw (prefix, map_turns b r.u fc, cycles);
        cycle_over = unders t proper k few l.knot r.cycle l.knot l.closes ∙ ap (map b) r.cycle_under ∙ map_turns b (r.v - r.u) fc ∙ rw cycles;
        accepted = r.accepted;
      }
