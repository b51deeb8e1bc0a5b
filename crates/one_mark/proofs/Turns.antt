-- Lassos and lifted lassos: a lifted accepted lasso lies over an accepted one, and over an accepted lasso some turns of the cycle close
-- to an accepted lifted one. Assumes nothing.
use mathlib.Core.Path.{◌≡◌, refl, sym, ap, ◌∙◌, subst}
use mathlib.Core.List.Memᴰ
use mathlib.Core.List.{List, [], ◌++◌, map, append_assoc}
use Prim.Native.Nat.{ℕ, zero, suc, ◌+◌, ◌-◌, ◌≤◌, ◌<◌}
use native.Mathlib.Nat.{zero-add, suc-add}
use native.Mathlib.Omega.{arith}
use lib.ListN.{length, length-append, length-map}
use Rattle.marks.specs.Mark.{Has}
use Rattle.marks.proofs.Cases.{below}
use Rattle.table.specs.declared.Acceptance.TheVariants.{Buchi}
use Rattle.table.specs.Table.{Table, Walk, marks_of}
use Rattle.table.specs.Condition.{Accepted}
use Rattle.table.proofs.Walks.{walk_append, marks_grow}
use Rattle.climbing.specs.Climb.{levels, number}
use Rattle.climbing.specs.Translated.{lifted}
use Rattle.one_mark.specs.Over.{turns}
use Rattle.one_mark.proofs.Correspond.{under_edge, level_after, over, level_below, level_append, Liftable, walk_up, unders_over, over_length, walk_down}
use Rattle.one_mark.proofs.Laps.{tops, topped, turn_tops, marked_tops, tops_marked}
use Rattle.climbing.proofs.Numbers.{number_same}
use Rattle.one_mark.proofs.Pigeon.{twice}

-- ---- turns

turns_add : (u d : ℕ) (c : List ℕ) → turns (u + d) c ≡ turns u c ++ turns d c
turns_add zero d c = rw zero-add
turns_add (suc u) d c = rw (suc-add u d, append_assoc) (ap (λ xs. c ++ xs) (turns_add u d c))

walk_turns : (t : Table) (z : ℕ) (c : List ℕ) (u : ℕ) → Walk t z c z → Walk t z (turns u c) z
walk_turns t z c zero w = refl
walk_turns t z c (suc u) w = walk_append t z c z (turns u c) z w (walk_turns t z c u w)

-- u turns of c and then v - u further ones close to an accepted lifted lasso
pub record Closing (t : Table) (k : ℕ) (a c : List ℕ) : Type 0 where
  pub u : ℕ
  pub v : ℕ
  pub less : u < v
  pub most : v ≤ levels k
  pub prefix : List ℕ
  pub cycle : List ℕ
  pub prefix_under : map (under_edge t k) prefix ≡ a ++ turns u c
  pub cycle_under : map (under_edge t k) cycle ≡ turns (v - u) c
  pub accepted : Accepted (lifted t k) (Buchi 1) [] prefix cycle

module _ (t : Table) (k : ℕ) (lift : Liftable t k) where
  -- ---- down

  -- a cycle that passes the top and comes back to its level bears every mark
  whole_cycle : (j : ℕ) (es : List ℕ) → level_after t k j es ≡ j → 0 < tops t k j es → (i : ℕ) → i < k → Has i (marks_of t es)
  whole_cycle j es back some i l =
      let laps = topped t k j es some in
      below i j (λ h. laps.low i (omega arith)) (λ h. laps.high i h l)

  pub lasso_down : (p c : List ℕ) → Accepted (lifted t k) (Buchi 1) [] p c → Accepted t (Buchi k) [] (map (under_edge t k) p) (map (under_edge t k) c)
  lasso_down p c acc =
      let lasso = acc.lasso in
      let a = map (under_edge t k) p in
      let es = map (under_edge t k) c in
      let j = level_after t k 0 a in
      let l : j < levels k = level_below t k 0 a (omega arith) in
      let before = walk_down t k lift t.start 0 p lasso.knot (omega arith) lasso.leads in
      let z = before.end in
      let after = walk_down t k lift z j c (number k z j) l (subst (λ (x : ℕ). Walk (lifted t k) x c x) before.ends lasso.closes) in
      let back = number_same (levels k) z j after.end (level_after t k j es) l (level_below t k j es l) after.ends in
      let some : 0 < tops t k j es = marked_tops t k lift z j es after.end l after.walk
      (subst (λ (qs : List ℕ). Has 0 (marks_of (lifted t k) qs)) after.same (acc.meets 0 (omega arith))) in
      record {
        lasso = record {
          knot = z;
          leads = before.walk;
          closes = subst (λ (x : ℕ). Walk t z es x) (sym back.0) after.walk;
          turns = omega (arith, lasso.turns, length-map c (under_edge t k));
        };
        meets = whole_cycle j es (sym back.1) some;
      }

  -- ---- up

  -- the levels at the knot after u and after v turns agree
  module _ (a c : List ℕ) (acc : Accepted t (Buchi k) [] a c) (u v : ℕ) (less : u < v)
      (agree : level_after t k (level_after t k 0 a) (turns u c) ≡ level_after t k (level_after t k 0 a) (turns v c)) where
    -- the level there
    abbrev level : ℕ
    level = level_after t k 0 (a ++ turns u c)

    level_low : level < levels k
    level_low = level_below t k 0 (a ++ turns u c) (omega arith)

    level_back : level_after t k level (turns (v - u) c) ≡ level
    level_back =
        let j = level_after t k 0 a in
        let at : level ≡ level_after t k j (turns u c) = level_append t k 0 a (turns u c) in
        let whole : u + (v - u) ≡ v = omega arith in
        ap (λ (h : ℕ). level_after t k h (turns (v - u) c)) at ∙ sym (level_append t k j (turns u c) (turns (v - u) c))
        ∙ ap (level_after t k j) (sym (turns_add u (v - u) c) ∙ ap (λ (n : ℕ). turns n c) whole) ∙ sym agree ∙ sym at

    some_turn : v - u ≡ suc (v - suc u)
    some_turn = omega arith

    turns_long : 0 < length (turns (v - u) c)
    turns_long = rw some_turn (omega (arith, length-append c (turns (v - suc u) c), acc.lasso.turns))

    turns_bear : (i : ℕ) → i < k → Has i (marks_of t (turns (v - u) c))
    turns_bear i l = rw some_turn (marks_grow t c (c ++ turns (v - suc u) c) (λ e m. Memᴰ.append_left (turns (v - suc u) c) m) i (acc.meets i l))

    prefix_walk : Walk t t.start (a ++ turns u c) acc.lasso.knot
    prefix_walk =
        let z = acc.lasso.knot in
        walk_append t t.start a z (turns u c) z acc.lasso.leads (walk_turns t z c u acc.lasso.closes)

    cycle_walk : Walk t acc.lasso.knot (turns (v - u) c) acc.lasso.knot
    cycle_walk = walk_turns t acc.lasso.knot c (v - u) acc.lasso.closes

    cycle_marked : Has 0 (marks_of (lifted t k) (over t k level (turns (v - u) c)))
    cycle_marked =
        tops_marked t k lift acc.lasso.knot level (turns (v - u) c) acc.lasso.knot level_low cycle_walk
        (turn_tops t k level (turns (v - u) c) level_low turns_long turns_bear level_back)

    closed : Accepted (lifted t k) (Buchi 1) [] (over t k 0 (a ++ turns u c)) (over t k level (turns (v - u) c))
    closed =
        let z = acc.lasso.knot in
        record {
          lasso = record {
            knot = number k z level;
            leads = walk_up t k lift t.start 0 (a ++ turns u c) z (omega arith) prefix_walk;
            closes = rw level_back at (walk_up t k lift z level (turns (v - u) c) z level_low cycle_walk);
            turns = omega (arith, over_length t k lift level (turns (v - u) c), turns_long);
          };
          meets = λ i l. let e : 0 ≡ i = omega arith in subst (λ (x : ℕ). Has x (marks_of (lifted t k) (over t k level (turns (v - u) c)))) e cycle_marked;
        }

  pub lasso_up : (a c : List ℕ) → Accepted t (Buchi k) [] a c → Closing t k a c
  lasso_up a c acc =
      let z = acc.lasso.knot in
      let j = level_after t k 0 a in
      let found = twice (levels k) (λ i. level_after t k j (turns i c)) (λ i l. level_below t k j (turns i c) (level_below t k 0 a (omega arith))) in
      let u = found.u in
      let v = found.v in
      record {
        u = u;
        v = v;
        less = found.less;
        most = found.most;
        prefix = over t k 0 (a ++ turns u c);
        cycle = over t k (level_after t k 0 (a ++ turns u c)) (turns (v - u) c);
        prefix_under = unders_over t k lift t.start 0 (a ++ turns u c) z (omega arith) (prefix_walk a c acc u v found.less found.agree);
        cycle_under = unders_over t k lift z (level_after t k 0 (a ++ turns u c)) (turns (v - u) c) z
            (level_below t k 0 (a ++ turns u c) (omega arith)) (cycle_walk a c acc u v found.less found.agree);
        accepted = closed a c acc u v found.less found.agree;
      }
