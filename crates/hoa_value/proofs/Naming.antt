-- The names of AP:: what one more does, what the token behind them does, and whether one came before. Assumes nothing.
use mathlib.Core.Path.{◌≡◌, refl, sym, ap, ◌∙◌}
use mathlib.Core.Bool.{Bool, true, false, ◌||◌}
use mathlib.Core.List.{List, [], ◌∷◌, ◌++◌, reverse, reverse-cons}
use Prim.Native.Nat.{ℕ, ◌+◌, ◌-◌, ◌≤◌, ◌<◌}
use native.Mathlib.Omega.{arith}
use lib.Dec.{eqb}
use lib.ListN.{length, length-set, take, set}
use lib.Pointwise.{pointwise}
use borrow.Author.Tests.{eq-eqb, ne_eqb, eqb-true, eqb-false, lt-ltb, le-ltb, le-leb, lt-leb}
use Rattle.std.specs.Prelude.{map, Result, Ok, Err}
use Rattle.std.proofs.Common.{Bor, nat_eq}
use Rattle.std.proofs.Math.Bool.{or_assoc, or_comm}
use Rattle.std.specs.List.{list_any}
use Rattle.std.proofs.lemmas.List.{length-map, length-reverse, length-take-le, map-append, reverse-append, take_more_set}
use Rattle.hoa_tokens.specs.declared.BadToken.{BadToken}
use Rattle.hoa_tokens.specs.Bytes.{same}
use Rattle.hoa_tokens.specs.Token.{int, str}
use Rattle.hoa_tokens.specs.Stream.{tokens_at, part}
use Rattle.hoa_tokens.proofs.Sizes.{by_test}
use Rattle.hoa_step.specs.Machine.{run, wants_int}
use Rattle.hoa_step.specs.declared.IntAt.{IntAt}
use Rattle.hoa_step.specs.Wanted.{Next, Faulty, int_fault}
use Rattle.hoa_step.proofs.Runs.{first_goes, first_wrong, first_same, int_wrong, faulty_within}
use Rattle.hoa_value.specs.declared.Head.{Head}
use Rattle.hoa_value.specs.declared.token.Spot.{Spot}
use Rattle.hoa_value.specs.declared.names.NameRead.{NameRead}
use Rattle.hoa_value.specs.Head.{most_props}
use Rattle.hoa_value.specs.Heading.{props_int, names, head_step, on_names, on_props, name_came}
use Rattle.hoa_value.specs.inner.Pieces.{Spotted, is_text, misplaced_token}
use Rattle.hoa_value.specs.inner.Values.{PropsRead}
use Rattle.hoa_value.specs.inner.Names.{name_list, OneName, NamesOver, NamesRead}
use Rattle.hoa_value.proofs.Pieces.{text_piece, unfinished_is, name_not}

-- ---- the names that came

list_length : (ns : List (Bor (List ℕ))) → length (name_list ns) ≡ length ns
unfolding name_list
list_length ns = length-reverse (map (λ n. n.now) ns) ∙ length-map ns (λ n. n.now)

-- the last one stands in front
list_last : (ns : List (Bor (List ℕ))) (n : Bor (List ℕ)) → name_list (ns ++ n ∷ []) ≡ n.now ∷ name_list ns
unfolding name_list
list_last ns n = rw map-append (reverse-append (map (λ n. n.now) ns) (n.now ∷ []))

-- the test of two numbers is the same either way
eq_turn : (a b : ℕ) → nat_eq a b ≡ eqb b a
eq_turn a b =
    by_test (eqb a b) (λ e. e ∙ sym (eq-eqb b a (sym (eqb-true a b e))))
    (λ e. e ∙ sym (ne_eqb b a (λ (q : b ≡ a). eqb-false a b e (sym q))))

same_turn : (xs ys : List ℕ) → pointwise nat_eq ys xs ≡ same xs ys
unfolding same
same_turn [] [] = refl
same_turn [] (y ∷ ys) = refl
same_turn (x ∷ xs) [] = refl
same_turn (x ∷ xs) (y ∷ ys) = rw (eq_turn y x, same_turn xs ys)

came_append : (bs : List ℕ) (ms ns : List (List ℕ)) → name_came bs (ms ++ ns) ≡ (name_came bs ms || name_came bs ns)
came_append bs [] ns = refl
came_append bs (m ∷ ms) ns = rw (came_append bs ms ns) (sym (or_assoc (same bs m) (name_came bs ms) (name_came bs ns)))

came_one : (bs n : List ℕ) → name_came bs (n ∷ []) ≡ same bs n
came_one bs n = by_test (same bs n) (λ e. rw e) (λ e. rw e)

-- whether a name came, in whichever order they are asked
pub came_any : (bs : List ℕ) (ns : List (Bor (List ℕ))) → list_any (λ y. pointwise nat_eq y.now bs) ns ≡ name_came bs (name_list ns)
unfolding name_list
came_any bs [] = refl
came_any bs (n ∷ ns) =
    let ms = map (λ (x : Bor (List ℕ)). x.now) ns in
    let e : name_came bs (reverse (n.now ∷ ms)) ≡ (name_came bs (reverse ms) || same bs n.now) =
    ap (name_came bs) (reverse-cons n.now ms) ∙ came_append bs (reverse ms) (n.now ∷ []) ∙ ap (λ (b : Bool). name_came bs (reverse ms) || b) (came_one bs n.now)
    in
    rw (same_turn bs n.now, came_any bs ns) (or_comm (same bs n.now) (name_came bs (reverse ms)) ∙ sym e)

-- ---- one more name

module _ (text : List ℕ) (before : List (Bor (List ℕ))) (at : ℕ) (r : Spot) (s : Spotted text at r) where
  pub one_stops : is_text r.piece ≡ false → at ≤ length text → OneName text before at (Err (misplaced_token 41 r))
  unfolding head_step
  one_stops e l =
      record {
        says = λ a h m.
            first_wrong head_step text at s.is _
            (name_not a (name_list before) h s.token (rw s.piece e)
            ∙ rw (s.piece, list_length before, lt-ltb (length before) a m) (unfinished_is r.piece));
        stays = s.within l;
      }

  module _ (e : is_text r.piece ≡ true) where
    token_is : s.token ≡ str (part text (r.first + 1) (r.next - 1))
    token_is = s.quoted (text_piece r.piece e)

    pub one_next : Next text at r.first r.next s.token
    one_next = s.goes_on (rw (text_piece r.piece e))

    pub one_came : name_came (part text (r.first + 1) (r.next - 1)) (name_list before) ≡ true
        → OneName text before at (Err (record { number = 41; place = r.first }))
    unfolding head_step on_names
    one_came q =
        record {
          says = λ a h m. first_wrong head_step text at s.is 41 (rw (token_is, list_length before, lt-leb a (length before) m, q));
          stays = omega (arith, one_next.takes, one_next.within);
        }

    pub one_goes : (n : Bor (List ℕ)) → n.now ≡ part text (r.first + 1) (r.next - 1) → name_came (part text (r.first + 1) (r.next - 1)) (name_list before) ≡ false
        → OneName text before at (Ok (record { name = n; next = r.next }))
    unfolding head_step on_names
    one_goes n w q =
        record {
          says = λ a h m.
              first_goes head_step text at one_next.is (names a (n.now ∷ name_list before) h)
              (rw (token_is, list_length before, lt-leb a (length before) m, q, w));
          stays = (omega (arith, one_next.behind_at, one_next.takes), one_next.within);
        }

-- ---- behind all names

module _ (text : List ℕ) (at : ℕ) (r : Spot) (s : Spotted text at r) (l : at ≤ length text) where
  pub over_text : is_text r.piece ≡ true → NamesOver text at (Err (record { number = 41; place = r.first }))
  unfolding head_step on_names
  over_text e =
      record {
        says = λ a ns h m. first_wrong head_step text at s.is 41 (rw (s.quoted (text_piece r.piece e), m, le-leb a a (omega arith)));
        stays = s.within l;
      }

  pub over_not : is_text r.piece ≡ false → NamesOver text at (Ok at)
  unfolding head_step
  over_not e =
      record {
        says = λ a ns h m.
            first_same head_step text at s.is (name_not a ns h s.token (rw s.piece e) ∙ rw (m, le-ltb a a (omega arith)));
        stays = (omega arith, l);
      }

-- ---- one name after the other

-- so many names from `at` up to `next`
pub record NamesSoFar (text : List ℕ) (at count : ℕ) (ns : List (Bor (List ℕ))) (next i : ℕ) : Type 0 where
  pub says : (h : Head) → run head_step (tokens_at text at) (names count [] h) ≡ run head_step (tokens_at text next) (names count (name_list (take i ns)) h)
  pub long : length ns ≡ 6
  pub behind_at : at ≤ next
  pub within : next ≤ length text

pub names_none : (text : List ℕ) (at count : ℕ) (ns : List (Bor (List ℕ))) → length ns ≡ 6 → at ≤ length text → NamesSoFar text at count ns at 0
unfolding name_list
names_none text at count ns e l = record { says = λ h. refl; long = e; behind_at = omega arith; within = l }

module _ (text : List ℕ) (at count : ℕ) (ns : List (Bor (List ℕ))) (next i : ℕ) (f : NamesSoFar text at count ns next i) (few : i ≤ 6) where
  taken : length (take i ns) ≡ i
  taken = let l : i ≤ length ns = omega (arith, f.long) in length-take-le i ns l

  pub name_stops : (e : BadToken) → i < count → OneName text (take i ns) next (Err e) → NamesRead text at count (Err e)
  name_stops e l o = record { says = λ h. f.says h ∙ o.says count h (omega (arith, taken)); stays = o.stays }

  pub name_goes : (r : NameRead) → i < count → i < 6 → OneName text (take i ns) next (Ok r) → NamesSoFar text at count (set ns i r.name) r.next (i + 1)
  name_goes r l m o =
      record {
        says = λ h. f.says h ∙ o.says count h (omega (arith, taken)) ∙ rw (take_more_set ns i r.name (omega (arith, f.long)), list_last (take i ns) r.name);
        long = length-set ns i r.name ∙ f.long;
        behind_at = omega (arith, f.behind_at, o.stays.0);
        within = o.stays.1;
      }

  all_names : i ≡ count → length (name_list (take i ns)) ≡ count
  all_names e = list_length (take i ns) ∙ taken ∙ e

  pub names_end : (r : Result ℕ BadToken) → i ≡ count → NamesOver text next r → NamesRead text at count r
  names_end (Err e) l o = record { says = λ h. f.says h ∙ o.says count (name_list (take i ns)) h (all_names l); stays = o.stays }
  names_end (Ok q) l o =
      record {
        says = λ h. f.says h ∙ o.says count (name_list (take i ns)) h (all_names l);
        stays = (omega (arith, f.behind_at, o.stays.0), o.stays.1);
      }

-- ---- AP:

pub props_stop : (text : List ℕ) (at : ℕ) (e : BadToken) → Faulty text at int_fault e.number e.place → at ≤ length text → PropsRead text at (Err e)
unfolding head_step
props_stop text at e f l =
    record {
      says = λ h. int_wrong head_step text at (props_int h) (on_props h) f (λ t. refl);
      stays = faulty_within f l;
    }

module _ (text : List ℕ) (at : ℕ) (i : IntAt) (n : Next text at i.place i.next (int i.value)) where
  pub props_many : most_props < i.value → PropsRead text at (Err (record { number = 42; place = i.place }))
  unfolding head_step wants_int
  props_many l =
      record {
        says = λ h. first_wrong head_step text at n.is 42 (rw (lt-ltb most_props i.value l));
        stays = omega (arith, n.takes, n.within);
      }

  module _ (l : i.value ≤ most_props) where
    props_goes : (h : Head) → run head_step (tokens_at text at) (props_int h) ≡ run head_step (tokens_at text i.next) (names i.value [] h)
    unfolding head_step wants_int
    props_goes h = first_goes head_step text at n.is (names i.value [] h) (rw (le-ltb most_props i.value l))

    pub props_wrong : (e : BadToken) → NamesRead text i.next i.value (Err e) → PropsRead text at (Err e)
    props_wrong e o = record { says = λ h. props_goes h ∙ o.says h; stays = o.stays }

    pub props_end : (q : ℕ) → NamesRead text i.next i.value (Ok q) → PropsRead text at (Ok (record { value = i.value; next = q }))
    props_end q o =
        record {
          says = λ h. props_goes h ∙ o.says h;
          stays = (omega (arith, n.behind_at, n.takes, o.stays.0), o.stays.1);
        }
