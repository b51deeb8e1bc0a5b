-- The kept edges by states: what the tables hold is what `sorted` says. Assumes nothing.
use mathlib.Core.Path.{◌≡◌, refl, ap, ◌∙◌}
use mathlib.Core.List.{List, [], ◌∷◌, ◌++◌, map, map-append}
use Prim.Native.Nat.{ℕ, zero, suc, ◌+◌, ◌-◌, ◌≤◌, ◌<◌}
use native.Mathlib.Omega.{arith}
use native.Mathlib.Numerals.{add-one}
use borrow.Author.Tests.{eqb-true, leb-true, leb-false}
use lib.Dec.{eqb, leb}
use lib.ListN.{length, take, drop, replicate, length-append, length-take, length-drop, length-map, length-replicate}
use lib.Seq.{take-append-le, drop-append-le}
use borrow.Rule.Slice.PartMut.{put_mid}
use Rattle.std.proofs.lemmas.Slice.{take-put_mid}
use Rattle.hoa_tokens.proofs.Sizes.{by_test}
use Rattle.job_text.specs.Value.{Edge, pad_to}
use Rattle.job_text.specs.Job.{most_job_edges}
use Rattle.hoa_kept.specs.Sorted.{leaving, sorted}
use Rattle.hoa_kept.specs.inner.Copied.{between, first_of, end_of, total, states_of, parts_of, RowsCopied}

-- ---- a part that is written over

-- the cells m up to next become a value
pub filled : (m next v : ℕ) (xs ys : List ℕ) → m ≤ next → next ≤ length xs → ys ≡ replicate (length (take (next - m) (drop m xs))) v
    → take next (put_mid m (next - m) xs ys) ≡ take m xs ++ replicate (next - m) v
filled m next v xs ys l h e =
    let size : length (take (next - m) (drop m xs)) ≡ next - m = omega (arith, length-take (next - m) (drop m xs), length-drop m xs) in
    let is : ys ≡ replicate (next - m) v = e ∙ rw size in
    rw is (take-put_mid m (next - m) xs (replicate (next - m) v) next (omega (arith, length-replicate (next - m) v)) (omega arith))

-- they become part of a list
pub copied : (m next first end : ℕ) (xs source ys : List ℕ) → next ≡ m + (end - first) → next ≤ length xs → first ≤ end → end ≤ length source
    → ys ≡ between first end source → take next (put_mid m (next - m) xs ys) ≡ take m xs ++ between first end source
copied m next first end xs source ys n h l g e =
    let size : length (between first end source) ≡ end - first = omega (arith, length-take (end - first) (drop first source), length-drop first source) in
    rw e (take-put_mid m (next - m) xs (between first end source) next (omega arith) (omega arith))

-- ---- edges by states

-- the edges of a state all leave it
pub leaving_from : (q : ℕ) (es : List Edge) → map (λ (e : Edge). e.from) (leaving q es) ≡ replicate (length (leaving q es)) q
leaving_from q [] = refl
leaving_from q (e ∷ es) =
    by_test (eqb e.from q)
    (λ t. rw (t, eqb-true e.from q t) (ap (λ (xs : List ℕ). q ∷ xs) (leaving_from q es)))
    (λ t. rw t (leaving_from q es))

-- edges that stand together are numbers that stand together
pub map_take : (part : Edge → ℕ) (n : ℕ) (es : List Edge) → map part (take n es) ≡ take n (map part es)
map_take part zero es = refl
map_take part (suc n) [] = refl
map_take part (suc n) (e ∷ es) = ap (λ (xs : List ℕ). part e ∷ xs) (map_take part n es)

pub map_drop : (part : Edge → ℕ) (n : ℕ) (es : List Edge) → map part (drop n es) ≡ drop n (map part es)
map_drop part zero es = refl
map_drop part (suc n) [] = refl
map_drop part (suc n) (e ∷ es) = map_drop part n es

-- the zeros behind the edges do not matter
pub between_padded : (n first end : ℕ) (xs : List ℕ) → first ≤ end → end ≤ length xs → between first end (pad_to n xs) ≡ between first end xs
between_padded n first end xs f l =
    rw (
      drop-append-le first xs (replicate (n - length xs) 0) (omega arith),
      take-append-le (end - first) (drop first xs) (replicate (n - length xs) 0) (omega (arith, length-drop first xs)),
    )

-- ---- the tables

-- where the edges of each state stand
pub record Parted (es : List Edge) (firsts ends : List ℕ) : Type 0 where
  pub parts : (q : ℕ) → leaving q es ≡ take (end_of ends q - first_of firsts q) (drop (first_of firsts q) es)
  pub ordered : (q : ℕ) → first_of firsts q ≤ end_of ends q
  pub within : (q : ℕ) → end_of ends q ≤ length es

module _ (es : List Edge) (firsts ends : List ℕ) (d : Parted es firsts ends) where
  pub leaving_length : (q : ℕ) → length (leaving q es) ≡ end_of ends q - first_of firsts q
  leaving_length q =
      rw (d.parts q)
      (omega (arith, length-take (end_of ends q - first_of firsts q) (drop (first_of firsts q) es), length-drop (first_of firsts q) es, d.ordered q, d.within q))

  pub total_sorted : (n : ℕ) → total firsts ends n ≡ length (sorted n es)
  total_sorted zero = refl
  total_sorted (suc n) = omega (arith, total_sorted n, leaving_length n, length-append (sorted n es) (leaving n es))

  pub states_sorted : (n : ℕ) → states_of firsts ends n ≡ map (λ (e : Edge). e.from) (sorted n es)
  states_sorted zero = refl
  states_sorted (suc n) =
      rw (map-append (λ (e : Edge). e.from) (sorted n es) (leaving n es), leaving_from n es, states_sorted n, leaving_length n)

  pub parts_sorted : (part : Edge → ℕ) (source : List ℕ) → source ≡ pad_to most_job_edges (map part es) → (n : ℕ)
      → parts_of firsts ends source n ≡ map part (sorted n es)
  parts_sorted part source e zero = refl
  parts_sorted part source e (suc n) =
      let f = first_of firsts n in
      let g = end_of ends n in
      let h : between f g source ≡ map part (leaving n es) =
      rw (
        e,
        between_padded most_job_edges f g (map part es) (d.ordered n) (omega (arith, d.within n, length-map es part)),
        ← map_drop part f es,
        ← map_take part (g - f) (drop f es),
        d.parts n,
      )
      in
      rw (map-append part (sorted n es) (leaving n es), parts_sorted part source e n, h)

-- ---- state by state

pub total_le : (firsts ends : List ℕ) (q n : ℕ) → q ≤ n → total firsts ends q ≤ total firsts ends n
total_le firsts ends q zero l = let e : q ≡ 0 = omega arith in rw e (omega arith)
total_le firsts ends q (suc n) l =
    by_test (leb q n) (λ t. omega (arith, total_le firsts ends q n (leb-true q n t)))
    (λ t. let e : q ≡ suc n = omega (arith, leb-false q n t) in rw e (omega arith))

-- what holds while the states are copied
pub record Sorting (firsts ends tos sets from to marks : List ℕ) (q m : ℕ) : Type 0 where
  pub many : m ≡ total firsts ends q
  pub front : RowsCopied q firsts ends tos sets from to marks

pub sorting_none : (firsts ends tos sets from to marks : List ℕ) → Sorting firsts ends tos sets from to marks 0 0
sorting_none firsts ends tos sets from to marks = record { many = refl; front = record { froms = refl; targets = refl; unions = refl } }

module _ (firsts ends tos sets from to marks : List ℕ) (q m : ℕ) (h : Sorting firsts ends tos sets from to marks q m) where
  -- the next state finds room
  pub sorting_room : (states : ℕ) → q < states → m + (end_of ends q - first_of firsts q) ≤ total firsts ends states
  sorting_room states l = omega (arith, h.many, total_le firsts ends (suc q) states l)

  pub sorting_more : (from' to' marks' : List ℕ) (first next : ℕ) → first ≡ first_of firsts q → next ≡ m + (end_of ends q - first)
      → take next from' ≡ take m from ++ replicate (next - m) q → take next to' ≡ take m to ++ between first (end_of ends q) tos
      → take next marks' ≡ take m marks ++ between first (end_of ends q) sets
      → Sorting firsts ends tos sets from' to' marks' (q + 1) next
  sorting_more from' to' marks' first next e n x y z =
      let k : next ≡ total firsts ends (suc q) = omega (arith, n, h.many, ap (λ (i : ℕ). end_of ends q - i) e) in
      let d : next - m ≡ end_of ends q - first_of firsts q = omega (arith, n, ap (λ (i : ℕ). end_of ends q - i) e) in
      let s : q + 1 ≡ suc q = add-one q in
      record {
        many = rw s k;
        front =
            rw s
            (record {
              froms = rw (d, k, h.many, h.front.froms) at x;
              targets = rw (k, e, h.many, h.front.targets) at y;
              unions = rw (k, e, h.many, h.front.unions) at z;
            });
      }
