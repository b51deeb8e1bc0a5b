-- The edges that are read, in the lent tables; and the whole promise. Assumes nothing.
use Rattle.std.specs.Prelude.{Result, Ok}
use mathlib.Core.Path.{◌≡◌, refl, sym, ap, ◌∙◌}
use mathlib.Core.Bool.{true, false, ◌&&◌}
use mathlib.Core.List.{List, [], ◌∷◌, map, append-nil}
use Prim.Native.Nat.{ℕ, zero, suc, ◌-◌, ◌≤◌, ◌<◌}
use native.Mathlib.Omega.{arith}
use borrow.Author.Tests.{eq-eqb, ne_eqb, eqb-true, eqb-false, leb-true}
use lib.Dec.{eqb, leb}
use lib.ListN.{length, take, drop, replicate, length-append, length-map, length-replicate, length-take, length-drop}
use lib.Seq.{length-take-le}
use borrow.Rule.Slice.PartMut.{put_mid}
use Rattle.std.proofs.lemmas.List.{drop_all}
use Rattle.marks.proofs.Cases.{both_true}
use Rattle.hoa_tokens.proofs.Sizes.{by_test}
use Rattle.job_text.specs.Value.{Edge, pad_to}
use Rattle.job_text.specs.Job.{most_job_edges}
use Rattle.hoa_step.specs.Machine.{wrong_at}
use Rattle.hoa_entry.specs.declared.Limits.{Limits}
use Rattle.hoa_rows.specs.declared.RowsRead.{RowsRead}
use Rattle.hoa_tokens.specs.declared.BadToken.{BadToken}
use Rattle.hoa_tokens.specs.Stream.{bad_at}
use Rattle.hoa_kept.specs.declared.held.RowsSoFar.{RowsSoFar}
use Rattle.hoa_kept.specs.Sorted.{leaving, sorted}
use Rattle.hoa_rows.specs.Lent.{rows_end, fits, RowsInto}
use Rattle.hoa_rows.specs.Worth.{AllFit, Worth}
use Rattle.hoa_rows.specs.inner.Turns.{kept_by, Finished}
use Rattle.hoa_kept.specs.inner.Copied.{states_of, parts_of, Fitting, RowsCopied}
use Rattle.hoa_rows.specs.inner.Handed.{Handing, Handed}
use Rattle.hoa_kept.proofs.Copying.{Parted, total_sorted, states_sorted, parts_sorted}
use Rattle.hoa_rows.proofs.Worth.{worth}

-- ---- nothing is lost by sorting

leaving_in : (n : ℕ) (e : Edge) (es : List Edge) → e.from ≡ n → length (leaving n (e ∷ es)) ≡ suc (length (leaving n es))
leaving_in n e es q = rw (eq-eqb e.from n q)

leaving_out : (n : ℕ) (e : Edge) (es : List Edge) → (e.from ≡ n → ⊥) → length (leaving n (e ∷ es)) ≡ length (leaving n es)
leaving_out n e es q = rw (ne_eqb e.from n q)

sorted_out : (n : ℕ) (e : Edge) (es : List Edge) → n ≤ e.from → length (sorted n (e ∷ es)) ≡ length (sorted n es)
sorted_out zero e es l = refl
sorted_out (suc n) e es l =
    omega (
      arith,
      length-append (sorted n (e ∷ es)) (leaving n (e ∷ es)),
      length-append (sorted n es) (leaving n es),
      sorted_out n e es (omega arith),
      leaving_out n e es (λ (q : e.from ≡ n). omega arith),
    )

sorted_in : (n : ℕ) (e : Edge) (es : List Edge) → e.from < n → length (sorted n (e ∷ es)) ≡ suc (length (sorted n es))
sorted_in zero e es l = absurd (omega arith)
sorted_in (suc n) e es l =
    let a = length-append (sorted n (e ∷ es)) (leaving n (e ∷ es)) in
    let b = length-append (sorted n es) (leaving n es) in
    by_test (eqb e.from n)
    (λ t. let q = eqb-true e.from n t in omega (arith, a, b, sorted_out n e es (omega arith), leaving_in n e es q))
    (λ t. let q = eqb-false e.from n t in omega (arith, a, b, sorted_in n e es (omega arith), leaving_out n e es q))

sorted_none : (n : ℕ) → length (sorted n []) ≡ 0
sorted_none zero = refl
sorted_none (suc n) = omega (arith, sorted_none n, length-append (sorted n []) (leaving n []))

pub sorted_all : (n c : ℕ) (es : List Edge) → AllFit n c es → length (sorted n es) ≡ length es
sorted_all n c [] h = sorted_none n
sorted_all n c (e ∷ es) h = sorted_in n e es h.0.leaves ∙ ap suc (sorted_all n c es h.1)

-- ---- the lent tables

-- long enough
pub record Long (m : ℕ) (from to marks : List ℕ) : Type 0 where
  pub from_room : m ≤ length from
  pub to_room : m ≤ length to
  pub marks_room : m ≤ length marks

pub long : (m : ℕ) (from to marks : List ℕ) → fits m from to marks ≡ true → Long m from to marks
long m from to marks e =
    let a = both_true (leb m (length from)) (leb m (length to) && leb m (length marks)) e in
    let b = both_true (leb m (length to)) (leb m (length marks)) a.1 in
    record { from_room = leb-true m (length from) a.0; to_room = leb-true m (length to) b.0; marks_room = leb-true m (length marks) b.1 }

pub fitting : (s : RowsSoFar) (from to marks : List ℕ) → Handing s → fits s.kept from to marks ≡ true → Fitting s.count s.firsts s.ends s.tos s.sets from to marks
fitting s from to marks h e =
    let g = long s.kept from to marks e in
    record {
      few = h.few;
      targets = h.targets;
      unions = h.unions;
      ordered = h.ordered;
      within = h.within;
      from_room = rw h.many g.from_room;
      to_room = rw h.many g.to_room;
      marks_room = rw h.many g.marks_room;
    }

-- the cells from m on become ys, which are zeros
abbrev pub cleared : ℕ → List ℕ → List ℕ → List ℕ
cleared m cells ys = put_mid m (length cells - m) cells ys

abbrev pub Zeros : ℕ → List ℕ → List ℕ → Type 0
Zeros m cells ys = ys ≡ replicate (length (take (length cells - m) (drop m cells))) 0

-- what is written, and zeros after it
padded : (m : ℕ) (xs cells before ys : List ℕ) → m ≤ length before → take m cells ≡ xs → length cells ≡ length before
    → Zeros m cells ys → cleared m cells ys ≡ pad_to (length before) xs
padded m xs cells before ys l t a e =
    let size : length xs ≡ m = ap length (sym t) ∙ length-take-le m cells (omega (arith, a)) in
    let n : length (take (length cells - m) (drop m cells)) ≡ length before - length xs =
    omega (arith, a, size, length-take (length cells - m) (drop m cells), length-drop m cells) in
    let rest : drop (length cells - m) (drop m cells) ≡ [] = drop_all (length cells - m) (drop m cells) (omega (arith, length-drop m cells)) in
    let zeros : ys ≡ replicate (length before - length xs) 0 = e ∙ rw n in
    rw (rest, append-nil, t, zeros)

module _ (s : RowsSoFar) (from to marks : List ℕ) where
  pub handed_short : fits s.kept from to marks ≡ false → Handed s from to marks from to marks (bad_at 11 0)
  handed_short e = record { reading = rw e; froms = rw e; targets = rw e; unions = rw e }

  pub handed_all : Handing s → fits s.kept from to marks ≡ true → (from₁ to₁ marks₁ from₂ to₂ marks₂ : List ℕ)
      → RowsCopied s.count s.firsts s.ends s.tos s.sets from₁ to₁ marks₁ → length from₁ ≡ length from → length to₁ ≡ length to → length marks₁ ≡ length marks
      → Zeros s.kept from₁ from₂ → Zeros s.kept to₁ to₂ → Zeros s.kept marks₁ marks₂
      → Handed s from to marks (cleared s.kept from₁ from₂) (cleared s.kept to₁ to₂) (cleared s.kept marks₁ marks₂)
      (Ok (record { states = s.count; edges = s.kept }))
  handed_all h e from₁ to₁ marks₁ from₂ to₂ marks₂ c a a' a'' f f' f'' =
      let g = long s.kept from to marks e in
      record {
        reading = rw e;
        froms = rw e (padded s.kept (states_of s.firsts s.ends s.count) from₁ from from₂ g.from_room (rw h.many at c.froms) a f);
        targets = rw e (padded s.kept (parts_of s.firsts s.ends s.tos s.count) to₁ to to₂ g.to_room (rw h.many at c.targets) a' f');
        unions = rw e (padded s.kept (parts_of s.firsts s.ends s.sets s.count) marks₁ marks marks₂ g.marks_room (rw h.many at c.unions) a'' f'');
      }

-- ---- the whole promise

pub rows_refused : (l : Limits) (text : List ℕ) (at : ℕ) (from to marks : List ℕ) (n p : ℕ) → rows_end l text at ≡ wrong_at n p
    → RowsInto l text at from to marks from to marks (bad_at n p)
rows_refused l text at from to marks n p e = record { reading = rw e; froms = refl; tos = refl; sets = refl }

module _ (l : Limits) (text : List ℕ) (at : ℕ) (s : RowsSoFar) (f : Finished (rows_end l text at) s) where
  parted : Parted f.rows.edges s.firsts s.ends
  parted = record { parts = f.held.parts; ordered = f.held.ordered; within = f.held.within }

  worthy : Worth l (kept_by f.rows)
  worthy = worth l text at (kept_by f.rows) f.rest f.is

  all : length (sorted (length f.rows.seen) f.rows.edges) ≡ s.kept
  all = sorted_all (length f.rows.seen) l.marks f.rows.edges worthy.fitting ∙ sym f.held.kept

  size : (xs : List ℕ) → length xs ≤ most_job_edges → length (pad_to most_job_edges xs) ≡ 512
  size xs h = omega (arith, length-append xs (replicate (most_job_edges - length xs) 0), length-replicate {A = ℕ} (most_job_edges - length xs) 0)

  pub handing : Handing s
  handing =
      record {
        few = omega (arith, worthy.few, f.held.count);
        room = omega (arith, worthy.room, f.held.kept);
        many = rw f.held.count (total_sorted f.rows.edges s.firsts s.ends parted (length f.rows.seen) ∙ all);
        ordered = f.held.ordered;
        within = λ q. omega (arith, f.held.within q, worthy.room);
        targets =
            ap length f.held.targets ∙ size (map (λ (e : Edge). e.to) f.rows.edges) (omega (arith, worthy.room, length-map f.rows.edges (λ (e : Edge). e.to)));
        unions =
            ap length f.held.unions ∙ size (map (λ (e : Edge). e.marks) f.rows.edges) (omega (arith, worthy.room, length-map f.rows.edges (λ (e : Edge). e.marks)));
      }

  pub rows_handed : (from to marks from' to' marks' : List ℕ) (r : Result RowsRead BadToken) → Handed s from to marks from' to' marks' r
      → RowsInto l text at from to marks from' to' marks' r
  rows_handed from to marks from' to' marks' r h = by_test (fits s.kept from to marks) yes no
    where
      n : ℕ
      n = length f.rows.seen

      es : List Edge
      es = f.rows.edges

      yes : fits s.kept from to marks ≡ true → RowsInto l text at from to marks from' to' marks' r
      yes t =
          let k : r ≡ Ok (record { states = s.count; edges = s.kept }) = h.reading ∙ rw t in
          record {
            reading = rw (f.is, all, t, ← f.held.count) k;
            froms = rw (k, f.is) (h.froms ∙ rw (t, f.held.count, states_sorted es s.firsts s.ends parted n));
            tos = rw (k, f.is) (h.targets ∙ rw (t, f.held.count, parts_sorted es s.firsts s.ends parted (λ (e : Edge). e.to) s.tos f.held.targets n));
            sets = rw (k, f.is) (h.unions ∙ rw (t, f.held.count, parts_sorted es s.firsts s.ends parted (λ (e : Edge). e.marks) s.sets f.held.unions n));
          }

      no : fits s.kept from to marks ≡ false → RowsInto l text at from to marks from' to' marks' r
      no t =
          let k : r ≡ bad_at 11 0 = h.reading ∙ rw t in
          record {
            reading = rw (f.is, all, t) k;
            froms = rw k (h.froms ∙ rw t);
            tos = rw k (h.targets ∙ rw t);
            sets = rw k (h.unions ∙ rw t);
          }
