-- Laws of writing: runs written one behind the other make one run, and no output changes its length. Assumes nothing.
use mathlib.Core.Path.{◌≡◌, ap, ◌∙◌}
use mathlib.Core.List.{List}
use Prim.Native.Nat.{ℕ, ◌+◌, ◌*◌, ◌<◌}
use native.Mathlib.Nat.{zero-add}
use native.Mathlib.Numerals.{add-one}
use native.Mathlib.Omega.{arith}
use lib.ListN.{length, set}
use lib.Seq.{sets, length-sets}
use Rattle.climbing.specs.Place.{cells, each}
use Rattle.lifting.specs.inner.{Wrote, Room, LevelWritten, RowWritten, part_from, part_to, part_marks}
use Rattle.climbing.proofs.Lists.{length_cells, sets_append, sets_more, each_more, each_even}
use Rattle.climbing.proofs.Numbers.{level_fits}

-- the three outputs are as long as they were
pub record Kept (l a b l' a' b' : List ℕ) : Type 0 where
  pub leaves : length l' ≡ length l
  pub arrives : length a' ≡ length a
  pub bears : length b' ≡ length b

module _ {l a b l' a' b' : List ℕ} where
  pub wrote_kept : {at : ℕ} {xs ys zs : List ℕ} → Wrote at xs ys zs l a b l' a' b' → Kept l a b l' a' b'
  wrote_kept {at} {xs} {ys} {zs} w =
      record {
        leaves = ap length w.from_cells ∙ length-sets l at xs;
        arrives = ap length w.to_cells ∙ length-sets a at ys;
        bears = ap length w.marks_cells ∙ length-sets b at zs;
      }

  -- one cell more in each output
  pub wrote_cell : (at : ℕ) (f g h : ℕ → ℕ) (n : ℕ) → Wrote at (cells f 0 n) (cells g 0 n) (cells h 0 n) l a b l' a' b'
      → {x y z : ℕ} → x ≡ f n → y ≡ g n → z ≡ h n
      → Wrote at (cells f 0 (n + 1)) (cells g 0 (n + 1)) (cells h 0 (n + 1)) l a b (set l' (at + n) x) (set a' (at + n) y) (set b' (at + n) z)
  wrote_cell at f g h n w p q r =
      record {
        from_cells = rw (w.from_cells, p) (sets_more l at f n);
        to_cells = rw (w.to_cells, q) (sets_more a at g n);
        marks_cells = rw (w.marks_cells, r) (sets_more b at h n);
      }

-- what was written at p stands behind the lists of f before it
behind : (at p n : ℕ) (f : ℕ → List ℕ) (l l' l'' : List ℕ) → l' ≡ sets l at (each f 0 n) → l'' ≡ sets l' p (f n) → p ≡ at + length (each f 0 n)
    → l'' ≡ sets l at (each f 0 (n + 1))
behind at p n f l l' l'' q r e = r ∙ rw (q, e, add-one n, each_more f 0 n, zero-add n, sets_append l at (each f 0 n) (f n))

module _ {l a b l' a' b' l'' a'' b'' : List ℕ} where
  -- one list more in each output
  pub wrote_run : (at p : ℕ) (f g h : ℕ → List ℕ) (n : ℕ)
      → Wrote at (each f 0 n) (each g 0 n) (each h 0 n) l a b l' a' b' → Wrote p (f n) (g n) (h n) l' a' b' l'' a'' b''
      → p ≡ at + length (each f 0 n) → p ≡ at + length (each g 0 n) → p ≡ at + length (each h 0 n)
      → Wrote at (each f 0 (n + 1)) (each g 0 (n + 1)) (each h 0 (n + 1)) l a b l'' a'' b''
  wrote_run at p f g h n w v ef eg eh =
      record {
        from_cells = behind at p n f l l' l'' w.from_cells v.from_cells ef;
        to_cells = behind at p n g a a' a'' w.to_cells v.to_cells eg;
        marks_cells = behind at p n h b b' b'' w.marks_cells v.marks_cells eh;
      }

  -- ---- a row's levels

  -- one level more is written behind those before
  pub level_behind : (k s j at p : ℕ) (to marks : List ℕ) → RowWritten k s j at to marks l a b l' a' b' → LevelWritten k s j p to marks l' a' b' l'' a'' b''
      → p ≡ at + j * length to → RowWritten k s (j + 1) at to marks l a b l'' a'' b''
  level_behind k s j at p to marks w v e =
      wrote_run at p (part_from k s to) (part_to k to marks) (part_marks k to marks) j w v
      (omega (arith, each_even (part_from k s to) (length to) (λ i. length_cells _ 0 (length to)) j))
      (omega (arith, each_even (part_to k to marks) (length to) (λ i. length_cells _ 0 (length to)) j))
      (omega (arith, each_even (part_marks k to marks) (length to) (λ i. length_cells _ 0 (length to)) j))

-- there is room for it
pub level_room : {l a b l' a' b' : List ℕ} (K w at p j : ℕ) → Room at (K * w) l a b → Kept l a b l' a' b' → j < K → p ≡ at + j * w → Room p w l' a' b'
level_room K w at p j room kept h e =
    record { for_from = omega (arith, level_fits j K w h); for_to = omega (arith, level_fits j K w h); for_marks = omega (arith, level_fits j K w h) }
