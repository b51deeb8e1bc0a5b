-- Writing one text after another, in at most so many bytes. Assumes nothing.
use mathlib.Core.Path.{◌≡◌, refl, sym, ap, ◌∙◌}
use mathlib.Core.List.{List, [], ◌++◌}
use Prim.Native.Nat.{ℕ, ◌+◌, ◌≤◌}
use native.Mathlib.Nat.{add-zero}
use native.Mathlib.Numerals.{add-one}
use native.Mathlib.Omega.{arith}
use lib.ListN.{length}
use lib.Seq.{length-sets}
use Rattle.puts.specs.Put.{joined, Put, PutFew}
use Rattle.puts.proofs.Puts.{put_both}

-- nothing is written
pub few_none : (out : List ℕ) (at most : ℕ) → PutFew out out at [] at most
few_none out at most = record { put = record { cells = refl; next = sym (add-zero at) }; few = omega arith }

-- a text of known length
pub few_word : {out out' : List ℕ} {at r : ℕ} {text : List ℕ} (most : ℕ) → Put out out' at text r → length text ≤ most → PutFew out out' at text r most
few_word most p l = record { put = p; few = omega (arith, p.next) }

-- one text behind another
pub few_both : {out mid out' : List ℕ} {at m r : ℕ} {a b : List ℕ} {x y : ℕ} (most : ℕ) → PutFew out mid at a m x → PutFew mid out' m b r y → x + y ≤ most
    → PutFew out out' at (a ++ b) r most
few_both most p q l = record { put = put_both p.put q.put; few = omega (arith, p.few, q.few) }

-- in no more bytes
pub few_more : {out out' : List ℕ} {at r : ℕ} {text : List ℕ} {x : ℕ} (most : ℕ) → PutFew out out' at text r x → x ≤ most → PutFew out out' at text r most
few_more most p l = record { put = p.put; few = omega (arith, p.few) }

-- the buffer keeps its length
pub few_length : {out out' : List ℕ} {at r : ℕ} {text : List ℕ} {most : ℕ} → PutFew out out' at text r most → length out' ≡ length out
few_length {out} {out'} {at} {r} {text} p = ap length p.put.cells ∙ length-sets out at text

-- ---- a loop: k texts, in at most w bytes each

-- none so far
pub joined_none : (f : ℕ → List ℕ) (out : List ℕ) (at most : ℕ) → PutFew out out at (joined f 0) at most
unfolding joined
joined_none f out at most = few_none out at most

-- one more
pub joined_more : (f : ℕ → List ℕ) {out mid out' : List ℕ} {at m r k x y : ℕ} (most : ℕ) → PutFew out mid at (joined f k) m x → PutFew mid out' m (f k) r y → x + y ≤ most
    → PutFew out out' at (joined f (k + 1)) r most
unfolding joined
joined_more f {k = k} most p q l = rw (add-one k) (few_both most p q l)
