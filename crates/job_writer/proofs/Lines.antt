-- Lines of a text that is put together, and what a line says. Assumes nothing.
use mathlib.Core.Path.{◌≡◌, refl, ap, ◌∙◌}
use mathlib.Core.Bool.{Bool, true, false}
use mathlib.Core.List.{List, [], ◌∷◌, ◌++◌, append_assoc}
use mathlib.Core.Option.{Option, some}
use Prim.Native.Nat.{ℕ, ◌+◌}
use native.Mathlib.Omega.{arith}
use lib.ListN.{length, drop}
use lib.Seq.{take_at}
use borrow.Author.Tests.{ne_eqb}
use Rattle.job_text.specs.Text.{newline, Lines, line, lines, longer, begins}
use Rattle.job_text.specs.Job.{Keyed, value, keyed, says, asked, found, Found, Reader, go_on, next, placed, perhaps, left_out, unlimited}
use Rattle.job_put_edges.specs.Edges.{shown}
use Rattle.job_values.proofs.Spoken.{same_refl}
use Rattle.puts.proofs.Over.{Over}

-- ---- cutting

-- a line without a newline byte, then one
lines_line : (l rest : List ℕ) → Over newline l → lines (l ++ (newline ∷ rest)) ≡ line l (lines rest)
unfolding lines
lines_line [] rest o = refl
lines_line (x ∷ xs) rest o =
    rw (ne_eqb x newline (λ (e : x ≡ newline). omega (arith, o.0))) (ap (longer x) (lines_line xs rest o.1))

-- ---- keys

-- what stands behind the key
drop_key : (key v : List ℕ) → drop (length key) (key ++ v) ≡ v
drop_key [] v = refl
drop_key (x ∷ key) v = drop_key key v

-- a line is found by its key
pub keyed_there : (key v rest : List ℕ) → Over newline (key ++ v) → keyed key (lines (shown key v ++ rest)) ≡ value v (lines rest)
keyed_there key v rest o =
    let b : begins key (key ++ v) ≡ true = rw (take_at key v (length key) refl) (same_refl key) in
    rw (append_assoc (key ++ v) (newline ∷ []) rest, lines_line (key ++ v) rest o, b, drop_key key v)

-- ---- what a line says

module _ {A : Type 0} (key v rest : List ℕ) (form : List ℕ → Option A) (o : Over newline (key ++ v)) (a : A) (e : form v ≡ some a) where
  -- it is of its form and within its limit
  pub asked_there : (over : A → Bool) → over a ≡ false → asked key form over (lines (shown key v ++ rest)) ≡ says a (lines rest)
  asked_there over l = rw (keyed_there key v rest o, e, l)

  -- a line that has its place
  pub next_there : (over : A → Bool) → over a ≡ false → (place : ℕ) → next (asked key form over) place (lines (shown key v ++ rest)) ≡ found a (place + 1) (lines rest)
  next_there over l place = ap (placed place) (asked_there over l)

  -- a line that might have been left out
  pub perhaps_there : (usual : A) (place : ℕ) → perhaps key form usual place (lines (shown key v ++ rest)) ≡ found a (place + 1) (lines rest)
  perhaps_there usual place =
      let ls = lines (shown key v ++ rest) in
      ap (λ (k : Keyed). left_out usual (asked key form unlimited) k place ls) (keyed_there key v rest o) ∙ next_there unlimited refl place

-- ---- one line after another

pub then : {A B : Type 0} {x : Found A} {a : A} {place : ℕ} {ls : Lines} {y : Found B} (f : A → Reader B) → x ≡ found a place ls → f a place ls ≡ y → go_on x f ≡ y
then f e g = ap (λ x. go_on x f) e ∙ g
