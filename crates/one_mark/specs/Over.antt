-- Translated walks over source walks (docs/RULES.md, "One-mark translation", and the demand on it). A translated walk lies over the walk of the
-- source edges under its edges. Assumes nothing.
use Rattle.std.specs.Prelude.{◌≡◌, List, [], ◌++◌, map, ℕ, zero, suc, ◌-◌, ◌≤◌, ◌<◌, length}
use Rattle.table.specs.declared.Acceptance.TheVariants.{Buchi}
use Rattle.table.specs.Table.{Table, Walk}
use Rattle.table.specs.Condition.{Accepted}
use Rattle.climbing.specs.Climb.{levels}
use Rattle.climbing.specs.Translated.{translated, under}

-- the translated edges qs lie over the edges es
abbrev pub Over : Table → ℕ → List ℕ → List ℕ → Type 0
Over t k qs es = map (under t k) qs ≡ es

-- exactly one translated walk from the new start lies over es, and it is of equal length
pub record OneOver (t : Table) (k : ℕ) (es : List ℕ) : Type 0 where
  pub walk : List ℕ
  pub end : ℕ
  pub walks : Walk (translated t k) (translated t k).start walk end
  pub over : Over t k walk es
  pub equal : length walk ≡ length es
  pub only : (qs : List ℕ) (z : ℕ) → Walk (translated t k) (translated t k).start qs z → Over t k qs es → qs ≡ walk

-- the translated edges qs lie over exactly one walk from the start, and it is of equal length
pub record OneUnder (t : Table) (k : ℕ) (qs : List ℕ) : Type 0 where
  pub walk : List ℕ
  pub end : ℕ
  pub walks : Walk t t.start walk end
  pub over : Over t k qs walk
  pub equal : length walk ≡ length qs
  pub only : (es : List ℕ) → Over t k qs es → es ≡ walk

-- u turns of a cycle
abbrev pub turns : ℕ → List ℕ → List ℕ
turns zero c = []
turns (suc u) c = c ++ turns u c

-- for a prefix a and a cycle c there are whole numbers u below v, v at most K, such that the translated walk over a and u turns of c is the
-- prefix, and over v-u further turns the cycle, of an accepted lasso
pub record Closes (t : Table) (k : ℕ) (a c : List ℕ) : Type 0 where
  pub u : ℕ
  pub v : ℕ
  pub less : u < v
  pub most : v ≤ levels k
  pub prefix : List ℕ
  pub cycle : List ℕ
  pub prefix_over : Over t k prefix (a ++ turns u c)
  pub cycle_over : Over t k cycle (turns (v - u) c)
  pub accepted : Accepted (translated t k) (Buchi 1) [] prefix cycle
