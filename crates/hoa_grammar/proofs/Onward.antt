-- A stretch of a text leads on, or passes a limit. Assumes nothing.
use mathlib.Core.Bool.{Bool, true, false, cond}
use mathlib.Core.List.{List}
use mathlib.Core.Path.{◌≡◌, refl, ◌∙◌}
use Rattle.hoa_tokens.specs.Token.{Token}
use Rattle.hoa_step.specs.Machine.{go, wrong}
use Rattle.hoa_grammar.specs.Walk.{Walk, faulty, walk_by}

-- what stands in front is passed, or a limit L is
pub data Onward {S D : Type 0} (L : Type 0) (w w' : Walk S D) : Type 0 where
  same : w ≡ w' → Onward L w w'
  limit : (L → ⊥) → (ts : List Token) → w ≡ faulty 42 ts → Onward L w w'

-- the limit test of a number
pub by_limit : {S D L : Type 0} (above : Bool) (s : S) (ts : List Token) (more : S → Walk S D) → (above ≡ true → L → ⊥)
    → Onward L (walk_by (cond above (wrong 42) (go s)) ts more) (more s)
by_limit true s ts more n = limit (n refl) ts refl
by_limit false s ts more n = same refl

pub onward_then : {S D L : Type 0} {w w' w'' : Walk S D} → Onward L w w' → w' ≡ w'' → Onward L w w''
onward_then (same e) q = same (e ∙ q)
onward_then (limit n ts e) q = limit n ts e

pub onward_more : {S D L M : Type 0} {w w' w'' : Walk S D} → Onward L w w' → Onward M w' w'' → Onward (L × M) w w''
onward_more (same e) (same q) = same (e ∙ q)
onward_more (same e) (limit n ts q) = limit (λ l. n l.1) ts (e ∙ q)
onward_more (limit n ts e) _ = limit (λ l. n l.0) ts e

-- a limit that follows from another
pub onward_by : {S D L M : Type 0} {w w' : Walk S D} → (M → L) → Onward L w w' → Onward M w w'
onward_by f (same e) = same e
onward_by f (limit n ts e) = limit (λ m. n (f m)) ts e

pub onward_from : {S D L : Type 0} {w w' w'' : Walk S D} → w ≡ w' → Onward L w' w'' → Onward L w w''
onward_from q (same e) = same (q ∙ e)
onward_from q (limit n ts e) = limit n ts (q ∙ e)
