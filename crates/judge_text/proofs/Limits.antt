-- What the reader lets pass keeps the program's limits, and what it refuses has one of the rows 20 to 23: by the lines, from the definition alone.
-- Assumes nothing.
use mathlib.Core.Path.{◌≡◌, refl, ap}
use mathlib.Core.Bool.{Bool, false}
use mathlib.Core.List.{List, ◌∷◌}
use mathlib.Core.Option.{Option, some, none}
use Prim.Native.Nat.{ℕ, zero, suc, ◌≤◌}
use native.Mathlib.Omega.{arith}
use lib.Dec.{ltb}
use lib.ListN.{length}
use borrow.Author.Tests.{ltb-false}
use Rattle.job_values.specs.declared.value.Form.{Form}
use Rattle.job_values.specs.declared.value.Form.TheVariants.{One}
use Rattle.job_values.specs.declared.value.Kind.{Kind}
use Rattle.job_text.specs.Text.{Lines, done, broken, line, lines}
use Rattle.job_text.specs.Value.{number, text_form, kind, usual_kind, needs, Edge, edge, end, most_count}
use Rattle.job_text.specs.Job.{most_bytes, most_job_states, most_job_edges, above, unlimited, Keyed, missing, value, keyed, number_of, Line, says, fault, limited, formed, valued, asked}
use Rattle.job_text.specs.Job.{Found, found, refused, Reader, placed, next, go_on, ◌>>=◌, give, times, over, states=, start=, kind=, count=, need=, edges=, edge=, end=}
use Rattle.job_text.specs.Job.{left_out, perhaps, form=, form_line, kind_line, Head, count_lines, state_lines, head_lines, edge_lines, end_lines, body_lines, Job, job_lines, Outcome, job, fault as faulty, outcome, read_job}
use Rattle.job_text.proofs.Text.{by_test}

-- the program's limits (23)
pub record Limited (j : Job) : Type 0 where
  pub states : j.states ≤ most_job_states
  pub edges : length j.edges ≤ most_job_edges

-- a row of the text's lines
pub record LineRow (x : ℕ) : Type 0 where
  pub low : 21 ≤ x
  pub high : x ≤ 23

row21 : LineRow 21
row21 = record { low = omega arith; high = omega arith }

row22 : LineRow 22
row22 = record { low = omega arith; high = omega arith }

row23 : LineRow 23
row23 = record { low = omega arith; high = omega arith }

-- ---- one line

abbrev FineLine : {A : Type 0} → (A → Type 0) → Line A → Type 0
FineLine P (says a ls) = P a
FineLine P (fault why) = LineRow (number_of why)

abbrev Fine : {A : Type 0} → (A → Type 0) → Found A → Type 0
Fine P (found a place ls) = P a
Fine P (refused why place) = LineRow (number_of why)

abbrev Any : {A : Type 0} → A → Type 0
Any a = Unit {0}

module _ {A : Type 0} (P : A → Type 0) where
  placed_fine : (place : ℕ) (l : Line A) → FineLine P l → Fine P (placed place l)
  placed_fine place (says a ls) p = p
  placed_fine place (fault x) p = p

  module _ (form : List ℕ → Option A) (over : A → Bool) (under : (a : A) → over a ≡ false → P a) where
    limited_fine : (key : List ℕ) (a : A) (ls : Lines) → FineLine P (limited key over a ls)
    limited_fine key a ls = by_test (over a) (λ t. rw t row23) (λ t. rw t (under a t))

    formed_fine : (key v : List ℕ) (o : Option A) (ls : Lines) → FineLine P (formed key form over v o ls)
    formed_fine key v none ls = row22
    formed_fine key v (some a) ls = limited_fine key a ls

    valued_fine : (key : List ℕ) (k : Keyed) → FineLine P (valued key form over k)
    valued_fine key missing = row21
    valued_fine key (value v ls) = formed_fine key v (form v) ls

    asked_fine : (key : List ℕ) (place : ℕ) (ls : Lines) → Fine P (next (asked key form over) place ls)
    asked_fine key place ls = placed_fine place (asked key form over ls) (valued_fine key (keyed key ls))

below_fine : (key : List ℕ) (most place : ℕ) (ls : Lines) → Fine (λ n. n ≤ most) (next (asked key number (above most)) place ls)
below_fine key most = asked_fine (λ n. n ≤ most) number (above most) (λ n t. ltb-false most n t) key

any_fine : {A : Type 0} (key : List ℕ) (form : List ℕ → Option A) (place : ℕ) (ls : Lines) → Fine Any (next (asked key form unlimited) place ls)
any_fine key form = asked_fine Any form unlimited (λ a t. tt) key

-- ---- line by line

module _ {A B : Type 0} (P : A → Type 0) (Q : B → Type 0) (g : A → Reader B) (then : (a : A) → P a → (place : ℕ) (ls : Lines) → Fine Q (g a place ls)) where
  go_fine : (f : Found A) → Fine P f → Fine Q (go_on f g)
  go_fine (found a place ls) p = then a p place ls
  go_fine (refused x place) p = p

times_fine : {A : Type 0} (k : ℕ) (r : Reader A) → ((place : ℕ) (ls : Lines) → Fine Any (r place ls)) → (place : ℕ) (ls : Lines)
    → Fine (λ (all : List A). length all ≡ k) (times k r place ls)
times_fine zero r h place ls = refl
times_fine {A} (suc k) r h place ls =
    go_fine Any (λ (all : List A). length all ≡ suc k) (λ a. times k r >>= λ more. give (a ∷ more))
    (λ a u p ms.
    go_fine (λ (all : List A). length all ≡ k) (λ (all : List A). length all ≡ suc k) (λ more. give (a ∷ more)) (λ more e q os. ap suc e) (times k r p ms) (times_fine k r h p ms))
    (r place ls) (h place ls)

over_fine : (place : ℕ) (ls : Lines) → Fine Any (over place ls)
over_fine place done = tt
over_fine place broken = row21
over_fine place (line l ls) = row21

perhaps_fine : {A : Type 0} (key : List ℕ) (form : List ℕ → Option A) (a : A) (place : ℕ) (ls : Lines) → Fine Any (perhaps key form a place ls)
perhaps_fine {A} key form a place ls = by (keyed key ls)
  where
    by : (k : Keyed) → Fine Any (left_out a (asked key form unlimited) k place ls)
    by missing = tt
    by (value v rest) = any_fine key form place ls

-- ---- the job

abbrev HeadLimits : Head → Type 0
HeadLimits h = (h.states ≤ most_job_states) × (h.edges ≤ most_job_edges)

count_fine : (n s : ℕ) (k : Kind) → n ≤ most_job_states → (place : ℕ) (ls : Lines) → Fine HeadLimits (count_lines n s k place ls)
count_fine n s k l place ls =
    go_fine Any HeadLimits _
    (λ c u p ms.
    go_fine Any HeadLimits _
    (λ ds w q os. go_fine (λ m. m ≤ most_job_edges) HeadLimits _ (λ m b r ps. (l, b)) (next (asked edges= number (above most_job_edges)) q os) (below_fine edges= most_job_edges q os))
    (next (asked need= (needs k c) unlimited) p ms) (any_fine need= (needs k c) p ms))
    (next (asked count= number (above (most_count k))) place ls)
    (asked_fine Any number (above (most_count k)) (λ a t. tt) count= place ls)

states_fine : (f : Form) (place : ℕ) (ls : Lines) → Fine HeadLimits (state_lines f place ls)
states_fine f place ls =
    go_fine (λ n. n ≤ most_job_states) HeadLimits _
    (λ n l p ms.
    go_fine Any HeadLimits _
    (λ s u q os. go_fine Any HeadLimits _ (λ k w. count_fine n s k l) (kind_line f q os) (perhaps_fine kind= kind (usual_kind f) q os))
    (next (asked start= number unlimited) p ms) (any_fine start= number p ms))
    (next (asked states= number (above most_job_states)) place ls) (below_fine states= most_job_states place ls)

head_fine : (place : ℕ) (ls : Lines) → Fine HeadLimits (head_lines place ls)
head_fine place ls = go_fine Any HeadLimits _ (λ f u. states_fine f) (form_line place ls) (perhaps_fine form= text_form One place ls)

end_fine : (place : ℕ) (ls : Lines) → Fine Any (end_lines place ls)
end_fine place ls = go_fine Any Any _ (λ e u p ms. over_fine p ms) (next (asked end= end unlimited) place ls) (any_fine end= end place ls)

body_fine : (m place : ℕ) (ls : Lines) → Fine (λ (es : List Edge). length es ≡ m) (body_lines m place ls)
body_fine m place ls =
    go_fine (λ (es : List Edge). length es ≡ m) (λ (es : List Edge). length es ≡ m) _
    (λ es e p ms. go_fine Any (λ (es : List Edge). length es ≡ m) _ (λ o u q os. e) (end_lines p ms) (end_fine p ms))
    (edge_lines m place ls) (times_fine m (next (asked edge= edge unlimited)) (any_fine edge= edge) place ls)

job_fine : (place : ℕ) (ls : Lines) → Fine Limited (job_lines place ls)
job_fine place ls =
    go_fine HeadLimits Limited _
    (λ h b p ms.
    go_fine (λ (es : List Edge). length es ≡ h.edges) Limited _
    (λ es e q os. record { states = b.0; edges = omega (arith, b.1, e) })
    (body_lines h.edges p ms) (body_fine h.edges p ms))
    (head_lines place ls) (head_fine place ls)

-- ---- the text

-- what a text says as a whole: a job within the limits, or a refusal with one of the reader's rows
abbrev pub Bounded : Outcome → Type 0
Bounded (job j) = Limited j
Bounded (faulty x place) = (20 ≤ x) × (x ≤ 23)

outcome_bounded : (f : Found Job) → Fine Limited f → Bounded (outcome f)
outcome_bounded (found j place ls) p = p
outcome_bounded (refused x place) p = (omega (arith, p.low), p.high)

pub read_bounded : (text : List ℕ) → Bounded (read_job text)
unfolding read_job
read_bounded text = by_test (ltb most_bytes (length text)) (λ t. rw t (omega arith, omega arith)) (λ t. rw t (outcome_bounded (job_lines 1 (lines text)) (job_fine 1 (lines text))))
