-- A list of edges is read from its printed form, and from no other bytes. Assumes nothing.
use mathlib.Core.Path.{◌≡◌, refl, sym, ap, ◌∙◌}
use mathlib.Core.Bool.{true, false, cond}
use mathlib.Core.List.{List, [], ◌∷◌, ◌++◌, map, append-nil}
use mathlib.Core.Option.{some, none}
use Prim.Native.Nat.{ℕ, zero, suc, ◌≤◌, ◌<◌}
use native.Mathlib.Omega.{arith}
use lib.Dec.{eqb}
use borrow.Author.Tests.{ne_eqb, eqb-false}
use Rattle.marks.proofs.Cases.{same as equal}
use Rattle.table.specs.Table.{waiting}
use Rattle.puts.specs.Put.{decimal}
use Rattle.puts.proofs.Decimals.{decimal_led}
use Rattle.puts.proofs.Over.{Over, over_both, over_less, over_test, decimal_over}
use Rattle.job_values.proofs.Cut.{fields_some}
use Rattle.job_values.proofs.Decimals.{number_decimal, field_over, last_over}
use Rattle.job_values.proofs.Edges.{joined, joined_fields}
use Rattle.job_values.proofs.Spoken.{same_refl, same_is}
use Rattle.job_text.specs.Text.{newline, comma, fields, same}
use Rattle.job_text.specs.Value.{and_then, dash, most_number, number}
use Rattle.job_text.proofs.Text.{by_test}
use Rattle.answer_text.specs.Printed.{stop, step_text, further_text, list_text}
use Rattle.answer_text.proofs.Prints.{step_stop, step_number}
use Rattle.answer_form.specs.Form.{Within}
use Rattle.answer_form.specs.Given.{step, steps, list_given}
use Rattle.answer_form.proofs.Digits.{some_same, after, unhindered, decimal_number}

-- ---- the first byte

-- the first byte stands from low to high
record Begun (low high : ℕ) (xs : List ℕ) : Type 0 where
  first : ℕ
  others : List ℕ
  is : xs ≡ first ∷ others
  least : low ≤ first
  most : first ≤ high

decimal_begun : (n : ℕ) → Begun 48 57 (decimal n)
decimal_begun n = let led = decimal_led n in record { first = led.first; others = led.others; is = led.is; least = led.least; most = led.most }

-- another first byte
other_first : (xs : List ℕ) (low high y : ℕ) (ys : List ℕ) → Begun low high xs → (y < low) → same xs (y ∷ ys) ≡ false
unfolding same
other_first xs low high y ys B l = rw (B.is, ne_eqb B.first y (λ (e : B.first ≡ y). omega (arith, B.least)))

later_first : (xs : List ℕ) (low high y : ℕ) (ys : List ℕ) → Begun low high xs → (high < y) → same xs (y ∷ ys) ≡ false
unfolding same
later_first xs low high y ys B l = rw (B.is, ne_eqb B.first y (λ (e : B.first ≡ y). omega (arith, B.most)))

-- ---- one edge

pub step_over : (b e : ℕ) → b < 48 → Over b (step_text e)
step_over b e l =
    equal e waiting (λ q. rw (step_stop e q) (over_less 47 b (omega arith) stop (over_test 47 stop refl))) (λ h. rw (step_number e h) (decimal_over b e l))

step_begun : (e : ℕ) → Begun 48 115 (step_text e)
step_begun e =
    equal e waiting
    (λ q. rw (step_stop e q) (record { first = 115; others = 116 ∷ 111 ∷ 112 ∷ []; is = refl; least = omega arith; most = omega arith }))
    (λ h.
    let B = decimal_begun e in
    rw (step_number e h) (record { first = B.first; others = B.others; is = B.is; least = B.least; most = omega (arith, B.most) }))

stop_step : step stop ≡ some waiting
unfolding step same
stop_step = refl

pub step_read : (e : ℕ) → e ≤ most_number → step (step_text e) ≡ some e
unfolding step
step_read e l =
    equal e waiting (λ q. rw (step_stop e q) (stop_step ∙ ap some (sym q)))
    (λ h. rw (step_number e h, later_first (decimal e) 48 57 115 (116 ∷ 111 ∷ 112 ∷ []) (decimal_begun e) (omega arith), number_decimal e l, ne_eqb e waiting h))

pub read_step : (bs : List ℕ) (e : ℕ) → step bs ≡ some e → (bs ≡ step_text e) × (e ≤ most_number)
unfolding step
read_step bs e r =
    by_test (same bs stop)
    (λ t.
    let q : waiting ≡ e = some_same (rw t at r) in
    (same_is bs stop t ∙ sym (step_stop e (sym q)), omega arith))
    (λ t.
    let a = after (number bs) (λ n. cond (eqb n waiting) none (some n)) e (rw t at r) in
    let b = unhindered (eqb a.first waiting) (some a.first) e a.then in
    let q : a.first ≡ e = some_same b.1 in
    let d = decimal_number bs a.first a.there in
    let h : e ≡ waiting → ⊥ = λ (w : e ≡ waiting). eqb-false a.first waiting b.0 (q ∙ w) in
    (d.0 ∙ ap decimal q ∙ sym (step_number e h), omega (arith, d.1)))

-- ---- fields

fields_list : (e : ℕ) (es : List ℕ) → fields (step_text e ++ further_text es) ≡ step_text e ∷ map step_text es
unfolding further_text
fields_list e [] = rw (append-nil (step_text e)) (last_over (step_text e) (step_over comma e (omega arith)))
fields_list e (d ∷ es) = field_over (step_text e) (step_text d ++ further_text es) (step_over comma e (omega arith)) ∙ ap {B = List (List ℕ)} (λ fs. step_text e ∷ fs) (fields_list d es)

-- ---- lists of edges

within_rest : (e : ℕ) (es : List ℕ) → Within (e ∷ es) → Within es
within_rest e es w i = w (suc i)

within_more : (e : ℕ) (es : List ℕ) → e ≤ most_number → Within es → Within (e ∷ es)
within_more e es l w zero = l
within_more e es l w (suc i) = w i

steps_read : (es : List ℕ) → Within es → steps (map step_text es) ≡ some es
unfolding steps
steps_read [] w = refl
steps_read (e ∷ es) w = rw (step_read e (w 0), steps_read es (within_rest e es w))

-- what one field more says
pub record Stepped (f : List ℕ) (fs : List (List ℕ)) (es : List ℕ) : Type 0 where
  pub edge : ℕ
  pub others : List ℕ
  pub is : es ≡ edge ∷ others
  pub read : step f ≡ some edge
  pub rest : steps fs ≡ some others

pub stepped : (f : List ℕ) (fs : List (List ℕ)) (es : List ℕ) → steps (f ∷ fs) ≡ some es → Stepped f fs es
unfolding steps
stepped f fs es r =
    let a = after (step f) (λ e. and_then (steps fs) (λ more. some (e ∷ more))) es r in
    let b = after (steps fs) (λ more. some (a.first ∷ more)) es a.then in
    record { edge = a.first; others = b.first; is = sym (some_same b.then); read = a.there; rest = b.there }

pub no_steps : (es : List ℕ) → steps [] ≡ some es → es ≡ []
unfolding steps
no_steps es e = sym (some_same e)

read_steps : (fs : List (List ℕ)) (es : List ℕ) → steps fs ≡ some es → (fs ≡ map step_text es) × Within es
read_steps [] es r = let q : es ≡ [] = no_steps es r in (rw q, rw q (λ i. omega arith))
read_steps (f ∷ fs) es r =
    let s = stepped f fs es r in
    let here = read_step f s.edge s.read in
    let there = read_steps fs s.others s.rest in
    (ap {B = List (List ℕ)} (λ g. g ∷ fs) here.0 ∙ ap {B = List (List ℕ)} (λ gs. step_text s.edge ∷ gs) there.0 ∙ ap (map step_text) (sym s.is), rw s.is (within_more s.edge s.others here.1 there.1))

no_dash : (e : ℕ) (es : List ℕ) → same (step_text e ++ further_text es) dash ≡ false
no_dash e es =
    let B = step_begun e in
    other_first (step_text e ++ further_text es) 48 115 45 []
    (record { first = B.first; others = B.others ++ further_text es; is = ap (λ (l : List ℕ). l ++ further_text es) B.is; least = B.least; most = B.most }) (omega arith)

dash_dash : same dash dash ≡ true
dash_dash = same_refl dash

pub list_read : (es : List ℕ) → Within es → list_given (list_text es) ≡ some es
unfolding list_given
list_read [] w = rw dash_dash
list_read (e ∷ es) w = rw (no_dash e es, fields_list e es) (steps_read (e ∷ es) w)

joined_steps : (e : ℕ) (es : List ℕ) → joined (map step_text (e ∷ es)) ≡ list_text (e ∷ es)
unfolding further_text
joined_steps e [] = sym (append-nil (step_text e))
joined_steps e (d ∷ es) = ap (λ (l : List ℕ). step_text e ++ (comma ∷ l)) (joined_steps d es)

joined_list : (fs : List (List ℕ)) (es : List ℕ) → (fs ≡ [] → ⊥) → fs ≡ map step_text es → joined fs ≡ list_text es
joined_list fs [] h q = absurd (h q)
joined_list fs (e ∷ es) h q = rw q (joined_steps e es)

pub read_list : (bs es : List ℕ) → list_given bs ≡ some es → (bs ≡ list_text es) × Within es
unfolding list_given
read_list bs es r =
    by_test (same bs dash)
    (λ t. let q : [] ≡ es = some_same (rw t at r) in (same_is bs dash t ∙ ap list_text q, rw (sym q) (λ i. omega arith)))
    (λ t.
    let g = read_steps (fields bs) es (rw t at r) in
    (sym (joined_fields bs) ∙ joined_list (fields bs) es (fields_some bs) g.0, g.1))

-- a list's bytes are no newline bytes
further_over : (es : List ℕ) → Over newline (further_text es)
unfolding further_text
further_over [] = tt
further_over (e ∷ es) = (omega arith, over_both newline (step_text e) (further_text es) (step_over newline e (omega arith)) (further_over es))

pub list_over : (es : List ℕ) → Over newline (list_text es)
list_over [] = (omega arith, tt)
list_over (e ∷ es) = over_both newline (step_text e) (further_text es) (step_over newline e (omega arith)) (further_over es)
