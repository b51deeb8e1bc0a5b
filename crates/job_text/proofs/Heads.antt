-- The lines before the edges, one after the other. Assumes nothing.
use mathlib.Core.Path.{◌≡◌, refl}
use mathlib.Core.Bool.{Bool, true, false, cond}
use mathlib.Core.List.{List}
use mathlib.Core.Option.{Option, some, none}
use Prim.Native.Nat.{ℕ, ◌≤◌}
use native.Mathlib.Omega.{arith}
use lib.Dec.{ltb, leb, eqb}
use lib.ListN.{length, drop}
use borrow.Author.Tests.{ltb-false, le-ltb, leb-true}
use Rattle.job_values.specs.declared.value.Form.{Form}
use Rattle.job_values.specs.declared.value.Kind.{Kind}
use Rattle.job_text.specs.declared.line.Fault.{Fault}
use Rattle.job_text.specs.declared.line.LineStart.{LineStart}
use Rattle.job_text.specs.Text.{Lines, lines}
use Rattle.digits.specs.Digit.{digit}
use Rattle.job_text.specs.Value.{number, most_number, at_most, leading_zero, spelt}
use Rattle.job_text.specs.Job.{Keyed, missing, value, keyed, Cause, says, fault, limited, formed, valued, asked, above, unlimited, most_job_states, states=, start=, Found, refused, next, kind_line, count_lines, state_lines}
use Rattle.job_text.specs.Given.{Blamed, from_line, SaysTo}
use Rattle.job_text.proofs.Text.{by_test}

-- the first faulty one of some lines is that of the lines which begin with them
pub blamed_on : {A B : Type 0} (text : List ℕ) (first : Found A) (said : Found B) (f : Fault) → Blamed text first f
    → ((x : Cause) (p : ℕ) → first ≡ refused x p → said ≡ refused x p) → Blamed text said f
blamed_on text first said f b h = record { why = b.why; place = b.place; is = h b.why b.place b.is; worded = b.worded }

-- ---- a number that a line says is within its limit

-- lines that say the same
pub says_inj : {A : Type 0} {a b : A} {ls ms : Lines} → says a ls ≡ says b ms → a ≡ b
says_inj e = cc

fault_says : {A : Type 0} {a : A} {n : Cause} {ls : Lines} → fault n ≡ says a ls → ⊥
fault_says e = let z : ◌≡◌ {A = ℕ} 0 1 = cc in omega arith

limited_says : (key : List ℕ) (most m : ℕ) (ls ms : Lines) (n : ℕ) → limited key (above most) m ls ≡ says n ms → n ≤ most
limited_says key most m ls ms n e =
    by_test (ltb most m) (λ t. absurd (fault_says (rw t at e))) (λ t. let q : m ≡ n = says_inj (rw t at e) in omega (arith, ltb-false most m t))

formed_says : (key : List ℕ) (most : ℕ) (v : List ℕ) (o : Option ℕ) (ls ms : Lines) (n : ℕ) → formed key number (above most) v o ls ≡ says n ms → n ≤ most
formed_says key most v none ls ms n e = absurd (fault_says e)
formed_says key most v (some m) ls ms n e = limited_says key most m ls ms n e

valued_says : (key : List ℕ) (most : ℕ) (k : Keyed) (ms : Lines) (n : ℕ) → valued key number (above most) k ≡ says n ms → n ≤ most
valued_says key most missing ms n e = absurd (fault_says e)
valued_says key most (value v ls) ms n e = formed_says key most v (number v) ls ms n e

-- the number is within the key's limit
pub says_below : (key : List ℕ) (most : ℕ) (ls ms : Lines) (n : ℕ) → asked key number (above most) ls ≡ says n ms → n ≤ most
says_below key most ls ms n e = valued_says key most (keyed key ls) ms n e

-- ---- the form of a number is limit enough

at_most_in : (most : ℕ) (o : Option ℕ) (n : ℕ) → at_most most o ≡ some n → n ≤ most
at_most_in most none n e = absurd (let z : ◌≡◌ {A = ℕ} 0 1 = cc in omega arith)
at_most_in most (some m) n e =
    by_test (leb m most) (λ t. let q : some m ≡ some n = rw t at e in let w : m ≡ n = cc in omega (arith, leb-true m most t))
    (λ t. absurd (let q : none ≡ some n = rw t at e in let z : ◌≡◌ {A = ℕ} 0 1 = cc in omega arith))

either_in : (s t : Bool) (o : Option ℕ) (n : ℕ) → cond s none (cond t none o) ≡ some n → o ≡ some n
either_in true t o n e = absurd (let z : ◌≡◌ {A = ℕ} 0 1 = cc in omega arith)
either_in false true o n e = absurd (let z : ◌≡◌ {A = ℕ} 0 1 = cc in omega arith)
either_in false false o n e = e

number_in : (bs : List ℕ) (n : ℕ) → number bs ≡ some n → n ≤ most_number
unfolding number
number_in bs n e = at_most_in most_number (spelt digit 10 0 bs) n (either_in (eqb (length bs) 0) (leading_zero bs) _ n e)

free : (key v : List ℕ) (o : Option ℕ) (ls : Lines) → ((n : ℕ) → o ≡ some n → n ≤ most_number) → formed key number (above most_number) v o ls ≡ formed key number unlimited v o ls
free key v none ls h = refl
free key v (some n) ls h = rw (le-ltb most_number n (h n refl))

valued_free : (key : List ℕ) (k : Keyed) → valued key number (above most_number) k ≡ valued key number unlimited k
valued_free key missing = refl
valued_free key (value v ls) = free key v (number v) ls (number_in v)

pub asked_free : (key : List ℕ) (ls : Lines) → asked key number (above most_number) ls ≡ asked key number unlimited ls
asked_free key ls = valued_free key (keyed key ls)

-- ---- from the states on

module _ (text : List ℕ) (form : Form) (first : LineStart) where
  module _ (n : ℕ) (p1 : LineStart) (e : SaysTo text (from_line text first (next (asked states= number (above most_job_states)))) n p1) where
    pub start_line_lost : (x : Fault) → Blamed text (from_line text p1 (next (asked start= number (above most_number)))) x → Blamed text (from_line text first (state_lines form)) x
    start_line_lost x b = blamed_on text _ (from_line text first (state_lines form)) x b (λ w p f. rw (e, ← asked_free start= (lines (drop p1.at text)), f))

    module _ (s : ℕ) (p2 : LineStart) (f : SaysTo text (from_line text p1 (next (asked start= number (above most_number)))) s p2) where
      pub kind_line_lost : (x : Fault) → Blamed text (from_line text p2 (kind_line form)) x → Blamed text (from_line text first (state_lines form)) x
      kind_line_lost x b = blamed_on text _ (from_line text first (state_lines form)) x b (λ w p g. rw (e, ← asked_free start= (lines (drop p1.at text)), f, g))

      pub state_lines_go : (k : Kind) (p3 : LineStart) → SaysTo text (from_line text p2 (kind_line form)) k p3 → from_line text first (state_lines form) ≡ from_line text p3 (count_lines n s k)
      state_lines_go k p3 g = rw (e, ← asked_free start= (lines (drop p1.at text)), f, g)
