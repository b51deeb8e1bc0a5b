-- From what the reader, the walk and the condition give to the whole promise. Assumes nothing.
use Rattle.table.specs.declared.Refusal.{Refusal}
use Rattle.std.specs.Prelude.{Result, Ok}
use mathlib.Core.Path.{◌≡◌, refl, sym, ap, ◌∙◌, subst}
use mathlib.Core.Bool.{Bool, false}
use mathlib.Core.List.{List, map}
use mathlib.Core.Option.{none}
use Prim.Native.Nat.{ℕ, ◌-◌}
use lib.ListN.{take, drop}
use Rattle.table.specs.declared.Acceptance.{Acceptance}
use Rattle.table.specs.Table.{Table, lent}
use Rattle.table.specs.Refusal.{refusal, wrong_condition, refused}
use Rattle.table.proofs.Door.{same_told}
use Rattle.table.specs.inner.Looks.{Even}
use Rattle.table.proofs.Sound.{sound_fit}
use Rattle.job_text.specs.declared.reader.Reading.{Reading}
use Rattle.job_text.specs.Value.{Edge, pad_to}
use Rattle.job_text.specs.Job.{most_job_edges, Job, Outcome, job, fault, read_job, Column}
use Rattle.job_text.specs.Reading.{reading_of, cells_of, Read}
use Rattle.job_text.proofs.Tables.{unlike, part_is}
use Rattle.answer_text.specs.Printed.{is_rabin}
use Rattle.answer_check.specs.declared.Checked.{Checked}
use Rattle.answer_check.specs.declared.Checked.TheVariants as checked
use Rattle.answer_form.specs.declared.Form.{Form}
use Rattle.std.proofs.Common as code
use Rattle.answer_form.specs.declared.Form.TheVariants as form
use Rattle.answer_form.specs.Form.{run}
use Rattle.answer_check.specs.Fault.{Judged}
use Rattle.answer_check.specs.Checking.{Told, malformed, no_run, run_judged, ByCause, ByJob, Checks}
use Rattle.answer_form.specs.Given.{given, RunAt, OtherSaid, FormOf}
use Rattle.answer_check.specs.inner.{Lies, Named}
use Rattle.answer_form.proofs.Inverse.{given_says, malformed as not_read}

-- ---- by the text's form

module _ (t : Table) (c : Acceptance) (needs text : List ℕ) (rabin : Bool) (f : code.Option Form) (F : FormOf rabin text f) (k : rabin ≡ is_rabin c) where
  pub told_malformed : f ≡ code.None → Told t c needs text (checked.Refused 50 0 0)
  told_malformed e =
      let read : given rabin text ≡ none = subst (FormOf rabin text) e F in
      malformed (not_read c text (subst (λ (b : Bool). given b text ≡ none) k read)) refl

  pub told_no_run : f ≡ code.Some form.NoRun → Told t c needs text (checked.Refused 51 0 0)
  told_no_run e =
      let other : OtherSaid (given rabin text) = subst (FormOf rabin text) e F in
      no_run
      (record { said = other.answer; says = given_says c text other.answer (ap (λ (b : Bool). given b text) (sym k) ∙ other.says); other = other.other })
      refl

-- the run that a text names, on a table
abbrev pub named : (t : Table) (rabin : Bool) (text : List ℕ) (pair a b d e : ℕ) → RunAt (given rabin text) text pair a b d e → Named
named t rabin text pair a b d e R = record { table = t; prefix = R.prefix; cycle = R.cycle }

pub told_run : (t : Table) (c : Acceptance) (needs text : List ℕ) (rabin : Bool) (pair a b d e : ℕ) (R : RunAt (given rabin text) text pair a b d e) → rabin ≡ is_rabin c → (r : Checked)
    → Judged t c needs pair R.prefix R.cycle r → Told t c needs text r
told_run t c needs text rabin pair a b d e R k r J =
    run_judged
    (record {
      pair = pair;
      prefix = R.prefix;
      cycle = R.cycle;
      says = given_says c text (run pair R.prefix R.cycle) (ap (λ (b : Bool). given b text) (sym k) ∙ R.says);
      judged = J;
    })

-- ---- by rows 1 to 7

module _ (n start : ℕ) (from to marks : List ℕ) (c : Acceptance) (needs text : List ℕ) (f : Result Unit Refusal) (checks : f ≡ refusal (lent n start from to marks) c needs) where
  pub row_refuses : {number place : ℕ} → f ≡ refused number place
      → ByCause (refusal (lent n start from to marks) c needs) (lent n start from to marks) c needs text (checked.Refused number place 0)
  row_refuses {number} {place} e =
      subst (λ (g : Result Unit Refusal). ByCause g (lent n start from to marks) c needs text (checked.Refused number place 0)) (sym e ∙ checks) refl

  module _ (s : f ≡ Ok tt) where
    sound : refusal (lent n start from to marks) c needs ≡ Ok tt
    sound = sym checks ∙ s

    pub even : Even from to marks
    even =
        let fit = (sound_fit n start from to marks c needs sound).proper in
        record { to_length = fit.to_length; marks_length = fit.marks_length; few = fit.few_edges }

    pub permitted : wrong_condition c needs ≡ false
    permitted = (sound_fit n start from to marks c needs sound).condition

    pub lies : Lies (lent n start from to marks) from to marks
    lies = record { proper = (sound_fit n start from to marks c needs sound).proper; from_is = refl; to_is = refl; marks_is = refl }

    pub no_row : (r : Checked) → Told (lent n start from to marks) c needs text r
        → ByCause (refusal (lent n start from to marks) c needs) (lent n start from to marks) c needs text r
    no_row r T = subst (λ (g : Result Unit Refusal). ByCause g (lent n start from to marks) c needs text r) (sym sound) T

-- ---- by the job

same_refusal : {number place x p column : ℕ} → refused {A = Unit {0}} number place ≡ refused x p → checked.Refused number place column ≡ checked.Refused x p column
same_refusal {number} {place} {x} {p} q = let same = same_told q in rw (same.0, same.1)

refused_by : (text : List ℕ) (o : Outcome) (r : Reading) (answer : List ℕ) (number place : ℕ) → r ≡ reading_of o r.column → Column text r.column → r.finding ≡ refused number place
    → ByJob text o answer (checked.Refused number place r.column)
refused_by text (job j) r answer number place e k f = absurd (unlike (sym f ∙ ap (λ (x : Reading). x.finding) e))
refused_by text (fault x p) r answer number place e k f =
    record { column = r.column; first = k; told = same_refusal (sym f ∙ ap (λ (x : Reading). x.finding) e) }

module _ (text : List ℕ) (r : Reading) (from to marks answer : List ℕ) (x : Checked) where
  -- the parts of the tables that hold edges
  abbrev handed : Table
  handed = lent r.states r.start (take (r.edges - 0) (drop 0 from)) (take (r.edges - 0) (drop 0 to)) (take (r.edges - 0) (drop 0 marks))

  -- what was said of them
  abbrev pub Said : Type 0
  Said = ByCause (refusal handed r.condition r.needs) handed r.condition r.needs answer x

  module _ (j : Job) (column : ℕ) (e : r ≡ reading_of (job j) column) (f : from ≡ pad_to most_job_edges (map (λ (e : Edge). e.from) j.edges))
      (g : to ≡ pad_to most_job_edges (map (λ (e : Edge). e.to) j.edges)) (h : marks ≡ pad_to most_job_edges (map (λ (e : Edge). e.marks) j.edges)) where
    on_job : Said → ByJob text (job j) answer x
    on_job S =
        rw (part_is (λ (e : Edge). e.from) j.edges, part_is (λ (e : Edge). e.to) j.edges, part_is (λ (e : Edge). e.marks) j.edges) at
        (rw (e, f, g, h) at S)

  checked_by : (o : Outcome) (b b' b'' : List ℕ) (column : ℕ) → r ≡ reading_of o column → r.finding ≡ Ok tt → from ≡ cells_of (λ e. e.from) o b
      → to ≡ cells_of (λ e. e.to) o b' → marks ≡ cells_of (λ e. e.marks) o b'' → Said → ByJob text o answer x
  checked_by (fault number place) b b' b'' column e s f g h S = absurd (unlike (sym (ap (λ (y : Reading). y.finding) e) ∙ s))
  checked_by (job j) b b' b'' column e s f g h S = on_job j column e f g h S

module _ {text b b' b'' from to marks : List ℕ} {r : Reading} (R : Read text b b' b'' from to marks r) (answer : List ℕ) where
  pub refused_so : {number place : ℕ} → r.finding ≡ refused number place → Checks text answer (checked.Refused number place r.column)
  refused_so {number} {place} f = refused_by text (read_job text) r answer number place R.reading R.column f

  pub checked_so : (x : Checked) → r.finding ≡ Ok tt → Said text r from to marks answer x → Checks text answer x
  checked_so x s S = checked_by text r from to marks answer x (read_job text) b b' b'' r.column R.reading s R.froms R.tos R.sets S
