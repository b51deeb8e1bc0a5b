-- What the checker's promise settles: two texts get one result; it is accepted exactly if the text names an accepted lasso of the job's table.
-- Assumes nothing.
use Rattle.table.specs.declared.Refusal.{Refusal}
use Rattle.std.specs.Prelude.{Result, Ok, Err}
use mathlib.Core.Path.{◌≡◌, refl, sym, ap, ◌∙◌, subst}
use mathlib.Core.Logic.{◌↔◌, ◌⊎◌, inl, inr}
use mathlib.Core.List.{List, [], ◌∷◌}
use Prim.Native.Nat.{ℕ, zero, suc, ◌<◌}
use native.Mathlib.Omega.{arith}
use lib.ListN.{length, get_or, take, length-take}
use lib.Seq.{take-take, get_or-take, take-length}
use Rattle.marks.proofs.Cases.{below}
use Rattle.table.specs.declared.Acceptance.{Acceptance}
use Rattle.table.specs.declared.Acceptance.TheVariants.{Buchi, Streett, Rabin}
use Rattle.table.specs.Table.{Table, Step, Walk, Lasso, marks_of}
use Rattle.table.specs.Condition.{Accepts}
use Rattle.job_text.specs.Job.{Job, Outcome, job, fault as faulty, read_job}
use Rattle.job_text.specs.Asked.{job_table, first_cause}
use Rattle.job_text.proofs.Promises.{one_column}
use Rattle.answer_check.specs.declared.Checked.{Checked}
use Rattle.answer_check.specs.declared.Checked.TheVariants as checked
use Rattle.answer_check.specs.declared.Fault.TheVariants as fault
use Rattle.answer_form.specs.Form.{run}
use Rattle.answer_check.specs.Fault.{Breaks, Open, BadCycle, NoCycle, Meets, Holds, Judged}
use Rattle.answer_check.specs.Checking.{RunJudged, Told, malformed, no_run, run_judged, ByCause, ByJob, Checks, NamesAccepted}
use Rattle.answer_form.proofs.Inverse.{one_said}

-- ---- a step leads to one state, and so does a walk

one_step : (t : Table) (e s a b : ℕ) → Step t e s a → Step t e s b → a ≡ b
one_step t e s a b (inl p) (inl q) = sym p.arrives ∙ q.arrives
one_step t e s a b (inl p) (inr q) = absurd (q.stop.halts e a p)
one_step t e s a b (inr p) (inl q) = absurd (p.stop.halts e b q)
one_step t e s a b (inr p) (inr q) = p.stays ∙ sym q.stays

one_walk : (t : Table) (s : ℕ) (es : List ℕ) (a b : ℕ) → Walk t s es a → Walk t s es b → a ≡ b
one_walk t s [] a b v w = sym v ∙ w
one_walk t s (e ∷ es) a b v w =
    one_walk t v.0 es a b v.1.1 (subst (λ (x : ℕ). Walk t x es b) (one_step t e s w.0 v.0 w.1.0 v.1.0) w.1.1)

-- a walk of more edges has a step at each of its positions
pub step_at : (t : Table) (s : ℕ) (es : List ℕ) (i z : ℕ) → Walk t s es z → i < length es → (m : ℕ) × ((m' : ℕ) × (Walk t s (take i es) m × Step t (get_or es i 0) m m'))
step_at t s [] i z w l = absurd (omega arith)
step_at t s (e ∷ es) zero z w l = (s, (w.0, (refl, w.1.0)))
step_at t s (e ∷ es) (suc i) z w l =
    let r = step_at t w.0 es i z w.1.1 (omega (arith, l)) in
    (r.0, (r.1.0, ((w.0, (w.1.0, r.1.1.0)), r.1.1.1)))

-- what breaks at i is no walk that goes further than i
no_further : (t : Table) (s : ℕ) (es : List ℕ) (i : ℕ) → Breaks t s es i → (k z : ℕ) → i < k → Walk t s (take k es) z → ⊥
no_further t s es i B k z l w =
    let long : i < length (take k es) = omega (arith, length-take k es, B.inside) in
    let r = step_at t s (take k es) i z w long in
    let same-take : take i (take k es) ≡ take i es = take-take i k es (omega arith) in
    let same_edge : get_or (take k es) i 0 ≡ get_or es i 0 = get_or-take k es i 0 l in
    let walk : Walk t s (take i es) r.0 = subst (λ (x : List ℕ). Walk t s x r.0) same-take r.1.1.0 in
    let here : r.0 ≡ B.reached = one_walk t s (take i es) r.0 B.reached walk B.walks in
    B.stuck r.1.0 (subst (λ (x : ℕ). Step t (get_or es i 0) x r.1.0) here (subst (λ (x : ℕ). Step t x r.0 r.1.0) same_edge r.1.1.1))

no_walk : (t : Table) (s : ℕ) (es : List ℕ) (i : ℕ) → Breaks t s es i → (z : ℕ) → Walk t s es z → ⊥
no_walk t s es i B z w = no_further t s es i B (length es) z B.inside (subst (λ (x : List ℕ). Walk t s x z) (sym (take-length es)) w)

one_break : (t : Table) (s : ℕ) (es : List ℕ) (i k : ℕ) → Breaks t s es i → Breaks t s es k → i ≡ k
one_break t s es i k B D =
    below i k (λ l. absurd (no_further t s es i B k D.reached l D.walks))
    (λ l. below k i (λ h. absurd (no_further t s es k D i B.reached h B.walks)) (λ h. omega arith))

-- ---- one fault at most, and none with an accepted lasso

module _ (t : Table) (c : Acceptance) (needs : List ℕ) (pair : ℕ) (prefix cycle : List ℕ) where
  -- an empty cycle is no lasso's
  empty_not : (i : ℕ) → NoCycle t prefix cycle i → 0 < length cycle → ⊥
  empty_not i N l = omega (arith, ap length N.none)

  -- a cycle at fault is no lasso's
  cycle_not : (i : ℕ) → BadCycle t prefix cycle i → Lasso t prefix cycle → ⊥
  cycle_not i B lasso = by B.fault
    where
      same_knot : lasso.knot ≡ B.knot
      same_knot = one_walk t t.start prefix lasso.knot B.knot lasso.leads B.leads

      closes : Walk t B.knot cycle B.knot
      closes = subst (λ (x : ℕ). Walk t x cycle x) same_knot lasso.closes

      by : Breaks t B.knot cycle i ⊎ Open t B.knot cycle i → ⊥
      by (inl D) = no_walk t B.knot cycle i D B.knot closes
      by (inr o) = o.elsewhere (one_walk t B.knot cycle o.arrives B.knot o.walks closes)

  one_cycle_fault : (knot i k : ℕ) → Breaks t knot cycle i ⊎ Open t knot cycle i → Breaks t knot cycle k ⊎ Open t knot cycle k → i ≡ k
  one_cycle_fault knot i k (inl a) (inl b) = one_break t knot cycle i k a b
  one_cycle_fault knot i k (inl a) (inr b) = absurd (no_walk t knot cycle i a b.arrives b.walks)
  one_cycle_fault knot i k (inr a) (inl b) = absurd (no_walk t knot cycle k b a.arrives a.walks)
  one_cycle_fault knot i k (inr a) (inr b) = a.position ∙ sym b.position

  one_bad_cycle : (i k : ℕ) → BadCycle t prefix cycle i → BadCycle t prefix cycle k → i ≡ k
  one_bad_cycle i k a b =
      one_cycle_fault a.knot i k a.fault
      (subst (λ (x : ℕ). Breaks t x cycle k ⊎ Open t x cycle k) (one_walk t t.start prefix b.knot a.knot b.leads a.leads) b.fault)

  -- a prefix that breaks leads nowhere
  prefix_not : (i : ℕ) → Breaks t t.start prefix i → (k : ℕ) → Walk t t.start prefix k → ⊥
  prefix_not i B k w = no_walk t t.start prefix i B k w

  -- what becomes of a run is settled
  pub one_judged : (a b : Checked) → Judged t c needs pair prefix cycle a → Judged t c needs pair prefix cycle b → a ≡ b
  one_judged checked.Accepted checked.Accepted p q = refl
  one_judged checked.Accepted (checked.Rejected fault.Prefix k) p q = absurd (prefix_not k q p.lasso.knot p.lasso.leads)
  one_judged checked.Accepted (checked.Rejected fault.Empty k) p q = absurd (empty_not k q p.lasso.turns)
  one_judged checked.Accepted (checked.Rejected fault.Cycle k) p q = absurd (cycle_not k q p.lasso)
  one_judged checked.Accepted (checked.Rejected fault.Condition k) p q = absurd (q.unmet p.met)
  one_judged checked.Accepted (checked.Refused n m k) p q = absurd q
  one_judged (checked.Rejected fault.Prefix i) checked.Accepted p q = absurd (prefix_not i p q.lasso.knot q.lasso.leads)
  one_judged (checked.Rejected fault.Prefix i) (checked.Rejected fault.Prefix k) p q = ap (checked.Rejected fault.Prefix) (one_break t t.start prefix i k p q)
  one_judged (checked.Rejected fault.Prefix i) (checked.Rejected fault.Empty k) p q = absurd (prefix_not i p q.knot q.leads)
  one_judged (checked.Rejected fault.Prefix i) (checked.Rejected fault.Cycle k) p q = absurd (prefix_not i p q.knot q.leads)
  one_judged (checked.Rejected fault.Prefix i) (checked.Rejected fault.Condition k) p q = absurd (prefix_not i p q.lasso.knot q.lasso.leads)
  one_judged (checked.Rejected fault.Prefix i) (checked.Refused n m k) p q = absurd q
  one_judged (checked.Rejected fault.Empty i) checked.Accepted p q = absurd (empty_not i p q.lasso.turns)
  one_judged (checked.Rejected fault.Empty i) (checked.Rejected fault.Prefix k) p q = absurd (prefix_not k q p.knot p.leads)
  one_judged (checked.Rejected fault.Empty i) (checked.Rejected fault.Empty k) p q = ap (checked.Rejected fault.Empty) (p.position ∙ sym q.position)
  one_judged (checked.Rejected fault.Empty i) (checked.Rejected fault.Cycle k) p q = absurd (empty_not i p q.some)
  one_judged (checked.Rejected fault.Empty i) (checked.Rejected fault.Condition k) p q = absurd (empty_not i p q.lasso.turns)
  one_judged (checked.Rejected fault.Empty i) (checked.Refused n m k) p q = absurd q
  one_judged (checked.Rejected fault.Cycle i) checked.Accepted p q = absurd (cycle_not i p q.lasso)
  one_judged (checked.Rejected fault.Cycle i) (checked.Rejected fault.Prefix k) p q = absurd (prefix_not k q p.knot p.leads)
  one_judged (checked.Rejected fault.Cycle i) (checked.Rejected fault.Empty k) p q = absurd (empty_not k q p.some)
  one_judged (checked.Rejected fault.Cycle i) (checked.Rejected fault.Cycle k) p q = ap (checked.Rejected fault.Cycle) (one_bad_cycle i k p q)
  one_judged (checked.Rejected fault.Cycle i) (checked.Rejected fault.Condition k) p q = absurd (cycle_not i p q.lasso)
  one_judged (checked.Rejected fault.Cycle i) (checked.Refused n m k) p q = absurd q
  one_judged (checked.Rejected fault.Condition i) checked.Accepted p q = absurd (p.unmet q.met)
  one_judged (checked.Rejected fault.Condition i) (checked.Rejected fault.Prefix k) p q = absurd (prefix_not k q p.lasso.knot p.lasso.leads)
  one_judged (checked.Rejected fault.Condition i) (checked.Rejected fault.Empty k) p q = absurd (empty_not k q p.lasso.turns)
  one_judged (checked.Rejected fault.Condition i) (checked.Rejected fault.Cycle k) p q = absurd (cycle_not k q p.lasso)
  one_judged (checked.Rejected fault.Condition i) (checked.Rejected fault.Condition k) p q = ap (checked.Rejected fault.Condition) (p.position ∙ sym q.position)
  one_judged (checked.Rejected fault.Condition i) (checked.Refused n m k) p q = absurd q
  one_judged (checked.Refused n m k) b p q = absurd p

-- ---- one result for two texts

module _ (t : Table) (c : Acceptance) (needs text : List ℕ) where
  same_run : (a b : Checked) (A : RunJudged t c needs text a) → RunJudged t c needs text b → a ≡ b
  same_run a b A B =
      let said : run B.pair B.prefix B.cycle ≡ run A.pair A.prefix A.cycle = one_said c text _ _ B.says A.says in
      let p : B.pair ≡ A.pair = cc in
      let q : B.prefix ≡ A.prefix = cc in
      let r : B.cycle ≡ A.cycle = cc in
      one_judged t c needs A.pair A.prefix A.cycle a b A.judged
      (subst (λ (x : List ℕ). Judged t c needs A.pair A.prefix x b) r
      (subst (λ (x : List ℕ). Judged t c needs A.pair x B.cycle b) q (subst (λ (x : ℕ). Judged t c needs x B.prefix B.cycle b) p B.judged)))

  one_told : (a b : Checked) → Told t c needs text a → Told t c needs text b → a ≡ b
  one_told a b (malformed m e) (malformed n f) = e ∙ sym f
  one_told a b (malformed m e) (no_run n f) = absurd (m n.said n.says)
  one_told a b (malformed m e) (run_judged R) = absurd (m (run R.pair R.prefix R.cycle) R.says)
  one_told a b (no_run n e) (malformed m f) = absurd (m n.said n.says)
  one_told a b (no_run n e) (no_run m f) = e ∙ sym f
  one_told a b (no_run n e) (run_judged R) = absurd (n.other R.pair R.prefix R.cycle (one_said c text _ _ n.says R.says))
  one_told a b (run_judged R) (malformed m f) = absurd (m (run R.pair R.prefix R.cycle) R.says)
  one_told a b (run_judged R) (no_run n f) = absurd (n.other R.pair R.prefix R.cycle (one_said c text _ _ n.says R.says))
  one_told a b (run_judged R) (run_judged S) = same_run a b R S

by_cause_once : (f : Result Unit Refusal) (t : Table) (c : Acceptance) (needs text : List ℕ) (a b : Checked) → ByCause f t c needs text a → ByCause f t c needs text b → a ≡ b
by_cause_once (Err cause) t c needs text a b p q = p ∙ sym q
by_cause_once (Ok done) t c needs text a b p q = one_told t c needs text a b p q

by_job_once : (text : List ℕ) (o : Outcome) (answer : List ℕ) (a b : Checked) → ByJob text o answer a → ByJob text o answer b → a ≡ b
by_job_once text (faulty number place) answer a b p q =
    p.told ∙ ap (checked.Refused number place) (one_column text p.column q.column p.first q.first) ∙ sym q.told
by_job_once text (job j) answer a b p q = by_cause_once (first_cause (job j)) (job_table j) j.condition j.needs answer a b p q

-- two results for a job text and an answer text are equal
pub checks_once : (text answer : List ℕ) (a b : Checked) → Checks text answer a → Checks text answer b → a ≡ b
checks_once text answer a b p q = by_job_once text (read_job text) answer a b p q

-- ---- accepted exactly if the text names an accepted lasso of the job's table

not_accepted : {number place column : ℕ} {C : Type 0} → checked.Refused number place column ≡ checked.Accepted → C
not_accepted e = let z : ◌≡◌ {A = ℕ} 0 1 = cc in absurd (omega arith)

meets_accepts : (c : Acceptance) (needs : List ℕ) (M pair : ℕ) → Meets c needs M pair → Accepts c needs M
meets_accepts (Buchi k) needs M pair m = m
meets_accepts (Streett p) needs M pair m = m
meets_accepts (Rabin p) needs M pair m = record { pair = pair; below = m.0; met = m.1 }

told_accepted : (j : Job) (text answer : List ℕ) (r : Checked) → read_job text ≡ job j → first_cause (job j) ≡ Ok tt → r ≡ checked.Accepted
    → Told (job_table j) j.condition j.needs answer r → NamesAccepted text answer
told_accepted j text answer r o s e (malformed m f) = not_accepted (sym f ∙ e)
told_accepted j text answer r o s e (no_run n f) = not_accepted (sym f ∙ e)
told_accepted j text answer r o s e (run_judged R) =
    let H : Holds (job_table j) j.condition j.needs R.pair R.prefix R.cycle =
    subst (Judged (job_table j) j.condition j.needs R.pair R.prefix R.cycle) e R.judged in
    record {
      asked = j;
      read = o;
      sound = s;
      pair = R.pair;
      prefix = R.prefix;
      cycle = R.cycle;
      says = R.says;
      accepted = record { lasso = H.lasso; meets = meets_accepts j.condition j.needs (marks_of (job_table j) R.cycle) R.pair H.met };
      met = H.met;
    }

cause_accepted : (j : Job) (text answer : List ℕ) (r : Checked) → read_job text ≡ job j → r ≡ checked.Accepted → (f : Result Unit Refusal) → first_cause (job j) ≡ f
    → ByCause f (job_table j) j.condition j.needs answer r → NamesAccepted text answer
cause_accepted j text answer r o e (Ok done) s T = told_accepted j text answer r o s e T
cause_accepted j text answer r o e (Err cause) s T = not_accepted (sym T ∙ e)

job_accepted : (text answer : List ℕ) (r : Checked) → r ≡ checked.Accepted → (o : Outcome) → read_job text ≡ o → ByJob text o answer r → NamesAccepted text answer
job_accepted text answer r e (faulty number place) q T = not_accepted (sym T.told ∙ e)
job_accepted text answer r e (job j) q T = cause_accepted j text answer r q e (first_cause (job j)) refl T

-- a text that names one is accepted
pub accepted_so : (text answer : List ℕ) → NamesAccepted text answer → Checks text answer checked.Accepted
accepted_so text answer N =
    let j = N.asked in
    let told : Told (job_table j) j.condition j.needs answer checked.Accepted =
    run_judged (record { pair = N.pair; prefix = N.prefix; cycle = N.cycle; says = N.says; judged = record { lasso = N.accepted.lasso; met = N.met } }) in
    let caused : ByJob text (job j) answer checked.Accepted =
    subst (λ (f : Result Unit Refusal). ByCause f (job_table j) j.condition j.needs answer checked.Accepted) (sym N.sound) told in
    subst (λ (o : Outcome). ByJob text o answer checked.Accepted) (sym N.read) caused

pub accepted_exactly : (text answer : List ℕ) (r : Checked) → Checks text answer r → (r ≡ checked.Accepted) ↔ NamesAccepted text answer
accepted_exactly text answer r T =
    (λ e. job_accepted text answer r e (read_job text) refl T, λ N. checks_once text answer r checked.Accepted T (accepted_so text answer N))
