-- Which texts are jobs, what each says, and where the others are at fault (docs/RULES.md, "The job text and the printed answer").
-- Assumes nothing.
use Rattle.std.specs.Prelude.{Bool, true, false, cond, List, [], ◌∷◌, ◌++◌, ◌≡◌, ℕ, zero, suc, ◌+◌, ltb, length, drop}
use Rattle.std.proofs.Math.Option.{Option, some, none}
use Rattle.table.specs.declared.Acceptance.{Acceptance}
use Rattle.job_values.specs.declared.value.Kind.{Kind}
use Rattle.job_values.specs.declared.value.Form.{Form}
use Rattle.job_values.specs.declared.value.Form.TheVariants.{One}
use Rattle.job_values.specs.Column.{given, RightLine, FirstWrong}
use Rattle.job_text.specs.Text.{newline, Lines, done, broken, line, lines, begins}
use Rattle.job_text.specs.Value.{number, text_form, kind, usual_kind, needs, Edge, edge, end, condition, most_count}

-- ---- the limits: "Program limits (23): 256 states, 512 edges, count above what row 4 allows."

-- row 20
abbrev pub most_bytes : ℕ
most_bytes = 12288

abbrev pub most_job_states : ℕ
most_job_states = 256

abbrev pub most_job_edges : ℕ
most_job_edges = 512

abbrev pub above : ℕ → ℕ → Bool
above most n = ltb most n

abbrev pub unlimited : {A : Type 0} → A → Bool
unlimited a = false

-- ---- one line

-- the value after the key, and the lines after this one
pub data Keyed : Type 0 where
  missing : Keyed
  value : List ℕ → Lines → Keyed

abbrev pub keyed : List ℕ → Lines → Keyed
keyed key done = missing
keyed key broken = missing
keyed key (line l ls) = cond (begins key l) (value (drop (length key) l) ls) missing

-- what is wrong with a line
pub data Cause : Type 0 where
  -- 21: it has the wrong key, is missing, or follows the end
  absent : Cause
  -- 22: behind the key stands a value that is not right
  unformed : List ℕ → (List ℕ → Bool) → List ℕ → Cause
  -- 23: behind the key stands a number that is too large
  large : List ℕ → Cause

abbrev pub number_of : Cause → ℕ
number_of absent = 21
number_of (unformed key right v) = 22
number_of (large key) = 23

-- what a line says, and the lines after it; or what is wrong with it
pub data Line (A : Type 0) : Type 0 where
  says : A → Lines → Line A
  fault : Cause → Line A

abbrev pub limited : {A : Type 0} → List ℕ → (A → Bool) → A → Lines → Line A
limited key over a ls = cond (over a) (fault (large key)) (says a ls)

abbrev pub formed : {A : Type 0} → List ℕ → (List ℕ → Option A) → (A → Bool) → List ℕ → Option A → Lines → Line A
formed key form over v none ls = fault (unformed key (λ u. given (form u)) v)
formed key form over v (some a) ls = limited key over a ls

abbrev pub valued : {A : Type 0} → List ℕ → (List ℕ → Option A) → (A → Bool) → Keyed → Line A
valued key form over missing = fault absent
valued key form over (value v ls) = formed key form over v (form v) ls

-- "21 before 22 before 23 in a line"
abbrev pub asked : {A : Type 0} → List ℕ → (List ℕ → Option A) → (A → Bool) → Lines → Line A
asked key form over ls = valued key form over (keyed key ls)

-- ---- line by line

-- what some lines say, the number of the line that comes next, and the lines from there; or what is wrong with the first faulty line, and its number
pub data Found (A : Type 0) : Type 0 where
  found : A → ℕ → Lines → Found A
  refused : Cause → ℕ → Found A

-- the number of the next line, and the lines from there
abbrev pub Reader : Type 0 → Type 0
Reader A = ℕ → Lines → Found A

abbrev pub placed : {A : Type 0} → ℕ → Line A → Found A
placed place (says a ls) = found a (place + 1) ls
placed place (fault why) = refused why place

-- one line with its place
abbrev pub next : {A : Type 0} → (Lines → Line A) → Reader A
next read place ls = placed place (read ls)

abbrev pub go_on : {A B : Type 0} → Found A → (A → Reader B) → Found B
go_on (found a place ls) f = f a place ls
go_on (refused why place) f = refused why place

-- "Text is judged line by line": the first fault decides
infixl 10 ◌>>=◌
abbrev pub ◌>>=◌ : {A B : Type 0} → Reader A → (A → Reader B) → Reader B
◌>>=◌ r f = λ place ls. go_on (r place ls) f

abbrev pub give : {A : Type 0} → A → Reader A
give a = λ place ls. found a place ls

-- the same line a number of times
abbrev pub times : {A : Type 0} → ℕ → Reader A → Reader (List A)
times zero r = give []
times (suc k) r = r >>= λ a. times k r >>= λ more. give (a ∷ more)

-- row 21: a line "follows the end"
abbrev pub over : Reader (Unit {0})
over place done = found tt place done
over place broken = refused absent place
over place (line l ls) = refused absent place

-- a line that may be left out: a line with another key is not this one, and then a is meant
abbrev pub left_out : {A : Type 0} → A → (Lines → Line A) → Keyed → Reader A
left_out a read missing = give a
left_out a read (value v rest) = next read

abbrev pub perhaps : {A : Type 0} → List ℕ → (List ℕ → Option A) → A → Reader A
perhaps key form a place ls = left_out a (asked key form unlimited) (keyed key ls) place ls

-- ---- the keys

abbrev pub form= : List ℕ
form= = 102 ∷ 111 ∷ 114 ∷ 109 ∷ 61 ∷ []

abbrev pub states= : List ℕ
states= = 115 ∷ 116 ∷ 97 ∷ 116 ∷ 101 ∷ 115 ∷ 61 ∷ []

abbrev pub start= : List ℕ
start= = 115 ∷ 116 ∷ 97 ∷ 114 ∷ 116 ∷ 61 ∷ []

abbrev pub kind= : List ℕ
kind= = 107 ∷ 105 ∷ 110 ∷ 100 ∷ 61 ∷ []

abbrev pub count= : List ℕ
count= = 99 ∷ 111 ∷ 117 ∷ 110 ∷ 116 ∷ 61 ∷ []

abbrev pub need= : List ℕ
need= = 110 ∷ 101 ∷ 101 ∷ 100 ∷ 61 ∷ []

abbrev pub edges= : List ℕ
edges= = 101 ∷ 100 ∷ 103 ∷ 101 ∷ 115 ∷ 61 ∷ []

abbrev pub edge= : List ℕ
edge= = 101 ∷ 100 ∷ 103 ∷ 101 ∷ 61 ∷ []

abbrev pub end= : List ℕ
end= = 101 ∷ 110 ∷ 100 ∷ 61 ∷ []

-- ---- the job

-- "The first line may be `form=2`.": without it the text is of form 1
abbrev pub form_line : Reader Form
form_line = perhaps form= text_form One

-- "The kind line may be left out; that means buchi, in form 2 streett."
abbrev pub kind_line : Form → Reader Kind
kind_line f = perhaps kind= kind (usual_kind f)

-- the lines before the edges
pub record Head : Type 0 where
  pub states : ℕ
  pub start : ℕ
  pub kind : Kind
  pub count : ℕ
  pub needs : List ℕ
  pub edges : ℕ

-- ".. count, need, edges, .."
abbrev pub count_lines : ℕ → ℕ → Kind → Reader Head
count_lines n s k = do
  c ← next (asked count= number (above (most_count k)))
  ds ← next (asked need= (needs k c) unlimited)
  m ← next (asked edges= number (above most_job_edges))
  give (record { states = n; start = s; kind = k; count = c; needs = ds; edges = m })

-- ".. states, start, kind, .."
abbrev pub state_lines : Form → Reader Head
state_lines f = do
  n ← next (asked states= number (above most_job_states))
  s ← next (asked start= number unlimited)
  k ← kind_line f
  count_lines n s k

-- "Keys stand in this order: form, states, .."
abbrev pub head_lines : Reader Head
head_lines = do
  f ← form_line
  state_lines f

abbrev pub edge_lines : ℕ → Reader (List Edge)
edge_lines m = times m (next (asked edge= edge unlimited))

-- the end line, and nothing after it
abbrev pub end_lines : Reader (Unit {0})
end_lines = do
  e ← next (asked end= end unlimited)
  over

-- ".. one edge line per edge, end."
abbrev pub body_lines : ℕ → Reader (List Edge)
body_lines m = do
  es ← edge_lines m
  o ← end_lines
  give es

-- what a job says
pub record Job : Type 0 where
  pub states : ℕ
  pub start : ℕ
  pub condition : Acceptance
  pub needs : List ℕ
  pub edges : List Edge

abbrev pub job_of : Head → List Edge → Job
job_of h es = record { states = h.states; start = h.start; condition = condition h.kind h.count; needs = h.needs; edges = es }

abbrev pub job_lines : Reader Job
job_lines = do
  h ← head_lines
  es ← body_lines h.edges
  give (job_of h es)

-- what the text says as a whole: a job, or the number and the place of its first fault
pub data Outcome : Type 0 where
  job : Job → Outcome
  fault : ℕ → ℕ → Outcome

abbrev pub outcome : Found Job → Outcome
outcome (found j place ls) = job j
outcome (refused why place) = fault (number_of why) place

-- "20 comes first"; "counted from 1"
unfoldable pub read_job : List ℕ → Outcome
read_job text = cond (ltb most_bytes (length text)) (fault 20 0) (outcome (job_lines 1 (lines text)))

-- ---- the column of the first fault (docs/RULES.md, "Columns")

-- 21: 1; 22: the smallest c such that the first c bytes begin no right line; 23: the byte behind the `=`
abbrev pub ColumnOf : Cause → ℕ → Type 0
ColumnOf absent c = c ≡ 1
ColumnOf (unformed key right v) c = FirstWrong (RightLine key right) (key ++ (v ++ (newline ∷ []))) c
ColumnOf (large key) c = c ≡ length key + 1

abbrev pub ColumnIn : {A : Type 0} → Found A → ℕ → Type 0
ColumnIn (found a place ls) c = c ≡ 0
ColumnIn (refused why place) c = ColumnOf why c

-- 0 for a job and for row 20
abbrev pub ColumnIf : Bool → Lines → ℕ → Type 0
ColumnIf true ls c = c ≡ 0
ColumnIf false ls c = ColumnIn (job_lines 1 ls) c

abbrev pub Column : List ℕ → ℕ → Type 0
Column text c = ColumnIf (ltb most_bytes (length text)) (lines text) c
