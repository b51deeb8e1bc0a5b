-- The texts that are read, and what each says (docs/RULES.md, "The Hanoi format", subset): conditions on the trees of Doc.antt, the limits apart. Assumes nothing.
use Rattle.std.specs.Prelude.{List, [], ◌∷◌, ◌++◌, ◌≡◌, ℕ, ◌≤◌, ◌<◌, length}
use Rattle.std.proofs.Math.Option.{Option, some, none}
use Rattle.table.specs.declared.Acceptance.{Acceptance}
use Rattle.table.specs.declared.Acceptance.TheVariants.{Buchi, Streett, Rabin}
use Rattle.job_text.specs.Value.{Edge}
use Rattle.job_text.specs.Job.{Job, most_job_states, most_job_edges}
use Rattle.hoa_tokens.specs.declared.Word.TheVariants as word_is
use Rattle.hoa_tokens.specs.Token.{Token}
use Rattle.hoa_label.specs.Label.{Label, label_fits, label_depth, Satisfiable, most_levels}
use Rattle.hoa_formula.specs.Cond.{Cond, cond_text}
use Rattle.hoa_standard.specs.Standard.{standard, Std, std_text, IsStd, std_meaning, most_pairs}
use Rattle.hoa_value.specs.Head.{most_props, most_marks}
use Rattle.hoa_entry.specs.Sig.{with_mark}
use Rattle.hoa_kept.specs.Sorted.{sorted}
use Rattle.hoa_grammar.specs.Doc.{Conj, Item, states, start, props, alias, acceptance, acc_name, tool, name, properties, capital, lower, EdgeTree, Row, Doc}

-- ---- lists

-- each element is so
pub data Each {A : Type 0} (P : A → Type 0) : List A → Type 0 where
  each_none : Each P []
  each_more : {x : A} {xs : List A} → P x → Each P xs → Each P (x ∷ xs)

-- no two elements are equal
pub data Differ {A : Type 0} : List A → Type 0 where
  differ_none : Differ []
  differ_more : {x : A} {xs : List A} → Each (λ y. x ≡ y → ⊥) xs → Differ xs → Differ (x ∷ xs)

-- ---- what the items give

-- an item of one sort, and what it gives
abbrev pub Sort : Type 0 → Type 0
Sort A = Item → Option A

abbrev pub put : {A : Type 0} → Option A → List A → List A
put none xs = xs
put (some x) xs = x ∷ xs

-- all that the items of a sort give, in the text's order
unfoldable pub given : {A : Type 0} → Sort A → List Item → List A
given sort [] = []
given sort (i ∷ is) = put (sort i) (given sort is)

-- States:
abbrev pub of_states : Sort ℕ
of_states (states n) = some n
of_states (start c) = none
of_states (props a ns) = none
of_states (alias l) = none
of_states (acceptance c x) = none
of_states (acc_name w hs) = none
of_states (tool bs second) = none
of_states (name bs) = none
of_states (properties ws) = none
of_states (capital es) = none
of_states (lower es) = none

-- Start:
abbrev pub of_start : Sort Conj
of_start (states n) = none
of_start (start c) = some c
of_start (props a ns) = none
of_start (alias l) = none
of_start (acceptance c x) = none
of_start (acc_name w hs) = none
of_start (tool bs second) = none
of_start (name bs) = none
of_start (properties ws) = none
of_start (capital es) = none
of_start (lower es) = none

-- AP:, with its names
abbrev pub of_props : Sort (List (List ℕ))
of_props (states n) = none
of_props (start c) = none
of_props (props a ns) = some ns
of_props (alias l) = none
of_props (acceptance c x) = none
of_props (acc_name w hs) = none
of_props (tool bs second) = none
of_props (name bs) = none
of_props (properties ws) = none
of_props (capital es) = none
of_props (lower es) = none

-- a number of marks, and a formula
pub record Formula : Type 0 where
  pub marks : ℕ
  pub cond : Cond

-- Acceptance:
abbrev pub of_acceptance : Sort Formula
of_acceptance (states n) = none
of_acceptance (start c) = none
of_acceptance (props a ns) = none
of_acceptance (alias l) = none
of_acceptance (acceptance c x) = some (record { marks = c; cond = x })
of_acceptance (acc_name w hs) = none
of_acceptance (tool bs second) = none
of_acceptance (name bs) = none
of_acceptance (properties ws) = none
of_acceptance (capital es) = none
of_acceptance (lower es) = none

-- acc-name:
abbrev pub of_acc_name : Sort (Unit {0})
of_acc_name (states n) = none
of_acc_name (start c) = none
of_acc_name (props a ns) = none
of_acc_name (alias l) = none
of_acc_name (acceptance c x) = none
of_acc_name (acc_name w hs) = some tt
of_acc_name (tool bs second) = none
of_acc_name (name bs) = none
of_acc_name (properties ws) = none
of_acc_name (capital es) = none
of_acc_name (lower es) = none

-- tool:
abbrev pub of_tool : Sort (Unit {0})
of_tool (states n) = none
of_tool (start c) = none
of_tool (props a ns) = none
of_tool (alias l) = none
of_tool (acceptance c x) = none
of_tool (acc_name w hs) = none
of_tool (tool bs second) = some tt
of_tool (name bs) = none
of_tool (properties ws) = none
of_tool (capital es) = none
of_tool (lower es) = none

-- name:
abbrev pub of_name : Sort (Unit {0})
of_name (states n) = none
of_name (start c) = none
of_name (props a ns) = none
of_name (alias l) = none
of_name (acceptance c x) = none
of_name (acc_name w hs) = none
of_name (tool bs second) = none
of_name (name bs) = some tt
of_name (properties ws) = none
of_name (capital es) = none
of_name (lower es) = none

-- "AP: INT(a) STRING^a", "The a STRINGs differ, byte for byte between the quotes"; no Alias:, no unknown name with a capital letter in front
abbrev pub ItemFits : Item → Type 0
ItemFits (states n) = Unit {0}
ItemFits (start c) = Unit {0}
ItemFits (props a ns) = (length ns ≡ a) × Differ ns
ItemFits (alias l) = ⊥
ItemFits (acceptance c x) = Unit {0}
ItemFits (acc_name w hs) = Unit {0}
ItemFits (tool bs second) = Unit {0}
ItemFits (name bs) = Unit {0}
ItemFits (properties ws) = Unit {0}
ItemFits (capital es) = ⊥
ItemFits (lower es) = Unit {0}

-- "States:, AP:, acc-name:, tool:, name: at most once"; Start: and Acceptance: have their own lines below
pub record Once (is : List Item) : Type 0 where
  pub states_once : length (given of_states is) ≤ 1
  pub props_once : length (given of_props is) ≤ 1
  pub acc_name_once : length (given of_acc_name is) ≤ 1
  pub tool_once : length (given of_tool is) ≤ 1
  pub name_once : length (given of_name is) ≤ 1

-- the formula is a standard one with this meaning
pub record StandardAs (f : Formula) (condition : Acceptance) (needs : List ℕ) : Type 0 where
  pub std : Std
  pub of_marks : IsStd f.marks std
  pub text : (ts : List Token) → cond_text f.cond ts ≡ std_text std ts
  pub means : std_meaning f.marks std ≡ standard condition needs

-- "Without AP: a is 0"
abbrev pub props_of : List (List (List ℕ)) → ℕ
props_of [] = 0
props_of (ns ∷ nss) = length ns

-- "without States: n is the number of rows"
abbrev pub states_of : List ℕ → List Row → ℕ
states_of [] rs = length rs
states_of (n ∷ ns) rs = n

-- ---- what the rows give

-- the marks m, and those that a sig lists
unfoldable pub marks_from : ℕ → List ℕ → ℕ
marks_from m [] = m
marks_from m (i ∷ is) = marks_from (with_mark m i) is

abbrev pub sig_marks : ℕ → Option (List ℕ) → ℕ
sig_marks m none = m
sig_marks m (some is) = marks_from m is

-- "Each INT in a sig is below c"
abbrev pub SigFits : ℕ → Option (List ℕ) → Type 0
SigFits c none = Unit {0}
SigFits c (some is) = Each (λ i. i < c) is

-- an edge of state q whose row has the marks m says these edges: itself "with the marks of the row's sig and its own together", or none if no valuation
-- satisfies its label
pub data EdgeSays (n a c q m : ℕ) : EdgeTree → List Edge → Type 0 where
  kept : {l : Label} {to : ℕ} {sig : Option (List ℕ)} → label_fits l a → to < n → SigFits c sig → Satisfiable a l
      → EdgeSays n a c q m (record { label = some l; to = Conj.one to; sig = sig }) (record { from = q; to = to; marks = sig_marks m sig } ∷ [])
  dropped : {l : Label} {to : ℕ} {sig : Option (List ℕ)} → label_fits l a → to < n → SigFits c sig → (Satisfiable a l → ⊥)
      → EdgeSays n a c q m (record { label = some l; to = Conj.one to; sig = sig }) []

pub data EdgesSay (n a c q m : ℕ) : List EdgeTree → List Edge → Type 0 where
  no_edges : EdgesSay n a c q m [] []
  more_edges : {e : EdgeTree} {es : List EdgeTree} {xs ys : List Edge} → EdgeSays n a c q m e xs → EdgesSay n a c q m es ys → EdgesSay n a c q m (e ∷ es) (xs ++ ys)

-- a row says the edges of its state
pub record RowSays (n a c : ℕ) (r : Row) (es : List Edge) : Type 0 where
  pub no_label : r.label ≡ none
  pub below : r.number < n
  pub sig_fits : SigFits c r.sig
  pub edges_say : EdgesSay n a c r.number (sig_marks 0 r.sig) r.edges es

pub data RowsSay (n a c : ℕ) : List Row → List Edge → Type 0 where
  no_rows : RowsSay n a c [] []
  more_rows : {r : Row} {rs : List Row} {xs ys : List Edge} → RowSays n a c r xs → RowsSay n a c rs ys → RowsSay n a c (r ∷ rs) (xs ++ ys)

abbrev pub numbers_of : List Row → List ℕ
numbers_of [] = []
numbers_of (r ∷ rs) = r.number ∷ numbers_of rs

-- ---- what a text says

pub record Says (d : Doc) (j : Job) : Type 0 where
  pub version : d.version ≡ word_is.V1
  pub items_fit : Each ItemFits d.items
  pub once : Once d.items
  -- "Start: exactly once", with one INT
  pub starts : given of_start d.items ≡ Conj.one j.start ∷ []
  -- "Acceptance: exactly once"
  pub formula : Formula
  pub accepts : given of_acceptance d.items ≡ formula ∷ []
  pub means : StandardAs formula j.condition j.needs
  pub states : j.states ≡ states_of (given of_states d.items) d.rows
  -- "n at least 1; s, every q and every target below n"
  pub some_state : 1 ≤ j.states
  pub start_below : j.start < j.states
  -- "There are n rows, no two equal"
  pub row_each : length d.rows ≡ j.states
  pub rows_differ : Differ (numbers_of d.rows)
  -- the rows' edges in the text's order; "for each state from 0 the edges of its row"
  pub all : List Edge
  pub rows_say_lem : RowsSay j.states (props_of (given of_props d.items)) formula.marks d.rows all
  pub edges : j.edges ≡ sorted j.states all

-- ---- the limits: "n at most 256, a at most 6, c at most 32, at most 8 Rabin pairs, at most 512 edges with a satisfiable label"; brackets of a label nest at
-- most 256 deep

-- how many Rabin pairs a condition has
abbrev pub pairs_in : Acceptance → ℕ
pairs_in (Buchi k) = 0
pairs_in (Streett p) = 0
pairs_in (Rabin p) = p

abbrev pub LabelLimit : Option Label → Type 0
LabelLimit none = Unit {0}
LabelLimit (some l) = label_depth l ≤ most_levels

pub record Limited (d : Doc) (j : Job) (says : Says d j) : Type 0 where
  pub few_states : j.states ≤ most_job_states
  pub few_props : props_of (given of_props d.items) ≤ most_props
  pub few_marks : says.formula.marks ≤ most_marks
  pub few_pairs : pairs_in j.condition ≤ most_pairs
  pub few_edges : length says.all ≤ most_job_edges
  pub flat : Each (λ r. Each (λ e. LabelLimit e.label) r.edges) d.rows
