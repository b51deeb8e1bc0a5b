-- Rows 1 to 7 of the rules' table, in the stated order: the first cause, with its number and place. Assumes nothing.
use Rattle.std.specs.Prelude.{◌≡◌, Bool, false, not, ◌||◌, cond, List, ℕ, zero, suc, ◌*◌, ◌/◌, ◌^◌, ◌≤◌, ◌<◌, ltb, leb, eqb, length, get_or, drop, Result, Ok, Err}
use Rattle.std.specs.List.{list_any}
use Rattle.marks.specs.Mark.{width}
use Rattle.table.specs.declared.Acceptance.{Acceptance}
use Rattle.table.specs.declared.Acceptance.TheVariants.{Buchi, Streett, Rabin}
use Rattle.table.specs.declared.Refusal.{Refusal}
use Rattle.table.specs.Table.{Table, borne}
use Rattle.table.specs.Condition.{dealt}

-- ---- the limits

abbrev pub most_states : ℕ
most_states = 4096

abbrev pub most_edges : ℕ
most_edges = 32768

-- two marks a Streett pair
abbrev pub most_streett : ℕ
most_streett = width / 2

abbrev pub most_rabin : ℕ
most_rabin = 8

-- ---- tests

-- some number of the list is not 0
abbrev pub some_need : List ℕ → Bool
some_need needs = list_any (λ d. ltb 0 d) needs

-- how many marks the condition uses: they are 0 up to this number less one
abbrev pub used : Acceptance → List ℕ → ℕ
used (Buchi k) needs = k
used (Streett p) needs = 2 * p
used (Rabin p) needs = dealt needs p

-- row 1: n is 0 or above 4,096
abbrev pub wrong_states : Table → Bool
wrong_states t = eqb t.states 0 || ltb most_states t.states

-- row 2: the three edge tables differ in length, or m above 32,768
abbrev pub wrong_edges : Table → Bool
wrong_edges t =
    not (eqb (length t.from) (length t.to))
    || (not (eqb (length t.from) (length t.marks))
    || ltb most_edges t.edges)

-- row 3: start not below n
abbrev pub wrong_start : Table → Bool
wrong_start t = leb t.states t.start

-- row 4: Büchi above 32 marks, Streett above 16 pairs, Rabin above 8 pairs, a need from p on not 0, or Rabin marks above 32 in all
abbrev pub wrong_condition : Acceptance → List ℕ → Bool
wrong_condition (Buchi k) needs = ltb width k
wrong_condition (Streett p) needs = ltb most_streett p
wrong_condition (Rabin p) needs = ltb most_rabin p || (some_need (drop p needs) || ltb width (dealt needs p))

-- row 5: an edge end not below n
abbrev pub wrong_end : Table → ℕ → Bool
wrong_end t e = leb t.states (get_or t.from e 0) || leb t.states (get_or t.to e 0)

-- row 6: an edge's from below the one before it
abbrev pub wrong_order : Table → ℕ → Bool
wrong_order t zero = false
wrong_order t (suc e) = ltb (get_or t.from (suc e) 0) (get_or t.from e 0)

-- row 7: an edge bears a mark that the condition does not use, one from u on
abbrev pub wrong_mark : Table → ℕ → ℕ → Bool
wrong_mark t u e = leb (2 ^ u) (borne t e)

-- ---- the first cause

-- why a table is refused, with its number and place
abbrev pub refused : {A : Type 0} → ℕ → ℕ → Result A Refusal
refused number place = Err (record { number = number; place = place })

-- among k edges from edge e on: the first faulty edge decides, and 5, 6, 7 in that order within it
abbrev pub edge_refusal : Table → ℕ → ℕ → ℕ → Result Unit Refusal
edge_refusal t u e zero = Ok tt
edge_refusal t u e (suc k) =
    cond (wrong_end t e) (refused 5 e)
    (cond (wrong_order t e) (refused 6 e)
    (cond (wrong_mark t u e) (refused 7 e)
    (edge_refusal t u (suc e) k)))

-- 1, 2, 3, 4; then edges from 0 up
abbrev pub refusal : Table → Acceptance → List ℕ → Result Unit Refusal
refusal t c needs =
    cond (wrong_states t) (refused 1 0)
    (cond (wrong_edges t) (refused 2 0)
    (cond (wrong_start t) (refused 3 0)
    (cond (wrong_condition c needs) (refused 4 0)
    (edge_refusal t (used c needs) 0 t.edges))))

-- ---- the rules' number and place for each answer: 0 and 0 where nothing is found (`Door.check_told`, in proofs/, says what they tell)

abbrev pub number_of : Result Unit Refusal → ℕ
number_of (Ok done) = 0
number_of (Err cause) = cause.number

abbrev pub place_of : Result Unit Refusal → ℕ
place_of (Ok done) = 0
place_of (Err cause) = cause.place

-- ---- what a table that is not refused is (`Sound.sound_fit` and `Sound.fit_sound`, in proofs/: exactly these tables, with a permitted condition and no
-- mark that it does not use, are found sound)

pub record Proper (t : Table) : Type 0 where
  pub some : 0 < t.states
  pub few : t.states ≤ most_states
  pub from_length : length t.from ≡ t.edges
  pub to_length : length t.to ≡ t.edges
  pub marks_length : length t.marks ≡ t.edges
  pub few_edges : t.edges ≤ most_edges
  pub start_below : t.start < t.states
  pub from_below : (e : ℕ) → e < t.edges → get_or t.from e 0 < t.states
  pub to_below : (e : ℕ) → e < t.edges → get_or t.to e 0 < t.states
  pub sorted : (e : ℕ) → suc e < t.edges → get_or t.from e 0 ≤ get_or t.from (suc e) 0

-- no edge bears a mark from u on
abbrev pub MarksBelow : Table → ℕ → Type 0
MarksBelow t u = (e : ℕ) → e < t.edges → borne t e < 2 ^ u
