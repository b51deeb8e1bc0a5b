-- A value is read from the left, up to the byte that ends it: what the readers ask and promise. Assumes nothing.
use Rattle.std.specs.Prelude.{◌≡◌, true, cond, ◌⊎◌, List, [], ◌∷◌, ◌++◌, ℕ, suc, ◌-◌, ◌≤◌, ◌<◌, eqb, length, take, drop, Result, Ok, Err}
use Rattle.std.proofs.Math.Option.{Option, some, none}
use Rattle.table.specs.Row.{part}
use Rattle.job_values.specs.declared.field.Run.{Run}
use Rattle.job_values.specs.Bytes.{newline, ahead}
use Rattle.job_values.specs.Number.{number}
use Rattle.job_values.specs.Column.{given, Begins}

-- from `at` on the line goes to `end`, where its newline byte stands
pub record Within (text : List ℕ) (at end : ℕ) : Type 0 where
  pub ordered : at ≤ end
  pub ends : end < length text
  pub first : ahead newline (drop at text) ≡ end - at

-- a value of the form, and the byte that ends it
pub record Ended {A : Type 0} (stop : ℕ) (form : List ℕ → Option A) (l : List ℕ) : Type 0 where
  pub value : List ℕ
  pub right : given (form value) ≡ true
  pub is : l ≡ value ++ (stop ∷ [])

-- one of R, then one of S
pub record Then (R S : List ℕ → Type 0) (l : List ℕ) : Type 0 where
  pub front : List ℕ
  pub back : List ℕ
  pub is_front : R front
  pub is_back : S back
  pub is : l ≡ front ++ back

-- the first k bytes begin one of R and are none of them, and with the next byte they begin none
pub record Stuck (R : List ℕ → Type 0) (l : List ℕ) (k : ℕ) : Type 0 where
  pub begins : Begins R (take k l)
  pub no_more : Begins R (take (suc k) l) → ⊥
  pub short : R (take k l) → ⊥

-- a value that is read: up to the byte before `next`, which ends it
pub record Got {A : Type 0} (stop : ℕ) (form : List ℕ → Option A) (text : List ℕ) (at end : ℕ) (a : A) (next : ℕ) : Type 0 where
  pub value : List ℕ
  pub says : form value ≡ some a
  pub is : drop at text ≡ value ++ (stop ∷ drop next text)
  pub behind : at < next
  pub ends : next ≤ suc end

-- a value that is not of the form: it is so from `e` on
pub record Lost (R : List ℕ → Type 0) (text : List ℕ) (at end e : ℕ) : Type 0 where
  pub ordered : at ≤ e
  pub ends : e ≤ end
  pub stuck : Stuck R (drop at text) (e - at)

abbrev pub FieldAt : ℕ → (List ℕ → Option ℕ) → List ℕ → ℕ → ℕ → Result Run ℕ → Type 0
FieldAt stop form text at end (Ok run) = Got stop form text at end run.value run.next
FieldAt stop form text at end (Err e) = Lost (Ended stop form) text at end e

-- the longest run of bytes that can begin a number, and its value: 0 where it is empty
pub record RunAt (text : List ℕ) (at end : ℕ) (r : Run) : Type 0 where
  pub ordered : at ≤ r.next
  pub ends : r.next ≤ end
  pub run : (r.next ≡ at) ⊎ (number (part at r.next text) ≡ some r.value)
  pub stops : number (part at (suc r.next) text) ≡ none

-- how many bytes at the front the two have in common
unfoldable pub agree : List ℕ → List ℕ → ℕ
agree [] ys = 0
agree (x ∷ xs) [] = 0
agree (x ∷ xs) (y ∷ ys) = cond (eqb x y) (suc (agree xs ys)) 0
