-- What an answer text says, read from its beginning. `Inverse.given_says` and `Inverse.says_given`, in proofs/, say that this reads exactly the texts of Form.antt.
-- Assumes nothing.
use Rattle.std.specs.Prelude.{◌≡◌, Bool, true, false, cond, List, [], ◌∷◌, ◌++◌, ℕ, ◌≤◌, eqb, length, take, drop, IfSome}
use Rattle.std.proofs.Math.Option.{Option, some, none}
use Rattle.std.specs.Prelude as code
use Rattle.table.specs.declared.Verdict.TheVariants.{Run, Empty, Refused}
use Rattle.table.specs.Table.{waiting}
use Rattle.table.specs.Row.{part}
use Rattle.puts.specs.Put.{decimal}
use Rattle.job_text.specs.Text.{newline, fields, same, ahead}
use Rattle.job_text.specs.Value.{and_then, dash, number}
use Rattle.answer_text.specs.Printed.{stop, shown, verdict=, code=, place=, column=, pair=, depth=, prefix=, cycle=, verdict_word}
use Rattle.answer_form.specs.declared.Value.{Value}
use Rattle.answer_form.specs.declared.RunValues.{RunValues}
use Rattle.answer_form.specs.declared.Form.{Form}
use Rattle.answer_form.specs.declared.Form.TheVariants as form
use Rattle.answer_form.specs.Form.{Said, run, empty, refused}

-- ---- pieces of a text

-- the text begins with the word
abbrev pub starts_with : List ℕ → List ℕ → Bool
starts_with word xs = same (take (length word) xs) word

-- a value, and what follows it
pub record Cut : Type 0 where
  pub value : List ℕ
  pub rest : List ℕ

-- the bytes up to the first newline byte, if the word stands there, and what follows the word
unfoldable pub value_then : List ℕ → List ℕ → Option Cut
value_then word xs =
    cond (starts_with word (drop (ahead newline xs) xs))
    (some (record { value = take (ahead newline xs) xs; rest = drop (length word) (drop (ahead newline xs) xs) }))
    none

-- one place behind another, within the text
pub record Ordered (text : List ℕ) (a b : ℕ) : Type 0 where
  pub low : a ≤ b
  pub high : b ≤ length text

-- what is found of a value at a place of the text
abbrev pub cut_given : List ℕ → ℕ → code.Option Value → Option Cut
cut_given text at (code.Some r) = some (record { value = part at r.end text; rest = drop r.next text })
cut_given text at code.None = none

pub record ValueAt (text : List ℕ) (at : ℕ) (word : List ℕ) (r : code.Option Value) : Type 0 where
  pub is : cut_given text at r ≡ value_then word (drop at text)
  pub there : IfSome r (λ v. Ordered text at v.end)
  pub next_there : IfSome r (λ v. v.next ≤ length text)

-- ---- values

-- an edge's number, or `stop`; 65535 in digits is none
unfoldable pub step : List ℕ → Option ℕ
step bs = cond (same bs stop) (some waiting) (and_then (number bs) (λ n. cond (eqb n waiting) none (some n)))

-- each field is one
unfoldable pub steps : List (List ℕ) → Option (List ℕ)
steps [] = some []
steps (f ∷ fs) = and_then (step f) (λ e. and_then (steps fs) (λ es. some (e ∷ es)))

unfoldable pub list_given : List ℕ → Option (List ℕ)
list_given bs = cond (same bs dash) (some []) (steps (fields bs))

-- whether there is one
abbrev pub is_some : {A : Type 0} → Option A → Bool
is_some none = false
is_some (some a) = true

-- a number exactly for Rabin
unfoldable pub pair_given : Bool → List ℕ → Option ℕ
pair_given rabin bs = cond rabin (number bs) (cond (same bs dash) (some 0) none)

-- ---- the whole text

-- what a run's text has before its pair ..
abbrev pub run_head : List ℕ
run_head = (((shown verdict= (verdict_word (Run 0 0 0)) ++ shown code= (decimal 0)) ++ shown place= (decimal 0)) ++ shown column= (decimal 0)) ++ pair=

-- .. between it and its prefix, and before its cycle
abbrev pub then_prefix : List ℕ
then_prefix = newline ∷ (shown depth= (decimal 0) ++ prefix=)

abbrev pub then_cycle : List ℕ
then_cycle = newline ∷ cycle=

-- what a refusal's text has before its number, before its place, before its column, and behind it
abbrev pub refused_head : List ℕ
refused_head = shown verdict= (verdict_word (Refused 0 0)) ++ code=

abbrev pub then_place : List ℕ
then_place = newline ∷ place=

abbrev pub then_column : List ℕ
then_column = newline ∷ column=

abbrev pub refused_tail : List ℕ
refused_tail = newline ∷ (shown pair= dash ++ (shown depth= (decimal 0) ++ (shown prefix= dash ++ shown cycle= dash)))

-- what an empty verdict's text has before its depth, and behind it
abbrev pub empty_head : List ℕ
empty_head = ((((shown verdict= (verdict_word Empty) ++ shown code= (decimal 0)) ++ shown place= (decimal 0)) ++ shown column= (decimal 0)) ++ shown pair= dash) ++ depth=

abbrev pub empty_tail : List ℕ
empty_tail = newline ∷ (shown prefix= dash ++ shown cycle= dash)

-- nothing follows
abbrev pub over : {A : Type 0} → List ℕ → Option A → Option A
over rest a = cond (eqb (length rest) 0) a none

-- the values of a run
pub record RunText : Type 0 where
  pub pair : List ℕ
  pub prefix : List ℕ
  pub cycle : List ℕ

-- from its pair on
unfoldable pub run_text : List ℕ → Option RunText
run_text xs =
    and_then (value_then then_prefix xs) (λ a.
    and_then (value_then then_cycle a.rest) (λ b.
    and_then (value_then (newline ∷ []) b.rest) (λ c.
    over c.rest (some (record { pair = a.value; prefix = b.value; cycle = c.value })))))

abbrev pub run_of : Bool → RunText → Option Said
run_of rabin v =
    and_then (pair_given rabin v.pair) (λ pair.
    and_then (list_given v.prefix) (λ prefix.
    and_then (list_given v.cycle) (λ cycle.
    some (run pair prefix cycle))))

abbrev pub run_given : Bool → List ℕ → Option Said
run_given rabin xs = and_then (run_text xs) (run_of rabin)

-- where a refusal stands: its place and its column
pub record Where : Type 0 where
  pub place : ℕ
  pub column : ℕ

-- a refusal's text from its place on
unfoldable pub where_given : List ℕ → Option Where
where_given xs =
    and_then (value_then then_column xs) (λ a.
    and_then (value_then refused_tail a.rest) (λ b.
    over b.rest
    (and_then (number a.value) (λ place.
    and_then (number b.value) (λ column.
    some (record { place = place; column = column }))))))

-- .. and from its number on
unfoldable pub refused_given : List ℕ → Option Said
refused_given xs =
    and_then (value_then then_place xs) (λ a.
    and_then (number a.value) (λ n.
    and_then (where_given a.rest) (λ w.
    some (refused n w.place w.column))))

unfoldable pub empty_given : List ℕ → Option Said
empty_given xs =
    and_then (value_then empty_tail xs) (λ a.
    over a.rest
    (and_then (number a.value) (λ depth.
    some (empty depth))))

-- what a text says
unfoldable pub given : Bool → List ℕ → Option Said
given rabin text =
    cond (starts_with empty_head text) (empty_given (drop (length empty_head) text))
    (cond (starts_with run_head text) (run_given rabin (drop (length run_head) text))
    (cond (starts_with refused_head text) (refused_given (drop (length refused_head) text))
    none))

-- ---- what the reader gives

-- what is found of a run's values at a place of the text
abbrev pub values_given : List ℕ → ℕ → code.Option RunValues → Option RunText
values_given text at (code.Some r) = some (record { pair = part at r.pair text; prefix = part r.prefix r.middle text; cycle = part r.cycle r.last text })
values_given text at code.None = none

pub record ValuesAt (text : List ℕ) (at : ℕ) (r : code.Option RunValues) : Type 0 where
  pub is : values_given text at r ≡ run_text (drop at text)
  pub pair : IfSome r (λ v. Ordered text at v.pair)
  pub prefix : IfSome r (λ v. Ordered text v.prefix v.middle)
  pub cycle : IfSome r (λ v. Ordered text v.cycle v.last)

-- a run, and where its lists stand, by what the text says
pub record RunAt (said : Option Said) (text : List ℕ) (pair a b d e : ℕ) : Type 0 where
  pub prefix : List ℕ
  pub cycle : List ℕ
  pub says : said ≡ some (run pair prefix cycle)
  pub prefix_listed : list_given (part a b text) ≡ some prefix
  pub cycle_listed : list_given (part d e text) ≡ some cycle
  pub prefix_there : Ordered text a b
  pub cycle_there : Ordered text d e

-- an answer that is no run
pub record OtherSaid (said : Option Said) : Type 0 where
  pub answer : Said
  pub says : said ≡ some answer
  pub other : (pair : ℕ) (prefix cycle : List ℕ) → answer ≡ run pair prefix cycle → ⊥

abbrev pub FormSays : Option Said → List ℕ → code.Option Form → Type 0
FormSays said text code.None = said ≡ none
FormSays said text (code.Some form.NoRun) = OtherSaid said
FormSays said text (code.Some (form.Run pair a b d e)) = RunAt said text pair a b d e

-- an answer that is no run, if it is one of ours
abbrev pub no_run : Bool → code.Option Form
no_run true = code.Some form.NoRun
no_run false = code.None

abbrev pub RunForm : Bool → List ℕ → ℕ → code.Option Form → Type 0
RunForm rabin text at f = FormSays (run_given rabin (drop at text)) text f

abbrev pub FormOf : Bool → List ℕ → code.Option Form → Type 0
FormOf rabin text f = FormSays (given rabin text) text f
