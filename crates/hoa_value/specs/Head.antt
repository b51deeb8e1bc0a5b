-- The header token by token (docs/RULES.md, "The Hanoi format", the faulty token): what is known of it so far, and what each number may be.
-- Assumes nothing.
use Rattle.std.specs.Prelude.{false, true, List, ℕ, replicate, Some, None}
use Rattle.table.specs.declared.Acceptance.{Acceptance}
use Rattle.table.specs.declared.Acceptance.TheVariants.{Buchi}
use Rattle.hoa_value.specs.declared.Head.{Head}

-- ---- the limits: "a at most 6, c at most 32"; those of states and edges are the job text's

abbrev pub most_props : ℕ
most_props = 6

abbrev pub most_marks : ℕ
most_marks = 32

-- ---- the header so far

-- before the first item
abbrev pub blank : Head
blank =
    record {
      states = None;
      start = None;
      props = None;
      marks = None;
      hint = false;
      tool = false;
      name = false;
      condition = Buchi 0;
      needs = replicate 8 0;
    }

-- ---- each item adds to it

-- `States: n`
abbrev pub with_states : ℕ → Head → Head
with_states n h = record h { states = Some n }

-- `Start: s`
abbrev pub with_start : ℕ → Head → Head
with_start s h = record h { start = Some s }

-- `AP: a` with its names
abbrev pub with_props : ℕ → Head → Head
with_props a h = record h { props = Some a }

-- `Acceptance: c` with its formula
abbrev pub with_marks : ℕ → Acceptance → List ℕ → Head → Head
with_marks c condition needs h = record h { marks = Some c; condition = condition; needs = needs }

-- `acc-name:`
abbrev pub with_acc_name : Head → Head
with_acc_name h = record h { hint = true }

-- `tool:`
abbrev pub with_tool : Head → Head
with_tool h = record h { tool = true }

-- `name:`
abbrev pub with_name : Head → Head
with_name h = record h { name = true }
