-- Which items fit behind what was read of the header, and to what they lead: the subset's conditions in the order of the text, the limits set aside. Assumes nothing.
use mathlib.Core.Bool.{false}
use mathlib.Core.List.{List, [], ◌∷◌}
use mathlib.Core.Option.{Option}
use mathlib.Core.Path.{◌≡◌}
use Prim.Native.Nat.{ℕ, ◌≤◌, ◌<◌}
use lib.ListN.{length}
use Rattle.table.specs.declared.Acceptance.{Acceptance}
use Rattle.hoa_tokens.specs.declared.Word.{Word}
use Rattle.hoa_formula.specs.Cond.{Cond}
use Rattle.hoa_standard.specs.Standard.{most_pairs}
use Rattle.job_text.specs.Job.{most_job_states}
use Rattle.hoa_step.specs.Given.{is_given, not_below, not_above}
use Rattle.hoa_value.specs.declared.Head.{Head}
use Rattle.hoa_value.specs.Head.{most_props, most_marks, with_states, with_start, with_props, with_marks, with_acc_name, with_tool, with_name}
use Rattle.hoa_grammar.specs.Doc.{Conj, Hint, Extra, Item, states, start, props, acceptance, acc_name, tool, name, properties, lower}
use Rattle.hoa_grammar.specs.Subset.{Differ, Formula, StandardAs, pairs_in}

-- the formula with c marks
abbrev pub formula : ℕ → Cond → Formula
formula c x = record { marks = c; cond = x }

-- the item fits behind the header h, and leads to h'
pub data Takes (h : Head) : Item → Head → Type 0 where
  takes_states : (n : ℕ) → is_given h.states ≡ false → 0 < n → not_above n h.start ≡ false → Takes h (states n) (with_states n h)
  takes_start : (s : ℕ) → is_given h.start ≡ false → not_below s h.states ≡ false → Takes h (start (Conj.one s)) (with_start s h)
  takes_props : (a : ℕ) (ns : List (List ℕ)) → is_given h.props ≡ false → length ns ≡ a → Differ ns → Takes h (props a ns) (with_props a h)
  takes_acceptance : (c : ℕ) (x : Cond) (condition : Acceptance) (needs : List ℕ) → is_given h.marks ≡ false → StandardAs (formula c x) condition needs
      → Takes h (acceptance c x) (with_marks c condition needs h)
  takes_acc_name : (w : Word) (hs : List Hint) → h.hint ≡ false → Takes h (acc_name w hs) (with_acc_name h)
  takes_tool : (bs : List ℕ) (second : Option (List ℕ)) → h.tool ≡ false → Takes h (tool bs second) (with_tool h)
  takes_name : (bs : List ℕ) → h.name ≡ false → Takes h (name bs) (with_name h)
  takes_properties : (ws : List Word) → Takes h (properties ws) h
  takes_lower : (es : List Extra) → Takes h (lower es) h

-- the items fit one behind the other
pub data TakesAll : Head → List Item → Head → Type 0 where
  takes_none : {h h' : Head} → h ≡ h' → TakesAll h [] h'
  takes_more : {i : Item} {is : List Item} {h h' h'' : Head} → Takes h i h' → TakesAll h' is h'' → TakesAll h (i ∷ is) h''

-- the limits that an item is held to
unfoldable pub ItemLimit : {h h' : Head} {i : Item} → Takes h i h' → Type 0
ItemLimit (takes_states n _ _ _) = n ≤ most_job_states
ItemLimit (takes_start s _ _) = s < most_job_states
ItemLimit (takes_props a ns _ _ _) = a ≤ most_props
ItemLimit (takes_acceptance c x condition needs _ means) = (c ≤ most_marks) × (pairs_in condition ≤ most_pairs)
ItemLimit (takes_acc_name w hs _) = Unit {0}
ItemLimit (takes_tool bs second _) = Unit {0}
ItemLimit (takes_name bs _) = Unit {0}
ItemLimit (takes_properties ws) = Unit {0}
ItemLimit (takes_lower es) = Unit {0}
