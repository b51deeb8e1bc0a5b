-- What a header that is read says: at least one state and at most 256, a start below them, at most 32 marks, and a permitted condition that uses them.
-- Each token keeps it so. Assumes nothing.
use Rattle.std.specs.Prelude.{Option, Some, None}
use mathlib.Core.Path.{◌≡◌, refl, subst}
use mathlib.Core.Bool.{Bool, true, false, cond, not, ◌||◌, true≢false}
use mathlib.Core.List.{List, [], ◌∷◌}
use Prim.Native.Nat.{ℕ, ◌≤◌, ◌<◌}
use native.Mathlib.Omega.{arith}
use lib.Dec.{eqb, ltb, leb}
use lib.ListN.{length}
use borrow.Author.Tests.{ltb-false, leb-false, eqb-false}
use Rattle.marks.proofs.Cases.{either_false}
use Rattle.table.specs.declared.Acceptance.{Acceptance}
use Rattle.table.specs.Refusal.{used, wrong_condition}
use Rattle.job_text.specs.Job.{most_job_states}
use Rattle.hoa_tokens.specs.declared.Word.{Word}
use Rattle.hoa_tokens.specs.declared.Word.TheVariants as word_is
use Rattle.hoa_tokens.specs.declared.Header.{Header}
use Rattle.hoa_tokens.specs.declared.Header.TheVariants as header_is
use Rattle.hoa_tokens.specs.Token.{Token, int, word, header, str, aname, sign, body, end, abort, finish, bad}
use Rattle.hoa_tokens.specs.Stream.{Placed, tokens_at}
use Rattle.hoa_step.specs.Given.{is_given, not_below, not_above}
use Rattle.hoa_step.specs.Machine.{go, done, wrong, End, done_at, wrong_at, cut, end_by, run, wants_int, wants_text}
use Rattle.hoa_standard.specs.Standard.{FormulaMeaning, standard, short}
use Rattle.hoa_standard.specs.Formulas as formula
use Rattle.hoa_standard.specs.Formulas.{FormulaStep, formula_begin, formula_step}
use Rattle.hoa_value.specs.declared.Head.{Head}
use Rattle.hoa_value.specs.declared.Piece.{Piece}
use Rattle.hoa_value.specs.declared.Piece.TheVariants as piece_is
use Rattle.hoa_value.specs.Head.{most_props, most_marks, blank, with_states, with_start, with_props, with_marks, with_acc_name, with_tool, with_name}
use Rattle.hoa_value.specs.Heading.{HeadState, opening, version, items, states_int, start_int, props_int, marks_int, start_more, names, in_formula, acc_name, tool_text, tool_more}
use Rattle.hoa_value.specs.Heading.{name_text, hints, HeadStep, piece_of, once, on_item, on_body, on_piece, unfinished, on_states, on_start, on_start_more, on_props, name_came}
use Rattle.hoa_value.specs.Heading.{behind_names, on_names, on_marks, behind_formula, on_formula, on_acc_name, on_tool_more, on_hints, opening_header, on_opening, version_word, on_version, head_step}
use Rattle.hoa_head.specs.Headed.{head_end}
use Rattle.hoa.proofs.Formed.{Formed, Keeps, Meant, formula_kept, formula_begins}

-- ---- what is kept

-- n, if it was given
abbrev pub States : Option ℕ → Type 0
States None = Unit {0}
States (Some n) = (0 < n) × (n ≤ most_job_states)

-- s, if it was given
abbrev pub Start : Option ℕ → Type 0
Start None = Unit {0}
Start (Some s) = s < most_job_states

-- s is below n, if both were given
abbrev pub Below : Option ℕ → Option ℕ → Type 0
Below None start = Unit {0}
Below (Some n) None = Unit {0}
Below (Some n) (Some s) = s < n

-- c and the condition, if it was given
abbrev pub Condition : Option ℕ → Acceptance → List ℕ → Type 0
Condition None condition needs = Unit {0}
Condition (Some c) condition needs = (c ≤ most_marks) × ((wrong_condition condition needs ≡ false) × (used condition needs ≡ c))

pub record HeadFits (h : Head) : Type 0 where
  pub states : States h.states
  pub start : Start h.start
  pub below : Below h.states h.start
  pub condition : Condition h.marks h.condition h.needs

-- where `--BODY--` was admitted
pub record HeadDone (h : Head) : Type 0 where
  pub fits : HeadFits h
  pub start_given : is_given h.start ≡ true
  pub marks_given : is_given h.marks ≡ true

abbrev AtHead : HeadState → Type 0
AtHead opening = Unit {0}
AtHead version = Unit {0}
AtHead (items h) = HeadFits h
AtHead (states_int h) = HeadFits h
AtHead (start_int h) = HeadFits h
AtHead (props_int h) = HeadFits h
AtHead (marks_int h) = HeadFits h
AtHead (start_more h) = HeadFits h
AtHead (names a ns h) = HeadFits h
AtHead (in_formula c s h) = HeadFits h × ((c ≤ most_marks) × Formed 7 c s)
AtHead (acc_name h) = HeadFits h
AtHead (tool_text h) = HeadFits h
AtHead (tool_more h) = HeadFits h
AtHead (name_text h) = HeadFits h
AtHead (hints ints texts h) = HeadFits h

abbrev HeadKept : HeadStep → Type 0
HeadKept (go s) = AtHead s
HeadKept (done h) = HeadDone h
HeadKept (wrong n) = Unit {0}

unless : (b : Bool) (n : ℕ) (s : HeadStep) → (b ≡ false → HeadKept s) → HeadKept (cond b (wrong n) s)
unless true n s f = tt
unless false n s f = f refl

-- ---- items

once_kept : (b : Bool) (s : HeadState) → AtHead s → HeadKept (once b s)
once_kept true s p = tt
once_kept false s p = p

not_not : (b : Bool) → not b ≡ false → b ≡ true
not_not true e = refl
not_not false e = absurd (true≢false e)

module _ (h : Head) (F : HeadFits h) where
  -- hints say nothing
  named : HeadFits (with_acc_name h)
  named = record { states = F.states; start = F.start; below = F.below; condition = F.condition }

  tooled : HeadFits (with_tool h)
  tooled = record { states = F.states; start = F.start; below = F.below; condition = F.condition }

  titled : HeadFits (with_name h)
  titled = record { states = F.states; start = F.start; below = F.below; condition = F.condition }

  with_props_lem : (a : ℕ) → HeadFits (with_props a h)
  with_props_lem a = record { states = F.states; start = F.start; below = F.below; condition = F.condition }

  item_kept : (k : Header) → HeadKept (on_item h k)
  item_kept header_is.States = once_kept (is_given h.states) (states_int h) F
  item_kept header_is.Start = once_kept (is_given h.start) (start_int h) F
  item_kept header_is.Ap = once_kept (is_given h.props) (props_int h) F
  item_kept header_is.Acceptance = once_kept (is_given h.marks) (marks_int h) F
  item_kept header_is.AccName = once_kept h.hint (acc_name (with_acc_name h)) named
  item_kept header_is.Tool = once_kept h.tool (tool_text (with_tool h)) tooled
  item_kept header_is.Name = once_kept h.name (name_text (with_name h)) titled
  item_kept header_is.Properties = F
  item_kept header_is.Lower = F
  item_kept header_is.Alias = tt
  item_kept header_is.Capital = tt
  item_kept header_is.Hoa = tt
  item_kept header_is.State = tt

  body_kept : HeadKept (on_body h)
  body_kept =
      unless (not (is_given h.start) || not (is_given h.marks)) 41 (done h)
      (λ e.
      let both = either_false (not (is_given h.start)) (not (is_given h.marks)) e in
      record { fits = F; start_given = not_not (is_given h.start) both.0; marks_given = not_not (is_given h.marks) both.1 })

  piece_kept : (p : Piece) → HeadKept (on_piece h p)
  piece_kept (piece_is.Item k) = item_kept k
  piece_kept piece_is.Body = body_kept
  piece_kept piece_is.Word = tt
  piece_kept piece_is.Int = tt
  piece_kept piece_is.Text = tt
  piece_kept piece_is.Join = tt
  piece_kept (piece_is.Wrong n) = tt

unfinished_kept : (p : Piece) → HeadKept (unfinished p)
unfinished_kept (piece_is.Item k) = tt
unfinished_kept piece_is.Body = tt
unfinished_kept piece_is.Word = tt
unfinished_kept piece_is.Int = tt
unfinished_kept piece_is.Text = tt
unfinished_kept piece_is.Join = tt
unfinished_kept (piece_is.Wrong n) = tt

-- ---- numbers

above_start : (n : ℕ) (g : Option ℕ) → not_above n g ≡ false → Below (Some n) g
above_start n None e = tt
above_start n (Some s) e = leb-false n s e

below_states : (s : ℕ) (g : Option ℕ) → not_below s g ≡ false → Below g (Some s)
below_states s None e = tt
below_states s (Some n) e = leb-false n s e

module _ (h : Head) (F : HeadFits h) where
  states_kept : (n : ℕ) → HeadKept (on_states h n)
  states_kept n =
      unless (eqb n 0 || not_above n h.start) 41 _
      (λ e.
      let both = either_false (eqb n 0) (not_above n h.start) e in
      let some : n ≡ 0 → ⊥ = eqb-false n 0 both.0 in
      unless (ltb most_job_states n) 42 (go (items (with_states n h)))
      (λ f. record {
        states = (omega arith, ltb-false most_job_states n f);
        start = F.start;
        below = above_start n h.start both.1;
        condition = F.condition;
      }))

  start_kept : (s : ℕ) → HeadKept (on_start h s)
  start_kept s =
      unless (not_below s h.states) 41 _
      (λ e.
      unless (leb most_job_states s) 42 (go (start_more (with_start s h)))
      (λ f. record { states = F.states; start = leb-false most_job_states s f; below = below_states s h.states e; condition = F.condition }))

  props_kept : (a : ℕ) → HeadKept (on_props h a)
  props_kept a = unless (ltb most_props a) 42 (go (names a [] h)) (λ e. F)

  marks_kept : (c : ℕ) → HeadKept (on_marks h c)
  marks_kept c = unless (ltb most_marks c) 42 (go (in_formula c (formula_begin c) h)) (λ e. (F, (ltb-false most_marks c e, formula_begins c)))

  start_more_kept : (p : Piece) → HeadKept (on_start_more h p)
  start_more_kept piece_is.Join = tt
  start_more_kept (piece_is.Item k) = piece_kept h F (piece_is.Item k)
  start_more_kept piece_is.Body = piece_kept h F piece_is.Body
  start_more_kept piece_is.Word = tt
  start_more_kept piece_is.Int = tt
  start_more_kept piece_is.Text = tt
  start_more_kept (piece_is.Wrong n) = tt

  -- ---- names

  behind_names_kept : (a : ℕ) (ns : List (List ℕ)) (p : Piece) → HeadKept (behind_names a ns h p)
  behind_names_kept a ns p = by (ltb (length ns) a)
    where
      by : (b : Bool) → HeadKept (cond b (unfinished p) (on_piece (with_props a h) p))
      by true = unfinished_kept p
      by false = piece_kept (with_props a h) (with_props_lem h F a) p

  names_kept : (a : ℕ) (ns : List (List ℕ)) (t : Token) → HeadKept (on_names a ns h t)
  unfolding on_names
  names_kept a ns (str bs) = unless (leb a (length ns) || name_came bs ns) 41 (go (names a (bs ∷ ns) h)) (λ e. F)
  names_kept a ns (int i) = behind_names_kept a ns (piece_of (int i))
  names_kept a ns (word w) = behind_names_kept a ns (piece_of (word w))
  names_kept a ns (header k) = behind_names_kept a ns (piece_of (header k))
  names_kept a ns aname = behind_names_kept a ns (piece_of aname)
  names_kept a ns (sign s) = behind_names_kept a ns (piece_of (sign s))
  names_kept a ns body = behind_names_kept a ns (piece_of body)
  names_kept a ns end = behind_names_kept a ns (piece_of end)
  names_kept a ns abort = behind_names_kept a ns (piece_of abort)
  names_kept a ns finish = behind_names_kept a ns (piece_of finish)
  names_kept a ns bad = behind_names_kept a ns (piece_of bad)

  -- ---- the formula

  module _ (c : ℕ) (few : c ≤ most_marks) where
    behind_formula_kept : (p : Piece) (m : FormulaMeaning) → Meant c m → HeadKept (behind_formula c h p m)
    behind_formula_kept p (standard condition needs) M =
        piece_kept (with_marks c condition needs h) (record { states = F.states; start = F.start; below = F.below; condition = (few, M few) }) p
    behind_formula_kept p short M = unfinished_kept p

    formula_step_kept : (t : Token) (s : FormulaStep) → Keeps 7 c s → HeadKept (on_formula c h t s)
    formula_step_kept t (formula.go s) K = (F, (few, K))
    formula_step_kept t (formula.over m) K = behind_formula_kept (piece_of t) m K
    formula_step_kept t (formula.wrong n) K = tt

  -- ---- hints

  acc_name_kept : (p : Piece) → HeadKept (on_acc_name h p)
  acc_name_kept piece_is.Word = F
  acc_name_kept (piece_is.Item k) = tt
  acc_name_kept piece_is.Body = tt
  acc_name_kept piece_is.Int = tt
  acc_name_kept piece_is.Text = tt
  acc_name_kept piece_is.Join = tt
  acc_name_kept (piece_is.Wrong n) = tt

  tool_more_kept : (p : Piece) → HeadKept (on_tool_more h p)
  tool_more_kept piece_is.Text = F
  tool_more_kept (piece_is.Item k) = piece_kept h F (piece_is.Item k)
  tool_more_kept piece_is.Body = piece_kept h F piece_is.Body
  tool_more_kept piece_is.Word = tt
  tool_more_kept piece_is.Int = tt
  tool_more_kept piece_is.Join = tt
  tool_more_kept (piece_is.Wrong n) = tt

  passed_over : (b ints texts : Bool) → HeadKept (cond b (go (hints ints texts h)) (wrong 40))
  passed_over true ints texts = F
  passed_over false ints texts = tt

  hints_kept : (ints texts : Bool) (p : Piece) → HeadKept (on_hints ints texts h p)
  hints_kept ints texts piece_is.Word = F
  hints_kept ints texts piece_is.Int = passed_over ints ints texts
  hints_kept ints texts piece_is.Text = passed_over texts ints texts
  hints_kept ints texts (piece_is.Item k) = item_kept h F k
  hints_kept ints texts piece_is.Body = body_kept h F
  hints_kept ints texts piece_is.Join = tt
  hints_kept ints texts (piece_is.Wrong n) = tt

-- ---- the first two tokens

blank_fits : HeadFits blank
blank_fits = record { states = tt; start = tt; below = tt; condition = tt }

opening_header_kept : (k : Header) → HeadKept (opening_header k)
opening_header_kept header_is.Hoa = tt
opening_header_kept header_is.States = tt
opening_header_kept header_is.Start = tt
opening_header_kept header_is.Ap = tt
opening_header_kept header_is.Alias = tt
opening_header_kept header_is.Acceptance = tt
opening_header_kept header_is.AccName = tt
opening_header_kept header_is.Tool = tt
opening_header_kept header_is.Name = tt
opening_header_kept header_is.Properties = tt
opening_header_kept header_is.State = tt
opening_header_kept header_is.Capital = tt
opening_header_kept header_is.Lower = tt

opening_kept : (t : Token) → HeadKept (on_opening t)
unfolding on_opening
opening_kept (header k) = opening_header_kept k
opening_kept (int i) = tt
opening_kept (word w) = tt
opening_kept (str bs) = tt
opening_kept aname = tt
opening_kept (sign s) = tt
opening_kept body = tt
opening_kept end = tt
opening_kept abort = tt
opening_kept finish = tt
opening_kept bad = tt

version_word_kept : (w : Word) → HeadKept (version_word w)
version_word_kept word_is.V1 = blank_fits
version_word_kept word_is.True = tt
version_word_kept word_is.False = tt
version_word_kept word_is.Inf = tt
version_word_kept word_is.Fin = tt
version_word_kept word_is.Other = tt

version_kept : (t : Token) → HeadKept (on_version t)
unfolding on_version
version_kept (word w) = version_word_kept w
version_kept abort = tt
version_kept (int i) = tt
version_kept (header k) = tt
version_kept (str bs) = tt
version_kept aname = tt
version_kept (sign s) = tt
version_kept body = tt
version_kept end = tt
version_kept finish = tt
version_kept bad = tt

-- ---- one token, and all of them

wanted_int : (f : ℕ → HeadStep) → ((i : ℕ) → HeadKept (f i)) → (t : Token) → HeadKept (wants_int f t)
unfolding wants_int
wanted_int f k (int i) = k i
wanted_int f k (word w) = tt
wanted_int f k (header h) = tt
wanted_int f k (str bs) = tt
wanted_int f k aname = tt
wanted_int f k (sign s) = tt
wanted_int f k body = tt
wanted_int f k end = tt
wanted_int f k abort = tt
wanted_int f k finish = tt
wanted_int f k bad = tt

wanted_text : (s : HeadState) → AtHead s → (t : Token) → HeadKept (wants_text s t)
unfolding wants_text
wanted_text s p (str bs) = p
wanted_text s p (int i) = tt
wanted_text s p (word w) = tt
wanted_text s p (header h) = tt
wanted_text s p aname = tt
wanted_text s p (sign g) = tt
wanted_text s p body = tt
wanted_text s p end = tt
wanted_text s p abort = tt
wanted_text s p finish = tt
wanted_text s p bad = tt

head_kept : (s : HeadState) → AtHead s → (t : Token) → HeadKept (head_step s t)
unfolding head_step
head_kept opening p t = opening_kept t
head_kept version p t = version_kept t
head_kept (items h) F t = piece_kept h F (piece_of t)
head_kept (states_int h) F t = wanted_int (on_states h) (states_kept h F) t
head_kept (start_int h) F t = wanted_int (on_start h) (start_kept h F) t
head_kept (props_int h) F t = wanted_int (on_props h) (props_kept h F) t
head_kept (marks_int h) F t = wanted_int (on_marks h) (marks_kept h F) t
head_kept (start_more h) F t = start_more_kept h F (piece_of t)
head_kept (names a ns h) F t = names_kept h F a ns t
head_kept (in_formula c s h) p t = formula_step_kept h p.0 c p.1.0 t (formula_step c s t) (formula_kept c s t p.1.1)
head_kept (acc_name h) F t = acc_name_kept h F (piece_of t)
head_kept (tool_text h) F t = wanted_text (tool_more h) F t
head_kept (tool_more h) F t = tool_more_kept h F (piece_of t)
head_kept (name_text h) F t = wanted_text (items h) F t
head_kept (hints ints texts h) F t = hints_kept h F ints texts (piece_of t)

-- how the header ends
abbrev EndFits : End Head → Type 0
EndFits (done_at h ps) = HeadDone h
EndFits (wrong_at number place) = Unit {0}
EndFits cut = Unit {0}

run_fits : (ps : List Placed) (s : HeadState) → AtHead s → EndFits (run head_step ps s)
unfolding run
run_fits [] s p = tt
run_fits (x ∷ ps) s p = by (head_step s x.token) (head_kept s p x.token) (λ t q. run_fits ps t q)
  where
    by : (k : HeadStep) → HeadKept k → ((t : HeadState) → AtHead t → EndFits (run head_step ps t)) → EndFits (end_by k x.place ps (λ t. run head_step ps t))
    by (go t) q more = more t q
    by (done h) q more = q
    by (wrong n) q more = tt

-- the header of a text that is read so far
pub head_fits : (text : List ℕ) (h : Head) (ps : List Placed) → head_end text ≡ done_at h ps → HeadDone h
unfolding head_end
head_fits text h ps e = subst EndFits e (run_fits (tokens_at text 0) opening tt)
