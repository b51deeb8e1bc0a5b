-- What is walked from the header's first token to behind `--BODY--` is a header of the subset (`sound`). Each admitted token puts a piece in front of what is
-- left. Assumes nothing.
use mathlib.Core.Bool.{Bool, true, false, cond, not, ◌||◌}
use mathlib.Core.List.{List, [], ◌∷◌}
use mathlib.Core.Option.{Option, some, none}
use mathlib.Core.Path.{◌≡◌, refl, sym, ap, subst, ◌∙◌}
use Prim.Native.Nat.{ℕ, zero, suc, ◌+◌, ◌≤◌, ◌<◌, zero-le}
use native.Mathlib.Omega.{arith}
use borrow.Author.Tests.{ltb-false, leb-false, eqb-false, not-false}
use lib.Dec.{eqb, ltb, leb}
use lib.ListN.{length}
use Rattle.marks.proofs.Cases.{either_false}
use Rattle.hoa_tokens.specs.declared.Word.{Word}
use Rattle.hoa_tokens.specs.declared.Word.TheVariants as word_is
use Rattle.hoa_tokens.specs.declared.Header.{Header}
use Rattle.hoa_tokens.specs.declared.Header.TheVariants as header_is
use Rattle.hoa_tokens.specs.declared.Sign.TheVariants as sign_is
use Rattle.hoa_tokens.specs.Bytes.{same}
use Rattle.hoa_tokens.specs.Token.{Token, int, word, header, str, aname, sign, body, end, abort, finish, bad}
use Rattle.job_text.specs.Job.{most_job_states}
use Rattle.table.specs.declared.Acceptance.{Acceptance}
use Rattle.hoa_standard.specs.Standard.{FormulaMeaning, standard, short}
use Rattle.hoa_standard.specs.Formulas as formula
use Rattle.hoa_standard.specs.Formulas.{FormulaState, formula_begin, formula_step, FormulaStep}
use Rattle.hoa_step.specs.Machine.{go, done, wrong, wants_int, wants_text}
use Rattle.hoa_step.specs.Given.{is_given, not_below, not_above}
use Rattle.hoa_value.specs.declared.Head.{Head}
use Rattle.hoa_value.specs.declared.Piece.{Piece}
use Rattle.hoa_value.specs.declared.Piece.TheVariants as piece_is
use Rattle.hoa_value.specs.Head.{most_props, most_marks, blank, with_states, with_start, with_props, with_marks, with_acc_name, with_tool, with_name}
use Rattle.hoa_value.specs.Heading.{
  HeadState,
  opening,
  version,
  items,
  states_int,
  start_int,
  props_int,
  marks_int,
  start_more,
  names,
  in_formula,
  acc_name,
  tool_text,
  tool_more,
  name_text,
  hints,
  HeadStep,
  piece_of,
  head_step,
  on_piece,
  on_item,
  on_body,
  once,
  on_states,
  on_start,
  on_start_more,
  on_props,
  on_names,
  on_name,
  unfinished,
  name_came,
  on_marks,
  on_formula,
  behind_formula,
  on_acc_name,
  on_tool_more,
  on_hints,
  on_opening,
  on_version,
}
use Rattle.hoa_grammar.specs.Doc as doc
use Rattle.hoa_grammar.specs.Doc.{Conj, Hint, hint_word, hint_int, Extra, extra_word, extra_int, extra_text, Item, item_text, items_text, hints_text, extras_text, words_text, strings_text, perhaps_text}
use Rattle.hoa_grammar.specs.Subset.{Each, each_none, each_more, Differ, differ_none, differ_more}
use Rattle.hoa_grammar.specs.Walk.{Walk, going, over, faulty, walk_by, walk}
use Rattle.hoa_grammar.proofs.Takes.{
  Takes,
  takes_states,
  takes_start,
  takes_props,
  takes_acceptance,
  takes_acc_name,
  takes_tool,
  takes_name,
  takes_properties,
  takes_lower,
  ItemLimit,
  TakesAll,
  takes_none,
  takes_more,
}
use Rattle.hoa_grammar.proofs.Names.{ne_same}
use Rattle.hoa_grammar.proofs.Leads.{Leads, ends, steps, FormulaSound}
use Rattle.hoa_grammar.proofs.Heads.{AllLimits, New}

abbrev HeadWalk : Type 0
HeadWalk = Walk HeadState Head

-- ---- what a token is, from its piece

piece_item : (t : Token) (k : Header) → piece_of t ≡ piece_is.Item k → t ≡ header k
unfolding piece_of
piece_item (header header_is.Hoa) k e = cc
piece_item (header header_is.States) k e = cc
piece_item (header header_is.Start) k e = cc
piece_item (header header_is.Ap) k e = cc
piece_item (header header_is.Alias) k e = cc
piece_item (header header_is.Acceptance) k e = cc
piece_item (header header_is.AccName) k e = cc
piece_item (header header_is.Tool) k e = cc
piece_item (header header_is.Name) k e = cc
piece_item (header header_is.Properties) k e = cc
piece_item (header header_is.State) k e = cc
piece_item (header header_is.Capital) k e = cc
piece_item (header header_is.Lower) k e = cc
piece_item (int i) k e = cc
piece_item (word w) k e = cc
piece_item (str bs) k e = cc
piece_item aname k e = cc
piece_item body k e = cc
piece_item end k e = cc
piece_item abort k e = cc
piece_item finish k e = cc
piece_item bad k e = cc
piece_item (sign sign_is.ParenLeft) k e = cc
piece_item (sign sign_is.ParenRight) k e = cc
piece_item (sign sign_is.BracketLeft) k e = cc
piece_item (sign sign_is.BracketRight) k e = cc
piece_item (sign sign_is.BraceLeft) k e = cc
piece_item (sign sign_is.BraceRight) k e = cc
piece_item (sign sign_is.And) k e = cc
piece_item (sign sign_is.Or) k e = cc
piece_item (sign sign_is.Not) k e = cc

piece_body : (t : Token) → piece_of t ≡ piece_is.Body → t ≡ body
unfolding piece_of
piece_body (int i) e = cc
piece_body (word w) e = cc
piece_body (str bs) e = cc
piece_body aname e = cc
piece_body body e = refl
piece_body end e = cc
piece_body abort e = cc
piece_body finish e = cc
piece_body bad e = cc
piece_body (header header_is.Hoa) e = cc
piece_body (header header_is.States) e = cc
piece_body (header header_is.Start) e = cc
piece_body (header header_is.Ap) e = cc
piece_body (header header_is.Alias) e = cc
piece_body (header header_is.Acceptance) e = cc
piece_body (header header_is.AccName) e = cc
piece_body (header header_is.Tool) e = cc
piece_body (header header_is.Name) e = cc
piece_body (header header_is.Properties) e = cc
piece_body (header header_is.State) e = cc
piece_body (header header_is.Capital) e = cc
piece_body (header header_is.Lower) e = cc
piece_body (sign sign_is.ParenLeft) e = cc
piece_body (sign sign_is.ParenRight) e = cc
piece_body (sign sign_is.BracketLeft) e = cc
piece_body (sign sign_is.BracketRight) e = cc
piece_body (sign sign_is.BraceLeft) e = cc
piece_body (sign sign_is.BraceRight) e = cc
piece_body (sign sign_is.And) e = cc
piece_body (sign sign_is.Or) e = cc
piece_body (sign sign_is.Not) e = cc

-- the word that a token is
abbrev word_in : Token → Word
word_in (int i) = word_is.Other
word_in (word w) = w
word_in (header h) = word_is.Other
word_in (str bs) = word_is.Other
word_in aname = word_is.Other
word_in (sign g) = word_is.Other
word_in body = word_is.Other
word_in end = word_is.Other
word_in abort = word_is.Other
word_in finish = word_is.Other
word_in bad = word_is.Other

-- the number that a token is
abbrev int_in : Token → ℕ
int_in (int i) = i
int_in (word w) = 0
int_in (header h) = 0
int_in (str bs) = 0
int_in aname = 0
int_in (sign g) = 0
int_in body = 0
int_in end = 0
int_in abort = 0
int_in finish = 0
int_in bad = 0

-- the bytes that a token has
abbrev text_in : Token → List ℕ
text_in (int i) = []
text_in (word w) = []
text_in (header h) = []
text_in (str bs) = bs
text_in aname = []
text_in (sign g) = []
text_in body = []
text_in end = []
text_in abort = []
text_in finish = []
text_in bad = []

piece_word : (t : Token) → piece_of t ≡ piece_is.Word → t ≡ word (word_in t)
unfolding piece_of
piece_word (int i) e = cc
piece_word (word w) e = refl
piece_word (str bs) e = cc
piece_word aname e = cc
piece_word body e = cc
piece_word end e = cc
piece_word abort e = cc
piece_word finish e = cc
piece_word bad e = cc
piece_word (header header_is.Hoa) e = cc
piece_word (header header_is.States) e = cc
piece_word (header header_is.Start) e = cc
piece_word (header header_is.Ap) e = cc
piece_word (header header_is.Alias) e = cc
piece_word (header header_is.Acceptance) e = cc
piece_word (header header_is.AccName) e = cc
piece_word (header header_is.Tool) e = cc
piece_word (header header_is.Name) e = cc
piece_word (header header_is.Properties) e = cc
piece_word (header header_is.State) e = cc
piece_word (header header_is.Capital) e = cc
piece_word (header header_is.Lower) e = cc
piece_word (sign sign_is.ParenLeft) e = cc
piece_word (sign sign_is.ParenRight) e = cc
piece_word (sign sign_is.BracketLeft) e = cc
piece_word (sign sign_is.BracketRight) e = cc
piece_word (sign sign_is.BraceLeft) e = cc
piece_word (sign sign_is.BraceRight) e = cc
piece_word (sign sign_is.And) e = cc
piece_word (sign sign_is.Or) e = cc
piece_word (sign sign_is.Not) e = cc

piece_int : (t : Token) → piece_of t ≡ piece_is.Int → t ≡ int (int_in t)
unfolding piece_of
piece_int (int i) e = refl
piece_int (word w) e = cc
piece_int (str bs) e = cc
piece_int aname e = cc
piece_int body e = cc
piece_int end e = cc
piece_int abort e = cc
piece_int finish e = cc
piece_int bad e = cc
piece_int (header header_is.Hoa) e = cc
piece_int (header header_is.States) e = cc
piece_int (header header_is.Start) e = cc
piece_int (header header_is.Ap) e = cc
piece_int (header header_is.Alias) e = cc
piece_int (header header_is.Acceptance) e = cc
piece_int (header header_is.AccName) e = cc
piece_int (header header_is.Tool) e = cc
piece_int (header header_is.Name) e = cc
piece_int (header header_is.Properties) e = cc
piece_int (header header_is.State) e = cc
piece_int (header header_is.Capital) e = cc
piece_int (header header_is.Lower) e = cc
piece_int (sign sign_is.ParenLeft) e = cc
piece_int (sign sign_is.ParenRight) e = cc
piece_int (sign sign_is.BracketLeft) e = cc
piece_int (sign sign_is.BracketRight) e = cc
piece_int (sign sign_is.BraceLeft) e = cc
piece_int (sign sign_is.BraceRight) e = cc
piece_int (sign sign_is.And) e = cc
piece_int (sign sign_is.Or) e = cc
piece_int (sign sign_is.Not) e = cc

piece_text : (t : Token) → piece_of t ≡ piece_is.Text → t ≡ str (text_in t)
unfolding piece_of
piece_text (int i) e = cc
piece_text (word w) e = cc
piece_text (str bs) e = refl
piece_text aname e = cc
piece_text body e = cc
piece_text end e = cc
piece_text abort e = cc
piece_text finish e = cc
piece_text bad e = cc
piece_text (header header_is.Hoa) e = cc
piece_text (header header_is.States) e = cc
piece_text (header header_is.Start) e = cc
piece_text (header header_is.Ap) e = cc
piece_text (header header_is.Alias) e = cc
piece_text (header header_is.Acceptance) e = cc
piece_text (header header_is.AccName) e = cc
piece_text (header header_is.Tool) e = cc
piece_text (header header_is.Name) e = cc
piece_text (header header_is.Properties) e = cc
piece_text (header header_is.State) e = cc
piece_text (header header_is.Capital) e = cc
piece_text (header header_is.Lower) e = cc
piece_text (sign sign_is.ParenLeft) e = cc
piece_text (sign sign_is.ParenRight) e = cc
piece_text (sign sign_is.BracketLeft) e = cc
piece_text (sign sign_is.BracketRight) e = cc
piece_text (sign sign_is.BraceLeft) e = cc
piece_text (sign sign_is.BraceRight) e = cc
piece_text (sign sign_is.And) e = cc
piece_text (sign sign_is.Or) e = cc
piece_text (sign sign_is.Not) e = cc

-- ---- a walk that is over

abbrev ending : Head → List Token → HeadWalk
ending h ts = over h ts

over_head : (h h' : Head) (ts us : List Token) → ending h ts ≡ ending h' us → h ≡ h'
over_head h h' ts us e = cc

over_rest : (h h' : Head) (ts us : List Token) → ending h ts ≡ ending h' us → ts ≡ us
over_rest h h' ts us e = cc

-- a number that is not 0
positive : (n : ℕ) → (n ≡ 0 → ⊥) → 0 < n
positive zero f = absurd (f refl)
positive (suc n) f = omega arith

-- a token and what stands behind it
behind_by : {t u : Token} {ts us : List Token} → t ≡ u → ts ≡ us → t ∷ ts ≡ u ∷ us
behind_by p q = λ i. p i ∷ q i

-- ---- a walk that is over was not faulty

module _ (final : Head) (left : List Token) (formula_sound : FormulaSound) where
  is_over : HeadWalk → Type 0
  is_over (going s) = ⊥
  is_over (over d ts) = Unit {0}
  is_over (faulty n ts) = ⊥

  abbrev failed : ℕ → List Token → HeadWalk
  failed n ts = faulty n ts

  never : {A : Type 0} (n : ℕ) (ts : List Token) → failed n ts ≡ over final left → A
  unfolding is_over
  never n ts e = absurd (subst is_over (sym e) tt)

  -- a test that would have been faulty did not hold
  passed : (b : Bool) (n : ℕ) (x : HeadStep) (ts : List Token) (more : HeadState → HeadWalk) → walk_by (cond b (wrong n) x) ts more ≡ over final left
      → (b ≡ false) × (walk_by x ts more ≡ over final left)
  passed true n x ts more e = never _ _ e
  passed false n x ts more e = (refl, e)

  passed_once : (b : Bool) (s : HeadState) (ts : List Token) (more : HeadState → HeadWalk) → walk_by (once b s) ts more ≡ over final left
      → (b ≡ false) × (more s ≡ over final left)
  passed_once true s ts more e = never _ _ e
  passed_once false s ts more e = (refl, e)

  -- ---- what is left, by where the header stands

  -- items that fit behind h, `--BODY--`, and what is left
  record Items (h : Head) (ts : List Token) : Type 0 where
    is : List Item
    text : ts ≡ items_text is (body ∷ left)
    takes : TakesAll h is final
    limits : AllLimits takes
    started : is_given final.start ≡ true
    accepting : is_given final.marks ≡ true

  -- one item more
  front_item : {h h' : Head} (i : Item) (ts us : List Token) (f : Takes h i h') → ItemLimit f → us ≡ item_text i ts → Items h' ts → Items h us
  unfolding items_text AllLimits
  front_item i ts us f l e r =
      record {
        is = i ∷ r.is;
        text = e ∙ ap (item_text i) r.text;
        takes = takes_more f r.takes;
        limits = (l, r.limits);
        started = r.started;
        accepting = r.accepting;
      }

  record StatesLeft (h : Head) (ts : List Token) : Type 0 where
    n : ℕ
    rest : List Token
    text : ts ≡ int n ∷ rest
    some : 0 < n
    above : not_above n h.start ≡ false
    few : n ≤ most_job_states
    more : Items (with_states n h) rest

  record StartLeft (h : Head) (ts : List Token) : Type 0 where
    s : ℕ
    rest : List Token
    text : ts ≡ int s ∷ rest
    below : not_below s h.states ≡ false
    few : s < most_job_states
    more : Items (with_start s h) rest

  record NamesLeft (a : ℕ) (seen : List (List ℕ)) (h : Head) (ts : List Token) : Type 0 where
    ns : List (List ℕ)
    rest : List Token
    text : ts ≡ strings_text ns rest
    new : New seen ns
    differ : Differ ns
    all : length seen + length ns ≡ a
    more : Items (with_props a h) rest

  record PropsLeft (h : Head) (ts : List Token) : Type 0 where
    a : ℕ
    rest : List Token
    text : ts ≡ int a ∷ rest
    few : a ≤ most_props
    more : NamesLeft a [] h rest

  record FormulaLeft (c : ℕ) (s : FormulaState) (h : Head) (ts : List Token) : Type 0 where
    condition : Acceptance
    needs : List ℕ
    rest : List Token
    leads : Leads c s ts (standard condition needs) rest
    more : Items (with_marks c condition needs h) rest

  record MarksLeft (h : Head) (ts : List Token) : Type 0 where
    c : ℕ
    rest : List Token
    text : ts ≡ int c ∷ rest
    few : c ≤ most_marks
    more : FormulaLeft c (formula_begin c) h rest

  -- words, numbers and texts that are passed over, each as it may be
  data Passes : Bool → Bool → List Extra → Type 0 where
    pass_none : {ints texts : Bool} → Passes ints texts []
    pass_word : {ints texts : Bool} {es : List Extra} (w : Word) → Passes ints texts es → Passes ints texts (extra_word w ∷ es)
    pass_int : {texts : Bool} {es : List Extra} (i : ℕ) → Passes true texts es → Passes true texts (extra_int i ∷ es)
    pass_text : {ints : Bool} {es : List Extra} (bs : List ℕ) → Passes ints true es → Passes ints true (extra_text bs ∷ es)

  record HintsLeft (ints texts : Bool) (h : Head) (ts : List Token) : Type 0 where
    es : List Extra
    rest : List Token
    passes : Passes ints texts es
    text : ts ≡ extras_text es rest
    more : Items h rest

  record AccNameLeft (h : Head) (ts : List Token) : Type 0 where
    w : Word
    rest : List Token
    text : ts ≡ word w ∷ rest
    more : HintsLeft true false h rest

  record ToolMoreLeft (h : Head) (ts : List Token) : Type 0 where
    second : Option (List ℕ)
    rest : List Token
    text : ts ≡ perhaps_text second rest
    more : Items h rest

  record ToolLeft (h : Head) (ts : List Token) : Type 0 where
    bs : List ℕ
    rest : List Token
    text : ts ≡ str bs ∷ rest
    more : ToolMoreLeft h rest

  record NameLeft (h : Head) (ts : List Token) : Type 0 where
    bs : List ℕ
    rest : List Token
    text : ts ≡ str bs ∷ rest
    more : Items h rest

  record VersionLeft (ts : List Token) : Type 0 where
    rest : List Token
    text : ts ≡ word word_is.V1 ∷ rest
    more : Items blank rest

  record OpeningLeft (ts : List Token) : Type 0 where
    rest : List Token
    text : ts ≡ header header_is.Hoa ∷ rest
    more : VersionLeft rest

  -- what is left, by where the header stands
  Left : HeadState → List Token → Type 0
  Left opening ts = OpeningLeft ts
  Left version ts = VersionLeft ts
  Left (items h) ts = Items h ts
  Left (states_int h) ts = StatesLeft h ts
  Left (start_int h) ts = StartLeft h ts
  Left (props_int h) ts = PropsLeft h ts
  Left (marks_int h) ts = MarksLeft h ts
  Left (start_more h) ts = Items h ts
  Left (names a seen h) ts = length seen ≤ a → NamesLeft a seen h ts
  Left (in_formula c s h) ts = FormulaLeft c s h ts
  Left (acc_name h) ts = AccNameLeft h ts
  Left (tool_text h) ts = ToolLeft h ts
  Left (tool_more h) ts = ToolMoreLeft h ts
  Left (name_text h) ts = NameLeft h ts
  Left (hints ints texts h) ts = HintsLeft ints texts h ts

  -- what is known of the tokens behind: wherever they lead to the end, so much is left
  Behind : List Token → Type 0
  Behind ts = (s : HeadState) → walk head_step ts s ≡ over final left → Left s ts

  -- ---- what was passed over

  record AsWords (es : List Extra) (rest : List Token) : Type 0 where
    ws : List Word
    text : extras_text es rest ≡ words_text ws rest

  as_words : (es : List Extra) (rest : List Token) → Passes false false es → AsWords es rest
  unfolding extras_text words_text
  as_words _ rest pass_none = record { ws = []; text = refl }
  as_words _ rest (pass_word {es = es} w p) =
      let r = as_words es rest p in
      record { ws = w ∷ r.ws; text = ap (λ (x : List Token). word w ∷ x) r.text }

  record AsHints (es : List Extra) (rest : List Token) : Type 0 where
    hs : List Hint
    text : extras_text es rest ≡ hints_text hs rest

  as_hints : (es : List Extra) (rest : List Token) → Passes true false es → AsHints es rest
  unfolding extras_text hints_text
  as_hints _ rest pass_none = record { hs = []; text = refl }
  as_hints _ rest (pass_word {es = es} w p) =
      let r = as_hints es rest p in
      record { hs = hint_word w ∷ r.hs; text = ap (λ (x : List Token). word w ∷ x) r.text }
  as_hints _ rest (pass_int {es = es} i p) =
      let r = as_hints es rest p in
      record { hs = hint_int i ∷ r.hs; text = ap (λ (x : List Token). int i ∷ x) r.text }

  -- ---- where an item may begin

  sound_item : (h : Head) (t : Token) (ts : List Token) (k : Header) → piece_of t ≡ piece_is.Item k → Behind ts
      → walk_by (on_item h k) ts (λ u. walk head_step ts u) ≡ over final left → Items h (t ∷ ts)
  unfolding Behind Left item_text doc.conj_text ItemLimit
  sound_item h t ts header_is.States q behind e =
      let p = passed_once (is_given h.states) (states_int h) ts _ e in
      let r = behind (states_int h) p.1 in
      front_item (doc.states r.n) r.rest (t ∷ ts) (takes_states r.n p.0 r.some r.above) r.few
      (behind_by (piece_item t header_is.States q) r.text)
      r.more
  sound_item h t ts header_is.Start q behind e =
      let p = passed_once (is_given h.start) (start_int h) ts _ e in
      let r = behind (start_int h) p.1 in
      front_item (doc.start (Conj.one r.s)) r.rest (t ∷ ts) (takes_start r.s p.0 r.below) r.few
      (behind_by (piece_item t header_is.Start q) r.text)
      r.more
  sound_item h t ts header_is.Ap q behind e =
      let p = passed_once (is_given h.props) (props_int h) ts _ e in
      let r = behind (props_int h) p.1 in
      let ns = r.more in
      front_item (doc.props r.a ns.ns) ns.rest (t ∷ ts) (takes_props r.a ns.ns p.0 (omega (arith, ns.all)) ns.differ) r.few
      (behind_by (piece_item t header_is.Ap q) (r.text ∙ behind_by refl ns.text))
      ns.more
  sound_item h t ts header_is.Acceptance q behind e =
      let p = passed_once (is_given h.marks) (marks_int h) ts _ e in
      let r = behind (marks_int h) p.1 in
      let f = r.more in
      let x = formula_sound r.c r.rest f.rest f.condition f.needs f.leads in
      front_item (doc.acceptance r.c x.cond) f.rest (t ∷ ts) (takes_acceptance r.c x.cond f.condition f.needs p.0 x.means) (r.few, x.few)
      (behind_by (piece_item t header_is.Acceptance q) (r.text ∙ behind_by refl x.text))
      f.more
  sound_item h t ts header_is.AccName q behind e =
      let p = passed_once h.hint (acc_name (with_acc_name h)) ts _ e in
      let r = behind (acc_name (with_acc_name h)) p.1 in
      let m = r.more in
      let hs = as_hints m.es m.rest m.passes in
      front_item (doc.acc_name r.w hs.hs) m.rest (t ∷ ts) (takes_acc_name r.w hs.hs p.0) tt
      (behind_by (piece_item t header_is.AccName q) (r.text ∙ behind_by refl (m.text ∙ hs.text)))
      m.more
  sound_item h t ts header_is.Tool q behind e =
      let p = passed_once h.tool (tool_text (with_tool h)) ts _ e in
      let r = behind (tool_text (with_tool h)) p.1 in
      let m = r.more in
      front_item (doc.tool r.bs m.second) m.rest (t ∷ ts) (takes_tool r.bs m.second p.0) tt
      (behind_by (piece_item t header_is.Tool q) (r.text ∙ behind_by refl m.text))
      m.more
  sound_item h t ts header_is.Name q behind e =
      let p = passed_once h.name (name_text (with_name h)) ts _ e in
      let r = behind (name_text (with_name h)) p.1 in
      front_item (doc.name r.bs) r.rest (t ∷ ts) (takes_name r.bs p.0) tt
      (behind_by (piece_item t header_is.Name q) r.text)
      r.more
  sound_item h t ts header_is.Properties q behind e =
      let m = behind (hints false false h) e in
      let ws = as_words m.es m.rest m.passes in
      front_item (doc.properties ws.ws) m.rest (t ∷ ts) (takes_properties ws.ws) tt
      (behind_by (piece_item t header_is.Properties q) (m.text ∙ ws.text))
      m.more
  sound_item h t ts header_is.Lower q behind e =
      let m = behind (hints true true h) e in
      front_item (doc.lower m.es) m.rest (t ∷ ts) (takes_lower m.es) tt
      (behind_by (piece_item t header_is.Lower q) m.text)
      m.more
  sound_item h t ts header_is.Alias q behind e = never _ _ e
  sound_item h t ts header_is.Capital q behind e = never _ _ e
  sound_item h t ts header_is.Hoa q behind e = never _ _ e
  sound_item h t ts header_is.State q behind e = never _ _ e

  sound_body : (h : Head) (t : Token) (ts : List Token) → t ≡ body → walk_by (on_body h) ts (λ u. walk head_step ts u) ≡ over final left → Items h (t ∷ ts)
  unfolding items_text AllLimits
  sound_body h t ts q e =
      let p = passed (not (is_given h.start) || not (is_given h.marks)) 41 (done h) ts (λ u. walk head_step ts u) e in
      let n = either_false (not (is_given h.start)) (not (is_given h.marks)) p.0 in
      let f : h ≡ final = over_head h final ts left p.1 in
      record {
        is = [];
        text = behind_by q (over_rest h final ts left p.1);
        takes = takes_none f;
        limits = tt;
        started = ap (λ (x : Head). is_given x.start) (sym f) ∙ not-false (is_given h.start) n.0;
        accepting = ap (λ (x : Head). is_given x.marks) (sym f) ∙ not-false (is_given h.marks) n.1;
      }

  sound_piece : (h : Head) (t : Token) (ts : List Token) (p : Piece) → piece_of t ≡ p → Behind ts
      → walk_by (on_piece h p) ts (λ u. walk head_step ts u) ≡ over final left → Items h (t ∷ ts)
  sound_piece h t ts (piece_is.Item k) q behind e = sound_item h t ts k q behind e
  sound_piece h t ts piece_is.Body q behind e = sound_body h t ts (piece_body t q) e
  sound_piece h t ts piece_is.Word q behind e = never _ _ e
  sound_piece h t ts piece_is.Int q behind e = never _ _ e
  sound_piece h t ts piece_is.Text q behind e = never _ _ e
  sound_piece h t ts piece_is.Join q behind e = never _ _ e
  sound_piece h t ts (piece_is.Wrong n) q behind e = never _ _ e

  -- ---- where an INT or a STRING is wanted

  wants_int_lem : (f : ℕ → HeadStep) (t : Token) (ts : List Token) (more : HeadState → HeadWalk) → walk_by (wants_int f t) ts more ≡ over final left
      → (t ≡ int (int_in t)) × (walk_by (f (int_in t)) ts more ≡ over final left)
  unfolding wants_int
  wants_int_lem f (int i) ts more e = (refl, e)
  wants_int_lem f (word w) ts more e = never _ _ e
  wants_int_lem f (header k) ts more e = never _ _ e
  wants_int_lem f (str bs) ts more e = never _ _ e
  wants_int_lem f aname ts more e = never _ _ e
  wants_int_lem f (sign g) ts more e = never _ _ e
  wants_int_lem f body ts more e = never _ _ e
  wants_int_lem f end ts more e = never _ _ e
  wants_int_lem f abort ts more e = never _ _ e
  wants_int_lem f finish ts more e = never _ _ e
  wants_int_lem f bad ts more e = never _ _ e

  wants_text_lem : (s : HeadState) (t : Token) (ts : List Token) (more : HeadState → HeadWalk) → walk_by (wants_text s t) ts more ≡ over final left
      → (t ≡ str (text_in t)) × (more s ≡ over final left)
  unfolding wants_text
  wants_text_lem s (int i) ts more e = never _ _ e
  wants_text_lem s (word w) ts more e = never _ _ e
  wants_text_lem s (header k) ts more e = never _ _ e
  wants_text_lem s (str bs) ts more e = (refl, e)
  wants_text_lem s aname ts more e = never _ _ e
  wants_text_lem s (sign g) ts more e = never _ _ e
  wants_text_lem s body ts more e = never _ _ e
  wants_text_lem s end ts more e = never _ _ e
  wants_text_lem s abort ts more e = never _ _ e
  wants_text_lem s finish ts more e = never _ _ e
  wants_text_lem s bad ts more e = never _ _ e

  -- too few names or atoms: nothing leads on
  unfinished_ends : (p : Piece) (ts : List Token) (more : HeadState → HeadWalk) → walk_by (unfinished p) ts more ≡ over final left → ⊥
  unfinished_ends (piece_is.Item k) ts more e = never _ _ e
  unfinished_ends piece_is.Body ts more e = never _ _ e
  unfinished_ends piece_is.Word ts more e = never _ _ e
  unfinished_ends piece_is.Int ts more e = never _ _ e
  unfinished_ends piece_is.Text ts more e = never _ _ e
  unfinished_ends piece_is.Join ts more e = never _ _ e
  unfinished_ends (piece_is.Wrong n) ts more e = never _ _ e

  -- ---- each place of the header

  module _ (h : Head) (t : Token) (ts : List Token) (behind : Behind ts) where
    sound_states : walk_by (wants_int (on_states h) t) ts (λ u. walk head_step ts u) ≡ over final left → StatesLeft h (t ∷ ts)
    unfolding Behind Left
    sound_states e =
        let i = wants_int_lem (on_states h) t ts _ e in
        let p = passed (eqb (int_in t) 0 || not_above (int_in t) h.start) 41 _ ts _ i.1 in
        let n = either_false (eqb (int_in t) 0) (not_above (int_in t) h.start) p.0 in
        let q = passed (ltb most_job_states (int_in t)) 42 (go (items (with_states (int_in t) h))) ts (λ u. walk head_step ts u) p.1 in
        record {
          n = int_in t;
          rest = ts;
          text = behind_by i.0 refl;
          some = positive (int_in t) (eqb-false (int_in t) 0 n.0);
          above = n.1;
          few = ltb-false most_job_states (int_in t) q.0;
          more = behind (items (with_states (int_in t) h)) q.1;
        }

    sound_start : walk_by (wants_int (on_start h) t) ts (λ u. walk head_step ts u) ≡ over final left → StartLeft h (t ∷ ts)
    unfolding Behind Left
    sound_start e =
        let i = wants_int_lem (on_start h) t ts _ e in
        let p = passed (not_below (int_in t) h.states) 41 _ ts _ i.1 in
        let q = passed (leb most_job_states (int_in t)) 42 (go (start_more (with_start (int_in t) h))) ts (λ u. walk head_step ts u) p.1 in
        record {
          s = int_in t;
          rest = ts;
          text = behind_by i.0 refl;
          below = p.0;
          few = leb-false most_job_states (int_in t) q.0;
          more = behind (start_more (with_start (int_in t) h)) q.1;
        }

    sound_props : walk_by (wants_int (on_props h) t) ts (λ u. walk head_step ts u) ≡ over final left → PropsLeft h (t ∷ ts)
    unfolding Behind Left
    sound_props e =
        let i = wants_int_lem (on_props h) t ts _ e in
        let p = passed (ltb most_props (int_in t)) 42 (go (names (int_in t) [] h)) ts (λ u. walk head_step ts u) i.1 in
        record {
          a = int_in t;
          rest = ts;
          text = behind_by i.0 refl;
          few = ltb-false most_props (int_in t) p.0;
          more = behind (names (int_in t) [] h) p.1 zero-le;
        }

    sound_marks : walk_by (wants_int (on_marks h) t) ts (λ u. walk head_step ts u) ≡ over final left → MarksLeft h (t ∷ ts)
    unfolding Behind Left
    sound_marks e =
        let i = wants_int_lem (on_marks h) t ts _ e in
        let p = passed (ltb most_marks (int_in t)) 42 (go (in_formula (int_in t) (formula_begin (int_in t)) h)) ts (λ u. walk head_step ts u) i.1 in
        record {
          c = int_in t;
          rest = ts;
          text = behind_by i.0 refl;
          few = ltb-false most_marks (int_in t) p.0;
          more = behind (in_formula (int_in t) (formula_begin (int_in t)) h) p.1;
        }

    sound_start_more : (p : Piece) → piece_of t ≡ p → walk_by (on_start_more h p) ts (λ u. walk head_step ts u) ≡ over final left → Items h (t ∷ ts)
    sound_start_more piece_is.Join q e = never _ _ e
    sound_start_more (piece_is.Item k) q e = sound_piece h t ts (piece_is.Item k) q behind e
    sound_start_more piece_is.Body q e = sound_piece h t ts piece_is.Body q behind e
    sound_start_more piece_is.Word q e = sound_piece h t ts piece_is.Word q behind e
    sound_start_more piece_is.Int q e = sound_piece h t ts piece_is.Int q behind e
    sound_start_more piece_is.Text q e = sound_piece h t ts piece_is.Text q behind e
    sound_start_more (piece_is.Wrong n) q e = sound_piece h t ts (piece_is.Wrong n) q behind e

    sound_acc_name : (p : Piece) → piece_of t ≡ p → walk_by (on_acc_name h p) ts (λ u. walk head_step ts u) ≡ over final left → AccNameLeft h (t ∷ ts)
    unfolding Behind Left
    sound_acc_name piece_is.Word q e =
        record { w = word_in t; rest = ts; text = behind_by (piece_word t q) refl; more = behind (hints true false h) e }
    sound_acc_name (piece_is.Item k) q e = never _ _ e
    sound_acc_name piece_is.Body q e = never _ _ e
    sound_acc_name piece_is.Int q e = never _ _ e
    sound_acc_name piece_is.Text q e = never _ _ e
    sound_acc_name piece_is.Join q e = never _ _ e
    sound_acc_name (piece_is.Wrong n) q e = never _ _ e

    sound_tool : walk_by (wants_text (tool_more h) t) ts (λ u. walk head_step ts u) ≡ over final left → ToolLeft h (t ∷ ts)
    unfolding Behind Left
    sound_tool e =
        let i = wants_text_lem (tool_more h) t ts (λ u. walk head_step ts u) e in
        record { bs = text_in t; rest = ts; text = behind_by i.0 refl; more = behind (tool_more h) i.1 }

    sound_name : walk_by (wants_text (items h) t) ts (λ u. walk head_step ts u) ≡ over final left → NameLeft h (t ∷ ts)
    unfolding Behind Left
    sound_name e =
        let i = wants_text_lem (items h) t ts (λ u. walk head_step ts u) e in
        record { bs = text_in t; rest = ts; text = behind_by i.0 refl; more = behind (items h) i.1 }

    no_second : Items h (t ∷ ts) → ToolMoreLeft h (t ∷ ts)
    no_second r = record { second = none; rest = t ∷ ts; text = refl; more = r }

    sound_tool_more : (p : Piece) → piece_of t ≡ p → walk_by (on_tool_more h p) ts (λ u. walk head_step ts u) ≡ over final left → ToolMoreLeft h (t ∷ ts)
    unfolding Behind Left
    sound_tool_more piece_is.Text q e =
        record { second = some (text_in t); rest = ts; text = behind_by (piece_text t q) refl; more = behind (items h) e }
    sound_tool_more (piece_is.Item k) q e = no_second (sound_piece h t ts (piece_is.Item k) q behind e)
    sound_tool_more piece_is.Body q e = no_second (sound_piece h t ts piece_is.Body q behind e)
    sound_tool_more piece_is.Word q e = no_second (sound_piece h t ts piece_is.Word q behind e)
    sound_tool_more piece_is.Int q e = no_second (sound_piece h t ts piece_is.Int q behind e)
    sound_tool_more piece_is.Join q e = no_second (sound_piece h t ts piece_is.Join q behind e)
    sound_tool_more (piece_is.Wrong n) q e = no_second (sound_piece h t ts (piece_is.Wrong n) q behind e)

    no_hint : (ints texts : Bool) → Items h (t ∷ ts) → HintsLeft ints texts h (t ∷ ts)
    unfolding extras_text
    no_hint ints texts r = record { es = []; rest = t ∷ ts; passes = pass_none; text = refl; more = r }

    sound_hints : (ints texts : Bool) (p : Piece) → piece_of t ≡ p → walk_by (on_hints ints texts h p) ts (λ u. walk head_step ts u) ≡ over final left
        → HintsLeft ints texts h (t ∷ ts)
    unfolding Behind Left extras_text
    sound_hints ints texts piece_is.Word q e =
        let r = behind (hints ints texts h) e in
        record { es = extra_word (word_in t) ∷ r.es; rest = r.rest; passes = pass_word (word_in t) r.passes; text = behind_by (piece_word t q) r.text; more = r.more }
    sound_hints true texts piece_is.Int q e =
        let r = behind (hints true texts h) e in
        record { es = extra_int (int_in t) ∷ r.es; rest = r.rest; passes = pass_int (int_in t) r.passes; text = behind_by (piece_int t q) r.text; more = r.more }
    sound_hints false texts piece_is.Int q e = never _ _ e
    sound_hints ints true piece_is.Text q e =
        let r = behind (hints ints true h) e in
        record { es = extra_text (text_in t) ∷ r.es; rest = r.rest; passes = pass_text (text_in t) r.passes; text = behind_by (piece_text t q) r.text; more = r.more }
    sound_hints ints false piece_is.Text q e = never _ _ e
    sound_hints ints texts (piece_is.Item k) q e = no_hint ints texts (sound_item h t ts k q behind e)
    sound_hints ints texts piece_is.Body q e = no_hint ints texts (sound_body h t ts (piece_body t q) e)
    sound_hints ints texts piece_is.Join q e = never _ _ e
    sound_hints ints texts (piece_is.Wrong n) q e = never _ _ e

    -- ---- the names of AP:

    -- names that are new behind one more are new, and differ from it
    fewer_seen : (n : List ℕ) (seen ns : List (List ℕ)) → New (n ∷ seen) ns → New seen ns
    fewer_seen n seen [] each_none = each_none
    fewer_seen n seen (m ∷ ns) (each_more e es) = each_more {x = m} (either_false (same m n) (name_came m seen) e).1 (fewer_seen n seen ns es)

    each_differs : (n : List ℕ) (seen ns : List (List ℕ)) → New (n ∷ seen) ns → Each (λ m. n ≡ m → ⊥) ns
    each_differs n seen [] each_none = each_none
    each_differs n seen (m ∷ ns) (each_more e es) =
        each_more {x = m} (λ q. ne_same m n (either_false (same m n) (name_came m seen) e).0 (sym q)) (each_differs n seen ns es)

    sound_new_name : (a : ℕ) (seen : List (List ℕ)) (bs : List ℕ) → t ≡ str bs → walk_by (on_name a seen h bs) ts (λ u. walk head_step ts u) ≡ over final left
        → length seen ≤ a → NamesLeft a seen h (t ∷ ts)
    unfolding Behind Left strings_text
    sound_new_name a seen bs q e l =
        let p = passed (leb a (length seen) || name_came bs seen) 41 (go (names a (bs ∷ seen) h)) ts (λ u. walk head_step ts u) e in
        let n = either_false (leb a (length seen)) (name_came bs seen) p.0 in
        let r = behind (names a (bs ∷ seen) h) p.1 (leb-false a (length seen) n.0) in
        record {
          ns = bs ∷ r.ns;
          rest = r.rest;
          text = behind_by q r.text;
          new = each_more {x = bs} n.1 (fewer_seen bs seen r.ns r.new);
          differ = differ_more (each_differs bs seen r.ns r.new) r.differ;
          all = omega (arith, r.all);
          more = r.more;
        }

    sound_behind_names : (a : ℕ) (seen : List (List ℕ)) (few : Bool) → ltb (length seen) a ≡ few
        → walk_by (cond few (unfinished (piece_of t)) (on_piece (with_props a h) (piece_of t))) ts (λ u. walk head_step ts u) ≡ over final left
        → length seen ≤ a → NamesLeft a seen h (t ∷ ts)
    unfolding strings_text
    sound_behind_names a seen true q e l = absurd (unfinished_ends (piece_of t) ts _ e)
    sound_behind_names a seen false q e l =
        record {
          ns = [];
          rest = t ∷ ts;
          text = refl;
          new = each_none;
          differ = differ_none;
          all = omega (arith, ltb-false (length seen) a q);
          more = sound_piece (with_props a h) t ts (piece_of t) refl behind e;
        }

    -- ---- the formula

    sound_behind_formula : (c : ℕ) (s : FormulaState) (m : FormulaMeaning) → formula_step c s t ≡ formula.over m
        → walk_by (behind_formula c h (piece_of t) m) ts (λ u. walk head_step ts u) ≡ over final left → FormulaLeft c s h (t ∷ ts)
    sound_behind_formula c s (standard condition needs) q e =
        record {
          condition = condition;
          needs = needs;
          rest = t ∷ ts;
          leads = ends q;
          more = sound_piece (with_marks c condition needs h) t ts (piece_of t) refl behind e;
        }
    sound_behind_formula c s short q e = absurd (unfinished_ends (piece_of t) ts _ e)

    sound_formula : (c : ℕ) (s : FormulaState) (x : FormulaStep) → formula_step c s t ≡ x
        → walk_by (on_formula c h t x) ts (λ u. walk head_step ts u) ≡ over final left → FormulaLeft c s h (t ∷ ts)
    unfolding Behind Left
    sound_formula c s (formula.go u) q e =
        let r = behind (in_formula c u h) e in
        record { condition = r.condition; needs = r.needs; rest = r.rest; leads = steps q r.leads; more = r.more }
    sound_formula c s (formula.over m) q e = sound_behind_formula c s m q e
    sound_formula c s (formula.wrong n) q e = never _ _ e

  -- the names, by the token
  sound_names : (h : Head) (t : Token) (ts : List Token) → Behind ts → (a : ℕ) (seen : List (List ℕ))
      → walk_by (on_names a seen h t) ts (λ u. walk head_step ts u) ≡ over final left → length seen ≤ a → NamesLeft a seen h (t ∷ ts)
  unfolding on_names
  sound_names h (str bs) ts behind a seen e l = sound_new_name h (str bs) ts behind a seen bs refl e l
  sound_names h (int i) ts behind a seen e l = sound_behind_names h (int i) ts behind a seen (ltb (length seen) a) refl e l
  sound_names h (word w) ts behind a seen e l = sound_behind_names h (word w) ts behind a seen (ltb (length seen) a) refl e l
  sound_names h (header k) ts behind a seen e l = sound_behind_names h (header k) ts behind a seen (ltb (length seen) a) refl e l
  sound_names h aname ts behind a seen e l = sound_behind_names h aname ts behind a seen (ltb (length seen) a) refl e l
  sound_names h (sign g) ts behind a seen e l = sound_behind_names h (sign g) ts behind a seen (ltb (length seen) a) refl e l
  sound_names h body ts behind a seen e l = sound_behind_names h body ts behind a seen (ltb (length seen) a) refl e l
  sound_names h end ts behind a seen e l = sound_behind_names h end ts behind a seen (ltb (length seen) a) refl e l
  sound_names h abort ts behind a seen e l = sound_behind_names h abort ts behind a seen (ltb (length seen) a) refl e l
  sound_names h finish ts behind a seen e l = sound_behind_names h finish ts behind a seen (ltb (length seen) a) refl e l
  sound_names h bad ts behind a seen e l = sound_behind_names h bad ts behind a seen (ltb (length seen) a) refl e l

  -- ---- the first two tokens

  sound_version : (t : Token) (ts : List Token) → Behind ts → walk_by (on_version t) ts (λ u. walk head_step ts u) ≡ over final left → VersionLeft (t ∷ ts)
  unfolding Behind Left on_version
  sound_version (word word_is.V1) ts behind e = record { rest = ts; text = refl; more = behind (items blank) e }
  sound_version (word word_is.True) ts behind e = never _ _ e
  sound_version (word word_is.False) ts behind e = never _ _ e
  sound_version (word word_is.Inf) ts behind e = never _ _ e
  sound_version (word word_is.Fin) ts behind e = never _ _ e
  sound_version (word word_is.Other) ts behind e = never _ _ e
  sound_version (int i) ts behind e = never _ _ e
  sound_version (header k) ts behind e = never _ _ e
  sound_version (str bs) ts behind e = never _ _ e
  sound_version aname ts behind e = never _ _ e
  sound_version (sign g) ts behind e = never _ _ e
  sound_version body ts behind e = never _ _ e
  sound_version end ts behind e = never _ _ e
  sound_version abort ts behind e = never _ _ e
  sound_version finish ts behind e = never _ _ e
  sound_version bad ts behind e = never _ _ e

  sound_opening : (t : Token) (ts : List Token) → Behind ts → walk_by (on_opening t) ts (λ u. walk head_step ts u) ≡ over final left → OpeningLeft (t ∷ ts)
  unfolding Behind Left on_opening
  sound_opening (header header_is.Hoa) ts behind e = record { rest = ts; text = refl; more = behind version e }
  sound_opening (header header_is.States) ts behind e = never _ _ e
  sound_opening (header header_is.Start) ts behind e = never _ _ e
  sound_opening (header header_is.Ap) ts behind e = never _ _ e
  sound_opening (header header_is.Alias) ts behind e = never _ _ e
  sound_opening (header header_is.Acceptance) ts behind e = never _ _ e
  sound_opening (header header_is.AccName) ts behind e = never _ _ e
  sound_opening (header header_is.Tool) ts behind e = never _ _ e
  sound_opening (header header_is.Name) ts behind e = never _ _ e
  sound_opening (header header_is.Properties) ts behind e = never _ _ e
  sound_opening (header header_is.State) ts behind e = never _ _ e
  sound_opening (header header_is.Capital) ts behind e = never _ _ e
  sound_opening (header header_is.Lower) ts behind e = never _ _ e
  sound_opening (int i) ts behind e = never _ _ e
  sound_opening (word w) ts behind e = never _ _ e
  sound_opening (str bs) ts behind e = never _ _ e
  sound_opening aname ts behind e = never _ _ e
  sound_opening (sign g) ts behind e = never _ _ e
  sound_opening body ts behind e = never _ _ e
  sound_opening end ts behind e = never _ _ e
  sound_opening abort ts behind e = never _ _ e
  sound_opening finish ts behind e = never _ _ e
  sound_opening bad ts behind e = never _ _ e

  -- ---- all of it

  sound_step : (s : HeadState) (t : Token) (ts : List Token) → Behind ts → walk_by (head_step s t) ts (λ u. walk head_step ts u) ≡ over final left → Left s (t ∷ ts)
  unfolding head_step Left
  sound_step opening t ts behind e = sound_opening t ts behind e
  sound_step version t ts behind e = sound_version t ts behind e
  sound_step (items h) t ts behind e = sound_piece h t ts (piece_of t) refl behind e
  sound_step (states_int h) t ts behind e = sound_states h t ts behind e
  sound_step (start_int h) t ts behind e = sound_start h t ts behind e
  sound_step (props_int h) t ts behind e = sound_props h t ts behind e
  sound_step (marks_int h) t ts behind e = sound_marks h t ts behind e
  sound_step (start_more h) t ts behind e = sound_start_more h t ts behind (piece_of t) refl e
  sound_step (names a seen h) t ts behind e = sound_names h t ts behind a seen e
  sound_step (in_formula c s h) t ts behind e = sound_formula h t ts behind c s (formula_step c s t) refl e
  sound_step (acc_name h) t ts behind e = sound_acc_name h t ts behind (piece_of t) refl e
  sound_step (tool_text h) t ts behind e = sound_tool h t ts behind e
  sound_step (tool_more h) t ts behind e = sound_tool_more h t ts behind (piece_of t) refl e
  sound_step (name_text h) t ts behind e = sound_name h t ts behind e
  sound_step (hints ints texts h) t ts behind e = sound_hints h t ts behind ints texts (piece_of t) refl e

  sound_left : (ts : List Token) (s : HeadState) → walk head_step ts s ≡ over final left → Left s ts
  unfolding walk is_over Behind
  sound_left [] s e = absurd (subst is_over (sym e) tt)
  sound_left (t ∷ ts) s e = sound_step s t ts (λ u q. sound_left ts u q) e

  -- the header of the subset that the tokens are
  pub record Heading (ts : List Token) : Type 0 where
    pub is : List Item
    pub text : ts ≡ header header_is.Hoa ∷ word word_is.V1 ∷ items_text is (body ∷ left)
    pub takes : TakesAll blank is final
    pub limits : AllLimits takes
    pub started : is_given final.start ≡ true
    pub accepting : is_given final.marks ≡ true

  -- what is walked from the first token to behind `--BODY--` is a header of the subset
  pub sound : (ts : List Token) → walk head_step ts opening ≡ over final left → Heading ts
  unfolding Left
  sound ts e =
      let o = sound_left ts opening e in
      let v = o.more in
      let i = v.more in
      record {
        is = i.is;
        text = o.text ∙ behind_by refl (v.text ∙ behind_by refl i.text);
        takes = i.takes;
        limits = i.limits;
        started = i.started;
        accepting = i.accepting;
      }
