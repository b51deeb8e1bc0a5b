-- HOA version 1 as a grammar on tokens, apart from any reader (docs/RULES.md, "The Hanoi format", grammar): one type for each nonterminal, and its text
-- with what follows it. Labels and conditions have theirs in the crates `hoa_label` and `hoa_formula`. Assumes nothing.
use Rattle.std.specs.Prelude.{List, [], ◌∷◌, ℕ}
use Rattle.std.proofs.Math.Option.{Option, some, none}
use Rattle.hoa_tokens.specs.declared.Word.{Word}
use Rattle.hoa_tokens.specs.declared.Header.TheVariants as header_is
use Rattle.hoa_tokens.specs.declared.Sign.TheVariants as sign_is
use Rattle.hoa_tokens.specs.Token.{Token, int, word, header, str, aname, sign, body, end, finish}
use Rattle.hoa_label.specs.Label.{Label, label_text}
use Rattle.hoa_formula.specs.Cond.{Cond, cond_text}

-- conj = INT ("&" INT)*
pub data Conj : Type 0 where
  one : ℕ → Conj
  more : ℕ → Conj → Conj

unfoldable pub conj_text : Conj → List Token → List Token
conj_text (one i) ts = int i ∷ ts
conj_text (more i c) ts = int i ∷ sign sign_is.And ∷ conj_text c ts

-- WORD | INT
pub data Hint : Type 0 where
  hint_word : Word → Hint
  hint_int : ℕ → Hint

-- WORD | INT | STRING
pub data Extra : Type 0 where
  extra_word : Word → Extra
  extra_int : ℕ → Extra
  extra_text : List ℕ → Extra

unfoldable pub hints_text : List Hint → List Token → List Token
hints_text [] ts = ts
hints_text (hint_word w ∷ hs) ts = word w ∷ hints_text hs ts
hints_text (hint_int i ∷ hs) ts = int i ∷ hints_text hs ts

unfoldable pub extras_text : List Extra → List Token → List Token
extras_text [] ts = ts
extras_text (extra_word w ∷ es) ts = word w ∷ extras_text es ts
extras_text (extra_int i ∷ es) ts = int i ∷ extras_text es ts
extras_text (extra_text bs ∷ es) ts = str bs ∷ extras_text es ts

unfoldable pub words_text : List Word → List Token → List Token
words_text [] ts = ts
words_text (w ∷ ws) ts = word w ∷ words_text ws ts

unfoldable pub strings_text : List (List ℕ) → List Token → List Token
strings_text [] ts = ts
strings_text (bs ∷ bss) ts = str bs ∷ strings_text bss ts

-- STRING?
abbrev pub perhaps_text : Option (List ℕ) → List Token → List Token
perhaps_text none ts = ts
perhaps_text (some bs) ts = str bs ∷ ts

-- item
pub data Item : Type 0 where
  -- States: INT
  states : ℕ → Item
  -- Start: conj
  start : Conj → Item
  -- AP: INT STRING*
  props : ℕ → List (List ℕ) → Item
  -- Alias: ANAME label
  alias : Label → Item
  -- Acceptance: INT cond
  acceptance : ℕ → Cond → Item
  -- acc-name: WORD (WORD | INT)*
  acc_name : Word → List Hint → Item
  -- tool: STRING STRING?
  tool : List ℕ → Option (List ℕ) → Item
  -- name: STRING
  name : List ℕ → Item
  -- properties: WORD*
  properties : List Word → Item
  -- NAME: (WORD | INT | STRING)*, any other name: with a capital letter in front, or without
  capital : List Extra → Item
  lower : List Extra → Item

unfoldable pub item_text : Item → List Token → List Token
item_text (states n) ts = header header_is.States ∷ int n ∷ ts
item_text (start c) ts = header header_is.Start ∷ conj_text c ts
item_text (props a ns) ts = header header_is.Ap ∷ int a ∷ strings_text ns ts
item_text (alias l) ts = header header_is.Alias ∷ aname ∷ label_text l ts
item_text (acceptance c x) ts = header header_is.Acceptance ∷ int c ∷ cond_text x ts
item_text (acc_name w hs) ts = header header_is.AccName ∷ word w ∷ hints_text hs ts
item_text (tool bs second) ts = header header_is.Tool ∷ str bs ∷ perhaps_text second ts
item_text (name bs) ts = header header_is.Name ∷ str bs ∷ ts
item_text (properties ws) ts = header header_is.Properties ∷ words_text ws ts
item_text (capital es) ts = header header_is.Capital ∷ extras_text es ts
item_text (lower es) ts = header header_is.Lower ∷ extras_text es ts

unfoldable pub items_text : List Item → List Token → List Token
items_text [] ts = ts
items_text (i ∷ is) ts = item_text i (items_text is ts)

-- ("[" label "]")?
abbrev pub perhaps_label : Option Label → List Token → List Token
perhaps_label none ts = ts
perhaps_label (some l) ts = sign sign_is.BracketLeft ∷ label_text l (sign sign_is.BracketRight ∷ ts)

unfoldable pub ints_text : List ℕ → List Token → List Token
ints_text [] ts = ts
ints_text (i ∷ is) ts = int i ∷ ints_text is ts

-- sig? where sig = "{" INT* "}"
abbrev pub perhaps_sig : Option (List ℕ) → List Token → List Token
perhaps_sig none ts = ts
perhaps_sig (some is) ts = sign sign_is.BraceLeft ∷ ints_text is (sign sign_is.BraceRight ∷ ts)

-- edge = ("[" label "]")? conj sig?
pub record EdgeTree : Type 0 where
  pub label : Option Label
  pub to : Conj
  pub sig : Option (List ℕ)

abbrev pub edge_text : EdgeTree → List Token → List Token
edge_text e ts = perhaps_label e.label (conj_text e.to (perhaps_sig e.sig ts))

unfoldable pub edges_text : List EdgeTree → List Token → List Token
edges_text [] ts = ts
edges_text (e ∷ es) ts = edge_text e (edges_text es ts)

-- row = State: ("[" label "]")? INT STRING? sig? edge*
pub record Row : Type 0 where
  pub label : Option Label
  pub number : ℕ
  pub name : Option (List ℕ)
  pub sig : Option (List ℕ)
  pub edges : List EdgeTree

abbrev pub row_text : Row → List Token → List Token
row_text r ts =
    header header_is.State
    ∷ perhaps_label r.label (int r.number ∷ perhaps_text r.name (perhaps_sig r.sig (edges_text r.edges ts)))

unfoldable pub rows_text : List Row → List Token → List Token
rows_text [] ts = ts
rows_text (r ∷ rs) ts = row_text r (rows_text rs ts)

-- text = HOA: WORD item* --BODY-- row* --END-- END
pub record Doc : Type 0 where
  pub version : Word
  pub items : List Item
  pub rows : List Row

unfoldable pub doc_text : Doc → List Token
doc_text d =
    header header_is.Hoa
    ∷ word d.version
    ∷ items_text d.items (body ∷ rows_text d.rows (end ∷ finish ∷ []))
