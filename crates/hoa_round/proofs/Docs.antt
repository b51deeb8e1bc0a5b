-- The text that is written as a tree of the format's grammar, with the tokens that are written. Assumes nothing.
use mathlib.Core.Bool.{Bool, true, false, cond}
use mathlib.Core.List.{List, [], ◌∷◌, ◌++◌}
use mathlib.Core.Option.{Option, some, none}
use mathlib.Core.Path.{◌≡◌, refl, sym, ap, ◌∙◌}
use Prim.Native.Nat.{ℕ, zero, suc, ◌/◌, ◌%◌, ◌^◌}
use lib.Dec.{eqb}
use lib.ListN.{length, get_or}
use Rattle.marks.specs.Mark.{width}
use Rattle.table.specs.declared.Acceptance.{Acceptance}
use Rattle.table.specs.Table.{lent}
use Rattle.table.specs.Refusal.{used}
use Rattle.hoa_tokens.specs.declared.Word.TheVariants as word_is
use Rattle.hoa_tokens.specs.declared.Header.TheVariants as header_is
use Rattle.hoa_tokens.specs.declared.Sign.TheVariants as sign_is
use Rattle.hoa_tokens.specs.Token.{Token, int, word, header, sign, body, end, finish}
use Rattle.hoa_label.specs.Label.{Label, Lconj, Lfactor, label_text}
use Rattle.hoa_written.specs.Tokens.{joined_tokens, formula_tokens, mark_tokens, sig_tokens, edge_tokens, leaving_tokens, row_tokens, written_tokens}
use Rattle.hoa_written.proofs.Back.{up_to, leaving_to}
use Rattle.hoa_grammar.specs.Doc as tree
use Rattle.hoa_grammar.specs.Doc.{Conj, Item, EdgeTree, Row, Doc, conj_text, strings_text, item_text, items_text, ints_text, perhaps_sig, edges_text, rows_text, doc_text}
use Rattle.hoa_round.proofs.Trees.{formula_tree}
use Rattle.hoa_round.proofs.Conds.{cond_of, cond_tree}

-- ---- the trees

-- the marks of a set below k
abbrev pub marks_to : ℕ → ℕ → List ℕ
marks_to set zero = []
marks_to set (suc k) = marks_to set k ++ cond (eqb (set / 2 ^ k % 2) 1) (k ∷ []) []

-- nothing for no marks
abbrev pub sig_of : ℕ → Option (List ℕ)
sig_of set = cond (eqb set 0) none (some (marks_to set width))

-- `t`
abbrev pub truth : Label
truth = Label.conj (Lconj.factor Lfactor.truth)

-- edge e
abbrev pub tree_of : List ℕ → List ℕ → ℕ → EdgeTree
tree_of to marks e = record { label = some truth; to = Conj.one (get_or to e 0); sig = sig_of (get_or marks e 0) }

-- the row of state q
abbrev pub row_of : List ℕ → List ℕ → List ℕ → ℕ → Row
row_of from to marks q = record { label = none; number = q; name = none; sig = none; edges = leaving_to (tree_of to marks) from q (length from) }

-- the header's items
abbrev pub items_of : ℕ → ℕ → Acceptance → List ℕ → List Item
items_of n start c needs =
    Item.states n ∷ (Item.start (Conj.one start) ∷ (Item.props 0 [] ∷ (Item.acceptance (used c needs) (cond_of c needs) ∷ [])))

-- the whole text
abbrev pub doc_of : ℕ → ℕ → List ℕ → List ℕ → List ℕ → Acceptance → List ℕ → Doc
doc_of n start from to marks c needs = record { version = word_is.V1; items = items_of n start c needs; rows = up_to (row_of from to marks) n }

-- ---- one part after another

-- the numbers of a sig
ints_append : (is js : List ℕ) (ts : List Token) → ints_text (is ++ js) ts ≡ ints_text is (ints_text js ts)
unfolding ints_text
ints_append [] js ts = refl
ints_append (i ∷ is) js ts = ap (λ (us : List Token). int i ∷ us) (ints_append is js ts)

-- edges
edges_append : (es fs : List EdgeTree) (ts : List Token) → edges_text (es ++ fs) ts ≡ edges_text es (edges_text fs ts)
unfolding edges_text
edges_append [] fs ts = refl
edges_append (e ∷ es) fs ts = ap (tree.edge_text e) (edges_append es fs ts)

-- rows
rows_append : (rs ss : List Row) (ts : List Token) → rows_text (rs ++ ss) ts ≡ rows_text rs (rows_text ss ts)
unfolding rows_text
rows_append [] ss ts = refl
rows_append (r ∷ rs) ss ts = ap (tree.row_text r) (rows_append rs ss ts)

-- ---- their tokens

-- a number or none
int_if : (b : Bool) (i : ℕ) (ts : List Token) → ints_text (cond b (i ∷ []) []) ts ≡ cond b (int i ∷ ts) ts
unfolding ints_text
int_if true i ts = refl
int_if false i ts = refl

-- the marks of a set below k
marks_are : (set k : ℕ) (ts : List Token) → ints_text (marks_to set k) ts ≡ joined_tokens (mark_tokens set) k ts
unfolding ints_text joined_tokens
marks_are set zero ts = refl
marks_are set (suc k) ts =
    let one = cond (eqb (set / 2 ^ k % 2) 1) (k ∷ []) [] in
    ints_append (marks_to set k) one ts ∙ ap (ints_text (marks_to set k)) (int_if (eqb (set / 2 ^ k % 2) 1) k ts) ∙ marks_are set k (mark_tokens set k ts)

-- a sig or none
sig_if : (b : Bool) (is : List ℕ) (ts : List Token)
    → perhaps_sig (cond b none (some is)) ts ≡ cond b ts (sign sign_is.BraceLeft ∷ ints_text is (sign sign_is.BraceRight ∷ ts))
sig_if true is ts = refl
sig_if false is ts = refl

-- the sig of a set
sig_is : (set : ℕ) (ts : List Token) → perhaps_sig (sig_of set) ts ≡ sig_tokens set ts
unfolding sig_tokens
sig_is set ts =
    sig_if (eqb set 0) (marks_to set width) ts
    ∙ ap (λ (us : List Token). cond (eqb set 0) ts (sign sign_is.BraceLeft ∷ us)) (marks_are set width (sign sign_is.BraceRight ∷ ts))

module _ (from to marks : List ℕ) where
  -- an edge
  edge_is : (e : ℕ) (ts : List Token) → tree.edge_text (tree_of to marks e) ts ≡ edge_tokens (get_or to e 0) (get_or marks e 0) ts
  unfolding label_text conj_text edge_tokens
  edge_is e ts =
      ap (λ (us : List Token). sign sign_is.BracketLeft ∷ (word word_is.True ∷ (sign sign_is.BracketRight ∷ (int (get_or to e 0) ∷ us)))) (sig_is (get_or marks e 0) ts)

  -- an edge or none
  edge_if : (b : Bool) (e : ℕ) (ts : List Token)
      → edges_text (cond b (tree_of to marks e ∷ []) []) ts ≡ cond b (edge_tokens (get_or to e 0) (get_or marks e 0) ts) ts
  unfolding edges_text
  edge_if true e ts = edge_is e ts
  edge_if false e ts = refl

  -- the edges below k that leave q
  leaving_are : (q k : ℕ) (ts : List Token) → edges_text (leaving_to (tree_of to marks) from q k) ts ≡ joined_tokens (leaving_tokens from to marks q) k ts
  unfolding edges_text joined_tokens
  leaving_are q zero ts = refl
  leaving_are q (suc k) ts =
      let before = leaving_to (tree_of to marks) from q k in
      edges_append before (cond (eqb (get_or from k 0) q) (tree_of to marks k ∷ []) []) ts
      ∙ ap (edges_text before) (edge_if (eqb (get_or from k 0) q) k ts) ∙ leaving_are q k (leaving_tokens from to marks q k ts)

  -- a row
  row_is : (q : ℕ) (ts : List Token) → tree.row_text (row_of from to marks q) ts ≡ row_tokens from to marks q ts
  unfolding row_tokens
  row_is q ts = ap (λ (us : List Token). header header_is.State ∷ (int q ∷ us)) (leaving_are q (length from) ts)

  -- the rows below k
  rows_are : (k : ℕ) (ts : List Token) → rows_text (up_to (row_of from to marks) k) ts ≡ joined_tokens (row_tokens from to marks) k ts
  unfolding rows_text joined_tokens
  rows_are zero ts = refl
  rows_are (suc k) ts =
      let before = up_to (row_of from to marks) k in
      rows_append before (row_of from to marks k ∷ []) ts ∙ ap (rows_text before) (row_is k ts) ∙ rows_are k (row_tokens from to marks k ts)

  -- the whole text
  pub doc_is : (n start : ℕ) (c : Acceptance) (needs : List ℕ)
      → doc_text (doc_of n start from to marks c needs) ≡ written_tokens (lent n start from to marks) c needs
  unfolding doc_text items_text item_text conj_text strings_text written_tokens
  doc_is n start c needs =
      let behind = body ∷ rows_text (up_to (row_of from to marks) n) (end ∷ (finish ∷ [])) in
      ap
      (λ (us : List Token).
      header header_is.Hoa ∷ (word word_is.V1 ∷ (header header_is.States ∷ (int n ∷ (header header_is.Start ∷ (int start
      ∷ (header header_is.Ap ∷ (int 0 ∷ (header header_is.Acceptance ∷ (int (used c needs) ∷ us))))))))))
      (cond_tree c needs behind ∙ sym (formula_tree c needs behind)
      ∙ ap (λ (us : List Token). formula_tokens c needs (body ∷ us)) (rows_are n (end ∷ (finish ∷ []))))
