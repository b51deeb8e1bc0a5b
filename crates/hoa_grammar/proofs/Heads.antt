-- The items of a header are walked as they fit: each leads on to what is known behind it, or passes a limit. Assumes nothing.
use mathlib.Core.Bool.{Bool, true, false}
use mathlib.Core.List.{List, [], ◌∷◌}
use mathlib.Core.Option.{Option, some, none}
use mathlib.Core.Path.{◌≡◌, refl, sym, ap}
use Prim.Native.Nat.{ℕ, ◌+◌}
use native.Mathlib.Omega.{arith}
use borrow.Author.Tests.{le-ltb, lt-leb, ltb-true, leb-true, ne_eqb}
use lib.Dec.{ltb, leb}
use lib.ListN.{length}
use Rattle.hoa_tokens.specs.declared.Word.{Word}
use Rattle.hoa_tokens.specs.declared.Header.TheVariants as header_is
use Rattle.hoa_tokens.specs.Token.{Token, body}
use Rattle.job_text.specs.Job.{most_job_states}
use Rattle.hoa_formula.specs.Cond.{cond_text}
use Rattle.hoa_standard.specs.Formulas.{formula_begin}
use Rattle.hoa_step.specs.Machine.{wants_int, wants_text}
use Rattle.hoa_value.specs.declared.Head.{Head}
use Rattle.hoa_value.specs.Head.{most_props, most_marks, with_states, with_start, with_props, with_acc_name, with_tool}
use Rattle.hoa_value.specs.Heading.{items, start_more, names, in_formula, tool_more, hints, piece_of, head_step, on_names, name_came}
use Rattle.hoa_grammar.specs.Doc as doc
use Rattle.hoa_grammar.specs.Doc.{Hint, hint_word, hint_int, Extra, extra_word, extra_int, extra_text, Item, item_text, items_text, hints_text, extras_text, words_text, strings_text, perhaps_text}
use Rattle.hoa_grammar.specs.Subset.{Each, each_none, each_more, Differ, differ_none, differ_more}
use Rattle.hoa_grammar.specs.Walk.{walk}
use Rattle.hoa_grammar.proofs.Opens.{Opens, opens_item, opens_body, same_step}
use Rattle.hoa_grammar.proofs.FormulaTexts.{formula_walk}
use Rattle.hoa_grammar.proofs.Onward.{Onward, same, by_limit, onward_then, onward_more}
use Rattle.hoa_grammar.proofs.Names.{same_ne}
use Rattle.hoa_grammar.proofs.Takes.{Takes, takes_states, takes_start, takes_props, takes_acceptance, takes_acc_name, takes_tool, takes_name, takes_properties, takes_lower, ItemLimit, TakesAll, takes_none, takes_more}

-- ---- where the token behind is looked at

behind_start : (h : Head) (t : Token) → Opens t → head_step (start_more h) t ≡ head_step (items h) t
unfolding head_step piece_of
behind_start h _ (opens_item _ e) = rw e refl
behind_start h _ opens_body = refl

behind_hints : (ints texts : Bool) (h : Head) (t : Token) → Opens t → head_step (hints ints texts h) t ≡ head_step (items h) t
unfolding head_step piece_of
behind_hints ints texts h _ (opens_item _ e) = rw e refl
behind_hints ints texts h _ opens_body = refl

behind_tool : (h : Head) (t : Token) → Opens t → head_step (tool_more h) t ≡ head_step (items h) t
unfolding head_step piece_of
behind_tool h _ (opens_item _ e) = rw e refl
behind_tool h _ opens_body = refl

behind_names_lem : (a : ℕ) (ns : List (List ℕ)) (h : Head) (t : Token) → Opens t → ltb (length ns) a ≡ false
    → head_step (names a ns h) t ≡ head_step (items (with_props a h)) t
unfolding head_step on_names
behind_names_lem a ns h _ (opens_item _ e) l = rw l refl
behind_names_lem a ns h _ opens_body l = rw l refl

-- ---- what is passed over

module _ (h : Head) (t : Token) (rest : List Token) (o : Opens t) where
  pass_hints : (hs : List Hint) → walk head_step (hints_text hs (t ∷ rest)) (hints true false h) ≡ walk head_step (t ∷ rest) (items h)
  unfolding hints_text walk head_step piece_of
  pass_hints [] = same_step (hints true false h) (items h) t rest (behind_hints true false h t o)
  pass_hints (hint_word w ∷ hs) = pass_hints hs
  pass_hints (hint_int i ∷ hs) = pass_hints hs

  pass_extras : (es : List Extra) → walk head_step (extras_text es (t ∷ rest)) (hints true true h) ≡ walk head_step (t ∷ rest) (items h)
  unfolding extras_text walk head_step piece_of
  pass_extras [] = same_step (hints true true h) (items h) t rest (behind_hints true true h t o)
  pass_extras (extra_word w ∷ es) = pass_extras es
  pass_extras (extra_int i ∷ es) = pass_extras es
  pass_extras (extra_text bs ∷ es) = pass_extras es

  pass_words : (ws : List Word) → walk head_step (words_text ws (t ∷ rest)) (hints false false h) ≡ walk head_step (t ∷ rest) (items h)
  unfolding words_text walk head_step piece_of
  pass_words [] = same_step (hints false false h) (items h) t rest (behind_hints false false h t o)
  pass_words (w ∷ ws) = pass_words ws

  pass_tool : (second : Option (List ℕ)) → walk head_step (perhaps_text second (t ∷ rest)) (tool_more h) ≡ walk head_step (t ∷ rest) (items h)
  unfolding walk head_step piece_of
  pass_tool none = same_step (tool_more h) (items h) t rest (behind_tool h t o)
  pass_tool (some bs) = refl

-- ---- names

-- names that are not among those so far
abbrev pub New : List (List ℕ) → List (List ℕ) → Type 0
New seen ns = Each (λ n. name_came n seen ≡ false) ns

-- of names that are new, those that differ from one more are new behind it
still_new : (n : List ℕ) (seen ns : List (List ℕ)) → Each (λ m. n ≡ m → ⊥) ns → New seen ns → New (n ∷ seen) ns
still_new n seen [] each_none each_none = each_none
still_new n seen (m ∷ ns) (each_more d ds) (each_more e es) = each_more {x = m} (rw (same_ne m n (λ q. d (sym q)), e) refl) (still_new n seen ns ds es)

-- behind no name all are new
all_new : (ns : List (List ℕ)) → New [] ns
all_new [] = each_none
all_new (n ∷ ns) = each_more refl (all_new ns)

pass_names : (h : Head) (a : ℕ) (t : Token) (rest : List Token) → Opens t → (seen ns : List (List ℕ)) → New seen ns → Differ ns → length seen + length ns ≡ a
    → walk head_step (strings_text ns (t ∷ rest)) (names a seen h) ≡ walk head_step (t ∷ rest) (items (with_props a h))
unfolding strings_text walk head_step on_names
pass_names h a t rest o seen [] each_none differ_none l =
    same_step (names a seen h) (items (with_props a h)) t rest (behind_names_lem a seen h t o (le-ltb (length seen) a (omega arith)))
pass_names h a t rest o seen (n ∷ ns) (each_more e es) (differ_more d ds) l =
    rw (lt-leb a (length seen) (omega arith), e) (pass_names h a t rest o (n ∷ seen) ns (still_new n seen ns d es) ds (omega arith))

-- ---- items

-- each item leads on as it fits
pub item_walk : (h h' : Head) (i : Item) (t : Token) (rest : List Token) → Opens t → (f : Takes h i h')
    → Onward (ItemLimit f) (walk head_step (item_text i (t ∷ rest)) (items h)) (walk head_step (t ∷ rest) (items h'))
unfolding item_text walk head_step piece_of wants_int wants_text doc.conj_text ItemLimit
item_walk h _ _ t rest o (takes_states n g p a) =
    rw (g, ne_eqb n 0 (λ (e : n ≡ 0). omega arith), a)
    (by_limit (ltb most_job_states n) (items (with_states n h)) (t ∷ rest) _ (λ e l. omega (arith, ltb-true most_job_states n e)))
item_walk h _ _ t rest o (takes_start s g a) =
    rw (g, a)
    (onward_then
    (by_limit (leb most_job_states s) (start_more (with_start s h)) (t ∷ rest) _ (λ e l. omega (arith, leb-true most_job_states s e)))
    (same_step (start_more (with_start s h)) (items (with_start s h)) t rest (behind_start (with_start s h) t o)))
item_walk h _ _ t rest o (takes_props a ns g l d) =
    rw g
    (onward_then
    (by_limit (ltb most_props a) (names a [] h) (strings_text ns (t ∷ rest)) _ (λ e m. omega (arith, ltb-true most_props a e)))
    (pass_names h a t rest o [] ns (all_new ns) d (omega arith)))
item_walk h _ _ t rest o (takes_acceptance c x condition needs g m) =
    rw g
    (onward_more
    (by_limit (ltb most_marks c) (in_formula c (formula_begin c) h) (cond_text x (t ∷ rest)) _ (λ e l. omega (arith, ltb-true most_marks c e)))
    (formula_walk c h x condition needs t rest o m))
item_walk h _ _ t rest o (takes_acc_name w hs g) = rw g (same (pass_hints (with_acc_name h) t rest o hs))
item_walk h _ _ t rest o (takes_tool bs second g) = rw g (same (pass_tool (with_tool h) t rest o second))
item_walk h _ _ t rest o (takes_name bs g) = rw g (same refl)
item_walk h _ _ t rest o (takes_properties ws) = same (pass_words h t rest o ws)
item_walk h _ _ t rest o (takes_lower es) = same (pass_extras h t rest o es)

-- ---- all items

-- the tokens begin with one that may begin an item, or with `--BODY--`
pub record Front (ts : List Token) : Type 0 where
  pub token : Token
  pub rest : List Token
  pub is : ts ≡ token ∷ rest
  pub opens : Opens token

item_front : (i : Item) (ts : List Token) → Front (item_text i ts)
unfolding item_text piece_of
item_front (doc.states n) ts = record { token = _; rest = _; is = refl; opens = opens_item header_is.States refl }
item_front (doc.start c) ts = record { token = _; rest = _; is = refl; opens = opens_item header_is.Start refl }
item_front (doc.props a ns) ts = record { token = _; rest = _; is = refl; opens = opens_item header_is.Ap refl }
item_front (doc.alias l) ts = record { token = _; rest = _; is = refl; opens = opens_item header_is.Alias refl }
item_front (doc.acceptance c x) ts = record { token = _; rest = _; is = refl; opens = opens_item header_is.Acceptance refl }
item_front (doc.acc_name w hs) ts = record { token = _; rest = _; is = refl; opens = opens_item header_is.AccName refl }
item_front (doc.tool bs second) ts = record { token = _; rest = _; is = refl; opens = opens_item header_is.Tool refl }
item_front (doc.name bs) ts = record { token = _; rest = _; is = refl; opens = opens_item header_is.Name refl }
item_front (doc.properties ws) ts = record { token = _; rest = _; is = refl; opens = opens_item header_is.Properties refl }
item_front (doc.capital es) ts = record { token = _; rest = _; is = refl; opens = opens_item header_is.Capital refl }
item_front (doc.lower es) ts = record { token = _; rest = _; is = refl; opens = opens_item header_is.Lower refl }

items_front : (is : List Item) (ts : List Token) → Front (items_text is (body ∷ ts))
unfolding items_text
items_front [] ts = record { token = body; rest = ts; is = refl; opens = opens_body }
items_front (i ∷ is) ts = item_front i (items_text is (body ∷ ts))

-- the limits that the items are held to
unfoldable pub AllLimits : {h h' : Head} {is : List Item} → TakesAll h is h' → Type 0
AllLimits (takes_none e) = Unit {0}
AllLimits (takes_more f fs) = ItemLimit f × AllLimits fs

-- the items lead on as they fit
pub items_walk : (h h' : Head) (is : List Item) (rest : List Token) (fs : TakesAll h is h')
    → Onward (AllLimits fs) (walk head_step (items_text is (body ∷ rest)) (items h)) (walk head_step (body ∷ rest) (items h'))
unfolding items_text AllLimits
items_walk h _ _ rest (takes_none e) = same (ap (λ (x : Head). walk head_step (body ∷ rest) (items x)) e)
items_walk h _ _ rest (takes_more {i = i} {is = is} {h' = h'} {h'' = h''} f fs) =
    let front = items_front is rest in
    onward_more (rw front.is (item_walk h h' i front.token front.rest front.opens f)) (items_walk h' h'' is rest fs)
