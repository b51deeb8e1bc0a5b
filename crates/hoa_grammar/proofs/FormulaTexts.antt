-- Formulas in a header: a standard formula is walked to its end, or passes the limit of pairs (`formula_walk`); tokens that lead to the end of a formula are a
-- standard one (`formula-read`). Assumes nothing.
use mathlib.Core.Bool.{Bool, true, false, false≢true, cond, ◌&&◌, ◌||◌}
use mathlib.Core.List.{List, [], ◌∷◌, ◌++◌}
use mathlib.Core.Path.{◌≡◌, refl, sym, ap, subst, ◌∙◌}
use Prim.Native.Nat.{ℕ, zero, suc, ◌/◌, ◌≤◌, ◌<◌, zero-le}
use native.Mathlib.Omega.{arith}
use borrow.Author.Tests.{leb-true}
use lib.Dec.{leb, ltb}
use lib.ListN.{length}
use Rattle.marks.proofs.Cases.{both_true}
use Rattle.table.specs.declared.Acceptance.{Acceptance}
use Rattle.table.specs.declared.Acceptance.TheVariants as acceptance
use Rattle.hoa_tokens.specs.declared.Word.{Word}
use Rattle.hoa_tokens.specs.declared.Word.TheVariants as word_is
use Rattle.hoa_tokens.specs.Token.{Token}
use Rattle.hoa_formula.specs.Cond.{Cond, cond_text}
use Rattle.hoa_standard.specs.Standard.{
  FormulaMeaning,
  standard,
  short,
  most_pairs,
  no_needs,
  rabin_meaning,
  Infs,
  Infop,
  infs_text,
  infop_text,
  infop_end,
  Pair,
  Phead,
  pair_text,
  phead_text,
  phead_end,
  Rabin,
  Rabop,
  rabin_text,
  rabop_text,
  rabop_end,
  Single,
  Spair,
  single_text,
  spair_text,
  Streett,
  Strop,
  streett_text,
  strop_text,
  strop_end,
  Truth,
  truth_text,
  Std,
  std_text,
  both,
  either,
  left,
  right,
}
use Rattle.hoa_standard.specs.Machines.{RabinWants, RabinBehind, StreettWants, Bare, TruthBehind, Wants, Behind, buchi_done, rabin_done, streett_done, bare_done}
use Rattle.hoa_standard.specs.Formulas as formula
use Rattle.hoa_standard.specs.Formulas.{FormulaState, FormulaStep, Stage, operand, named, bracket, number, after, formula_begin, free_step, formula_step, too_many, limited, opens_pair, on_stage, meaning_of, by_done}
use Rattle.hoa_formula.specs.Walking.{free_walk, and_on, Stands}
use Rattle.hoa_formula.proofs.Admitted as admitted
use Rattle.hoa_formula.proofs.Sound as sounds
use Rattle.hoa_formula.proofs.Accepted.{over_stands, limit_over, limit_go}
use Rattle.hoa_formula.proofs.Conds.{std_cond}
use Rattle.hoa_standard.specs.declared.Piece.TheVariants as piece_is
use Rattle.hoa_value.specs.declared.Head.{Head}
use Rattle.hoa_value.specs.Head.{with_marks}
use Rattle.hoa_value.specs.Heading.{items, in_formula, head_step, on_formula}
use Rattle.hoa_grammar.specs.Subset.{StandardAs, pairs_in}
use Rattle.hoa_grammar.specs.Walk.{walk, walk_by}
use Rattle.hoa_grammar.proofs.Onward.{Onward, same, limit, onward_then, onward_from}
use Rattle.hoa_grammar.proofs.Opens.{Opens, opens_item, opens_body, HeadWalk, same_step}
use Rattle.hoa_grammar.proofs.Leads.{Leads, ends, steps, FormulaSound}
use Rattle.hoa_grammar.proofs.Pairs.{Wherever, InfAtMost, BareInf, BesideWants, BesideStage, OnlyWants, OnlyBehind, NineWants, NineBehind, NineStage, Beside, Nine, Eight, Few, step_beside, step_nine, step_few}

-- ---- what follows a formula's text

mutual
  unfolding infs_text

  infs_more : (x : Infs) (i : ℕ) (ts us : List Token) → infs_text x i (ts ++ us) ≡ infs_text x i ts ++ us
  infs_more (Infs.one x) i ts us = infop_more x i ts us
  infs_more (Infs.more x y) i ts us =
      ap (λ (vs : List Token). infop_text x i (both vs)) (infs_more y (infop_end x i) ts us) ∙ infop_more x i (both (infs_text y (infop_end x i) ts)) us

  infop_more : (x : Infop) (i : ℕ) (ts us : List Token) → infop_text x i (ts ++ us) ≡ infop_text x i ts ++ us
  infop_more Infop.mark i ts us = refl
  infop_more (Infop.brackets x) i ts us = ap left (infs_more x i (right ts) us)

mutual
  unfolding pair_text

  pair_more : (x : Pair) (i : ℕ) (ts us : List Token) → pair_text x i (ts ++ us) ≡ pair_text x i ts ++ us
  pair_more (Pair.alone x) i ts us = phead_more x i ts us
  pair_more (Pair.needing x y) i ts us =
      ap (λ (vs : List Token). phead_text x i (both vs)) (infs_more y (phead_end x i) ts us) ∙ phead_more x i (both (infs_text y (phead_end x i) ts)) us

  phead_more : (x : Phead) (i : ℕ) (ts us : List Token) → phead_text x i (ts ++ us) ≡ phead_text x i ts ++ us
  phead_more Phead.mark i ts us = refl
  phead_more (Phead.brackets x) i ts us = ap left (pair_more x i (right ts) us)

mutual
  unfolding rabin_text

  rabin_more : (x : Rabin) (i : ℕ) (ts us : List Token) → rabin_text x i (ts ++ us) ≡ rabin_text x i ts ++ us
  rabin_more (Rabin.one x) i ts us = rabop_more x i ts us
  rabin_more (Rabin.more x y) i ts us =
      ap (λ (vs : List Token). rabop_text x i (either vs)) (rabin_more y (rabop_end x i) ts us) ∙ rabop_more x i (either (rabin_text y (rabop_end x i) ts)) us

  rabop_more : (x : Rabop) (i : ℕ) (ts us : List Token) → rabop_text x i (ts ++ us) ≡ rabop_text x i ts ++ us
  rabop_more (Rabop.pair x) i ts us = pair_more x i ts us
  rabop_more (Rabop.brackets x) i ts us = ap left (rabin_more x i (right ts) us)

single_more : (x : Single) (w : Word) (i : ℕ) (ts us : List Token) → single_text x w i (ts ++ us) ≡ single_text x w i ts ++ us
unfolding single_text
single_more Single.mark w i ts us = refl
single_more (Single.brackets x) w i ts us = ap left (single_more x w i (right ts) us)

spair_more : (x : Spair) (i : ℕ) (ts us : List Token) → spair_text x i (ts ++ us) ≡ spair_text x i ts ++ us
unfolding spair_text
spair_more x i ts us =
    ap (λ (vs : List Token). single_text x.fin word_is.Fin i (either vs)) (single_more x.inf word_is.Inf (suc i) ts us)
    ∙ single_more x.fin word_is.Fin i (either (single_text x.inf word_is.Inf (suc i) ts)) us

mutual
  unfolding streett_text

  streett_more : (x : Streett) (i : ℕ) (ts us : List Token) → streett_text x i (ts ++ us) ≡ streett_text x i ts ++ us
  streett_more (Streett.one x) i ts us = strop_more x i ts us
  streett_more (Streett.more x y) i ts us =
      ap (λ (vs : List Token). strop_text x i (both vs)) (streett_more y (strop_end x i) ts us) ∙ strop_more x i (both (streett_text y (strop_end x i) ts)) us

  strop_more : (x : Strop) (i : ℕ) (ts us : List Token) → strop_text x i (ts ++ us) ≡ strop_text x i ts ++ us
  strop_more (Strop.pair x) i ts us = ap left (spair_more x i (right ts) us)
  strop_more (Strop.brackets x) i ts us = ap left (streett_more x i (right ts) us)

truth_more : (x : Truth) (ts us : List Token) → truth_text x (ts ++ us) ≡ truth_text x ts ++ us
unfolding truth_text
truth_more Truth.truth ts us = refl
truth_more Truth.falsity ts us = refl
truth_more (Truth.brackets x) ts us = ap left (truth_more x (right ts) us)

-- a formula's text, and then what follows it
std_more : (x : Std) (us : List Token) → std_text x us ≡ std_text x [] ++ us
unfolding std_text
std_more (Std.infs x) us = infs_more x 0 [] us
std_more (Std.rabin x) us = rabin_more x 0 [] us
std_more (Std.streett x) us = streett_more x 0 [] us
std_more (Std.spair x) us = spair_more x 0 [] us
std_more (Std.truth x) us = truth_more x [] us

-- ---- how many pairs a formula has where it is over

abbrev IsStandard : FormulaMeaning → Type 0
IsStandard (standard a ns) = Unit {0}
IsStandard short = ⊥

abbrev pairs_or : ℕ → FormulaMeaning → ℕ
pairs_or n (standard a ns) = pairs_in a
pairs_or n short = n

-- the pairs of what is complete: none, or those of the Rabin machine
by_truth : (n : ℕ) (t : TruthBehind) → pairs_or n (formula.truth_done t) ≤ n
by_truth n TruthBehind.lost = omega arith
by_truth n (TruthBehind.is true zero) = zero-le
by_truth n (TruthBehind.is false zero) = zero-le
by_truth n (TruthBehind.is true (suc d)) = omega arith
by_truth n (TruthBehind.is false (suc d)) = omega arith

by_tests : (x y z : Bool) (c : ℕ) (ns : List ℕ) (t : TruthBehind)
    → pairs_or (length ns)
    (cond x (standard (acceptance.Buchi c) no_needs) (cond y (rabin_meaning ns) (cond z (standard (acceptance.Streett (c / 2)) no_needs) (formula.truth_done t))))
    ≤ length ns
by_tests true y z c ns t = zero-le
by_tests false true z c ns t = omega arith
by_tests false false true c ns t = zero-le
by_tests false false false c ns t = by_truth (length ns) t

over_pairs : (c n : ℕ) (ns : List ℕ) (b : Behind) → pairs_or (length ns) (meaning_of c n ns b) ≤ length ns
unfolding meaning_of
over_pairs c n ns b = by_count (ltb n c)
  where
    by_count : (x : Bool) → pairs_or (length ns) (cond x short (by_done c ns b)) ≤ length ns
    by_count true = omega arith
    by_count false =
        by_tests (buchi_done b.buchi) (rabin_done b.rabin) (streett_done b.streett || bare_done b.bare) c ns b.truth

-- a formula that is over has no more pairs than were counted
stands_pairs : (c : ℕ) (s : FormulaState) (a : Acceptance) (ns : List ℕ) → Stands c s (standard a ns) → pairs_in a ≤ length s.needs
stands_pairs c s a ns h = subst (λ (m : FormulaMeaning). pairs_or (length s.needs) m ≤ length s.needs) h.means (over_pairs c s.atoms s.needs h.behind)

-- where only the Rabin machine goes on, it alone can be complete
done_only : (c : ℕ) (ns : List ℕ) (b : Behind) → OnlyBehind b → by_done c ns b ≡ cond (rabin_done b.rabin) (rabin_meaning ns) short
done_only c ns b o = rw (o.buchi_lost, o.streett_lost, o.bare_lost, o.truth_lost) refl

nine_tests : (r : RabinBehind) (ns : List ℕ) (a : Acceptance) (ms : List ℕ) → NineBehind (length ns) r → cond (rabin_done r) (rabin_meaning ns) short ≡ standard a ms
    → most_pairs < pairs_in a
nine_tests RabinBehind.lost ns a ms h e = absurd (subst IsStandard (sym e) tt)
nine_tests (RabinBehind.pair m p d) ns a ms h e = by (rabin_done (RabinBehind.pair m p d)) e
  where
    by : (x : Bool) → cond x (rabin_meaning ns) short ≡ standard a ms → most_pairs < pairs_in a
    by true e = subst (λ (n : ℕ). most_pairs < n) (ap (pairs_or 0) e) h
    by false e = absurd (subst IsStandard (sym e) tt)
nine_tests (RabinBehind.group m) ns a ms h e = by (rabin_done (RabinBehind.group m)) e
  where
    by : (x : Bool) → cond x (rabin_meaning ns) short ≡ standard a ms → most_pairs < pairs_in a
    by true e = subst (λ (n : ℕ). most_pairs < n) (ap (pairs_or 0) e) h
    by false e = absurd (subst IsStandard (sym e) tt)

nine_stands : (c : ℕ) (s : FormulaState) (a : Acceptance) (ms : List ℕ) → Nine s → Stands c s (standard a ms) → most_pairs < pairs_in a
unfolding meaning_of
nine_stands c s a ms h st =
    let k : OnlyBehind st.behind × NineBehind (length s.needs) st.behind.rabin = subst (NineStage (length s.needs)) st.stage h in
    nine_tests st.behind.rabin s.needs a ms k.1
    (sym (done_only c s.needs st.behind k.0) ∙ all_atoms (ltb s.atoms c) st.means)
  where
    all_atoms : (x : Bool) → cond x short (by_done c s.needs st.behind) ≡ standard a ms → by_done c s.needs st.behind ≡ standard a ms
    all_atoms true e = absurd (subst IsStandard (sym e) tt)
    all_atoms false e = e

-- ---- walks

abbrev go_or : FormulaState → FormulaStep → FormulaState
go_or d (formula.go s) = s
go_or d (formula.over m) = d
go_or d (formula.wrong k) = d

abbrev Goes : FormulaStep → Type 0
Goes (formula.go s) = Unit {0}
Goes (formula.over m) = ⊥
Goes (formula.wrong k) = ⊥

-- what holds wherever a step goes holds of a walk
keeps : (c : ℕ) (P : FormulaState → Type 0) → ((s : FormulaState) (t : Token) → P s → Wherever P (free_step c s t))
    → (ts : List Token) (s f : FormulaState) → P s → free_walk c s ts ≡ formula.go f → P f
unfolding free_walk
keeps c P k [] s f h e = subst P (ap (go_or s) e) h
keeps c P k (t ∷ ts) s f h e = by (free_step c s t) (k s t h) (λ u. keeps c P k ts u f) e
  where
    by : (x : FormulaStep) → Wherever P x → ((u : FormulaState) → P u → free_walk c u ts ≡ formula.go f → P f) → and_on x (λ u. free_walk c u ts) ≡ formula.go f → P f
    by (formula.go u) h more e = more u h e
    by (formula.over m) h more e = absurd (subst Goes (sym e) tt)
    by (formula.wrong n) h more e = absurd (subst Goes (sym e) tt)

-- where a ninth pair opens only the Rabin machine goes on
lost_streett : (n : ℕ) (s : StreettWants) → most_pairs ≤ n → InfAtMost n s → s ≡ StreettWants.lost
lost_streett n StreettWants.lost l h = refl
lost_streett n (StreettWants.fin m u) l h = absurd h
lost_streett n (StreettWants.inf m v) l h = absurd (omega arith)

lost_bare : (n : ℕ) (x : Bare) → most_pairs ≤ n → BareInf n x → x ≡ Bare.lost
lost_bare n Bare.lost l h = refl
lost_bare n (Bare.fin x) l h = absurd h
lost_bare n (Bare.inf x) l h = absurd (omega arith)

opens_nine : (n : ℕ) (w : Wants) (r : RabinWants) → leb most_pairs n && opens_pair r ≡ true → BesideWants n r w → OnlyWants w × NineWants n r
opens_nine n w RabinWants.lost e h = absurd (false≢true (both_true (leb most_pairs n) false e).1)
opens_nine n w (RabinWants.fin m p) e h =
    let l : most_pairs ≤ n = leb-true most_pairs n (both_true (leb most_pairs n) true e).0 in
    let o = h (omega arith) in
    (record { buchi_lost = o.buchi_lost; truth_lost = o.truth_lost; streett_lost = lost_streett n w.streett l o.streett_inf_lem; bare_lost = lost_bare n w.bare l o.bare_inf_lem }, l)
opens_nine n w (RabinWants.inf m p d) e h = absurd (false≢true (both_true (leb most_pairs n) false e).1)

nine_opens : (n : ℕ) (g : Stage) → too_many n g ≡ true → BesideStage n g → NineStage n g
nine_opens n (operand w) e h = opens_nine n w w.rabin e h
nine_opens n (named b) e h = absurd (false≢true e)
nine_opens n (bracket b) e h = absurd (false≢true e)
nine_opens n (number b) e h = absurd (false≢true e)
nine_opens n (after b) e h = absurd (false≢true e)

-- ---- before the first token

begins_beside : (c : ℕ) → Beside (formula_begin c)
unfolding formula_begin
begins_beside c = λ (z : 0 < 0). absurd (omega arith)

begins_eight : (c : ℕ) → Eight (formula_begin c)
unfolding formula_begin
begins_eight c = (zero-le, refl)

-- ---- a formula in a header is walked to its end

-- the token that stands behind a formula
behind_piece : (t : Token) → Opens t → formula.piece_of t ≡ piece_is.Foreign
unfolding formula.piece_of
behind_piece _ (opens_item _ e) = refl
behind_piece _ opens_body = refl

module _ (c : ℕ) (h : Head) where
  -- one token: on, or the limit
  by_limit_of : (many : Bool) (u : FormulaState) (t : Token) (us : List Token) (w : HeadWalk) {L : Type 0} → (many ≡ true → L → ⊥)
      → Onward L (walk head_step us (in_formula c u h)) w
      → Onward L (walk_by (on_formula c h t (cond many (formula.wrong 42) (formula.go u))) us (λ v. walk head_step us v)) w
  by_limit_of true u t us w n o = limit (n refl) us refl
  by_limit_of false u t us w n o = o

  -- the tokens of a formula lead to where it may be over
  formula_tokens_lem : (ts us : List Token) (s f : FormulaState) (a : Acceptance) (ms : List ℕ) → Beside s → free_walk c s ts ≡ formula.go f → Stands c f (standard a ms)
      → Onward (pairs_in a ≤ most_pairs) (walk head_step (ts ++ us) (in_formula c s h)) (walk head_step us (in_formula c f h))
  unfolding free_walk walk head_step formula_step
  formula_tokens_lem [] us s f a ms b e st = same (ap (λ (x : FormulaState). walk head_step us (in_formula c x h)) (ap (go_or s) e))
  formula_tokens_lem (t ∷ ts) us s f a ms b e st = by (free_step c s t) (step_beside c s t b) (λ u k q. formula_tokens_lem ts us u f a ms k q st) e
    where
      by : (x : FormulaStep) → Wherever Beside x
          → ((u : FormulaState) → Beside u → free_walk c u ts ≡ formula.go f → Onward (pairs_in a ≤ most_pairs) (walk head_step (ts ++ us) (in_formula c u h)) (walk head_step us (in_formula c f h)))
          → and_on x (λ u. free_walk c u ts) ≡ formula.go f
          → Onward (pairs_in a ≤ most_pairs) (walk_by (on_formula c h t (limited x)) (ts ++ us) (λ v. walk head_step (ts ++ us) v)) (walk head_step us (in_formula c f h))
      by (formula.go u) k more e =
          by_limit_of (too_many (length u.needs) u.stage) u t (ts ++ us) (walk head_step us (in_formula c f h))
          (λ q l.
          let nine : most_pairs < pairs_in a = nine_stands c f a ms (keeps c Nine (step_nine c) ts u f (nine_opens (length u.needs) u.stage q k) e) st in
          omega arith)
          (more u k e)
      by (formula.over m) k more e = absurd (subst Goes (sym e) tt)
      by (formula.wrong n) k more e = absurd (subst Goes (sym e) tt)

  -- behind the formula the token is looked at as any
  behind_step : (f : FormulaState) (a : Acceptance) (ms : List ℕ) (t : Token) → Opens t → Stands c f (standard a ms)
      → head_step (in_formula c f h) t ≡ head_step (items (with_marks c a ms h)) t
  unfolding head_step formula_step free_step
  behind_step f a ms t o st =
      ap (λ (x : FormulaStep). on_formula c h t (limited x))
      (ap (on_stage c f.depth f.atoms f.needs f.stage) (behind_piece t o)
      ∙ (λ i. on_stage c (st.outside i) f.atoms f.needs (st.stage i) piece_is.Foreign)
      ∙ ap formula.over st.means)

  -- a standard formula in a header leads on, or passes the limit of pairs
  pub formula_walk : (x : Cond) (a : Acceptance) (ms : List ℕ) (t : Token) (rest : List Token) → Opens t → StandardAs (record { marks = c; cond = x }) a ms
      → Onward (pairs_in a ≤ most_pairs) (walk head_step (cond_text x (t ∷ rest)) (in_formula c (formula_begin c) h)) (walk head_step (t ∷ rest) (items (with_marks c a ms h)))
  formula_walk x a ms t rest o m =
      let k = admitted.complete c m.std m.of_marks in
      let st : Stands c k.state (standard a ms) = subst (Stands c k.state) m.means k.stands in
      onward_from
      (ap (λ (ts : List Token). walk head_step ts (in_formula c (formula_begin c) h)) (m.text (t ∷ rest) ∙ std_more m.std (t ∷ rest)))
      (onward_then
      (formula_tokens_lem (std_text m.std []) (t ∷ rest) (formula_begin c) k.state a ms (begins_beside c) k.walk st)
      (same_step (in_formula c k.state h) (items (with_marks c a ms h)) t rest (behind_step k.state a ms t o st)))

-- ---- tokens that lead to the end of a formula are one

-- the tokens before, and where they lead
record Front (c : ℕ) (s : FormulaState) (ts rest : List Token) (m : FormulaMeaning) : Type 0 where
  front : List Token
  split : ts ≡ front ++ rest
  last : FormulaState
  walked : free_walk c s front ≡ formula.go last
  stands : Stands c last m
  few : length last.needs ≤ most_pairs

-- a step that goes within the limit keeps it
eight_step : (c : ℕ) (s u : FormulaState) (t : Token) → Eight s → formula_step c s t ≡ formula.go u → Eight u
unfolding formula_step
eight_step c s u t h e = by (free_step c s t) (step_few c s t h) e
  where
    many : (x : Bool) (v : FormulaState) → too_many (length v.needs) v.stage ≡ x → length v.needs ≤ most_pairs → cond x (formula.wrong 42) (formula.go v) ≡ formula.go u → Eight u
    many true v q k e = absurd (subst Goes (sym e) tt)
    many false v q k e = subst Eight (ap (go_or v) e) (k, q)

    by : (x : FormulaStep) → Wherever Few x → limited x ≡ formula.go u → Eight u
    by (formula.go v) k e = many (too_many (length v.needs) v.stage) v refl k e
    by (formula.over m) k e = absurd (subst Goes (sym e) tt)
    by (formula.wrong n) k e = absurd (subst Goes (sym e) tt)

leads_front : (c : ℕ) (s : FormulaState) (ts rest : List Token) (m : FormulaMeaning) → Eight s → Leads c s ts m rest → Front c s ts rest m
unfolding free_walk
leads_front c s _ _ m h (ends {t = t} q) =
    record { front = []; split = refl; last = s; walked = refl; stands = over_stands c s t m (limit_over c s t m q); few = h.0 }
leads_front c s _ rest m h (steps {u = u} {t = t} {ts = ts} q l) =
    let r = leads_front c u ts rest m (eight_step c s u t h q) l in
    record {
      front = t ∷ r.front;
      split = ap (λ (us : List Token). t ∷ us) r.split;
      last = r.last;
      walked = rw (limit_go c s t u q) r.walked;
      stands = r.stands;
      few = r.few;
    }

pub formula_sound : FormulaSound
formula_sound c ts rest a ms l =
    let r = leads_front c (formula_begin c) ts rest (standard a ms) (begins_eight c) l in
    let x = sounds.sound c r.front r.last r.walked (standard a ms) r.stands (λ e. subst IsStandard e tt) in
    let y = std_cond x.formula in
    record {
      cond = y.0;
      text = r.split ∙ ap (λ (us : List Token). us ++ rest) (sym x.text) ∙ sym (std_more x.formula rest) ∙ sym (y.1 rest);
      means = record { std = x.formula; of_marks = x.standard; text = y.1; means = x.means };
      few = omega (arith, stands_pairs c r.last a ms r.stands, r.few);
    }
