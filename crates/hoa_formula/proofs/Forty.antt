-- 40 never falls early: no condition of section 2 begins with the tokens up to one that is refused with 40 (`forty_never_early`). Section 2 alone needs to
-- know where in an atom the reader stands, and how many brackets are open. Assumes nothing.
use mathlib.Core.Bool.{Bool, true, false, cond, ◌&&◌}
use mathlib.Core.List.{List, [], ◌∷◌, ◌++◌}
use mathlib.Core.Option.{Option, some, none}
use mathlib.Core.Path.{◌≡◌, refl, sym, ap, ◌∙◌}
use Prim.Native.Nat.{ℕ, zero, suc}
use native.Mathlib.Omega.{arith}
use lib.Dec.{eqb, ltb}
use Rattle.hoa_tokens.specs.Token.{Token}
use Rattle.hoa_standard.specs.declared.Piece.{Piece}
use Rattle.hoa_standard.specs.declared.Piece.TheVariants as piece_is
use Rattle.hoa_formula.specs.Cond as section2
use Rattle.hoa_formula.specs.Cond.{Cond, Cconj, Catom, cond_text, cconj_text, catom_text, name_word, perhaps_not}
use Rattle.hoa_standard.specs.Standard.{FormulaMeaning, left, right, both, either}
use Rattle.hoa_standard.specs.Machines.{Wants, Behind, wants_open, wants_inf, wants_fin, wants_truth, behind_close, behind_and, behind_or, some_wants, some_behind}
use Rattle.hoa_standard.specs.Formulas.{FormulaState, go, over, wrong, state, Stage, operand, named, bracket, number, after, piece_of, needs_inf, needs_fin}
use Rattle.hoa_standard.specs.Formulas.{meaning_of}
use Rattle.hoa_standard.specs.Formulas.{closes, on_operand, on_named, on_bracket, on_number, on_after, on_stage, free_step, formula_begin}
use Rattle.hoa_formula.specs.Walking.{free_walk}
use Rattle.hoa_formula.proofs.Rests.{Went, opens, infs, fins, truths, brackets, numbers, shuts, closed, ands, ors, went, walked, go_is}

-- ---- section 2 alone

data Phase : Type 0 where
  wants : Phase
  word : Phase
  inside : Phase
  negated : Phase
  counted : Phase
  behind : Phase

-- where the reader stands, and the open brackets
abbrev Place : Type 0
Place = Phase × ℕ

abbrev wants_on : ℕ → Piece → Option Place
wants_on d piece_is.Left = some (wants, suc d)
wants_on d piece_is.Right = none
wants_on d piece_is.And = none
wants_on d piece_is.Or = none
wants_on d piece_is.Not = none
wants_on d piece_is.Inf = some (word, d)
wants_on d piece_is.Fin = some (word, d)
wants_on d (piece_is.Truth b) = some (behind, d)
wants_on d piece_is.Name = some (word, d)
wants_on d (piece_is.Number k) = none
wants_on d piece_is.Abort = none
wants_on d piece_is.Foreign = none

abbrev word_on : ℕ → Piece → Option Place
word_on d piece_is.Left = some (inside, d)
word_on d piece_is.Right = none
word_on d piece_is.And = none
word_on d piece_is.Or = none
word_on d piece_is.Not = none
word_on d piece_is.Inf = none
word_on d piece_is.Fin = none
word_on d (piece_is.Truth x) = none
word_on d piece_is.Name = none
word_on d (piece_is.Number k) = none
word_on d piece_is.Abort = none
word_on d piece_is.Foreign = none

abbrev inside_on : ℕ → Piece → Option Place
inside_on d piece_is.Left = none
inside_on d piece_is.Right = none
inside_on d piece_is.And = none
inside_on d piece_is.Or = none
inside_on d piece_is.Not = some (negated, d)
inside_on d piece_is.Inf = none
inside_on d piece_is.Fin = none
inside_on d (piece_is.Truth x) = none
inside_on d piece_is.Name = none
inside_on d (piece_is.Number k) = some (counted, d)
inside_on d piece_is.Abort = none
inside_on d piece_is.Foreign = none

abbrev negated_on : ℕ → Piece → Option Place
negated_on d piece_is.Left = none
negated_on d piece_is.Right = none
negated_on d piece_is.And = none
negated_on d piece_is.Or = none
negated_on d piece_is.Not = none
negated_on d piece_is.Inf = none
negated_on d piece_is.Fin = none
negated_on d (piece_is.Truth x) = none
negated_on d piece_is.Name = none
negated_on d (piece_is.Number k) = some (counted, d)
negated_on d piece_is.Abort = none
negated_on d piece_is.Foreign = none

abbrev counted_on : ℕ → Piece → Option Place
counted_on d piece_is.Left = none
counted_on d piece_is.Right = some (behind, d)
counted_on d piece_is.And = none
counted_on d piece_is.Or = none
counted_on d piece_is.Not = none
counted_on d piece_is.Inf = none
counted_on d piece_is.Fin = none
counted_on d (piece_is.Truth x) = none
counted_on d piece_is.Name = none
counted_on d (piece_is.Number k) = none
counted_on d piece_is.Abort = none
counted_on d piece_is.Foreign = none

abbrev close_on : ℕ → Option Place
close_on zero = none
close_on (suc d) = some (behind, d)

abbrev behind_on : ℕ → Piece → Option Place
behind_on d piece_is.Left = none
behind_on d piece_is.Right = close_on d
behind_on d piece_is.And = some (wants, d)
behind_on d piece_is.Or = some (wants, d)
behind_on d piece_is.Not = none
behind_on d piece_is.Inf = none
behind_on d piece_is.Fin = none
behind_on d (piece_is.Truth x) = none
behind_on d piece_is.Name = none
behind_on d (piece_is.Number k) = none
behind_on d piece_is.Abort = none
behind_on d piece_is.Foreign = none

abbrev on_phase : Phase → ℕ → Piece → Option Place
on_phase wants d p = wants_on d p
on_phase word d p = word_on d p
on_phase inside d p = inside_on d p
on_phase negated d p = negated_on d p
on_phase counted d p = counted_on d p
on_phase behind d p = behind_on d p

abbrev next : Option Place → (Place → Option Place) → Option Place
next none f = none
next (some q) f = f q

plain_walk : Phase → ℕ → List Token → Option Place
plain_walk f d [] = some (f, d)
plain_walk f d (t ∷ ts) = next (on_phase f d (piece_of t)) (λ q. plain_walk q.0 q.1 ts)

-- ---- every condition is admitted

name_step : (x : section2.Name) (d : ℕ) (ts : List Token) → plain_walk wants d (Token.word (name_word x) ∷ ts) ≡ plain_walk word d ts
unfolding plain_walk piece_of
name_step section2.v1 d ts = refl
name_step section2.inf d ts = refl
name_step section2.fin d ts = refl
name_step section2.other d ts = refl

mark_step : (b : Bool) (k d : ℕ) (ts : List Token) → plain_walk word d (left (perhaps_not b (Token.int k ∷ right ts))) ≡ plain_walk behind d ts
unfolding plain_walk piece_of
mark_step true k d ts = refl
mark_step false k d ts = refl

mutual
  unfolding cond_text cconj_text catom_text plain_walk piece_of

  cond_walk : (x : Cond) (d : ℕ) (ts : List Token) → plain_walk wants d (cond_text x ts) ≡ plain_walk behind d ts
  cond_walk (Cond.one x) d ts = cconj_walk x d ts
  cond_walk (Cond.more x y) d ts = cconj_walk x d (either (cond_text y ts)) ∙ cond_walk y d ts

  cconj_walk : (x : Cconj) (d : ℕ) (ts : List Token) → plain_walk wants d (cconj_text x ts) ≡ plain_walk behind d ts
  cconj_walk (Cconj.single x) d ts = catom_walk x d ts
  cconj_walk (Cconj.several x y) d ts = catom_walk x d (both (cconj_text y ts)) ∙ cconj_walk y d ts

  catom_walk : (x : Catom) (d : ℕ) (ts : List Token) → plain_walk wants d (catom_text x ts) ≡ plain_walk behind d ts
  catom_walk Catom.truth d ts = refl
  catom_walk Catom.falsity d ts = refl
  catom_walk (Catom.mark n b k) d ts = name_step n d (left (perhaps_not b (Token.int k ∷ right ts))) ∙ mark_step b k d ts
  catom_walk (Catom.brackets x) d ts = cond_walk x (suc d) (right ts)

-- ---- the reader goes where section 2 goes

abbrev phase : Stage → Phase
phase (operand w) = wants
phase (named b) = word
phase (bracket b) = inside
phase (number b) = counted
phase (after b) = behind

went_on : (c n d d' n' : ℕ) (g g' : Stage) (p : Piece) → Went c n d g p d' n' g' → on_phase (phase g) d p ≡ some (phase g', d')
went_on c n d d' n' g g' p (opens a) = refl
went_on c n d d' n' g g' p (infs l a) = refl
went_on c n d d' n' g g' p (fins l a) = refl
went_on c n d d' n' g g' p (truths t a) = refl
went_on c n d d' n' g g' p brackets = refl
went_on c n d d' n' g g' p (numbers k e) = refl
went_on c n d d' n' g g' p shuts = refl
went_on c n d d' n' g g' p (closed a) = refl
went_on c n d d' n' g g' p (ands l a) = refl
went_on c n d d' n' g g' p (ors l a) = refl

walk_on : (c : ℕ) (ts us : List Token) (s f : FormulaState) → free_walk c s ts ≡ go f
    → plain_walk (phase s.stage) s.depth (ts ++ us) ≡ plain_walk (phase f.stage) f.depth us
unfolding free_walk plain_walk
walk_on c [] us s f e = ap (λ (x : FormulaState). plain_walk (phase x.stage) x.depth us) (go_is e)
walk_on c (t ∷ ts) us s f e =
    let x = walked c s t ts f e in
    rw (went_on c s.atoms s.depth x.0.depth x.0.atoms s.stage x.0.stage (piece_of t) (went c s t x.0 x.1))
    (walk_on c ts us x.0 f x.2)

-- ---- what is refused with 40 section 2 does not admit

other_number : {A : Type 0} → wrong 41 ≡ wrong 40 → A
other_number e = absurd (let z : ◌≡◌ {A = ℕ} 41 40 = cc in omega arith)

no_go : {A : Type 0} (s : FormulaState) → go s ≡ wrong 40 → A
no_go s e = absurd (let z : ◌≡◌ {A = ℕ} 0 1 = cc in omega arith)

no_over : {A : Type 0} (m : FormulaMeaning) → over m ≡ wrong 40 → A
no_over m e = absurd (let z : ◌≡◌ {A = ℕ} 0 1 = cc in omega arith)

no_test : {A : Type 0} (t : Bool) (s : FormulaState) → cond t (go s) (wrong 41) ≡ wrong 40 → A
no_test true s e = no_go s e
no_test false s e = other_number e

no_joined : {A : Type 0} (t u : Bool) (s : FormulaState) → cond t (cond u (go s) (wrong 41)) (wrong 41) ≡ wrong 40 → A
no_joined true u s e = no_test u s e
no_joined false u s e = other_number e

no_close : (c d n : ℕ) (ns : List ℕ) (b : Behind) → closes c d n ns b ≡ wrong 40 → close_on d ≡ none
no_close c zero n ns b e = no_over (meaning_of c n ns b) e
no_close c (suc d) n ns b e = no_test (some_behind (behind_close b)) (state d n ns (after (behind_close b))) e

operand_forty : (c d n : ℕ) (ns : List ℕ) (w : Wants) (p : Piece) → on_operand c d n ns w p ≡ wrong 40 → wants_on d p ≡ none
operand_forty c d n ns w piece_is.Left e = no_test (some_wants (wants_open w)) (state (suc d) n ns (operand (wants_open w))) e
operand_forty c d n ns w piece_is.Right e = refl
operand_forty c d n ns w piece_is.And e = refl
operand_forty c d n ns w piece_is.Or e = refl
operand_forty c d n ns w piece_is.Not e = refl
operand_forty c d n ns w piece_is.Inf e = no_test (ltb n c && some_behind (wants_inf w)) (state d (suc n) (needs_inf w.rabin ns) (named (wants_inf w))) e
operand_forty c d n ns w piece_is.Fin e = no_test (ltb n c && some_behind (wants_fin w)) (state d (suc n) (needs_fin w.rabin ns) (named (wants_fin w))) e
operand_forty c d n ns w (piece_is.Truth x) e = no_test (some_behind (wants_truth x w)) (state d n ns (after (wants_truth x w))) e
operand_forty c d n ns w piece_is.Name e = other_number e
operand_forty c d n ns w (piece_is.Number k) e = refl
operand_forty c d n ns w piece_is.Abort e = refl
operand_forty c d n ns w piece_is.Foreign e = refl

named_forty : (d n : ℕ) (ns : List ℕ) (b : Behind) (p : Piece) → on_named d n ns b p ≡ wrong 40 → word_on d p ≡ none
named_forty d n ns b piece_is.Left e = no_go (state d n ns (bracket b)) e
named_forty d n ns b piece_is.Right e = refl
named_forty d n ns b piece_is.And e = refl
named_forty d n ns b piece_is.Or e = refl
named_forty d n ns b piece_is.Not e = refl
named_forty d n ns b piece_is.Inf e = refl
named_forty d n ns b piece_is.Fin e = refl
named_forty d n ns b (piece_is.Truth x) e = refl
named_forty d n ns b piece_is.Name e = refl
named_forty d n ns b (piece_is.Number k) e = refl
named_forty d n ns b piece_is.Abort e = refl
named_forty d n ns b piece_is.Foreign e = refl

bracket_forty : (d n : ℕ) (ns : List ℕ) (b : Behind) (p : Piece) → on_bracket d n ns b p ≡ wrong 40 → inside_on d p ≡ none
bracket_forty d n ns b piece_is.Left e = refl
bracket_forty d n ns b piece_is.Right e = refl
bracket_forty d n ns b piece_is.And e = refl
bracket_forty d n ns b piece_is.Or e = refl
bracket_forty d n ns b piece_is.Not e = other_number e
bracket_forty d n ns b piece_is.Inf e = refl
bracket_forty d n ns b piece_is.Fin e = refl
bracket_forty d n ns b (piece_is.Truth x) e = refl
bracket_forty d n ns b piece_is.Name e = refl
bracket_forty d n ns b (piece_is.Number k) e = no_test (eqb (suc k) n) (state d n ns (number b)) e
bracket_forty d n ns b piece_is.Abort e = refl
bracket_forty d n ns b piece_is.Foreign e = refl

number_forty : (d n : ℕ) (ns : List ℕ) (b : Behind) (p : Piece) → on_number d n ns b p ≡ wrong 40 → counted_on d p ≡ none
number_forty d n ns b piece_is.Left e = refl
number_forty d n ns b piece_is.Right e = no_go (state d n ns (after b)) e
number_forty d n ns b piece_is.And e = refl
number_forty d n ns b piece_is.Or e = refl
number_forty d n ns b piece_is.Not e = refl
number_forty d n ns b piece_is.Inf e = refl
number_forty d n ns b piece_is.Fin e = refl
number_forty d n ns b (piece_is.Truth x) e = refl
number_forty d n ns b piece_is.Name e = refl
number_forty d n ns b (piece_is.Number k) e = refl
number_forty d n ns b piece_is.Abort e = refl
number_forty d n ns b piece_is.Foreign e = refl

after_forty : (c d n : ℕ) (ns : List ℕ) (b : Behind) (p : Piece) → on_after c d n ns b p ≡ wrong 40 → behind_on d p ≡ none
after_forty c d n ns b piece_is.Left e = refl
after_forty c d n ns b piece_is.Right e = no_close c d n ns b e
after_forty c d n ns b piece_is.And e = no_joined (ltb n c) (some_wants (behind_and b)) (state d n ns (operand (behind_and b))) e
after_forty c d n ns b piece_is.Or e = no_joined (ltb n c) (some_wants (behind_or b)) (state d n ns (operand (behind_or b))) e
after_forty c d n ns b piece_is.Not e = refl
after_forty c d n ns b piece_is.Inf e = refl
after_forty c d n ns b piece_is.Fin e = refl
after_forty c d n ns b (piece_is.Truth x) e = refl
after_forty c d n ns b piece_is.Name e = refl
after_forty c d n ns b (piece_is.Number k) e = refl
after_forty c d n ns b piece_is.Abort e = refl
after_forty c d n ns b piece_is.Foreign e = refl

stage_forty : (c d n : ℕ) (ns : List ℕ) (g : Stage) (p : Piece) → on_stage c d n ns g p ≡ wrong 40 → on_phase (phase g) d p ≡ none
stage_forty c d n ns (operand w) p e = operand_forty c d n ns w p e
stage_forty c d n ns (named b) p e = named_forty d n ns b p e
stage_forty c d n ns (bracket b) p e = bracket_forty d n ns b p e
stage_forty c d n ns (number b) p e = number_forty d n ns b p e
stage_forty c d n ns (after b) p e = after_forty c d n ns b p e

-- no condition begins with the tokens up to one that is refused with 40, whatever follows
pub forty_never_early : (c : ℕ) (ts : List Token) (t : Token) (f : FormulaState) → free_walk c (formula_begin c) ts ≡ go f → free_step c f t ≡ wrong 40
    → (x : Cond) (us : List Token)
    → cond_text x [] ≡ ts ++ (t ∷ us)
    → ⊥
unfolding formula_begin free_step plain_walk
forty_never_early c ts t f e q x us k =
    let a = cond_walk x 0 [] in
    let b = walk_on c ts (t ∷ us) (formula_begin c) f e in
    let d : plain_walk (phase f.stage) f.depth (t ∷ us) ≡ none =
    ap (λ (y : Option Place). next y (λ z. plain_walk z.0 z.1 us)) (stage_forty c f.depth f.atoms f.needs f.stage (piece_of t) q) in
    differ (behind, 0) (sym (sym (ap (plain_walk wants 0) k) ∙ a) ∙ b ∙ d)
  where
    differ : (p : Place) → some p ≡ none → ⊥
    differ p e = let z : ◌≡◌ {A = ℕ} 0 1 = cc in omega arith
