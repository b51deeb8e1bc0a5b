-- The admission and the formulas of std(c): where the run over a text's tokens says `standard`, the tokens before are a formula with that meaning
-- (`accepted`); with a beginning of a formula it never refuses, the limit of pairs set aside (`never_early`). Assumes nothing.
use mathlib.Core.Bool.{Bool, true, false, cond, ◌&&◌}
use mathlib.Core.List.{List, [], ◌∷◌, ◌++◌}
use mathlib.Core.Path.{◌≡◌, refl, sym, ap, ◌∙◌}
use Prim.Native.Nat.{ℕ, zero, suc}
use native.Mathlib.Omega.{arith}
use lib.Dec.{eqb, ltb}
use lib.ListN.{length}
use Rattle.table.specs.declared.Acceptance.{Acceptance}
use Rattle.hoa_tokens.specs.Token.{Token}
use Rattle.hoa_tokens.specs.Stream.{Placed}
use Rattle.hoa_standard.specs.declared.Piece.{Piece}
use Rattle.hoa_standard.specs.declared.Piece.TheVariants as piece_is
use Rattle.hoa_standard.specs.Standard.{FormulaMeaning, standard}
use Rattle.hoa_standard.specs.Machines.{Wants, Behind, wants_open, wants_inf, wants_fin, wants_truth, behind_close, behind_and, behind_or, some_wants, some_behind}
use Rattle.hoa_standard.specs.Formulas.{FormulaState, FormulaStep, go, over, wrong, over_at, state, Stage, operand, named, bracket, number, after}
use Rattle.hoa_standard.specs.Formulas.{piece_of, needs_inf, needs_fin, meaning_of}
use Rattle.hoa_standard.specs.Formulas.{ends, closes, on_operand, on_named, on_bracket, on_number, on_after, on_stage, free_step, too_many, limited}
use Rattle.hoa_standard.specs.Formulas.{formula_step, formula_begin, onward, formula_run}
use Rattle.hoa_formula.specs.Walking.{and_on, free_walk, Stands, Begins}
use Rattle.hoa_formula.proofs.Admitted.{complete}
use Rattle.hoa_formula.proofs.Sound.{IsFormula, sound}

-- ---- where the formula may be over

no_wrong : {A : Type 0} (k : ℕ) (m : FormulaMeaning) → wrong k ≡ over m → A
no_wrong k m e = absurd (let z : ◌≡◌ {A = ℕ} 0 1 = cc in omega arith)

no_go : {A : Type 0} (s : FormulaState) (m : FormulaMeaning) → go s ≡ over m → A
no_go s m e = absurd (let z : ◌≡◌ {A = ℕ} 0 1 = cc in omega arith)

no_test : {A : Type 0} (t : Bool) (s : FormulaState) (m : FormulaMeaning) → cond t (go s) (wrong 41) ≡ over m → A
no_test true s m e = no_go s m e
no_test false s m e = no_wrong 41 m e

no_joined : {A : Type 0} (t u : Bool) (s : FormulaState) (m : FormulaMeaning) → cond t (cond u (go s) (wrong 41)) (wrong 41) ≡ over m → A
no_joined true u s m e = no_test u s m e
no_joined false u s m e = no_wrong 41 m e

module _ (c : ℕ) where
  ends_stand : (d n : ℕ) (ns : List ℕ) (b : Behind) (k : ℕ) (m : FormulaMeaning) → ends d (meaning_of c n ns b) k ≡ over m → Stands c (state d n ns (after b)) m
  ends_stand zero n ns b k m e = record { behind = b; stage = refl; outside = refl; means = cc }
  ends_stand (suc d) n ns b k m e = no_wrong k m e

  closes_stand : (d n : ℕ) (ns : List ℕ) (b : Behind) (m : FormulaMeaning) → closes c d n ns b ≡ over m → Stands c (state d n ns (after b)) m
  closes_stand zero n ns b m e = record { behind = b; stage = refl; outside = refl; means = cc }
  closes_stand (suc d) n ns b m e = no_test (some_behind (behind_close b)) (state d n ns (after (behind_close b))) m e

  operand_over : (d n : ℕ) (ns : List ℕ) (w : Wants) (p : Piece) (m : FormulaMeaning) → on_operand c d n ns w p ≡ over m → Stands c (state d n ns (operand w)) m
  operand_over d n ns w piece_is.Left m e = no_test (some_wants (wants_open w)) (state (suc d) n ns (operand (wants_open w))) m e
  operand_over d n ns w piece_is.Right m e = no_wrong 40 m e
  operand_over d n ns w piece_is.And m e = no_wrong 40 m e
  operand_over d n ns w piece_is.Or m e = no_wrong 40 m e
  operand_over d n ns w piece_is.Not m e = no_wrong 40 m e
  operand_over d n ns w piece_is.Inf m e = no_test (ltb n c && some_behind (wants_inf w)) (state d (suc n) (needs_inf w.rabin ns) (named (wants_inf w))) m e
  operand_over d n ns w piece_is.Fin m e = no_test (ltb n c && some_behind (wants_fin w)) (state d (suc n) (needs_fin w.rabin ns) (named (wants_fin w))) m e
  operand_over d n ns w (piece_is.Truth x) m e = no_test (some_behind (wants_truth x w)) (state d n ns (after (wants_truth x w))) m e
  operand_over d n ns w piece_is.Name m e = no_wrong 41 m e
  operand_over d n ns w (piece_is.Number k) m e = no_wrong 40 m e
  operand_over d n ns w piece_is.Abort m e = no_wrong 41 m e
  operand_over d n ns w piece_is.Foreign m e = no_wrong 40 m e

  named_over : (d n : ℕ) (ns : List ℕ) (b : Behind) (p : Piece) (m : FormulaMeaning) → on_named d n ns b p ≡ over m → Stands c (state d n ns (named b)) m
  named_over d n ns b piece_is.Left m e = no_go (state d n ns (bracket b)) m e
  named_over d n ns b piece_is.Right m e = no_wrong 40 m e
  named_over d n ns b piece_is.And m e = no_wrong 40 m e
  named_over d n ns b piece_is.Or m e = no_wrong 40 m e
  named_over d n ns b piece_is.Not m e = no_wrong 40 m e
  named_over d n ns b piece_is.Inf m e = no_wrong 40 m e
  named_over d n ns b piece_is.Fin m e = no_wrong 40 m e
  named_over d n ns b (piece_is.Truth x) m e = no_wrong 40 m e
  named_over d n ns b piece_is.Name m e = no_wrong 40 m e
  named_over d n ns b (piece_is.Number k) m e = no_wrong 40 m e
  named_over d n ns b piece_is.Abort m e = no_wrong 41 m e
  named_over d n ns b piece_is.Foreign m e = no_wrong 40 m e

  bracket_over : (d n : ℕ) (ns : List ℕ) (b : Behind) (p : Piece) (m : FormulaMeaning) → on_bracket d n ns b p ≡ over m → Stands c (state d n ns (bracket b)) m
  bracket_over d n ns b piece_is.Left m e = no_wrong 40 m e
  bracket_over d n ns b piece_is.Right m e = no_wrong 40 m e
  bracket_over d n ns b piece_is.And m e = no_wrong 40 m e
  bracket_over d n ns b piece_is.Or m e = no_wrong 40 m e
  bracket_over d n ns b piece_is.Not m e = no_wrong 41 m e
  bracket_over d n ns b piece_is.Inf m e = no_wrong 40 m e
  bracket_over d n ns b piece_is.Fin m e = no_wrong 40 m e
  bracket_over d n ns b (piece_is.Truth x) m e = no_wrong 40 m e
  bracket_over d n ns b piece_is.Name m e = no_wrong 40 m e
  bracket_over d n ns b (piece_is.Number k) m e = no_test (eqb (suc k) n) (state d n ns (number b)) m e
  bracket_over d n ns b piece_is.Abort m e = no_wrong 41 m e
  bracket_over d n ns b piece_is.Foreign m e = no_wrong 40 m e

  number_over : (d n : ℕ) (ns : List ℕ) (b : Behind) (p : Piece) (m : FormulaMeaning) → on_number d n ns b p ≡ over m → Stands c (state d n ns (number b)) m
  number_over d n ns b piece_is.Left m e = no_wrong 40 m e
  number_over d n ns b piece_is.Right m e = no_go (state d n ns (after b)) m e
  number_over d n ns b piece_is.And m e = no_wrong 40 m e
  number_over d n ns b piece_is.Or m e = no_wrong 40 m e
  number_over d n ns b piece_is.Not m e = no_wrong 40 m e
  number_over d n ns b piece_is.Inf m e = no_wrong 40 m e
  number_over d n ns b piece_is.Fin m e = no_wrong 40 m e
  number_over d n ns b (piece_is.Truth x) m e = no_wrong 40 m e
  number_over d n ns b piece_is.Name m e = no_wrong 40 m e
  number_over d n ns b (piece_is.Number k) m e = no_wrong 40 m e
  number_over d n ns b piece_is.Abort m e = no_wrong 41 m e
  number_over d n ns b piece_is.Foreign m e = no_wrong 40 m e

  after_over : (d n : ℕ) (ns : List ℕ) (b : Behind) (p : Piece) (m : FormulaMeaning) → on_after c d n ns b p ≡ over m → Stands c (state d n ns (after b)) m
  after_over d n ns b piece_is.Left m e = ends_stand d n ns b 40 m e
  after_over d n ns b piece_is.Right m e = closes_stand d n ns b m e
  after_over d n ns b piece_is.And m e = no_joined (ltb n c) (some_wants (behind_and b)) (state d n ns (operand (behind_and b))) m e
  after_over d n ns b piece_is.Or m e = no_joined (ltb n c) (some_wants (behind_or b)) (state d n ns (operand (behind_or b))) m e
  after_over d n ns b piece_is.Not m e = ends_stand d n ns b 40 m e
  after_over d n ns b piece_is.Inf m e = ends_stand d n ns b 40 m e
  after_over d n ns b piece_is.Fin m e = ends_stand d n ns b 40 m e
  after_over d n ns b (piece_is.Truth x) m e = ends_stand d n ns b 40 m e
  after_over d n ns b piece_is.Name m e = ends_stand d n ns b 40 m e
  after_over d n ns b (piece_is.Number k) m e = ends_stand d n ns b 40 m e
  after_over d n ns b piece_is.Abort m e = ends_stand d n ns b 41 m e
  after_over d n ns b piece_is.Foreign m e = ends_stand d n ns b 40 m e

  stage_over : (d n : ℕ) (ns : List ℕ) (g : Stage) (p : Piece) (m : FormulaMeaning) → on_stage c d n ns g p ≡ over m → Stands c (state d n ns g) m
  stage_over d n ns (operand w) p m e = operand_over d n ns w p m e
  stage_over d n ns (named b) p m e = named_over d n ns b p m e
  stage_over d n ns (bracket b) p m e = bracket_over d n ns b p m e
  stage_over d n ns (number b) p m e = number_over d n ns b p m e
  stage_over d n ns (after b) p m e = after_over d n ns b p m e

  -- a formula is over only where it may be
  pub over_stands : (s : FormulaState) (t : Token) (m : FormulaMeaning) → free_step c s t ≡ over m → Stands c s m
  unfolding free_step
  over_stands s t m e = stage_over s.depth s.atoms s.needs s.stage (piece_of t) m e

  -- ---- the limit only refuses

  pub limit_over : (s : FormulaState) (t : Token) (m : FormulaMeaning) → formula_step c s t ≡ over m → free_step c s t ≡ over m
  unfolding formula_step
  limit_over s t m e = by (free_step c s t) e
    where
      many : (u : Bool) (x : FormulaState) → cond u (wrong 42) (go x) ≡ over m → go x ≡ over m
      many true x e = no_wrong 42 m e
      many false x e = e

      by : (x : FormulaStep) → limited x ≡ over m → x ≡ over m
      by (go x) e = many (too_many (length x.needs) x.stage) x e
      by (over y) e = e
      by (wrong k) e = no_wrong k m e

  pub limit_go : (s : FormulaState) (t : Token) (s' : FormulaState) → formula_step c s t ≡ go s' → free_step c s t ≡ go s'
  unfolding formula_step
  limit_go s t s' e = by (free_step c s t) e
    where
      many : (u : Bool) (x : FormulaState) → cond u (wrong 42) (go x) ≡ go s' → go x ≡ go s'
      many true x e = absurd (let z : ◌≡◌ {A = ℕ} 0 1 = cc in omega arith)
      many false x e = e

      by : (x : FormulaStep) → limited x ≡ go s' → x ≡ go s'
      by (go x) e = many (too_many (length x.needs) x.stage) x e
      by (over y) e = e
      by (wrong k) e = e

  -- ---- the run over a text's tokens

  abbrev tokens : List Placed → List Token
  tokens [] = []
  tokens (p ∷ ps) = p.token ∷ tokens ps

  -- the tokens before, and where they lead
  pub record Over (s : FormulaState) (ps qs : List Placed) (m : FormulaMeaning) : Type 0 where
    pub front : List Placed
    pub split : ps ≡ front ++ qs
    pub state : FormulaState
    pub walk : free_walk c s (tokens front) ≡ go state
    pub stands : Stands c state m

  pub run_over : (ps : List Placed) (s : FormulaState) (m : FormulaMeaning) (qs : List Placed) → formula_run c s ps ≡ over_at m qs → Over s ps qs m
  unfolding formula_run free_walk
  run_over [] s m qs e = absurd (let z : ◌≡◌ {A = ℕ} 0 1 = cc in omega arith)
  run_over (p ∷ ps) s m qs e = by (λ s'. run_over ps s' m qs) (formula_step c s p.token) refl e
    where
      by : ((s' : FormulaState) → formula_run c s' ps ≡ over_at m qs → Over s' ps qs m) → (x : FormulaStep) → formula_step c s p.token ≡ x
          → onward x (λ s'. formula_run c s' ps) p ps ≡ over_at m qs
          → Over s (p ∷ ps) qs m
      by further (go s') q e =
          let r = further s' e in
          record {
            front = p ∷ r.front;
            split = ap (λ (xs : List Placed). p ∷ xs) r.split;
            state = r.state;
            walk = rw (limit_go s p.token s' q) r.walk;
            stands = r.stands;
          }
      by further (over y) q e =
          let z : y ≡ m = cc in
          record { front = []; split = cc; state = s; walk = refl; stands = over_stands s p.token m (limit_over s p.token m (q ∙ ap over z)) }
      by further (wrong k) q e = absurd (let z : ◌≡◌ {A = ℕ} 0 1 = cc in omega arith)

  -- where the run says `standard`, the tokens before are a formula with that meaning
  pub accepted : (ps qs : List Placed) (a : Acceptance) (ns : List ℕ) → formula_run c (formula_begin c) ps ≡ over_at (standard a ns) qs
      → (front : List Placed) × (ps ≡ front ++ qs) × IsFormula c (tokens front) (standard a ns)
  accepted ps qs a ns e =
      let r = run_over ps (formula_begin c) (standard a ns) qs e in
      (r.front, r.split, sound c (tokens r.front) r.state r.walk (standard a ns) r.stands (λ x. absurd (let z : ◌≡◌ {A = ℕ} 0 1 = cc in omega arith)))

  -- ---- never early

  walk_begins : (ts us : List Token) (s f : FormulaState) → free_walk c s (ts ++ us) ≡ go f → (s' : FormulaState) × (free_walk c s ts ≡ go s')
  unfolding free_walk
  walk_begins [] us s f e = (s, refl)
  walk_begins (t ∷ ts) us s f e = by (λ s'. walk_begins ts us s' f) (free_step c s t) e
    where
      by : ((s' : FormulaState) → free_walk c s' (ts ++ us) ≡ go f → (x : FormulaState) × (free_walk c s' ts ≡ go x))
          → (x : FormulaStep) → and_on x (λ s'. free_walk c s' (ts ++ us)) ≡ go f → (s' : FormulaState) × (and_on x (λ s'. free_walk c s' ts) ≡ go s')
      by further (go s') e = further s' e
      by further (over m) e = absurd (let z : ◌≡◌ {A = ℕ} 0 1 = cc in omega arith)
      by further (wrong k) e = absurd (let z : ◌≡◌ {A = ℕ} 0 1 = cc in omega arith)

  -- with the beginning of a formula every token is admitted: neither 40 nor 41 falls early
  pub never_early : (ts : List Token) → Begins c ts → (s : FormulaState) × (free_walk c (formula_begin c) ts ≡ go s)
  never_early ts b =
      let a = complete c b.formula b.standard in
      walk_begins ts b.rest (formula_begin c) a.state (ap (free_walk c (formula_begin c)) (sym b.text) ∙ a.walk)
