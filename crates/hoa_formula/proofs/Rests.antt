-- What is admitted is the beginning of a formula (`Rest`): each admitted token puts a piece in front of what is left. One induction over the tokens
-- (`rest`), for any machine that says what each of its states still wants. Assumes nothing.
use mathlib.Core.Bool.{Bool, true, false, cond, ◌&&◌}
use mathlib.Core.List.{List, [], ◌∷◌, ◌++◌}
use mathlib.Core.Path.{◌≡◌, refl, sym, subst}
use Prim.Native.Nat.{ℕ, zero, suc, ◌<◌}
use native.Mathlib.Omega.{arith}
use lib.Dec.{eqb, ltb}
use borrow.Author.Tests.{ltb-true, eqb-true}
use Rattle.marks.proofs.Cases.{both_true}
use Rattle.hoa_tokens.specs.declared.Word.{Word}
use Rattle.hoa_tokens.specs.declared.Word.TheVariants as word_is
use Rattle.hoa_tokens.specs.declared.Sign.TheVariants as sign_is
use Rattle.hoa_tokens.specs.Token.{Token, int, word, header, str, aname, sign, body, end, abort, finish, bad}
use Rattle.hoa_standard.specs.declared.Piece.{Piece}
use Rattle.hoa_standard.specs.declared.Piece.TheVariants as piece_is
use Rattle.hoa_standard.specs.Standard.{left, right, both, either, atom, FormulaMeaning}
use Rattle.hoa_standard.specs.Machines.{Wants, Behind, wants_open, wants_inf, wants_fin, wants_truth, behind_close, behind_and, behind_or, some_wants, some_behind}
use Rattle.hoa_standard.specs.Formulas.{FormulaState, FormulaStep, go, over, wrong, state, Stage, operand, named, bracket, number, after, piece_of, needs_inf, needs_fin}
use Rattle.hoa_standard.specs.Formulas.{meaning_of}
use Rattle.hoa_standard.specs.Formulas.{go_wants, go_named, go_after, ends, closes, on_operand, on_named, on_bracket, on_number, on_after, on_stage, free_step}
use Rattle.hoa_formula.specs.Walking.{and_on, free_walk}

-- ---- which token it was

abbrev pub truth_word : Bool → Word
truth_word true = word_is.True
truth_word false = word_is.False

abbrev pub Exact : Piece → Token → Type 0
Exact piece_is.Left t = t ≡ sign sign_is.ParenLeft
Exact piece_is.Right t = t ≡ sign sign_is.ParenRight
Exact piece_is.And t = t ≡ sign sign_is.And
Exact piece_is.Or t = t ≡ sign sign_is.Or
Exact piece_is.Not t = t ≡ sign sign_is.Not
Exact piece_is.Inf t = t ≡ word word_is.Inf
Exact piece_is.Fin t = t ≡ word word_is.Fin
Exact (piece_is.Truth b) t = t ≡ word (truth_word b)
Exact piece_is.Name t = Unit
Exact (piece_is.Number k) t = t ≡ int k
Exact piece_is.Abort t = t ≡ abort
Exact piece_is.Foreign t = Unit

pub exact : (t : Token) → Exact (piece_of t) t
unfolding piece_of
exact (int k) = refl
exact (word word_is.True) = refl
exact (word word_is.False) = refl
exact (word word_is.V1) = tt
exact (word word_is.Inf) = refl
exact (word word_is.Fin) = refl
exact (word word_is.Other) = tt
exact (header h) = tt
exact (str bs) = tt
exact aname = tt
exact (sign sign_is.ParenLeft) = refl
exact (sign sign_is.ParenRight) = refl
exact (sign sign_is.BracketLeft) = tt
exact (sign sign_is.BracketRight) = tt
exact (sign sign_is.BraceLeft) = tt
exact (sign sign_is.BraceRight) = tt
exact (sign sign_is.And) = refl
exact (sign sign_is.Or) = refl
exact (sign sign_is.Not) = refl
exact body = tt
exact end = tt
exact abort = refl
exact finish = tt
exact bad = tt

-- ---- where a token leads

-- from (depth, atoms, stage) by a token to (depth, atoms, stage)
pub data Went (c n : ℕ) : ℕ → Stage → Piece → ℕ → ℕ → Stage → Type 0 where
  opens : {d : ℕ} {w : Wants} → some_wants (wants_open w) ≡ true → Went c n d (operand w) piece_is.Left (suc d) n (operand (wants_open w))
  infs : {d : ℕ} {w : Wants} → n < c → some_behind (wants_inf w) ≡ true → Went c n d (operand w) piece_is.Inf d (suc n) (named (wants_inf w))
  fins : {d : ℕ} {w : Wants} → n < c → some_behind (wants_fin w) ≡ true → Went c n d (operand w) piece_is.Fin d (suc n) (named (wants_fin w))
  truths : {d : ℕ} {w : Wants} (t : Bool) → some_behind (wants_truth t w) ≡ true → Went c n d (operand w) (piece_is.Truth t) d n (after (wants_truth t w))
  brackets : {d : ℕ} {b : Behind} → Went c n d (named b) piece_is.Left d n (bracket b)
  numbers : {d : ℕ} {b : Behind} (k : ℕ) → suc k ≡ n → Went c n d (bracket b) (piece_is.Number k) d n (number b)
  shuts : {d : ℕ} {b : Behind} → Went c n d (number b) piece_is.Right d n (after b)
  closed : {d : ℕ} {b : Behind} → some_behind (behind_close b) ≡ true → Went c n (suc d) (after b) piece_is.Right d n (after (behind_close b))
  ands : {d : ℕ} {b : Behind} → n < c → some_wants (behind_and b) ≡ true → Went c n d (after b) piece_is.And d n (operand (behind_and b))
  ors : {d : ℕ} {b : Behind} → n < c → some_wants (behind_or b) ≡ true → Went c n d (after b) piece_is.Or d n (operand (behind_or b))

abbrev To : ℕ → ℕ → ℕ → Stage → Piece → FormulaState → Type 0
To c n d g p s = Went c n d g p s.depth s.atoms s.stage

not_wrong : {A : Type 0} (k : ℕ) (s : FormulaState) → wrong k ≡ go s → A
not_wrong k s e = absurd (let z : ◌≡◌ {A = ℕ} 0 1 = cc in omega arith)

not_over : {A : Type 0} (m : FormulaMeaning) (s : FormulaState) → over m ≡ go s → A
not_over m s e = absurd (let z : ◌≡◌ {A = ℕ} 0 1 = cc in omega arith)

not_ends : {A : Type 0} (d : ℕ) (m : FormulaMeaning) (k : ℕ) (s : FormulaState) → ends d m k ≡ go s → A
not_ends zero m k s e = not_over m s e
not_ends (suc d) m k s e = not_wrong k s e

pub go_is : {x s : FormulaState} → go x ≡ go s → x ≡ s
go_is e = cc

tested : (t : Bool) (x s : FormulaState) → cond t (go x) (wrong 41) ≡ go s → (t ≡ true) × (x ≡ s)
tested true x s e = (refl, go_is e)
tested false x s e = not_wrong 41 s e

wants_went : (c n d d' : ℕ) (ns : List ℕ) (g : Stage) (p : Piece) (w : Wants) (s : FormulaState) → (some_wants w ≡ true → Went c n d g p d' n (operand w))
    → go_wants d' n ns w ≡ go s
    → To c n d g p s
wants_went c n d d' ns g p w s h e =
    let t = tested (some_wants w) (state d' n ns (operand w)) s e in
    subst (λ (x : FormulaState). To c n d g p x) t.1 (h t.0)

after_went : (c n d d' : ℕ) (ns : List ℕ) (g : Stage) (p : Piece) (b : Behind) (s : FormulaState) → (some_behind b ≡ true → Went c n d g p d' n (after b))
    → go_after d' n ns b ≡ go s
    → To c n d g p s
after_went c n d d' ns g p b s h e =
    let t = tested (some_behind b) (state d' n ns (after b)) s e in
    subst (λ (x : FormulaState). To c n d g p x) t.1 (h t.0)

named_went : (c n d : ℕ) (ns : List ℕ) (g : Stage) (p : Piece) (b : Behind) (s : FormulaState) → (n < c → some_behind b ≡ true → Went c n d g p d (suc n) (named b))
    → go_named c d n ns b ≡ go s
    → To c n d g p s
named_went c n d ns g p b s h e =
    let t = tested (ltb n c && some_behind b) (state d (suc n) ns (named b)) s e in
    subst (λ (x : FormulaState). To c n d g p x) t.1
    (h (ltb-true n c (both_true (ltb n c) (some_behind b) t.0).0) (both_true (ltb n c) (some_behind b) t.0).1)

joined_went : (c n d : ℕ) (ns : List ℕ) (g : Stage) (p : Piece) (w : Wants) (t : Bool) (s : FormulaState) → ltb n c ≡ t
    → (n < c → some_wants w ≡ true → Went c n d g p d n (operand w))
    → cond t (go_wants d n ns w) (wrong 41) ≡ go s
    → To c n d g p s
joined_went c n d ns g p w true s q h e = wants_went c n d d ns g p w s (h (ltb-true n c q)) e
joined_went c n d ns g p w false s q h e = not_wrong 41 s e

number_went : (c n d k : ℕ) (ns : List ℕ) (b : Behind) (s : FormulaState)
    → cond (eqb (suc k) n) (go (state d n ns (number b))) (wrong 41) ≡ go s → To c n d (bracket b) (piece_is.Number k) s
number_went c n d k ns b s e =
    let t = tested (eqb (suc k) n) (state d n ns (number b)) s e in
    let h : Went c n d (bracket b) (piece_is.Number k) d n (number b) = numbers k (eqb-true (suc k) n t.0) in
    subst (λ (x : FormulaState). To c n d (bracket b) (piece_is.Number k) x) t.1 h

closes_went : (c d n : ℕ) (ns : List ℕ) (b : Behind) (s : FormulaState) → closes c d n ns b ≡ go s → To c n d (after b) piece_is.Right s
closes_went c zero n ns b s e = not_over (meaning_of c n ns b) s e
closes_went c (suc d) n ns b s e = after_went c n (suc d) d ns (after b) piece_is.Right (behind_close b) s (λ a. closed a) e

operand_went : (c d n : ℕ) (ns : List ℕ) (w : Wants) (p : Piece) (s : FormulaState) → on_operand c d n ns w p ≡ go s → To c n d (operand w) p s
operand_went c d n ns w piece_is.Left s e = wants_went c n d (suc d) ns (operand w) piece_is.Left (wants_open w) s (λ a. opens a) e
operand_went c d n ns w piece_is.Right s e = not_wrong 40 s e
operand_went c d n ns w piece_is.And s e = not_wrong 40 s e
operand_went c d n ns w piece_is.Or s e = not_wrong 40 s e
operand_went c d n ns w piece_is.Not s e = not_wrong 40 s e
operand_went c d n ns w piece_is.Inf s e = named_went c n d (needs_inf w.rabin ns) (operand w) piece_is.Inf (wants_inf w) s (λ l a. infs l a) e
operand_went c d n ns w piece_is.Fin s e = named_went c n d (needs_fin w.rabin ns) (operand w) piece_is.Fin (wants_fin w) s (λ l a. fins l a) e
operand_went c d n ns w (piece_is.Truth x) s e = after_went c n d d ns (operand w) (piece_is.Truth x) (wants_truth x w) s (λ a. truths x a) e
operand_went c d n ns w piece_is.Name s e = not_wrong 41 s e
operand_went c d n ns w (piece_is.Number k) s e = not_wrong 40 s e
operand_went c d n ns w piece_is.Abort s e = not_wrong 41 s e
operand_went c d n ns w piece_is.Foreign s e = not_wrong 40 s e

named_goes : (c d n : ℕ) (ns : List ℕ) (b : Behind) (p : Piece) (s : FormulaState) → on_named d n ns b p ≡ go s → To c n d (named b) p s
named_goes c d n ns b piece_is.Left s e = subst (λ (x : FormulaState). To c n d (named b) piece_is.Left x) (go_is {x = state d n ns (bracket b)} e) brackets
named_goes c d n ns b piece_is.Right s e = not_wrong 40 s e
named_goes c d n ns b piece_is.And s e = not_wrong 40 s e
named_goes c d n ns b piece_is.Or s e = not_wrong 40 s e
named_goes c d n ns b piece_is.Not s e = not_wrong 40 s e
named_goes c d n ns b piece_is.Inf s e = not_wrong 40 s e
named_goes c d n ns b piece_is.Fin s e = not_wrong 40 s e
named_goes c d n ns b (piece_is.Truth x) s e = not_wrong 40 s e
named_goes c d n ns b piece_is.Name s e = not_wrong 40 s e
named_goes c d n ns b (piece_is.Number k) s e = not_wrong 40 s e
named_goes c d n ns b piece_is.Abort s e = not_wrong 41 s e
named_goes c d n ns b piece_is.Foreign s e = not_wrong 40 s e

bracket_went : (c d n : ℕ) (ns : List ℕ) (b : Behind) (p : Piece) (s : FormulaState) → on_bracket d n ns b p ≡ go s → To c n d (bracket b) p s
bracket_went c d n ns b piece_is.Left s e = not_wrong 40 s e
bracket_went c d n ns b piece_is.Right s e = not_wrong 40 s e
bracket_went c d n ns b piece_is.And s e = not_wrong 40 s e
bracket_went c d n ns b piece_is.Or s e = not_wrong 40 s e
bracket_went c d n ns b piece_is.Not s e = not_wrong 41 s e
bracket_went c d n ns b piece_is.Inf s e = not_wrong 40 s e
bracket_went c d n ns b piece_is.Fin s e = not_wrong 40 s e
bracket_went c d n ns b (piece_is.Truth x) s e = not_wrong 40 s e
bracket_went c d n ns b piece_is.Name s e = not_wrong 40 s e
bracket_went c d n ns b (piece_is.Number k) s e = number_went c n d k ns b s e
bracket_went c d n ns b piece_is.Abort s e = not_wrong 41 s e
bracket_went c d n ns b piece_is.Foreign s e = not_wrong 40 s e

number_goes : (c d n : ℕ) (ns : List ℕ) (b : Behind) (p : Piece) (s : FormulaState) → on_number d n ns b p ≡ go s → To c n d (number b) p s
number_goes c d n ns b piece_is.Left s e = not_wrong 40 s e
number_goes c d n ns b piece_is.Right s e = subst (λ (x : FormulaState). To c n d (number b) piece_is.Right x) (go_is {x = state d n ns (after b)} e) shuts
number_goes c d n ns b piece_is.And s e = not_wrong 40 s e
number_goes c d n ns b piece_is.Or s e = not_wrong 40 s e
number_goes c d n ns b piece_is.Not s e = not_wrong 40 s e
number_goes c d n ns b piece_is.Inf s e = not_wrong 40 s e
number_goes c d n ns b piece_is.Fin s e = not_wrong 40 s e
number_goes c d n ns b (piece_is.Truth x) s e = not_wrong 40 s e
number_goes c d n ns b piece_is.Name s e = not_wrong 40 s e
number_goes c d n ns b (piece_is.Number k) s e = not_wrong 40 s e
number_goes c d n ns b piece_is.Abort s e = not_wrong 41 s e
number_goes c d n ns b piece_is.Foreign s e = not_wrong 40 s e

after_goes : (c d n : ℕ) (ns : List ℕ) (b : Behind) (p : Piece) (s : FormulaState) → on_after c d n ns b p ≡ go s → To c n d (after b) p s
after_goes c d n ns b piece_is.Left s e = not_ends d (meaning_of c n ns b) 40 s e
after_goes c d n ns b piece_is.Right s e = closes_went c d n ns b s e
after_goes c d n ns b piece_is.And s e = joined_went c n d ns (after b) piece_is.And (behind_and b) (ltb n c) s refl (λ l a. ands l a) e
after_goes c d n ns b piece_is.Or s e = joined_went c n d ns (after b) piece_is.Or (behind_or b) (ltb n c) s refl (λ l a. ors l a) e
after_goes c d n ns b piece_is.Not s e = not_ends d (meaning_of c n ns b) 40 s e
after_goes c d n ns b piece_is.Inf s e = not_ends d (meaning_of c n ns b) 40 s e
after_goes c d n ns b piece_is.Fin s e = not_ends d (meaning_of c n ns b) 40 s e
after_goes c d n ns b (piece_is.Truth x) s e = not_ends d (meaning_of c n ns b) 40 s e
after_goes c d n ns b piece_is.Name s e = not_ends d (meaning_of c n ns b) 40 s e
after_goes c d n ns b (piece_is.Number k) s e = not_ends d (meaning_of c n ns b) 40 s e
after_goes c d n ns b piece_is.Abort s e = not_ends d (meaning_of c n ns b) 41 s e
after_goes c d n ns b piece_is.Foreign s e = not_ends d (meaning_of c n ns b) 40 s e

stage_went : (c d n : ℕ) (ns : List ℕ) (g : Stage) (p : Piece) (s : FormulaState) → on_stage c d n ns g p ≡ go s → To c n d g p s
stage_went c d n ns (operand w) p s e = operand_went c d n ns w p s e
stage_went c d n ns (named b) p s e = named_goes c d n ns b p s e
stage_went c d n ns (bracket b) p s e = bracket_went c d n ns b p s e
stage_went c d n ns (number b) p s e = number_goes c d n ns b p s e
stage_went c d n ns (after b) p s e = after_goes c d n ns b p s e

pub went : (c : ℕ) (s : FormulaState) (t : Token) (s' : FormulaState) → free_step c s t ≡ go s' → To c s.atoms s.depth s.stage (piece_of t) s'
unfolding free_step
went c s t s' e = stage_went c s.depth s.atoms s.needs s.stage (piece_of t) s' e

-- the first token of a walk
pub walked : (c : ℕ) (s : FormulaState) (t : Token) (ts : List Token) (f : FormulaState) → free_walk c s (t ∷ ts) ≡ go f
    → (s' : FormulaState) × (free_step c s t ≡ go s') × (free_walk c s' ts ≡ go f)
unfolding free_walk
walked c s t ts f e = by (free_step c s t) refl e
  where
    by : (x : FormulaStep) → free_step c s t ≡ x → and_on x (λ s'. free_walk c s' ts) ≡ go f → (s' : FormulaState) × (free_step c s t ≡ go s') × (free_walk c s' ts ≡ go f)
    by (go s') q h = (s', q, h)
    by (over m) q h = not_over m f h
    by (wrong k) q h = not_wrong k f h

-- ---- what is left

-- something that the stage still wants
abbrev pub Some : (Wants → ℕ → List Token → Type 0) → (Behind → ℕ → List Token → Type 0) → Stage → ℕ → Type 0
Some RW RB (operand w) n = (us : List Token) × RW w n us
Some RW RB (named b) n = (0 < n) × ((us : List Token) × RB b n us)
Some RW RB (bracket b) n = (0 < n) × ((us : List Token) × RB b n us)
Some RW RB (number b) n = (us : List Token) × RB b n us
Some RW RB (after b) n = (us : List Token) × RB b n us

module _ (c : ℕ) (RW : Wants → ℕ → List Token → Type 0) (RB : Behind → ℕ → List Token → Type 0)
    (f-open : (w : Wants) (n : ℕ) (ts : List Token) → RW (wants_open w) n ts → RW w n (left ts))
    (f-inf : (w : Wants) (n : ℕ) (ts : List Token) → n < c → RB (wants_inf w) (suc n) ts → RW w n (atom word_is.Inf n ts))
    (f-fin : (w : Wants) (n : ℕ) (ts : List Token) → n < c → RB (wants_fin w) (suc n) ts → RW w n (atom word_is.Fin n ts))
    (f-truth : (t : Bool) (w : Wants) (n : ℕ) (ts : List Token) → RB (wants_truth t w) n ts → RW w n (word (truth_word t) ∷ ts))
    (f-close : (b : Behind) (n : ℕ) (ts : List Token) → RB (behind_close b) n ts → RB b n (right ts))
    (f-and : (b : Behind) (n : ℕ) (ts : List Token) → n < c → RW (behind_and b) n ts → RB b n (both ts))
    (f-or : (b : Behind) (n : ℕ) (ts : List Token) → n < c → RW (behind_or b) n ts → RB b n (either ts)) where
  -- what the stage still wants
  abbrev pub Rest : Stage → ℕ → List Token → Type 0
  Rest (operand w) n ts = RW w n ts
  Rest (named b) n ts = (j : ℕ) × (us : List Token) × (n ≡ suc j) × (ts ≡ left (int j ∷ right us)) × RB b n us
  Rest (bracket b) n ts = (j : ℕ) × (us : List Token) × (n ≡ suc j) × (ts ≡ int j ∷ right us) × RB b n us
  Rest (number b) n ts = (us : List Token) × (ts ≡ right us) × RB b n us
  Rest (after b) n ts = RB b n ts

  -- one token in front
  front : (n d d' n' : ℕ) (g g' : Stage) (p : Piece) (t : Token) (ts : List Token) → Went c n d g p d' n' g' → Exact p t → Rest g' n' ts → Rest g n (t ∷ ts)
  front n d d' n' g g' p t ts (opens {w = w} a) x h = rw x (f-open w n ts h)
  front n d d' n' g g' p t ts (infs {w = w} l a) x h =
      let j : n ≡ h.0 = omega (arith, h.2) in
      rw (x, h.3, ← j) (f-inf w n h.1 l h.4)
  front n d d' n' g g' p t ts (fins {w = w} l a) x h =
      let j : n ≡ h.0 = omega (arith, h.2) in
      rw (x, h.3, ← j) (f-fin w n h.1 l h.4)
  front n d d' n' g g' p t ts (truths {w = w} b a) x h = rw x (f-truth b w n ts h)
  front n d d' n' g g' p t ts brackets x h = (h.0, h.1, h.2, rw (x, h.3), h.4)
  front n d d' n' g g' p t ts (numbers k e) x h = (k, h.0, sym e, rw (x, h.1), h.2)
  front n d d' n' g g' p t ts shuts x h = (ts, rw x, h)
  front n d d' n' g g' p t ts (closed {b = b} a) x h = rw x (f-close b n ts h)
  front n d d' n' g g' p t ts (ands {b = b} l a) x h = rw x (f-and b n ts l h)
  front n d d' n' g g' p t ts (ors {b = b} l a) x h = rw x (f-or b n ts l h)

  -- what a walk has admitted
  pub rest : (ts : List Token) (s f : FormulaState) → free_walk c s ts ≡ go f → Rest f.stage f.atoms [] → Rest s.stage s.atoms ts
  unfolding free_walk
  rest [] s f e h = rw (go_is e) h
  rest (t ∷ ts) s f e h =
      let x = walked c s t ts f e in
      front s.atoms s.depth x.0.depth x.0.atoms s.stage x.0.stage (piece_of t) t ts (went c s t x.0 x.1) (exact t) (rest ts x.0 f x.2 h)

  -- what a walk has admitted, before what is left
  pub rest_on : (ts us : List Token) (s f : FormulaState) → free_walk c s ts ≡ go f → Rest f.stage f.atoms us → Rest s.stage s.atoms (ts ++ us)
  unfolding free_walk
  rest_on [] us s f e h = rw (go_is e) h
  rest_on (t ∷ ts) us s f e h =
      let x = walked c s t ts f e in
      front s.atoms s.depth x.0.depth x.0.atoms s.stage x.0.stage (piece_of t) t (ts ++ us) (went c s t x.0 x.1) (exact t)
      (rest_on ts us x.0 f x.2 h)

  some_rest : (g : Stage) (n : ℕ) → Some RW RB g n → (us : List Token) × Rest g n us
  some_rest (operand w) n h = h
  some_rest (named b) zero h = absurd (omega (arith, h.0))
  some_rest (named b) (suc j) h = (left (int j ∷ right h.1.0), (j, h.1.0, refl, refl, h.1.1))
  some_rest (bracket b) zero h = absurd (omega (arith, h.0))
  some_rest (bracket b) (suc j) h = (int j ∷ right h.1.0, (j, h.1.0, refl, refl, h.1.1))
  some_rest (number b) n h = (right h.0, (h.0, refl, h.1))
  some_rest (after b) n h = h

  -- a walk that can go on has admitted the beginning of something
  pub begun : (ts : List Token) (s f : FormulaState) → free_walk c s ts ≡ go f → Some RW RB f.stage f.atoms → (us : List Token) × Rest s.stage s.atoms (ts ++ us)
  begun ts s f e h =
      let r = some_rest f.stage f.atoms h in
      (r.0, rest_on ts r.0 s f e r.1)

-- what every token keeps is kept by a walk
pub forward : (c : ℕ) (Q : ℕ → Stage → Type 0)
    → ((n d d' n' : ℕ) (g g' : Stage) (p : Piece) → Went c n d g p d' n' g' → Q n g → Q n' g')
    → (ts : List Token) (s f : FormulaState)
    → free_walk c s ts ≡ go f
    → Q s.atoms s.stage
    → Q f.atoms f.stage
unfolding free_walk
forward c Q k [] s f e h = subst (λ (x : FormulaState). Q x.atoms x.stage) (go_is e) h
forward c Q k (t ∷ ts) s f e h =
    let x = walked c s t ts f e in
    forward c Q k ts x.0 f x.2 (k s.atoms s.depth x.0.depth x.0.atoms s.stage x.0.stage (piece_of t) (went c s t x.0 x.1) h)
