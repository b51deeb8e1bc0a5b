-- For a machine that follows `label_step` inside a label: what the run or the walk of a label gives, the machine gives. `inside` is the machine inside a label, `after` it
-- behind the label's `]`, with the set, and `stop` its refusal. Assumes nothing.
use mathlib.Core.List.{List, [], ◌∷◌, ◌++◌}
use mathlib.Core.Path.{◌≡◌, sym, ap, ◌∙◌}
use Prim.Native.Nat.{ℕ}
use Rattle.hoa_tokens.specs.Token.{Token}
use Rattle.hoa_tokens.specs.Stream.{Placed}
use Rattle.hoa_label.specs.Labels.{
  LabelState,
  LabelStep,
  go,
  shut,
  wrong,
  step_within,
  label_step,
  LabelWalk,
  going,
  closed,
  faulty,
  walk_by,
  walk_within,
  shut_at,
  wrong_at,
  end_by,
  label_run,
}
use Rattle.hoa_label.proofs.Walks.{closed_going, faulty_going, closed_faulty, going_inj, closed_set, closed_rest, faulty_inj}
use Rattle.hoa_label.proofs.Promises.{wrong_shut, cut_shut, cut_wrong, shut_set, shut_rest, wrong_number, wrong_place_lem}

-- ---- tokens with their places

-- the machine behind a step at a place
abbrev pub placed_by : {R : Type 0} → (LabelState → List Placed → R) → (ℕ → List Placed → R) → (ℕ → ℕ → R) → LabelStep → ℕ → List Placed → R
placed_by inside after stop (go s) place ps = inside s ps
placed_by inside after stop (shut x) place ps = after x ps
placed_by inside after stop (wrong n) place ps = stop n place

module _ {R : Type 0} (a : ℕ) (inside : LabelState → List Placed → R) (after : ℕ → List Placed → R) (stop : ℕ → ℕ → R)
    (follows : (s : LabelState) (p : Placed) (ps : List Placed) → inside s (p ∷ ps) ≡ placed_by inside after stop (label_step a s p.token) p.place ps) where
  -- the first step of a run that shuts the label
  on_shut : (x : ℕ) (qs : List Placed) (d : LabelStep) (place : ℕ) (ps : List Placed)
      → ((s : LabelState) → label_run a s ps ≡ shut_at x qs → inside s ps ≡ after x qs)
      → end_by d place ps (λ s. label_run a s ps) ≡ shut_at x qs → placed_by inside after stop d place ps ≡ after x qs
  on_shut x qs (go s) place ps more e = more s e
  on_shut x qs (shut y) place ps more e = rw (shut_set e, shut_rest e)
  on_shut x qs (wrong n) place ps more e = wrong_shut e

  -- a label that is shut
  pub carry_shut : (x : ℕ) (qs ps : List Placed) (s : LabelState) → label_run a s ps ≡ shut_at x qs → inside s ps ≡ after x qs
  unfolding label_run
  carry_shut x qs [] s e = cut_shut e
  carry_shut x qs (p ∷ ps) s e = follows s p ps ∙ on_shut x qs (label_step a s p.token) p.place ps (carry_shut x qs ps) e

  -- the first step of a run that stops
  on_wrong : (n q : ℕ) (d : LabelStep) (place : ℕ) (ps : List Placed) → ((s : LabelState) → label_run a s ps ≡ wrong_at n q → inside s ps ≡ stop n q)
      → end_by d place ps (λ s. label_run a s ps) ≡ wrong_at n q → placed_by inside after stop d place ps ≡ stop n q
  on_wrong n q (go s) place ps more e = more s e
  on_wrong n q (shut x) place ps more e = wrong_shut (sym e)
  on_wrong n q (wrong m) place ps more e = rw (wrong_number e, wrong_place_lem e)

  -- a label that is refused
  pub carry_wrong : (n q : ℕ) (ps : List Placed) (s : LabelState) → label_run a s ps ≡ wrong_at n q → inside s ps ≡ stop n q
  unfolding label_run
  carry_wrong n q [] s e = cut_wrong e
  carry_wrong n q (p ∷ ps) s e = follows s p ps ∙ on_wrong n q (label_step a s p.token) p.place ps (carry_wrong n q ps) e

-- ---- tokens alone

-- the machine behind a step
abbrev pub carried_by : {R : Type 0} → (LabelState → List Token → R) → (ℕ → List Token → R) → (ℕ → R) → LabelStep → List Token → R
carried_by inside after stop (go s) ts = inside s ts
carried_by inside after stop (shut x) ts = after x ts
carried_by inside after stop (wrong n) ts = stop n

module _ {R : Type 0} (levels a : ℕ) (inside : LabelState → List Token → R) (after : ℕ → List Token → R) (stop : ℕ → R)
    (follows : (s : LabelState) (t : Token) (ts : List Token) → inside s (t ∷ ts) ≡ carried_by inside after stop (step_within levels a s t) ts) where
  -- the walk of a label
  abbrev walk : LabelState → List Token → LabelWalk
  walk s ts = walk_within levels a s ts

  -- the first step of a walk that shuts the label
  on_closed : (x : ℕ) (us : List Token) (d : LabelStep) (ts : List Token) → ((s : LabelState) → walk s ts ≡ closed x us → inside s ts ≡ after x us)
      → walk_by d ts (λ s. walk s ts) ≡ closed x us → carried_by inside after stop d ts ≡ after x us
  on_closed x us (go s) ts more e = more s e
  on_closed x us (shut y) ts more e = rw (closed_set e, closed_rest e)
  on_closed x us (wrong n) ts more e = closed_faulty (sym e)

  -- a label that is read to its `]`
  pub carry_closed : (x : ℕ) (us ts : List Token) (s : LabelState) → walk s ts ≡ closed x us → inside s ts ≡ after x us
  unfolding walk_within
  carry_closed x us [] s e = closed_going (sym e)
  carry_closed x us (t ∷ ts) s e = follows s t ts ∙ on_closed x us (step_within levels a s t) ts (carry_closed x us ts) e

  -- the first step of a walk that stops
  on_faulty : (n : ℕ) (d : LabelStep) (ts : List Token) → ((s : LabelState) → walk s ts ≡ faulty n → inside s ts ≡ stop n)
      → walk_by d ts (λ s. walk s ts) ≡ faulty n → carried_by inside after stop d ts ≡ stop n
  on_faulty n (go s) ts more e = more s e
  on_faulty n (shut x) ts more e = closed_faulty e
  on_faulty n (wrong m) ts more e = rw (faulty_inj e)

  -- a label with a faulty token
  pub carry_faulty : (n : ℕ) (ts : List Token) (s : LabelState) → walk s ts ≡ faulty n → inside s ts ≡ stop n
  unfolding walk_within
  carry_faulty n [] s e = faulty_going (sym e)
  carry_faulty n (t ∷ ts) s e = follows s t ts ∙ on_faulty n (step_within levels a s t) ts (carry_faulty n ts) e

  -- the first step of a walk that goes on
  on_going : (u : LabelState) (us : List Token) (d : LabelStep) (ts : List Token) → ((s : LabelState) → walk s ts ≡ going u → inside s (ts ++ us) ≡ inside u us)
      → walk_by d ts (λ s. walk s ts) ≡ going u → carried_by inside after stop d (ts ++ us) ≡ inside u us
  on_going u us (go s) ts more e = more s e
  on_going u us (shut x) ts more e = closed_going e
  on_going u us (wrong n) ts more e = faulty_going e

  -- tokens that are admitted inside a label
  pub carry_going : (u : LabelState) (us ts : List Token) (s : LabelState) → walk s ts ≡ going u → inside s (ts ++ us) ≡ inside u us
  unfolding walk_within
  carry_going u us [] s e = ap (λ (v : LabelState). inside v us) (going_inj e)
  carry_going u us (t ∷ ts) s e = follows s t (ts ++ us) ∙ on_going u us (step_within levels a s t) ts (carry_going u us ts) e
