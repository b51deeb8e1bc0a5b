-- What the reader of labels promises of a text: what it gives is what the grammar says (`promised`), and it reads every label of the grammar that fits
-- (`label_is_read`). A run over placed tokens is a walk over the tokens, up to where it ends. Assumes nothing.
use mathlib.Core.List.{List, [], ◌∷◌, ◌++◌}
use mathlib.Core.Path.{◌≡◌, refl, sym, ap, subst, ◌∙◌}
use Prim.Native.Nat.{ℕ}
use native.Mathlib.Omega.{arith}
use Rattle.std.specs.Prelude.{Result, Ok, Err}
use Rattle.hoa_tokens.specs.declared.Sign.TheVariants as sign_is
use Rattle.hoa_tokens.specs.Token.{Token, sign}
use Rattle.hoa_tokens.specs.Stream.{Placed, tokens_at, bad_at}
use Rattle.hoa_tokens.specs.declared.BadToken.{BadToken}
use Rattle.hoa_label.specs.declared.LabelRead.{LabelRead}
use Rattle.hoa_label.specs.Label.{Label, label_text, most_levels, Within, SetOf}
use Rattle.hoa_label.specs.Labels.{
  LabelState,
  label_begin,
  LabelStep,
  go,
  shut,
  wrong,
  step_within,
  label_step,
  LabelWalk,
  going,
  closed,
  walk_by,
  walk_within,
  shut_at,
  wrong_at,
  cut,
  end_by,
  label_run,
}
use Rattle.hoa_label.specs.Reading.{shut_to, label_end, LabelAt, tokens_of, Promised, read, refused}
use Rattle.hoa_label.proofs.Sets.{label_set}
use Rattle.hoa_label.proofs.Walks.{closed_going, closed_faulty, closed_set, closed_rest}
use Rattle.hoa_label.proofs.Complete.{complete}
use Rattle.hoa_label.proofs.Sound.{sound}
use Rattle.hoa_label.proofs.Faults.{admitted, faulty_token}
use Rattle.hoa_label.proofs.Meaning.{meaning}

-- ---- the ends of a run differ

-- refused is not shut
pub wrong_shut : {C : Type 0} {n p x : ℕ} {ps : List Placed} → wrong_at n p ≡ shut_at x ps → C
wrong_shut e = let z : ◌≡◌ {A = ℕ} 0 1 = cc in absurd (omega arith)

-- cut is not shut
pub cut_shut : {C : Type 0} {x : ℕ} {ps : List Placed} → cut ≡ shut_at x ps → C
cut_shut e = let z : ◌≡◌ {A = ℕ} 0 1 = cc in absurd (omega arith)

-- cut is not refused
pub cut_wrong : {C : Type 0} {n p : ℕ} → cut ≡ wrong_at n p → C
cut_wrong e = let z : ◌≡◌ {A = ℕ} 0 1 = cc in absurd (omega arith)

-- the set is one
pub shut_set : {x y : ℕ} {ps qs : List Placed} → shut_at x ps ≡ shut_at y qs → x ≡ y
shut_set e = cc

-- what follows is one
pub shut_rest : {x y : ℕ} {ps qs : List Placed} → shut_at x ps ≡ shut_at y qs → ps ≡ qs
shut_rest e = cc

-- the number is one
pub wrong_number : {n m p q : ℕ} → wrong_at n p ≡ wrong_at m q → n ≡ m
wrong_number e = cc

-- the place is one
pub wrong_place_lem : {n m p q : ℕ} → wrong_at n p ≡ wrong_at m q → p ≡ q
wrong_place_lem e = cc

-- ---- a run is a walk

module _ (a : ℕ) where
  -- the walk with the levels that are allowed
  abbrev walk : LabelState → List Token → LabelWalk
  walk s ts = walk_within most_levels a s ts

  -- the first step of a run that shuts the label
  by_shut : (x : ℕ) (qs : List Placed) (d : LabelStep) (p : ℕ) (ps : List Placed)
      → ((s : LabelState) → label_run a s ps ≡ shut_at x qs → walk s (tokens_of ps) ≡ closed x (tokens_of qs))
      → end_by d p ps (λ s. label_run a s ps) ≡ shut_at x qs → walk_by d (tokens_of ps) (λ s. walk s (tokens_of ps)) ≡ closed x (tokens_of qs)
  by_shut x qs (go s) p ps more e = more s e
  by_shut x qs (shut y) p ps more e = rw (shut_set e, shut_rest e)
  by_shut x qs (wrong n) p ps more e = wrong_shut e

  -- a run that shuts the label
  run_shut : (x : ℕ) (qs ps : List Placed) (s : LabelState) → label_run a s ps ≡ shut_at x qs → walk s (tokens_of ps) ≡ closed x (tokens_of qs)
  unfolding label_run walk_within label_step
  run_shut x qs [] s e = cut_shut e
  run_shut x qs (p ∷ ps) s e = by_shut x qs (label_step a s p.token) p.place ps (run_shut x qs ps) e

  -- a run that stops: the tokens before the faulty one are admitted, and it is not
  record Stopped (s : LabelState) (ps : List Placed) (n place : ℕ) : Type 0 where
    before : List Placed
    token : Placed
    after : List Placed
    split : ps ≡ before ++ token ∷ after
    state : LabelState
    goes : walk s (tokens_of before) ≡ going state
    stops : step_within most_levels a state token.token ≡ wrong n
    there : token.place ≡ place

  -- the first step of a run that stops
  by_wrong : (n place : ℕ) (s : LabelState) (d : LabelStep) (p : Placed) (ps : List Placed) → label_step a s p.token ≡ d
      → ((u : LabelState) → label_run a u ps ≡ wrong_at n place → Stopped u ps n place)
      → end_by d p.place ps (λ u. label_run a u ps) ≡ wrong_at n place → Stopped s (p ∷ ps) n place
  unfolding walk_within label_step
  by_wrong n place s (go u) p ps q more e =
      let w = more u e in
      record {
        before = p ∷ w.before;
        token = w.token;
        after = w.after;
        split = ap (λ (xs : List Placed). p ∷ xs) w.split;
        state = w.state;
        goes = ap (λ (d : LabelStep). walk_by d (tokens_of w.before) (λ v. walk v (tokens_of w.before))) q ∙ w.goes;
        stops = w.stops;
        there = w.there;
      }
  by_wrong n place s (shut x) p ps q more e = wrong_shut (sym e)
  by_wrong n place s (wrong m) p ps q more e =
      record { before = []; token = p; after = ps; split = refl; state = s; goes = refl; stops = q ∙ ap wrong (wrong_number e); there = wrong_place_lem e }

  -- such is every run that stops
  run_wrong : (n place : ℕ) (ps : List Placed) (s : LabelState) → label_run a s ps ≡ wrong_at n place → Stopped s ps n place
  unfolding label_run
  run_wrong n place [] s e = cut_wrong e
  run_wrong n place (p ∷ ps) s e = by_wrong n place s (label_step a s p.token) p ps refl (run_wrong n place ps) e

  -- a walk that shuts the label
  record Shuts (s : LabelState) (ps : List Placed) (x : ℕ) (ts : List Token) : Type 0 where
    rest : List Placed
    runs : label_run a s ps ≡ shut_at x rest
    tokens : tokens_of rest ≡ ts

  -- the first step of a walk that shuts the label
  by_closed : (x : ℕ) (ts : List Token) (s : LabelState) (d : LabelStep) (p : Placed) (ps : List Placed) → label_step a s p.token ≡ d
      → ((u : LabelState) → walk u (tokens_of ps) ≡ closed x ts → Shuts u ps x ts)
      → walk_by d (tokens_of ps) (λ u. walk u (tokens_of ps)) ≡ closed x ts → Shuts s (p ∷ ps) x ts
  unfolding label_run
  by_closed x ts s (go u) p ps q more e =
      let w = more u e in
      record { rest = w.rest; runs = ap (λ (d : LabelStep). end_by d p.place ps (λ v. label_run a v ps)) q ∙ w.runs; tokens = w.tokens }
  by_closed x ts s (shut y) p ps q more e =
      record { rest = ps; runs = ap (λ (d : LabelStep). end_by d p.place ps (λ v. label_run a v ps)) q ∙ cc (closed_set e); tokens = closed_rest e }
  by_closed x ts s (wrong n) p ps q more e = closed_faulty (sym e)

  -- its run does so too
  walk_closed : (x : ℕ) (ts : List Token) (ps : List Placed) (s : LabelState) → walk s (tokens_of ps) ≡ closed x ts → Shuts s ps x ts
  unfolding walk_within label_step
  walk_closed x ts [] s e = closed_going (sym e)
  walk_closed x ts (p ∷ ps) s e = by_closed x ts s (label_step a s p.token) p ps refl (walk_closed x ts ps) e

-- ---- the promises

-- what the reader gives is what the grammar says
pub promised : (text : List ℕ) (at a : ℕ) (r : Result LabelRead BadToken) → LabelAt text at a r → Promised text at a r
promised text at a (Ok r) h =
    let w = sound most_levels a r.set (tokens_of (tokens_at text at)) (tokens_of (tokens_at text r.next)) (run_shut a r.set (tokens_at text r.next) (tokens_at text at) label_begin h.is) in
    read {set = r.set} {next = r.next} w.label w.within w.text (λ six. subst (SetOf w.label) (sym w.set) (meaning a six w.label w.within.fits))
promised text at a (Err e) h =
    let w = run_wrong a e.number e.place (tokens_at text at) label_begin h.is in
    subst (λ (p : ℕ). Promised text at a (bad_at e.number p)) w.there
    (refused w.before w.token w.after w.split (admitted most_levels a (tokens_of w.before) w.state w.goes)
    (faulty_token most_levels a (tokens_of w.before) w.state w.token.token e.number w.goes w.stops))

-- a label of the grammar that fits is read, with its set and what follows it
pub record IsRead (text : List ℕ) (l : Label) (rest : List Token) (r : Result LabelRead BadToken) : Type 0 where
  pub set : ℕ
  pub next : ℕ
  pub is : r ≡ shut_to set next
  pub right : set ≡ label_set l
  pub follows : tokens_of (tokens_at text next) ≡ rest

-- wherever its tokens stand in a text
pub label_is_read : (text : List ℕ) (at a : ℕ) (r : Result LabelRead BadToken) (l : Label) (rest : List Token) → LabelAt text at a r → Within most_levels a l
    → tokens_of (tokens_at text at) ≡ label_text l (sign sign_is.BracketRight ∷ rest) → IsRead text l rest r
label_is_read text at a r l rest h w e =
    given r h.is (walk_closed a (label_set l) rest (tokens_at text at) label_begin (ap (walk_within most_levels a label_begin) e ∙ complete most_levels a l rest w))
  where
    -- a refusal does not agree with that
    given : (r : Result LabelRead BadToken) → label_run a label_begin (tokens_at text at) ≡ label_end text r → Shuts a label_begin (tokens_at text at) (label_set l) rest → IsRead text l rest r
    given (Ok v) q s =
        let d = sym q ∙ s.runs in
        record { set = v.set; next = v.next; is = refl; right = shut_set d; follows = ap tokens_of (shut_rest d) ∙ s.tokens }
    given (Err x) q s = wrong_shut (sym q ∙ s.runs)
