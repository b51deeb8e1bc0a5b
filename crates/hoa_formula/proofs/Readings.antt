-- The reader's loop (`Reading`): what it has read so far leaves the rest of the run as it is. Assumes nothing.
use mathlib.Core.Bool.{Bool, true, false, cond}
use mathlib.Core.List.{List, [], reverse}
use mathlib.Core.Path.{◌≡◌, refl, sym, ap, ◌∙◌}
use Rattle.std.specs.Prelude.{Option, Some, None, Ok, Err}
use Prim.Native.Nat.{ℕ, zero, suc, ◌≤◌, ◌<◌, ◌%◌, ◌-◌}
use native.Mathlib.Omega.{arith}
use lib.Dec.{eqb, ltb}
use lib.ListN.{length, get_or, replicate, length-append, length-replicate, length-reverse}
use Rattle.hoa_tokens.specs.declared.Kind.{Kind}
use Rattle.hoa_tokens.specs.declared.Kind.TheVariants as kind_is
use Rattle.hoa_tokens.specs.declared.Found.{Found}
use Rattle.hoa_tokens.specs.Token.{Token}
use Rattle.hoa_tokens.specs.Stream.{Placed, placed, unless_finished, tokens_at, token_of, TokenAt}
use Rattle.hoa_tokens.proofs.Next.{tokens_next, token_takes, Moves, unless_kind}
use Rattle.hoa_standard.specs.declared.Piece.{Piece}
use Rattle.hoa_standard.specs.declared.Piece.TheVariants as piece_is
use Rattle.hoa_standard.specs.declared.Ahead.{Ahead}
use Rattle.hoa_standard.specs.declared.Ahead.TheVariants as ahead_kinds
use Rattle.hoa_standard.specs.declared.Past.{Past}
use Rattle.hoa_standard.specs.declared.Past.TheVariants as past_kinds
use Rattle.hoa_turn.specs.declared.step.Stage.{Stage}
use Rattle.hoa_turn.specs.declared.step.Stage.TheVariants as stage_is
use Rattle.hoa_turn.specs.declared.step.Formula.{Formula}
use Rattle.hoa_turn.specs.declared.step.Turn.{Turn}
use Rattle.hoa_turn.specs.declared.step.Turn.TheVariants as turn_is
use Rattle.hoa_turn.specs.declared.needs.Needs.{Needs}
use Rattle.hoa_formula.specs.declared.Complete.{Complete}
use Rattle.hoa_formula.specs.declared.Complete.TheVariants as complete_is
use Rattle.hoa_formula.specs.declared.FormulaRead.{FormulaRead}
use Rattle.hoa_formula.specs.declared.FormulaRead.TheVariants as found_is
use Rattle.hoa_standard.specs.Standard.{FormulaMeaning, short, no_needs, eight_needs}
use Rattle.hoa_standard.specs.Machines.{Buchi, RabinBehind, StreettBehind, Bare, TruthBehind}
use Rattle.hoa_standard.specs.Formulas.{by_done, FormulaStep, over_at, onward, piece_of, meaning_of, formula_step, formula_begin, formula_run}
use Rattle.hoa_formula.specs.Reading.{found_says, found_place, FoundNeeds, FormulaAt}
use Rattle.hoa_standard.specs.inner.Sides.{behind, AheadWithin, PastWithin, past_is, bracket_room}
use Rattle.hoa_turn.specs.inner.Turns as turns
use Rattle.hoa_turn.specs.inner.Turns.{StageWithin, state_of, turn_of, formula, Within, turn_at}
use Rattle.hoa_turn.specs.inner.Counts.{Counts, Bounded, tally, counted_to}
use Rattle.hoa_formula.specs.inner.Ends.{kind_piece, complete_to, complete_meaning, done_read, past_read, over_read}
use Rattle.hoa_turn.proofs.Steps.{needs_next, meaning_at, turn_is_step}
use Rattle.hoa_turn.proofs.Keeping.{keeps}

-- ---- tokens

piece_token : (text : List ℕ) (a b : ℕ) (k : Kind) → piece_of (token_of text a b k) ≡ kind_piece k
unfolding piece_of
piece_token text a b (kind_is.Int n) = refl
piece_token text a b (kind_is.Word w) = refl
piece_token text a b (kind_is.Header h) = refl
piece_token text a b kind_is.Quoted = refl
piece_token text a b kind_is.Alias = refl
piece_token text a b (kind_is.Sign s) = refl
piece_token text a b kind_is.Body = refl
piece_token text a b kind_is.End = refl
piece_token text a b kind_is.Abort = refl
piece_token text a b kind_is.Finish = refl
piece_token text a b kind_is.Bad = refl

-- ---- larger bounds

ahead_up : (j k : ℕ) (a : Ahead) → j ≤ k → AheadWithin j a → AheadWithin k a
ahead_up j k ahead_kinds.Lost l h = tt
ahead_up j k (ahead_kinds.Start d) l h = omega arith
ahead_up j k (ahead_kinds.FirstOr o m v) l h = omega arith
ahead_up j k (ahead_kinds.Buchi d) l h = omega arith
ahead_up j k (ahead_kinds.RabinFin m b) l h = omega arith
ahead_up j k (ahead_kinds.RabinInf m b d) l h = omega arith
ahead_up j k (ahead_kinds.StreettFin m u) l h = omega arith
ahead_up j k (ahead_kinds.StreettInf m v) l h = omega arith

past_up : (j k : ℕ) (p : Past) → j ≤ k → PastWithin j p → PastWithin k p
past_up j k past_kinds.Lost l h = tt
past_up j k (past_kinds.Truth b d) l h = omega arith
past_up j k (past_kinds.Buchi d) l h = omega arith
past_up j k (past_kinds.FirstFin d) l h = omega arith
past_up j k (past_kinds.RabinPair m b d) l h = omega arith
past_up j k (past_kinds.RabinGroup m) l h = omega arith
past_up j k (past_kinds.StreettFin m u) l h = omega arith
past_up j k (past_kinds.StreettInf m v) l h = omega arith
past_up j k (past_kinds.StreettPair m) l h = omega arith
past_up j k (past_kinds.Bare x) l h = omega arith

stage_up : (j k : ℕ) (g : Stage) → j ≤ k → StageWithin j g → StageWithin k g
stage_up j k (stage_is.Operand a) l h = ahead_up j k a l h
stage_up j k (stage_is.Named b) l h = past_up j k b l h
stage_up j k (stage_is.Bracket b) l h = past_up j k b l h
stage_up j k (stage_is.Number b) l h = past_up j k b l h
stage_up j k (stage_is.After b) l h = past_up j k b l h

within_up : (j k : ℕ) (f : Formula) → j ≤ k → Within j f → Within k f
within_up j k f l w = record { depth = omega (arith, w.depth); stage = stage_up j k f.stage l w.stage }

-- ---- where the formula is over

first_none : (c : ℕ) (ns : List ℕ) (d : ℕ) (e t : Bool)
    → by_done c ns
    (behind Buchi.lost (RabinBehind.pair (suc d) (suc d) 0) (cond e (StreettBehind.fin d d) StreettBehind.lost) (cond t (Bare.fin (suc d)) Bare.lost) TruthBehind.lost) ≡ short
first_none c ns d true true = refl
first_none c ns d true false = refl
first_none c ns d false true = refl
first_none c ns d false false = refl

done_is : (c : ℕ) (ns : List ℕ) (p : Past) → by_done c ns (past_is c p) ≡ complete_meaning c ns (complete_to p)
done_is c ns past_kinds.Lost = refl
done_is c ns (past_kinds.Truth true zero) = refl
done_is c ns (past_kinds.Truth false zero) = refl
done_is c ns (past_kinds.Truth true (suc d)) = refl
done_is c ns (past_kinds.Truth false (suc d)) = refl
done_is c ns (past_kinds.Buchi zero) = refl
done_is c ns (past_kinds.Buchi (suc x)) = refl
done_is c ns (past_kinds.FirstFin zero) = refl
done_is c ns (past_kinds.FirstFin (suc d)) = first_none c ns d (eqb (c % 2) 0) (eqb c 2)
done_is c ns (past_kinds.RabinPair zero b zero) = refl
done_is c ns (past_kinds.RabinPair (suc m) b zero) = refl
done_is c ns (past_kinds.RabinPair m b (suc d)) = refl
done_is c ns (past_kinds.RabinGroup zero) = refl
done_is c ns (past_kinds.RabinGroup (suc x)) = refl
done_is c ns (past_kinds.StreettFin m u) = refl
done_is c ns (past_kinds.StreettInf m v) = refl
done_is c ns (past_kinds.StreettPair zero) = refl
done_is c ns (past_kinds.StreettPair (suc x)) = refl
done_is c ns (past_kinds.Bare zero) = refl
done_is c ns (past_kinds.Bare (suc x)) = refl

-- the reader's answer says the meaning
read_says : (text : List ℕ) (c : ℕ) (ns : List ℕ) (n : Needs) (at : ℕ) (k : Option Complete) → Counts ns n
    → over_at (complete_meaning c ns k) (tokens_at text at) ≡ found_says text (Ok (done_read c n at k))
read_says text c ns n at (Some complete_is.Buchi) h = refl
read_says text c ns n at (Some complete_is.Rabin) h = rw (h.pairs, h.needs)
read_says text c ns n at (Some complete_is.Streett) h = refl
read_says text c ns n at (Some complete_is.True) h = refl
read_says text c ns n at (Some complete_is.False) h = refl
read_says text c ns n at None h = refl

read_place : (c : ℕ) (n : Needs) (at : ℕ) (k : Option Complete) → found_place (Ok (done_read c n at k)) ≡ at
read_place c n at (Some complete_is.Buchi) = refl
read_place c n at (Some complete_is.Rabin) = refl
read_place c n at (Some complete_is.Streett) = refl
read_place c n at (Some complete_is.True) = refl
read_place c n at (Some complete_is.False) = refl
read_place c n at None = refl

eight_length : (ns : List ℕ) → length ns ≤ 8 → length (eight_needs ns) ≡ 8
unfolding eight_needs
eight_length ns l =
    omega (arith, length-append (reverse ns) (replicate (8 - length ns) 0), length-reverse ns, length-replicate {A = ℕ} (8 - length ns) 0)

read_needs : (c : ℕ) (ns : List ℕ) (n : Needs) (at : ℕ) (k : Option Complete) → Counts ns n → FoundNeeds (Ok (done_read c n at k))
read_needs c ns n at (Some complete_is.Buchi) h = refl
read_needs c ns n at (Some complete_is.Rabin) h = rw h.needs (eight_length ns h.few)
read_needs c ns n at (Some complete_is.Streett) h = refl
read_needs c ns n at (Some complete_is.True) h = refl
read_needs c ns n at (Some complete_is.False) h = refl
read_needs c ns n at None h = tt

-- what is to be said where the formula is over
record Says (text : List ℕ) (at : ℕ) (m : FormulaMeaning) (r : FormulaRead) : Type 0 where
  is : over_at m (tokens_at text at) ≡ found_says text (Ok r)
  place : found_place (Ok r) ≡ at
  needs : FoundNeeds (Ok r)

past_says : (text : List ℕ) (c k : ℕ) (ns : List ℕ) (n : Needs) (at : ℕ) (p : Past) → Counts ns n → Says text at (meaning_of c k ns (past_is c p)) (past_read c k n at p)
unfolding meaning_of
past_says text c k ns n at p h = by (ltb k c)
  where
    by : (t : Bool) → Says text at (cond t short (by_done c ns (past_is c p))) (cond t (found_is.Short at) (done_read c n at (complete_to p)))
    by true = record { is = refl; place = refl; needs = tt }
    by false =
        record {
          is = ap (λ (m : FormulaMeaning). over_at m (tokens_at text at)) (done_is c ns p) ∙ read_says text c ns n at (complete_to p) h;
          place = read_place c n at (complete_to p);
          needs = read_needs c ns n at (complete_to p) h;
        }

-- ---- the loop

-- the rest of the run is what is left to say
pub record Reading (text : List ℕ) (at c : ℕ) (f : Formula) (n : Needs) (here : ℕ) : Type 0 where
  pub needs : List ℕ
  pub run : formula_run c (formula_begin c) (tokens_at text at) ≡ formula_run c (state_of c f needs) (tokens_at text here)
  pub counts : Counts needs n
  pub bounded : Bounded n f.atoms f.stage
  pub within : Within here f
  pub behind : at ≤ here
  pub inside : at ≤ length text → here ≤ length text

zeros : (k i : ℕ) → get_or (replicate k 0) i 0 ≤ 0
zeros zero i = omega arith
zeros (suc k) zero = omega arith
zeros (suc k) (suc i) = zeros k i

pub reading_begins : (text : List ℕ) (at c : ℕ) → Reading text at c (formula 0 0 (stage_is.Operand (ahead_kinds.Start 0))) (tally 0 no_needs) at
unfolding formula_begin eight_needs
reading_begins text at c =
    record {
      needs = [];
      run = refl;
      counts = record { pairs = refl; needs = refl; few = omega arith };
      bounded = record { pairs = omega arith; each = zeros 8; ninth = refl };
      within = record { depth = omega arith; stage = omega arith };
      behind = omega arith;
      inside = λ l. l;
    }

module _ (text : List ℕ) (at c : ℕ) (f : Formula) (n : Needs) (here : ℕ) (r : Reading text at c f n here) (token : Found) (t : TokenAt text here token) where
  tok : Token
  tok = token_of text token.first token.next token.kind

  abbrev p : Piece
  p = kind_piece token.kind

  -- one token more
  step_says : formula_step c (state_of c f r.needs) tok
      ≡ turn_of c (needs_next c f.stage p r.needs) (meaning_at c f.atoms r.needs f.stage) (turn_at c f p n.pairs)
  unfolding tok
  step_says =
      turn_is_step c f r.needs tok
      ∙ ap (λ (x : Piece). turn_of c (needs_next c f.stage x r.needs) (meaning_at c f.atoms r.needs f.stage) (turn_at c f x (length r.needs)))
      (piece_token text token.first token.next token.kind)
      ∙ ap (λ (q : ℕ). turn_of c (needs_next c f.stage p r.needs) (meaning_at c f.atoms r.needs f.stage) (turn_at c f p q)) (sym r.counts.pairs)

  run_says : (x : Turn) → turn_at c f p n.pairs ≡ x
      → formula_run c (formula_begin c) (tokens_at text at)
      ≡ onward (turn_of c (needs_next c f.stage p r.needs) (meaning_at c f.atoms r.needs f.stage) x)
      (λ s. formula_run c s (unless_finished tok (tokens_at text token.next))) (placed token.first token.next tok) (unless_finished tok (tokens_at text token.next))
  unfolding formula_run tok
  run_says x e =
      r.run
      ∙ rw (tokens_next text here token t, ← e)
      (ap (λ (y : FormulaStep). onward y (λ s. formula_run c s rest) (placed token.first token.next tok) rest) step_says)
    where
      rest : List Placed
      rest = unless_finished tok (tokens_at text token.next)

  -- what is no token of a formula does not let the reader go on
  not_finish : (f' : Formula) → turn_at c f p n.pairs ≡ turn_is.Go f' → token.kind ≡ kind_is.Finish → ⊥
  not_finish f' e k = foreign f.stage f.depth (rw k at e)
    where
      foreign : (g : Stage) (d : ℕ) → turns.on_stage c d f.atoms g piece_is.Foreign n.pairs ≡ turn_is.Go f' → ⊥
      foreign (stage_is.Operand a) d e = let z : ◌≡◌ {A = ℕ} 0 1 = cc in omega arith
      foreign (stage_is.Named b) d e = let z : ◌≡◌ {A = ℕ} 0 1 = cc in omega arith
      foreign (stage_is.Bracket b) d e = let z : ◌≡◌ {A = ℕ} 0 1 = cc in omega arith
      foreign (stage_is.Number b) d e = let z : ◌≡◌ {A = ℕ} 0 1 = cc in omega arith
      foreign (stage_is.After b) zero e = let z : ◌≡◌ {A = ℕ} 0 1 = cc in omega arith
      foreign (stage_is.After b) (suc d) e = let z : ◌≡◌ {A = ℕ} 0 1 = cc in omega arith

  pub goes_moves : (f' : Formula) → turn_at c f p n.pairs ≡ turn_is.Go f' → Moves text here token
  goes_moves f' e = token_takes text here token t (not_finish f' e)

  pub reading_goes : (f' : Formula) → turn_at c f p n.pairs ≡ turn_is.Go f' → Reading text at c f' (counted_to n c f.atoms f.stage p) token.next
  unfolding tok
  reading_goes f' e =
      let m = goes_moves f' e in
      let k = keeps c r.needs n f p f' e in
      record {
        needs = needs_next c f.stage p r.needs;
        run =
            run_says (turn_is.Go f') e
            ∙ ap (formula_run c (state_of c f' (needs_next c f.stage p r.needs))) (unless_kind text token.first token.next token.kind _ (not_finish f' e));
        counts = k.counts r.counts r.bounded;
        bounded = k.bounded r.bounded;
        within = within_up (suc here) token.next f' (omega (arith, m.behind_at, m.takes)) (k.within here r.within);
        behind = omega (arith, m.behind_at, m.takes, r.behind);
        inside = λ l. m.within;
      }

  -- `(` takes a byte, so there is room for one bracket more
  pub left_room : length text < 18446744073709551616 → p ≡ piece_is.Left → here < bracket_room
  left_room l e =
      let m = token_takes text here token t (λ k. left_no (rw k at e)) in
      omega (arith, m.behind_at, m.takes, m.within)
    where
      left_no : piece_is.Foreign ≡ piece_is.Left → ⊥
      left_no e = let z : ◌≡◌ {A = ℕ} 0 1 = cc in omega arith

  pub reading_wrong : (k : ℕ) → turn_at c f p n.pairs ≡ turn_is.Wrong k → FormulaAt text at c (Err (record { number = k; place = token.first }))
  unfolding tok
  reading_wrong k e =
      record {
        is = run_says (turn_is.Wrong k) e;
        behind_at = omega (arith, t.behind_at, r.behind);
        within = λ l. omega (arith, t.within (r.inside l), t.behind_first);
        needs = tt;
      }

  -- only behind an operand is the formula over
  stage_says : (g : Stage) (d : ℕ) → turns.on_stage c d f.atoms g p n.pairs ≡ turn_is.Over
      → Says text here (meaning_at c f.atoms r.needs g) (over_read c f.atoms n here g)
  stage_says (stage_is.After b) d e = past_says text c f.atoms r.needs n here b r.counts
  stage_says (stage_is.Operand a) d e = record { is = refl; place = refl; needs = tt }
  stage_says (stage_is.Named b) d e = record { is = refl; place = refl; needs = tt }
  stage_says (stage_is.Bracket b) d e = record { is = refl; place = refl; needs = tt }
  stage_says (stage_is.Number b) d e = record { is = refl; place = refl; needs = tt }

  pub reading_over : turn_at c f p n.pairs ≡ turn_is.Over → FormulaAt text at c (Ok (over_read c f.atoms n here f.stage))
  unfolding tok
  reading_over e =
      let s = stage_says f.stage f.depth e in
      record {
        is = run_says turn_is.Over e ∙ ap (over_at (meaning_at c f.atoms r.needs f.stage)) (sym (tokens_next text here token t)) ∙ s.is;
        behind_at = rw s.place r.behind;
        within = λ l. rw s.place (r.inside l);
        needs = s.needs;
      }
