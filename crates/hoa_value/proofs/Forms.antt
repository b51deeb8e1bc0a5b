-- The formula inside the header: the header's machine goes as the formula's does, and behind a whole formula as where an item may begin. Assumes nothing.
use mathlib.Core.Path.{◌≡◌, refl, ap, ◌∙◌}
use mathlib.Core.List.{List, [], ◌∷◌}
use Prim.Native.Nat.{ℕ, ◌≤◌, ◌<◌}
use native.Mathlib.Omega.{arith}
use lib.ListN.{length}
use borrow.Author.Tests.{lt-ltb, le-ltb}
use Rattle.table.specs.declared.Acceptance.{Acceptance}
use Rattle.std.specs.Prelude.{Result, Ok, Err}
use Rattle.hoa_tokens.specs.declared.BadToken.{BadToken}
use Rattle.hoa_tokens.specs.Token.{int}
use Rattle.hoa_tokens.specs.Stream.{Placed, tokens_at}
use Rattle.hoa_standard.specs.Formulas as formula
use Rattle.hoa_standard.specs.Standard.{standard, short}
use Rattle.hoa_standard.specs.Formulas.{FormulaState, formula_begin, formula_step, formula_run, FormulaStep, FormulaEnd, onward}
use Rattle.hoa_formula.specs.declared.FormulaRead.{FormulaRead}
use Rattle.hoa_formula.specs.declared.FormulaRead.TheVariants as found_is
use Rattle.hoa_formula.specs.Reading.{found_says, found_place, FormulaAt}
use Rattle.hoa_step.specs.Machine.{End, wrong_at, cut, end_by, run, wants_int}
use Rattle.hoa_step.specs.declared.IntAt.{IntAt}
use Rattle.hoa_step.specs.Wanted.{Next, Faulty, int_fault}
use Rattle.hoa_step.proofs.Runs.{first_goes, first_wrong, int_wrong, faulty_within}
use Rattle.hoa_value.specs.declared.Head.{Head}
use Rattle.hoa_value.specs.declared.token.Spot.{Spot}
use Rattle.hoa_value.specs.Head.{most_marks, with_marks}
use Rattle.hoa_value.specs.Heading.{items, marks_int, in_formula, head_step, piece_of, on_formula, on_marks, behind_formula}
use Rattle.hoa_value.specs.inner.Pieces.{Spotted, misplaced_number, misplaced_token}
use Rattle.hoa_value.specs.inner.Values.{MarksRead}
use Rattle.hoa_value.proofs.Pieces.{unfinished_is}

-- ---- the two machines

-- how the header ends, where its formula ends so
abbrev formula_then : ℕ → Head → FormulaEnd → End Head
formula_then c h (formula.over_at m []) = cut
formula_then c h (formula.over_at m (p ∷ ps)) = end_by (behind_formula c h (piece_of p.token) m) p.place ps (λ s. run head_step ps s)
formula_then c h (formula.wrong_at n p) = wrong_at n p
formula_then c h formula.cut = cut

one_token : (c : ℕ) (h : Head) (p : Placed) (ps : List Placed) (x : FormulaStep)
    → ((s : FormulaState) → run head_step ps (in_formula c s h) ≡ formula_then c h (formula_run c s ps))
    → end_by (on_formula c h p.token x) p.place ps (λ s. run head_step ps s) ≡ formula_then c h (onward x (λ s. formula_run c s ps) p ps)
one_token c h p ps (formula.go s) same = same s
one_token c h p ps (formula.over m) same = refl
one_token c h p ps (formula.wrong n) same = refl

formula_same : (c : ℕ) (h : Head) (ps : List Placed) (s : FormulaState) → run head_step ps (in_formula c s h) ≡ formula_then c h (formula_run c s ps)
unfolding run head_step formula_run
formula_same c h [] s = refl
formula_same c h (p ∷ ps) s = one_token c h p ps (formula_step c s p.token) (λ t. formula_same c h ps t)

-- ---- behind the formula

behind_standard : (c : ℕ) (h : Head) (condition : Acceptance) (needs : List ℕ) (ps : List Placed)
    → formula_then c h (formula.over_at (standard condition needs) ps) ≡ run head_step ps (items (with_marks c condition needs h))
unfolding run head_step
behind_standard c h condition needs [] = refl
behind_standard c h condition needs (p ∷ ps) = refl

behind_short : (c : ℕ) (h : Head) (text : List ℕ) (at : ℕ) (r : Spot) → Spotted text at r
    → formula_then c h (formula.over_at short (tokens_at text at)) ≡ wrong_at (misplaced_number 41 r.piece) r.first
behind_short c h text at r s = rw (s.is, s.piece, unfinished_is r.piece)

-- ---- Acceptance:

pub marks_stop : (text : List ℕ) (at : ℕ) (e : BadToken) → Faulty text at int_fault e.number e.place → at ≤ length text → MarksRead text at (Err e)
unfolding head_step
marks_stop text at e f l =
    record {
      says = λ h. int_wrong head_step text at (marks_int h) (on_marks h) f (λ t. refl);
      stays = faulty_within f l;
    }

module _ (text : List ℕ) (at : ℕ) (i : IntAt) (n : Next text at i.place i.next (int i.value)) where
  pub marks_many : most_marks < i.value → MarksRead text at (Err (record { number = 42; place = i.place }))
  unfolding head_step wants_int
  marks_many l =
      record {
        says = λ h. first_wrong head_step text at n.is 42 (rw (lt-ltb most_marks i.value l));
        stays = omega (arith, n.takes, n.within);
      }

  module _ (l : i.value ≤ most_marks) where
    -- the INT is admitted, and then the formula decides
    in_formula_lem : (h : Head) → run head_step (tokens_at text at) (marks_int h) ≡ formula_then i.value h (formula_run i.value (formula_begin i.value) (tokens_at text i.next))
    unfolding head_step wants_int
    in_formula_lem h =
        first_goes head_step text at n.is (in_formula i.value (formula_begin i.value) h) (rw (le-ltb most_marks i.value l))
        ∙ formula_same i.value h (tokens_at text i.next) (formula_begin i.value)

    module _ {r : Result FormulaRead BadToken} (f : FormulaAt text i.next i.value r) where
      -- what is found decides
      found : (h : Head) → run head_step (tokens_at text at) (marks_int h) ≡ formula_then i.value h (found_says text r)
      found h = in_formula_lem h ∙ ap (formula_then i.value h) f.is

      found_in : found_place r ≤ length text
      found_in = f.within n.within

    pub formula_stops : (e : BadToken) → FormulaAt text i.next i.value (Err e) → MarksRead text at (Err e)
    formula_stops e f = record { says = λ h. found f h; stays = found_in f }

    pub formula_short : (next : ℕ) (spot : Spot) → FormulaAt text i.next i.value (Ok (found_is.Short next)) → Spotted text next spot
        → MarksRead text at (Err (misplaced_token 41 spot))
    formula_short next spot f s = record { says = λ h. found f h ∙ behind_short i.value h text next spot s; stays = s.within (found_in f) }

    pub formula_whole : (condition : Acceptance) (needs : List ℕ) (next : ℕ) → FormulaAt text i.next i.value (Ok (found_is.Standard condition needs next))
        → MarksRead text at (Ok (record { marks = i.value; condition = condition; needs = needs; next = next }))
    formula_whole condition needs next f =
        record {
          says = λ h. found f h ∙ behind_standard i.value h condition needs (tokens_at text next);
          stays = (omega (arith, n.behind_at, n.takes, f.behind_at), found_in f);
        }
