-- Values that are not of their form, in a line: where a part of one stops, the whole does. Assumes nothing.
use mathlib.Core.Path.{◌≡◌, refl, sym, ap, subst, ◌∙◌}
use mathlib.Core.List.{List, [], ◌∷◌, ◌++◌, append_assoc}
use mathlib.Core.Option.{Option, some, none}
use Prim.Native.Nat.{ℕ, suc, ◌+◌, ◌-◌}
use native.Mathlib.Omega.{arith}
use lib.Dec.{eqb}
use lib.ListN.{length, get_or, take, drop, length-append, length-drop, take-append-drop}
use lib.Seq.{take_at, get_or-append_seam, get_or-drop, drop-drop, drop-cons}
use borrow.Author.Tests.{ne_eqb}
use Rattle.marks.proofs.Cases.{same}
use Rattle.table.specs.Row.{part}
use Rattle.job_values.specs.Bytes.{newline, comma, ahead}
use Rattle.job_values.specs.inner.Field.{Within, Ended, Then, Stuck, Got, Lost}
use Rattle.job_values.specs.inner.Told.{Unformed}
use Rattle.job_values.proofs.Cut.{by_test}
use Rattle.job_values.proofs.Sets.{Apart, then_front, then_back, stuck_also, stuck_in, stuck_none}
use Rattle.job_values.proofs.Fields.{ahead_append, newline_there, within_on, given_some}

-- ---- lists without a byte

pub free_other : (b x : ℕ) (v : List ℕ) → (x ≡ b → ⊥) → ahead b v ≡ length v → ahead b (x ∷ v) ≡ length (x ∷ v)
unfolding ahead
free_other b x v h e = rw (ne_eqb x b h) (ap suc e)

pub free_join : (b : ℕ) (v u : List ℕ) → ahead b v ≡ length v → ahead b u ≡ length u → ahead b (v ++ u) ≡ length (v ++ u)
unfolding ahead
free_join b [] u e f = f
free_join b (x ∷ v) u e f =
    by_test (eqb x b) (λ t. absurd (let z : 0 ≡ suc (length v) = rw t at e in omega (arith, z)))
    (λ t. let z : suc (ahead b v) ≡ suc (length v) = rw t at e in rw t (ap suc (free_join b v u (omega (arith, z)) f)))

module _ (text : List ℕ) (at end : ℕ) (w : Within text at end) where
  -- the value up to the newline byte
  pub part_is : (v : List ℕ) → ahead newline v ≡ length v → (q : List ℕ) → drop at text ≡ v ++ (newline ∷ q) → part at end text ≡ v
  part_is v free q e =
      let n : length v ≡ end - at = sym (ahead_append newline v q free) ∙ sym (ap (ahead newline) e) ∙ w.first in
      ap (take (end - at)) e ∙ take_at v (newline ∷ q) (end - at) n

  -- the line from here on
  pub line_is : drop at text ≡ (part at end text ++ (newline ∷ [])) ++ drop (suc end) text
  line_is =
      let f : at + (end - at) ≡ end = omega (arith, w.ordered) in
      sym (take-append-drop (end - at) (drop at text))
      ∙ ap (λ (z : List ℕ). part at end text ++ z) (drop-drop (end - at) at text ∙ rw (f, drop-cons text end 0 w.ends, newline_there text at end w))
      ∙ sym (append_assoc (part at end text) (newline ∷ []) (drop (suc end) text))

  -- behind a comma the line goes on
  pub got_within : (form : List ℕ → Option ℕ) (x next : ℕ) → Got comma form text at end x next → Within text next end
  got_within form x next g =
      let n : length g.value + 1 ≡ next - at = got_long form x next g in
      let c : get_or text (at + length g.value) 0 ≡ comma = sym (get_or-drop at text (length g.value) 0) ∙ ap (λ (z : List ℕ). get_or z (length g.value) 0) g.is ∙ get_or-append_seam g.value comma (drop next text) 0 in
      within_on text at end w next (omega (arith, g.behind))
      (same (at + length g.value) end
      (λ (q : at + length g.value ≡ end). absurd (let z : comma ≡ newline = sym c ∙ ap (λ (m : ℕ). get_or text m 0) q ∙ newline_there text at end w in omega (arith, z)))
      (λ (q : at + length g.value ≡ end → ⊥). omega (arith, n, g.behind, g.ends)))
    where
      got_long : (form : List ℕ → Option ℕ) (x next : ℕ) (g : Got comma form text at end x next) → length g.value + 1 ≡ next - at
      got_long form x next g =
          omega (arith, ap length g.is, length-append g.value (comma ∷ drop next text), length-drop at text, length-drop next text, g.behind, g.ends, w.ends)

  -- no value of the form stands there
  pub lost_unformed : {A : Type 0} (form : List ℕ → Option A) (R : List ℕ → Type 0) → Apart R → ((l : List ℕ) → Ended newline form l → R l) → ((l : List ℕ) → R l → Ended newline form l)
      → (e : ℕ) → Lost R text at end e → Unformed form text at end e
  lost_unformed form R apart f g e l =
      record {
        none_said = go (form (part at end text)) refl;
        lost = record { ordered = l.ordered; ends = l.ends; stuck = stuck_also R (Ended newline form) g f (drop at text) (e - at) l.stuck };
      }
    where
      go : (o : Option _) → form (part at end text) ≡ o → form (part at end text) ≡ none
      go none q = q
      go (some a) q =
          absurd (stuck_none R (drop at text) (e - at) l.stuck apart (part at end text ++ (newline ∷ [])) (drop (suc end) text) line_is (f _ (record { value = part at end text; right = given_some (form (part at end text)) a q; is = refl })))

module _ (text : List ℕ) (at end : ℕ) where
  pub lost_front : (R S : List ℕ → Type 0) (e : ℕ) → Apart R → Lost R text at end e → (y : List ℕ) → S y → Lost (Then R S) text at end e
  lost_front R S e apart l y s = record { ordered = l.ordered; ends = l.ends; stuck = then_front R S (drop at text) (e - at) apart l.stuck y s }

  pub lost_back : (stop : ℕ) (form : List ℕ → Option ℕ) (S : List ℕ → Type 0) (x next : ℕ) → Got stop form text at end x next → (e : ℕ) → Apart (Ended stop form)
      → Lost S text next end e → Lost (Then (Ended stop form) S) text at end e
  lost_back stop form S x next g e apart l =
      let f : drop at text ≡ (g.value ++ (stop ∷ [])) ++ drop next text = g.is ∙ sym (append_assoc g.value (stop ∷ []) (drop next text)) in
      let k : length (g.value ++ (stop ∷ [])) + (e - next) ≡ e - at =
      omega (arith, ap length f, length-append (g.value ++ (stop ∷ [])) (drop next text), length-drop at text, length-drop next text, g.behind, g.ends, l.ordered, stuck_in S (drop next text) (e - next) l.stuck) in
      record {
        ordered = omega (arith, g.behind, l.ordered);
        ends = l.ends;
        stuck =
            subst (λ (z : List ℕ). Stuck (Then (Ended stop form) S) z (e - at)) (sym f)
            (subst (λ (n : ℕ). Stuck (Then (Ended stop form) S) ((g.value ++ (stop ∷ [])) ++ drop next text) n) k
            (then_back (Ended stop form) S (g.value ++ (stop ∷ [])) (drop next text) (e - next) apart (record { value = g.value; right = given_some (form g.value) x g.says; is = refl }) l.stuck));
      }
