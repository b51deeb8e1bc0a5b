-- What the promise means: it allows one header and one refusal (`one_header`), and the header of a text always ends (`never_cut`). Assumes nothing.
use mathlib.Core.Path.{◌≡◌, refl, sym, ap, ◌∙◌}
use mathlib.Core.List.{List}
use Prim.Native.Nat.{ℕ, zero, suc}
use native.Mathlib.Omega.{arith}
use lib.Dec.{ltb}
use lib.ListN.{length}
use Rattle.std.specs.Prelude.{Result, Ok, Err}
use Rattle.hoa_tokens.specs.declared.BadToken.{BadToken}
use Rattle.hoa_tokens.specs.Token.{finish}
use Rattle.hoa_tokens.specs.Stream.{tokens_at}
use Rattle.hoa_tokens.proofs.Sizes.{by_test}
use Rattle.hoa_standard.specs.Formulas as formula
use Rattle.hoa_standard.specs.Formulas.{FormulaState, FormulaStep, formula_step, free_step, limited, on_stage, Stage, piece_of as formula_piece}
use Rattle.hoa_standard.specs.Standard.{standard, short}
use Rattle.hoa_step.specs.Machine.{go, wrong, End, done_at, wrong_at, cut, wants_int, wants_text}
use Rattle.hoa_step.proofs.Finishes as finishes
use Rattle.hoa_value.specs.declared.Head.{Head}
use Rattle.hoa_head.specs.declared.HeadRead.{HeadRead}
use Rattle.hoa_value.specs.Heading.{HeadState, opening, version, items, states_int, start_int, props_int, marks_int, start_more, names, in_formula}
use Rattle.hoa_value.specs.Heading.{acc_name, tool_text, tool_more, name_text, hints}
use Rattle.hoa_value.specs.Heading.{head_step, piece_of, on_opening, on_version, on_names, on_formula}
use Rattle.hoa_head.specs.Headed.{Headed, Ends, head_end}

-- ---- two results that are allowed

-- both say the same: the same header, and the same tokens are left, or the same token is refused
abbrev pub SameEnd : List ℕ → Result HeadRead BadToken → Result HeadRead BadToken → Type 0
SameEnd text (Ok a) (Ok b) = (a.head ≡ b.head) × (tokens_at text a.next ≡ tokens_at text b.next)
SameEnd text (Ok a) (Err d) = ⊥
SameEnd text (Err e) (Ok b) = ⊥
SameEnd text (Err e) (Err d) = e ≡ d

same_bad : (e d : BadToken) → e.number ≡ d.number → e.place ≡ d.place → e ≡ d
same_bad e d p q = λ i. record { number = p i; place = q i }

two_ends : (text : List ℕ) (e : End Head) (r s : Result HeadRead BadToken) → Ends text e r → Ends text e s → SameEnd text r s
two_ends text e (Ok a) (Ok b) x y =
    let q : done_at a.head (tokens_at text a.next) ≡ done_at b.head (tokens_at text b.next) = sym x.0 ∙ y.0 in
    (cc, cc)
two_ends text e (Ok a) (Err d) x y =
    absurd (let q : done_at a.head (tokens_at text a.next) ≡ wrong_at d.number d.place = sym x.0 ∙ y.0 in let z : ◌≡◌ {A = ℕ} 0 1 = cc in omega arith)
two_ends text e (Err d) (Ok b) x y =
    absurd (let q : done_at b.head (tokens_at text b.next) ≡ wrong_at d.number d.place = sym y.0 ∙ x.0 in let z : ◌≡◌ {A = ℕ} 0 1 = cc in omega arith)
two_ends text e (Err c) (Err d) x y =
    let g : ◌≡◌ {A = End Head} (wrong_at c.number c.place) (wrong_at d.number d.place) = sym x.0 ∙ y.0 in
    let p : c.number ≡ d.number = cc in
    let q : c.place ≡ d.place = cc in
    same_bad c d p q

-- they have the same header, and say the same of what is behind it
pub one_header : (text : List ℕ) (r s : Result HeadRead BadToken) → Headed text r → Headed text s → SameEnd text r s
one_header text r s a b = two_ends text (head_end text) r s a.says b.says

-- a refusal is one result, whole
pub one_refusal : (text : List ℕ) (r s : Result HeadRead BadToken) (e : BadToken) → Headed text r → Headed text s → r ≡ Err e → r ≡ s
one_refusal text r s e a b q = q ∙ refused s b
  where
    first : Headed text (Err e)
    first = rw q at a

    refused : (s : Result HeadRead BadToken) → Headed text s → Err e ≡ s
    refused (Ok x) b = absurd (one_header text (Err e) (Ok x) first b)
    refused (Err d) b = ap Err (one_header text (Err e) (Err d) first b)

-- ---- the text's end is never admitted

formula_stops : (c : ℕ) (d n : ℕ) (ns : List ℕ) (g : Stage) (s : FormulaState) → limited (on_stage c d n ns g (formula_piece finish)) ≡ formula.go s → ⊥
unfolding formula_piece
formula_stops c d n ns (formula.operand w) s e = let z : ◌≡◌ {A = ℕ} 0 1 = cc in omega arith
formula_stops c d n ns (formula.named b) s e = let z : ◌≡◌ {A = ℕ} 0 1 = cc in omega arith
formula_stops c d n ns (formula.bracket b) s e = let z : ◌≡◌ {A = ℕ} 0 1 = cc in omega arith
formula_stops c d n ns (formula.number b) s e = let z : ◌≡◌ {A = ℕ} 0 1 = cc in omega arith
formula_stops c zero n ns (formula.after b) s e = let z : ◌≡◌ {A = ℕ} 0 1 = cc in omega arith
formula_stops c (suc d) n ns (formula.after b) s e = let z : ◌≡◌ {A = ℕ} 0 1 = cc in omega arith

no_go : (c : ℕ) (x s : FormulaState) → formula_step c x finish ≡ formula.go s → ⊥
unfolding formula_step free_step
no_go c x s e = formula_stops c x.depth x.atoms x.needs x.stage s e

on_formula_lem : (c : ℕ) (h : Head) (x : FormulaStep) (s : HeadState) → ((y : FormulaState) → x ≡ formula.go y → ⊥) → on_formula c h finish x ≡ go s → ⊥
unfolding piece_of
on_formula_lem c h (formula.go y) s n e = n y refl
on_formula_lem c h (formula.over (standard condition needs)) s n e = let z : ◌≡◌ {A = ℕ} 0 1 = cc in omega arith
on_formula_lem c h (formula.over short) s n e = let z : ◌≡◌ {A = ℕ} 0 1 = cc in omega arith
on_formula_lem c h (formula.wrong k) s n e = let z : ◌≡◌ {A = ℕ} 0 1 = cc in omega arith

on_names_lem : (a : ℕ) (ns : List (List ℕ)) (h : Head) (s : HeadState) → on_names a ns h finish ≡ go s → ⊥
unfolding on_names piece_of
on_names_lem a ns h s e =
    by_test (ltb (length ns) a) (λ t. let q : wrong 40 ≡ go s = rw t at e in let z : ◌≡◌ {A = ℕ} 0 1 = cc in omega arith)
    (λ t. let q : wrong 40 ≡ go s = rw t at e in let z : ◌≡◌ {A = ℕ} 0 1 = cc in omega arith)

pub head_ends : (x s : HeadState) → head_step x finish ≡ go s → ⊥
unfolding head_step on_opening on_version piece_of wants_int wants_text
head_ends opening s e = let z : ◌≡◌ {A = ℕ} 0 1 = cc in omega arith
head_ends version s e = let z : ◌≡◌ {A = ℕ} 0 1 = cc in omega arith
head_ends (items h) s e = let z : ◌≡◌ {A = ℕ} 0 1 = cc in omega arith
head_ends (states_int h) s e = let z : ◌≡◌ {A = ℕ} 0 1 = cc in omega arith
head_ends (start_int h) s e = let z : ◌≡◌ {A = ℕ} 0 1 = cc in omega arith
head_ends (props_int h) s e = let z : ◌≡◌ {A = ℕ} 0 1 = cc in omega arith
head_ends (marks_int h) s e = let z : ◌≡◌ {A = ℕ} 0 1 = cc in omega arith
head_ends (start_more h) s e = let z : ◌≡◌ {A = ℕ} 0 1 = cc in omega arith
head_ends (names a ns h) s e = on_names_lem a ns h s e
head_ends (in_formula c x h) s e = on_formula_lem c h (formula_step c x finish) s (no_go c x) e
head_ends (acc_name h) s e = let z : ◌≡◌ {A = ℕ} 0 1 = cc in omega arith
head_ends (tool_text h) s e = let z : ◌≡◌ {A = ℕ} 0 1 = cc in omega arith
head_ends (tool_more h) s e = let z : ◌≡◌ {A = ℕ} 0 1 = cc in omega arith
head_ends (name_text h) s e = let z : ◌≡◌ {A = ℕ} 0 1 = cc in omega arith
head_ends (hints ints texts h) s e = let z : ◌≡◌ {A = ℕ} 0 1 = cc in omega arith

-- the header of a text always ends
pub never_cut : (text : List ℕ) → head_end text ≡ cut → ⊥
unfolding head_end
never_cut text e = finishes.never_cut head_step head_ends text 0 opening e
