-- The first token from a place on: what it is where the header stands, and that a STRING takes two bytes at least, its quotes. Assumes nothing.
use mathlib.Core.Path.{◌≡◌, refl, sym, ap, ◌∙◌}
use mathlib.Core.Bool.{true, false≢true}
use mathlib.Core.List.{List, [], ◌∷◌}
use mathlib.Core.Option.{Option, some, none}
use Prim.{Unit, tt}
use Prim.Native.Nat.{ℕ, zero, ◌+◌, ◌-◌, ◌≤◌}
use native.Mathlib.Omega.{arith}
use lib.Dec.{eqb}
use lib.ListN.{get_or, take, drop}
use Rattle.hoa_tokens.specs.declared.Kind.{Kind}
use Rattle.hoa_tokens.specs.declared.Kind.TheVariants as kind_is
use Rattle.hoa_tokens.specs.declared.Header.{Header}
use Rattle.hoa_tokens.specs.declared.Header.TheVariants as header_is
use Rattle.hoa_tokens.specs.declared.Sign.{Sign}
use Rattle.hoa_tokens.specs.declared.Sign.TheVariants as sign_is
use Rattle.hoa_tokens.specs.declared.Found.{Found}
use Rattle.hoa_tokens.specs.Bytes.{bytes, is_digit, is_letter, is_name, run}
use Rattle.hoa_tokens.specs.Token.{Token, int, word, header, str, aname, sign, body, end, abort, finish, bad}
use Rattle.hoa_tokens.specs.Token.{is_int, number, named, quoted, closed, at as aliased, begins, fixed, sign_of, single, front}
use Rattle.hoa_tokens.specs.Stream.{Gap, gap, unclosed, lost, gap_of, Placed, first_of, first, unless_finished, tokens_at, token_of, TokenAt, part}
use Rattle.hoa_tokens.proofs.Sizes.{by_test}
use Rattle.hoa_tokens.proofs.Next.{tokens_next, unless_kind}
use Rattle.hoa_step.proofs.Wants.{found_next}
use Rattle.hoa_value.specs.declared.Piece.TheVariants as piece_is
use Rattle.hoa_value.specs.declared.token.Spot.{Spot}
use Rattle.hoa_value.specs.Heading.{piece_header, piece_sign, piece_of}
use Rattle.hoa_value.specs.inner.Pieces.{piece_kind, known, Spotted}

-- ---- a STRING takes two bytes at least

-- so many bytes are enough for the token
abbrev Wide : Token → ℕ → Type 0
Wide (str bs) k = 2 ≤ k
Wide (int n) k = Unit {0}
Wide (word w) k = Unit {0}
Wide (header h) k = Unit {0}
Wide aname k = Unit {0}
Wide (sign s) k = Unit {0}
Wide body k = Unit {0}
Wide end k = Unit {0}
Wide abort k = Unit {0}
Wide finish k = Unit {0}
Wide bad k = Unit {0}

number_wide : (bs : List ℕ) → Wide (number bs).token (number bs).size
unfolding number
number_wide bs = by_test (is_int (take (run is_digit bs) bs)) (λ e. rw e tt) (λ e. rw e tt)

named_wide : (bs : List ℕ) → Wide (named bs).token (named bs).size
unfolding named
named_wide bs = by_test (eqb (get_or bs (run is_name bs) 0) 58) (λ e. rw e tt) (λ e. rw e tt)

closed_wide : (bs : List ℕ) (o : Option ℕ) → Wide (closed bs o).token (closed bs o).size
closed_wide bs none = tt
closed_wide bs (some k) = omega arith

aliased_wide : (bs : List ℕ) → Wide (aliased bs).token (aliased bs).size
unfolding aliased
aliased_wide bs = by_test (eqb (run is_name bs) 0) (λ e. rw e tt) (λ e. rw e tt)

fixed_wide : (bs : List ℕ) → Wide (fixed bs).token (fixed bs).size
unfolding fixed
fixed_wide bs =
    by_test (begins (bytes "--BODY--") bs) (λ e. rw e tt)
    (λ e.
    by_test (begins (bytes "--END--") bs) (λ q. rw (e, q) tt)
    (λ q. by_test (begins (bytes "--ABORT--") bs) (λ a. rw (e, q, a) tt) (λ a. rw (e, q, a) tt)))

single_wide : (o : Option Sign) → Wide (single o).token (single o).size
single_wide none = tt
single_wide (some s) = tt

front_wide : (bs : List ℕ) → Wide (front bs).token (front bs).size
unfolding front
front_wide [] = tt
front_wide (b ∷ bs) =
    by_test (is_digit b) (λ e. rw e (number_wide (b ∷ bs)))
    (λ d.
    by_test (is_letter b) (λ e. rw (d, e) (named_wide (b ∷ bs)))
    (λ l.
    by_test (eqb b 34) (λ e. rw (d, l, e) (closed_wide bs (quoted bs)))
    (λ q.
    by_test (eqb b 64) (λ e. rw (d, l, q, e) (aliased_wide bs))
    (λ a. by_test (eqb b 45) (λ e. rw (d, l, q, a, e) (fixed_wide (b ∷ bs))) (λ f. rw (d, l, q, a, f) (single_wide (sign_of b)))))))

gap_wide : (at : ℕ) (bs inside : List ℕ) (g : Gap) (f : Placed) → first_of at bs g ≡ f → f.token ≡ str inside → f.place + 2 ≤ f.next
gap_wide at bs inside (gap n) f e t =
    let w : Wide (str inside) (front (drop n bs)).size = rw (ap (λ (p : Placed). p.token) e ∙ t) at (front_wide (drop n bs)) in
    omega (arith, ap (λ (p : Placed). p.place) e, ap (λ (p : Placed). p.next) e)
gap_wide at bs inside (unclosed n) f e t = absurd (let q : bad ≡ str inside = ap (λ (p : Placed). p.token) e ∙ t in let z : ◌≡◌ {A = ℕ} 0 1 = cc in omega arith)
gap_wide at bs inside lost f e t = absurd (let q : bad ≡ str inside = ap (λ (p : Placed). p.token) e ∙ t in let z : ◌≡◌ {A = ℕ} 0 1 = cc in omega arith)

first_wide : (at : ℕ) (bs inside : List ℕ) (f : Placed) → first at bs ≡ f → f.token ≡ str inside → f.place + 2 ≤ f.next
unfolding first
first_wide at bs inside f e t = gap_wide at bs inside (gap_of bs zero) f e t

-- ---- what a token of each kind is

piece_of_kind : (text : List ℕ) (a b : ℕ) (k : Kind) → piece_of (token_of text a b k) ≡ piece_kind k
unfolding piece_of
piece_of_kind text a b (kind_is.Int n) = refl
piece_of_kind text a b (kind_is.Word w) = refl
piece_of_kind text a b (kind_is.Header h) = refl
piece_of_kind text a b kind_is.Quoted = refl
piece_of_kind text a b kind_is.Alias = refl
piece_of_kind text a b (kind_is.Sign s) = refl
piece_of_kind text a b kind_is.Body = refl
piece_of_kind text a b kind_is.End = refl
piece_of_kind text a b kind_is.Abort = refl
piece_of_kind text a b kind_is.Finish = refl
piece_of_kind text a b kind_is.Bad = refl

header_no_text : (h : Header) → piece_header h ≡ piece_is.Text → kind_is.Header h ≡ kind_is.Quoted
header_no_text header_is.Hoa e = cc
header_no_text header_is.States e = cc
header_no_text header_is.Start e = cc
header_no_text header_is.Ap e = cc
header_no_text header_is.Alias e = cc
header_no_text header_is.Acceptance e = cc
header_no_text header_is.AccName e = cc
header_no_text header_is.Tool e = cc
header_no_text header_is.Name e = cc
header_no_text header_is.Properties e = cc
header_no_text header_is.State e = cc
header_no_text header_is.Capital e = cc
header_no_text header_is.Lower e = cc

sign_no_text : (s : Sign) → piece_sign s ≡ piece_is.Text → kind_is.Sign s ≡ kind_is.Quoted
sign_no_text sign_is.ParenLeft e = cc
sign_no_text sign_is.ParenRight e = cc
sign_no_text sign_is.BracketLeft e = cc
sign_no_text sign_is.BracketRight e = cc
sign_no_text sign_is.BraceLeft e = cc
sign_no_text sign_is.BraceRight e = cc
sign_no_text sign_is.And e = cc
sign_no_text sign_is.Or e = cc
sign_no_text sign_is.Not e = cc

-- only a STRING is one
kind_text : (k : Kind) → piece_kind k ≡ piece_is.Text → k ≡ kind_is.Quoted
kind_text (kind_is.Int n) e = cc
kind_text (kind_is.Word w) e = cc
kind_text (kind_is.Header h) e = header_no_text h e
kind_text kind_is.Quoted e = refl
kind_text kind_is.Alias e = cc
kind_text (kind_is.Sign s) e = sign_no_text s e
kind_text kind_is.Body e = cc
kind_text kind_is.End e = cc
kind_text kind_is.Abort e = cc
kind_text kind_is.Finish e = cc
kind_text kind_is.Bad e = cc

-- the text's end is not admitted
not_finish : (k : Kind) → known (piece_kind k) ≡ true → k ≡ kind_is.Finish → ⊥
not_finish k e q = false≢true (rw q at e)

-- ---- the first token

-- the token that is found, by what it is where the header stands
pub spotted : (text : List ℕ) (at : ℕ) (f : Found) (r : Spot) → TokenAt text at f
    → r.piece ≡ piece_kind f.kind → r.first ≡ f.first → r.next ≡ f.next → Spotted text at r
spotted text at f r h e a b =
    record {
      token = token_of text f.first f.next f.kind;
      rest = unless_finished (token_of text f.first f.next f.kind) (tokens_at text f.next);
      is = rw (a, b) (tokens_next text at f h);
      piece = rw e (piece_of_kind text f.first f.next f.kind);
      quoted = λ q. rw (a, b) (ap (token_of text f.first f.next) (kind_text f.kind (sym e ∙ q)));
      wide = λ q.
          rw (a, b)
          (first_wide at (drop at text) (part text (f.first + 1) (f.next - 1)) _ h.is (ap (token_of text f.first f.next) (kind_text f.kind (sym e ∙ q))));
      goes_on = λ q.
          let n = not_finish f.kind (rw e at q) in
          rw (a, b) (found_next f h (token_of text f.first f.next f.kind) refl n (unless_kind text f.first f.next f.kind (tokens_at text f.next) n));
      within = λ l. omega (arith, h.behind_first, h.within l);
    }
