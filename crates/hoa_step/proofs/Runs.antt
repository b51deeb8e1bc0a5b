-- What a machine does at the first token of a text: it goes on behind it, is done, or refuses it at its place. Assumes nothing.
use mathlib.Core.Path.{◌≡◌, ap}
use mathlib.Core.List.{List, ◌∷◌}
use mathlib.Core.Option.{Option, some}
use Prim.Native.Nat.{ℕ, ◌+◌, ◌≤◌}
use native.Mathlib.Omega.{arith}
use lib.ListN.{length, drop, length-drop}
use Rattle.hoa_tokens.specs.Token.{Token, int, str}
use Rattle.hoa_tokens.specs.Stream.{Placed, placed, first, tokens_at, some as up_to}
use Rattle.hoa_tokens.proofs.Next.{Stands, over, there, stands}
use Rattle.hoa_step.specs.Machine.{Step, go, wrong, wrong_at, end_by, run, wants_int, wants_text}
use Rattle.hoa_step.specs.Wanted.{Faulty, int_fault, text_fault}

-- ---- where the first token is known

module _ {S D : Type 0} (step : S → Token → Step S D) (text : List ℕ) (at : ℕ) {p q : ℕ} {t : Token} {rest : List Placed}
    (is : tokens_at text at ≡ placed p q t ∷ rest) where
  pub first_goes : {s : S} (s' : S) → step s t ≡ go s' → run step (tokens_at text at) s ≡ run step rest s'
  unfolding run
  first_goes s' e = rw (is, e)

  pub first_wrong : {s : S} (n : ℕ) → step s t ≡ wrong n → run step (tokens_at text at) s ≡ wrong_at n p
  unfolding run
  first_wrong n e = rw (is, e)

  -- a token that does the same in two states
  pub first_same : {s s' : S} → step s t ≡ step s' t → run step (tokens_at text at) s ≡ run step (tokens_at text at) s'
  unfolding run
  first_same e = rw (is, e)

  -- all of these
  pub first_is : (s : S) → run step (tokens_at text at) s ≡ end_by (step s t) p rest (λ s'. run step rest s')
  unfolding run
  first_is s = rw is

-- ---- where the token is faulty

-- a token that is no INT
pub wants_int_lem : {S D : Type 0} (f : ℕ → Step S D) (t : Token) (n : ℕ) → int_fault t ≡ some n → wants_int f t ≡ wrong n
unfolding wants_int int_fault
wants_int_lem f (int i) n e = cc
wants_int_lem f (Token.word w) n e = ap wrong cc
wants_int_lem f (Token.header h) n e = ap wrong cc
wants_int_lem f (str bs) n e = ap wrong cc
wants_int_lem f Token.aname n e = ap wrong cc
wants_int_lem f (Token.sign s) n e = ap wrong cc
wants_int_lem f Token.body n e = ap wrong cc
wants_int_lem f Token.end n e = ap wrong cc
wants_int_lem f Token.abort n e = ap wrong cc
wants_int_lem f Token.finish n e = ap wrong cc
wants_int_lem f Token.bad n e = ap wrong cc

-- a token that is no STRING
pub wants_text_lem : {S D : Type 0} (s : S) (t : Token) (n : ℕ) → text_fault t ≡ some n → wants_text {D = D} s t ≡ wrong n
unfolding wants_text text_fault
wants_text_lem s (int i) n e = ap wrong cc
wants_text_lem s (Token.word w) n e = ap wrong cc
wants_text_lem s (Token.header h) n e = ap wrong cc
wants_text_lem s (str bs) n e = cc
wants_text_lem s Token.aname n e = ap wrong cc
wants_text_lem s (Token.sign g) n e = ap wrong cc
wants_text_lem s Token.body n e = ap wrong cc
wants_text_lem s Token.end n e = ap wrong cc
wants_text_lem s Token.abort n e = ap wrong cc
wants_text_lem s Token.finish n e = ap wrong cc
wants_text_lem s Token.bad n e = ap wrong cc

module _ {S D : Type 0} (step : S → Token → Step S D) (text : List ℕ) (at : ℕ) {n p : ℕ} where
  -- in a state where an INT is wanted
  pub int_wrong : (s : S) (f : ℕ → Step S D) → Faulty text at int_fault n p → ((t : Token) → step s t ≡ wants_int f t)
      → run step (tokens_at text at) s ≡ wrong_at n p
  int_wrong s f h e = first_wrong step text at h.is n (rw (e h.token) (wants_int_lem f h.token n h.faulty))

  -- in a state where a STRING is wanted
  pub text_wrong : (s s' : S) → Faulty text at text_fault n p → ((t : Token) → step s t ≡ wants_text s' t)
      → run step (tokens_at text at) s ≡ wrong_at n p
  text_wrong s s' h e = first_wrong step text at h.is n (rw (e h.token) (wants_text_lem s' h.token n h.faulty))

-- ---- where the first token stands

stands_in : (at k : ℕ) (p : Placed) → Stands at k p → (p.place ≤ at + k) × (p.next ≤ at + k)
stands_in at k p (over _ a b) = (omega arith, omega arith)
stands_in at k p (there _ a b c) = (omega arith, omega arith)

first_found : (text : List ℕ) (at : ℕ) (f : Placed) (rest : List Placed) → tokens_at text at ≡ f ∷ rest → first at (drop at text) ≡ f
unfolding tokens_at up_to
first_found text at f rest e = cc

-- within the text
pub first_within : (text : List ℕ) (at : ℕ) (f : Placed) (rest : List Placed) → tokens_at text at ≡ f ∷ rest → at ≤ length text → f.place ≤ length text
first_within text at f rest e l =
    omega (arith, (rw (first_found text at f rest e) at (stands_in at (length (drop at text)) (first at (drop at text)) (stands at (drop at text)))).0, length-drop at text)

pub faulty_within : {text : List ℕ} {at n p : ℕ} {fault : Token → Option ℕ} → Faulty text at fault n p → at ≤ length text → p ≤ length text
faulty_within {text} {at} {n} {p} h l = first_within text at (placed p h.next h.token) h.rest h.is l
