-- A token that is found where an INT or a STRING is wanted: it is one, or faulty. Assumes nothing.
use mathlib.Core.Path.{◌≡◌, refl, ap, ◌∙◌}
use mathlib.Core.List.{List}
use mathlib.Core.Option.{Option, some}
use Prim.Native.Nat.{ℕ, ◌+◌, ◌-◌}
use native.Mathlib.Omega.{arith}
use Rattle.std.specs.Prelude.{Ok, Err}
use Rattle.hoa_tokens.specs.declared.Kind.{Kind}
use Rattle.hoa_tokens.specs.declared.Kind.TheVariants as kind_is
use Rattle.hoa_tokens.specs.declared.Found.{Found}
use Rattle.hoa_tokens.specs.Token.{Token, int, str}
use Rattle.hoa_tokens.specs.Stream.{tokens_at, unless_finished, token_of, TokenAt, part}
use Rattle.hoa_tokens.proofs.Next.{tokens_next, token_takes}
use Rattle.hoa_step.specs.Wanted.{Next, Faulty, Quoted, int_fault, text_fault}
use Rattle.hoa_step.specs.inner.Kinds.{int_kind, text_kind}

-- the token that is found
abbrev pub found_token : List ℕ → Found → Token
found_token text f = token_of text f.first f.next f.kind

-- ---- any token that is found

module _ {text : List ℕ} {at : ℕ} (f : Found) (h : TokenAt text at f) where
  -- the token behind which the tokens go on: each but the text's end
  pub found_next : (t : Token) → found_token text f ≡ t → (f.kind ≡ kind_is.Finish → ⊥) → unless_finished t (tokens_at text f.next) ≡ tokens_at text f.next
      → Next text at f.first f.next t
  found_next t e n u =
      let m = token_takes text at f h n in
      record {
        is = tokens_next text at f h ∙ rw (e, u);
        behind_at = m.behind_at;
        takes = m.takes;
        within = m.within;
      }

  -- a token that is faulty
  pub found_faulty : (fault : Token → Option ℕ) (n : ℕ) → fault (found_token text f) ≡ some n → Faulty text at fault n f.first
  found_faulty fault n e =
      record {
        token = found_token text f;
        next = f.next;
        rest = unless_finished (found_token text f) (tokens_at text f.next);
        is = tokens_next text at f h;
        faulty = e;
      }

-- ---- INT

int_is : (text : List ℕ) (a b v : ℕ) (k : Kind) → int_kind k ≡ Ok v → k ≡ kind_is.Int v
int_is text a b v (kind_is.Int n) e = ap kind_is.Int cc
int_is text a b v (kind_is.Word w) e = cc
int_is text a b v (kind_is.Header w) e = cc
int_is text a b v kind_is.Quoted e = cc
int_is text a b v kind_is.Alias e = cc
int_is text a b v (kind_is.Sign s) e = cc
int_is text a b v kind_is.Body e = cc
int_is text a b v kind_is.End e = cc
int_is text a b v kind_is.Abort e = cc
int_is text a b v kind_is.Finish e = cc
int_is text a b v kind_is.Bad e = cc

int_is_not : (text : List ℕ) (a b n : ℕ) (k : Kind) → int_kind k ≡ Err n → int_fault (token_of text a b k) ≡ some n
unfolding int_fault
int_is_not text a b n (kind_is.Int v) e = cc
int_is_not text a b n (kind_is.Word w) e = ap some cc
int_is_not text a b n (kind_is.Header w) e = ap some cc
int_is_not text a b n kind_is.Quoted e = ap some cc
int_is_not text a b n kind_is.Alias e = ap some cc
int_is_not text a b n (kind_is.Sign s) e = ap some cc
int_is_not text a b n kind_is.Body e = ap some cc
int_is_not text a b n kind_is.End e = ap some cc
int_is_not text a b n kind_is.Abort e = ap some cc
int_is_not text a b n kind_is.Finish e = ap some cc
int_is_not text a b n kind_is.Bad e = ap some cc

no_end : (k : Kind) (v : ℕ) → k ≡ kind_is.Int v → k ≡ kind_is.Finish → ⊥
no_end k v e g = let z : ◌≡◌ {A = ℕ} 0 1 = cc in omega arith

pub int_next : {text : List ℕ} {at : ℕ} (f : Found) (v : ℕ) → TokenAt text at f → int_kind f.kind ≡ Ok v
    → Next text at f.first f.next (int v)
int_next {text} f v h e =
    let k = int_is text f.first f.next v f.kind e in
    found_next f h (int v) (ap (token_of text f.first f.next) k) (no_end f.kind v k) refl

pub int_faulty : {text : List ℕ} {at : ℕ} (f : Found) (n : ℕ) → TokenAt text at f → int_kind f.kind ≡ Err n
    → Faulty text at int_fault n f.first
int_faulty {text} f n h e = found_faulty f h int_fault n (int_is_not text f.first f.next n f.kind e)

-- ---- STRING

text_is : (text : List ℕ) (a b : ℕ) (k : Kind) → text_kind k ≡ Ok tt → k ≡ kind_is.Quoted
text_is text a b (kind_is.Int n) e = cc
text_is text a b (kind_is.Word w) e = cc
text_is text a b (kind_is.Header w) e = cc
text_is text a b kind_is.Quoted e = refl
text_is text a b kind_is.Alias e = cc
text_is text a b (kind_is.Sign s) e = cc
text_is text a b kind_is.Body e = cc
text_is text a b kind_is.End e = cc
text_is text a b kind_is.Abort e = cc
text_is text a b kind_is.Finish e = cc
text_is text a b kind_is.Bad e = cc

text_is_not : (text : List ℕ) (a b n : ℕ) (k : Kind) → text_kind k ≡ Err n → text_fault (token_of text a b k) ≡ some n
unfolding text_fault
text_is_not text a b n (kind_is.Int v) e = ap some cc
text_is_not text a b n (kind_is.Word w) e = ap some cc
text_is_not text a b n (kind_is.Header w) e = ap some cc
text_is_not text a b n kind_is.Quoted e = cc
text_is_not text a b n kind_is.Alias e = ap some cc
text_is_not text a b n (kind_is.Sign s) e = ap some cc
text_is_not text a b n kind_is.Body e = ap some cc
text_is_not text a b n kind_is.End e = ap some cc
text_is_not text a b n kind_is.Abort e = ap some cc
text_is_not text a b n kind_is.Finish e = ap some cc
text_is_not text a b n kind_is.Bad e = ap some cc

text_no_end : (k : Kind) → k ≡ kind_is.Quoted → k ≡ kind_is.Finish → ⊥
text_no_end k e g = let z : ◌≡◌ {A = ℕ} 0 1 = cc in omega arith

pub text_next : {text : List ℕ} {at : ℕ} (f : Found) → TokenAt text at f → text_kind f.kind ≡ Ok tt → Quoted text at f.next
text_next {text} f h e =
    let k = text_is text f.first f.next f.kind e in
    let bs = part text (f.first + 1) (f.next - 1) in
    record {
      place = f.first;
      bytes = bs;
      there = found_next f h (str bs) (ap (token_of text f.first f.next) k) (text_no_end f.kind k) refl;
    }

pub text_faulty : {text : List ℕ} {at : ℕ} (f : Found) (n : ℕ) → TokenAt text at f → text_kind f.kind ≡ Err n
    → Faulty text at text_fault n f.first
text_faulty {text} f n h e = found_faulty f h text_fault n (text_is_not text f.first f.next n f.kind e)
