-- Two tokens that are found at one place are the same (`one_token`). Assumes nothing.
use mathlib.Core.Path.{◌≡◌, refl, sym, ap, ◌∙◌}
use mathlib.Core.List.{List}
use Prim.Native.Nat.{ℕ}
use Rattle.hoa_tokens.specs.declared.Kind.{Kind}
use Rattle.hoa_tokens.specs.declared.Kind.TheVariants as kind_is
use Rattle.hoa_tokens.specs.declared.Found.{Found}
use Rattle.hoa_tokens.specs.Token.{Token, int, word, header, str, aname, sign, body, end, abort, finish, bad}
use Rattle.hoa_tokens.specs.Stream.{token_of, TokenAt}

-- the kind of a token
kind_of : Token → Kind
kind_of (int n) = kind_is.Int n
kind_of (word w) = kind_is.Word w
kind_of (header h) = kind_is.Header h
kind_of (str bs) = kind_is.Quoted
kind_of aname = kind_is.Alias
kind_of (sign s) = kind_is.Sign s
kind_of body = kind_is.Body
kind_of end = kind_is.End
kind_of abort = kind_is.Abort
kind_of finish = kind_is.Finish
kind_of bad = kind_is.Bad

-- a token tells its kind
kind_again : (text : List ℕ) (a b : ℕ) (k : Kind) → kind_of (token_of text a b k) ≡ k
unfolding kind_of
kind_again text a b (kind_is.Int n) = refl
kind_again text a b (kind_is.Word w) = refl
kind_again text a b (kind_is.Header h) = refl
kind_again text a b kind_is.Quoted = refl
kind_again text a b kind_is.Alias = refl
kind_again text a b (kind_is.Sign s) = refl
kind_again text a b kind_is.Body = refl
kind_again text a b kind_is.End = refl
kind_again text a b kind_is.Abort = refl
kind_again text a b kind_is.Finish = refl
kind_again text a b kind_is.Bad = refl

-- so the two are equal
pub one_token : (text : List ℕ) (at : ℕ) (f g : Found) → TokenAt text at f → TokenAt text at g → f ≡ g
one_token text at f g h k =
    let e = sym h.is ∙ k.is in
    let kind : f.kind ≡ g.kind =
    sym (kind_again text f.first f.next f.kind) ∙ ap (λ p. kind_of p.token) e ∙ kind_again text g.first g.next g.kind in
    whole (ap (λ p. p.place) e) (ap (λ p. p.next) e) kind
  where
    whole : f.first ≡ g.first → f.next ≡ g.next → f.kind ≡ g.kind → f ≡ g
    whole a b c = rw (a, b, c)
