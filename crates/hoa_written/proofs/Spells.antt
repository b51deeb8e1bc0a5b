-- Bytes that spell tokens: what stands behind them goes on as if it stood alone. Assumes nothing.
use mathlib.Core.Path.{◌≡◌, refl, sym, ap, ◌∙◌}
use mathlib.Core.Bool.{Bool, true, false, ◌||◌}
use mathlib.Core.List.{List, [], ◌∷◌, ◌++◌, map, append_assoc}
use Prim.Native.Nat.{ℕ, zero, suc, ◌+◌}
use native.Mathlib.Nat.{add-zero}
use native.Mathlib.Omega.{arith}
use lib.Dec.{eqb}
use lib.ListN.{length, get_or, drop, length-append}
use lib.Seq.{drop-drop, drop-append_seam}
use Rattle.hoa_tokens.specs.declared.Kind.{Kind}
use Rattle.hoa_tokens.specs.declared.Kind.TheVariants as kind_is
use Rattle.hoa_tokens.specs.declared.Found.{Found}
use Rattle.hoa_tokens.specs.Bytes.{is_name, is_blank}
use Rattle.hoa_tokens.specs.Token.{Token, taken, front}
use Rattle.hoa_tokens.specs.Stream.{Gap, gap, unclosed, lost, behind, gap_of, Placed, placed, first_of, first, unless_finished, some, tokens_at, token_of}
use Rattle.hoa_tokens.proofs.Next.{found_at, token_goes_on}

-- the tokens of a text from a place on, without their places
abbrev pub tokens : List ℕ → ℕ → List Token
tokens text at = map (λ (p : Placed). p.token) (tokens_at text at)

-- no name and no number goes on with these bytes
abbrev pub Apart : Bool → List ℕ → Type 0
Apart true bs = (is_name (get_or bs 0 0) || eqb (get_or bs 0 0) 58) ≡ false
Apart false bs = Unit {0}

-- the bytes spell the tokens that f puts in front, if what follows stands apart where that is asked
pub record Spells (q : Bool) (a : List ℕ) (f : List Token → List Token) : Type 0 where
  pub spells : (text : List ℕ) (at : ℕ) (bs : List ℕ) → drop at text ≡ a ++ bs → Apart q bs → tokens text at ≡ f (tokens text (at + length a))

-- ---- one after another

-- what stands behind the bytes
behind_it : (text : List ℕ) (at : ℕ) (a bs : List ℕ) → drop at text ≡ a ++ bs → drop (at + length a) text ≡ bs
behind_it text at a bs e = sym (drop-drop (length a) at text) ∙ ap (drop (length a)) e ∙ drop-append_seam a bs

-- no bytes
pub spells_none : Spells false [] (λ ts. ts)
spells_none = record { spells = λ text at bs e h. rw (add-zero at) }

module _ {p q : Bool} {a b : List ℕ} {f g : List Token → List Token} where
  -- one behind another, where the second stands apart
  pub spells_apart : Spells p a f → ((bs : List ℕ) → Apart q bs → Apart p (b ++ bs)) → Spells q b g → Spells q (a ++ b) (λ ts. f (g ts))
  spells_apart s free r = record { spells = both }
    where
      both : (text : List ℕ) (at : ℕ) (bs : List ℕ) → drop at text ≡ (a ++ b) ++ bs → Apart q bs → tokens text at ≡ f (g (tokens text (at + length (a ++ b))))
      both text at bs e h =
          let e' : drop at text ≡ a ++ (b ++ bs) = e ∙ append_assoc a b bs in
          let long : at + length (a ++ b) ≡ at + length a + length b = omega (arith, length-append a b) in
          s.spells text at (b ++ bs) e' (free bs h) ∙ ap f (r.spells text (at + length a) bs (behind_it text at a (b ++ bs) e') h)
          ∙ ap (λ (k : ℕ). f (g (tokens text k))) (sym long)

-- one behind another
pub spells_both : {q : Bool} {a b : List ℕ} {f g : List Token → List Token} → Spells false a f → Spells q b g → Spells q (a ++ b) (λ ts. f (g ts))
spells_both s r = spells_apart s (λ bs h. tt) r

-- ---- a blank

-- a blank makes the gap one byte longer
blank_gap : (b : ℕ) (bs : List ℕ) → is_blank b ≡ true → gap_of (b ∷ bs) zero ≡ behind 1 (gap_of bs zero)
unfolding gap_of
blank_gap b [] e = rw e
blank_gap b (c ∷ bs) e = rw e

-- the token behind it
token_behind : (at b : ℕ) (bs : List ℕ) (g : Gap) → (first_of at (b ∷ bs) (behind 1 g)).token ≡ (first_of (at + 1) bs g).token
token_behind at b bs (gap n) = let e : 1 + n ≡ suc n = omega arith in rw e
token_behind at b bs (unclosed n) = refl
token_behind at b bs lost = refl

-- and where it ends
next_behind : (at b : ℕ) (bs : List ℕ) (g : Gap) → (first_of at (b ∷ bs) (behind 1 g)).next ≡ (first_of (at + 1) bs g).next
next_behind at b bs (gap n) = let e : 1 + n ≡ suc n = omega arith in rw e (omega arith)
next_behind at b bs (unclosed n) = omega arith
next_behind at b bs lost = omega arith

-- a token, and those from n on
abbrev goes_on : List ℕ → Token → ℕ → List Token
goes_on text t n = t ∷ map (λ (p : Placed). p.token) (unless_finished t (some (length text) text n))

-- the first token and where it ends are all that matters
by_first : (text : List ℕ) (at k : ℕ) → (first at (drop at text)).token ≡ (first k (drop k text)).token → (first at (drop at text)).next ≡ (first k (drop k text)).next
    → tokens text at ≡ tokens text k
unfolding tokens_at some
by_first text at k p q =
    ap (λ (t : Token). goes_on text t (first at (drop at text)).next) p ∙ ap (goes_on text (first k (drop k text)).token) q

-- a blank spells nothing
pub spells_blank : (b : ℕ) → is_blank b ≡ true → Spells false (b ∷ []) (λ ts. ts)
unfolding first
spells_blank b e = record { spells = skip }
  where
    skip : (text : List ℕ) (at : ℕ) (bs : List ℕ) → drop at text ≡ b ∷ bs → Unit {0} → tokens text at ≡ tokens text (at + 1)
    skip text at bs d _ =
        let d' : drop (at + 1) text ≡ bs = behind_it text at (b ∷ []) bs d in
        by_first text at (at + 1)
        (rw (d, d', blank_gap b bs e) (token_behind at b bs (gap_of bs zero)))
        (rw (d, d', blank_gap b bs e) (next_behind at b bs (gap_of bs zero)))

-- ---- a token

-- no gap before any other byte but `/`
no_gap : (b : ℕ) (bs : List ℕ) → is_blank b ≡ false → eqb b 47 ≡ false → gap_of (b ∷ bs) zero ≡ gap 0
unfolding gap_of
no_gap b [] e f = rw e
no_gap b (c ∷ bs) e f = rw (e, f)

module _ (q : Bool) (b : ℕ) (a : List ℕ) (k : Kind) (t : Token) where
  -- what stands at the front, with nothing in front of it
  pub spells_token : ((text : List ℕ) (i j : ℕ) → token_of text i j k ≡ t) → (k ≡ kind_is.Finish → ⊥) → is_blank b ≡ false → eqb b 47 ≡ false
      → ((bs : List ℕ) → Apart q bs → front (b ∷ (a ++ bs)) ≡ taken t (suc (length a))) → Spells q (b ∷ a) (λ ts. t ∷ ts)
  unfolding first
  spells_token is last clear slash shows = record { spells = here }
    where
      found : (text : List ℕ) (at : ℕ) (bs : List ℕ) → drop at text ≡ b ∷ (a ++ bs) → Apart q bs → first at (drop at text) ≡ placed at (at + suc (length a)) t
      found text at bs e h = rw (e, no_gap b (a ++ bs) clear slash, shows bs h, add-zero at)

      here : (text : List ℕ) (at : ℕ) (bs : List ℕ) → drop at text ≡ b ∷ (a ++ bs) → Apart q bs → tokens text at ≡ t ∷ tokens text (at + suc (length a))
      here text at bs e h =
          let f : Found = record { first = at; next = at + suc (length a); kind = k } in
          let w = found_at text at f (rw (is text at (at + suc (length a))) (found text at bs e h)) in
          rw (token_goes_on text at f w last, is text at (at + suc (length a)))
