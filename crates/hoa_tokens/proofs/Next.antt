-- The tokens of a text from a place on: the one that is found there, and those behind it (`tokens_next`). Each token but the text's end takes a byte
-- (`token_takes`), and only the text's end is an end (`token-ends`). So fuel does not matter. Assumes nothing.
use mathlib.Core.Path.{◌≡◌, refl, sym, ap, ◌∙◌}
use mathlib.Core.Bool.{false, false≢true}
use mathlib.Core.List.{List, [], ◌∷◌}
use Prim.Native.Nat.{ℕ, zero, suc, ◌+◌, ◌-◌, ◌≤◌, ◌<◌}
use native.Mathlib.Omega.{arith}
use lib.ListN.{length, drop, length-drop}
use Rattle.hoa_tokens.specs.declared.Kind.{Kind}
use Rattle.hoa_tokens.specs.declared.Kind.TheVariants as kind_is
use Rattle.hoa_tokens.specs.declared.Found.{Found}
use Rattle.hoa_tokens.specs.Token.{Token, int, word, header, str, aname, sign, body, end, abort, finish, bad, front}
use Rattle.hoa_tokens.specs.Stream.{Gap, gap, unclosed, lost, gap_of, Placed, placed, first_of, first, unless_finished, some, tokens_at, token_of, TokenAt}
use Rattle.hoa_tokens.proofs.Sizes.{GapIn, gap_in, ends, front_takes}

-- where the first of k bytes, which stand from `at` on, is found: behind all of them, or among them
pub data Stands (at k : ℕ) (p : Placed) : Type 0 where
  over : p.token ≡ finish → p.place ≡ at + k → p.next ≡ at + k → Stands at k p
  there : ends p.token ≡ false → at ≤ p.place → p.place < p.next → p.next ≤ at + k → Stands at k p

-- behind a gap
behind_gap : (at n k : ℕ) (rest : List ℕ) → n + length rest ≡ k → Stands at k (placed (at + n) (at + n + (front rest).size) (front rest).token)
unfolding front
behind_gap at n k [] e = over refl (omega arith) (omega arith)
behind_gap at n k (b ∷ rest) e =
    let t = front_takes b rest in
    there t.token (omega arith) (omega (arith, t.some)) (omega (arith, t.most))

-- by the gap
gap_stands : (at : ℕ) (bs : List ℕ) (g : Gap) → GapIn (length bs) 0 g → Stands at (length bs) (first_of at bs g)
gap_stands at bs (gap n) h = behind_gap at n (length bs) (drop n bs) (omega (arith, length-drop n bs))
gap_stands at bs (unclosed n) h = there refl (omega arith) (omega arith) (omega arith)
gap_stands at bs lost h = absurd (omega arith)

-- where the first token of bytes stands
pub stands : (at : ℕ) (bs : List ℕ) → Stands at (length bs) (first at bs)
unfolding first
stands at bs = gap_stands at bs (gap_of bs zero) (gap_in bs zero)

-- ---- fuel does not matter

-- so long as it does not matter behind the token
behind_same : (text : List ℕ) (at k : ℕ) (p : Placed) → Stands at (length (drop at text)) p
    → ((next : ℕ) → at < next → next ≤ length text → some k text next ≡ some (suc k) text next)
    → unless_finished p.token (some k text p.next) ≡ unless_finished p.token (some (suc k) text p.next)
behind_same text at k p (over e _ _) same = rw e
behind_same text at k p (there _ a b c) same = rw (same p.next (omega arith) (omega (arith, length-drop at text)))

-- one unit of fuel for each byte, and one for the text's end
fuel : (k : ℕ) (text : List ℕ) (at : ℕ) → length text - at < k → some k text at ≡ some (suc k) text at
unfolding some
fuel zero text at l = absurd (omega arith)
fuel (suc k) text at l =
    ap (λ (ps : List Placed). first at (drop at text) ∷ ps)
    (behind_same text at k (first at (drop at text)) (stands at (drop at text)) (λ next a b. fuel k text next (omega arith)))

-- the tokens from a place on
pub tokens_next : (text : List ℕ) (at : ℕ) (f : Found) → TokenAt text at f
    → tokens_at text at
    ≡ placed f.first f.next (token_of text f.first f.next f.kind)
    ∷ unless_finished (token_of text f.first f.next f.kind) (tokens_at text f.next)
unfolding tokens_at some
tokens_next text at f h =
    rw h.is
    (ap (λ (ps : List Placed). placed f.first f.next (token_of text f.first f.next f.kind) ∷ ps)
    (behind_same text at (length text) _ (rw h.is at (stands at (drop at text))) (λ next a b. fuel (length text) text next (omega arith))))

-- ---- what a token takes

-- only the kind `Finish` is the end
finish_kind : (text : List ℕ) (a b : ℕ) (k : Kind) → token_of text a b k ≡ finish → k ≡ kind_is.Finish
finish_kind text a b (kind_is.Int n) e = cc
finish_kind text a b (kind_is.Word w) e = cc
finish_kind text a b (kind_is.Header h) e = cc
finish_kind text a b kind_is.Quoted e = cc
finish_kind text a b kind_is.Alias e = cc
finish_kind text a b (kind_is.Sign s) e = cc
finish_kind text a b kind_is.Body e = cc
finish_kind text a b kind_is.End e = cc
finish_kind text a b kind_is.Abort e = cc
finish_kind text a b kind_is.Finish e = refl
finish_kind text a b kind_is.Bad e = cc

-- where f stands
found_stands : (text : List ℕ) (at : ℕ) (f : Found) → TokenAt text at f
    → Stands at (length (drop at text)) (placed f.first f.next (token_of text f.first f.next f.kind))
found_stands text at f h = rw h.is at (stands at (drop at text))

-- what stands first is found
pub found_at : (text : List ℕ) (at : ℕ) (f : Found) → first at (drop at text) ≡ placed f.first f.next (token_of text f.first f.next f.kind)
    → TokenAt text at f
found_at text at f e = go (rw e at (stands at (drop at text)))
  where
    go : Stands at (length (drop at text)) (placed f.first f.next (token_of text f.first f.next f.kind)) → TokenAt text at f
    go (over _ a b) = record { is = e; behind_at = omega arith; behind_first = omega arith; within = λ (l : at ≤ length text). omega (arith, length-drop at text) }
    go (there _ a b d) = record { is = e; behind_at = a; behind_first = omega arith; within = λ (l : at ≤ length text). omega (arith, length-drop at text) }

-- a token but the text's end takes a byte
pub record Moves (text : List ℕ) (at : ℕ) (f : Found) : Type 0 where
  pub behind_at : at ≤ f.first
  pub takes : f.first < f.next
  pub within : f.next ≤ length text

-- so a reader that goes on to `next` comes to the end
pub token_takes : (text : List ℕ) (at : ℕ) (f : Found) → TokenAt text at f → (f.kind ≡ kind_is.Finish → ⊥) → Moves text at f
token_takes text at f h n = go (found_stands text at f h)
  where
    go : Stands at (length (drop at text)) (placed f.first f.next (token_of text f.first f.next f.kind)) → Moves text at f
    go (over e _ _) = absurd (n (finish_kind text f.first f.next f.kind e))
    go (there _ a b c) = record { behind_at = a; takes = b; within = omega (arith, length-drop at text) }

-- nothing is cut off behind another token
unfinished : (t : Token) (ps : List Placed) → ends t ≡ false → unless_finished t ps ≡ ps
unfinished finish ps e = absurd (false≢true (sym e))
unfinished (int n) ps e = refl
unfinished (word w) ps e = refl
unfinished (header h) ps e = refl
unfinished (str bs) ps e = refl
unfinished aname ps e = refl
unfinished (sign s) ps e = refl
unfinished body ps e = refl
unfinished end ps e = refl
unfinished abort ps e = refl
unfinished bad ps e = refl

-- behind any other token the tokens go on
pub token_goes_on : (text : List ℕ) (at : ℕ) (f : Found) → TokenAt text at f → (f.kind ≡ kind_is.Finish → ⊥)
    → tokens_at text at ≡ placed f.first f.next (token_of text f.first f.next f.kind) ∷ tokens_at text f.next
token_goes_on text at f h n = go (found_stands text at f h)
  where
    go : Stands at (length (drop at text)) (placed f.first f.next (token_of text f.first f.next f.kind))
        → tokens_at text at ≡ placed f.first f.next (token_of text f.first f.next f.kind) ∷ tokens_at text f.next
    go (over e _ _) = absurd (n (finish_kind text f.first f.next f.kind e))
    go (there e _ _ _) = tokens_next text at f h ∙ rw (unfinished (token_of text f.first f.next f.kind) (tokens_at text f.next) e)

-- a token that is not the text's end is followed by what stands behind it
pub unless_kind : (text : List ℕ) (a b : ℕ) (k : Kind) (ps : List Placed) → (k ≡ kind_is.Finish → ⊥) → unless_finished (token_of text a b k) ps ≡ ps
unless_kind text a b (kind_is.Int n) ps h = refl
unless_kind text a b (kind_is.Word w) ps h = refl
unless_kind text a b (kind_is.Header x) ps h = refl
unless_kind text a b kind_is.Quoted ps h = refl
unless_kind text a b kind_is.Alias ps h = refl
unless_kind text a b (kind_is.Sign s) ps h = refl
unless_kind text a b kind_is.Body ps h = refl
unless_kind text a b kind_is.End ps h = refl
unless_kind text a b kind_is.Abort ps h = refl
unless_kind text a b kind_is.Finish ps h = absurd (h refl)
unless_kind text a b kind_is.Bad ps h = refl
