-- The tokens of a text end with the text's end, so that a machine that never goes on behind it is never cut short (`never_cut`). Assumes nothing.
use mathlib.Core.Path.{◌≡◌, refl}
use mathlib.Core.List.{List, [], ◌∷◌}
use Prim.Native.Nat.{ℕ, zero, suc, ◌-◌, ◌≤◌, ◌<◌}
use native.Mathlib.Omega.{arith}
use lib.ListN.{length, drop, length-drop}
use Rattle.hoa_tokens.specs.Token.{Token, int, word, header, str, aname, sign, body, end, abort, finish, bad}
use Rattle.hoa_tokens.specs.Stream.{Placed, first, tokens_at, some, unless_finished}
use Rattle.hoa_tokens.proofs.Next.{Stands, over, there, stands}
use Rattle.hoa_step.specs.Machine.{Step, go, done, wrong, End, cut, end_by, run}

-- the last token is the text's end
pub data Finished : List Placed → Type 0 where
  last : {p : Placed} → p.token ≡ finish → Finished (p ∷ [])
  more : {p : Placed} {ps : List Placed} → Finished ps → Finished (p ∷ ps)

-- behind a token the tokens go on, if it is not the text's end
goes_on : (t : Token) (p : Placed) (ps : List Placed) → p.token ≡ t → Finished ps → Finished (p ∷ unless_finished t ps)
goes_on (int n) p ps e f = more f
goes_on (word w) p ps e f = more f
goes_on (header h) p ps e f = more f
goes_on (str bs) p ps e f = more f
goes_on aname p ps e f = more f
goes_on (sign s) p ps e f = more f
goes_on body p ps e f = more f
goes_on end p ps e f = more f
goes_on abort p ps e f = more f
goes_on finish p ps e f = last e
goes_on bad p ps e f = more f

-- and end behind the text's end
ends : (t : Token) (p : Placed) (ps : List Placed) → p.token ≡ finish → t ≡ finish → Finished (p ∷ unless_finished t ps)
ends t p ps e q = rw q (last e)

one_more : (text : List ℕ) (at k : ℕ) (p : Placed) → Stands at (length (drop at text)) p
    → ((next : ℕ) → at < next → next ≤ length text → Finished (some k text next))
    → Finished (p ∷ unless_finished p.token (some k text p.next))
one_more text at k p (over e _ _) rest = ends p.token p (some k text p.next) e e
one_more text at k p (there _ a b c) rest =
    goes_on p.token p (some k text p.next) refl (rest p.next (omega arith) (omega (arith, length-drop at text)))

some_finished : (k : ℕ) (text : List ℕ) (at : ℕ) → length text - at < k → Finished (some k text at)
unfolding some
some_finished zero text at l = absurd (omega arith)
some_finished (suc k) text at l = one_more text at k (first at (drop at text)) (stands at (drop at text)) (λ next a b. some_finished k text next (omega arith))

pub tokens_finished : (text : List ℕ) (at : ℕ) → Finished (tokens_at text at)
unfolding tokens_at
tokens_finished text at = some_finished (suc (length text)) text at (omega arith)

-- ---- a machine over them

module _ {S D : Type 0} (step : S → Token → Step S D) (stops : (s s' : S) → step s finish ≡ go s' → ⊥) where
  ended : (p : ℕ) (ps : List Placed) (x : Step S D) (f : S → End D) → ((s' : S) → x ≡ go s' → f s' ≡ cut → ⊥) → end_by x p ps f ≡ cut → ⊥
  ended p ps (go s') f h e = h s' refl e
  ended p ps (done d) f h e = let z : ◌≡◌ {A = ℕ} 0 1 = cc in omega arith
  ended p ps (wrong n) f h e = let z : ◌≡◌ {A = ℕ} 0 1 = cc in omega arith

  run_finished : {ps : List Placed} → Finished ps → (s : S) → run step ps s ≡ cut → ⊥
  unfolding run
  run_finished (last {p} t) s e = ended p.place [] (step s p.token) (λ s'. run step [] s') (λ s' g c. stops s s' (rw t at g)) e
  run_finished (more {p} {ps} f) s e = ended p.place ps (step s p.token) (λ s'. run step ps s') (λ s' g c. run_finished f s' c) e

  -- no token is left at the end
  pub never_cut : (text : List ℕ) (at : ℕ) (s : S) → run step (tokens_at text at) s ≡ cut → ⊥
  never_cut text at s e = run_finished (tokens_finished text at) s e
