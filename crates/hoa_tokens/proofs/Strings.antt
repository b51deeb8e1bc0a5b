-- The closing quote of a string behind a place of a text. Assumes nothing.
use mathlib.Core.Path.{◌≡◌, refl, ap, ◌∙◌}
use mathlib.Core.Bool.{cond}
use mathlib.Core.List.{List, [], ◌∷◌}
use mathlib.Core.Option.{Option, some, none}
use Prim.Native.Nat.{ℕ, ◌+◌, ◌≤◌, ◌<◌}
use native.Mathlib.Omega.{arith}
use lib.Dec.{eqb}
use lib.ListN.{length, get_or, drop, drop_of_length-le}
use borrow.Author.Tests.{eq-eqb, ne_eqb}
use Rattle.hoa_tokens.specs.Token.{later, quoted}
use Rattle.hoa_tokens.proofs.Sizes.{by_test}
use Rattle.hoa_tokens.proofs.Runs.{here, behind_second}

-- behind two stretches
later_add : (i k n : ℕ) (o : Option ℕ) → n ≡ i + k → later i (later k o) ≡ later n o
later_add i k n none e = refl
later_add i k n (some m) e = ap some (omega arith)

-- the rule where a byte may be the last one
quoted_rule : (b : ℕ) (bs : List ℕ) → quoted (b ∷ bs) ≡ cond (eqb b 34) (some 0) (cond (eqb b 92) (later 2 (quoted (drop 1 bs))) (later 1 (quoted bs)))
unfolding quoted
quoted_rule b [] = by_test (eqb b 34) (λ e. rw e) (λ e. by_test (eqb b 92) (λ q. rw (e, q)) (λ q. rw (e, q)))
quoted_rule b (c ∷ bs) = refl

module _ (text : List ℕ) (i : ℕ) (l : i < length text) where
  -- the rule at a place
  quoted_at : quoted (drop i text)
      ≡ cond (eqb (get_or text i 0) 34) (some 0) (cond (eqb (get_or text i 0) 92) (later 2 (quoted (drop (i + 2) text))) (later 1 (quoted (drop (i + 1) text))))
  quoted_at = rw (here text i l) (quoted_rule (get_or text i 0) (drop (i + 1) text) ∙ rw (behind_second text i))

  -- the closing quote
  pub quote_here : get_or text i 0 ≡ 34 → later i (quoted (drop i text)) ≡ some i
  quote_here e = rw (quoted_at, eq-eqb (get_or text i 0) 34 e) (ap some (omega arith))

  module _ (other : get_or text i 0 ≡ 34 → ⊥) where
    -- a byte
    pub quote_plain : (get_or text i 0 ≡ 92 → ⊥) → later i (quoted (drop i text)) ≡ later (i + 1) (quoted (drop (i + 1) text))
    quote_plain e = rw (quoted_at, ne_eqb (get_or text i 0) 34 other, ne_eqb (get_or text i 0) 92 e) (later_add i 1 (i + 1) (quoted (drop (i + 1) text)) refl)

    -- `\` and a byte
    pub quote_pair : get_or text i 0 ≡ 92 → later i (quoted (drop i text)) ≡ later (i + 2) (quoted (drop (i + 2) text))
    quote_pair e = rw (quoted_at, ne_eqb (get_or text i 0) 34 other, eq-eqb (get_or text i 0) 92 e) (later_add i 2 (i + 2) (quoted (drop (i + 2) text)) refl)

    -- `\` as the last byte
    pub quote_last : get_or text i 0 ≡ 92 → length text ≤ i + 1 → later i (quoted (drop i text)) ≡ later (i + 1) (quoted (drop (i + 1) text))
    unfolding quoted
    quote_last e h = quote_pair e ∙ rw (drop_of_length-le text {i = i + 2} (omega arith), drop_of_length-le text h)

-- nothing is left
pub quote_out : (text : List ℕ) (i : ℕ) → length text ≤ i → later i (quoted (drop i text)) ≡ none
unfolding quoted
quote_out text i l = rw (drop_of_length-le text l)
