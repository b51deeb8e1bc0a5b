-- Tokens taken one by one, their places set aside: how far a list of tokens leads (docs/RULES.md, "The Hanoi format", the faulty token). Assumes nothing.
use Rattle.std.specs.Prelude.{List, [], ◌∷◌, ℕ}
use Rattle.hoa_tokens.specs.Token.{Token}
use Rattle.hoa_tokens.specs.Stream.{Placed}
use Rattle.hoa_step.specs.Machine.{Step, go, done, wrong}

pub data Walk (S D : Type 0) : Type 0 where
  -- all tokens are admitted
  going : S → Walk S D
  -- the stretch is over, and these tokens are left
  over : D → List Token → Walk S D
  -- a token is faulty, with this number, and these tokens are left behind it
  faulty : ℕ → List Token → Walk S D

abbrev pub walk_by : {S D : Type 0} → Step S D → List Token → (S → Walk S D) → Walk S D
walk_by (go s) ts more = more s
walk_by (done d) ts more = over d ts
walk_by (wrong n) ts more = faulty n ts

unfoldable pub walk : {S D : Type 0} → (S → Token → Step S D) → List Token → S → Walk S D
walk step [] s = going s
walk step (t ∷ ts) s = walk_by (step s t) ts (λ u. walk step ts u)

-- the tokens, their places set aside
unfoldable pub tokens_of : List Placed → List Token
tokens_of [] = []
tokens_of (p ∷ ps) = p.token ∷ tokens_of ps
