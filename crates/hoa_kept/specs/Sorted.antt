-- "Rows may come in any state order and are sorted" (docs/RULES.md, "The Hanoi format", subset). Assumes nothing.
use Rattle.std.specs.Prelude.{cond, List, [], ◌∷◌, ◌++◌, ℕ, zero, suc, eqb}
use Rattle.job_text.specs.Value.{Edge}

-- the edges that leave state q, in their order
abbrev pub leaving : ℕ → List Edge → List Edge
leaving q [] = []
leaving q (e ∷ es) = cond (eqb e.from q) (e ∷ leaving q es) (leaving q es)

-- "for each state from 0 the edges of its row in the text's order", of n states
abbrev pub sorted : ℕ → List Edge → List Edge
sorted zero es = []
sorted (suc n) es = sorted n es ++ leaving n es
