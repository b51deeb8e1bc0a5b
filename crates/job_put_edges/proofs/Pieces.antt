-- An edge line in the pieces in which it is written. Assumes nothing.
use mathlib.Core.Path.{◌≡◌, sym, ap, ◌∙◌}
use mathlib.Core.List.{List, [], ◌∷◌, ◌++◌, append_assoc}
use Prim.Native.Nat.{ℕ}
use Rattle.puts.specs.Put.{decimal, held}
use Rattle.job_text.specs.Text.{newline, comma}
use Rattle.job_text.specs.Job.{edge=}
use Rattle.job_put_edges.specs.Edges.{hex_text, edge_text}

-- the key with the first state, the second state, the digits, the newline byte
pub edge_pieces : (f t set : ℕ) → edge_text f t set ≡ held edge= f comma ++ (held [] t comma ++ (hex_text set ++ (newline ∷ [])))
unfolding edge_text
edge_pieces f t set =
    let end = newline ∷ [] in
    let last = comma ∷ hex_text set in
    let second : (decimal t ++ last) ++ end ≡ held [] t comma ++ (hex_text set ++ end) =
    append_assoc (decimal t) last end ∙ sym (append_assoc (decimal t) (comma ∷ []) (hex_text set ++ end)) in
    append_assoc edge= (decimal f ++ (comma ∷ (decimal t ++ last))) end
    ∙ ap (λ (x : List ℕ). edge= ++ x)
    (append_assoc (decimal f) (comma ∷ (decimal t ++ last)) end
    ∙ ap (λ (x : List ℕ). decimal f ++ (comma ∷ x)) second
    ∙ sym (append_assoc (decimal f) (comma ∷ []) (held [] t comma ++ (hex_text set ++ end))))
