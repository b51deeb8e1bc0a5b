-- A text that the writer gives, computed from the definitions. Assumes nothing.
use mathlib.Core.Path.{◌≡◌, refl}
use mathlib.Core.List.{[], ◌∷◌}
use Rattle.table.specs.Table.{lent}
use Rattle.puts.specs.Put.{decimal_in, joined}
use Rattle.job_put_edges.specs.Edges.{hex_byte, hex_text, edge_text}
use Rattle.job_writer.specs.Written.{head_text, job_text}

-- mark 0 alone
one_mark : hex_text 1 ≡ 48 ∷ 48 ∷ 48 ∷ 48 ∷ 48 ∷ 48 ∷ 48 ∷ 49 ∷ []
unfolding joined hex_byte
one_mark = refl

-- `fedcba90`
all_digits : hex_text 4275878544 ≡ 102 ∷ 101 ∷ 100 ∷ 99 ∷ 98 ∷ 97 ∷ 57 ∷ 48 ∷ []
unfolding joined hex_byte
all_digits = refl

-- one state with a marked loop: `form=2`, `states=1`, `start=0`, `kind=buchi`, `count=1`, `need=-`, `edges=1`, `edge=0,0,00000001`, `end=job`
loop : job_text (lent 1 0 (0 ∷ []) (0 ∷ []) (1 ∷ []))
    ≡ 102 ∷ 111 ∷ 114 ∷ 109 ∷ 61 ∷ 50 ∷ 10 ∷ 115 ∷ 116 ∷ 97 ∷ 116 ∷ 101 ∷ 115 ∷ 61 ∷ 49 ∷ 10 ∷ 115 ∷ 116 ∷ 97 ∷ 114 ∷ 116 ∷ 61 ∷ 48 ∷ 10 ∷ 107 ∷ 105 ∷ 110 ∷ 100 ∷ 61 ∷ 98 ∷ 117 ∷ 99 ∷ 104 ∷ 105 ∷ 10 ∷ 99 ∷ 111 ∷ 117 ∷ 110 ∷ 116 ∷ 61 ∷ 49 ∷ 10 ∷ 110 ∷ 101 ∷ 101 ∷ 100 ∷ 61 ∷ 45 ∷ 10 ∷ 101 ∷ 100 ∷ 103 ∷ 101 ∷ 115 ∷ 61 ∷ 49 ∷ 10 ∷ 101 ∷ 100 ∷ 103 ∷ 101 ∷ 61 ∷ 48 ∷ 44 ∷ 48 ∷ 44 ∷ 48 ∷ 48 ∷ 48 ∷ 48 ∷ 48 ∷ 48 ∷ 48 ∷ 49 ∷ 10 ∷ 101 ∷ 110 ∷ 100 ∷ 61 ∷ 106 ∷ 111 ∷ 98 ∷ 10 ∷ []
unfolding decimal_in joined hex_byte edge_text head_text job_text
loop = refl
