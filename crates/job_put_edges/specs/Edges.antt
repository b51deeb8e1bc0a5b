-- The edge lines of a job text that is written (docs/RULES.md, "The job text and the printed answer", the writer). Assumes nothing.
use Rattle.std.specs.Prelude.{cond, List, [], ◌∷◌, ◌++◌, ℕ, ◌+◌, ◌-◌, ◌*◌, ◌/◌, ◌%◌, ◌^◌, ltb, get_or}
use Rattle.job_text.specs.Text.{comma}
pub use Rattle.job_values.specs.Bytes.{shown}
use Rattle.job_text.specs.Value.{hex_digits}
use Rattle.job_text.specs.Job.{edge=}
use Rattle.puts.specs.Put.{decimal, joined}

-- ---- "eight lower-case hex digits"

-- the byte of a digit's value: `0` to `9`, then `a` to `f`
unfoldable pub hex_byte : ℕ → ℕ
hex_byte d = cond (ltb d 10) (48 + d) (87 + d)

-- digit i of a set of marks, the highest first: four of its 32 bits
abbrev pub hex_at : ℕ → ℕ → List ℕ
hex_at set i = hex_byte (set / 2 ^ (28 - 4 * i) % 16) ∷ []

-- all eight
abbrev pub hex_text : ℕ → List ℕ
hex_text set = joined (hex_at set) hex_digits

-- ---- the lines

-- `edge=F,T,HHHHHHHH`
unfoldable pub edge_text : ℕ → ℕ → ℕ → List ℕ
edge_text from to set = shown edge= (decimal from ++ (comma ∷ (decimal to ++ (comma ∷ hex_text set))))

-- the first k edge lines of three lists
abbrev pub edges_text : List ℕ → List ℕ → List ℕ → ℕ → List ℕ
edges_text from to marks k = joined (λ e. edge_text (get_or from e 0) (get_or to e 0) (get_or marks e 0)) k
