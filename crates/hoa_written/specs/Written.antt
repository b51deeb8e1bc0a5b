-- The text that is written for a table and a condition (docs/RULES.md, "The Hanoi format", the writer). Assumes nothing.
use Rattle.std.specs.Prelude.{cond, List, [], ◌∷◌, ◌++◌, ℕ, zero, suc, ◌+◌, ◌*◌, ◌/◌, ◌%◌, ◌^◌, eqb, length, get_or}
use Rattle.marks.specs.Mark.{width}
use Rattle.table.specs.declared.Acceptance.{Acceptance}
use Rattle.table.specs.declared.Acceptance.TheVariants.{Buchi, Streett, Rabin}
use Rattle.table.specs.Table.{Table}
use Rattle.table.specs.Condition.{need, dealt}
use Rattle.table.specs.Refusal.{used}
use Rattle.job_text.specs.Text.{newline}
use Rattle.puts.specs.Put.{decimal, held, joined}
use Rattle.hoa_tokens.specs.Bytes.{bytes}

-- ---- pieces

-- a blank
abbrev pub blank : ℕ
blank = 32

-- `)`
abbrev pub close : ℕ
close = 41

-- "Lines end in one newline byte"
abbrev pub line : List ℕ → List ℕ
line text = text ++ (newline ∷ [])

-- ---- the formula, "without blanks"

-- `&Inf(i)&Inf(i+1)..`, so many of them
abbrev pub further_infs : ℕ → ℕ → List ℕ
further_infs i count = joined (λ j. held (bytes "&Inf(") (i + j) close) count

-- "`Inf(0)&Inf(1)`; `t` for none"
unfoldable pub buchi_text : ℕ → List ℕ
buchi_text zero = bytes "t"
buchi_text (suc k) = held (bytes "Inf(") 0 close ++ further_infs 1 k

-- pair i, `(Fin(2i)|Inf(2i+1))`; the key is what it has up to its first number
abbrev pub streett_pair : List ℕ → ℕ → List ℕ
streett_pair key i = held key (2 * i) close ++ (held (bytes "|Inf(") (2 * i + 1) close ++ bytes ")")

-- the pairs behind pair 0, so many of them, each behind an `&`
abbrev pub further_streett : ℕ → List ℕ
further_streett count = joined (λ i. streett_pair (bytes "&(Fin(") (suc i)) count

-- "`(Fin(0)|Inf(1))&(..)`, each pair in brackets even if alone; `t` for none"
unfoldable pub streett_text : ℕ → List ℕ
streett_text zero = bytes "t"
streett_text (suc p) = streett_pair (bytes "(Fin(") 0 ++ further_streett p

-- a pair with the forbidden mark d and so many needed marks behind it, `(Fin(d)&Inf(d+1)..)`; the key is what it has up to its first number
abbrev pub rabin_pair : List ℕ → ℕ → ℕ → List ℕ
rabin_pair key d count = held key d close ++ (further_infs (d + 1) count ++ bytes ")")

-- the pairs behind pair 0, so many of them, each behind a `|`
abbrev pub further_rabin : List ℕ → ℕ → List ℕ
further_rabin needs count = joined (λ i. rabin_pair (bytes "|(Fin(") (dealt needs (suc i)) (need needs (suc i))) count

-- "`(Fin(0)&Inf(1))|(Fin(2))`, each pair in brackets even if alone; `f` for none"
unfoldable pub rabin_text : List ℕ → ℕ → List ℕ
rabin_text needs zero = bytes "f"
rabin_text needs (suc p) = rabin_pair (bytes "(Fin(") 0 (need needs 0) ++ further_rabin needs p

-- the formula of a condition
abbrev pub formula : Acceptance → List ℕ → List ℕ
formula (Buchi k) needs = buchi_text k
formula (Streett p) needs = streett_text p
formula (Rabin p) needs = rabin_text needs p

-- ---- the edges and the rows

-- mark i of a set, if it has it; a blank before each but its lowest
abbrev pub mark_text : ℕ → ℕ → List ℕ
mark_text set i = cond (eqb (set / 2 ^ i % 2) 1) (cond (eqb (set % 2 ^ i) 0) [] (bytes " ") ++ decimal i) []

-- "marks ascending"
abbrev pub marks_text : ℕ → List ℕ
marks_text set = joined (mark_text set) width

-- nothing for no marks
unfoldable pub sig_text : ℕ → List ℕ
sig_text set = cond (eqb set 0) [] (bytes " {" ++ (marks_text set ++ bytes "}"))

-- "`[t] to` or `[t] to {marks ascending}`"
unfoldable pub edge_text : ℕ → ℕ → List ℕ
edge_text to set = line (bytes "[t] " ++ (decimal to ++ sig_text set))

-- edge e, if it leaves s
abbrev pub leaving : List ℕ → List ℕ → List ℕ → ℕ → ℕ → List ℕ
leaving from to marks s e = cond (eqb (get_or from e 0) s) (edge_text (get_or to e 0) (get_or marks e 0)) []

-- "for each state `State: s` and its edges"
unfoldable pub row_text : List ℕ → List ℕ → List ℕ → ℕ → List ℕ
row_text from to marks s = line (bytes "State: " ++ decimal s) ++ joined (leaving from to marks s) (length from)

-- so many states, one after another
abbrev pub rows_text : List ℕ → List ℕ → List ℕ → ℕ → List ℕ
rows_text from to marks n = joined (row_text from to marks) n

-- ---- the whole text

-- "`HOA: v1`, `States: n`, `Start: s`, `AP: 0`"
unfoldable pub head_text : ℕ → ℕ → List ℕ
head_text n start =
    line (bytes "HOA: v1")
    ++ (line (bytes "States: " ++ decimal n)
    ++ (line (bytes "Start: " ++ decimal start)
    ++ line (bytes "AP: 0")))

-- "`Acceptance: c formula`", with c the number of marks that the condition uses
unfoldable pub acceptance_text : Acceptance → List ℕ → List ℕ
acceptance_text c needs = line (held (bytes "Acceptance: ") (used c needs) blank ++ formula c needs)

-- "then for each state its edges, then `--END--`"
unfoldable pub hoa_text : Table → Acceptance → List ℕ → List ℕ
hoa_text t c needs =
    head_text t.states t.start
    ++ (acceptance_text c needs
    ++ (line (bytes "--BODY--")
    ++ (rows_text t.from t.to t.marks t.states
    ++ line (bytes "--END--"))))
