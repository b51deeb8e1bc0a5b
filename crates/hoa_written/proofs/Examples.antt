-- Texts that the writer gives, computed from the definitions. Assumes nothing.
use mathlib.Core.Path.{◌≡◌, refl}
use mathlib.Core.List.{[], ◌∷◌}
use Rattle.table.specs.declared.Acceptance.TheVariants.{Buchi, Streett, Rabin}
use Rattle.table.specs.Table.{lent}
use Rattle.hoa_tokens.specs.Bytes.{bytes}
use Rattle.puts.specs.Put.{decimal_in, joined}
use Rattle.hoa_written.specs.Written.{buchi_text, streett_text, rabin_text, formula, sig_text, edge_text, row_text, head_text, acceptance_text, hoa_text}

-- "`Inf(0)&Inf(1)`; `(Fin(0)|Inf(1))&(..)`; `(Fin(0)&Inf(1))|(Fin(2))`"
buchi_2 : formula (Buchi 2) [] ≡ bytes "Inf(0)&Inf(1)"
unfolding bytes decimal_in joined buchi_text
buchi_2 = refl

-- two Streett pairs
streett_2 : formula (Streett 2) [] ≡ bytes "(Fin(0)|Inf(1))&(Fin(2)|Inf(3))"
unfolding bytes decimal_in joined streett_text
streett_2 = refl

-- two Rabin pairs, the second without needs
rabin_2 : formula (Rabin 2) (1 ∷ 0 ∷ []) ≡ bytes "(Fin(0)&Inf(1))|(Fin(2))"
unfolding bytes decimal_in joined rabin_text
rabin_2 = refl

-- "each pair in brackets even if alone"
rabin_1 : formula (Rabin 1) (2 ∷ []) ≡ bytes "(Fin(0)&Inf(1)&Inf(2))"
unfolding bytes decimal_in joined rabin_text
rabin_1 = refl

-- "`t` for Büchi 0 and Streett 0, `f` for Rabin 0"
buchi_0 : formula (Buchi 0) [] ≡ bytes "t"
unfolding buchi_text
buchi_0 = refl

-- no Streett pair
streett_0 : formula (Streett 0) [] ≡ bytes "t"
unfolding streett_text
streett_0 = refl

-- no Rabin pair
rabin_0 : formula (Rabin 0) [] ≡ bytes "f"
unfolding rabin_text
rabin_0 = refl

-- marks 0, 5 and 31 of a set
edge_marks_lem : edge_text 12 2147483681 ≡ bytes "[t] 12 {0 5 31}\n"
unfolding bytes decimal_in joined sig_text edge_text
edge_marks_lem = refl

-- three states, the second without edges
whole : hoa_text (lent 3 2 (0 ∷ 0 ∷ 2 ∷ []) (1 ∷ 2 ∷ 0 ∷ []) (0 ∷ 3 ∷ 2 ∷ [])) (Buchi 2) []
    ≡ bytes "HOA: v1\nStates: 3\nStart: 2\nAP: 0\nAcceptance: 2 Inf(0)&Inf(1)\n--BODY--\nState: 0\n[t] 1\n[t] 2 {0 1}\nState: 1\nState: 2\n[t] 0 {1}\n--END--\n"
unfolding bytes decimal_in joined buchi_text sig_text edge_text row_text head_text acceptance_text hoa_text
whole = refl
