-- The tokens of the text that is written (docs/RULES.md, "The Hanoi format", the writer), each piece with the tokens that follow it (`Tokens.written_tokens_lem`,
-- in proofs/, says that they are its tokens). Assumes nothing.
use Rattle.std.specs.Prelude.{cond, List, [], ◌∷◌, ℕ, zero, suc, ◌+◌, ◌*◌, ◌/◌, ◌%◌, ◌^◌, eqb, length, get_or}
use Rattle.marks.specs.Mark.{width}
use Rattle.table.specs.declared.Acceptance.{Acceptance}
use Rattle.table.specs.declared.Acceptance.TheVariants.{Buchi, Streett, Rabin}
use Rattle.table.specs.Table.{Table}
use Rattle.table.specs.Condition.{need, dealt}
use Rattle.table.specs.Refusal.{used}
use Rattle.hoa_tokens.specs.declared.Word.{Word}
use Rattle.hoa_tokens.specs.declared.Word.TheVariants as word_is
use Rattle.hoa_tokens.specs.declared.Header.TheVariants as header_is
use Rattle.hoa_tokens.specs.declared.Sign.TheVariants as sign_is
use Rattle.hoa_tokens.specs.Token.{Token, int, word, header, sign, body, end, finish}

-- f 0 up to f (k - 1), one after another
unfoldable pub joined_tokens : (ℕ → List Token → List Token) → ℕ → List Token → List Token
joined_tokens f zero ts = ts
joined_tokens f (suc k) ts = joined_tokens f k (f k ts)

-- ---- the formula

-- `Inf(i)` or `Fin(i)`
abbrev pub atom_tokens : Word → ℕ → List Token → List Token
atom_tokens w i ts = word w ∷ (sign sign_is.ParenLeft ∷ (int i ∷ (sign sign_is.ParenRight ∷ ts)))

-- `&Inf(i)&Inf(i+1)..`, so many of them
abbrev pub infs_tokens : ℕ → ℕ → List Token → List Token
infs_tokens i count = joined_tokens (λ j ts. sign sign_is.And ∷ atom_tokens word_is.Inf (i + j) ts) count

-- `Inf(0)&..`, or `t`
unfoldable pub buchi_tokens : ℕ → List Token → List Token
buchi_tokens zero ts = word word_is.True ∷ ts
buchi_tokens (suc k) ts = atom_tokens word_is.Inf 0 (infs_tokens 1 k ts)

-- `(Fin(2i)|Inf(2i+1))`
abbrev pub streett_pair_tokens : ℕ → List Token → List Token
streett_pair_tokens i ts =
    sign sign_is.ParenLeft
    ∷ atom_tokens word_is.Fin (2 * i) (sign sign_is.Or ∷ atom_tokens word_is.Inf (2 * i + 1) (sign sign_is.ParenRight ∷ ts))

-- `(Fin(0)|Inf(1))&..`, or `t`
unfoldable pub streett_tokens : ℕ → List Token → List Token
streett_tokens zero ts = word word_is.True ∷ ts
streett_tokens (suc p) ts = streett_pair_tokens 0 (joined_tokens (λ i us. sign sign_is.And ∷ streett_pair_tokens (suc i) us) p ts)

-- `(Fin(d)&Inf(d+1)..)`
abbrev pub rabin_pair_tokens : ℕ → ℕ → List Token → List Token
rabin_pair_tokens d count ts = sign sign_is.ParenLeft ∷ atom_tokens word_is.Fin d (infs_tokens (d + 1) count (sign sign_is.ParenRight ∷ ts))

-- `(Fin(0)&Inf(1))|..`, or `f`
unfoldable pub rabin_tokens : List ℕ → ℕ → List Token → List Token
rabin_tokens needs zero ts = word word_is.False ∷ ts
rabin_tokens needs (suc p) ts =
    rabin_pair_tokens 0 (need needs 0) (joined_tokens (λ i us. sign sign_is.Or ∷ rabin_pair_tokens (dealt needs (suc i)) (need needs (suc i)) us) p ts)

-- the formula of a condition
abbrev pub formula_tokens : Acceptance → List ℕ → List Token → List Token
formula_tokens (Buchi k) needs = buchi_tokens k
formula_tokens (Streett p) needs = streett_tokens p
formula_tokens (Rabin p) needs = rabin_tokens needs p

-- ---- the rows

-- mark i of a set, if it has it
abbrev pub mark_tokens : ℕ → ℕ → List Token → List Token
mark_tokens set i ts = cond (eqb (set / 2 ^ i % 2) 1) (int i ∷ ts) ts

-- nothing for no marks
unfoldable pub sig_tokens : ℕ → List Token → List Token
sig_tokens set ts = cond (eqb set 0) ts (sign sign_is.BraceLeft ∷ joined_tokens (mark_tokens set) width (sign sign_is.BraceRight ∷ ts))

-- `[t] to` or `[t] to {marks}`
unfoldable pub edge_tokens : ℕ → ℕ → List Token → List Token
edge_tokens to set ts = sign sign_is.BracketLeft ∷ (word word_is.True ∷ (sign sign_is.BracketRight ∷ (int to ∷ sig_tokens set ts)))

-- edge e, if it leaves s
abbrev pub leaving_tokens : List ℕ → List ℕ → List ℕ → ℕ → ℕ → List Token → List Token
leaving_tokens from to marks s e ts = cond (eqb (get_or from e 0) s) (edge_tokens (get_or to e 0) (get_or marks e 0) ts) ts

-- `State: s` and its edges
unfoldable pub row_tokens : List ℕ → List ℕ → List ℕ → ℕ → List Token → List Token
row_tokens from to marks s ts = header header_is.State ∷ (int s ∷ joined_tokens (leaving_tokens from to marks s) (length from) ts)

-- ---- the whole text

-- up to the end of the text
unfoldable pub written_tokens : Table → Acceptance → List ℕ → List Token
written_tokens t c needs =
    header header_is.Hoa ∷ (word word_is.V1
    ∷ (header header_is.States ∷ (int t.states
    ∷ (header header_is.Start ∷ (int t.start
    ∷ (header header_is.Ap ∷ (int 0
    ∷ (header header_is.Acceptance ∷ (int (used c needs)
    ∷ formula_tokens c needs
    (body ∷ joined_tokens (row_tokens t.from t.to t.marks) t.states
    (end ∷ (finish ∷ []))))))))))))
