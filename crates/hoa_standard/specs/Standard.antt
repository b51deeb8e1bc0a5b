-- The standard formulas with c marks, `std(c)` (docs/RULES.md, "The Hanoi format", the subset): one type for each nonterminal, its text with what follows
-- it, and what it means. A formula of the rules' `infs(i,j)` is one of `Infs` whose atoms are numbered from i on and end before j (`infs_end`); so for the others.
-- Assumes nothing.
use Rattle.std.specs.Prelude.{List, [], ◌∷◌, ◌++◌, reverse, ◌≡◌, ℕ, suc, ◌-◌, ◌/◌, ◌%◌, length, replicate}
use Rattle.table.specs.declared.Acceptance.{Acceptance}
use Rattle.table.specs.declared.Acceptance.TheVariants as acceptance
use Rattle.hoa_tokens.specs.declared.Word.{Word}
use Rattle.hoa_tokens.specs.declared.Word.TheVariants as word_is
use Rattle.hoa_tokens.specs.declared.Sign.TheVariants as sign_is
use Rattle.hoa_tokens.specs.Token.{Token, int, word, sign}

-- what the formula of a text means: a condition with its eight needs; or the formula has fewer atoms than the text says
pub data FormulaMeaning : Type 0 where
  standard : Acceptance → List ℕ → FormulaMeaning
  short : FormulaMeaning

-- ---- tokens

abbrev pub left : List Token → List Token
left ts = sign sign_is.ParenLeft ∷ ts

abbrev pub right : List Token → List Token
right ts = sign sign_is.ParenRight ∷ ts

abbrev pub both : List Token → List Token
both ts = sign sign_is.And ∷ ts

abbrev pub either : List Token → List Token
either ts = sign sign_is.Or ∷ ts

-- an atom: a word, and the number i in brackets
abbrev pub atom : Word → ℕ → List Token → List Token
atom w i ts = word w ∷ left (int i ∷ right ts)

-- ---- infs(i,j) = infop(i,j) | infop(i,k) "&" infs(k,j); infop(i,j) = "Inf" "(" i ")" if j = i+1 | "(" infs(i,j) ")"

mutual
  pub data Infs : Type 0 where
    one : Infop → Infs
    more : Infop → Infs → Infs

  pub data Infop : Type 0 where
    mark : Infop
    brackets : Infs → Infop

-- the number behind the last atom's, where the first has number i
unfoldable mutual
  pub infs_end : Infs → ℕ → ℕ
  infs_end (Infs.one x) i = infop_end x i
  infs_end (Infs.more x y) i = infs_end y (infop_end x i)

  pub infop_end : Infop → ℕ → ℕ
  infop_end Infop.mark i = suc i
  infop_end (Infop.brackets x) i = infs_end x i

unfoldable mutual
  pub infs_text : Infs → ℕ → List Token → List Token
  infs_text (Infs.one x) i ts = infop_text x i ts
  infs_text (Infs.more x y) i ts = infop_text x i (both (infs_text y (infop_end x i) ts))

  pub infop_text : Infop → ℕ → List Token → List Token
  infop_text Infop.mark i ts = atom word_is.Inf i ts
  infop_text (Infop.brackets x) i ts = left (infs_text x i (right ts))

-- ---- pair(i,j) = phead(i,j) | phead(i,k) "&" infs(k,j); phead(i,j) = "Fin" "(" i ")" if j = i+1 | "(" pair(i,j) ")"

mutual
  pub data Pair : Type 0 where
    alone : Phead → Pair
    needing : Phead → Infs → Pair

  pub data Phead : Type 0 where
    mark : Phead
    brackets : Pair → Phead

unfoldable mutual
  pub pair_end : Pair → ℕ → ℕ
  pair_end (Pair.alone x) i = phead_end x i
  pair_end (Pair.needing x y) i = infs_end y (phead_end x i)

  pub phead_end : Phead → ℕ → ℕ
  phead_end Phead.mark i = suc i
  phead_end (Phead.brackets x) i = pair_end x i

unfoldable mutual
  pub pair_text : Pair → ℕ → List Token → List Token
  pair_text (Pair.alone x) i ts = phead_text x i ts
  pair_text (Pair.needing x y) i ts = phead_text x i (both (infs_text y (phead_end x i) ts))

  pub phead_text : Phead → ℕ → List Token → List Token
  phead_text Phead.mark i ts = atom word_is.Fin i ts
  phead_text (Phead.brackets x) i ts = left (pair_text x i (right ts))

-- ---- rabin(i,j) = rabop(i,j) | rabop(i,k) "|" rabin(k,j); rabop(i,j) = pair(i,j) | "(" rabin(i,j) ")"

mutual
  pub data Rabin : Type 0 where
    one : Rabop → Rabin
    more : Rabop → Rabin → Rabin

  pub data Rabop : Type 0 where
    pair : Pair → Rabop
    brackets : Rabin → Rabop

unfoldable mutual
  pub rabin_end : Rabin → ℕ → ℕ
  rabin_end (Rabin.one x) i = rabop_end x i
  rabin_end (Rabin.more x y) i = rabin_end y (rabop_end x i)

  pub rabop_end : Rabop → ℕ → ℕ
  rabop_end (Rabop.pair x) i = pair_end x i
  rabop_end (Rabop.brackets x) i = rabin_end x i

unfoldable mutual
  pub rabin_text : Rabin → ℕ → List Token → List Token
  rabin_text (Rabin.one x) i ts = rabop_text x i ts
  rabin_text (Rabin.more x y) i ts = rabop_text x i (either (rabin_text y (rabop_end x i) ts))

  pub rabop_text : Rabop → ℕ → List Token → List Token
  rabop_text (Rabop.pair x) i ts = pair_text x i ts
  rabop_text (Rabop.brackets x) i ts = left (rabin_text x i (right ts))

-- ---- streett(i,j) = strop(i,j) | strop(i,k) "&" streett(k,j); strop(i,j) = "(" spair(i) ")" if j = i+2 | "(" streett(i,j) ")"
-- ---- spair(i) = fin(i) "|" inf(i+1); fin(i) = "Fin" "(" i ")" | "(" fin(i) ")"; inf(i) = "Inf" "(" i ")" | "(" inf(i) ")"

-- a single atom in its brackets: fin(i), inf(i)
pub data Single : Type 0 where
  mark : Single
  brackets : Single → Single

pub record Spair : Type 0 where
  pub fin : Single
  pub inf : Single

mutual
  pub data Streett : Type 0 where
    one : Strop → Streett
    more : Strop → Streett → Streett

  pub data Strop : Type 0 where
    pair : Spair → Strop
    brackets : Streett → Strop

unfoldable mutual
  pub streett_end : Streett → ℕ → ℕ
  streett_end (Streett.one x) i = strop_end x i
  streett_end (Streett.more x y) i = streett_end y (strop_end x i)

  pub strop_end : Strop → ℕ → ℕ
  strop_end (Strop.pair x) i = suc (suc i)
  strop_end (Strop.brackets x) i = streett_end x i

unfoldable pub single_text : Single → Word → ℕ → List Token → List Token
single_text Single.mark w i ts = atom w i ts
single_text (Single.brackets x) w i ts = left (single_text x w i (right ts))

unfoldable pub spair_text : Spair → ℕ → List Token → List Token
spair_text x i ts = single_text x.fin word_is.Fin i (either (single_text x.inf word_is.Inf (suc i) ts))

unfoldable mutual
  pub streett_text : Streett → ℕ → List Token → List Token
  streett_text (Streett.one x) i ts = strop_text x i ts
  streett_text (Streett.more x y) i ts = strop_text x i (both (streett_text y (strop_end x i) ts))

  pub strop_text : Strop → ℕ → List Token → List Token
  strop_text (Strop.pair x) i ts = left (spair_text x i (right ts))
  strop_text (Strop.brackets x) i ts = left (streett_text x i (right ts))

-- ---- std(0) = "t" | "f" | "(" std(0) ")"

pub data Truth : Type 0 where
  truth : Truth
  falsity : Truth
  brackets : Truth → Truth

unfoldable pub truth_text : Truth → List Token → List Token
truth_text Truth.truth ts = word word_is.True ∷ ts
truth_text Truth.falsity ts = word word_is.False ∷ ts
truth_text (Truth.brackets x) ts = left (truth_text x (right ts))

-- ---- std(c) = infs(0,c) | rabin(0,c) | streett(0,c) if c is even | spair(0) if c is 2

pub data Std : Type 0 where
  infs : Infs → Std
  rabin : Rabin → Std
  streett : Streett → Std
  spair : Spair → Std
  truth : Truth → Std

unfoldable pub std_text : Std → List Token → List Token
std_text (Std.infs x) ts = infs_text x 0 ts
std_text (Std.rabin x) ts = rabin_text x 0 ts
std_text (Std.streett x) ts = streett_text x 0 ts
std_text (Std.spair x) ts = spair_text x 0 ts
std_text (Std.truth x) ts = truth_text x ts

-- the formula is one of std(c)
abbrev pub IsStd : ℕ → Std → Type 0
IsStd c (Std.infs x) = infs_end x 0 ≡ c
IsStd c (Std.rabin x) = rabin_end x 0 ≡ c
IsStd c (Std.streett x) = (streett_end x 0 ≡ c) × (c % 2 ≡ 0)
IsStd c (Std.spair x) = c ≡ 2
IsStd c (Std.truth x) = c ≡ 0

-- ---- what it means

-- the number of Inf
unfoldable mutual
  pub infs_count : Infs → ℕ → ℕ
  infs_count (Infs.one x) k = infop_count x k
  infs_count (Infs.more x y) k = infs_count y (infop_count x k)

  pub infop_count : Infop → ℕ → ℕ
  infop_count Infop.mark k = suc k
  infop_count (Infop.brackets x) k = infs_count x k

-- "its need the number of Inf up to the next Fin"
unfoldable mutual
  pub pair_need : Pair → ℕ
  pair_need (Pair.alone x) = phead_need x
  pair_need (Pair.needing x y) = infs_count y (phead_need x)

  pub phead_need : Phead → ℕ
  phead_need Phead.mark = 0
  phead_need (Phead.brackets x) = pair_need x

-- "one pair per Fin": the needs of the pairs, the last pair's first, in front of those of the pairs before
unfoldable mutual
  pub rabin_needs : Rabin → List ℕ → List ℕ
  rabin_needs (Rabin.one x) ns = rabop_needs x ns
  rabin_needs (Rabin.more x y) ns = rabin_needs y (rabop_needs x ns)

  pub rabop_needs : Rabop → List ℕ → List ℕ
  rabop_needs (Rabop.pair x) ns = pair_need x ∷ ns
  rabop_needs (Rabop.brackets x) ns = rabin_needs x ns

-- "eight needs (0 from p on, and 0 for other kinds)"
abbrev pub most_pairs : ℕ
most_pairs = 8

abbrev pub no_needs : List ℕ
no_needs = replicate most_pairs 0

-- eight needs from those of the pairs, the last pair's first
unfoldable pub eight_needs : List ℕ → List ℕ
eight_needs ns = reverse ns ++ replicate (most_pairs - length ns) 0

abbrev pub rabin_meaning : List ℕ → FormulaMeaning
rabin_meaning ns = standard (acceptance.Rabin (length ns)) (eight_needs ns)

-- "`t` Büchi 0, `f` Rabin 0"
unfoldable pub truth_meaning : Truth → FormulaMeaning
truth_meaning Truth.truth = standard (acceptance.Buchi 0) no_needs
truth_meaning Truth.falsity = standard (acceptance.Rabin 0) no_needs
truth_meaning (Truth.brackets x) = truth_meaning x

-- "Büchi c for infs; Streett c/2 for streett and spair; Rabin for rabin"
unfoldable pub std_meaning : ℕ → Std → FormulaMeaning
std_meaning c (Std.infs x) = standard (acceptance.Buchi c) no_needs
std_meaning c (Std.rabin x) = rabin_meaning (rabin_needs x [])
std_meaning c (Std.streett x) = standard (acceptance.Streett (c / 2)) no_needs
std_meaning c (Std.spair x) = standard (acceptance.Streett (c / 2)) no_needs
std_meaning c (Std.truth x) = truth_meaning x
