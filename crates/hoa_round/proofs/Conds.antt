-- The formula that is written is a condition of the format's grammar: its tree, with the tokens of the standard formula. Assumes nothing.
use mathlib.Core.Bool.{false}
use mathlib.Core.List.{List}
use mathlib.Core.Path.{◌≡◌, refl, ap, ◌∙◌}
use Prim.Native.Nat.{ℕ, zero, suc}
use Rattle.table.specs.declared.Acceptance.{Acceptance}
use Rattle.table.specs.declared.Acceptance.TheVariants as acceptance
use Rattle.table.specs.Condition.{need}
use Rattle.hoa_tokens.specs.Token.{Token}
use Rattle.hoa_formula.specs.Cond.{inf, fin, Cond, Cconj, Catom, cond_text, cconj_text}
use Rattle.hoa_standard.specs.Standard.{left, right, both, either, Strop, infs_text, infs_end, pair_text, pair_end, rabin_text, rabop_text, rabop_end}
use Rattle.hoa_standard.specs.Standard.{streett_text, streett_end, strop_text, spair_text, single_text, truth_text, std_text}
use Rattle.hoa_round.specs.Trees.{infs_of, needing_of, pair_of, rabin_of, asking_of, streett_of, std_of}

-- mark i and so many behind it
abbrev infs_conj : ℕ → ℕ → Cconj
infs_conj zero i = Cconj.single (Catom.mark inf false i)
infs_conj (suc k) i = Cconj.several (Catom.mark inf false i) (infs_conj k (suc i))

-- its tokens
infs_conj_lem : (k i : ℕ) (ts : List Token) → cconj_text (infs_conj k i) ts ≡ infs_text (infs_of k) i ts
unfolding cond_text infs_text infs_end
infs_conj_lem zero i ts = refl
infs_conj_lem (suc k) i ts = ap (λ (us : List Token). cconj_text (Cconj.single (Catom.mark inf false i)) (both us)) (infs_conj_lem k (suc i) ts)

-- a forbidden mark d and so many needed marks
abbrev needing_conj : ℕ → ℕ → Cconj
needing_conj zero d = Cconj.single (Catom.mark fin false d)
needing_conj (suc k) d = Cconj.several (Catom.mark fin false d) (infs_conj k (suc d))

-- its tokens
needing_conj_lem : (k d : ℕ) (ts : List Token) → cconj_text (needing_conj k d) ts ≡ pair_text (needing_of k) d ts
unfolding cond_text pair_text pair_end
needing_conj_lem zero d ts = refl
needing_conj_lem (suc k) d ts = ap (λ (us : List Token). cconj_text (Cconj.single (Catom.mark fin false d)) (both us)) (infs_conj_lem k (suc d) ts)

-- the same in brackets
abbrev pair_conj : ℕ → ℕ → Cconj
pair_conj k d = Cconj.single (Catom.brackets (Cond.one (needing_conj k d)))

-- its tokens
pair_conj_lem : (k d : ℕ) (ts : List Token) → cconj_text (pair_conj k d) ts ≡ rabop_text (pair_of k) d ts
unfolding cond_text rabin_text pair_text
pair_conj_lem k d ts = ap left (needing_conj_lem k d (right ts))

-- pair i, with the forbidden mark d, and so many behind it
abbrev rabin_cond : List ℕ → ℕ → ℕ → ℕ → Cond
rabin_cond needs i zero d = Cond.one (pair_conj (need needs i) d)
rabin_cond needs i (suc k) d = Cond.more (pair_conj (need needs i) d) (rabin_cond needs (suc i) k (rabop_end (pair_of (need needs i)) d))

-- its tokens
rabin_cond_lem : (needs : List ℕ) (k i d : ℕ) (ts : List Token) → cond_text (rabin_cond needs i k d) ts ≡ rabin_text (rabin_of needs i k) d ts
unfolding cond_text rabin_text
rabin_cond_lem needs zero i d ts = pair_conj_lem (need needs i) d ts
rabin_cond_lem needs (suc k) i d ts =
    let behind = rabop_end (pair_of (need needs i)) d in
    pair_conj_lem (need needs i) d (either (cond_text (rabin_cond needs (suc i) k behind) ts))
    ∙ ap (λ (us : List Token). rabop_text (pair_of (need needs i)) d (either us)) (rabin_cond_lem needs k (suc i) behind ts)

-- a mark i that asks for the next, in brackets
abbrev asking_conj : ℕ → Catom
asking_conj i = Catom.brackets (Cond.more (Cconj.single (Catom.mark fin false i)) (Cond.one (Cconj.single (Catom.mark inf false (suc i)))))

-- a pair from mark i on and so many behind it
abbrev streett_conj : ℕ → ℕ → Cconj
streett_conj zero i = Cconj.single (asking_conj i)
streett_conj (suc k) i = Cconj.several (asking_conj i) (streett_conj k (suc (suc i)))

-- its tokens
streett_conj_lem : (k i : ℕ) (ts : List Token) → cconj_text (streett_conj k i) ts ≡ streett_text (streett_of k) i ts
unfolding cond_text streett_text streett_end spair_text single_text
streett_conj_lem zero i ts = refl
streett_conj_lem (suc k) i ts = ap (λ (us : List Token). strop_text (Strop.pair asking_of) i (both us)) (streett_conj_lem k (suc (suc i)) ts)

-- the formula of a condition
abbrev pub cond_of : Acceptance → List ℕ → Cond
cond_of (acceptance.Buchi zero) needs = Cond.one (Cconj.single Catom.truth)
cond_of (acceptance.Buchi (suc k)) needs = Cond.one (infs_conj k 0)
cond_of (acceptance.Streett zero) needs = Cond.one (Cconj.single Catom.truth)
cond_of (acceptance.Streett (suc p)) needs = Cond.one (streett_conj p 0)
cond_of (acceptance.Rabin zero) needs = Cond.one (Cconj.single Catom.falsity)
cond_of (acceptance.Rabin (suc p)) needs = rabin_cond needs 0 p 0

-- its tokens are those of the standard formula
pub cond_tree : (c : Acceptance) (needs : List ℕ) (ts : List Token) → cond_text (cond_of c needs) ts ≡ std_text (std_of c needs) ts
unfolding cond_text std_text truth_text
cond_tree (acceptance.Buchi zero) needs ts = refl
cond_tree (acceptance.Buchi (suc k)) needs ts = infs_conj_lem k 0 ts
cond_tree (acceptance.Streett zero) needs ts = refl
cond_tree (acceptance.Streett (suc p)) needs ts = streett_conj_lem p 0 ts
cond_tree (acceptance.Rabin zero) needs ts = refl
cond_tree (acceptance.Rabin (suc p)) needs ts = rabin_cond_lem needs p 0 0 ts
