-- Every standard formula is a condition of section 2 (`std_is_cond`): one tree for each tree. Assumes nothing.
use mathlib.Core.Bool.{false}
use mathlib.Core.List.{List}
use mathlib.Core.Path.{◌≡◌, refl, ap, ◌∙◌}
use Prim.Native.Nat.{ℕ, suc}
use Rattle.hoa_tokens.specs.declared.Word.TheVariants as word_is
use Rattle.hoa_tokens.specs.Token.{Token}
use Rattle.hoa_formula.specs.Cond as section2
use Rattle.hoa_formula.specs.Cond.{Cond, Cconj, Catom, cond_text, cconj_text, catom_text}
use Rattle.hoa_standard.specs.Standard.{left, right, both, either, Infs, Infop, infop_end, infs_text, infop_text, Pair, Phead, phead_end, pair_text, phead_text}
use Rattle.hoa_standard.specs.Standard.{Rabin, Rabop, rabop_end, rabin_text, rabop_text, Single, Spair, Streett, Strop, strop_end, single_text, spair_text}
use Rattle.hoa_standard.specs.Standard.{streett_text, strop_text}
use Rattle.hoa_standard.specs.Standard.{Truth, truth_text, Std, std_text}

inf_mark : ℕ → Catom
inf_mark i = Catom.mark section2.inf false i

fin_mark : ℕ → Catom
fin_mark i = Catom.mark section2.fin false i

mutual
  infs_conj : Infs → ℕ → Cconj
  infs_conj (Infs.one x) i = Cconj.single (infop_atom x i)
  infs_conj (Infs.more x y) i = Cconj.several (infop_atom x i) (infs_conj y (infop_end x i))

  infop_atom : Infop → ℕ → Catom
  infop_atom Infop.mark i = inf_mark i
  infop_atom (Infop.brackets x) i = Catom.brackets (Cond.one (infs_conj x i))

mutual
  unfolding infs_conj infop_atom inf_mark infs_text infop_text cond_text cconj_text catom_text

  infs_cond : (x : Infs) (i : ℕ) (ts : List Token) → cconj_text (infs_conj x i) ts ≡ infs_text x i ts
  infs_cond (Infs.one x) i ts = infop_cond x i ts
  infs_cond (Infs.more x y) i ts =
      infop_cond x i (both (cconj_text (infs_conj y (infop_end x i)) ts)) ∙ ap (λ (us : List Token). infop_text x i (both us)) (infs_cond y (infop_end x i) ts)

  infop_cond : (x : Infop) (i : ℕ) (ts : List Token) → catom_text (infop_atom x i) ts ≡ infop_text x i ts
  infop_cond Infop.mark i ts = refl
  infop_cond (Infop.brackets x) i ts = ap left (infs_cond x i (right ts))

mutual
  pair_conj : Pair → ℕ → Cconj
  pair_conj (Pair.alone x) i = Cconj.single (phead_atom x i)
  pair_conj (Pair.needing x y) i = Cconj.several (phead_atom x i) (infs_conj y (phead_end x i))

  phead_atom : Phead → ℕ → Catom
  phead_atom Phead.mark i = fin_mark i
  phead_atom (Phead.brackets x) i = Catom.brackets (Cond.one (pair_conj x i))

mutual
  unfolding pair_conj phead_atom fin_mark pair_text phead_text cond_text cconj_text catom_text

  pair_cond : (x : Pair) (i : ℕ) (ts : List Token) → cconj_text (pair_conj x i) ts ≡ pair_text x i ts
  pair_cond (Pair.alone x) i ts = phead_cond x i ts
  pair_cond (Pair.needing x y) i ts =
      phead_cond x i (both (cconj_text (infs_conj y (phead_end x i)) ts)) ∙ ap (λ (us : List Token). phead_text x i (both us)) (infs_cond y (phead_end x i) ts)

  phead_cond : (x : Phead) (i : ℕ) (ts : List Token) → catom_text (phead_atom x i) ts ≡ phead_text x i ts
  phead_cond Phead.mark i ts = refl
  phead_cond (Phead.brackets x) i ts = ap left (pair_cond x i (right ts))

mutual
  rabin_cond : Rabin → ℕ → Cond
  rabin_cond (Rabin.one x) i = Cond.one (rabop_conj x i)
  rabin_cond (Rabin.more x y) i = Cond.more (rabop_conj x i) (rabin_cond y (rabop_end x i))

  rabop_conj : Rabop → ℕ → Cconj
  rabop_conj (Rabop.pair x) i = pair_conj x i
  rabop_conj (Rabop.brackets x) i = Cconj.single (Catom.brackets (rabin_cond x i))

mutual
  unfolding rabin_cond rabop_conj rabin_text rabop_text cond_text cconj_text catom_text

  rabin_cond_lem : (x : Rabin) (i : ℕ) (ts : List Token) → cond_text (rabin_cond x i) ts ≡ rabin_text x i ts
  rabin_cond_lem (Rabin.one x) i ts = rabop_cond x i ts
  rabin_cond_lem (Rabin.more x y) i ts =
      rabop_cond x i (either (cond_text (rabin_cond y (rabop_end x i)) ts)) ∙ ap (λ (us : List Token). rabop_text x i (either us)) (rabin_cond_lem y (rabop_end x i) ts)

  rabop_cond : (x : Rabop) (i : ℕ) (ts : List Token) → cconj_text (rabop_conj x i) ts ≡ rabop_text x i ts
  rabop_cond (Rabop.pair x) i ts = pair_cond x i ts
  rabop_cond (Rabop.brackets x) i ts = ap left (rabin_cond_lem x i (right ts))

fin_atom : Single → ℕ → Catom
fin_atom Single.mark i = fin_mark i
fin_atom (Single.brackets x) i = Catom.brackets (Cond.one (Cconj.single (fin_atom x i)))

inf_atom : Single → ℕ → Catom
inf_atom Single.mark i = inf_mark i
inf_atom (Single.brackets x) i = Catom.brackets (Cond.one (Cconj.single (inf_atom x i)))

fin_cond : (x : Single) (i : ℕ) (ts : List Token) → catom_text (fin_atom x i) ts ≡ single_text x word_is.Fin i ts
unfolding fin_atom fin_mark single_text cond_text cconj_text catom_text
fin_cond Single.mark i ts = refl
fin_cond (Single.brackets x) i ts = ap left (fin_cond x i (right ts))

inf_cond : (x : Single) (i : ℕ) (ts : List Token) → catom_text (inf_atom x i) ts ≡ single_text x word_is.Inf i ts
unfolding inf_atom inf_mark single_text cond_text cconj_text catom_text
inf_cond Single.mark i ts = refl
inf_cond (Single.brackets x) i ts = ap left (inf_cond x i (right ts))

spair_cond : Spair → ℕ → Cond
spair_cond x i = Cond.more (Cconj.single (fin_atom x.fin i)) (Cond.one (Cconj.single (inf_atom x.inf (suc i))))

spair_cond_lem : (x : Spair) (i : ℕ) (ts : List Token) → cond_text (spair_cond x i) ts ≡ spair_text x i ts
unfolding spair_cond spair_text cond_text cconj_text catom_text
spair_cond_lem x i ts =
    fin_cond x.fin i (either (catom_text (inf_atom x.inf (suc i)) ts))
    ∙ ap (λ (us : List Token). single_text x.fin word_is.Fin i (either us)) (inf_cond x.inf (suc i) ts)

mutual
  streett_conj : Streett → ℕ → Cconj
  streett_conj (Streett.one x) i = Cconj.single (strop_atom x i)
  streett_conj (Streett.more x y) i = Cconj.several (strop_atom x i) (streett_conj y (strop_end x i))

  strop_atom : Strop → ℕ → Catom
  strop_atom (Strop.pair x) i = Catom.brackets (spair_cond x i)
  strop_atom (Strop.brackets x) i = Catom.brackets (Cond.one (streett_conj x i))

mutual
  unfolding streett_conj strop_atom streett_text strop_text cond_text cconj_text catom_text

  streett_cond : (x : Streett) (i : ℕ) (ts : List Token) → cconj_text (streett_conj x i) ts ≡ streett_text x i ts
  streett_cond (Streett.one x) i ts = strop_cond x i ts
  streett_cond (Streett.more x y) i ts =
      strop_cond x i (both (cconj_text (streett_conj y (strop_end x i)) ts)) ∙ ap (λ (us : List Token). strop_text x i (both us)) (streett_cond y (strop_end x i) ts)

  strop_cond : (x : Strop) (i : ℕ) (ts : List Token) → catom_text (strop_atom x i) ts ≡ strop_text x i ts
  strop_cond (Strop.pair x) i ts = ap left (spair_cond_lem x i (right ts))
  strop_cond (Strop.brackets x) i ts = ap left (streett_cond x i (right ts))

truth_atom : Truth → Catom
truth_atom Truth.truth = Catom.truth
truth_atom Truth.falsity = Catom.falsity
truth_atom (Truth.brackets x) = Catom.brackets (Cond.one (Cconj.single (truth_atom x)))

truth_cond : (x : Truth) (ts : List Token) → catom_text (truth_atom x) ts ≡ truth_text x ts
unfolding truth_atom truth_text cond_text cconj_text catom_text
truth_cond Truth.truth ts = refl
truth_cond Truth.falsity ts = refl
truth_cond (Truth.brackets x) ts = ap left (truth_cond x (right ts))

-- every standard text is a section-2 text, whatever follows it
pub std_cond : (x : Std) → (y : Cond) × ((ts : List Token) → cond_text y ts ≡ std_text x ts)
unfolding std_text cond_text cconj_text
std_cond (Std.infs x) = (Cond.one (infs_conj x 0), λ ts. infs_cond x 0 ts)
std_cond (Std.rabin x) = (rabin_cond x 0, λ ts. rabin_cond_lem x 0 ts)
std_cond (Std.streett x) = (Cond.one (streett_conj x 0), λ ts. streett_cond x 0 ts)
std_cond (Std.spair x) = (spair_cond x 0, λ ts. spair_cond_lem x 0 ts)
std_cond (Std.truth x) = (Cond.one (Cconj.single (truth_atom x)), λ ts. truth_cond x ts)

pub std_is_cond : (x : Std) (ts : List Token) → (y : Cond) × (cond_text y ts ≡ std_text x ts)
std_is_cond x ts = ((std_cond x).0, (std_cond x).1 ts)
