-- The tokens of what is written: piece by piece as it is written, the text spells `written_tokens`. Assumes nothing.
use mathlib.Core.Path.{◌≡◌, refl, sym, ap, subst, ◌∙◌}
use mathlib.Core.Bool.{Bool, true, false, cond}
use mathlib.Core.List.{List, [], ◌∷◌, ◌++◌, map, append-nil}
use Prim.Native.Nat.{ℕ, zero, suc, ◌+◌, ◌*◌, ◌/◌, ◌%◌, ◌^◌, ◌≤◌, ◌<◌}
use native.Mathlib.Nat.{add-zero, zero-add, pow-suc, mul_assoc, div-add-mod, mul-mod_right, mul-div_right}
use native.Mathlib.Omega.{arith}
use lib.Pow.{pow_pos}
use lib.Dec.{eqb}
use lib.ListN.{length, get_or, get_or-eq_default}
use lib.Seq.{drop-length}
use borrow.Author.Tests.{eq-eqb, ne_eqb, ltb-false}
use Rattle.marks.specs.Mark.{Has, width}
use Rattle.marks.proofs.Cases.{same, below}
use Rattle.marks.proofs.Laws.{Has-or_not}
use Rattle.table.specs.declared.Acceptance.{Acceptance}
use Rattle.table.specs.declared.Acceptance.TheVariants.{Buchi, Streett, Rabin}
use Rattle.table.specs.Table.{lent}
use Rattle.table.specs.Condition.{need, dealt}
use Rattle.table.specs.Refusal.{used, wrong_condition}
use Rattle.table.proofs.Sound.{Fit, used_few}
use Rattle.hoa_tokens.specs.declared.Word.TheVariants as word_is
use Rattle.hoa_tokens.specs.declared.Header.TheVariants as header_is
use Rattle.hoa_tokens.specs.declared.Sign.TheVariants as sign_is
use Rattle.hoa_tokens.specs.Bytes.{bytes}
use Rattle.hoa_tokens.specs.Token.{Token, int, word, header, sign, finish, front}
use Rattle.hoa_tokens.specs.Stream.{Placed, gap_of, first, some, tokens_at, unless_finished}
use Rattle.puts.specs.Put.{decimal_in, decimal, joined}
use Rattle.hoa_written.specs.Written.{line, further_infs, buchi_text, streett_pair, streett_text, rabin_pair, rabin_text, formula}
use Rattle.hoa_written.specs.Written.{mark_text, marks_text, sig_text, edge_text, row_text, rows_text, head_text, acceptance_text, hoa_text}
use Rattle.hoa_written.specs.Writing.{most_written}
use Rattle.hoa_written.specs.Tokens.{joined_tokens, atom_tokens, infs_tokens, buchi_tokens, streett_tokens, rabin_tokens, formula_tokens}
use Rattle.hoa_written.specs.Tokens.{mark_tokens, sig_tokens, edge_tokens, row_tokens, written_tokens}
use Rattle.hoa_written.proofs.Formulas.{dealt_up}
use Rattle.hoa_written.proofs.Sigs.{mark_absent, mark_lowest, mark_further}
use Rattle.hoa_written.proofs.Spells.{tokens, Apart, Spells, spells_none, spells_apart, spells_both}
use Rattle.hoa_written.proofs.Ints.{spells_int}
use Rattle.hoa_written.proofs.Words.{spells_t, spells_f, spells_v1, spells_shut, spells_brace, spells_braced, spells_body, spells_end, spells_space, spells_newline}
use Rattle.hoa_written.proofs.Words.{apart_space, apart_newline, apart_braced, key_inf, key_and_inf, key_or_inf, key_pair, key_and_pair, key_or_pair, key_label}
use Rattle.hoa_written.proofs.Words.{key_hoa, key_states, key_start, key_ap, key_acceptance, key_state, held_shut, held_space, held_newline}

-- ---- pieces

-- what follows need not stand apart, but may
free : {a : List ℕ} {f : List Token → List Token} → Spells false a f → Spells true a f
free s = record { spells = λ text at bs e h. s.spells text at bs e tt }

-- a line
spells_line : {q : Bool} {a : List ℕ} {f : List Token → List Token} → Spells q a f → ((bs : List ℕ) → Apart q (10 ∷ bs)) → Spells false (line a) f
spells_line s apart = spells_apart s (λ bs h. apart bs) spells_newline

-- one after another
spells_joined : (f : ℕ → List ℕ) (g : ℕ → List Token → List Token) (k : ℕ) → ((i : ℕ) → i < k → Spells false (f i) (g i)) → Spells false (joined f k) (joined_tokens g k)
unfolding joined joined_tokens
spells_joined f g zero h = spells_none
spells_joined f g (suc k) h = spells_both (spells_joined f g k (λ i l. h i (omega arith))) (h k (omega arith))

-- a text or none
spells_if : (b : Bool) {a : List ℕ} {f : List Token → List Token} → Spells false a f → Spells false (cond b a []) (λ ts. cond b (f ts) ts)
spells_if true s = s
spells_if false s = spells_none

-- ---- the formula

-- the marks behind the first
infs_spell : (i k : ℕ) → i + k ≤ 32 → Spells false (further_infs i k) (infs_tokens i k)
infs_spell i k l = spells_joined _ _ k (λ j h. held_shut key_and_inf (i + j) (omega arith))

-- `Inf(0)&..`, or `t`
buchi_spells : (k : ℕ) → k ≤ 32 → Spells true (buchi_text k) (buchi_tokens k)
unfolding buchi_text buchi_tokens
buchi_spells zero l = spells_t
buchi_spells (suc k) l = free (spells_both (held_shut key_inf 0 (omega arith)) (infs_spell 1 k (omega arith)))

module _ {key : List ℕ} {f : List Token → List Token} (K : Spells false key f) where
  -- a pair, by what its key spells
  streett_pair_spells : (i : ℕ) → i < 16
      → Spells false (streett_pair key i) (λ ts. f (int (2 * i) ∷ (sign sign_is.ParenRight ∷ (sign sign_is.Or ∷ atom_tokens word_is.Inf (2 * i + 1) (sign sign_is.ParenRight ∷ ts)))))
  unfolding bytes
  streett_pair_spells i l = spells_both (held_shut K (2 * i) (omega arith)) (spells_both (held_shut key_or_inf (2 * i + 1) (omega arith)) spells_shut)

  -- a Rabin pair
  rabin_pair_spells : (d k : ℕ) → d + (1 + k) ≤ 32
      → Spells false (rabin_pair key d k) (λ ts. f (int d ∷ (sign sign_is.ParenRight ∷ infs_tokens (d + 1) k (sign sign_is.ParenRight ∷ ts))))
  unfolding bytes
  rabin_pair_spells d k l = spells_both (held_shut K d (omega arith)) (spells_both (infs_spell (d + 1) k (omega arith)) spells_shut)

-- `(Fin(0)|Inf(1))&..`, or `t`
streett_spells : (p : ℕ) → p ≤ 16 → Spells true (streett_text p) (streett_tokens p)
unfolding streett_text streett_tokens
streett_spells zero l = spells_t
streett_spells (suc p) l =
    free (spells_both (streett_pair_spells key_pair 0 (omega arith)) (spells_joined _ _ p (λ i h. streett_pair_spells key_and_pair (suc i) (omega arith))))

module _ (needs : List ℕ) where
  -- `(Fin(0)&Inf(1))|..`, or `f`
  rabin_spells : (p : ℕ) → dealt needs p ≤ 32 → Spells true (rabin_text needs p) (rabin_tokens needs p)
  unfolding rabin_text rabin_tokens
  rabin_spells zero l = spells_f
  rabin_spells (suc p) l =
      free
      (spells_both (rabin_pair_spells key_pair 0 (need needs 0) (omega (arith, dealt_up needs 1 (suc p) (omega arith))))
      (spells_joined _ _ p (λ i h. rabin_pair_spells key_or_pair (dealt needs (suc i)) (need needs (suc i)) (omega (arith, dealt_up needs (suc (suc i)) (suc p) (omega arith))))))

-- every formula
formula_spells : (c : Acceptance) (needs : List ℕ) → wrong_condition c needs ≡ false → Spells true (formula c needs) (formula_tokens c needs)
formula_spells (Buchi k) needs h = buchi_spells k (used_few (Buchi k) needs h)
formula_spells (Streett p) needs h = streett_spells p (ltb-false 16 p h)
formula_spells (Rabin p) needs h = rabin_spells needs p (used_few (Rabin p) needs h)

-- ---- the marks of an edge

-- no mark below k, if the rest by 2 ^ k is 0
rest_less : (set k : ℕ) → set % 2 ^ suc k ≡ 0 → (set % 2 ^ k ≡ 0) × (set / 2 ^ k % 2 ≡ 0)
rest_less set k z =
    let q = set / 2 ^ suc k in
    let e : set ≡ 2 ^ k * (2 * q) =
    sym (div-add-mod set (2 ^ suc k)) ∙ ap (λ (r : ℕ). 2 ^ suc k * q + r) z ∙ add-zero (2 ^ suc k * q) ∙ ap (λ (p : ℕ). p * q) (pow-suc 2 k) ∙ mul_assoc (2 ^ k) 2 q in
    let half : set / 2 ^ k ≡ 2 * q = ap (λ (x : ℕ). x / 2 ^ k) e ∙ mul-div_right (2 * q) (pow_pos k) in
    (ap (λ (x : ℕ). x % 2 ^ k) e ∙ mul-mod_right (2 ^ k) (2 * q), ap (λ (x : ℕ). x % 2) half ∙ mul-mod_right 2 q)

-- then nothing is written for the marks below k
none_below : (set k : ℕ) → set % 2 ^ k ≡ 0 → (joined (mark_text set) k ≡ []) × ((ts : List Token) → joined_tokens (mark_tokens set) k ts ≡ ts)
unfolding joined joined_tokens Has
none_below set zero z = (refl, λ ts. refl)
none_below set (suc k) z =
    let less = rest_less set k z in
    let rest = none_below set k less.0 in
    let absent : eqb (set / 2 ^ k % 2) 1 ≡ false = ne_eqb (set / 2 ^ k % 2) 1 (λ (e : set / 2 ^ k % 2 ≡ 1). omega (arith, less.1)) in
    (rw (absent, rest.0), λ ts. rw absent (rest.1 ts))

-- the same bytes spell tokens that are the same
spells_same : {q : Bool} {a b : List ℕ} {f g : List Token → List Token} → Spells q a f → a ≡ b → ((ts : List Token) → f ts ≡ g ts) → Spells q b g
spells_same s e h = rw (sym e) (record { spells = λ text at bs d w. s.spells text at bs d w ∙ h _ })

-- the marks, a blank before each but the lowest
marks_spell : (set k : ℕ) → k ≤ 32 → Spells true (joined (mark_text set) k) (joined_tokens (mark_tokens set) k)
unfolding joined joined_tokens Has bytes
marks_spell set zero l = free spells_none
marks_spell set (suc k) l =
    let small = spells_int k (omega arith) in
    Has-or_not k set
    (λ h.
    let there = eq-eqb (set / 2 ^ k % 2) 1 h in
    same (set % 2 ^ k) 0
    (λ (z : set % 2 ^ k ≡ 0).
    let none = none_below set k z in
    spells_same small (sym (rw none.0 (mark_lowest set k h z))) (λ ts. rw there (sym (none.1 (int k ∷ ts)))))
    (λ (z : set % 2 ^ k ≡ 0 → ⊥).
    spells_same (spells_apart (marks_spell set k (omega arith)) (λ bs w. apart_space (decimal k ++ bs)) (further k small))
    (ap (λ (m : List ℕ). joined (mark_text set) k ++ m) (sym (mark_further set k h z))) (λ ts. rw there)))
    (λ h.
    let absent = ne_eqb (set / 2 ^ k % 2) 1 h in
    spells_same (marks_spell set k (omega arith)) (sym (rw (mark_absent set k h) (append-nil (joined (mark_text set) k)))) (λ ts. rw absent))
  where
    further : (i : ℕ) → Spells true (decimal i) (λ ts. int i ∷ ts) → Spells true (32 ∷ decimal i) (λ ts. int i ∷ ts)
    further i s = spells_both spells_space s

-- the marks between their brackets, or nothing
sig_spells : (set : ℕ) → Spells false (sig_text set) (sig_tokens set)
unfolding sig_text sig_tokens bytes
sig_spells set = go (eqb set 0)
  where
    go : (none : Bool)
        → Spells false (cond none [] (bytes " {" ++ (marks_text set ++ bytes "}")))
        (λ ts. cond none ts (sign sign_is.BraceLeft ∷ joined_tokens (mark_tokens set) width (sign sign_is.BraceRight ∷ ts)))
    go true = spells_none
    go false = spells_both (spells_both spells_space spells_brace) (spells_apart (marks_spell set 32 (omega arith)) (λ bs h. apart_braced bs) spells_braced)

-- a blank, or what follows
sig_apart : (set : ℕ) (bs : List ℕ) → Apart true bs → Apart true (sig_text set ++ bs)
unfolding sig_text bytes
sig_apart set bs h = go (eqb set 0)
  where
    go : (none : Bool) → Apart true (cond none [] (bytes " {" ++ (marks_text set ++ bytes "}")) ++ bs)
    go true = h
    go false = apart_space ((bytes "{" ++ (marks_text set ++ bytes "}")) ++ bs)

-- ---- the rows

-- the line of an edge
edge_spells : (to set : ℕ) → to < 1000 → Spells false (edge_text to set) (edge_tokens to set)
unfolding edge_text edge_tokens
edge_spells to set l =
    spells_line (spells_both key_label (spells_apart (spells_int to (omega arith)) (sig_apart set) (free (sig_spells set)))) apart_newline

module _ (from to marks : List ℕ) (small : (e : ℕ) → get_or to e 0 < 1000) where
  -- a state's line and those of its edges
  row_spells : (s : ℕ) → s < 1000 → Spells false (row_text from to marks s) (row_tokens from to marks s)
  unfolding row_text row_tokens
  row_spells s l =
      spells_both (held_newline key_state s (omega arith))
      (spells_joined _ _ (length from) (λ e h. spells_if (eqb (get_or from e 0) s) (edge_spells (get_or to e 0) (get_or marks e 0) (small e))))

  -- all states
  rows_spell : (n : ℕ) → n ≤ 1000 → Spells false (rows_text from to marks n) (joined_tokens (row_tokens from to marks) n)
  rows_spell n l = spells_joined _ _ n (λ s h. row_spells s (omega arith))

-- ---- the whole text

-- the lines before the condition's
head_spells : (n start : ℕ) → n < 1000 → start < 1000
    → Spells false (head_text n start)
    (λ ts. header header_is.Hoa ∷ (word word_is.V1 ∷ (header header_is.States ∷ (int n ∷ (header header_is.Start ∷ (int start ∷ (header header_is.Ap ∷ (int 0 ∷ ts))))))))
unfolding head_text bytes decimal_in
head_spells n start l h =
    spells_both (spells_both key_hoa (spells_line spells_v1 apart_newline))
    (spells_both (held_newline key_states n (omega arith)) (spells_both (held_newline key_start start (omega arith)) (held_newline key_ap 0 (omega arith))))

-- the condition's line
acceptance_spells : (c : Acceptance) (needs : List ℕ) → wrong_condition c needs ≡ false
    → Spells false (acceptance_text c needs) (λ ts. header header_is.Acceptance ∷ (int (used c needs) ∷ formula_tokens c needs ts))
unfolding acceptance_text
acceptance_spells c needs h =
    spells_line (spells_both (held_space key_acceptance (used c needs) (omega (arith, used_few c needs h))) (formula_spells c needs h)) apart_newline

-- behind the last byte
at_end : (text : List ℕ) → tokens text (length text) ≡ finish ∷ []
unfolding tokens_at some first gap_of front
at_end text =
    subst
    (λ (bs : List ℕ).
    map (λ (p : Placed). p.token) (let p = first (length text) bs in p ∷ unless_finished p.token (some (length text) text p.next)) ≡ finish ∷ [])
    (sym (drop-length text)) refl

-- the tokens of what is written, for every table that is written
pub written_tokens_lem : (n start : ℕ) (from to marks : List ℕ) (c : Acceptance) (needs : List ℕ) → Fit (lent n start from to marks) c needs → n ≤ most_written
    → tokens (hoa_text (lent n start from to marks) c needs) 0 ≡ written_tokens (lent n start from to marks) c needs
unfolding hoa_text written_tokens
written_tokens_lem n start from to marks c needs fit l =
    let text = hoa_text (lent n start from to marks) c needs in
    let table = fit.proper in
    let whole =
    spells_both (head_spells n start (omega arith) (omega (arith, table.start_below)))
    (spells_both (acceptance_spells c needs fit.condition)
    (spells_both (spells_line spells_body (λ bs. tt)) (spells_both (rows_spell from to marks small n (omega arith)) (spells_line spells_end (λ bs. tt))))) in
    whole.spells text 0 [] (sym (append-nil text)) tt
    ∙ rw (zero-add (length text), at_end text)
  where
    small : (e : ℕ) → get_or to e 0 < 1000
    small e =
        below e (length from) (λ s. omega (arith, fit.proper.to_below e s))
        (λ s. rw (get_or-eq_default to 0 {n = e} (omega (arith, fit.proper.to_length))) (omega arith))
