-- How long a text is at most: 52,205 bytes (docs/RULES.md, "The Hanoi format", the writer). Each number is counted with its digits. Assumes nothing.
use Rattle.std.specs.Prelude.{Ok}
use mathlib.Core.Path.{◌≡◌, refl, ap}
use mathlib.Core.Bool.{Bool, true, false, cond}
use mathlib.Core.List.{List, [], ◌∷◌, ◌++◌}
use Prim.Native.Nat.{ℕ, zero, suc, ◌+◌, ◌-◌, ◌*◌, ◌/◌, ◌%◌, ◌^◌, ◌≤◌, ◌<◌}
use native.Mathlib.Nat.{add-zero}
use native.Mathlib.Omega.{arith}
use lib.Dec.{eqb, ltb}
use lib.ListN.{length, get_or, length-append, get_or-eq_default}
use borrow.Author.Tests.{eq-eqb, ne_eqb, lt-ltb, le-ltb, ltb-false}
use Rattle.marks.proofs.Cases.{same, below}
use Rattle.table.specs.declared.Acceptance.{Acceptance}
use Rattle.table.specs.declared.Acceptance.TheVariants.{Buchi, Streett, Rabin}
use Rattle.table.specs.Table.{lent}
use Rattle.table.specs.Condition.{need, dealt}
use Rattle.table.specs.Refusal.{used, refusal, wrong_condition}
use Rattle.table.proofs.Sound.{Fit, sound_fit, used_few, rabin_few}
use Rattle.puts.specs.Put.{decimal, held, joined}
use Rattle.puts.proofs.Puts.{digits_few, decimal_three, joined_length, joined_zero}
use Rattle.hoa_tokens.specs.Bytes.{bytes}
use Rattle.hoa_written.specs.Written.{line, close, further_infs, buchi_text, streett_pair, further_streett, streett_text, rabin_pair, further_rabin, rabin_text, formula}
use Rattle.hoa_written.specs.Written.{mark_text, marks_text, sig_text, edge_text, leaving, row_text, rows_text, head_text, acceptance_text, hoa_text}
use Rattle.writing.proofs.Writings as writings
use Rattle.hoa_written.proofs.Formulas.{dealt_up}
use Rattle.hoa_written.specs.Writing.{most_written, most_written_edges, most_bytes, too_large, write_refusal}
use Rattle.hoa_writer.proofs.Writings.{not_large}

-- ---- numbers

-- how many digits the numbers below k have together: one each, and one more from 10 and from 100 on
digits_to : ℕ → ℕ
digits_to k = k + (k - 10) + (k - 100)

-- a number below 1,000 has no more digits than it adds to those below it
digits_step : (n m : ℕ) → m ≡ n + 1 → n < 1000 → digits_to n + length (decimal n) ≤ digits_to m
unfolding digits_to
digits_step n m e l =
    below n 10 (λ s. omega (arith, digits_few 0 n n s))
    (λ s. below n 100 (λ h. omega (arith, digits_few 1 n n h)) (λ h. omega (arith, digits_few 2 n n l)))

-- none for none, one for 0, and 54 for those below 32
digits_zero : digits_to 0 ≡ 0
unfolding digits_to
digits_zero = refl

-- one for 0
digits_one : digits_to 1 ≡ 1
unfolding digits_to
digits_one = refl

-- 54 for the marks
digits_marks : (k : ℕ) → k ≤ 32 → digits_to k ≤ 54
unfolding digits_to
digits_marks k l = omega arith

-- 658 for the states
digits_states : (k : ℕ) → k ≤ most_written → digits_to k ≤ 658
unfolding digits_to
digits_states k l = omega arith

-- ---- texts

-- the newline byte
line_length : (text : List ℕ) → length (line text) ≡ length text + 1
line_length text = length-append text (10 ∷ [])

-- the key, the digits and the byte
held_length : (key : List ℕ) (n last : ℕ) → length (held key n last) ≡ length key + length (decimal n) + 1
held_length key n last = omega (arith, length-append (key ++ decimal n) (last ∷ []), length-append key (decimal n))

-- ---- the formula: five bytes and the digits for each mark, `Inf(` and `)`, and what stands between

-- so many marks from mark i on
infs_most : (i k : ℕ) → i + k ≤ 32 → length (further_infs i k) + digits_to i ≤ 6 * k + digits_to (i + k)
unfolding bytes
infs_most i zero l = omega (arith, joined_zero (λ j. held (bytes "&Inf(") (i + j) close), ap digits_to (add-zero i))
infs_most i (suc k) l =
    let more = joined_length (λ j. held (bytes "&Inf(") (i + j) close) k in
    omega (arith, held_length (bytes "&Inf(") (i + k) close, infs_most i k (omega arith), digits_step (i + k) (i + suc k) (omega arith) (omega arith))

-- 32 marks
buchi_most : (k : ℕ) → k ≤ 32 → length (buchi_text k) ≤ 277
unfolding buchi_text bytes
buchi_most zero l = omega arith
buchi_most (suc k) l =
    let long = length-append (held (bytes "Inf(") 0 close) (further_infs 1 k) in
    omega (
      arith,
      held_length (bytes "Inf(") 0 close,
      digits_few 0 0 0 (omega arith),
      infs_most 1 k (omega arith),
      digits_one,
      digits_marks (1 + k) (omega arith),
    )

-- eight bytes beside the key and the digits
streett_pair_lem : (key : List ℕ) (i : ℕ) → i < 16 → length (streett_pair key i) + digits_to (2 * i) ≤ length key + 8 + digits_to (2 * i + 2)
unfolding bytes
streett_pair_lem key i l =
    omega (
      arith,
      length-append (held key (2 * i) close) (held (bytes "|Inf(") (2 * i + 1) close ++ bytes ")"),
      length-append (held (bytes "|Inf(") (2 * i + 1) close) (bytes ")"),
      held_length key (2 * i) close,
      held_length (bytes "|Inf(") (2 * i + 1) close,
      digits_step (2 * i) (2 * i + 1) refl (omega arith),
      digits_step (2 * i + 1) (2 * i + 2) (omega arith) (omega arith),
    )

-- so many pairs behind the first
streett_further : (k : ℕ) → k < 16 → length (further_streett k) + digits_to 2 ≤ 14 * k + digits_to (2 * k + 2)
unfolding bytes
streett_further zero l = omega (arith, joined_zero (λ i. streett_pair (bytes "&(Fin(") (suc i)))
streett_further (suc k) l =
    let two : 2 * suc k ≡ 2 * k + 2 = omega arith in
    omega (
      arith,
      joined_length (λ i. streett_pair (bytes "&(Fin(") (suc i)) k,
      streett_pair_lem (bytes "&(Fin(") (suc k) l,
      ap digits_to two,
      streett_further k (omega arith),
    )

-- 16 pairs: the longest formula
streett_most : (p : ℕ) → p ≤ 16 → length (streett_text p) ≤ 277
unfolding streett_text bytes
streett_most zero l = omega arith
streett_most (suc p) l =
    let long = length-append (streett_pair (bytes "(Fin(") 0) (further_streett p) in
    let first : length (streett_pair (bytes "(Fin(") 0) + digits_to 0 ≤ 5 + 8 + digits_to 2 = streett_pair_lem (bytes "(Fin(") 0 (omega arith) in
    omega (arith, digits_zero, streett_further p (omega arith), digits_marks (2 * p + 2) (omega arith))

-- two bytes beside the key, the digits and the needed marks
rabin_pair_lem : (key : List ℕ) (d k e : ℕ) → e ≡ d + (1 + k) → e ≤ 32 → length (rabin_pair key d k) + digits_to d ≤ length key + 2 + 6 * k + digits_to e
unfolding bytes
rabin_pair_lem key d k e q l =
    let end : d + 1 + k ≡ e = omega arith in
    omega (
      arith,
      length-append (held key d close) (further_infs (d + 1) k ++ bytes ")"),
      length-append (further_infs (d + 1) k) (bytes ")"),
      held_length key d close,
      digits_step d (d + 1) refl (omega arith),
      infs_most (d + 1) k (omega arith),
      ap digits_to end,
    )

module _ (needs : List ℕ) where
  -- so many pairs behind the first
  rabin_further : (k : ℕ) → dealt needs (suc k) ≤ 32
      → length (further_rabin needs k) + digits_to (dealt needs 1) + 6 * dealt needs 1 ≤ 2 * k + 6 * dealt needs (suc k) + digits_to (dealt needs (suc k))
  unfolding bytes
  rabin_further zero l = omega (arith, joined_zero (λ i. rabin_pair (bytes "|(Fin(") (dealt needs (suc i)) (need needs (suc i))))
  rabin_further (suc k) l =
      omega (
        arith,
        joined_length (λ i. rabin_pair (bytes "|(Fin(") (dealt needs (suc i)) (need needs (suc i))) k,
        rabin_pair_lem (bytes "|(Fin(") (dealt needs (suc k)) (need needs (suc k)) (dealt needs (suc (suc k))) refl l,
        rabin_further k (omega arith),
      )

  -- 8 pairs with 32 marks
  rabin_most : (p : ℕ) → p ≤ 8 → dealt needs p ≤ 32 → length (rabin_text needs p) ≤ 277
  unfolding rabin_text bytes
  rabin_most zero l h = omega arith
  rabin_most (suc p) l h =
      let long = length-append (rabin_pair (bytes "(Fin(") 0 (need needs 0)) (further_rabin needs p) in
      let few : dealt needs 1 ≤ 32 = omega (arith, dealt_up needs 1 (suc p) (omega arith)) in
      let first : length (rabin_pair (bytes "(Fin(") 0 (need needs 0)) + digits_to 0 ≤ 5 + 2 + 6 * need needs 0 + digits_to (dealt needs 1) =
      rabin_pair_lem (bytes "(Fin(") 0 (need needs 0) (dealt needs 1) refl few in
      omega (arith, digits_zero, rabin_further p h, digits_marks (dealt needs (suc p)) h)

-- every formula
formula_most : (c : Acceptance) (needs : List ℕ) → wrong_condition c needs ≡ false → length (formula c needs) ≤ 277
formula_most (Buchi k) needs h = buchi_most k (used_few (Buchi k) needs h)
formula_most (Streett p) needs h = streett_most p (ltb-false 16 p h)
formula_most (Rabin p) needs h = rabin_most needs p (rabin_few p needs h) (used_few (Rabin p) needs h)

-- ---- the edges

-- a blank and the digits, at most
mark_length : (there lowest : Bool) (ds : List ℕ) → length (cond there (cond lowest [] (bytes " ") ++ ds) []) ≤ 1 + length ds
unfolding bytes
mark_length true true ds = omega arith
mark_length true false ds = omega arith
mark_length false lowest ds = omega arith

-- mark 0 has no blank before it
mark_first : (set : ℕ) → length (mark_text set 0) ≤ 1
mark_first set =
    let lowest : eqb (set % 2 ^ 0) 0 ≡ true = eq-eqb (set % 2 ^ 0) 0 (omega arith) in
    rw lowest (first_length (eqb (set / 2 ^ 0 % 2) 1))
  where
    first_length : (there : Bool) → length (cond there ([] ++ decimal 0) []) ≤ 1
    first_length true = digits_few 0 0 0 (omega arith)
    first_length false = omega arith

-- a blank before each mark but one
marks_most : (set k : ℕ) → k < 32 → length (joined (mark_text set) (suc k)) + 1 ≤ suc k + digits_to (suc k)
marks_most set zero l = omega (arith, joined_length (mark_text set) 0, joined_zero (mark_text set), mark_first set, digits_one)
marks_most set (suc k) l =
    omega (
      arith,
      joined_length (mark_text set) (suc k),
      mark_length (eqb (set / 2 ^ suc k % 2) 1) (eqb (set % 2 ^ suc k) 0) (decimal (suc k)),
      marks_most set k (omega arith),
      digits_step (suc k) (suc (suc k)) (omega arith) (omega arith),
    )

-- the brackets and a blank
sig_most : (set : ℕ) → length (sig_text set) ≤ 88
unfolding sig_text bytes
sig_most set =
    same set 0 (λ (z : set ≡ 0). rw (eq-eqb set 0 z) (omega arith))
    (λ (z : set ≡ 0 → ⊥).
    let long = length-append (marks_text set) (bytes "}") in
    rw (ne_eqb set 0 z) (omega (arith, marks_most set 31 (omega arith), digits_marks 32 (omega arith))))

-- the label, the target of three digits and the newline byte
edge_most : (to set : ℕ) → to < 1000 → length (edge_text to set) ≤ 96
unfolding edge_text bytes
edge_most to set l =
    omega (arith, line_length (bytes "[t] " ++ (decimal to ++ sig_text set)), length-append (decimal to) (sig_text set), decimal_three to l, sig_most set)

-- ---- the rows: each edge stands in one of them

-- how many of the first k edges leave s, and how many leave a state below s
leave : List ℕ → ℕ → ℕ → ℕ
leave from s zero = 0
leave from s (suc k) = leave from s k + cond (eqb (get_or from k 0) s) 1 0

-- how many of the first k edges leave a state below s
lower : List ℕ → ℕ → ℕ → ℕ
lower from s zero = 0
lower from s (suc k) = lower from s k + cond (ltb (get_or from k 0) s) 1 0

-- no more than there are
lower_most : (from : List ℕ) (s k : ℕ) → lower from s k ≤ k
unfolding lower
lower_most from s zero = omega arith
lower_most from s (suc k) = omega (arith, lower_most from s k, at_most_one (ltb (get_or from k 0) s))
  where
    at_most_one : (b : Bool) → cond b 1 0 ≤ 1
    at_most_one true = omega arith
    at_most_one false = omega arith

-- an edge that leaves s is one more below the next state
counted : (x s : ℕ) → cond (ltb x (suc s)) 1 0 ≡ cond (ltb x s) 1 0 + cond (eqb x s) 1 0
counted x s =
    below x s
    (λ l. rw (lt-ltb x s l, lt-ltb x (suc s) (omega arith), ne_eqb x s (λ (q : x ≡ s). omega arith)))
    (λ l.
    same x s (λ (q : x ≡ s). rw (le-ltb x s l, lt-ltb x (suc s) (omega arith), eq-eqb x s q))
    (λ (q : x ≡ s → ⊥). rw (le-ltb x s l, le-ltb x (suc s) (omega arith), ne_eqb x s q)))

-- those that leave s come in with the next state
lower_next : (from : List ℕ) (s k : ℕ) → lower from (suc s) k ≡ lower from s k + leave from s k
unfolding lower leave
lower_next from s zero = refl
lower_next from s (suc k) = omega (arith, lower_next from s k, counted (get_or from k 0) s)

module _ (from to marks : List ℕ) (small : (e : ℕ) → get_or to e 0 < 1000) where
  -- 96 bytes for each edge that leaves s
  edges_most : (s k : ℕ) → length (joined (leaving from to marks s) k) ≤ 96 * leave from s k
  unfolding leave
  edges_most s zero = omega (arith, joined_zero (leaving from to marks s))
  edges_most s (suc k) =
      let this = one_most (eqb (get_or from k 0) s) (edge_text (get_or to k 0) (get_or marks k 0)) (edge_most (get_or to k 0) (get_or marks k 0) (small k)) in
      omega (arith, joined_length (leaving from to marks s) k, edges_most s k)
    where
      one_most : (b : Bool) (text : List ℕ) → length text ≤ 96 → length (cond b text []) ≤ 96 * cond b 1 0
      one_most true text l = omega arith
      one_most false text l = omega arith

  -- the state and its edges
  row_most : (s : ℕ) → length (row_text from to marks s) ≤ 8 + length (decimal s) + 96 * leave from s (length from)
  unfolding row_text bytes
  row_most s =
      omega (
        arith,
        length-append (line (bytes "State: " ++ decimal s)) (joined (leaving from to marks s) (length from)),
        line_length (bytes "State: " ++ decimal s),
        edges_most s (length from),
      )

  -- all states with their edges
  rows_most : (n : ℕ) → n ≤ most_written → length (rows_text from to marks n) ≤ 8 * n + digits_to n + 96 * lower from n (length from)
  rows_most zero l = omega (arith, joined_zero (row_text from to marks))
  rows_most (suc n) l =
      omega (
        arith,
        joined_length (row_text from to marks) n,
        row_most n,
        rows_most n (omega arith),
        digits_step n (suc n) (omega arith) (omega arith),
        lower_next from n (length from),
      )

-- ---- the whole text

-- four lines
head_most : (n start : ℕ) → n < 1000 → start < 1000 → length (head_text n start) ≤ 37
unfolding head_text bytes
head_most n start l h =
    let rest = line (bytes "Start: " ++ decimal start) ++ line (bytes "AP: 0") in
    omega (
      arith,
      length-append (line (bytes "States: " ++ decimal n)) rest,
      length-append (line (bytes "Start: " ++ decimal start)) (line (bytes "AP: 0")),
      line_length (bytes "States: " ++ decimal n),
      line_length (bytes "Start: " ++ decimal start),
      decimal_three n l,
      decimal_three start h,
    )

-- two digits and the formula
acceptance_most : (c : Acceptance) (needs : List ℕ) → wrong_condition c needs ≡ false → length (acceptance_text c needs) ≤ 293
unfolding acceptance_text bytes
acceptance_most c needs h =
    let marks = used c needs in
    omega (
      arith,
      line_length (held (bytes "Acceptance: ") marks 32 ++ formula c needs),
      length-append (held (bytes "Acceptance: ") marks 32) (formula c needs),
      held_length (bytes "Acceptance: ") marks 32,
      digits_few 1 marks marks (omega (arith, used_few c needs h)),
      formula_most c needs h,
    )

-- "The longest text has 52,205 bytes"
pub most_bytes_lem : (n start : ℕ) (from to marks : List ℕ) (c : Acceptance) (needs : List ℕ) → Fit (lent n start from to marks) c needs
    → n ≤ most_written → length from ≤ most_written_edges → length (hoa_text (lent n start from to marks) c needs) ≤ most_bytes
unfolding hoa_text bytes
most_bytes_lem n start from to marks c needs fit l h =
    let table = fit.proper in
    let rows = rows_text from to marks n in
    omega (
      arith,
      length-append (head_text n start) (acceptance_text c needs ++ (line (bytes "--BODY--") ++ (rows ++ line (bytes "--END--")))),
      length-append (acceptance_text c needs) (line (bytes "--BODY--") ++ (rows ++ line (bytes "--END--"))),
      length-append rows (line (bytes "--END--")),
      head_most n start (omega arith) (omega (arith, table.start_below)),
      acceptance_most c needs fit.condition,
      rows_most from to marks small n l,
      digits_states n l,
      lower_most from n (length from),
    )
  where
    small : (e : ℕ) → get_or to e 0 < 1000
    small e =
        below e (length from) (λ s. omega (arith, fit.proper.to_below e s))
        (λ s. rw (get_or-eq_default to 0 {n = e} (omega (arith, fit.proper.to_length))) (omega arith))

-- so no table that is written is refused for want of room where the output has so many bytes
pub room_enough : (n start : ℕ) (from to marks : List ℕ) (c : Acceptance) (needs : List ℕ) → refusal (lent n start from to marks) c needs ≡ Ok tt
    → n ≤ most_written → length from ≤ most_written_edges → (room : ℕ) → most_bytes ≤ room → write_refusal (lent n start from to marks) c needs room ≡ Ok tt
room_enough n start from to marks c needs sound l h room enough =
    let t = lent n start from to marks in
    let text = hoa_text t c needs in
    let long = most_bytes_lem n start from to marks c needs (sound_fit n start from to marks c needs sound) l h in
    writings.room_enough (refusal t c needs) (too_large t) 42 text room sound (not_large t l h) (omega arith)
