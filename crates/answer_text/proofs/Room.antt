-- How long the printed answer can be: the buffer that always suffices. Assumes nothing.
use mathlib.Core.Path.{◌≡◌}
use mathlib.Core.Logic.{◌⊎◌, inl, inr}
use mathlib.Core.List.{List, [], ◌∷◌, ◌++◌}
use Prim.Native.Nat.{ℕ, suc, ◌+◌, ◌*◌, ◌^◌, ◌≤◌, ◌<◌}
use native.Mathlib.Omega.{arith}
use lib.ListN.{length, get_or, take, drop, length-append, length-take, length-drop, get_or-eq_default}
use lib.Seq.{get_or-take, get_or-drop}
use Rattle.marks.proofs.Cases.{below}
use Rattle.table.specs.declared.Acceptance.{Acceptance}
use Rattle.table.specs.declared.Acceptance.TheVariants.{Buchi, Streett, Rabin}
use Rattle.table.specs.declared.Verdict.{Verdict}
use Rattle.table.specs.declared.Verdict.TheVariants.{Run, Empty, Refused}
use Rattle.table.specs.Table.{waiting}
use Rattle.table.specs.Verdict.{number_of, place_of, pair_of, prefix_of, cycle_of}
use Rattle.job_text.specs.Text.{comma}
use Rattle.puts.specs.Put.{decimal}
use Rattle.puts.proofs.Puts.{digits_few, decimal_few}
use Rattle.answer_text.specs.Printed.{step_text, further_text, list_text, shown, verdict=, code=, place=, column=, pair=, depth=, prefix=, cycle=, verdict_word, pair_text, top_text, bottom_text, answer_text, most_printed}
use Rattle.answer_text.proofs.Prints.{step_stop, step_number}
use Rattle.job_values.proofs.Cut.{shown_length}

-- ---- an edge number below 512 has at most three digits, and `stop` four letters

-- an edge of a job: one of its table's, or a waiting one
abbrev pub Brief : ℕ → Type 0
Brief e = (e < 512) ⊎ (e ≡ waiting)

-- each cell of a list is one
abbrev pub Briefs : List ℕ → Type 0
Briefs es = (i : ℕ) → Brief (get_or es i 0)

step_short : (e : ℕ) → Brief e → length (step_text e) ≤ 4
step_short e (inl l) =
    let d : length (decimal e) ≤ 3 = digits_few 2 e e (omega (arith, l)) in
    rw (step_number e (λ (q : e ≡ waiting). omega arith)) (omega arith)
step_short e (inr q) = rw (step_stop e q) (omega arith)

further_short : (xs : List ℕ) → Briefs xs → length (further_text xs) ≤ 5 * length xs
unfolding further_text
further_short [] h = omega arith
further_short (x ∷ xs) h =
    omega (arith, step_short x (h 0), length-append (comma ∷ step_text x) (further_text xs), further_short xs (λ i. h (suc i)))

list_short : (xs : List ℕ) → Briefs xs → length (list_text xs) ≤ 5 * length xs + 1
list_short [] h = omega arith
list_short (x ∷ xs) h =
    omega (arith, step_short x (h 0), length-append (step_text x) (further_text xs), further_short xs (λ i. h (suc i)))

-- ---- the cells of a part are cells of the room

take_brief : (n : ℕ) (xs : List ℕ) → Briefs xs → Briefs (take n xs)
take_brief n xs h i =
    below i n (λ l. rw (get_or-take n xs i 0 l) (h i))
    (λ l. rw (get_or-eq_default (take n xs) 0 {n = i} (omega (arith, length-take n xs))) (inl (omega arith)))

drop_brief : (n : ℕ) (xs : List ℕ) → Briefs xs → Briefs (drop n xs)
drop_brief n xs h i = rw (get_or-drop n xs i 0) (h (n + i))

-- ---- the lines

word_short : (v : Verdict) → length (verdict_word v) ≤ 7
word_short (Run prefix cycle pair) = omega arith
word_short Empty = omega arith
word_short (Refused number place) = omega arith

pair_short : (v : Verdict) (c : Acceptance) → pair_of v < 2 ^ 32 → length (pair_text v c) ≤ 10
pair_short (Run prefix cycle pair) (Buchi k) h = omega arith
pair_short (Run prefix cycle pair) (Streett p) h = omega arith
pair_short (Run prefix cycle pair) (Rabin p) h = decimal_few pair h
pair_short Empty c h = omega arith
pair_short (Refused number place) c h = omega arith

top_short : (v : Verdict) (column depth : ℕ) (c : Acceptance) → number_of v < 2 ^ 32 → place_of v < 2 ^ 32 → column < 2 ^ 32 → pair_of v < 2 ^ 32 → depth < 2 ^ 32 → length (top_text v column depth c) ≤ 100
unfolding top_text
top_short v column depth c h k m l d =
    let one = shown verdict= (verdict_word v) in
    let two = shown code= (decimal (number_of v)) in
    let three = shown place= (decimal (place_of v)) in
    let four = shown column= (decimal column) in
    let five = shown pair= (pair_text v c) in
    let six = shown depth= (decimal depth) in
    omega (
      arith,
      length-append ((((one ++ two) ++ three) ++ four) ++ five) six,
      length-append (((one ++ two) ++ three) ++ four) five,
      length-append ((one ++ two) ++ three) four,
      length-append (one ++ two) three,
      length-append one two,
      shown_length verdict= (verdict_word v),
      word_short v,
      shown_length code= (decimal (number_of v)),
      decimal_few (number_of v) h,
      shown_length place= (decimal (place_of v)),
      decimal_few (place_of v) k,
      shown_length column= (decimal column),
      decimal_few column m,
      shown_length pair= (pair_text v c),
      pair_short v c l,
      shown_length depth= (decimal depth),
      decimal_few depth d,
    )

bottom_short : (p c : List ℕ) → Briefs p → Briefs c → length (bottom_text p c) ≤ 5 * length p + 5 * length c + 17
unfolding bottom_text
bottom_short p c h k =
    omega (
      arith,
      length-append (shown prefix= (list_text p)) (shown cycle= (list_text c)),
      shown_length prefix= (list_text p),
      list_short p h,
      shown_length cycle= (list_text c),
      list_short c k,
    )

-- the buffer suffices: for numbers of 32 bits, and a room of at most 8,703 edges of a job
pub enough : (v : Verdict) (column depth : ℕ) (c : Acceptance) (room : List ℕ) → number_of v < 2 ^ 32 → place_of v < 2 ^ 32 → column < 2 ^ 32 → pair_of v < 2 ^ 32
    → depth < 2 ^ 32 → length room ≤ 8703 → Briefs room → length (answer_text v column depth c room) ≤ most_printed
unfolding answer_text
enough v column depth c room h k m l d few brief =
    let p = take (prefix_of v) room in
    let q = take (cycle_of v) (drop (prefix_of v) room) in
    omega (
      arith,
      length-append (top_text v column depth c) (bottom_text p q),
      top_short v column depth c h k m l d,
      bottom_short p q (take_brief (prefix_of v) room brief) (take_brief (cycle_of v) (drop (prefix_of v) room) (drop_brief (prefix_of v) room brief)),
      length-take (prefix_of v) room,
      length-take (cycle_of v) (drop (prefix_of v) room),
      length-drop (prefix_of v) room,
    )
