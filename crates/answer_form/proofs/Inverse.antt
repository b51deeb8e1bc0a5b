-- The reader of answer texts is the inverse of the printer: what an answer of ours prints is read as it, and what is read as an answer of ours is what it prints.
-- Assumes nothing.
use mathlib.Core.Path.{◌≡◌, refl, sym, ap, ◌∙◌}
use mathlib.Core.Bool.{Bool, true, false, false≢true, cond}
use mathlib.Core.List.{List, [], ◌∷◌, ◌++◌, append_assoc}
use mathlib.Core.Option.{Option, some, none}
use Prim.Native.Nat.{ℕ, ◌≤◌}
use native.Mathlib.Omega.{arith}
use lib.Dec.{eqb}
use lib.ListN.{length, take, drop, take-append-drop}
use lib.Seq.{take-append_seam, drop-append_seam, take-length}
use borrow.Author.Tests.{ne_eqb}
use Rattle.table.specs.declared.Acceptance.{Acceptance}
use Rattle.table.specs.declared.Verdict.TheVariants.{Run, Empty, Refused}
use Rattle.puts.specs.Put.{decimal_in, decimal}
use Rattle.job_text.specs.Text.{newline, same, ahead}
use Rattle.job_text.specs.Value.{dash, most_number, number}
use Rattle.job_text.proofs.Text.{by_test}
use Rattle.answer_text.specs.Printed.{shown, verdict=, code=, place=, column=, pair=, depth=, prefix=, cycle=, verdict_word, is_rabin, pair_text, list_text, head_text, top_text, bottom_text, answer_text}
use Rattle.answer_form.specs.Form.{Said, run, empty, refused, verdict_of, column_of, depth_of, room_of, Ours, Says, Malformed}
use Rattle.answer_form.specs.Given.{starts_with, Cut, value_then, list_given, pair_given, run_head, then_prefix, then_cycle, refused_head, then_place, then_column, refused_tail, empty_head, empty_tail, over, RunText, run_text, run_of, run_given, Where, where_given, refused_given, empty_given, given}
use Rattle.puts.proofs.Over.{Over, decimal_over}
use Rattle.job_values.proofs.Decimals.{number_decimal, ahead_over}
use Rattle.job_values.proofs.Fields.{ahead_append}
use Rattle.job_values.proofs.Spoken.{same_refl, same_is}
use Rattle.answer_form.proofs.Digits.{none_some, some_same, after, passed, decimal_number}
use Rattle.answer_form.proofs.Lists.{list_read, read_list, list_over}

-- ---- a word in front, and a value before it

starts_there : (word rest : List ℕ) → starts_with word (word ++ rest) ≡ true
starts_there word rest = rw (take-append_seam word rest) (same_refl word)

starts_back : (word xs : List ℕ) → starts_with word xs ≡ true → xs ≡ word ++ drop (length word) xs
starts_back word xs t =
    sym (take-append-drop (length word) xs) ∙ ap (λ (l : List ℕ). l ++ drop (length word) xs) (same_is (take (length word) xs) word t)

-- no newline byte in the value: the first one stands behind it
ahead_there : (v rest : List ℕ) → Over newline v → ahead newline (v ++ (newline ∷ rest)) ≡ length v
ahead_there v rest h = ahead_append newline v rest (ahead_over newline v h)

value_there : (w v rest : List ℕ) → Over newline v → value_then (newline ∷ w) (v ++ ((newline ∷ w) ++ rest)) ≡ some (record { value = v; rest = rest })
unfolding value_then
value_there w v rest h =
    rw (
      ahead_there v (w ++ rest) h,
      take-append_seam v (newline ∷ (w ++ rest)),
      drop-append_seam v (newline ∷ (w ++ rest)),
      starts_there (newline ∷ w) rest,
      drop-append_seam (newline ∷ w) rest,
    )

value_back : (word xs : List ℕ) (c : Cut) → value_then word xs ≡ some c → xs ≡ c.value ++ (word ++ c.rest)
unfolding value_then
value_back word xs c e =
    let p = passed (starts_with word (drop (ahead newline xs) xs))
    (some (record { value = take (ahead newline xs) xs; rest = drop (length word) (drop (ahead newline xs) xs) })) c e in
    let q : record { value = take (ahead newline xs) xs; rest = drop (length word) (drop (ahead newline xs) xs) } ≡ c = some_same p.1 in
    let s : drop (ahead newline xs) xs ≡ word ++ drop (length word) (drop (ahead newline xs) xs) = starts_back word (drop (ahead newline xs) xs) p.0 in
    sym (take-append-drop (ahead newline xs) xs) ∙ ap (λ (l : List ℕ). take (ahead newline xs) xs ++ l) s ∙ ap (λ (k : Cut). k.value ++ (word ++ k.rest)) q

pub over_back : {A : Type 0} (rest : List ℕ) (o : Option A) (a : A) → over rest o ≡ some a → (rest ≡ []) × (o ≡ some a)
over_back [] o a e = (refl, e)
over_back (x ∷ rest) o a e =
    let z : eqb (length (x ∷ rest)) 0 ≡ false = ne_eqb (length (x ∷ rest)) 0 (λ (q : length (x ∷ rest) ≡ 0). omega arith) in
    absurd (none_some (rw z at e))

-- ---- how the lines of an answer hang together

piece : (key v rest : List ℕ) → ((key ++ v) ++ (newline ∷ [])) ++ rest ≡ key ++ (v ++ (newline ∷ rest))
piece key v rest = append_assoc (key ++ v) (newline ∷ []) rest ∙ append_assoc key v (newline ∷ rest)

-- a run's text from its pair on
abbrev behind_run : List ℕ → List ℕ → List ℕ → List ℕ
behind_run pt p q = pt ++ (then_prefix ++ (p ++ (then_cycle ++ (q ++ ((newline ∷ []) ++ [])))))

-- a run's and a refusal's depth
abbrev no_depth : List ℕ
no_depth = shown depth= (decimal 0)

-- a run's last lines, from its depth on
behind_depth : (p q : List ℕ) → no_depth ++ (shown prefix= p ++ shown cycle= q) ≡ (no_depth ++ prefix=) ++ (p ++ (then_cycle ++ (q ++ ((newline ∷ []) ++ []))))
behind_depth p q =
    ap (λ (l : List ℕ). no_depth ++ l) (piece prefix= p (shown cycle= q) ∙ ap (λ (l : List ℕ). prefix= ++ (p ++ (newline ∷ l))) (append_assoc cycle= q (newline ∷ [])))
    ∙ sym (append_assoc no_depth prefix= (p ++ (then_cycle ++ (q ++ ((newline ∷ []) ++ [])))))

three : (top pt p q : List ℕ) → ((top ++ shown pair= pt) ++ no_depth) ++ (shown prefix= p ++ shown cycle= q) ≡ (top ++ pair=) ++ behind_run pt p q
three top pt p q =
    append_assoc (top ++ shown pair= pt) no_depth (shown prefix= p ++ shown cycle= q)
    ∙ append_assoc top (shown pair= pt) (no_depth ++ (shown prefix= p ++ shown cycle= q))
    ∙ ap (λ (l : List ℕ). top ++ l)
    (piece pair= pt (no_depth ++ (shown prefix= p ++ shown cycle= q)) ∙ ap (λ (l : List ℕ). pair= ++ (pt ++ (newline ∷ l))) (behind_depth p q))
    ∙ sym (append_assoc top pair= (behind_run pt p q))

run_text_lem : (c : Acceptance) (pair : ℕ) (p q : List ℕ)
    → answer_text (verdict_of (run pair p q)) 0 0 c (room_of (run pair p q)) ≡ run_head ++ behind_run (pair_text (verdict_of (run pair p q)) c) (list_text p) (list_text q)
unfolding answer_text top_text bottom_text
run_text_lem c pair p q =
    rw (take-append_seam p q, drop-append_seam p q, take-length q)
    (three (head_text (Run 0 0 0) 0) (pair_text (verdict_of (run pair p q)) c) (list_text p) (list_text q))

-- a refusal's text from its place on ..
abbrev behind_place : List ℕ → List ℕ → List ℕ
behind_place p k = p ++ (then_column ++ (k ++ (refused_tail ++ [])))

-- .. and from its number on
abbrev behind_refused : List ℕ → List ℕ → List ℕ → List ℕ
behind_refused n p k = n ++ (then_place ++ behind_place p k)

two : (v n p last : List ℕ) → (((v ++ shown code= n) ++ shown place= p) ++ last) ≡ (v ++ code=) ++ (n ++ (then_place ++ (p ++ (newline ∷ last))))
two v n p last =
    append_assoc (v ++ shown code= n) (shown place= p) last
    ∙ append_assoc v (shown code= n) (shown place= p ++ last)
    ∙ ap (λ (l : List ℕ). v ++ l) (piece code= n (shown place= p ++ last) ∙ ap (λ (l : List ℕ). code= ++ (n ++ (newline ∷ l))) (piece place= p last))
    ∙ sym (append_assoc v code= (n ++ (then_place ++ (p ++ (newline ∷ last)))))

four : (v n p k last : List ℕ)
    → (((v ++ shown code= n) ++ shown place= p) ++ shown column= k) ++ last ≡ (v ++ code=) ++ (n ++ (then_place ++ (p ++ (then_column ++ (k ++ (newline ∷ last))))))
four v n p k last =
    append_assoc ((v ++ shown code= n) ++ shown place= p) (shown column= k) last
    ∙ two v n p (shown column= k ++ last)
    ∙ ap (λ (l : List ℕ). (v ++ code=) ++ (n ++ (then_place ++ (p ++ (newline ∷ l))))) (piece column= k last)

refused_text_lem : (c : Acceptance) (n p k : ℕ) → answer_text (Refused n p) k 0 c [] ≡ refused_head ++ behind_refused (decimal n) (decimal p) (decimal k)
unfolding answer_text top_text bottom_text decimal_in
refused_text_lem c n p k =
    let top = head_text (Refused n p) k in
    append_assoc (top ++ shown pair= dash) no_depth (shown prefix= dash ++ shown cycle= dash)
    ∙ append_assoc top (shown pair= dash) (no_depth ++ (shown prefix= dash ++ shown cycle= dash))
    ∙ four (shown verdict= (verdict_word (Refused n p))) (decimal n) (decimal p) (decimal k) (shown pair= dash ++ (no_depth ++ (shown prefix= dash ++ shown cycle= dash)))

-- an empty verdict's text from its depth on
abbrev behind_empty : List ℕ → List ℕ
behind_empty d = d ++ (empty_tail ++ [])

empty_text : (c : Acceptance) (d : ℕ) → answer_text Empty 0 d c [] ≡ empty_head ++ behind_empty (decimal d)
unfolding answer_text top_text bottom_text
empty_text c d =
    let top = head_text Empty 0 ++ shown pair= dash in
    append_assoc top (shown depth= (decimal d)) (shown prefix= dash ++ shown cycle= dash)
    ∙ ap (λ (l : List ℕ). top ++ l) (piece depth= (decimal d) (shown prefix= dash ++ shown cycle= dash))
    ∙ sym (append_assoc top depth= (behind_empty (decimal d)))

-- ---- what is printed is read

-- the first words tell the three apart
run_not_empty : (rest : List ℕ) → starts_with empty_head (run_head ++ rest) ≡ false
unfolding same decimal_in
run_not_empty rest = refl

refused_not_empty : (rest : List ℕ) → starts_with empty_head (refused_head ++ rest) ≡ false
unfolding same decimal_in
refused_not_empty rest = refl

refused_not_run : (rest : List ℕ) → starts_with run_head (refused_head ++ rest) ≡ false
unfolding same decimal_in
refused_not_run rest = refl

dash_over : Over newline dash
dash_over = (omega arith, tt)

pair_over : (rabin : Bool) (pair : ℕ) → Over newline (cond rabin (decimal pair) dash)
pair_over true pair = decimal_over newline pair (omega arith)
pair_over false pair = dash_over

pair_read : (rabin : Bool) (pair : ℕ) → pair ≤ most_number → (rabin ≡ false → pair ≡ 0) → pair_given rabin (cond rabin (decimal pair) dash) ≡ some pair
unfolding pair_given
pair_read true pair l z = number_decimal pair l
pair_read false pair l z = rw (same_refl dash) (ap some (sym (z refl)))

run_read : (rabin : Bool) (pair : ℕ) (p q : List ℕ) → pair_given rabin (cond rabin (decimal pair) dash) ≡ some pair → list_given (list_text p) ≡ some p → list_given (list_text q) ≡ some q
    → run_given rabin (behind_run (cond rabin (decimal pair) dash) (list_text p) (list_text q)) ≡ some (run pair p q)
unfolding run_text
run_read rabin pair p q e f g =
    let pt = cond rabin (decimal pair) dash in
    rw (
      value_there (no_depth ++ prefix=) pt (list_text p ++ (then_cycle ++ (list_text q ++ ((newline ∷ []) ++ [])))) (pair_over rabin pair),
      value_there cycle= (list_text p) (list_text q ++ ((newline ∷ []) ++ [])) (list_over p),
      value_there [] (list_text q) [] (list_over q),
      e,
      f,
      g,
    )

where_read : (p k : ℕ) → p ≤ most_number → k ≤ most_number → where_given (behind_place (decimal p) (decimal k)) ≡ some (record { place = p; column = k })
unfolding where_given
where_read p k l h =
    rw (
      value_there column= (decimal p) (decimal k ++ (refused_tail ++ [])) (decimal_over newline p (omega arith)),
      value_there (shown pair= dash ++ (no_depth ++ (shown prefix= dash ++ shown cycle= dash))) (decimal k) [] (decimal_over newline k (omega arith)),
      number_decimal p l,
      number_decimal k h,
    )

refused_read_lem : (n p k : ℕ) → n ≤ most_number → p ≤ most_number → k ≤ most_number → refused_given (behind_refused (decimal n) (decimal p) (decimal k)) ≡ some (refused n p k)
unfolding refused_given
refused_read_lem n p k l h g =
    rw (
      value_there place= (decimal n) (behind_place (decimal p) (decimal k)) (decimal_over newline n (omega arith)),
      number_decimal n l,
      where_read p k h g,
    )

empty_read : (d : ℕ) → d ≤ most_number → empty_given (behind_empty (decimal d)) ≡ some (empty d)
unfolding empty_given
empty_read d l =
    rw (value_there (shown prefix= dash ++ shown cycle= dash) (decimal d) [] (decimal_over newline d (omega arith)), number_decimal d l)

given_run : (rabin : Bool) (rest : List ℕ) → given rabin (run_head ++ rest) ≡ run_given rabin rest
unfolding given
given_run rabin rest = rw (run_not_empty rest, starts_there run_head rest, drop-append_seam run_head rest)

given_refused : (rabin : Bool) (rest : List ℕ) → given rabin (refused_head ++ rest) ≡ refused_given rest
unfolding given
given_refused rabin rest = rw (refused_not_empty rest, refused_not_run rest, starts_there refused_head rest, drop-append_seam refused_head rest)

given_empty : (rabin : Bool) (rest : List ℕ) → given rabin (empty_head ++ rest) ≡ empty_given rest
unfolding given
given_empty rabin rest = rw (starts_there empty_head rest, drop-append_seam empty_head rest)

printed_read : (c : Acceptance) (s : Said) → Ours c s → given (is_rabin c) (answer_text (verdict_of s) (column_of s) (depth_of s) c (room_of s)) ≡ some s
printed_read c (run pair p q) o =
    rw (run_text_lem c pair p q, given_run (is_rabin c) (behind_run (cond (is_rabin c) (decimal pair) dash) (list_text p) (list_text q)))
    (run_read (is_rabin c) pair p q (pair_read (is_rabin c) pair o.pair_within o.no_pair) (list_read p o.prefix_within) (list_read q o.cycle_within))
printed_read c (empty d) l = rw (empty_text c d, given_empty (is_rabin c) (behind_empty (decimal d))) (empty_read d l)
printed_read c (refused n p k) o =
    rw (refused_text_lem c n p k, given_refused (is_rabin c) (behind_refused (decimal n) (decimal p) (decimal k)))
    (refused_read_lem n p k o.number_within o.place_within o.column_within)

-- what a well-formed text says is read of it
pub says_given : (c : Acceptance) (text : List ℕ) (s : Said) → Says c text s → given (is_rabin c) text ≡ some s
says_given c text s S = ap (given (is_rabin c)) S.prints ∙ printed_read c s S.ours

-- ---- what is read was printed

pair_back : (rabin : Bool) (bs : List ℕ) (pair : ℕ) → pair_given rabin bs ≡ some pair
    → (bs ≡ cond rabin (decimal pair) dash) × ((pair ≤ most_number) × (rabin ≡ false → pair ≡ 0))
unfolding pair_given
pair_back true bs pair e = let d = decimal_number bs pair e in (d.0, (d.1, λ q. absurd (false≢true (sym q))))
pair_back false bs pair e =
    let g = passed (same bs dash) (some 0) pair e in
    let z : 0 ≡ pair = some_same g.1 in
    (same_is bs dash g.0, (omega arith, λ q. sym z))

run_back : (c : Acceptance) (xs : List ℕ) (s : Said) → run_given (is_rabin c) xs ≡ some s → Says c (run_head ++ xs) s
unfolding run_text
run_back c xs s r =
    let v = after (run_text xs) (run_of (is_rabin c)) s r in
    let a = after (value_then then_prefix xs) _ v.first v.there in
    let b = after (value_then then_cycle a.first.rest) _ v.first a.then in
    let d = after (value_then (newline ∷ []) b.first.rest) _ v.first b.then in
    let o = over_back d.first.rest (some (record { pair = a.first.value; prefix = b.first.value; cycle = d.first.value })) v.first d.then in
    let parts : record { pair = a.first.value; prefix = b.first.value; cycle = d.first.value } ≡ v.first = some_same o.1 in
    let e = after (pair_given (is_rabin c) v.first.pair) _ s v.then in
    let f = after (list_given v.first.prefix) _ s e.then in
    let g = after (list_given v.first.cycle) _ s f.then in
    let pair = e.first in
    let said : run pair f.first g.first ≡ s = some_same g.then in
    let P = pair_back (is_rabin c) v.first.pair pair e.there in
    let F = read_list v.first.prefix f.first f.there in
    let G = read_list v.first.cycle g.first g.there in
    let one : xs ≡ a.first.value ++ (then_prefix ++ a.first.rest) = value_back then_prefix xs a.first a.there in
    let two : a.first.rest ≡ b.first.value ++ (then_cycle ++ b.first.rest) = value_back then_cycle a.first.rest b.first b.there in
    let three : b.first.rest ≡ d.first.value ++ ((newline ∷ []) ++ d.first.rest) = value_back (newline ∷ []) b.first.rest d.first d.there in
    let p-is : a.first.value ≡ cond (is_rabin c) (decimal pair) dash = ap (λ (k : RunText). k.pair) parts ∙ P.0 in
    let f-is : b.first.value ≡ list_text f.first = ap (λ (k : RunText). k.prefix) parts ∙ F.0 in
    let g-is : d.first.value ≡ list_text g.first = ap (λ (k : RunText). k.cycle) parts ∙ G.0 in
    let last : b.first.rest ≡ list_text g.first ++ ((newline ∷ []) ++ []) =
    three ∙ ap (λ (l : List ℕ). l ++ ((newline ∷ []) ++ d.first.rest)) g-is ∙ ap (λ (l : List ℕ). list_text g.first ++ ((newline ∷ []) ++ l)) o.0 in
    let middle : a.first.rest ≡ list_text f.first ++ (then_cycle ++ (list_text g.first ++ ((newline ∷ []) ++ []))) =
    two ∙ ap (λ (l : List ℕ). l ++ (then_cycle ++ b.first.rest)) f-is ∙ ap (λ (l : List ℕ). list_text f.first ++ (then_cycle ++ l)) last in
    let whole : xs ≡ behind_run (cond (is_rabin c) (decimal pair) dash) (list_text f.first) (list_text g.first) =
    one ∙ ap (λ (l : List ℕ). l ++ (then_prefix ++ a.first.rest)) p-is ∙ ap (λ (l : List ℕ). cond (is_rabin c) (decimal pair) dash ++ (then_prefix ++ l)) middle in
    let ours : Ours c (run pair f.first g.first) =
    record { prefix_within = F.1; cycle_within = G.1; pair_within = P.1.0; no_pair = P.1.1 } in
    rw (sym said) (record { ours = ours; prints = ap (λ (l : List ℕ). run_head ++ l) whole ∙ sym (run_text_lem c pair f.first g.first) })

where_back : (xs : List ℕ) (w : Where) → where_given xs ≡ some w
    → (xs ≡ behind_place (decimal w.place) (decimal w.column)) × ((w.place ≤ most_number) × (w.column ≤ most_number))
unfolding where_given
where_back xs w r =
    let a = after (value_then then_column xs) _ w r in
    let b = after (value_then refused_tail a.first.rest) _ w a.then in
    let o = over_back b.first.rest _ w b.then in
    let e = after (number a.first.value) _ w o.1 in
    let f = after (number b.first.value) _ w e.then in
    let said : record { place = e.first; column = f.first } ≡ w = some_same f.then in
    let E = decimal_number a.first.value e.first e.there in
    let F = decimal_number b.first.value f.first f.there in
    let one : xs ≡ a.first.value ++ (then_column ++ a.first.rest) = value_back then_column xs a.first a.there in
    let two : a.first.rest ≡ b.first.value ++ (refused_tail ++ b.first.rest) = value_back refused_tail a.first.rest b.first b.there in
    let last : a.first.rest ≡ decimal f.first ++ (refused_tail ++ []) =
    two ∙ ap (λ (l : List ℕ). l ++ (refused_tail ++ b.first.rest)) F.0 ∙ ap (λ (l : List ℕ). decimal f.first ++ (refused_tail ++ l)) o.0 in
    let whole : xs ≡ behind_place (decimal e.first) (decimal f.first) =
    one ∙ ap (λ (l : List ℕ). l ++ (then_column ++ a.first.rest)) E.0 ∙ ap (λ (l : List ℕ). decimal e.first ++ (then_column ++ l)) last in
    rw (sym said) (whole, (E.1, F.1))

refused_back : (c : Acceptance) (xs : List ℕ) (s : Said) → refused_given xs ≡ some s → Says c (refused_head ++ xs) s
unfolding refused_given
refused_back c xs s r =
    let a = after (value_then then_place xs) _ s r in
    let e = after (number a.first.value) _ s a.then in
    let w = after (where_given a.first.rest) _ s e.then in
    let place = w.first.place in
    let column = w.first.column in
    let said : refused e.first place column ≡ s = some_same w.then in
    let E = decimal_number a.first.value e.first e.there in
    let W = where_back a.first.rest w.first w.there in
    let one : xs ≡ a.first.value ++ (then_place ++ a.first.rest) = value_back then_place xs a.first a.there in
    let whole : xs ≡ behind_refused (decimal e.first) (decimal place) (decimal column) =
    one ∙ ap (λ (l : List ℕ). l ++ (then_place ++ a.first.rest)) E.0 ∙ ap (λ (l : List ℕ). decimal e.first ++ (then_place ++ l)) W.0 in
    let ours : Ours c (refused e.first place column) = record { number_within = E.1; place_within = W.1.0; column_within = W.1.1 } in
    rw (sym said) (record { ours = ours; prints = ap (λ (l : List ℕ). refused_head ++ l) whole ∙ sym (refused_text_lem c e.first place column) })

empty_back : (c : Acceptance) (xs : List ℕ) (s : Said) → empty_given xs ≡ some s → Says c (empty_head ++ xs) s
unfolding empty_given
empty_back c xs s r =
    let a = after (value_then empty_tail xs) _ s r in
    let o = over_back a.first.rest _ s a.then in
    let d = after (number a.first.value) _ s o.1 in
    let said : empty d.first ≡ s = some_same d.then in
    let D = decimal_number a.first.value d.first d.there in
    let one : xs ≡ a.first.value ++ (empty_tail ++ a.first.rest) = value_back empty_tail xs a.first a.there in
    let whole : xs ≡ behind_empty (decimal d.first) =
    one ∙ ap (λ (l : List ℕ). l ++ (empty_tail ++ a.first.rest)) D.0 ∙ ap (λ (l : List ℕ). decimal d.first ++ (empty_tail ++ l)) o.0 in
    rw (sym said) (record { ours = D.1; prints = ap (λ (l : List ℕ). empty_head ++ l) whole ∙ sym (empty_text c d.first) })

-- a text that is read as an answer of ours is what that answer prints
pub given_says : (c : Acceptance) (text : List ℕ) (s : Said) → given (is_rabin c) text ≡ some s → Says c text s
unfolding given
given_says c text s r =
    by_test (starts_with empty_head text)
    (λ t. rw (starts_back empty_head text t) (empty_back c (drop (length empty_head) text) s (rw t at r)))
    (λ t.
    by_test (starts_with run_head text)
    (λ u. rw (starts_back run_head text u) (run_back c (drop (length run_head) text) s (rw (t, u) at r)))
    (λ u.
    let w = passed (starts_with refused_head text) (refused_given (drop (length refused_head) text)) s (rw (t, u) at r) in
    rw (starts_back refused_head text w.0) (refused_back c (drop (length refused_head) text) s w.1)))

-- a text says one thing
pub one_said : (c : Acceptance) (text : List ℕ) (a b : Said) → Says c text a → Says c text b → a ≡ b
one_said c text a b p q = some_same (sym (says_given c text a p) ∙ says_given c text b q)

-- a text that is not read says nothing
pub malformed : (c : Acceptance) (text : List ℕ) → given (is_rabin c) text ≡ none → Malformed c text
malformed c text e s S = none_some (sym e ∙ says_given c text s S)
