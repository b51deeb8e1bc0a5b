-- How long a text is at most: 11,336 bytes (docs/RULES.md, "The job text and the printed answer", the writer). Assumes nothing.
use Rattle.std.specs.Prelude.{Ok}
use mathlib.Core.Path.{◌≡◌, sym, ap, ◌∙◌}
use mathlib.Core.Bool.{Bool, true, false, cond}
use mathlib.Core.List.{List, [], ◌∷◌, ◌++◌}
use Prim.Native.Nat.{ℕ, zero, suc, ◌*◌, ◌≤◌, ◌<◌}
use native.Mathlib.Omega.{arith}
use lib.ListN.{length, get_or, length-append}
use Rattle.table.specs.declared.Acceptance.TheVariants.{Buchi}
use Rattle.table.specs.Table.{lent}
use Rattle.table.specs.Refusal.{refusal, refused}
use Rattle.table.proofs.Sound.{Fit, sound_fit}
use Rattle.puts.specs.Put.{decimal}
use Rattle.job_values.proofs.Cut.{shown_length}
use Rattle.puts.proofs.Puts.{digits_few, decimal_three, joined_length, joined_zero}
use Rattle.job_text.specs.Text.{comma}
use Rattle.job_text.specs.Value.{buchi, dash, job}
use Rattle.job_text.specs.Job.{most_job_states, most_job_edges, form=, states=, start=, kind=, count=, need=, edges=, edge=, end=}
use Rattle.job_text.proofs.Text.{by_test}
use Rattle.writing.proofs.Writings as writings
use Rattle.job_put_edges.specs.Edges.{hex_text, shown, edge_text, edges_text}
use Rattle.job_writer.specs.Written.{head_text, job_text}
use Rattle.job_writer.specs.Writing.{most_bytes, too_large, write_refusal}
use Rattle.job_put_edges.proofs.Hex.{hex_length}
use Rattle.job_writer.proofs.Lists.{not_large, limits}

-- ---- lines

-- a digit has one
one : (n : ℕ) → n < 10 → length (decimal n) ≤ 1
one n l = digits_few 0 n n l

-- 22 bytes for an edge
edge_most : (f t set : ℕ) → f < 1000 → t < 1000 → length (edge_text f t set) ≤ 22
unfolding edge_text
edge_most f t set l h =
    let last = comma ∷ hex_text set in
    let rest = comma ∷ (decimal t ++ last) in
    omega (
      arith,
      shown_length edge= (decimal f ++ rest),
      length-append (decimal f) rest,
      length-append (decimal t) last,
      hex_length set 8,
      decimal_three f l,
      decimal_three t h,
    )

edges_most : (from to marks : List ℕ) (k : ℕ) → ((e : ℕ) → e < k → get_or from e 0 < 1000) → ((e : ℕ) → e < k → get_or to e 0 < 1000)
    → length (edges_text from to marks k) ≤ 22 * k
edges_most from to marks zero f t = omega (arith, joined_zero (λ e. edge_text (get_or from e 0) (get_or to e 0) (get_or marks e 0)))
edges_most from to marks (suc k) f t =
    omega (
      arith,
      joined_length (λ e. edge_text (get_or from e 0) (get_or to e 0) (get_or marks e 0)) k,
      edges_most from to marks k (λ e l. f e (omega arith)) (λ e l. t e (omega arith)),
      edge_most (get_or from k 0) (get_or to k 0) (get_or marks k 0) (f k (omega arith)) (t k (omega arith)),
    )

-- 64 bytes before the edges
head_most : (n start m : ℕ) → n < 1000 → start < 1000 → m < 1000 → length (head_text n start m) ≤ 64
unfolding head_text
head_most n start m l h k =
    let six = shown need= dash ++ shown edges= (decimal m) in
    let five = shown count= (decimal 1) ++ six in
    let four = shown kind= buchi ++ five in
    let third = shown start= (decimal start) ++ four in
    omega (
      arith,
      length-append (shown form= (decimal 2)) (shown states= (decimal n) ++ third),
      length-append (shown states= (decimal n)) third,
      length-append (shown start= (decimal start)) four,
      length-append (shown count= (decimal 1)) six,
      shown_length form= (decimal 2),
      shown_length states= (decimal n),
      shown_length start= (decimal start),
      shown_length count= (decimal 1),
      shown_length edges= (decimal m),
      one 2 (omega arith),
      decimal_three n l,
      decimal_three start h,
      one 1 (omega arith),
      decimal_three m k,
    )

-- ---- the whole text

-- "at most 11,336 bytes"
pub most_bytes_lem : (n start : ℕ) (from to marks : List ℕ) → Fit (lent n start from to marks) (Buchi 1) [] → n ≤ most_job_states → length from ≤ most_job_edges
    → length (job_text (lent n start from to marks)) ≤ most_bytes
unfolding job_text
most_bytes_lem n start from to marks fit l h =
    let p = fit.proper in
    omega (
      arith,
      length-append (head_text n start (length from)) (edges_text from to marks (length from) ++ shown end= job),
      length-append (edges_text from to marks (length from)) (shown end= job),
      head_most n start (length from) (omega arith) (omega (arith, p.start_below)) (omega arith),
      edges_most from to marks (length from) (λ e k. omega (arith, p.from_below e k)) (λ e k. omega (arith, p.to_below e k)),
    )

-- so no table that is written is refused for want of room where the output has so many bytes
pub room_enough : (n start : ℕ) (from to marks : List ℕ) → refusal (lent n start from to marks) (Buchi 1) [] ≡ Ok tt → n ≤ most_job_states → length from ≤ most_job_edges
    → (room : ℕ) → most_bytes ≤ room → write_refusal (lent n start from to marks) room ≡ Ok tt
room_enough n start from to marks sound l h room enough =
    let t = lent n start from to marks in
    let long = most_bytes_lem n start from to marks (sound_fit n start from to marks (Buchi 1) [] sound) l h in
    writings.room_enough (refusal t (Buchi 1) []) (too_large t) 23 (job_text t) room sound (not_large t l h) (omega arith)

-- behind rows 1 to 7, only the limits refuse such an output
pub by_size : (n start : ℕ) (from to marks : List ℕ) → refusal (lent n start from to marks) (Buchi 1) [] ≡ Ok tt
    → write_refusal (lent n start from to marks) most_bytes ≡ cond (too_large (lent n start from to marks)) (refused 23 0) (Ok tt)
by_size n start from to marks sound =
    let t = lent n start from to marks in
    by_test (too_large t)
    (λ (e : too_large t ≡ true).
    writings.too_large (refusal t (Buchi 1) []) (too_large t) 23 (job_text t) most_bytes sound e ∙ sym (ap (λ (b : Bool). cond b (refused 23 0) (Ok tt)) e))
    (λ (e : too_large t ≡ false).
    let small = limits t e in
    room_enough n start from to marks sound small.0 small.1 most_bytes (omega arith) ∙ sym (ap (λ (b : Bool). cond b (refused 23 0) (Ok tt)) e))
