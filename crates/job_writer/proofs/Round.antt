-- Reading a text that was written gives the table back (`reads_back`): line by line, each says what it was written for. Assumes nothing.
use Rattle.std.specs.Prelude.{Ok}
use mathlib.Core.Path.{◌≡◌, refl, sym, ap, ◌∙◌}
use mathlib.Core.Bool.{Bool, true, false}
use mathlib.Core.List.{List, [], ◌∷◌, ◌++◌, append_assoc, map}
use mathlib.Core.Option.{some}
use Prim.Native.Nat.{ℕ, zero, suc, ◌+◌, ◌^◌, ◌≤◌, ◌<◌}
use native.Mathlib.Nat.{add-zero}
use native.Mathlib.Omega.{arith}
use lib.ListN.{length, get_or, take, drop, drop_of_length-le}
use lib.Seq.{drop-cons}
use borrow.Author.Tests.{le-ltb}
use Rattle.marks.specs.Mark.{width}
use Rattle.puts.specs.Put.{decimal_in, decimal, joined}
use Rattle.job_values.specs.declared.value.Form.TheVariants as form_is
use Rattle.job_values.specs.declared.value.Kind.TheVariants as kind_is
use Rattle.job_text.specs.Text.{newline, comma, done, lines, same}
use Rattle.job_text.specs.Value.{number, text_form, kind, needs, Edge, edge, end, buchi, dash, job, padded, most_number}
use Rattle.job_text.specs.Job.{form=, states=, start=, kind=, count=, need=, edges=, edge=, end=}
use Rattle.table.specs.declared.Acceptance.TheVariants.{Buchi}
use Rattle.table.specs.Table.{lent}
use Rattle.job_text.specs.Job.{most_bytes, Job, job_lines, read_job, found, above, unlimited, asked, next, ◌>>=◌, give}
use Rattle.job_text.specs.Job.{form_line, kind_line, Head, count_lines, head_lines, edge_lines, end_lines, body_lines}
use Rattle.job_put_edges.specs.Edges.{hex_text, shown, edge_text, edges_text}
use Rattle.job_writer.specs.Written.{head_text, job_text}
use Rattle.table.specs.Refusal.{refusal}
use Rattle.table.proofs.Sound.{sound_fit}
use Rattle.writing.proofs.Writings.{nothing_refused, text_given}
use Rattle.job_writer.specs.Back.{ReadsBack}
use Rattle.job_writer.specs.Writing.{too_large, write_refusal, Writes}
use Rattle.job_writer.proofs.Lists.{limits}
use Rattle.job_writer.proofs.Size.{most_bytes_lem}
use Rattle.puts.proofs.Over.{Over, over_both, over?, over_test, decimal_over}
use Rattle.job_values.proofs.Decimals.{number_decimal, field_over, last_over}
use Rattle.job_put_edges.proofs.Hex.{hex_over, hex_back}
use Rattle.job_writer.proofs.Lines.{next_there, perhaps_there, then}

-- ---- an edge line

-- the value of an edge line
abbrev edge_value : ℕ → ℕ → ℕ → List ℕ
edge_value f t set = decimal f ++ (comma ∷ (decimal t ++ (comma ∷ hex_text set)))

-- three fields
edge_back : (f t set : ℕ) → f ≤ most_number → t ≤ most_number → set < 2 ^ width → edge (edge_value f t set) ≡ some (record { from = f; to = t; marks = set })
unfolding edge
edge_back f t set l h s =
    let fields-are =
    field_over (decimal f) (decimal t ++ (comma ∷ hex_text set)) (decimal_over comma f (omega arith))
    ∙ ap (λ (fs : List (List ℕ)). decimal f ∷ fs)
    (field_over (decimal t) (hex_text set) (decimal_over comma t (omega arith))
    ∙ ap (λ (fs : List (List ℕ)). decimal t ∷ fs) (last_over (hex_text set) (hex_over comma set 8 (omega arith)))) in
    rw (fields-are, number_decimal f l, number_decimal t h, hex_back set s)

-- no newline byte in it
edge_over : (f t set : ℕ) → Over newline (edge= ++ edge_value f t set)
edge_over f t set =
    over_both newline edge= (edge_value f t set) (over_test newline edge= refl)
    (over_both newline (decimal f) (comma ∷ (decimal t ++ (comma ∷ hex_text set))) (decimal_over newline f (omega arith))
    (omega arith, over_both newline (decimal t) (comma ∷ hex_text set) (decimal_over newline t (omega arith)) (omega arith, hex_over newline set 8 (omega arith))))

-- ---- all edge lines

-- k texts from f a on, then the rest: the first one first
abbrev joined_from : (ℕ → List ℕ) → ℕ → ℕ → List ℕ → List ℕ
joined_from f a zero rest = rest
joined_from f a (suc k) rest = f a ++ joined_from f (suc a) k rest

-- one more at the end
from_more : (f : ℕ → List ℕ) (a k : ℕ) (rest : List ℕ) → joined_from f a k (f (a + k) ++ rest) ≡ joined_from f a (suc k) rest
from_more f a zero rest = ap (λ (b : ℕ). f b ++ rest) (add-zero a)
from_more f a (suc k) rest =
    let e : a + suc k ≡ suc a + k = omega arith in
    ap (λ (b : ℕ). f a ++ joined_from f (suc a) k (f b ++ rest)) e ∙ ap (λ (t : List ℕ). f a ++ t) (from_more f (suc a) k rest)

joined_from_lem : (f : ℕ → List ℕ) (k : ℕ) (rest : List ℕ) → joined f k ++ rest ≡ joined_from f 0 k rest
unfolding joined
joined_from_lem f zero rest = refl
joined_from_lem f (suc k) rest =
    append_assoc (joined f k) (f k) rest ∙ joined_from_lem f k (f k ++ rest) ∙ ap (λ (b : ℕ). joined_from f 0 k (f b ++ rest)) (omega arith)
    ∙ from_more f 0 k rest

module _ (from to marks : List ℕ) where
  -- edge e as the reader gives it
  abbrev edge_at : ℕ → Edge
  edge_at e = record { from = get_or from e 0; to = get_or to e 0; marks = get_or marks e 0 }

  -- its line
  abbrev edge_line : ℕ → List ℕ
  edge_line e = edge_text (get_or from e 0) (get_or to e 0) (get_or marks e 0)

  -- k edges from edge a on
  abbrev edges_from : ℕ → ℕ → List Edge
  edges_from a zero = []
  edges_from a (suc k) = edge_at a ∷ edges_from (suc a) k

  -- numbers that a job text can hold
  pub record Small (m : ℕ) : Type 0 where
    pub from_small : (e : ℕ) → e < m → get_or from e 0 ≤ most_number
    pub to_small : (e : ℕ) → e < m → get_or to e 0 ≤ most_number
    pub marks_small : (e : ℕ) → e < m → get_or marks e 0 < 2 ^ width

  -- one line
  edge_there : (m e : ℕ) → Small m → e < m → (rest : List ℕ) (place : ℕ)
      → next (asked edge= edge unlimited) place (lines (edge_line e ++ rest)) ≡ found (edge_at e) (place + 1) (lines rest)
  unfolding edge_text
  edge_there m e S l rest place =
      let f = get_or from e 0 in
      let t = get_or to e 0 in
      let set = get_or marks e 0 in
      let says = edge_back f t set (S.from_small e l) (S.to_small e l) (S.marks_small e l) in
      next_there edge= (edge_value f t set) rest edge (edge_over f t set) (edge_at e) says unlimited refl place

  -- all of them
  edges_there : (m : ℕ) → Small m → (k a : ℕ) → a + k ≤ m → (rest : List ℕ) (place : ℕ)
      → edge_lines k place (lines (joined_from edge_line a k rest)) ≡ found (edges_from a k) (place + k) (lines rest)
  edges_there m S zero a l rest place = ap (λ (p : ℕ). found [] p (lines rest)) (sym (add-zero place))
  edges_there m S (suc k) a l rest place =
      let p : place + 1 + k ≡ place + suc k = omega arith in
      then (λ e. edge_lines k >>= λ more. give (e ∷ more)) (edge_there m a S (omega arith) (joined_from edge_line (suc a) k rest) place)
      (then (λ more. give (edge_at a ∷ more)) (edges_there m S k (suc a) (omega arith) rest (place + 1)) (ap (λ (q : ℕ). found (edge_at a ∷ edges_from (suc a) k) q (lines rest)) p))

  -- what they say of one of the three lists
  cells_are : (part : Edge → ℕ) (xs : List ℕ) → ((e : ℕ) → part (edge_at e) ≡ get_or xs e 0) → (k a : ℕ) → a + k ≡ length xs → map part (edges_from a k) ≡ drop a xs
  cells_are part xs h zero a e = sym (drop_of_length-le xs {i = a} (omega arith))
  cells_are part xs h (suc k) a e = rw (h a, cells_are part xs h k (suc a) (omega arith)) (sym (drop-cons xs a 0 (omega arith)))

-- ---- the lines before them

-- what a line with a number says
number_there : (key rest : List ℕ) (n : ℕ) → over? newline key ≡ true → n ≤ most_number → (limit : ℕ → Bool) → limit n ≡ false → (place : ℕ)
    → next (asked key number limit) place (lines (shown key (decimal n) ++ rest)) ≡ found n (place + 1) (lines rest)
number_there key rest n o l limit h place =
    next_there key (decimal n) rest number (over_both newline key (decimal n) (over_test newline key o) (decimal_over newline n (omega arith))) n (number_decimal n l) limit h place

two : decimal 2 ≡ 50 ∷ []
unfolding decimal_in
two = refl

form_there : (rest : List ℕ) (place : ℕ) → form_line place (lines (shown form= (decimal 2) ++ rest)) ≡ found form_is.Two (place + 1) (lines rest)
unfolding text_form same decimal_in
form_there rest place = perhaps_there form= (50 ∷ []) rest text_form (over_test newline (form= ++ (50 ∷ [])) refl) form_is.Two refl form_is.One place

kind_there : (rest : List ℕ) (place : ℕ) → kind_line form_is.Two place (lines (shown kind= buchi ++ rest)) ≡ found kind_is.Buchi (place + 1) (lines rest)
unfolding kind same
kind_there rest place = perhaps_there kind= buchi rest kind (over_test newline (kind= ++ buchi) refl) kind_is.Buchi refl kind_is.Streett place

need_there : (rest : List ℕ) (place : ℕ)
    → next (asked need= (needs kind_is.Buchi 1) unlimited) place (lines (shown need= dash ++ rest)) ≡ found (padded []) (place + 1) (lines rest)
unfolding needs same
need_there rest place = next_there need= dash rest (needs kind_is.Buchi 1) (over_test newline (need= ++ dash) refl) (padded []) refl unlimited refl place

end_there : (place : ℕ) → end_lines place (lines (shown end= job)) ≡ found tt (place + 1) done
unfolding end same lines
end_there place = refl

-- the rest stands behind the last of two texts
behind : (a b rest : List ℕ) {c : List ℕ} → b ++ rest ≡ c → (a ++ b) ++ rest ≡ a ++ c
behind a b rest e = append_assoc a b rest ∙ ap (λ (t : List ℕ). a ++ t) e

module _ (n start m : ℕ) (states : n ≤ 256) (begins : start ≤ most_number) (few : m ≤ 512) where
  abbrev head_said : Head
  head_said = record { states = n; start = start; kind = kind_is.Buchi; count = 1; needs = padded []; edges = m }

  -- one line behind another
  head_rest : (rest : List ℕ) → head_text n start m ++ rest
      ≡ shown form= (decimal 2) ++ (shown states= (decimal n) ++ (shown start= (decimal start) ++ (shown kind= buchi
      ++ (shown count= (decimal 1) ++ (shown need= dash ++ (shown edges= (decimal m) ++ rest))))))
  unfolding head_text
  head_rest rest =
      let six = shown need= dash ++ shown edges= (decimal m) in
      let five = shown count= (decimal 1) ++ six in
      let four = shown kind= buchi ++ five in
      let three = shown start= (decimal start) ++ four in
      behind (shown form= (decimal 2)) (shown states= (decimal n) ++ three) rest
      (behind (shown states= (decimal n)) three rest
      (behind (shown start= (decimal start)) four rest
      (behind (shown kind= buchi) five rest
      (behind (shown count= (decimal 1)) six rest
      (behind (shown need= dash) (shown edges= (decimal m)) rest refl)))))

  counts_there : (rest : List ℕ) (place : ℕ)
      → count_lines n start kind_is.Buchi place (lines (shown count= (decimal 1) ++ (shown need= dash ++ (shown edges= (decimal m) ++ rest))))
      ≡ found head_said (place + 1 + 1 + 1) (lines rest)
  counts_there rest place =
      let after = shown need= dash ++ (shown edges= (decimal m) ++ rest) in
      then _ (number_there count= after 1 refl (omega arith) (above 32) refl place)
      (then _ (need_there (shown edges= (decimal m) ++ rest) (place + 1))
      (then _ (number_there edges= rest m refl (omega arith) (above 512) (le-ltb 512 m few) (place + 1 + 1)) refl))

  heads_there : (rest : List ℕ) → head_lines 1 (lines (head_text n start m ++ rest)) ≡ found head_said 8 (lines rest)
  heads_there rest =
      let third = shown count= (decimal 1) ++ (shown need= dash ++ (shown edges= (decimal m) ++ rest)) in
      let second = shown start= (decimal start) ++ (shown kind= buchi ++ third) in
      rw (head_rest rest)
      (then _ (form_there (shown states= (decimal n) ++ second) 1)
      (then _ (number_there states= second n refl (omega arith) (above 256) (le-ltb 256 n states) 2)
      (then _ (number_there start= (shown kind= buchi ++ third) start refl begins unlimited refl 3)
      (then _ (kind_there third 4) (counts_there rest 5)))))

-- ---- the whole text

module _ (n start : ℕ) (from to marks : List ℕ) (to_length : length to ≡ length from) (marks_length : length marks ≡ length from)
    (states : n ≤ 256) (begins : start ≤ most_number) (few : length from ≤ 512) (small : Small from to marks (length from)) where
  -- the job that it says
  abbrev said : Job
  said =
      record {
        states = n;
        start = start;
        condition = Buchi 1;
        needs = padded [];
        edges = edges_from from to marks 0 (length from);
      }

  -- the edge lines and the end
  body_there : (place : ℕ) → body_lines (length from) place (lines (edges_text from to marks (length from) ++ shown end= job))
      ≡ found (edges_from from to marks 0 (length from)) (place + length from + 1) done
  body_there place =
      rw (joined_from_lem (edge_line from to marks) (length from) (shown end= job))
      (then _ (edges_there from to marks (length from) small (length from) 0 (omega arith) (shown end= job) place)
      (then _ (end_there (place + length from)) refl))

  job_there : job_lines 1 (lines (job_text (lent n start from to marks))) ≡ found said (8 + length from + 1) done
  unfolding job_text
  job_there =
      then _ (heads_there n start (length from) states begins few (edges_text from to marks (length from) ++ shown end= job)) (then _ (body_there 8) refl)

  -- "reading the text gives that table, start and condition"
  pub read_back : length (job_text (lent n start from to marks)) ≤ most_bytes → ReadsBack (lent n start from to marks) (job_text (lent n start from to marks))
  unfolding read_job
  read_back l =
      let es = edges_from from to marks 0 (length from) in
      let f : map (λ (e : Edge). e.from) es ≡ from = cells_are from to marks (λ e. e.from) from (λ e. refl) (length from) 0 (omega arith) in
      let t : map (λ (e : Edge). e.to) es ≡ to = cells_are from to marks (λ e. e.to) to (λ e. refl) (length from) 0 (omega arith) in
      let m : map (λ (e : Edge). e.marks) es ≡ marks = cells_are from to marks (λ e. e.marks) marks (λ e. refl) (length from) 0 (omega arith) in
      record {
        said = said;
        read = rw (le-ltb most_bytes (length (job_text (lent n start from to marks))) l, job_there);
        table = rw (f, t, m);
        condition = refl;
        needs = refl;
      }

-- ---- what the writer gives

module _ (n start : ℕ) (from to marks : List ℕ) where
  -- the text of a table that is not refused reads back
  pub reads_back : (room : ℕ) → write_refusal (lent n start from to marks) room ≡ Ok tt → ReadsBack (lent n start from to marks) (job_text (lent n start from to marks))
  reads_back room e =
      let t = lent n start from to marks in
      let sound = nothing_refused (refusal t (Buchi 1) []) (too_large t) 23 (job_text t) room e in
      let fit = sound_fit n start from to marks (Buchi 1) [] sound.0 in
      let p = fit.proper in
      let within = limits t sound.1 in
      let small : Small from to marks (length from) = record {
        from_small = λ i l. omega (arith, p.from_below i l, p.few);
        to_small = λ i l. omega (arith, p.to_below i l, p.few);
        marks_small = λ i l. omega (arith, fit.marks_below i l);
      } in
      read_back n start from to marks p.to_length p.marks_length within.0 (omega (arith, p.start_below, p.few)) within.1 small
      (omega (arith, most_bytes_lem n start from to marks fit within.0 within.1))

  -- so do the bytes that stand in the output where a text is given
  pub written_back : {out out' : List ℕ} {size : ℕ} → Writes (lent n start from to marks) out out' (Ok size) → ReadsBack (lent n start from to marks) (take size out')
  written_back {out} W = let given = text_given W in rw given.1 (reads_back (length out) given.0)
