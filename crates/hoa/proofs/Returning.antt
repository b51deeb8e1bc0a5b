-- From what the readers of the header and of the rows give to the whole promise. Assumes nothing.
use Rattle.std.specs.Prelude.{Option, Some, None, Result, Ok, Err}
use Rattle.std.specs.Option.{unwrap_or}
use mathlib.Core.Path.{◌≡◌, refl, sym, ap, ◌∙◌}
use mathlib.Core.Bool.{Bool, true, false, cond}
use mathlib.Core.List.{List}
use Prim.Native.Nat.{ℕ}
use lib.ListN.{length}
use Rattle.job_text.specs.Value.{Edge}
use Rattle.job_text.specs.Job.{fault}
use Rattle.hoa_tokens.specs.declared.BadToken.{BadToken}
use Rattle.hoa_tokens.specs.Stream.{tokens_at, bad_at}
use Rattle.hoa_step.specs.Given.{given_or}
use Rattle.hoa_step.specs.Machine.{End, done_at, wrong_at, cut}
use Rattle.hoa_value.specs.declared.Head.{Head}
use Rattle.hoa_head.specs.declared.HeadRead.{HeadRead}
use Rattle.hoa_head.specs.Headed.{head_end, Headed}
use Rattle.hoa_entry.specs.declared.Limits.{Limits}
use Rattle.hoa_rows.specs.declared.RowsRead.{RowsRead}
use Rattle.hoa_entry.specs.Rows as spec
use Rattle.hoa_rows.specs.Lent.{rows_end, edges_of, fits, told, cells_of, RowsInto}
use Rattle.hoa.specs.declared.Hoa.{Hoa}
use Rattle.hoa.specs.declared.HoaFinding.TheVariants.{Read}
use Rattle.hoa.specs.Reading.{limits_of, job_of, rows_say, head_says, read_hoa}
use Rattle.hoa.specs.Returned.{refused_hoa, read_of, returned, cells_by, ReadInto}

-- ---- the rows

-- a number of the header, or 0 where it was not given
pub or_zero : (n : Option ℕ) → unwrap_or n 0 ≡ given_or 0 n
or_zero None = refl
or_zero (Some n) = refl

-- the answer by what the reader of the rows gives
abbrev pub answer_of : Head → Result RowsRead BadToken → Hoa
answer_of h (Ok r) =
    record { finding = Read; states = r.states; start = given_or 0 h.start; condition = h.condition; needs = h.needs; edges = r.edges }
answer_of h (Err e) = refused_hoa e.number e.place

module _ (h : Head) (from to marks : List ℕ) where
  kept_or_short : (k : spec.Kept) (b : Bool)
      → answer_of h (cond b (Ok (record { states = k.states; edges = length (edges_of k) })) (bad_at 11 0)) ≡ cond b (read_of (job_of h k)) (refused_hoa 11 0)
  kept_or_short k true = refl
  kept_or_short k false = refl

  answer_is : (e : End spec.Kept) → answer_of h (told e from to marks) ≡ returned (rows_say h e) from to marks
  answer_is (done_at k ps) = kept_or_short k (fits (length (edges_of k)) from to marks)
  answer_is (wrong_at number place) = refl
  answer_is cut = refl

  cells_are : (part : Edge → ℕ) (e : End spec.Kept) (r : Result RowsRead BadToken) (before : List ℕ)
      → cells_of part r e before ≡ cells_by part (answer_of h r).finding (rows_say h e) before
  cells_are part (done_at k ps) (Ok r) before = refl
  cells_are part (wrong_at number place) (Ok r) before = refl
  cells_are part cut (Ok r) before = refl
  cells_are part (done_at k ps) (Err e) before = refl
  cells_are part (wrong_at number place) (Err e) before = refl
  cells_are part cut (Err e) before = refl

-- ---- the whole text

module _ (text : List ℕ) where
  -- the text says what its rows say, behind a header that is read
  says_rows : (h : Head) (next : ℕ) → head_end text ≡ done_at h (tokens_at text next) → read_hoa text ≡ rows_say h (rows_end (limits_of h) text next)
  unfolding read_hoa rows_end
  says_rows h next e = ap head_says e

  says_refused : (number place : ℕ) → head_end text ≡ wrong_at number place → read_hoa text ≡ fault number place
  unfolding read_hoa
  says_refused number place e = ap head_says e

  -- the header is refused
  pub head_refused : {from to marks : List ℕ} {r : Result HeadRead BadToken} {e : BadToken} → r ≡ Err e → Headed text r
      → ReadInto text from to marks from to marks (refused_hoa e.number e.place)
  head_refused {e = e} q H =
      let says = says_refused e.number e.place (rw q at H).says.0 in
      record { reading = rw says; froms = refl; tos = refl; sets = refl }

  -- the header is read, and then the rows
  pub head_read : {r : Result HeadRead BadToken} {o : HeadRead} {l : Limits} {from to marks from' to' marks' : List ℕ} {rows : Result RowsRead BadToken} → r ≡ Ok o
      → Headed text r → l ≡ limits_of o.head → RowsInto l text o.next from to marks from' to' marks' rows
      → ReadInto text from to marks from' to' marks' (answer_of o.head rows)
  head_read {o = o} {from = from} {to = to} {marks = marks} {rows = rows} q H is S =
      let h = o.head in
      let says = says_rows h o.next (rw q at H).says.0 in
      let R = rw is at S in
      let e = rows_end (limits_of h) text o.next in
      record {
        reading = rw says (ap (answer_of h) R.reading ∙ answer_is h from to marks e);
        froms = rw says (R.froms ∙ cells_are h from to marks (λ (e : Edge). e.from) e rows from);
        tos = rw says (R.tos ∙ cells_are h from to marks (λ (e : Edge). e.to) e rows to);
        sets = rw says (R.sets ∙ cells_are h from to marks (λ (e : Edge). e.marks) e rows marks);
      }

-- ---- two readings

-- "Two results allowed for one input are equal", and so is what the tables hold then
pub read_once : {text from to marks f t m f' t' m' : List ℕ} {r s : Hoa} → ReadInto text from to marks f t m r → ReadInto text from to marks f' t' m' s
    → (r ≡ s) × ((f ≡ f') × ((t ≡ t') × (m ≡ m')))
read_once {text} {from} {to} {marks} {r = r} {s = s} R S =
    let e : r ≡ s = R.reading ∙ sym S.reading in
    (e, (R.froms ∙ rw e (sym S.froms), (R.tos ∙ rw e (sym S.tos), R.sets ∙ rw e (sym S.sets))))
