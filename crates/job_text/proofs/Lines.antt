-- The line at a place of the text, and its key. Assumes nothing.
use mathlib.Core.Path.{◌≡◌, refl, ap, subst, ◌∙◌}
use mathlib.Core.Bool.{Bool, true, false, ◌&&◌}
use lib.Dec.{eqb}
use lib.Pointwise.{pointwise}
use Rattle.std.proofs.lemmas.Bool.Decides.{nat_tests}
use mathlib.Core.List.{List, [], ◌∷◌}
use mathlib.Core.Option.{Option, some}
use Prim.Native.Nat.{ℕ, zero, suc, ◌+◌, ◌-◌, ◌≤◌, ◌<◌}
use native.Mathlib.Omega.{arith}
use lib.ListN.{length, take, drop, length-take, length-drop}
use lib.Seq.{drop-drop, take-nil, drop-nil}
use Rattle.table.specs.Row.{part}
use Rattle.std.specs.List.{starts_with}
use Rattle.std.specs.Prelude.{Result, Ok, Err}
use Rattle.job_values.specs.Column.{given}
use Rattle.job_values.specs.inner.Field.{Within}
use Rattle.job_values.specs.inner.Told.{Unformed, ValueAs, FormAt}
use Rattle.job_values.specs.declared.value.Form.{Form}
use Rattle.job_values.specs.declared.value.Form.TheVariants.{One}
use Rattle.job_values.proofs.Fields.{within_on}
use Rattle.job_values.specs.inner.Field.{FieldAt}
use Rattle.job_values.specs.declared.field.Run.{Run}
use Rattle.job_values.proofs.Columns.{unformed_wrong, number_said, number_unformed}
use Rattle.job_text.specs.Value.{number, text_form}
use Rattle.job_text.specs.Text.{newline, line, lines, same, begins, ahead, FirstAt}
use Rattle.job_text.specs.declared.line.Span.{Span}
use Rattle.job_text.specs.declared.line.Fault.{Fault}
use Rattle.job_text.specs.declared.line.LineStart.{LineStart}
use Rattle.job_text.specs.Job.{Keyed, missing, keyed, unformed, large, ColumnOf, asked, Found, found, placed, next, unlimited, left_out, perhaps, form=, form_line}
use Rattle.job_text.specs.Given.{Standing, SaidAs, ReadAt, from_line, line_says, fault_at, Blamed}
use Rattle.job_text.proofs.Text.{lines_cut, lines_uncut, unended}

drop_take : (k n : ℕ) (xs : List ℕ) → drop k (take n xs) ≡ take (n - k) (drop k xs)
drop_take k n [] = rw (take-nil {A = ℕ} n, drop-nil {A = ℕ} k, take-nil {A = ℕ} (n - k))
drop_take zero n (x ∷ xs) = let e : n - 0 ≡ n = omega arith in rw e
drop_take (suc k) zero (x ∷ xs) = let e : 0 - suc k ≡ 0 = omega arith in rw e
drop_take (suc k) (suc n) (x ∷ xs) = let e : suc n - suc k ≡ n - k = omega arith in rw e (drop_take k n xs)

unended_missing : (key xs : List ℕ) → keyed key (unended xs) ≡ missing
unended_missing key [] = refl
unended_missing key (x ∷ xs) = refl

module _ (text : List ℕ) (at e : ℕ) (f : FirstAt text at newline e) where
  -- no newline byte from here on: the line is missing
  pub line_missing : (key : List ℕ) → length text ≤ e → keyed key (lines (drop at text)) ≡ missing
  line_missing key l =
      rw (lines_uncut (drop at text) (omega (arith, f.place, length-drop at text))) (unended_missing key (drop at text))

  -- the line from here to its newline byte
  line_at : e < length text → lines (drop at text) ≡ line (part at e text) (lines (drop (e + 1) text))
  line_at l =
      let a : e - at ≡ ahead newline (drop at text) = omega (arith, f.place) in
      let b : at + suc (ahead newline (drop at text)) ≡ e + 1 = omega (arith, f.place) in
      lines_cut (drop at text) (omega (arith, f.place, length-drop at text))
      ∙ rw (drop-drop (suc (ahead newline (drop at text))) at text, b, a)

  module _ (key : List ℕ) (l : e < length text) where
    -- what stands where the key should decides
    pub line_other : begins key (part at e text) ≡ false → keyed key (lines (drop at text)) ≡ missing
    line_other s = rw (line_at l, s)

    -- the value from behind the key on
    pub line_standing : length key ≤ length (part at e text) → begins key (part at e text) ≡ true → Standing text at key (record { from = at + length key; end = e })
    line_standing h s =
        let w : Within text at e = record { ordered = f.low; ends = l; first = omega (arith, f.place) } in
        let n : e - at - length key ≡ e - (at + length key) = omega arith in
        let long : at + length key ≤ e = omega (arith, length-take (e - at) (drop at text), f.low, h) in
        record {
          behind = refl;
          within = within_on text at e w (at + length key) (omega arith) long;
          is = rw (line_at l, s, drop_take (length key) (e - at) (drop at text), drop-drop (length key) at text, n);
        }

-- the library's word for it
swap : (xs ys : List ℕ) → pointwise eqb ys xs ≡ same xs ys
unfolding same
swap [] [] = refl
swap [] (y ∷ ys) = refl
swap (x ∷ xs) [] = refl
swap (x ∷ xs) (y ∷ ys) =
    let e : eqb y x ≡ eqb x y = grind (arith, nat_tests) in
    rw e (ap (λ (b : Bool). eqb x y && b) (swap xs ys))

pub begins_is : (key xs : List ℕ) → starts_with eqb xs key ≡ begins key xs
begins_is key xs = swap (take (length key) xs) key

-- ---- what a line says, by what was found of it

module _ (text : List ℕ) (start : LineStart) (key : List ℕ) (r : Span) (s : Standing text start.at key r) where
  module _ {A : Type 0} (form : List ℕ → Option A) (over : A → Bool) where
    -- 22
    line_malformed : (e : ℕ) → Unformed form text r.from r.end e → (said : Found A) → said ≡ placed start.line (asked key form over (lines (drop start.at text)))
        → Blamed text said (fault_at 22 start.line (suc (e - start.at)))
    line_malformed e u said q =
        let why = unformed key (λ v. given (form v)) (part r.from r.end text) in
        let c : suc (length key + (e - r.from)) ≡ suc (e - start.at) = omega (arith, s.behind, u.lost.ordered) in
        record {
          why = why;
          place = start.line;
          is = q ∙ rw (s.is, u.none_said);
          worded =
              record {
                number = refl;
                line = refl;
                column = subst (ColumnOf why) c (unformed_wrong key form text r.from r.end e s.within u);
                short = omega (arith, u.lost.ends, s.within.ends);
              };
        }

    -- 23
    pub line_above : (a : A) → form (part r.from r.end text) ≡ some a → over a ≡ true
        → Blamed text (from_line text start (next (asked key form over))) (fault_at 23 start.line (suc (r.from - start.at)))
    line_above a q o =
        record {
          why = large key;
          place = start.line;
          is = rw (s.is, q, o);
          worded =
              record {
                number = refl;
                line = refl;
                column = omega (arith, s.behind);
                short = omega (arith, s.within.ordered, s.within.ends);
              };
        }

    pub line_found_says : (a : A) → form (part r.from r.end text) ≡ some a → over a ≡ false
        → from_line text start (next (asked key form over)) ≡ found a (start.line + 1) (lines (drop (r.end + 1) text))
    line_found_says a e o = rw (s.is, e, o)

  -- ---- a line with a number

  module _ (over : ℕ → Bool) where
    pub number_line_lost : (read : Result Run ℕ) → FieldAt newline number text r.from r.end read → (f : Fault) → Err f ≡ line_says start r read
        → Blamed text (from_line text start (next (asked key number over))) f
    number_line_lost (Ok run) v f e = cc
    number_line_lost (Err w) l f e =
        let q : f ≡ fault_at 22 start.line (suc (w - start.at)) = cc in
        rw q (line_malformed number over w (number_unformed text r.from r.end s.within w l) (from_line text start (next (asked key number over))) refl)

  pub number_line_got : (read : Result Run ℕ) → FieldAt newline number text r.from r.end read → (run : Run) (behind : LineStart) → Ok (run, behind) ≡ line_says start r read
      → (number (part r.from r.end text) ≡ some run.value) × (behind ≡ record { at = r.end + 1; line = start.line + 1 })
  number_line_got (Ok got) v run behind e =
      let both : (run, behind) ≡ (got, record { at = r.end + 1; line = start.line + 1 }) = cc in
      let q : run ≡ got = ap (λ (p : Run × LineStart). p.0) both in
      (rw q (number_said text r.from r.end s.within got.value got.next v), ap (λ (p : Run × LineStart). p.1) both)
  number_line_got (Err w) l run behind e = cc

  -- ---- a line whose value has no limit, that must be there or may be left out

  module _ {A B : Type 0} (in_words : B → A) (form : List ℕ → Option A) where
    line_read : (read : Result B ℕ) → ValueAs in_words form text r.from r.end read → (said : Found A)
        → said ≡ placed start.line (asked key form unlimited (lines (drop start.at text))) → SaidAs in_words text said (line_says start r read)
    line_read (Ok b) v said q = q ∙ line_found_says form unlimited (in_words b) v refl
    line_read (Err e) u said q = line_malformed form unlimited e u said q

    pub asked_line : (read : Result B ℕ) → ValueAs in_words form text r.from r.end read
        → SaidAs in_words text (from_line text start (next (asked key form unlimited))) (line_says start r read)
    asked_line read v = line_read read v (from_line text start (next (asked key form unlimited))) refl

    pub perhaps_line : (a : A) (read : Result B ℕ) → ValueAs in_words form text r.from r.end read
        → SaidAs in_words text (from_line text start (perhaps key form a)) (line_says start r read)
    perhaps_line a read v =
        line_read read v (from_line text start (perhaps key form a))
        (ap (λ (k : Keyed). left_out a (asked key form unlimited) k start.line (lines (drop start.at text))) s.is)

-- the form's line, read where its key stands
pub form_read : (text : List ℕ) (start : LineStart) (r : Span) → Standing text start.at form= r → (read : Result Form ℕ) → FormAt text r.from r.end read
    → (said : Result (Form × LineStart) Fault) → said ≡ line_says start r read → ReadAt text form_line start said
form_read text start r s read v said q = rw q (perhaps_line text start form= r s (λ f. f) text_form One read v)
