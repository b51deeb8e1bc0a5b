-- What was put is what is promised. Assumes nothing.
use mathlib.Core.Path.{◌≡◌, refl, ap, ◌∙◌, subst}
use mathlib.Core.List.{List, [], ◌++◌}
use Prim.Native.Nat.{ℕ, ◌-◌, ◌≤◌}
use native.Mathlib.Omega.{arith}
use lib.ListN.{length, take, replicate, length-append}
use Rattle.table.specs.Row.{part}
use Rattle.puts.specs.Put.{PutFew}
use Rattle.puts.proofs.Puts.{then_zeros}
use Rattle.answer_check.specs.declared.Checked.{Checked}
use Rattle.answer_check.specs.Checking.{Checks}
use Rattle.check_text.specs.Split.{job_part}
use Rattle.check_text.specs.Replied.{checked_text, most_checked, CheckReplied}
use Rattle.check_text.specs.inner.{JobEnds, HeardTo}
use Rattle.check_text.proofs.Splits.{job_is, answer_is}

-- checked by its two parts, put, and cleared behind that
pub replied : {input out out' out'' : List ℕ} {size end n : ℕ} (r : Checked) → length out ≡ most_checked → JobEnds input size → HeardTo size (length input) end
    → Checks (part 0 size input) (part size end input) r → PutFew out out' 0 (checked_text r) n 110 → out'' ≡ take n out' ++ replicate (length out' - n) 0
    → CheckReplied input out'' n
replied {input} {out} {out'} {out''} {size} {end} {n} r wide J H C P z =
    let all : n ≡ length (checked_text r) = omega (arith, P.put.next) in
    record {
      result = r;
      checks =
          subst (λ (a : List ℕ). Checks (job_part input) a r) (answer_is input size end J H)
          (subst (λ (j : List ℕ). Checks j (part size end input) r) (job_is input size end J H) C);
      held =
          record {
            all = all;
            cells =
                then_zeros (checked_text r) out [] out' out'' n refl P.put.next (omega (arith, wide, P.few)) P.put.cells z
                ∙ rw (wide, all);
          };
    }

-- what is printed lies within what was lent
pub replied_within : {input out : List ℕ} {size : ℕ} → CheckReplied input out size → size ≤ length out
replied_within {size = size} R =
    omega (arith, R.held.all, ap length R.held.cells, length-append (checked_text R.result) (replicate (most_checked - size) 0))
