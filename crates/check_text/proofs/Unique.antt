-- Two results that the contract of `check_text` allows for one input are equal. Assumes nothing.
use mathlib.Core.Path.{◌≡◌, sym, ap, ◌∙◌}
use mathlib.Core.List.{List}
use Prim.Native.Nat.{ℕ}
use lib.ListN.{length}
use Rattle.answer_check.proofs.Unique.{checks_once}
use Rattle.check_text.specs.Split.{job_part, answer_part, heard}
use Rattle.check_text.specs.Replied.{checked_text, CheckReplied}

-- one input, one length and one output
pub replied_once : (input out out' : List ℕ) (size size' : ℕ) → CheckReplied input out size → CheckReplied input out' size' → (out ≡ out') × (size ≡ size')
replied_once input out out' size size' R S =
    let one : R.result ≡ S.result = checks_once (job_part input) (heard (answer_part input)) R.result S.result R.checks S.checks in
    let n : size ≡ size' = R.held.all ∙ ap (λ r. length (checked_text r)) one ∙ sym S.held.all in
    (R.held.cells ∙ rw (one, n) (sym S.held.cells), n)
