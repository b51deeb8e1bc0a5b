-- Two results that the contract of `translate_text` allows for one text are equal. Assumes nothing.
use mathlib.Core.Path.{◌≡◌, sym, ap, ◌∙◌}
use mathlib.Core.List.{List}
use Prim.Native.Nat.{ℕ}
use lib.ListN.{length}
use Rattle.job_text.specs.Job.{read_job}
use Rattle.job_text.proofs.Promises.{one_column}
use Rattle.translate_text.specs.Turned.{turned, Turned}

-- one text, one length and one output
pub turned_once : (text out out' : List ℕ) (size size' : ℕ) → Turned text out size → Turned text out' size' → (out ≡ out') × (size ≡ size')
turned_once text out out' size size' T U =
    let one : T.column ≡ U.column = one_column text T.column U.column T.first U.first in
    let n : size ≡ size' = T.held.all ∙ ap (λ (c : ℕ). length (turned (read_job text) c)) one ∙ sym U.held.all in
    (T.held.cells ∙ rw (one, n) (sym U.held.cells), n)
