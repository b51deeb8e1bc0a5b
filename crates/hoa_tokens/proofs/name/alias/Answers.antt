-- `name::alias` meets its contract: an `@` alone is no token. Assumes nothing.
use Prim.Native.Nat.{◌+◌}
use Rattle.hoa_tokens.specs.Bytes.{is_name}
use Rattle.hoa_tokens.proofs.Runs.{run_from}
use Rattle.hoa_tokens.proofs.Founds.{alias_bad, alias_found}
use native.Mathlib.Omega.{arith}
use Rattle.hoa_tokens.proofs.name.alias.Goals as goal
use Rattle.hoa_tokens.proofs.name.alias.Goals.{then-size-eq0, else-size-eq0}

pub overflow_add-result-2 : goal.overflow_add-result-2
overflow_add-result-2 c =
    let r = run_from is_name c.args.text.now (c.args.at + 1) c.name_size-size.result (omega arith) c.name_size-size.ensures in
    omega (arith, r.high (omega arith))

pub returns : goal.returns
returns c =
    let a = c.args in
    let size = c.name_size-size.result in
    let r = run_from is_name a.text.now (a.at + 1) size (omega arith) c.name_size-size.ensures in
    elim c.if-size-eq0.branch [
      | then-size-eq0 w ↦ rw w.kind-is (alias_bad a.text.now a.at (a.at + 1 + size) r (omega arith))
      | else-size-eq0 w ↦ rw w.kind-is (alias_found a.text.now a.at (a.at + 1 + size) r (λ e. w.if-size-eq0.false (omega arith)))
    ]
