-- `formula::put_formula` meets its contract, case by case; row 4 keeps the marks and pairs within their limits. Assumes nothing.
use mathlib.Core.Path.{◌≡◌}
use borrow.Author.Tests.{ltb-false}
use Rattle.table.specs.declared.Acceptance.TheVariants.{Buchi, Streett, Rabin}
use Rattle.table.proofs.Sound.{used_few, rabin_few}
use Rattle.puts.proofs.Few.{few_more}
use native.Mathlib.Omega.{arith}
use Rattle.hoa_put_formula.proofs.put_formula.Goals as goal

pub put_buchi-requires : goal.put_buchi-requires
put_buchi-requires c =
    let e : c.args.condition ≡ Buchi c.in-Buchi.k = cc in
    record { at_bound = omega (arith, c.requires.at_bound); k_bound = used_few (Buchi _) c.args.needs (rw e at c.requires.needs_value) }

pub put_streett-requires : goal.put_streett-requires
put_streett-requires c =
    let e : c.args.condition ≡ Streett c.in-Streett.p = cc in
    record { at_bound = c.requires.at_bound; p_bound = ltb-false 16 _ (rw e at c.requires.needs_value) }

pub put_rabin-requires : goal.put_rabin-requires
put_rabin-requires c =
    let p = c.in-Rabin.p in
    let e : c.args.condition ≡ Rabin p = cc in
    let permitted = rw e at c.requires.needs_value in
    record { at_bound = c.requires.at_bound; p_bound = rabin_few p c.args.needs permitted; p_bound_2 = used_few (Rabin p) c.args.needs permitted }

pub returns-in-Buchi : goal.returns-in-Buchi
returns-in-Buchi c =
    let e : c.args.condition ≡ Buchi c.in-Buchi.k = cc in
    rw e (few_more 1300 c.put_buchi.ensures (omega arith))

pub returns-in-Streett : goal.returns-in-Streett
returns-in-Streett c =
    let e : c.args.condition ≡ Streett c.in-Streett.p = cc in
    rw e (few_more 1300 c.put_streett.ensures (omega arith))

pub returns-in-Rabin : goal.returns-in-Rabin
returns-in-Rabin c =
    let e : c.args.condition ≡ Rabin c.in-Rabin.p = cc in
    rw e c.put_rabin.ensures
