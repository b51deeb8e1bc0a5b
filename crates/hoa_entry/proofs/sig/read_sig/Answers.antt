-- `sig::read_sig` meets its contract: each turn takes one token (`sig_goes`, `sig_shuts`, `sig_faults`). The measure is what is left of the text. Assumes nothing.
use mathlib.Core.Path.{refl}
use Rattle.hoa_entry.proofs.Reading.{sig_goes, sig_shuts, sig_faults}
use native.Mathlib.Omega.{arith}
use Rattle.hoa_entry.proofs.sig.read_sig.Goals as goal

pub loop-more-init : goal.loop-more-init
loop-more-init c = record { is = refl; behind = omega arith }

pub loop-more-smaller : goal.loop-more-smaller
loop-more-smaller c =
    let a = c.args in
    let f = c.token_at-found in
    let t = c.sig_token in
    let g = sig_goes a.text.now a.at a.c a.before c.loop-more.place c.loop-more.marks c.loop-more.invariant f.result f.ensures
    t.result t.ensures _ c.in-Go.is in
    omega (arith, g.onward.behind, g.onward.within)

pub loop-more-preserved : goal.loop-more-preserved
loop-more-preserved c =
    let a = c.args in
    let f = c.token_at-found in
    let t = c.sig_token in
    (sig_goes a.text.now a.at a.c a.before c.loop-more.place c.loop-more.marks c.loop-more.invariant f.result f.ensures t.result
    t.ensures _ c.in-Go.is).so_far

pub returns-in-Shut : goal.returns-in-Shut
returns-in-Shut c =
    let a = c.args in
    let f = c.token_at-found in
    let t = c.sig_token in
    sig_shuts a.text.now a.at a.c a.before c.loop-more.place c.loop-more.marks c.loop-more.invariant f.result f.ensures t.result
    t.ensures _ c.in-Shut.is

pub returns-in-Wrong : goal.returns-in-Wrong
returns-in-Wrong c =
    let a = c.args in
    let f = c.token_at-found in
    let t = c.sig_token in
    sig_faults a.text.now a.at a.c a.before c.loop-more.place c.loop-more.marks c.loop-more.invariant f.result f.ensures t.result
    t.ensures _ c.in-Wrong.is
