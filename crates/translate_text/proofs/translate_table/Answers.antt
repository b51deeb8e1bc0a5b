-- `translate_table` meets its contract: what the translation refuses is told (`refused_stands`); what it makes lies within what was lent (`made_fits`), and
-- the writer is given it (`made_stands`). Assumes nothing.
use mathlib.Core.Path.{refl}
use native.Mathlib.Omega.{arith}
use Rattle.translate_text.proofs.Translating.{refused_stands, made_fits, made_stands}
use Rattle.translate_text.proofs.translate_table.Goals as goal

pub slice_bounds-write_made-end : goal.slice_bounds-write_made-end
slice_bounds-write_made-end c =
    let call = c.translate in
    omega (arith, (made_fits call.ensures c.in-Ok.is).0, call.auto.leaves)

pub slice_bounds-write_made-end-in-Ok : goal.slice_bounds-write_made-end-in-Ok
slice_bounds-write_made-end-in-Ok c =
    let call = c.translate in
    omega (arith, (made_fits call.ensures c.in-Ok.is).1.0, call.auto.arrives)

pub slice_bounds-write_made-end-in-Ok-2 : goal.slice_bounds-write_made-end-in-Ok-2
slice_bounds-write_made-end-in-Ok-2 c =
    let call = c.translate in
    omega (arith, (made_fits call.ensures c.in-Ok.is).1.1, call.auto.bears)

pub returns-in-Err : goal.returns-in-Err
returns-in-Err c =
    let a = c.args in
    refused_stands a.n a.start a.from.now a.to.now a.marks.now a.k _ _ _ refl refl refl _ _ _ _ c.translate.ensures
    c.in-Err.is c.tell_refused.ensures

pub returns-in-Ok : goal.returns-in-Ok
returns-in-Ok c =
    let a = c.args in
    made_stands a.n a.start a.from.now a.to.now a.marks.now a.k _ _ _ refl refl refl _ _ _ _ c.translate.ensures _ _ _
    c.in-Ok.is c.write_made.ensures
