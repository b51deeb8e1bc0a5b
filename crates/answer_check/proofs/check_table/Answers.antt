-- `check_table` meets its contract: rows 1 to 7 first. Assumes nothing.
use mathlib.Core.Path.{refl}
use Rattle.table.specs.Table.{lent}
use Rattle.answer_check.proofs.Telling.{row_refuses, even, permitted, lies, no_row}
use Rattle.answer_check.proofs.check_table.Goals as goal

pub check_sound-requires : goal.check_sound-requires
check_sound-requires c =
    let a = c.args in
    let k = c.check in record { even = even a.states a.start a.from.now a.to.now a.marks.now a.condition a.needs a.answer.now k.result k.ensures c.in-Ok.is; needs_value = permitted a.states a.start a.from.now a.to.now a.marks.now a.condition a.needs a.answer.now k.result k.ensures c.in-Ok.is }

pub returns-in-Err : goal.returns-in-Err
returns-in-Err c =
    let a = c.args in
    row_refuses a.states a.start a.from.now a.to.now a.marks.now a.condition a.needs a.answer.now c.check.result c.check.ensures c.in-Err.is

pub returns-in-Ok : goal.returns-in-Ok
returns-in-Ok c =
    let a = c.args in
    let k = c.check in
    let s = c.in-Ok.is in
    no_row a.states a.start a.from.now a.to.now a.marks.now a.condition a.needs a.answer.now k.result k.ensures s c.check_sound.result
    (c.check_sound.ensures (lent a.states a.start a.from.now a.to.now a.marks.now)
    (lies a.states a.start a.from.now a.to.now a.marks.now a.condition a.needs a.answer.now k.result k.ensures s) refl)
