-- `line::find_line` meets its contract: the search finds the line's end, and what stands where its key should is compared with it. Assumes nothing.
use mathlib.Core.Path.{sym, ◌∙◌}
use Rattle.job_text.proofs.Lines.{line_missing, line_other, line_standing, begins_is}
use Rattle.job_text.proofs.line.find_line.Goals as goal
use Rattle.job_text.proofs.line.find_line.Goals.{else-end-text-via-then-end-text+else-starts_with, else-end-text-via-else-end-text}

pub returns-then-starts_with : goal.returns-then-starts_with
returns-then-starts_with c =
    let a = c.args in
    let f = c.find-end in
    line_standing a.text.now a.at f.result f.ensures a.key.now c.if-end-text.true (c.starts_with.ensures.bound c.if-starts_with.true)
    (sym (begins_is a.key.now _) ∙ sym c.if-starts_with.ensures.value)

pub returns : goal.returns
returns c =
    let a = c.args in
    let f = c.find-end in
    elim c.else-end-text.branch [
      | else-end-text-via-then-end-text+else-starts_with w ↦ line_other a.text.now a.at f.result f.ensures a.key.now w.if-end-text.true
          (sym (begins_is a.key.now _) ∙ sym w.if-starts_with.ensures.value)
      | else-end-text-via-else-end-text w ↦ line_missing a.text.now a.at f.result f.ensures a.key.now w.if-end-text.false
    ]
