-- `gap::inside` meets its contract: two bytes open a comment or close one, and any other byte is passed over. Assumes nothing.
use mathlib.Core.Path.{◌≡◌, ◌∙◌}
use mathlib.Core.Bool.{false}
use Rattle.hoa_tokens.specs.inner.Reads.{stand}
use Rattle.hoa_tokens.proofs.Gaps.{stand_other, stand_starts, comment_opens, comment_closes, comment_on}
use native.Mathlib.Omega.{arith}
use Rattle.hoa_tokens.proofs.gap.inside.Goals as goal
use Rattle.hoa_tokens.proofs.gap.inside.Goals.{else-text-at-eq47-via-then-text-at-eq47+else-starts_with, else-text-at-eq47-via-else-text-at-eq47, else-text-at-eq42-via-then-text-at-eq42+else-starts_with-2, else-text-at-eq42-via-else-text-at-eq42}

pub returns-then-starts_with : goal.returns-then-starts_with
returns-then-starts_with c =
    let a = c.args in
    record {
      goes = omega arith;
      few = omega (arith, c.requires);
      same = comment_opens a.text.now a.at c.requires.within a.depth c.requires.some
          (stand_starts 47 42 (omega arith) (omega arith) a.text.now a.at c.starts_with.ensures.value ∙ c.if-starts_with.true);
    }

pub returns-then-starts_with-2 : goal.returns-then-starts_with-2
returns-then-starts_with-2 c =
    let a = c.args in
    let none_opens : stand a.text.now a.at 47 42 ≡ false =
    elim c.else-text-at-eq47.branch [
      | else-text-at-eq47-via-then-text-at-eq47+else-starts_with w ↦
          stand_starts 47 42 (omega arith) (omega arith) a.text.now a.at w.starts_with.ensures.value ∙ w.if-starts_with.false
      | else-text-at-eq47-via-else-text-at-eq47 w ↦ stand_other a.text.now a.at 47 42 w.if-text-at-eq47.false
    ] in
    record {
      goes = omega arith;
      few = omega (arith, c.requires);
      same = comment_closes a.text.now a.at c.requires.within a.depth c.requires.some none_opens
          (stand_starts 42 47 (omega arith) (omega arith) a.text.now a.at c.starts_with-then-text-at-eq42.ensures.value ∙ c.if-starts_with-2.true);
    }

pub returns-else-text-at-eq42 : goal.returns-else-text-at-eq42
returns-else-text-at-eq42 c =
    let a = c.args in
    let none_opens : stand a.text.now a.at 47 42 ≡ false =
    elim c.else-text-at-eq47.branch [
      | else-text-at-eq47-via-then-text-at-eq47+else-starts_with w ↦
          stand_starts 47 42 (omega arith) (omega arith) a.text.now a.at w.starts_with.ensures.value ∙ w.if-starts_with.false
      | else-text-at-eq47-via-else-text-at-eq47 w ↦ stand_other a.text.now a.at 47 42 w.if-text-at-eq47.false
    ] in
    let none_closes : stand a.text.now a.at 42 47 ≡ false =
    elim c.else-text-at-eq42.branch [
      | else-text-at-eq42-via-then-text-at-eq42+else-starts_with-2 w ↦
          stand_starts 42 47 (omega arith) (omega arith) a.text.now a.at w.starts_with-then-text-at-eq42.ensures.value ∙ w.if-starts_with-2.false
      | else-text-at-eq42-via-else-text-at-eq42 w ↦ stand_other a.text.now a.at 42 47 w.if-text-at-eq42.false
    ] in
    record {
      goes = omega arith;
      few = omega (arith, c.requires);
      same = comment_on a.text.now a.at c.requires.within a.depth c.requires.some none_opens none_closes;
    }
