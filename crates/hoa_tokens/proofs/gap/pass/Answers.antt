-- `gap::pass` meets its contract: a blank is passed, a comment is passed or never ends, and anything else is the end of the gap. Assumes nothing.
use mathlib.Core.Path.{◌≡◌, sym, ◌∙◌}
use mathlib.Core.Bool.{false}
use Prim.Native.Nat.{◌+◌, ◌≤◌}
use Rattle.hoa_tokens.specs.inner.Reads.{stand}
use Rattle.hoa_tokens.proofs.Gaps.{stand_other, stand_starts, blank_on, token_here, comment_ended, comment_endless, gap_ends}
use native.Mathlib.Omega.{arith}
use Rattle.hoa_tokens.proofs.gap.pass.Goals as goal
use Rattle.hoa_tokens.proofs.gap.pass.Goals.{then-text-at-ne47-via-then-text-at-ne47, then-text-at-ne47-via-else-text-at-ne47+then-not-starts_with}

pub returns-then-text-at : goal.returns-then-text-at
returns-then-text-at c = record { is = gap_ends c.args.text.now c.args.at c.if-text-at.true; low = tt }

pub returns-then-is_blank : goal.returns-then-is_blank
returns-then-is_blank c =
    let a = c.args in
    record {
      is = blank_on a.text.now a.at c.if-text-at.false (sym c.is_blank.ensures ∙ c.if-is_blank.true);
      low = (omega arith, c.if-text-at.false);
    }

pub returns-then-text-at-ne47 : goal.returns-then-text-at-ne47
returns-then-text-at-ne47 c =
    let a = c.args in
    let none_opens : stand a.text.now a.at 47 42 ≡ false =
    elim c.then-text-at-ne47.branch [
      | then-text-at-ne47-via-then-text-at-ne47 w ↦ stand_other a.text.now a.at 47 42 w.if-text-at-ne47.true
      | then-text-at-ne47-via-else-text-at-ne47+then-not-starts_with w ↦
          stand_starts 47 42 (omega arith) (omega arith) a.text.now a.at w.starts_with.ensures.value ∙ w.if-not-starts_with.true
    ] in
    record { is = token_here a.text.now a.at c.if-text-at.false (sym c.is_blank.ensures ∙ c.if-is_blank.false) none_opens; low = tt }

pub returns-in-Some : goal.returns-in-Some
returns-in-Some c =
    let a = c.args in
    let low : a.at + 2 ≤ c.in-Some.next = rw c.in-Some.is at c.comment_end.ensures.low in
    record {
      is =
          comment_ended a.text.now a.at c.if-text-at.false c.in-Some.next (sym c.is_blank.ensures ∙ c.if-is_blank.false)
          (stand_starts 47 42 (omega arith) (omega arith) a.text.now a.at c.starts_with.ensures.value ∙ c.if-not-starts_with.false)
          (rw c.in-Some.is at c.comment_end.ensures.is);
      low = (omega arith, c.if-text-at.false);
    }

pub returns-in-None : goal.returns-in-None
returns-in-None c =
    let a = c.args in
    record {
      is =
          comment_endless a.text.now a.at c.if-text-at.false (sym c.is_blank.ensures ∙ c.if-is_blank.false)
          (stand_starts 47 42 (omega arith) (omega arith) a.text.now a.at c.starts_with.ensures.value ∙ c.if-not-starts_with.false)
          (rw c.in-None.is at c.comment_end.ensures.is);
      low = tt;
    }
