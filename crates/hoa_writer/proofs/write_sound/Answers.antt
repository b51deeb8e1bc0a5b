-- `write_sound` meets its contract: the limits, then writing into no cells gives the length, and where there is room the text is written (crate `writing`).
-- Assumes nothing.
use mathlib.Core.Path.{◌≡◌}
use mathlib.Core.Bool.{true}
use Rattle.table.specs.Table.{lent}
use Rattle.table.specs.Refusal.{refusal}
use Rattle.writing.proofs.Writings.{refused_large, refused_short, given_text}
use Rattle.hoa_written.specs.Written.{hoa_text}
use Rattle.hoa_written.specs.Writing.{too_large}
use Rattle.hoa_writer.proofs.Writings.{lists_passed, permitted, many_states, many_edges, not_large}
use native.Mathlib.Omega.{arith}
use Rattle.hoa_writer.proofs.write_sound.Goals as goal
use Rattle.hoa_writer.proofs.write_sound.Goals.{then-n-gt-MOST_STATES-via-then-n-gt-MOST_STATES, then-n-gt-MOST_STATES-via-else-n-gt-MOST_STATES+then-from-gt-MOST_EDGES}

pub returns-then-n-gt-MOST_STATES : goal.returns-then-n-gt-MOST_STATES
returns-then-n-gt-MOST_STATES c =
    let a = c.args in
    let t = lent a.n a.start a.from.now a.to.now a.marks.now in
    let large : too_large t ≡ true =
    elim c.then-n-gt-MOST_STATES.branch [
      | then-n-gt-MOST_STATES-via-then-n-gt-MOST_STATES w ↦ many_states t w.if-n-gt-MOST_STATES.true
      | then-n-gt-MOST_STATES-via-else-n-gt-MOST_STATES+then-from-gt-MOST_EDGES w ↦ many_edges t w.if-n-gt-MOST_STATES.false w.if-from-gt-MOST_EDGES.true
    ] in
    rw c.refused.ensures (refused_large (refusal t a.condition a.needs) (too_large t) 42 (hoa_text t a.condition a.needs) a.out.now c.requires large)

pub put_text-length-requires : goal.put_text-length-requires
put_text-length-requires c =
    let a = c.args in
    let passed = lists_passed a.n a.start a.from.now a.to.now a.marks.now a.condition a.needs c.requires (omega arith) in
    record { n_le_most_written = omega arith; passed = passed; needs_value = permitted a.n a.start a.from.now a.to.now a.marks.now a.condition a.needs c.requires }

pub returns-then-out-length : goal.returns-then-out-length
returns-then-out-length c =
    let a = c.args in
    let t = lent a.n a.start a.from.now a.to.now a.marks.now in
    let small = not_large t c.if-n-gt-MOST_STATES.false c.if-from-gt-MOST_EDGES.false in
    let count = c.put_text-length in
    rw c.refused-then-out-length.ensures
    (refused_short (refusal t a.condition a.needs) (too_large t) 42 (hoa_text t a.condition a.needs) a.out.now c.requires small count.new.out count.result count.auto.out count.ensures.next
    c.if-out-length.true)

pub put_text-requires : goal.put_text-requires
put_text-requires c =
    let a = c.args in
    let passed = lists_passed a.n a.start a.from.now a.to.now a.marks.now a.condition a.needs c.requires (omega arith) in
    record { n_le_most_written = omega arith; passed = passed; needs_value = permitted a.n a.start a.from.now a.to.now a.marks.now a.condition a.needs c.requires }

pub returns : goal.returns
returns c =
    let a = c.args in
    let t = lent a.n a.start a.from.now a.to.now a.marks.now in
    let small = not_large t c.if-n-gt-MOST_STATES.false c.if-from-gt-MOST_EDGES.false in
    let count = c.put_text-length in
    let text = c.put_text in
    given_text (refusal t a.condition a.needs) (too_large t) 42 (hoa_text t a.condition a.needs) a.out.now c.requires small count.new.out count.result count.auto.out count.ensures.next
    text.new.out _ c.if-out-length.false text.ensures.cells c.clear.ensures
