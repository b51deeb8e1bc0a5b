-- `read_input` meets its contract: what a read brings stands behind what stood there before, and the reader lost both (`grown`). Assumes nothing.
use Rattle.std.proofs.Common.{ℕ, ◌≡◌, ◌+◌, ◌≤◌, ◌∙◌, List, ◌++◌, Option, length, take, ap, arith, rules, subst, sym, length-take-le, take-add, take-take, take_at, drop_at}
use Rattle.std.proofs.lemmas.Grind.{common_steps}
use Rattle.std.proofs.lemmas.Slice.{take-put_mid}
use Rattle.std.specs.Io.KnownBytes.{Consumes}
use Rattle.std.proofs.KnownBytes.{Consumes-trans}
use borrow.Rule.Slice.PartMut.{put_mid, same_len_mid}
use Rattle.text_input.proofs.read_input.Goals as goal

-- the text's beginning, after a read of `count` bytes into the part behind `at`
filled_more : (at count k : ℕ) (old part : List ℕ) → at ≤ length old → count ≤ length part → take (at + count) (put_mid at k old part) ≡ take at old ++ take count part
filled_more at count k old part within few =
    let front = length-take-le at old within in
    sym (take-take (at + count) (at + length part) (put_mid at k old part) (omega arith)) ∙ ap (take (at + count)) (take-put_mid at k old part (at + length part) (omega arith) within)
    ∙ take-add at count (take at old ++ part) ∙ (λ i. take_at (take at old) part at front i ++ take count (drop_at (take at old) part at front i))

grown : (first mid last : Option (List ℕ)) (at count k : ℕ) (old part : List ℕ) → at ≤ length old → count ≤ length part
    → Consumes first mid (take at old) → Consumes mid last (take count part) → Consumes first last (take (at + count) (put_mid at k old part))
grown first mid last at count k old part within few filled read =
    subst (Consumes first last) (sym (filled_more at count k old part within few)) (Consumes-trans first mid last (take at old) (take count part) filled read)

pub loop-at-preserved : goal.loop-at-preserved
loop-at-preserved g c = record {
  within = grind (arith, common_steps, same_len_mid {X = ℕ});
  filled = search (rules, grown);
}
