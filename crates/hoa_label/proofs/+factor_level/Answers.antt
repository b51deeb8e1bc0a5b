-- The cycle of calls {factor, level} meets its contracts. `factor` flips its truth value at each `!` and ends at the first other token; `level` reads a factor
-- and goes on by the token behind it. Both are promised for every list of levels outside. Assumes nothing.
use Rattle.std.proofs.Common.{refl, [], arith}
use Rattle.std.proofs.lemmas.Result.{err_from_is_err_and}
use Rattle.hoa_label.specs.Labels.{full}
use Rattle.hoa_label.proofs.Runs.{
  not_again,
  not_less,
  set_read,
  level_read,
  level_wrong,
  wrong_read,
  room_left,
  level_less,
  and_again,
  or_again,
  shut_read,
  behind_wrong,
}
use Rattle.hoa_label.proofs.+factor_level.Goals as goal

-- ---- a factor

pub factor-loop-flipped-smaller : goal.factor-loop-flipped-smaller
factor-loop-flipped-smaller t c =
    let l = not_less _ _ c.loop-flipped.invariant c.token_at-first.ensures c.wanted_token.ensures c.in-Not.is in
    omega (arith, l)

pub factor-loop-flipped-preserved : goal.factor-loop-flipped-preserved
factor-loop-flipped-preserved t c = not_again _ _ c.loop-flipped.invariant c.token_at-first.ensures c.wanted_token.ensures c.in-Not.is

pub factor-returns-in-Set : goal.factor-returns-in-Set
factor-returns-in-Set t c =
    set_read _ _ c.loop-flipped.invariant c.token_at-first.ensures c.wanted_token.ensures c.in-Set.is c.turn-set.ensures

pub factor-level-requires : goal.factor-level-requires
factor-level-requires t c =
    let l = room_left [] c.args.a c.args.depth c.token_at-first.result.kind c.wanted_token.ensures c.in-Deeper.is in
    omega (arith, l)

pub factor-returns-in-Deeper : goal.factor-returns-in-Deeper
factor-returns-in-Deeper t c =
    level_read _ _ c.loop-flipped.invariant c.token_at-first.ensures c.wanted_token.ensures c.in-Deeper.is c.level.ensures c.in_ok-inner-in-Deeper.was c.turn-set-in-Deeper.ensures

pub factor-returns-in_err-inner-in-Deeper : goal.factor-returns-in_err-inner-in-Deeper
factor-returns-in_err-inner-in-Deeper t c =
    let p = err_from_is_err_and c.from_residual.result c.from_residual.ensures.1 in
    rw (p.1, p.2) (level_wrong _ _ c.loop-flipped.invariant c.token_at-first.ensures c.wanted_token.ensures c.in-Deeper.is c.level.ensures c.in_err-inner-in-Deeper.was)

pub factor-returns-in-Wrong : goal.factor-returns-in-Wrong
factor-returns-in-Wrong t c = wrong_read _ _ c.loop-flipped.invariant c.token_at-first.ensures c.wanted_token.ensures c.in-Wrong.is

-- ---- a level

pub level-loop-read-init : goal.level-loop-read-init
unfolding full
level-loop-read-init t c = record { is = λ fs l. refl; onward = omega arith }

pub level-loop-read-smaller-in-And : goal.level-loop-read-smaller-in-And
level-loop-read-smaller-in-And t c =
    let l = level_less _ _ c.loop-read.invariant c.factor.ensures c.in_ok-read.was c.token_at-found.ensures c.behind_token.ensures in
    omega (arith, l)

pub level-loop-read-preserved-in-And : goal.level-loop-read-preserved-in-And
level-loop-read-preserved-in-And t c =
    and_again _ _ c.loop-read.invariant c.factor.ensures c.in_ok-read.was c.token_at-found.ensures c.behind_token.ensures c.in-And.is

pub level-loop-read-smaller : goal.level-loop-read-smaller
level-loop-read-smaller t c =
    let l = level_less _ _ c.loop-read.invariant c.factor.ensures c.in_ok-read.was c.token_at-found.ensures c.behind_token.ensures in
    omega (arith, l)

pub level-loop-read-preserved : goal.level-loop-read-preserved
unfolding full
level-loop-read-preserved t c =
    or_again _ _ c.loop-read.invariant c.factor.ensures c.in_ok-read.was c.token_at-found.ensures c.behind_token.ensures c.in-Or.is refl refl

pub level-returns-in-Shut : goal.level-returns-in-Shut
level-returns-in-Shut t c =
    shut_read _ _ c.loop-read.invariant c.factor.ensures c.in_ok-read.was c.token_at-found.ensures c.behind_token.ensures c.in-Shut.is

pub level-returns-in-Wrong : goal.level-returns-in-Wrong
level-returns-in-Wrong t c =
    behind_wrong _ _ c.loop-read.invariant c.factor.ensures c.in_ok-read.was c.token_at-found.ensures c.behind_token.ensures c.in-Wrong.is
