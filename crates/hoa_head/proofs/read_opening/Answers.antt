-- `read_opening` meets its contract: another token than `HOA:` is refused (`opening_wrong`), then another than `v1` (`version_wrong`); behind it an item may
-- begin (`version_goes`). Assumes nothing.
use mathlib.Core.Path.{sym}
use Rattle.hoa_head.proofs.Openings.{opening_wrong, version_goes, version_wrong}
use Rattle.hoa_head.proofs.read_opening.Goals as goal

pub returns-in-Some : goal.returns-in-Some
returns-in-Some c = opening_wrong _ _ c.token_at-opener.ensures _ (sym c.in-Some.ensures)

pub returns-in-Some-version_fault : goal.returns-in-Some-version_fault
returns-in-Some-version_fault c =
    version_wrong _ _ c.token_at-opener.ensures (sym c.in_default.ensures) _ c.token_at-version.ensures _ (sym c.in-Some-version_fault.ensures)

pub returns : goal.returns
returns c =
    version_goes _ _ c.token_at-opener.ensures (sym c.in_default.ensures) _ c.token_at-version.ensures (sym c.in_default-version_fault.ensures)
