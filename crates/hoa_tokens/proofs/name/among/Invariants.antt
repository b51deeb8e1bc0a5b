-- The keys passed are not the name, so those that are left decide. Assumes nothing.
use mathlib.Core.Path.{◌≡◌}
use lib.ListN.{drop}
use Rattle.std.proofs.Common.{map}
use Rattle.hoa_tokens.specs.Token.{among}
use Rattle.hoa_tokens.specs.inner.Reads.{lent_key}
use Rattle.hoa_tokens.proofs.name.among.Given as goal

abbrev pub invariant-loop-key : goal.invariant-loop-key
invariant-loop-key g l = among l.name (map lent_key l.keys) l.other ≡ among l.name (map lent_key (drop l.key-index l.keys)) l.other
