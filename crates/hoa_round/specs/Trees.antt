-- The formula that is written, as a tree of the standard formulas (docs/RULES.md, "The Hanoi format", the subset). Assumes nothing.
use Rattle.std.specs.Prelude.{List, ℕ, zero, suc}
use Rattle.table.specs.declared.Acceptance.{Acceptance}
use Rattle.table.specs.declared.Acceptance.TheVariants as acceptance
use Rattle.table.specs.Condition.{need}
use Rattle.hoa_standard.specs.Standard.{Infs, Infop, Pair, Phead, Rabin, Rabop, Single, Spair, Streett, Strop, Truth, Std}

-- a mark and so many behind it
abbrev pub infs_of : ℕ → Infs
infs_of zero = Infs.one Infop.mark
infs_of (suc k) = Infs.more Infop.mark (infs_of k)

-- a forbidden mark and so many needed marks
abbrev pub needing_of : ℕ → Pair
needing_of zero = Pair.alone Phead.mark
needing_of (suc k) = Pair.needing Phead.mark (infs_of k)

-- the same in brackets
abbrev pub pair_of : ℕ → Rabop
pair_of k = Rabop.pair (Pair.alone (Phead.brackets (needing_of k)))

-- pair i and so many behind it
abbrev pub rabin_of : List ℕ → ℕ → ℕ → Rabin
rabin_of needs i zero = Rabin.one (pair_of (need needs i))
rabin_of needs i (suc k) = Rabin.more (pair_of (need needs i)) (rabin_of needs (suc i) k)

-- a mark that asks for the next
abbrev pub asking_of : Spair
asking_of = record { fin = Single.mark; inf = Single.mark }

-- a pair and so many behind it
abbrev pub streett_of : ℕ → Streett
streett_of zero = Streett.one (Strop.pair asking_of)
streett_of (suc k) = Streett.more (Strop.pair asking_of) (streett_of k)

-- the formula of a condition
abbrev pub std_of : Acceptance → List ℕ → Std
std_of (acceptance.Buchi zero) needs = Std.truth Truth.truth
std_of (acceptance.Buchi (suc k)) needs = Std.infs (infs_of k)
std_of (acceptance.Streett zero) needs = Std.truth Truth.truth
std_of (acceptance.Streett (suc p)) needs = Std.streett (streett_of p)
std_of (acceptance.Rabin zero) needs = Std.truth Truth.falsity
std_of (acceptance.Rabin (suc p)) needs = Std.rabin (rabin_of needs 0 p)
