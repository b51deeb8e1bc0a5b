-- The machines' states that are met together, as the reader keeps them (src/lib.rt): what each stands for, and how each goes on. Assumes nothing.
use Rattle.std.specs.Prelude.{Bool, true, false, cond, ℕ, zero, suc, ◌%◌, ◌≤◌, eqb}
use Rattle.hoa_standard.specs.declared.Ahead.{Ahead}
use Rattle.hoa_standard.specs.declared.Ahead.TheVariants as ahead_kinds
use Rattle.hoa_standard.specs.declared.Past.{Past}
use Rattle.hoa_standard.specs.declared.Past.TheVariants as past_kinds
use Rattle.hoa_standard.specs.Machines.{Buchi, RabinWants, RabinBehind, StreettWants, StreettBehind, Bare, TruthWants, TruthBehind, Wants, Behind}

-- ---- what each stands for

abbrev pub wants : Buchi → RabinWants → StreettWants → Bare → TruthWants → Wants
wants b r s p t = record { buchi = b; rabin = r; streett = s; bare = p; truth = t }

abbrev pub behind : Buchi → RabinBehind → StreettBehind → Bare → TruthBehind → Behind
behind b r s p t = record { buchi = b; rabin = r; streett = s; bare = p; truth = t }

-- Streett if c is even
abbrev pub if_even : {A : Type 0} → ℕ → A → A → A
if_even c x other = cond (eqb (c % 2) 0) x other

-- the bare pair if c is 2
abbrev pub if_two : {A : Type 0} → ℕ → A → A → A
if_two c x other = cond (eqb c 2) x other

-- the Streett pair's bracket is one of those around the first Fin; around a bare pair there is none
abbrev pub first_streett : ℕ → StreettBehind
first_streett zero = StreettBehind.lost
first_streett (suc d) = StreettBehind.fin d d

abbrev pub or_streett : ℕ → ℕ → StreettWants
or_streett zero v = StreettWants.lost
or_streett (suc d) v = StreettWants.inf d v

abbrev pub or_bare : ℕ → ℕ → Bare
or_bare zero v = Bare.inf v
or_bare (suc d) v = Bare.lost

abbrev pub ahead_is : ℕ → Ahead → Wants
ahead_is c ahead_kinds.Lost = wants Buchi.lost RabinWants.lost StreettWants.lost Bare.lost TruthWants.lost
ahead_is c (ahead_kinds.Start d) =
    wants
    (Buchi.live d)
    (RabinWants.fin d d)
    (if_even c (StreettWants.fin d d) StreettWants.lost)
    (if_two c (Bare.fin d) Bare.lost)
    (cond (eqb c 0) (TruthWants.live d) TruthWants.lost)
ahead_is c (ahead_kinds.FirstOr o m v) =
    wants Buchi.lost (RabinWants.fin m v) (if_even c (or_streett o v) StreettWants.lost) (if_two c (or_bare o v) Bare.lost) TruthWants.lost
ahead_is c (ahead_kinds.Buchi d) = wants (Buchi.live d) RabinWants.lost StreettWants.lost Bare.lost TruthWants.lost
ahead_is c (ahead_kinds.RabinFin m b) = wants Buchi.lost (RabinWants.fin m b) StreettWants.lost Bare.lost TruthWants.lost
ahead_is c (ahead_kinds.RabinInf m b d) = wants Buchi.lost (RabinWants.inf m b d) StreettWants.lost Bare.lost TruthWants.lost
ahead_is c (ahead_kinds.StreettFin m u) = wants Buchi.lost RabinWants.lost (StreettWants.fin m u) Bare.lost TruthWants.lost
ahead_is c (ahead_kinds.StreettInf m v) = wants Buchi.lost RabinWants.lost (StreettWants.inf m v) Bare.lost TruthWants.lost

abbrev pub past_is : ℕ → Past → Behind
past_is c past_kinds.Lost = behind Buchi.lost RabinBehind.lost StreettBehind.lost Bare.lost TruthBehind.lost
past_is c (past_kinds.Truth b d) = behind Buchi.lost RabinBehind.lost StreettBehind.lost Bare.lost (TruthBehind.is b d)
past_is c (past_kinds.Buchi d) = behind (Buchi.live d) RabinBehind.lost StreettBehind.lost Bare.lost TruthBehind.lost
past_is c (past_kinds.FirstFin d) =
    behind Buchi.lost (RabinBehind.pair d d 0) (if_even c (first_streett d) StreettBehind.lost) (if_two c (Bare.fin d) Bare.lost) TruthBehind.lost
past_is c (past_kinds.RabinPair m b d) = behind Buchi.lost (RabinBehind.pair m b d) StreettBehind.lost Bare.lost TruthBehind.lost
past_is c (past_kinds.RabinGroup m) = behind Buchi.lost (RabinBehind.group m) StreettBehind.lost Bare.lost TruthBehind.lost
past_is c (past_kinds.StreettFin m u) = behind Buchi.lost RabinBehind.lost (StreettBehind.fin m u) Bare.lost TruthBehind.lost
past_is c (past_kinds.StreettInf m v) = behind Buchi.lost RabinBehind.lost (StreettBehind.inf m v) Bare.lost TruthBehind.lost
past_is c (past_kinds.StreettPair m) = behind Buchi.lost RabinBehind.lost (StreettBehind.pair m) Bare.lost TruthBehind.lost
past_is c (past_kinds.Bare x) = behind Buchi.lost RabinBehind.lost StreettBehind.lost (Bare.inf x) TruthBehind.lost

-- ---- no count is above k

-- how many brackets can be counted
abbrev pub bracket_room : ℕ
bracket_room = 18446744073709551615

abbrev pub AheadWithin : ℕ → Ahead → Type 0
AheadWithin k ahead_kinds.Lost = Unit
AheadWithin k (ahead_kinds.Start d) = d ≤ k
AheadWithin k (ahead_kinds.FirstOr o m v) = (o ≤ k) × (m ≤ k) × (v ≤ k)
AheadWithin k (ahead_kinds.Buchi d) = d ≤ k
AheadWithin k (ahead_kinds.RabinFin m b) = (m ≤ k) × (b ≤ k)
AheadWithin k (ahead_kinds.RabinInf m b d) = (m ≤ k) × (b ≤ k) × (d ≤ k)
AheadWithin k (ahead_kinds.StreettFin m u) = (m ≤ k) × (u ≤ k)
AheadWithin k (ahead_kinds.StreettInf m v) = (m ≤ k) × (v ≤ k)

abbrev pub PastWithin : ℕ → Past → Type 0
PastWithin k past_kinds.Lost = Unit
PastWithin k (past_kinds.Truth b d) = d ≤ k
PastWithin k (past_kinds.Buchi d) = d ≤ k
PastWithin k (past_kinds.FirstFin d) = d ≤ k
PastWithin k (past_kinds.RabinPair m b d) = (m ≤ k) × (b ≤ k) × (d ≤ k)
PastWithin k (past_kinds.RabinGroup m) = m ≤ k
PastWithin k (past_kinds.StreettFin m u) = (m ≤ k) × (u ≤ k)
PastWithin k (past_kinds.StreettInf m v) = (m ≤ k) × (v ≤ k)
PastWithin k (past_kinds.StreettPair m) = m ≤ k
PastWithin k (past_kinds.Bare x) = x ≤ k

-- ---- how each goes on

-- `(`
abbrev pub opened_to : Ahead → Ahead
opened_to ahead_kinds.Lost = ahead_kinds.Lost
opened_to (ahead_kinds.Start d) = ahead_kinds.Start (suc d)
opened_to (ahead_kinds.FirstOr o m v) = ahead_kinds.FirstOr o (suc m) (suc v)
opened_to (ahead_kinds.Buchi d) = ahead_kinds.Buchi (suc d)
opened_to (ahead_kinds.RabinFin m b) = ahead_kinds.RabinFin (suc m) (suc b)
opened_to (ahead_kinds.RabinInf m b d) = ahead_kinds.RabinInf m b (suc d)
opened_to (ahead_kinds.StreettFin m u) = ahead_kinds.StreettFin (suc m) (suc u)
opened_to (ahead_kinds.StreettInf m v) = ahead_kinds.StreettInf m (suc v)

-- Inf behind the first `|`: a Streett pair in its bracket, or a bare pair
abbrev pub first_pair : ℕ → ℕ → ℕ → Past
first_pair c zero v = if_two c (past_kinds.Bare v) past_kinds.Lost
first_pair c (suc o) v = if_even c (past_kinds.StreettInf o v) past_kinds.Lost

-- Inf
abbrev pub inf_to : ℕ → Ahead → Past
inf_to c ahead_kinds.Lost = past_kinds.Lost
inf_to c (ahead_kinds.Start d) = past_kinds.Buchi d
inf_to c (ahead_kinds.FirstOr o m v) = first_pair c o v
inf_to c (ahead_kinds.Buchi d) = past_kinds.Buchi d
inf_to c (ahead_kinds.RabinFin m b) = past_kinds.Lost
inf_to c (ahead_kinds.RabinInf m b d) = past_kinds.RabinPair m b d
inf_to c (ahead_kinds.StreettFin m u) = past_kinds.Lost
inf_to c (ahead_kinds.StreettInf m v) = past_kinds.StreettInf m v

-- a Streett pair's Fin stands in its bracket
abbrev pub streett_past : ℕ → ℕ → Past
streett_past m zero = past_kinds.Lost
streett_past zero (suc u) = past_kinds.Lost
streett_past (suc m) (suc u) = past_kinds.StreettFin m u

-- Fin
abbrev pub fin_to : Ahead → Past
fin_to ahead_kinds.Lost = past_kinds.Lost
fin_to (ahead_kinds.Start d) = past_kinds.FirstFin d
fin_to (ahead_kinds.FirstOr o m v) = past_kinds.RabinPair m v 0
fin_to (ahead_kinds.Buchi d) = past_kinds.Lost
fin_to (ahead_kinds.RabinFin m b) = past_kinds.RabinPair m b 0
fin_to (ahead_kinds.RabinInf m b d) = past_kinds.Lost
fin_to (ahead_kinds.StreettFin m u) = streett_past m u
fin_to (ahead_kinds.StreettInf m v) = past_kinds.Lost

-- `t`, `f`
abbrev pub truth_to : ℕ → Bool → Ahead → Past
truth_to c b ahead_kinds.Lost = past_kinds.Lost
truth_to c b (ahead_kinds.Start d) = cond (eqb c 0) (past_kinds.Truth b d) past_kinds.Lost
truth_to c b (ahead_kinds.FirstOr o m v) = past_kinds.Lost
truth_to c b (ahead_kinds.Buchi d) = past_kinds.Lost
truth_to c b (ahead_kinds.RabinFin m x) = past_kinds.Lost
truth_to c b (ahead_kinds.RabinInf m x d) = past_kinds.Lost
truth_to c b (ahead_kinds.StreettFin m u) = past_kinds.Lost
truth_to c b (ahead_kinds.StreettInf m v) = past_kinds.Lost

-- `)`
abbrev pub closed_pair : ℕ → ℕ → ℕ → Past
closed_pair m b (suc d) = past_kinds.RabinPair m b d
closed_pair zero b zero = past_kinds.Lost
closed_pair (suc m) zero zero = past_kinds.RabinGroup m
closed_pair (suc m) (suc b) zero = past_kinds.RabinPair m b 0

abbrev pub closed_inf : ℕ → ℕ → Past
closed_inf m zero = past_kinds.StreettPair m
closed_inf m (suc v) = past_kinds.StreettInf m v

abbrev pub closed_to : Past → Past
closed_to past_kinds.Lost = past_kinds.Lost
closed_to (past_kinds.Truth b zero) = past_kinds.Lost
closed_to (past_kinds.Truth b (suc d)) = past_kinds.Truth b d
closed_to (past_kinds.Buchi zero) = past_kinds.Lost
closed_to (past_kinds.Buchi (suc d)) = past_kinds.Buchi d
closed_to (past_kinds.FirstFin zero) = past_kinds.Lost
closed_to (past_kinds.FirstFin (suc d)) = past_kinds.FirstFin d
closed_to (past_kinds.RabinPair m b d) = closed_pair m b d
closed_to (past_kinds.RabinGroup zero) = past_kinds.Lost
closed_to (past_kinds.RabinGroup (suc m)) = past_kinds.RabinGroup m
closed_to (past_kinds.StreettFin m u) = streett_past m u
closed_to (past_kinds.StreettInf m v) = closed_inf m v
closed_to (past_kinds.StreettPair zero) = past_kinds.Lost
closed_to (past_kinds.StreettPair (suc m)) = past_kinds.StreettPair m
closed_to (past_kinds.Bare zero) = past_kinds.Lost
closed_to (past_kinds.Bare (suc x)) = past_kinds.Bare x

-- `&`
abbrev pub and_to : Past → Ahead
and_to past_kinds.Lost = ahead_kinds.Lost
and_to (past_kinds.Truth b d) = ahead_kinds.Lost
and_to (past_kinds.Buchi d) = ahead_kinds.Buchi d
and_to (past_kinds.FirstFin d) = ahead_kinds.RabinInf d d 0
and_to (past_kinds.RabinPair m b d) = ahead_kinds.RabinInf m b d
and_to (past_kinds.RabinGroup m) = ahead_kinds.Lost
and_to (past_kinds.StreettFin m u) = ahead_kinds.Lost
and_to (past_kinds.StreettInf m v) = ahead_kinds.Lost
and_to (past_kinds.StreettPair m) = ahead_kinds.StreettFin m 0
and_to (past_kinds.Bare x) = ahead_kinds.Lost

-- `|`
abbrev pub or_to : Past → Ahead
or_to past_kinds.Lost = ahead_kinds.Lost
or_to (past_kinds.Truth b d) = ahead_kinds.Lost
or_to (past_kinds.Buchi d) = ahead_kinds.Lost
or_to (past_kinds.FirstFin d) = ahead_kinds.FirstOr d d 0
or_to (past_kinds.RabinPair m b zero) = ahead_kinds.RabinFin m 0
or_to (past_kinds.RabinPair m b (suc d)) = ahead_kinds.Lost
or_to (past_kinds.RabinGroup m) = ahead_kinds.RabinFin m 0
or_to (past_kinds.StreettFin m u) = ahead_kinds.StreettInf m 0
or_to (past_kinds.StreettInf m v) = ahead_kinds.Lost
or_to (past_kinds.StreettPair m) = ahead_kinds.Lost
or_to (past_kinds.Bare x) = ahead_kinds.Lost

abbrev pub is_lost_ahead : Ahead → Bool
is_lost_ahead ahead_kinds.Lost = true
is_lost_ahead (ahead_kinds.Start d) = false
is_lost_ahead (ahead_kinds.FirstOr o m v) = false
is_lost_ahead (ahead_kinds.Buchi d) = false
is_lost_ahead (ahead_kinds.RabinFin m b) = false
is_lost_ahead (ahead_kinds.RabinInf m b d) = false
is_lost_ahead (ahead_kinds.StreettFin m u) = false
is_lost_ahead (ahead_kinds.StreettInf m v) = false

abbrev pub is_lost_past : Past → Bool
is_lost_past past_kinds.Lost = true
is_lost_past (past_kinds.Truth b d) = false
is_lost_past (past_kinds.Buchi d) = false
is_lost_past (past_kinds.FirstFin d) = false
is_lost_past (past_kinds.RabinPair m b d) = false
is_lost_past (past_kinds.RabinGroup m) = false
is_lost_past (past_kinds.StreettFin m u) = false
is_lost_past (past_kinds.StreettInf m v) = false
is_lost_past (past_kinds.StreettPair m) = false
is_lost_past (past_kinds.Bare x) = false
