-- Four small machines with counters and no stack, one for each kind of standard formula, and one for the truth values (docs/RULES.md, "The Hanoi format",
-- in the formula). Each has a state where an operand is expected (`..Wants`) and one where it stands behind an operand (`..Behind`); `lost`: the tokens so far
-- begin no formula of its kind. The numbers count open brackets. Assumes nothing.
use Rattle.std.specs.Prelude.{Bool, true, false, cond, ◌||◌, ℕ, zero, suc, ◌%◌, eqb}

-- ---- Büchi: rows of `&` in brackets

pub data Buchi : Type 0 where
  lost : Buchi
  live : ℕ → Buchi

abbrev pub buchi_open : Buchi → Buchi
buchi_open Buchi.lost = Buchi.lost
buchi_open (Buchi.live d) = Buchi.live (suc d)

abbrev pub buchi_close : Buchi → Buchi
buchi_close Buchi.lost = Buchi.lost
buchi_close (Buchi.live zero) = Buchi.lost
buchi_close (Buchi.live (suc d)) = Buchi.live d

abbrev pub buchi_live : Buchi → Bool
buchi_live Buchi.lost = false
buchi_live (Buchi.live d) = true

abbrev pub buchi_done : Buchi → Bool
buchi_done Buchi.lost = false
buchi_done (Buchi.live zero) = true
buchi_done (Buchi.live (suc d)) = false

-- ---- Rabin: of the brackets outside the needs (all of them), those opened since the last `|` may still belong to a pair (plain); the others hold a `|`.
-- ---- Inside a pair's needs further brackets are open (inner).

pub data RabinWants : Type 0 where
  lost : RabinWants
  -- all, plain
  fin : ℕ → ℕ → RabinWants
  -- all, plain, inner
  inf : ℕ → ℕ → ℕ → RabinWants

pub data RabinBehind : Type 0 where
  lost : RabinBehind
  -- behind a part of a pair: all, plain, inner
  pair : ℕ → ℕ → ℕ → RabinBehind
  -- behind a bracket that holds a `|`
  group : ℕ → RabinBehind

abbrev pub rabin_open : RabinWants → RabinWants
rabin_open RabinWants.lost = RabinWants.lost
rabin_open (RabinWants.fin m b) = RabinWants.fin (suc m) (suc b)
rabin_open (RabinWants.inf m b d) = RabinWants.inf m b (suc d)

abbrev pub rabin_inf : RabinWants → RabinBehind
rabin_inf RabinWants.lost = RabinBehind.lost
rabin_inf (RabinWants.fin m b) = RabinBehind.lost
rabin_inf (RabinWants.inf m b d) = RabinBehind.pair m b d

abbrev pub rabin_fin : RabinWants → RabinBehind
rabin_fin RabinWants.lost = RabinBehind.lost
rabin_fin (RabinWants.fin m b) = RabinBehind.pair m b 0
rabin_fin (RabinWants.inf m b d) = RabinBehind.lost

abbrev pub rabin_close : RabinBehind → RabinBehind
rabin_close RabinBehind.lost = RabinBehind.lost
rabin_close (RabinBehind.pair m b (suc d)) = RabinBehind.pair m b d
rabin_close (RabinBehind.pair zero b zero) = RabinBehind.lost
rabin_close (RabinBehind.pair (suc m) zero zero) = RabinBehind.group m
rabin_close (RabinBehind.pair (suc m) (suc b) zero) = RabinBehind.pair m b 0
rabin_close (RabinBehind.group zero) = RabinBehind.lost
rabin_close (RabinBehind.group (suc m)) = RabinBehind.group m

abbrev pub rabin_and : RabinBehind → RabinWants
rabin_and RabinBehind.lost = RabinWants.lost
rabin_and (RabinBehind.pair m b d) = RabinWants.inf m b d
rabin_and (RabinBehind.group m) = RabinWants.lost

abbrev pub rabin_or : RabinBehind → RabinWants
rabin_or RabinBehind.lost = RabinWants.lost
rabin_or (RabinBehind.pair m b zero) = RabinWants.fin m 0
rabin_or (RabinBehind.pair m b (suc d)) = RabinWants.lost
rabin_or (RabinBehind.group m) = RabinWants.fin m 0

abbrev pub rabin_wanting : RabinWants → Bool
rabin_wanting RabinWants.lost = false
rabin_wanting (RabinWants.fin m b) = true
rabin_wanting (RabinWants.inf m b d) = true

abbrev pub rabin_live : RabinBehind → Bool
rabin_live RabinBehind.lost = false
rabin_live (RabinBehind.pair m b d) = true
rabin_live (RabinBehind.group m) = true

abbrev pub rabin_done : RabinBehind → Bool
rabin_done RabinBehind.lost = false
rabin_done (RabinBehind.pair zero b zero) = true
rabin_done (RabinBehind.pair (suc m) b zero) = false
rabin_done (RabinBehind.pair m b (suc d)) = false
rabin_done (RabinBehind.group zero) = true
rabin_done (RabinBehind.group (suc m)) = false

-- ---- Streett: of the brackets outside the pair's own (all), those opened since the last `&` may still hold the Fin alone (plain); the pair's own bracket is
-- ---- counted with them while the Fin is expected. Around the Inf further brackets are open (inner).

pub data StreettWants : Type 0 where
  lost : StreettWants
  -- all, plain
  fin : ℕ → ℕ → StreettWants
  -- all, inner
  inf : ℕ → ℕ → StreettWants

pub data StreettBehind : Type 0 where
  lost : StreettBehind
  -- behind the Fin: all, plain
  fin : ℕ → ℕ → StreettBehind
  -- behind the Inf: all, inner
  inf : ℕ → ℕ → StreettBehind
  -- behind a pair's bracket: all
  pair : ℕ → StreettBehind

abbrev pub streett_open : StreettWants → StreettWants
streett_open StreettWants.lost = StreettWants.lost
streett_open (StreettWants.fin m u) = StreettWants.fin (suc m) (suc u)
streett_open (StreettWants.inf m v) = StreettWants.inf m (suc v)

abbrev pub streett_inf : StreettWants → StreettBehind
streett_inf StreettWants.lost = StreettBehind.lost
streett_inf (StreettWants.fin m u) = StreettBehind.lost
streett_inf (StreettWants.inf m v) = StreettBehind.inf m v

abbrev pub streett_fin : StreettWants → StreettBehind
streett_fin StreettWants.lost = StreettBehind.lost
streett_fin (StreettWants.fin m zero) = StreettBehind.lost
streett_fin (StreettWants.fin zero (suc u)) = StreettBehind.lost
streett_fin (StreettWants.fin (suc m) (suc u)) = StreettBehind.fin m u
streett_fin (StreettWants.inf m v) = StreettBehind.lost

abbrev pub streett_close : StreettBehind → StreettBehind
streett_close StreettBehind.lost = StreettBehind.lost
streett_close (StreettBehind.fin m zero) = StreettBehind.lost
streett_close (StreettBehind.fin zero (suc u)) = StreettBehind.lost
streett_close (StreettBehind.fin (suc m) (suc u)) = StreettBehind.fin m u
streett_close (StreettBehind.inf m zero) = StreettBehind.pair m
streett_close (StreettBehind.inf m (suc v)) = StreettBehind.inf m v
streett_close (StreettBehind.pair zero) = StreettBehind.lost
streett_close (StreettBehind.pair (suc m)) = StreettBehind.pair m

abbrev pub streett_and : StreettBehind → StreettWants
streett_and StreettBehind.lost = StreettWants.lost
streett_and (StreettBehind.fin m u) = StreettWants.lost
streett_and (StreettBehind.inf m v) = StreettWants.lost
streett_and (StreettBehind.pair m) = StreettWants.fin m 0

abbrev pub streett_or : StreettBehind → StreettWants
streett_or StreettBehind.lost = StreettWants.lost
streett_or (StreettBehind.fin m u) = StreettWants.inf m 0
streett_or (StreettBehind.inf m v) = StreettWants.lost
streett_or (StreettBehind.pair m) = StreettWants.lost

abbrev pub streett_wanting : StreettWants → Bool
streett_wanting StreettWants.lost = false
streett_wanting (StreettWants.fin m u) = true
streett_wanting (StreettWants.inf m v) = true

abbrev pub streett_live : StreettBehind → Bool
streett_live StreettBehind.lost = false
streett_live (StreettBehind.fin m u) = true
streett_live (StreettBehind.inf m v) = true
streett_live (StreettBehind.pair m) = true

abbrev pub streett_done : StreettBehind → Bool
streett_done StreettBehind.lost = false
streett_done (StreettBehind.fin m u) = false
streett_done (StreettBehind.inf m v) = false
streett_done (StreettBehind.pair zero) = true
streett_done (StreettBehind.pair (suc m)) = false

-- ---- the bare pair: a Fin in brackets, `|`, an Inf in brackets; the state is the same before and behind the atom

pub data Bare : Type 0 where
  lost : Bare
  fin : ℕ → Bare
  inf : ℕ → Bare

abbrev pub bare_open : Bare → Bare
bare_open Bare.lost = Bare.lost
bare_open (Bare.fin x) = Bare.fin (suc x)
bare_open (Bare.inf x) = Bare.inf (suc x)

abbrev pub bare_inf : Bare → Bare
bare_inf Bare.lost = Bare.lost
bare_inf (Bare.fin x) = Bare.lost
bare_inf (Bare.inf x) = Bare.inf x

abbrev pub bare_fin : Bare → Bare
bare_fin Bare.lost = Bare.lost
bare_fin (Bare.fin x) = Bare.fin x
bare_fin (Bare.inf x) = Bare.lost

abbrev pub bare_close : Bare → Bare
bare_close Bare.lost = Bare.lost
bare_close (Bare.fin zero) = Bare.lost
bare_close (Bare.fin (suc x)) = Bare.fin x
bare_close (Bare.inf zero) = Bare.lost
bare_close (Bare.inf (suc x)) = Bare.inf x

abbrev pub bare_or : Bare → Bare
bare_or Bare.lost = Bare.lost
bare_or (Bare.fin zero) = Bare.inf 0
bare_or (Bare.fin (suc x)) = Bare.lost
bare_or (Bare.inf x) = Bare.lost

abbrev pub bare_live : Bare → Bool
bare_live Bare.lost = false
bare_live (Bare.fin x) = true
bare_live (Bare.inf x) = true

abbrev pub bare_done : Bare → Bool
bare_done Bare.lost = false
bare_done (Bare.fin x) = false
bare_done (Bare.inf zero) = true
bare_done (Bare.inf (suc x)) = false

-- ---- the truth values, in brackets

pub data TruthWants : Type 0 where
  lost : TruthWants
  live : ℕ → TruthWants

pub data TruthBehind : Type 0 where
  lost : TruthBehind
  -- which value, open brackets
  is : Bool → ℕ → TruthBehind

abbrev pub truth_open : TruthWants → TruthWants
truth_open TruthWants.lost = TruthWants.lost
truth_open (TruthWants.live d) = TruthWants.live (suc d)

abbrev pub truth_is : Bool → TruthWants → TruthBehind
truth_is b TruthWants.lost = TruthBehind.lost
truth_is b (TruthWants.live d) = TruthBehind.is b d

abbrev pub truth_close : TruthBehind → TruthBehind
truth_close TruthBehind.lost = TruthBehind.lost
truth_close (TruthBehind.is b zero) = TruthBehind.lost
truth_close (TruthBehind.is b (suc d)) = TruthBehind.is b d

abbrev pub truth_wanting : TruthWants → Bool
truth_wanting TruthWants.lost = false
truth_wanting (TruthWants.live d) = true

abbrev pub truth_live : TruthBehind → Bool
truth_live TruthBehind.lost = false
truth_live (TruthBehind.is b d) = true

-- ---- side by side

pub record Wants : Type 0 where
  pub buchi : Buchi
  pub rabin : RabinWants
  pub streett : StreettWants
  pub bare : Bare
  pub truth : TruthWants

pub record Behind : Type 0 where
  pub buchi : Buchi
  pub rabin : RabinBehind
  pub streett : StreettBehind
  pub bare : Bare
  pub truth : TruthBehind

-- before the first token of a formula with c marks: "Streett if c is even, the bare pair if c is 2", the truth values if c is 0
abbrev pub begin : ℕ → Wants
begin c =
    record {
      buchi = Buchi.live 0;
      rabin = RabinWants.fin 0 0;
      streett = cond (eqb (c % 2) 0) (StreettWants.fin 0 0) StreettWants.lost;
      bare = cond (eqb c 2) (Bare.fin 0) Bare.lost;
      truth = cond (eqb c 0) (TruthWants.live 0) TruthWants.lost;
    }

-- `(`
abbrev pub wants_open : Wants → Wants
wants_open w =
    record {
      buchi = buchi_open w.buchi;
      rabin = rabin_open w.rabin;
      streett = streett_open w.streett;
      bare = bare_open w.bare;
      truth = truth_open w.truth;
    }

-- Inf
abbrev pub wants_inf : Wants → Behind
wants_inf w =
    record {
      buchi = w.buchi;
      rabin = rabin_inf w.rabin;
      streett = streett_inf w.streett;
      bare = bare_inf w.bare;
      truth = TruthBehind.lost;
    }

-- Fin
abbrev pub wants_fin : Wants → Behind
wants_fin w =
    record {
      buchi = Buchi.lost;
      rabin = rabin_fin w.rabin;
      streett = streett_fin w.streett;
      bare = bare_fin w.bare;
      truth = TruthBehind.lost;
    }

-- `t`, `f`
abbrev pub wants_truth : Bool → Wants → Behind
wants_truth b w =
    record {
      buchi = Buchi.lost;
      rabin = RabinBehind.lost;
      streett = StreettBehind.lost;
      bare = Bare.lost;
      truth = truth_is b w.truth;
    }

-- `)`
abbrev pub behind_close : Behind → Behind
behind_close b =
    record {
      buchi = buchi_close b.buchi;
      rabin = rabin_close b.rabin;
      streett = streett_close b.streett;
      bare = bare_close b.bare;
      truth = truth_close b.truth;
    }

-- `&`
abbrev pub behind_and : Behind → Wants
behind_and b =
    record {
      buchi = b.buchi;
      rabin = rabin_and b.rabin;
      streett = streett_and b.streett;
      bare = Bare.lost;
      truth = TruthWants.lost;
    }

-- `|`
abbrev pub behind_or : Behind → Wants
behind_or b =
    record {
      buchi = Buchi.lost;
      rabin = rabin_or b.rabin;
      streett = streett_or b.streett;
      bare = bare_or b.bare;
      truth = TruthWants.lost;
    }

-- some machine goes on
abbrev pub some_wants : Wants → Bool
some_wants w =
    buchi_live w.buchi || (rabin_wanting w.rabin || (streett_wanting w.streett || (bare_live w.bare || truth_wanting w.truth)))

abbrev pub some_behind : Behind → Bool
some_behind b =
    buchi_live b.buchi || (rabin_live b.rabin || (streett_live b.streett || (bare_live b.bare || truth_live b.truth)))
