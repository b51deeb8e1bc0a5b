-- Every printed answer fits the buffer: the room's cells are edge numbers below 512, waiting edges or zeros, and the other numbers are small.
-- Assumes nothing.
use Rattle.table.specs.declared.Refusal.{Refusal}
use Rattle.std.specs.Prelude.{Result, Ok, Err}
use mathlib.Core.Path.{◌≡◌, refl, ap}
use mathlib.Core.Bool.{false}
use mathlib.Core.Logic.{inl, inr}
use mathlib.Core.List.{List, [], ◌∷◌, ◌++◌}
use Prim.Native.Nat.{ℕ, zero, suc, ◌+◌, ◌-◌, ◌^◌, ◌≤◌, ◌<◌}
use native.Mathlib.Omega.{arith}
use lib.ListN.{length, replicate, length-replicate}
use Rattle.table.specs.declared.Acceptance.{Acceptance}
use Rattle.table.specs.declared.Acceptance.TheVariants.{Buchi, Streett, Rabin}
use Rattle.table.specs.declared.Verdict.{Verdict}
use Rattle.table.specs.declared.Verdict.TheVariants.{Run, Empty, Refused as RefusedVerdict}
use Rattle.table.specs.Table.{Table, lent, Step, Walk}
use Rattle.table.specs.Verdict.{number_of, place_of, pair_of}
use Rattle.table.specs.Refusal.{wrong_condition, refusal}
use Rattle.table.proofs.Sound.{rabin_few}
use Rattle.table.proofs.Door.{refused_row}
use Rattle.marks.proofs.Cases.{below}
use Rattle.job_text.specs.Job.{most_job_edges}
use Rattle.answer_text.specs.Printed.{answer_text, refused_text, most_printed}
use Rattle.answer_text.proofs.Room.{Brief, Briefs, enough}
use Rattle.answer_text.proofs.Refusals.{refused_few}
use Rattle.judging.specs.Answer.{Given, Named, ByCause}
use Rattle.judge_text.specs.Replied.{lent_room}
use Rattle.judge_text.proofs.Lent.{permitted}

-- ---- cells that are edges of a job

brief_append : (xs ys : List ℕ) → Briefs xs → Briefs ys → Briefs (xs ++ ys)
brief_append [] ys p q i = q i
brief_append (x ∷ xs) ys p q zero = p 0
brief_append (x ∷ xs) ys p q (suc i) = brief_append xs ys (λ k. p (suc k)) q i

brief_zeros : (n : ℕ) → Briefs (replicate n 0)
brief_zeros zero i = inl (omega arith)
brief_zeros (suc n) zero = inl (omega arith)
brief_zeros (suc n) (suc i) = brief_zeros n i

brief_step : (t : Table) → t.edges ≤ most_job_edges → (e s z : ℕ) → Step t e s z → Brief e
brief_step t few e s z (inl edge) = inl (omega (arith, edge.listed))
brief_step t few e s z (inr waits) = inr waits.number

brief_walk : (t : Table) → t.edges ≤ most_job_edges → (s : ℕ) (es : List ℕ) (z : ℕ) → Walk t s es z → Briefs es
brief_walk t few s [] z w i = inl (omega arith)
brief_walk t few s (e ∷ es) z w zero = brief_step t few e s w.0 w.1.0
brief_walk t few s (e ∷ es) z w (suc i) = brief_walk t few w.0 es z w.1.1 i

-- ---- an answer's text

-- what `Room.enough` asks of an answer
record Slight (v : Verdict) (room : List ℕ) : Type 0 where
  number : number_of v < 2 ^ 32
  place : place_of v < 2 ^ 32
  pair : pair_of v < 2 ^ 32
  few : length room ≤ lent_room
  brief : Briefs room

slight_short : (v : Verdict) (depth : ℕ) (c : Acceptance) (room : List ℕ) → depth < 2 ^ 32 → Slight v room → length (answer_text v 0 depth c room) ≤ most_printed
slight_short v depth c room d s = enough v 0 depth c room s.number s.place (omega arith) s.pair d s.few s.brief

-- ---- a refusal

slight_refused : (number place : ℕ) (room : List ℕ) → number < 2 ^ 32 → place < 2 ^ 32 → length room ≤ lent_room → Briefs room → Slight (RefusedVerdict number place) room
slight_refused number place room n p few brief = record { number = n; place = p; pair = omega arith; few = few; brief = brief }

pub refused_fits : (number place column : ℕ) → number < 2 ^ 32 → place < 2 ^ 32 → column < 2 ^ 32 → length (refused_text number place column) ≤ most_printed
refused_fits number place column n p k = omega (arith, refused_few number place column n p k)

-- ---- an answer

named_few : (t : Table) (c : Acceptance) (needs cycle : List ℕ) (pair : ℕ) → wrong_condition c needs ≡ false → Named t c needs cycle pair → pair < 2 ^ 32
named_few t (Buchi k) needs cycle pair w e = omega (arith, e)
named_few t (Streett p) needs cycle pair w e = omega (arith, e)
named_few t (Rabin p) needs cycle pair w l = omega (arith, l.below, rabin_few p needs w)

module _ (t : Table) (c : Acceptance) (needs : List ℕ) (few : t.edges ≤ most_job_edges) {room scratch room' scratch' : List ℕ} (long : length room ≤ lent_room) where
  given_slight : (v : Verdict) → wrong_condition c needs ≡ false → Given t c needs room room' scratch scratch' v → Slight v room'
  given_slight (Run p q i) w G =
      let R = G.decided in
      let lasso = R.accepted.lasso in
      record {
        number = omega arith;
        place = omega arith;
        pair = named_few t c needs R.cycle i w R.named;
        few = omega (arith, G.room_length);
        brief = rw R.cells (brief_append R.prefix _ (brief_walk t few t.start R.prefix lasso.knot lasso.leads)
            (brief_append R.cycle _ (brief_walk t few lasso.knot R.cycle lasso.knot lasso.closes) (brief_zeros (length room' - (p + q)))));
      }
  given_slight Empty w G = record {
    number = omega arith;
    place = omega arith;
    pair = omega arith;
    few = omega (arith, G.room_length);
    brief = rw G.decided.1 (brief_zeros (length room'));
  }
  given_slight (RefusedVerdict number place) w G = absurd G.decided

-- what the judge answers on a table within a job's limits, lent so much room
module _ (n start : ℕ) (from to marks : List ℕ) (c : Acceptance) (needs : List ℕ) (few : length from ≤ most_job_edges) (room room' scratch scratch' : List ℕ)
    (is-room : room ≡ replicate lent_room 0) where
  long : length room ≤ lent_room
  long = omega (arith, ap length is-room, length-replicate {A = ℕ} lent_room 0)

  cause_slight : (f : Result Unit Refusal) (v : Verdict) → refusal (lent n start from to marks) c needs ≡ f
      → ByCause f (lent n start from to marks) c needs room room' scratch scratch' v → Slight v room'
  cause_slight (Ok done) v e G =
      given_slight (lent n start from to marks) c needs few long v (permitted n start from to marks c needs e) G
  cause_slight (Err cause) v e K =
      let row = refused_row (lent n start from to marks) c needs cause.number cause.place e in
      let place-few : cause.place < 2 ^ 32 = below cause.number 5 (λ l. omega (arith, row.whole (omega arith))) (λ l. omega (arith, row.edge l, few)) in
      rw (K.says, K.room_kept) (slight_refused cause.number cause.place room (omega (arith, row.most)) place-few long (rw is-room (brief_zeros lent_room)))

  pub answer_fits : (v : Verdict) (depth : ℕ) → depth < 2 ^ 32 → ByCause (refusal (lent n start from to marks) c needs) (lent n start from to marks) c needs room room' scratch scratch' v
      → length (answer_text v 0 depth c room') ≤ most_printed
  answer_fits v depth d B = slight_short v depth c room' d (cause_slight (refusal (lent n start from to marks) c needs) v refl B)
