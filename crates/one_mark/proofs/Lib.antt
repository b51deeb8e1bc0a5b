-- Accepted: the lifted table is a table of Büchi 1
pub mod Accepted
-- Answers: what each answer follows from, and what follows from it
pub mod Answers
-- Correspond: walks and lifted walks correspond one to one
pub mod Correspond
-- Faithful: the theorems on the translation; one result for one input
pub mod Faithful
-- Laps: climbs along a walk: how often the top is passed
pub mod Laps
-- Lassos: walks and lassos of the lent table and of the translated one
pub mod Lassos
-- Outcomes: what is left in the outputs
pub mod Outcomes
-- Pigeon: n + 1 numbers below n: two agree
pub mod Pigeon
-- Position: the source edge follows from the position
pub mod Position
-- Shifts: the fourteen shift cases
pub mod Shifts
-- Sources: the lent table and the table that is lifted
pub mod Sources
-- Turns: lassos and lifted lassos
pub mod Turns
-- Waiting: the edges of the table with a loop at each stop state
pub mod Waiting
