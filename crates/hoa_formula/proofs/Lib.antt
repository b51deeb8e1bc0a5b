-- Readings: the reader's loop
pub mod Readings
-- Admitted: every formula of std(c) is admitted with its meaning
pub mod Admitted
-- Rests: what is admitted, and what is left
pub mod Rests
-- Sound: what stands complete is a formula of std(c) with that meaning
pub mod Sound
-- Accepted: the run over a text's tokens, and the formulas of std(c)
pub mod Accepted
-- Conds: every standard formula is a condition of section 2
pub mod Conds
-- Examples: the rules' own examples, computed from the definitions
pub mod Examples
-- Unique: two answers for one text say the same
pub mod Unique
-- Forty: 40 never falls early
pub mod Forty
