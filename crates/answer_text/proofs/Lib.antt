-- Prints: the lines of an answer, one after another
pub mod Prints
-- Room: how long a printed answer is at most
pub mod Room
-- Refusals: the eight lines of a refusal, and a text that fits
pub mod Refusals
-- Unique: one result for one input
pub mod Unique
-- Examples: the rules' own printed answer
pub mod Examples
