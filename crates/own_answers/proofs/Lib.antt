-- Runs: what the printed text of a run says
pub mod Runs
-- Own: what the checker says of our own answers
pub mod Own
