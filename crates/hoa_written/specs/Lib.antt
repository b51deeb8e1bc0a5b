-- Written: the text that is written for a table and a condition
pub mod Written
-- Writing: what the writer gives for every input
pub mod Writing
-- Tokens: the tokens of the text that is written
pub mod Tokens
