-- Formed: what a formula that is over means is a permitted condition
pub mod Formed
-- Heads: what a header that is read says
pub mod Heads
-- Sorting: edges at their places in the tables
pub mod Sorting
-- Lawful: what is read is never refused by rows 1 to 7
pub mod Lawful
-- Returning: from what the readers of the header and of the rows give to the whole promise; two readings are equal
pub mod Returning
-- Places: a refusal's place lies within its text
pub mod Places
