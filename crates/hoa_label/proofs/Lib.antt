-- Sets: the set of valuations that a label's tokens add up to
pub mod Sets
-- Walks: laws of a walk over tokens
pub mod Walks
-- Complete: every label is read to its end, with its set
pub mod Complete
-- Sound: what is read to its end is a label
pub mod Sound
-- Faults: which token is faulty, and with which number
pub mod Faults
-- Meaning: what the set of a label means
pub mod Meaning
-- Runs: the run over a text's tokens, one token at a time
pub mod Runs
-- Promises: what the reader promises of a text
pub mod Promises
-- Unique: the contract allows one result
pub mod Unique
-- Examples: labels from bytes to sets
pub mod Examples
-- Carry: for a machine that follows these steps inside a label
pub mod Carry
-- Texts: labels inside a longer text
pub mod Texts
