-- Splits: where the job ends, line by line, and what is heard of the answer text
pub mod Splits
-- Positions: a position is no larger than the answer text
pub mod Positions
-- Replies: what was put is what is promised
pub mod Replies
-- Long: an answer text that is too long is told as 50
pub mod Long
-- Settled: one byte more than the longest job and answer settles every longer input
pub mod Settled
-- Unique: one result for one input
pub mod Unique
