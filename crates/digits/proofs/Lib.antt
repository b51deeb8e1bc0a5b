-- Digits: bytes of a range, and what digits are worth
pub mod Digits
-- Unique: one result for one byte
pub mod Unique
